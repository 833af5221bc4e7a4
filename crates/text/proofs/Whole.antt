-- A whole text taken as one piece, with its end, is its lines one after the other: by induction on the bytes, over the line that was begun before them.
use mathlib.Core.Path.{◌≡◌, refl, ap, ◌∙◌}
use mathlib.Core.List.{List, [], ◌∷◌, ◌++◌}
use mathlib.Core.Bool.{true, ◌&&◌, or-true}
use Prim.Native.Nat.{ℕ, ◌+◌}
use native.Mathlib.Omega.{arith}
use borrow.Author.Tests.{lt-ltb}
use lib.Dec.{eqb, ltb}
use Rattle.lists.proofs.Bools.{by}
use Rattle.rules.specs.Calls.{Reply}
use Rattle.rules.specs.Calls.Reply.{refused, accepted}
use Rattle.text.specs.Decimals.{some, is_digit}
use Rattle.text.specs.Lines.{TextOutcome, split, on_reply, so_far, write_read, line_call, lines_call, text_call}
use Rattle.text.specs.Machine.{PieceOutcome, fresh, next, line_end, begun, end_call, piece_call, leaving, taken}
use Rattle.std.specs.Prelude.{Result, Ok, Err}
use Rattle.std.specs.Result.{result_and}
use Rattle.rules.specs.Replies.{replied}
use Rattle.rules.specs.declared.Refusal.{Refusal}
use Rattle.text.specs.declared.Begun.{Begun}
use Rattle.text.specs.declared.Taken.{Taken}
use Rattle.text.proofs.Splitting.{pieces}
use Rattle.text.proofs.Reading.{fed, says_line}

-- A byte begins a line, and a line that was begun stays so.
begins : (s : Begun) (byte : ℕ) → begun (next s byte) ≡ true
unfolding begun next
begins s byte =
    by (is_digit byte)
    (λ e. rw e (or-true s.broken))
    (λ e.
    by (eqb byte 32)
    (λ f. rw (e, f) (by (s.digits && ltb s.count 6) (λ g. rw (g, lt-ltb 0 (s.count + 1) (omega arith)) (or-true s.broken)) (λ g. rw g)))
    (λ f. rw (e, f)))

stays : (text : List ℕ) (s : Begun) → begun s ≡ true → begun (fed s text) ≡ true
stays [] s e = e
stays (byte ∷ bytes) s e = stays bytes (next s byte) (begins s byte)

ended : (text : List ℕ) → begun (fed fresh text) ≡ some text
unfolding begun
ended [] = refl
ended (byte ∷ bytes) = stays bytes (next fresh byte) (begins fresh byte)

-- what comes of a piece when nothing follows it
abbrev pub closed : PieceOutcome → TextOutcome
closed o = on_reply o.text.reply (λ n. o.text) (λ _. so_far o.text.messages o.text.place o.text.slice (end_call o.line))

-- lines of which the first goes on with a line that was begun
lines_from : Begun → List (List ℕ) → ℕ → List ℕ → ℕ → TextOutcome
lines_from s [] messages slice at = so_far messages at slice (accepted tt)
lines_from s (line ∷ []) messages slice at = so_far messages at slice (end_call (fed s line))
lines_from s (line ∷ next ∷ rest) messages slice at =
    on_reply (line_end (fed s line) slice at).reply
    (λ n. so_far messages at (line_end (fed s line) slice at).slice (refused n))
    (λ _. lines_from fresh (next ∷ rest) (messages + 1) (line_end (fed s line) slice at).slice (at + 20))

from_onto : (s : Begun) (byte : ℕ) (line : List ℕ) (rest : List (List ℕ)) (messages : ℕ) (slice : List ℕ) (at : ℕ)
    → lines_from (next s byte) (line ∷ rest) messages slice at ≡ lines_from s ((byte ∷ line) ∷ rest) messages slice at
unfolding lines_from
from_onto s byte line [] messages slice at = refl
from_onto s byte line (next ∷ rest) messages slice at = refl

-- what a function makes of a choice by a reply is the choice of what it makes
through : {B C : Type 0} (f : B → C) (r : Reply Unit) (a : ℕ → B) (b : B) → f (on_reply r a (λ _. b)) ≡ on_reply r (λ n. f (a n)) (λ _. f b)
through f (refused n) a b = refl
through f (accepted _) a b = refl

taken_whole : (text : List ℕ) (s : Begun) (messages : ℕ) (slice : List ℕ) (at : ℕ) → closed (piece_call s text messages slice at) ≡ lines_from s (split 10 text) messages slice at
unfolding piece_call split lines_from
taken_whole [] s messages slice at = refl
taken_whole (byte ∷ bytes) s messages slice at =
    let p = pieces 10 bytes in
    by (eqb byte 10)
    (λ e.
    rw (e, p.same)
    (through closed (line_end s slice at).reply (λ n. leaving s (so_far messages at (line_end s slice at).slice (refused n))) (piece_call fresh bytes (messages + 1) (line_end s slice at).slice (at + 20))
    ∙ ap (λ (o : TextOutcome). on_reply (line_end s slice at).reply (λ n. so_far messages at (line_end s slice at).slice (refused n)) (λ _. o))
    (taken_whole bytes fresh (messages + 1) (line_end s slice at).slice (at + 20) ∙ ap (λ l. lines_from fresh l (messages + 1) (line_end s slice at).slice (at + 20)) p.same)))
    (λ e.
    rw (e, p.same)
    (taken_whole bytes (next s byte) messages slice at
    ∙ ap (λ l. lines_from (next s byte) l messages slice at) p.same
    ∙ from_onto s byte p.first p.rest messages slice at))

-- From the beginning of a line each line is its own.
line_same : (line slice : List ℕ) (at : ℕ) → line_end (fed fresh line) slice at ≡ line_call line slice at
unfolding line_end
line_same line slice at = ap (λ r. write_read r slice at) (says_line line)

from_fresh : (lines : List (List ℕ)) (messages : ℕ) (slice : List ℕ) (at : ℕ) → lines_from fresh lines messages slice at ≡ lines_call lines messages slice at
unfolding lines_from lines_call end_call
from_fresh [] messages slice at = refl
from_fresh (line ∷ []) messages slice at = rw (ended line)
from_fresh (line ∷ next ∷ rest) messages slice at =
    rw (line_same line slice at)
    (ap (λ (o : TextOutcome). on_reply (line_call line slice at).reply (λ n. so_far messages at (line_call line slice at).slice (refused n)) (λ _. o))
    (from_fresh (next ∷ rest) (messages + 1) (line_call line slice at).slice (at + 20)))

-- The function over a whole slice.
pub whole_text : (text slice : List ℕ) (at : ℕ) → closed (piece_call fresh text 0 slice at) ≡ text_call text slice at
whole_text text slice at = taken_whole text fresh 0 slice at ∙ from_fresh (split 10 text) 0 slice at

closes : (s : Begun) (messages place : ℕ) (after : List ℕ) (a b : Result Unit Refusal) → replied b ≡ end_call s
    → so_far messages place after (replied (result_and a b)) ≡ closed (leaving s (so_far messages place after (replied a)))
closes s messages place after (Ok _) b e = ap (so_far messages place after) e
closes s messages place after (Err r) b e = refl

-- What came of the whole text as a piece, and then of its end.
pub to_the_end : (r : Taken) (s : Begun) (after text slice : List ℕ) (at : ℕ) (a b : Result Unit Refusal) → taken r after ≡ piece_call s text 0 slice at → s ≡ fresh → replied a ≡ end_call r.line
    → b ≡ result_and r.written.answer a → so_far r.written.messages r.written.place after (replied b) ≡ text_call text slice at
to_the_end r s after text slice at a b promised begins e f =
    rw f
    (closes r.line r.written.messages r.written.place after r.written.answer a e
    ∙ ap closed (promised ∙ ap (λ x. piece_call x text 0 slice at) begins)
    ∙ whole_text text slice at)

-- Pieces of any size: one piece behind another is the two joined.
pub further : PieceOutcome → List ℕ → PieceOutcome
further o piece = on_reply o.text.reply (λ n. o) (λ _. piece_call o.line piece o.text.messages o.text.slice o.text.place)

pub piece_by_piece : (one two : List ℕ) (s : Begun) (messages : ℕ) (slice : List ℕ) (at : ℕ)
    → further (piece_call s one messages slice at) two ≡ piece_call s (one ++ two) messages slice at
unfolding piece_call further
piece_by_piece [] two s messages slice at = refl
piece_by_piece (byte ∷ bytes) two s messages slice at =
    by (eqb byte 10)
    (λ e.
    rw e
    (through (λ o. further o two) (line_end s slice at).reply (λ n. leaving s (so_far messages at (line_end s slice at).slice (refused n))) (piece_call fresh bytes (messages + 1) (line_end s slice at).slice (at + 20))
    ∙ ap (λ (o : PieceOutcome). on_reply (line_end s slice at).reply (λ n. leaving s (so_far messages at (line_end s slice at).slice (refused n))) (λ _. o))
    (piece_by_piece bytes two fresh (messages + 1) (line_end s slice at).slice (at + 20))))
    (λ e. rw e (piece_by_piece bytes two (next s byte) messages slice at))
