-- Room: a byte ends at most one line, and a line gives at most twenty bytes. So with twenty bytes for each byte of a piece, 14 is never given, and what was
-- written ends within the slice.
use mathlib.Core.Path.{◌≡◌, refl, ap, ◌∙◌}
use mathlib.Core.List.{List, [], ◌∷◌}
use mathlib.Core.Bool.{Bool, not, ◌&&◌}
use mathlib.Core.Logic.{◌⊎◌, inl, inr, ⊎_elim}
use Prim.Native.Nat.{ℕ, ◌+◌, ◌*◌, ◌≤◌, ◌<◌}
use native.Mathlib.Omega.{arith}
use borrow.Author.Tests.{ltb-true, ltb-false}
use lib.Dec.{eqb}
use lib.ListN.{length, take}
use Rattle.lists.specs.Views.{all}
use Rattle.lists.proofs.Bools.{by}
use Rattle.message.proofs.Standing.{encoded_length}
use Rattle.message.proofs.Placing.{placed_length}
use Rattle.rules.specs.Messages.{encoded}
use Rattle.rules.specs.Refusals.{Refuses, writer_rules}
use Rattle.rules.specs.Calls.{Reply, WriterOutcome, writer_call, placed_at}
use Rattle.rules.specs.Calls.Reply.{refused, accepted}
use Rattle.rules.specs.declared.Message.{Message}
use Rattle.rules.proofs.Refusing.{judged_cases, refused_exactly}
use Rattle.text.specs.Lines.{formed, has_32_bits, read_numbers, write_read}
use Rattle.text.specs.Machine.{PieceOutcome, fresh, next, ends, says, line_end, piece_call}
use Rattle.text.specs.declared.Begun.{Begun}

-- A line is refused and nothing is touched, with 14 only where there is no room; or there was room, and the slice keeps its length.
pub record Refused (o : WriterOutcome) (slice : List ℕ) (at : ℕ) : Type 0 where
  pub no : ℕ
  pub stands : o ≡ record { reply = refused no; slice = slice }
  pub short : no ≡ 14 → length slice < at + 20

pub record Accepted (o : WriterOutcome) (slice : List ℕ) (at : ℕ) : Type 0 where
  pub room : at + 20 ≤ length slice
  pub done : o.reply ≡ accepted tt
  pub kept : length o.slice ≡ length slice

no_room : (m : Message) (room at : ℕ) → Refuses (writer_rules 1 m room at) 14 → room < at + 20
no_room m room at (inl h) = absurd (omega (arith, h.1))
no_room m room at (inr (_, inl h)) = absurd (omega (arith, h.1))
no_room m room at (inr (_, inr (_, inl h))) = absurd (omega (arith, h.1))
no_room m room at (inr (_, inr (_, inr (_, inl h)))) = ltb-true room (at + 20) h.0
no_room m room at (inr (_, inr (_, inr (_, inr h)))) = absurd h.1

not_read : (decimal : Bool) (ns : List ℕ) → read_numbers decimal ns ≡ refused 14 → ⊥
unfolding read_numbers
not_read decimal ns e =
    by (not (decimal && formed ns))
    (λ f. let z : ◌≡◌ {A = ℕ} 15 14 = cc in omega arith)
    (λ f. by (not (all has_32_bits ns)) (λ g. let z : ◌≡◌ {A = ℕ} 6 14 = cc in omega arith) (λ g. let z : ◌≡◌ {A = ℕ} 0 1 = cc in omega arith))

written_or_not : (r : Reply Message) → (r ≡ refused 14 → ⊥) → (slice : List ℕ) (at : ℕ) → Refused (write_read r slice at) slice at ⊎ Accepted (write_read r slice at) slice at
unfolding writer_call
written_or_not (refused n) h slice at = inl (record { no = n; stands = refl; short = λ e. absurd (h (ap refused e)) })
written_or_not (accepted m) h slice at =
    let refuses : ℕ → WriterOutcome = λ n. record { reply = refused n; slice = slice } in
    let writes : WriterOutcome = record { reply = accepted tt; slice = placed_at at (encoded 1 m) slice } in
    ⊎_elim
    (λ k.
    let first = (refused_exactly tt k.no (writer_rules 1 m (length slice) at)).0 (k.same (Reply Unit) refused (accepted tt)) in
    inl (record { no = k.no; stands = k.same WriterOutcome refuses writes; short = λ e. no_room m (length slice) at (rw e at first) }))
    (λ k.
    let room = ltb-false (length slice) (at + 20) k.none.1.1.1.0 in
    let done = k.same WriterOutcome refuses writes in
    inr (record {
      room = room;
      done = ap (λ (o : WriterOutcome). o.reply) done;
      kept = ap (λ (o : WriterOutcome). length o.slice) done ∙ placed_length at (encoded 1 m) slice (omega (arith, encoded_length 1 m));
    }))
    (judged_cases (writer_rules 1 m (length slice) at))

pub line_or_not : (s : Begun) (slice : List ℕ) (at : ℕ) → Refused (line_end s slice at) slice at ⊎ Accepted (line_end s slice at) slice at
unfolding line_end
line_or_not s slice at = written_or_not (says (ends s)) (not_read (not (ends s).broken) (take (ends s).count (ends s).numbers)) slice at

-- So of a whole piece.
pub record Roomy (slice : List ℕ) (o : PieceOutcome) : Type 0 where
  pub inside : o.text.place ≤ length slice
  pub never : o.text.reply ≡ refused 14 → ⊥

pub roomy : (piece : List ℕ) (s : Begun) (messages : ℕ) (slice : List ℕ) (at : ℕ) → at + 20 * length piece ≤ length slice → Roomy slice (piece_call s piece messages slice at)
unfolding piece_call
roomy [] s messages slice at h = record { inside = omega arith; never = λ e. let z : ◌≡◌ {A = ℕ} 0 1 = cc in omega arith }
roomy (byte ∷ bytes) s messages slice at h =
    by (eqb byte 10)
    (λ e.
    ⊎_elim
    (λ k. rw (e, k.stands) (record { inside = omega arith; never = λ f. let n : k.no ≡ 14 = cc in omega (arith, k.short n) }))
    (λ k.
    let further = roomy bytes fresh (messages + 1) (line_end s slice at).slice (at + 20) (omega (arith, k.kept)) in
    rw (e, k.done) (record { inside = omega (arith, further.inside, k.kept); never = further.never }))
    (line_or_not s slice at))
    (λ e. rw e (roomy bytes (next s byte) messages slice at (omega arith)))
