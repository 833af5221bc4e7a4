-- A piece, byte by byte: what is left of it makes of the line what the whole makes of the line before it.
use mathlib.Core.Path.{◌≡◌, refl, sym, ap, ◌∙◌}
use mathlib.Core.List.{List, ◌∷◌}
use mathlib.Core.Logic.{⊎_elim}
use Prim.Native.Nat.{ℕ, ◌+◌, ◌≤◌, ◌<◌}
use native.Mathlib.Omega.{arith}
use native.Mathlib.Numerals.{add-one}
use borrow.Author.Tests.{eq-eqb, ne_eqb}
use lib.ListN.{length, get_or, drop, drop_of_length-le}
use lib.Seq.{drop-cons}
use Rattle.message.specs.Outcomes.{wrote}
use Rattle.rules.specs.Calls.{Reply, WriterOutcome}
use Rattle.rules.specs.Calls.Reply.{refused, accepted}
use Rattle.std.specs.Prelude.{Result, Ok, Err}
use Rattle.std.specs.Result.{is_err}
use Rattle.rules.specs.Replies.{replied}
use Rattle.lists.proofs.Bools.{clash}
use mathlib.Core.Bool.{true, false}
use Rattle.rules.specs.declared.Refusal.{Refusal}
use Rattle.text.specs.Lines.{so_far}
use Rattle.text.specs.Machine.{fresh, next, line_end, piece_call, leaving}
use Rattle.text.specs.declared.Begun.{Begun}
use Rattle.text.proofs.Room.{line_or_not}

-- What is written has room.
pub room : (s : Begun) (slice after : List ℕ) (at : ℕ) (a : Result Unit Refusal) → is_err a ≡ false → wrote a after ≡ line_end s slice at → at + 20 ≤ length slice
room s slice after at (Err r) e w = clash refl e
room s slice after at (Ok _) e w =
    ⊎_elim
    (λ k.
    let e : ◌≡◌ {A = Reply Unit} (accepted tt) (refused k.no) = ap (λ (o : WriterOutcome). o.reply) (w ∙ k.stands) in
    let z : ◌≡◌ {A = ℕ} 0 1 = cc in
    absurd (omega arith))
    (λ k. k.room)
    (line_or_not s slice at)

module _ (s : Begun) (piece : List ℕ) (i messages : ℕ) (slice : List ℕ) (at : ℕ) (inside : i < length piece) where
  here : drop i piece ≡ get_or piece i 0 ∷ drop (i + 1) piece
  here = drop-cons piece i 0 inside ∙ rw (add-one i)

  pub goes_on : (get_or piece i 0 ≡ 10 → ⊥) → piece_call s (drop i piece) messages slice at ≡ piece_call (next s (get_or piece i 0)) (drop (i + 1) piece) messages slice at
  unfolding piece_call
  goes_on h = ap (λ l. piece_call s l messages slice at) here ∙ rw (ne_eqb _ _ h)

  pub line_refused : (after : List ℕ) (a : Result Unit Refusal) → get_or piece i 0 ≡ 10 → is_err a ≡ true → wrote a after ≡ line_end s slice at
      → leaving s (so_far messages at after (replied a)) ≡ piece_call s (drop i piece) messages slice at
  unfolding piece_call
  line_refused after (Ok _) e f w = clash f refl
  line_refused after (Err r) e f w = sym (ap (λ l. piece_call s l messages slice at) here ∙ rw (eq-eqb _ _ e, ← w))

  pub line_written : (after : List ℕ) → get_or piece i 0 ≡ 10 → wrote (Ok tt) after ≡ line_end s slice at
      → piece_call s (drop i piece) messages slice at ≡ piece_call fresh (drop (i + 1) piece) (messages + 1) after (at + 20)
  unfolding piece_call
  line_written after e w = ap (λ l. piece_call s l messages slice at) here ∙ rw (eq-eqb _ _ e, ← w)

pub nothing_left : (s : Begun) (piece : List ℕ) (i messages : ℕ) (slice : List ℕ) (at : ℕ) → length piece ≤ i
    → piece_call s (drop i piece) messages slice at ≡ leaving s (so_far messages at slice (accepted tt))
unfolding piece_call
nothing_left s piece i messages slice at h = rw (drop_of_length-le piece {i = i} h)
