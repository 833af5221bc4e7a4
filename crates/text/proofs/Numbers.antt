-- The numbers of a board: the list is six long, so the six that the code has read are the list.
-- And of any line: a number that is none of four is no kind, and of six numbers no more than six are taken.
use mathlib.Core.Path.{◌≡◌, refl, sym, ap, ◌∙◌}
use mathlib.Core.List.{List, [], ◌∷◌}
use mathlib.Core.Bool.{true, false, and-eq-true_iff}
use Prim.Native.Nat.{ℕ, ◌≤◌, min}
use native.Mathlib.Omega.{arith}
use borrow.Author.Tests.{leb-true}
use lib.Dec.{leb}
use lib.ListN.{length, get_or, take}
use Rattle.std.proofs.lemmas.Slice.Eq.{text_from_reads}
use Rattle.lists.proofs.Turns.{take_least}
use Rattle.lists.proofs.Bools.{untrue}
use Rattle.rules.specs.Desk.{within}
use Rattle.rules.specs.Messages.{layout}
use Rattle.text.specs.Lines.{formed, field_parts, of_numbers, read_numbers}
use Rattle.text.specs.Machine.{in_words}

pub board_read : (ns : List ℕ) → length ns ≡ 6 → get_or ns 0 0 ≡ 1 → get_or ns 1 0 ≡ 1
    → read_numbers true ns ≡ in_words (record { kind = 1; byte = get_or ns 2 0; first = get_or ns 3 0; second = get_or ns 4 0; third = get_or ns 5 0 })
unfolding read_numbers formed of_numbers field_parts layout
board_read ns six one kind =
    ap (read_numbers true)
    (text_from_reads ns (1 ∷ 1 ∷ get_or ns 2 0 ∷ get_or ns 3 0 ∷ get_or ns 4 0 ∷ get_or ns 5 0 ∷ []) six (one, (kind, (refl, (refl, (refl, (refl, tt)))))))

pub unknown : (k : ℕ) → (k ≡ 1 → ⊥) → (k ≡ 2 → ⊥) → (k ≡ 3 → ⊥) → (k ≡ 4 → ⊥) → within 1 4 k ≡ false
unknown k no-board no-request no-open no-clock =
    untrue _ λ e.
    let known = (and-eq-true_iff (leb 1 k) (leb k 4)).0 e in
    omega (arith, leb-true 1 k known.0, leb-true k 4 known.1)

-- more than six of six are six
module _ (count n : ℕ) (ns : List ℕ) (six : length ns ≡ 6) (least : n ≡ min count 6) where
  pub few : n ≤ 6
  few = omega arith

  pub few_of : n ≤ length ns
  few_of = omega arith

  pub same_taken : take count ns ≡ take n ns
  same_taken =
      let e : min count (length ns) ≡ n = rw six (sym least) in
      sym (take_least count ns) ∙ ap (λ k. take k ns) e
