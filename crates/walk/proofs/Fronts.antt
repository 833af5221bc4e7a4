-- The front parts of what a board's views have left.
use mathlib.Core.Path.{◌≡◌, refl, ap}
use mathlib.Core.List.{List, [], ◌∷◌, ◌++◌}
use Prim.Native.Nat.{ℕ, zero, suc, ◌+◌, ◌≤◌, ◌<◌}
use native.Mathlib.Omega.{arith}
use native.Mathlib.Numerals.{add-one}
use borrow.Author.Tests.{ltb-true}
use lib.Dec.{ltb, eqb}
use lib.ListN.{length, take, drop, get_or, set}
use Rattle.std.specs.List.{prefix_len}
use Rattle.std.proofs.lemmas.Bool.Decides.{nat_tests}
use Rattle.lists.specs.Nested.{empties, on_front, Rise}
use Rattle.lists.proofs.Bools.{by}

-- the empty ones at the front, as std counts them
pub empties_prefix : (qs : List ℕ) → prefix_len (λ q. eqb q 0) qs ≡ empties qs
empties_prefix [] = refl
empties_prefix (q ∷ qs) = let e = empties_prefix qs in grind (arith, nat_tests)

-- g at the first places, one by one
module _ (g : ℕ → ℕ) where
  pub front_at : (i : ℕ) (qs : List ℕ) → get_or (on_front g i qs) i 0 ≡ get_or qs i 0
  front_at zero qs = refl
  front_at (suc i) [] = refl
  front_at (suc i) (q ∷ qs) = front_at i qs

  pub front_more : (i : ℕ) (qs : List ℕ) → i < length qs → set (on_front g i qs) i (g (get_or qs i 0)) ≡ on_front g (i + 1) qs
  front_more i [] h = absurd (omega arith)
  front_more zero (q ∷ qs) h = refl
  front_more (suc i) (q ∷ qs) h = rw add-one (ap (λ (l : List ℕ). g q ∷ l) (rw add-one at (front_more i qs (omega arith))))

  -- a part at the front alone
  pub front_part : (n : ℕ) (qs : List ℕ) → on_front g n (take n qs) ++ drop n qs ≡ on_front g n qs
  front_part zero qs = refl
  front_part (suc n) [] = refl
  front_part (suc n) (q ∷ qs) = ap (λ (l : List ℕ). g q ∷ l) (front_part n qs)

-- Behind the empty ones of a rising list none is empty.
pub rise_past : (qs : List ℕ) → Rise 0 qs → Rise 1 (drop (empties qs) qs)
rise_past [] h = tt
rise_past (q ∷ qs) h =
    by (ltb 0 q)
    (λ e. rw e (omega (arith, ltb-true 0 q e), h.1))
    (λ e. rw e (rise_past qs (rise_less q qs h.1)))
  where
    rise_less : (n : ℕ) (qs : List ℕ) → Rise n qs → Rise 0 qs
    rise_less n [] h = tt
    rise_less n (q ∷ qs) h = (omega arith, h.1)

pub rise_least : (n : ℕ) (qs : List ℕ) (i : ℕ) → Rise n qs → i < length qs → n ≤ get_or qs i 0
rise_least n [] i h k = absurd (omega arith)
rise_least n (q ∷ qs) zero h k = h.0
rise_least n (q ∷ qs) (suc i) h k = omega (arith, rise_least q qs i h.1 (omega arith), h.0)

pub rise_front : (n k : ℕ) (qs : List ℕ) → Rise n qs → Rise n (take k qs)
rise_front n zero qs h = tt
rise_front n (suc k) [] h = tt
rise_front n (suc k) (q ∷ qs) h = (h.0, rise_front q k qs h.1)
