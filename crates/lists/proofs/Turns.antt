-- A walk over the first n of a list, turn by turn: what is left at i is the element at i and what is left at i + 1; at the end nothing is.
use mathlib.Core.Path.{◌≡◌, ap, ◌∙◌}
use mathlib.Core.List.{List, [], ◌∷◌}
use Prim.Native.Nat.{ℕ, zero, suc, ◌+◌, ◌≤◌, ◌<◌, min}
use native.Mathlib.Omega.{arith}
use native.Mathlib.Numerals.{add-one}
use native.Mathlib.Nat.{zero-min, suc-min-suc}
use lib.ListN.{length, take, drop, get_or, drop_of_length-le}
use lib.Seq.{drop-cons, get_or-take, length-take-le, take-nil}

module _ {A : Type 0} (xs : List A) (n : ℕ) (d : A) (within : n ≤ length xs) where
  pub turn : (i : ℕ) → i < n → drop i (take n xs) ≡ get_or xs i d ∷ drop (i + 1) (take n xs)
  turn i h =
      drop-cons (take n xs) i d (omega (arith, length-take-le n xs within))
      ∙ rw (get_or-take n xs i d h, add-one i)

  pub turned : (i : ℕ) → n ≤ i → drop i (take n xs) ≡ []
  turned i h = drop_of_length-le (take n xs) {i = i} (omega (arith, length-take-le n xs within))

-- More than there are is all of them.
pub take_least : {A : Type 0} (n : ℕ) (xs : List A) → take (min n (length xs)) xs ≡ take n xs
take_least zero xs = rw zero-min
take_least (suc n) [] = take-nil (min (suc n) 0)
take_least (suc n) (x ∷ xs) = rw (suc-min-suc n (length xs)) (ap (λ l. x ∷ l) (take_least n xs))
