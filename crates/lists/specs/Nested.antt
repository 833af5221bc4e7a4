-- Nested views, numbered from 0, each inside the one before it: x is inside those below `reach x`. Their caps are a list of numbers.
use Rattle.std.specs.Prelude.{List, [], ◌∷◌, ◌++◌, Bool, false, cond, ℕ, zero, suc, ◌≤◌, ltb, get_or, take, drop}
use Rattle.lists.specs.Views.{View}

module _ {A : Type 0} (reach : A → ℕ) where
  abbrev pub view : ℕ → ℕ → View A
  view i q = record { inside = λ x. ltb i (reach x); cap = q }

  -- the views from number i on
  abbrev pub nested : ℕ → List ℕ → List (View A)
  nested i [] = []
  nested i (q ∷ qs) = view i q ∷ nested (suc i) qs

-- the last of the first n has something left
abbrev pub left : ℕ → List ℕ → Bool
left zero qs = false
left (suc n) qs = ltb 0 (get_or qs n 0)

-- how many at the front have nothing left
abbrev pub empties : List ℕ → ℕ
empties [] = 0
empties (q ∷ qs) = cond (ltb 0 q) 0 (suc (empties qs))

-- g at the first n
abbrev pub on_front : {A : Type 0} → (A → A) → ℕ → List A → List A
on_front g zero xs = xs
on_front g (suc n) [] = []
on_front g (suc n) (x ∷ xs) = g x ∷ on_front g n xs

-- f of what stands from a place on
abbrev pub from : {A : Type 0} → ℕ → (List A → List A) → List A → List A
from at f l = take at l ++ f (drop at l)

-- none is below the one before it, nor the first below n
abbrev pub Rise : ℕ → List ℕ → Type 0
Rise n [] = Unit {0}
Rise n (q ∷ qs) = (n ≤ q) × Rise q qs
