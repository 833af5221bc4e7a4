-- A list in the order of a test: `above y x` says that x stands below y. The test is a parameter, so every rule of ties is an instance.
use Rattle.std.specs.Prelude.{◌≡◌, List, [], ◌∷◌, Bool, true, false, cond, ◌⊎◌, ℕ, ◌<◌, min, length}
use Rattle.lists.specs.Views.{View, ◌∈◌, those, count}

module _ {A : Type 0} (above : A → A → Bool) where
  -- x stands before the first that is not above it
  abbrev pub place : A → List A → List A
  place x [] = x ∷ []
  place x (y ∷ ys) = cond (above y x) (y ∷ place x ys) (x ∷ y ∷ ys)

  -- the elements of a list placed one by one, the last of it first
  abbrev pub ranked : List A → List A
  ranked [] = []
  ranked (x ∷ xs) = place x (ranked xs)

  -- y is above whatever z is above
  abbrev pub Rank : A → A → Type 0
  Rank y z = (x : A) → above z x ≡ true → above y x ≡ true

  abbrev pub Ranked : List A → Type 0
  Ranked [] = Unit {0}
  Ranked (y ∷ ys) = ((z : A) → z ∈ ys → Rank y z) × Ranked ys

  -- An order in which no two tie: none is above itself, and above goes on.
  pub record Strict : Type 0 where
    pub never : (x : A) → above x x ≡ false
    pub onward : (x y z : A) → above x y ≡ true → above y z ≡ true → above x z ≡ true

  -- each is above all that stand after it
  abbrev pub Falling : List A → Type 0
  Falling [] = Unit {0}
  Falling (y ∷ ys) = ((z : A) → z ∈ ys → above y z ≡ true) × Falling ys

  -- in some view x lies inside, and fewer than its cap of those above x do
  abbrev pub Needed : List (View A) → List A → A → Type 0
  Needed vs xs x = (v : View A) × (v ∈ vs) × (v.inside x ≡ true) × (count (λ y. above y x) (those v.inside xs) < v.cap)

  -- The best k of xs: a part of it, in order, as many as there may be, with nothing better left out.
  pub record Best (k : ℕ) (xs best : List A) : Type 0 where
    pub part : (x : A) → x ∈ best → x ∈ xs
    pub ordered : Falling best
    pub size : length best ≡ min k (length xs)
    pub rest : (x y : A) → x ∈ best → y ∈ xs → (y ∈ best) ⊎ (above x y ≡ true)
