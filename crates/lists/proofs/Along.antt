-- Sifting looks at what f makes of the elements alone: it may be done before f or after.
use mathlib.Core.Path.{◌≡◌, refl, ap, ◌∙◌}
use mathlib.Core.List.{List, [], ◌∷◌, map}
use mathlib.Core.Bool.{Bool, true, false, ◌||◌}
use Prim.Native.Nat.{ℕ, zero, suc}
use lib.ListN.{take}
use Rattle.lists.specs.Views.{View, along, put, those, first, sees, shows, spend, pass, sift}

module _ {A B : Type 0} (f : A → B) where
  map_put : (b : Bool) (x : A) (xs : List A) → map f (put b x xs) ≡ put b (f x) (map f xs)
  map_put true x xs = refl
  map_put false x xs = refl

  pub map_those : (p : B → Bool) (xs : List A) → map f (those (λ x. p (f x)) xs) ≡ those p (map f xs)
  map_those p [] = refl
  map_those p (x ∷ xs) = map_put (p (f x)) x (those (λ y. p (f y)) xs) ∙ ap (put (p (f x)) (f x)) (map_those p xs)

  pub pass_along : (x : A) (vs : List (View B)) → pass x (map (along f) vs) ≡ map (along f) (pass (f x) vs)
  pass_along x [] = refl
  pass_along x (v ∷ vs) = ap (λ us. along f (spend (f x) v) ∷ us) (pass_along x vs)

  pub shows_along : (x : A) (vs : List (View B)) → shows (map (along f) vs) x ≡ shows vs (f x)
  shows_along x [] = refl
  shows_along x (v ∷ vs) = ap (λ b. sees v [] (f x) || b) (shows_along x vs)

  pub map_sift : (vs : List (View B)) (xs : List A) → map f (sift (map (along f) vs) xs) ≡ sift vs (map f xs)
  map_sift vs [] = refl
  map_sift vs (x ∷ xs) =
      rw (shows_along x vs, pass_along x vs) (
      map_put (shows vs (f x)) x (sift (map (along f) (pass (f x) vs)) xs)
      ∙ ap (put (shows vs (f x)) (f x)) (map_sift (pass (f x) vs) xs)
      )

  pub map_take : (n : ℕ) (xs : List A) → map f (take n xs) ≡ take n (map f xs)
  map_take zero xs = refl
  map_take (suc n) [] = refl
  map_take (suc n) (x ∷ xs) = ap (λ l. f x ∷ l) (map_take n xs)

  pub map_first : (v : View B) (xs : List A) → map f (first (along f v) xs) ≡ first v (map f xs)
  map_first v xs = map_take v.cap (those (λ x. v.inside (f x)) xs) ∙ ap (take v.cap) (map_those v.inside xs)
