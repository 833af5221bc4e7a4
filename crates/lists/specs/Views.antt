-- A list stands best first. A view shows the first `cap` elements that are inside it. What no view shows can go.
use Rattle.std.specs.Prelude.{◌≡◌, Bool, true, false, cond, ◌&&◌, ◌||◌, ℕ, suc, ◌+◌, ◌-◌, ◌≤◌, ◌<◌, ltb, take}
use Rattle.std.specs.List.{list_all}
use mathlib.Core.List.{List, [], ◌∷◌, Memᴰ, map}

pub record View (A : Type 0) : Type 0 where
  pub inside : A → Bool
  pub cap : ℕ

infix 40 ◌∈◌
abbrev pub ◌∈◌ : {A : Type 0} → A → List A → Type 0
◌∈◌ x xs = Memᴰ x xs

-- a view of what f makes of the elements
abbrev pub along : {A B : Type 0} → (A → B) → View B → View A
along f v = record { inside = λ x. v.inside (f x); cap = v.cap }

module _ {A : Type 0} where
  abbrev pub put : Bool → A → List A → List A
  put b x xs = cond b (x ∷ xs) xs

  -- those of a list that pass a test, and how many they are
  abbrev pub those : (A → Bool) → List A → List A
  those p [] = []
  those p (x ∷ xs) = put (p x) x (those p xs)

  abbrev pub count : (A → Bool) → List A → ℕ
  count p [] = 0
  count p (x ∷ xs) = cond (p x) (suc (count p xs)) (count p xs)

  abbrev pub all : (A → Bool) → List A → Bool
  all p xs = list_all p xs

  -- what a view shows
  abbrev pub first : View A → List A → List A
  first v xs = take v.cap (those v.inside xs)

  -- x is inside the view, and of those before it fewer than the view's cap are
  abbrev pub sees : View A → List A → A → Bool
  sees v before x = v.inside x && ltb (count v.inside before) v.cap

  -- some view sees x
  abbrev pub needed : List (View A) → List A → A → Bool
  needed [] before x = false
  needed (v ∷ vs) before x = sees v before x || needed vs before x

  -- of xs, behind `before`, what is needed
  abbrev pub keep : List (View A) → List A → List A → List A
  keep vs before [] = []
  keep vs before (x ∷ xs) = put (needed vs before x) x (keep vs (x ∷ before) xs)

  -- The same as a walk that counts down: each view that has x inside loses one of its cap.
  abbrev pub shows : List (View A) → A → Bool
  shows vs x = needed vs [] x

  abbrev pub spend : A → View A → View A
  spend x v = record { inside = v.inside; cap = cond (v.inside x) (v.cap - 1) v.cap }

  abbrev pub pass : A → List (View A) → List (View A)
  pass x vs = map (spend x) vs

  abbrev pub sift : List (View A) → List A → List A
  sift vs [] = []
  sift vs (x ∷ xs) = put (shows vs x) x (sift (pass x vs) xs)

  abbrev pub caps : List (View A) → ℕ
  caps [] = 0
  caps (v ∷ vs) = v.cap + caps vs

  -- On xs, w has inside what v has, and no smaller a cap.
  pub record Over (xs : List A) (w v : View A) : Type 0 where
    pub room : v.cap ≤ w.cap
    pub same : (x : A) → x ∈ xs → w.inside x ≡ v.inside x

  -- Whatever of xs a view of vs could show, it has a view of ws over it.
  abbrev pub Covers : List A → List (View A) → List (View A) → Type 0
  Covers xs ws vs = (v : View A) → v ∈ vs → (x : A) → x ∈ xs → v.inside x ≡ true → 0 < v.cap → (w : View A) × (w ∈ ws) × Over xs w v
