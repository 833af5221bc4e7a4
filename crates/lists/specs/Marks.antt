-- Marks on the elements of a list: what views show of it has one.
use Rattle.std.specs.Prelude.{◌≡◌, List, [], ◌∷◌, cond}
use Rattle.lists.specs.Views.{View, ◌∈◌, shows, pass}

module _ {A : Type 0} (mark : A → A) where
  -- a mark on each element that some view shows, best first; the others stay as they are
  abbrev pub noted : List (View A) → List A → List A
  noted vs [] = []
  noted vs (x ∷ xs) = cond (shows vs x) (mark x) x ∷ noted (pass x vs) xs

  -- views to which a mark makes no difference
  abbrev pub Blind : List (View A) → Type 0
  Blind vs = (v : View A) → v ∈ vs → (x : A) → v.inside (mark x) ≡ v.inside x
