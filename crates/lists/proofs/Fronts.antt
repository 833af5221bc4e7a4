-- Front parts: `on_front` changes a front part and nothing behind it.
use mathlib.Core.Path.{◌≡◌}
use mathlib.Core.List.{List, [], ◌∷◌, ◌++◌}
use Prim.Native.Nat.{ℕ, zero, suc, ◌+◌, min}
use native.Mathlib.Nat.{zero-min, min-zero, suc-min-suc}
use lib.ListN.{length, drop}
use lib.Seq.{drop-append-add}
use Rattle.lists.specs.Nested.{on_front}

-- behind the seam of p and q
pub drop_past : {A : Type 0} (p q : List A) (a n : ℕ) → length p ≡ a → drop (a + n) (p ++ q) ≡ drop n q
drop_past p q a n e = rw (← e) (drop-append-add p q n)

-- only those that are there count
pub front_min : {A : Type 0} (g : A → A) (c : ℕ) (xs : List A) → on_front g (min c (length xs)) xs ≡ on_front g c xs
front_min g zero xs = rw zero-min
front_min g (suc c) [] = rw min-zero
front_min g (suc c) (x ∷ xs) = rw (suc-min-suc, front_min g c xs)
