-- A loop's answer is that of what it has passed and of what is left; each law takes one step, or the end, off what is left.
use mathlib.Core.Path.{◌≡◌}
use mathlib.Core.List.{List, ◌∷◌}
use mathlib.Core.Bool.{true, ◌&&◌}
use Prim.Native.Nat.{ℕ, suc, ◌+◌, ◌-◌, ◌≤◌, ◌<◌}
use native.Mathlib.Omega.{arith}
use native.Mathlib.Numerals.{add-one}
use lib.Dec.{eqb}
use lib.ListN.{length, get_or, drop, drop_of_length-le}
use lib.Seq.{drop-cons}
use Rattle.rules.specs.Messages.{same_bytes, places}

pub same_step : (xs ys : List ℕ) (i : ℕ) → i < length xs → i < length ys
    → same_bytes (drop i xs) (drop i ys) ≡ (eqb (get_or xs i 0) (get_or ys i 0) && same_bytes (drop (i + 1) xs) (drop (i + 1) ys))
same_step xs ys i h k = rw (add-one, drop-cons xs i 0, drop-cons ys i 0)

pub same_end : (xs ys : List ℕ) (i : ℕ) → length xs ≤ i → length ys ≤ i → same_bytes (drop i xs) (drop i ys) ≡ true
same_end xs ys i h k = rw (drop_of_length-le xs h, drop_of_length-le ys k)

pub places_step : (at end : ℕ) → at < end → places at (end - at) ≡ at ∷ places (at + 1) (end - (at + 1))
places_step at end h =
    let e : end - at ≡ suc (end - (at + 1)) = omega arith in
    rw (e, add-one)
