-- A board fits beside the others exactly if rule 8 is not given.
use mathlib.Core.Path.{◌≡◌}
use mathlib.Core.Bool.{true, false, ◌&&◌, and-eq-true_iff}
use Prim.Native.Nat.{ℕ, ◌+◌, ◌<◌}
use native.Mathlib.Omega.{arith}
use borrow.Author.Tests.{lt-ltb, le-ltb, leb-true, leb-false, le-leb}
use lib.Dec.{ltb, leb}

pub fits : (count need needs : ℕ) → (leb count 32 && leb (need + needs) 1024) ≡ true → ltb 1024 (needs + need) ≡ false
fits count need needs e =
    le-ltb 1024 (needs + need) (omega (arith, leb-true (need + needs) 1024 ((and-eq-true_iff (leb count 32) (leb (need + needs) 1024)).0 e).1))

pub fits_not : (count need needs : ℕ) → count < 32 → (leb count 32 && leb (need + needs) 1024) ≡ false → ltb 1024 (needs + need) ≡ true
fits_not count need needs h e =
    lt-ltb 1024 (needs + need) (omega (arith, leb-false (need + needs) 1024 (rw (le-leb count 32 (omega arith)) at e)))
