-- What is kept of a number above 32 bits says as much as the number: it is no version, no kind and no field.
use mathlib.Core.Path.{◌≡◌, refl, ap₂}
use mathlib.Core.List.{List, [], ◌∷◌, map}
use mathlib.Core.Bool.{Bool, true, and-eq-true_iff}
use Prim.Native.Nat.{ℕ, ◌^◌, ◌≤◌, ◌<◌}
use native.Mathlib.Omega.{arith}
use borrow.Author.Tests.{ltb-true, ltb-false, ne_eqb, le-leb, lt-leb}
use lib.Dec.{ltb}
use lib.ListN.{length-map}
use Rattle.lists.specs.Views.{all}
use Rattle.lists.proofs.Bools.{by}
use Rattle.text.specs.Decimals.{tenfold, behind}
use Rattle.text.specs.Lines.{formed, has_32_bits, read_numbers}
use Rattle.text.specs.Machine.{capped}

pub cap_small : (n : ℕ) → n < 2 ^ 32 → capped n ≡ n
cap_small n h = omega arith

cap_large : (n : ℕ) → 2 ^ 32 ≤ n → capped n ≡ 2 ^ 32
cap_large n h = omega arith

-- Numbers that are kept alike are kept alike with more digits behind them.
pub cap_tenfold : (a b byte : ℕ) → capped a ≡ capped b → capped (tenfold a byte) ≡ capped (tenfold b byte)
cap_tenfold a b byte e = omega arith

pub cap_behind : (a b : ℕ) (text : List ℕ) → capped a ≡ capped b → capped (behind a text) ≡ capped (behind b text)
unfolding behind
cap_behind a b [] e = e
cap_behind a b (byte ∷ bytes) e = cap_behind (tenfold a byte) (tenfold b byte) bytes (cap_tenfold a b byte e)

pub cap_twice : (n : ℕ) → capped (capped n) ≡ capped n
cap_twice n = omega arith

-- So the reading of numbers is that of what is kept of them.
cap_bits : (ns : List ℕ) → all has_32_bits (map capped ns) ≡ all has_32_bits ns
cap_bits [] = refl
cap_bits (n ∷ ns) =
    by (ltb n (2 ^ 32))
    (λ e. rw (cap_small n (ltb-true n (2 ^ 32) e), cap_bits ns))
    (λ e. rw (cap_large n (ltb-false n (2 ^ 32) e), e))

cap_same : (ns : List ℕ) → all has_32_bits ns ≡ true → map capped ns ≡ ns
cap_same [] e = refl
cap_same (n ∷ ns) e =
    let t = (and-eq-true_iff (has_32_bits n) (all has_32_bits ns)).0 e in
    ap₂ (λ m ms. m ∷ ms) (cap_small n (ltb-true n (2 ^ 32) t.0)) (cap_same ns t.1)

cap_formed : (ns : List ℕ) → formed (map capped ns) ≡ formed ns
unfolding formed
cap_formed [] = refl
cap_formed (v ∷ []) = refl
cap_formed (v ∷ k ∷ ns) =
    by (ltb v (2 ^ 32))
    (λ e.
    by (ltb k (2 ^ 32))
    (λ f. rw (cap_small v (ltb-true v (2 ^ 32) e), cap_small k (ltb-true k (2 ^ 32) f), length-map ns capped))
    (λ f. rw (cap_small v (ltb-true v (2 ^ 32) e), cap_large k (ltb-false k (2 ^ 32) f), le-leb 1 k (omega (arith, ltb-false k (2 ^ 32) f)), lt-leb k 4 (omega (arith, ltb-false k (2 ^ 32) f)))))
    (λ e. rw (cap_large v (ltb-false v (2 ^ 32) e), ne_eqb v 1 (λ h. absurd (omega (arith, ltb-false v (2 ^ 32) e)))))

pub cap_read : (decimal : Bool) (ns : List ℕ) → read_numbers decimal (map capped ns) ≡ read_numbers decimal ns
unfolding read_numbers
cap_read decimal ns =
    by (all has_32_bits ns)
    (λ e. rw (cap_same ns e))
    (λ e. rw (cap_formed ns, cap_bits ns, e))
