-- The one law of moments: number i is among the first `upto b x` exactly if it is a moment and at most x. All that rests on moments rests on this file.
use mathlib.Core.Path.{◌≡◌, refl, ap, ◌∙◌}
use mathlib.Core.Bool.{true, and-eq-true_iff}
use mathlib.Core.Logic.{◌⊎◌, inl, inr, ◌↔◌}
use Prim.Native.Nat.{ℕ, zero, suc, ◌+◌, ◌-◌, ◌*◌, ◌/◌, ◌%◌, ◌≤◌, ◌<◌, min}
use native.Mathlib.Omega.{arith}
use native.Mathlib.Nat.{mul-pos, mul-zero, zero-mul, suc-mul, add-mul, div-zero, div-add-mod', mul-mod_left, le-div_iff_mul-le, div-lt_iff_lt-mul, div-mul-le_self, div-le_self, le-mul_of_pos_right, min-le_left, min-le_right, le-min}
use borrow.Author.Tests.{ltb-true, ltb-false, lt-ltb, eqb-true, eq-eqb, leb-true, leb-false, le-leb}
use lib.Dec.{ltb, leb}
use Rattle.lists.proofs.Bools.{by}
use Rattle.rules.specs.Desk.{limit, rounded_up}
use Rattle.rules.specs.Moments.{Moment, is_moment, moment, upto}
use Rattle.rules.specs.declared.Board.{Board}

-- A moment's board has a slide.
pub slides : {b : Board} {T : ℕ} → Moment b T → 0 < b.slide
slides {b} {T} m =
    by (ltb 0 b.slide)
    (λ e. ltb-true _ _ e)
    (λ e.
    let z : b.slide ≡ 0 = omega (arith, ltb-false 0 b.slide e) in
    absurd (omega (arith, m.positive, m.multiple.1 ∙ ap (λ s. m.multiple.0 * s) z ∙ mul-zero m.multiple.0)))

pub is_moment_lem : (b : Board) (T : ℕ) → (is_moment b T ≡ true) ↔ Moment b T
unfolding is_moment
is_moment_lem b T = (
  λ e.
      let h = (and-eq-true_iff _ _).0 e in
      let k = (and-eq-true_iff _ _).0 h.0 in
      record {
        positive = ltb-true _ _ k.0;
        multiple = (T / b.slide, omega (arith, div-add-mod' T b.slide, eqb-true (T % b.slide) 0 k.1));
        at_most = leb-true _ _ h.1;
      },
  λ m.
      rw (
        lt-ltb 0 T m.positive,
        eq-eqb (T % b.slide) 0 (ap (λ n. n % b.slide) m.multiple.1 ∙ mul-mod_left m.multiple.0 b.slide),
        le-leb T limit m.at_most,
      ),
)

pub counted : (b : Board) (i x : ℕ) → (i < upto b x) ↔ (Moment b (moment b i) × (moment b i ≤ x))
unfolding moment upto
counted b i x = (
  λ h. by (ltb 0 b.slide) (λ e. of_count (ltb-true _ _ e) h) (λ e. none (omega (arith, ltb-false 0 b.slide e)) h),
  λ m. (le-div_iff_mul-le (slides m.0)).1 (le-min m.1 m.0.at_most),
)
  where
    of_count : 0 < b.slide → suc i ≤ min x limit / b.slide → Moment b (suc i * b.slide) × (suc i * b.slide ≤ x)
    of_count p h =
        let q : suc i * b.slide ≤ min x limit = (le-div_iff_mul-le p).0 h in (
          record { positive = mul-pos (omega arith) p; multiple = (suc i, refl); at_most = omega (arith, q, min-le_right x limit) },
          omega (arith, q, min-le_left x limit),
        )

    none : {C : Type 0} → b.slide ≡ 0 → suc i ≤ min x limit / b.slide → C
    none z h = absurd (omega (arith, h, ap (λ s. min x limit / s) z ∙ div-zero (min x limit)))

pub numbered : (b : Board) {T : ℕ} → Moment b T → (i : ℕ) × (T ≡ moment b i)
unfolding moment
numbered b {T} m = go m.multiple.0 m.multiple.1
  where
    go : (i : ℕ) → T ≡ i * b.slide → (j : ℕ) × (T ≡ suc j * b.slide)
    go zero e = absurd (omega (arith, m.positive, e ∙ zero-mul b.slide))
    go (suc j) e = (j, e)

-- Moments stand a slide apart, and before a moment there is no number that is none.
pub spaced : (b : Board) (i c : ℕ) → moment b (i + c) ≡ moment b i + c * b.slide
unfolding moment
spaced b i c = omega (arith, suc-mul (i + c) b.slide, suc-mul i b.slide, add-mul i c b.slide)

pub earlier : (b : Board) (i c : ℕ) → Moment b (moment b (i + c)) → Moment b (moment b i)
unfolding moment
earlier b i c m = record {
  positive = mul-pos (omega arith) (slides m);
  multiple = (suc i, refl);
  at_most = omega (arith, m.at_most, suc-mul (i + c) b.slide, suc-mul i b.slide, add-mul i c b.slide);
}

-- Every number is a moment or beyond the limit.
pub or_beyond : (b : Board) → 0 < b.slide → (i : ℕ) → Moment b (moment b i) ⊎ (limit < moment b i)
unfolding moment
or_beyond b p i =
    by (leb (suc i * b.slide) limit)
    (λ e. inl (record { positive = mul-pos (omega arith) p; multiple = (suc i, refl); at_most = leb-true _ _ e }))
    (λ e. inr (leb-false _ _ e))

-- Rounding up: the least number of slides that reaches the window.
pub rounded_up_lem : (a b : ℕ) → 0 < b → (m : ℕ) → (rounded_up a b ≤ m) ↔ (a ≤ m * b)
unfolding rounded_up
rounded_up_lem a b p m = (
  λ h. omega (arith, (div-lt_iff_lt-mul {k = b} {x = a + (b - 1)} {y = suc m} p).0 (omega arith), suc-mul m b),
  λ h. omega (arith, (div-lt_iff_lt-mul {k = b} {x = a + (b - 1)} {y = suc m} p).1 (omega (arith, suc-mul m b))),
)

-- What fits: no more slides than ticks; the first moment above a tick is at most a slide past the limit.
pub rounded_small : (a b : ℕ) → rounded_up a b ≤ a
unfolding rounded_up
rounded_small a b =
    by (ltb 0 b)
    (λ e. (rounded_up_lem a b (ltb-true _ _ e) a).1 (le-mul_of_pos_right a (ltb-true _ _ e)))
    (λ e.
    let z : b ≡ 0 = omega (arith, ltb-false 0 b e) in
    rw (z, div-zero) (omega arith))

pub next_small : (b : Board) (x : ℕ) → moment b (upto b x) ≤ limit + b.slide
unfolding moment upto
next_small b x = omega (arith, suc-mul (min x limit / b.slide) b.slide, div-mul-le_self (min x limit) b.slide, min-le_right x limit)

pub upto_small : (b : Board) (x : ℕ) → upto b x ≤ limit
unfolding upto
upto_small b x = omega (arith, div-le_self (min x limit) b.slide, min-le_right x limit)
