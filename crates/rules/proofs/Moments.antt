-- What the law of moments gives: how many there are above a clock, which they are, and that a window holds at most as many as its need counts.
use mathlib.Core.Path.{◌≡◌, ap, subst, ◌∙◌}
use mathlib.Core.List.Memᴰ
use mathlib.Core.Bool.{Bool, true, false, cond}
use mathlib.Core.Logic.{◌↔◌}
use Prim.Native.Nat.{ℕ, zero, suc, ◌+◌, ◌-◌, ◌≤◌, ◌<◌}
use native.Mathlib.Omega.{arith}
use native.Mathlib.Nat.{add-sub_of_le, le_refl}
use native.Mathlib.Decide.{ℕ_discrete}
use borrow.Author.Tests.{ltb-true, ltb-false, leb-true, leb-false}
use lib.Dec.{ltb, leb}
use lib.ListN.{length}
use Rattle.lists.specs.Views.{◌∈◌, count}
use Rattle.lists.proofs.Bools.{by, clash}
use Rattle.lists.proofs.Best.{mem_those, those_mem, length_those}
use Rattle.rules.specs.Desk.{rounded_up}
use Rattle.rules.specs.Moments.{Moment, is_moment, moment, upto, ticks_from, ticks, moments}
use Rattle.rules.specs.declared.Board.{Board}
use Rattle.rules.proofs.MomentLaw.{slides, is_moment_lem, counted, numbered, spaced, earlier, rounded_up_lem}

module _ (b : Board) where
  -- number i is past x: it is no moment, or above x
  past : {C : Type 0} (i x : ℕ) → upto b x ≤ i → Moment b (moment b i) → moment b i ≤ x → C
  past i x h m l = absurd (omega (arith, (counted b i x).1 (m, l)))

  pub upto_rises : (x y : ℕ) → x ≤ y → upto b x ≤ upto b y
  upto_rises x y h =
      by (ltb (upto b y) (upto b x))
      (λ e. let r = (counted b (upto b y) x).0 (ltb-true _ _ e) in past (upto b y) y (omega arith) r.0 (omega (arith, r.1)))
      (λ e. ltb-false _ _ e)

  -- the first moment above n is a moment above n, or none
  pub next_above : (n : ℕ) → Moment b (moment b (upto b n)) → n < moment b (upto b n)
  next_above n m =
      by (leb (moment b (upto b n)) n)
      (λ e. past (upto b n) n (omega arith) m (leb-true _ _ e))
      (λ e. leb-false _ _ e)

  -- and there is no moment between
  pub next_least : (n T : ℕ) → Moment b T → n < T → moment b (upto b n) ≤ T
  next_least n T m h =
      let r = numbered b m in
      by (ltb r.0 (upto b n))
      (λ e. absurd (omega (arith, ((counted b r.0 n).0 (ltb-true _ _ e)).1, r.1, h)))
      (λ e.
      let l : upto b n ≤ r.0 = ltb-false _ _ e in
      omega (arith, r.1, spaced b (upto b n) (r.0 - upto b n), ap (moment b) (add-sub_of_le l)))

  -- One tick more: one moment more exactly if that tick is one.

  none_more : (x : ℕ) → (Moment b (suc x) → ⊥) → upto b (suc x) ≤ upto b x
  none_more x h =
      by (ltb (upto b x) (upto b (suc x)))
      (λ e.
      let r = (counted b (upto b x) (suc x)).0 (ltb-true _ _ e) in
      absurd (h (subst (Moment b) (omega (arith, r.1, next_above x r.0)) r.0)))
      (λ e. ltb-false _ _ e)

  one_more : (x : ℕ) → Moment b (suc x) → upto b (suc x) ≡ suc (upto b x)
  one_more x m =
      let r = numbered b m in
      let j : r.0 < upto b (suc x) = (counted b r.0 (suc x)).1 (subst (Moment b) r.1 m, omega (arith, r.1)) in
      let i : upto b x ≤ r.0 = not_yet r.0 r.1 in
      by (ltb (upto b x + 1) (upto b (suc x)))
      (λ e.
      let s = (counted b (upto b x + 1) (suc x)).0 (ltb-true _ _ e) in
      absurd (omega (arith, s.1, next_above x (earlier b (upto b x) 1 s.0), spaced b (upto b x) 1, slides m)))
      (λ e. omega (arith, ltb-false (upto b x + 1) (upto b (suc x)) e))
    where
      not_yet : (j : ℕ) → suc x ≡ moment b j → upto b x ≤ j
      not_yet j e =
          by (ltb j (upto b x))
          (λ f. absurd (omega (arith, ((counted b j x).0 (ltb-true _ _ f)).1, e)))
          (λ f. ltb-false _ _ f)

  step : (x : ℕ) → upto b (suc x) ≡ cond (is_moment b (suc x)) (suc (upto b x)) (upto b x)
  step x =
      by (is_moment b (suc x))
      (λ e. rw e (one_more x ((is_moment_lem b (suc x)).0 e)))
      (λ e. rw e (omega (arith, none_more x (λ m. clash ((is_moment_lem b (suc x)).1 m) e), upto_rises x (suc x) (omega arith))))

  -- The moments above n and up to m, and how many they are

  count_ticks : (n c : ℕ) → count (is_moment b) (ticks_from n c) + upto b n ≡ upto b (n + c)
  count_ticks n zero =
      let e : n + 0 ≡ n = omega arith in
      rw e (omega arith)
  count_ticks n (suc c) = rest (is_moment b (suc n)) (step n) (count_ticks (suc n) c ∙ ap (upto b) (omega arith))
    where
      rest : (t : Bool) → upto b (suc n) ≡ cond t (suc (upto b n)) (upto b n) → count (is_moment b) (ticks_from (suc n) c) + upto b (suc n) ≡ upto b (n + suc c)
          → cond t (suc (count (is_moment b) (ticks_from (suc n) c))) (count (is_moment b) (ticks_from (suc n) c)) + upto b n ≡ upto b (n + suc c)
      rest true e h = omega arith
      rest false e h = omega arith

  pub length_moments : (n c : ℕ) → length (moments b n (n + c)) ≡ upto b (n + c) - upto b n
  unfolding moments
  length_moments n c =
      let d : (n + c) - n ≡ c = omega arith in
      rw d (omega (arith, length_those (is_moment b) (ticks_from n c), count_ticks n c))

  ticks_mem : {T : ℕ} (n c : ℕ) → T ∈ ticks_from n c → (n < T) × (T ≤ n + c)
  ticks_mem n zero m = absurd (Memᴰ.not-nil m)
  ticks_mem n (suc c) (Memᴰ.head e) = (omega (arith, e), omega (arith, e))
  ticks_mem n (suc c) (Memᴰ.tail m) = let r = ticks_mem (suc n) c m in (omega (arith, r.0), omega (arith, r.1))

  mem_ticks : {T : ℕ} (n c : ℕ) → n < T → T ≤ n + c → T ∈ ticks_from n c
  mem_ticks n zero h k = absurd (omega arith)
  mem_ticks {T} n (suc c) h k =
      elim (ℕ_discrete T (suc n)) [ yes e ↦ Memᴰ.head e | no e ↦ Memᴰ.tail (mem_ticks (suc n) c (omega arith) (omega arith)) ]

  pub moments_mem : (n m : ℕ) {T : ℕ} → (T ∈ moments b n m) ↔ (Moment b T × (n < T) × (T ≤ m))
  unfolding moments
  moments_mem n m {T} = (
    λ h.
        let r = mem_those (is_moment b) (ticks n m) h in
        let t = ticks_mem n (m - n) r.0 in
        ((is_moment_lem b T).0 r.1, t.0, omega (arith, t.0, t.1)),
    λ h. those_mem (is_moment b) (ticks n m) (mem_ticks n (m - n) h.1 (omega (arith, h.1, h.2))) ((is_moment_lem b T).1 h.0),
  )

  -- A board has at most as many future views as its window has slides, rounded up.
  pub few_views : (n : ℕ) → upto b (n + b.window) ≤ upto b n + rounded_up b.window b.slide
  few_views n =
      by (ltb (upto b n + c) (upto b (n + b.window)))
      (λ e.
      let r = (counted b (upto b n + c) (n + b.window)).0 (ltb-true _ _ e) in
      absurd (omega (arith, r.1, next_above n (earlier b (upto b n) c r.0), spaced b (upto b n) c, (rounded_up_lem b.window b.slide (slides r.0) c).0 (le_refl c))))
      (λ e. ltb-false _ _ e)
    where
      c : ℕ
      c = rounded_up b.window b.slide
