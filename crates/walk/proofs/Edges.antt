-- Which views of a board hold a tick, by one comparison with an edge.
use mathlib.Core.Path.{◌≡◌, refl, ap, ◌∙◌}
use mathlib.Core.Bool.{true, ◌&&◌, and-eq-true_iff}
use mathlib.Core.Logic.{⊎_elim}
use Prim.Native.Nat.{ℕ, suc, ◌+◌, ◌-◌, ◌*◌, ◌/◌, ◌≤◌, ◌<◌, min}
use native.Mathlib.Omega.{arith}
use native.Mathlib.Nat.{div-zero, mul-le-mul, mul-zero, zero-sub, zero-min, le-div_iff_mul-le, div-lt_iff_lt-mul}
use borrow.Author.Tests.{ltb-true, ltb-false, lt-ltb, leb-true, le-leb}
use lib.Dec.{ltb, leb}
use Rattle.lists.proofs.Bools.{by, both_ways, clash}
use Rattle.rules.specs.Desk.{limit, rounded_up}
use Rattle.rules.specs.Moments.{Moment, moment, upto}
use Rattle.rules.specs.Cells.{cells}
use Rattle.rules.specs.declared.Board.{Board}
use Rattle.rules.proofs.MomentLaw.{counted, or_beyond, spaced, next_small, upto_small}
use Rattle.walk.specs.Edges.{counts_for, reach_of, held_by, Numbered, edge, past}
use Rattle.walk.specs.declared.Spot.{Spot}

-- Views a slide apart, and the last tick that a moment may have
module _ (slide last first views : ℕ) where
  pub reached : (i : ℕ) → 0 < slide → i < views → suc (first + i) * slide ≤ last → i < min (last / slide - first) views
  reached i p h k = omega (arith, (le-div_iff_mul-le p).1 k)

  pub beyond : (i : ℕ) → last < suc (first + i) * slide → min (last / slide - first) views ≤ i
  beyond i k =
      by (ltb 0 slide)
      (λ e. omega (arith, (div-lt_iff_lt-mul {k = slide} {x = last} {y = suc (first + i)} (ltb-true _ _ e)).1 k))
      (λ e.
      let z : slide ≡ 0 = omega (arith, ltb-false 0 slide e) in
      absurd (omega (arith, k, ap (λ s. suc (first + i) * s) z ∙ mul-zero (suc (first + i)))))

-- A board at a clock: its next moment is not far past the limit, and without a slide it has no view.
pub numbered : (b : Board) (n : ℕ) → cells b ≤ 1024 → Numbered b (upto b n) (cells b)
unfolding cells rounded_up
numbered b n few = record {
  small = omega (arith, upto_small b n);
  near = let m : cells b * b.slide ≤ 1024 * b.slide = mul-le-mul few (omega arith) in omega (arith, spaced b (upto b n) (cells b), next_small b n, m);
  slides = slid;
}
  where
    slid : 0 < cells b → 0 < b.slide
    slid h = by (ltb 0 b.slide) (λ e. ltb-true _ _ e) (λ e. let z : b.slide ≡ 0 = omega (arith, ltb-false 0 b.slide e) in absurd (omega (arith, rw (z, div-zero) at h)))

-- Views in front may go.
pub numbered_past : {b : Board} {first next views n : ℕ} → Numbered b first views → next ≤ first + n → n ≤ views → Numbered b next (views - n)
unfolding moment
numbered_past {b} {first} {next} {views} {n} given h k =
    let m : suc (next + (views - n)) * b.slide ≤ suc (first + views) * b.slide = mul-le-mul (omega arith) (omega arith) in
    record { small = omega (arith, given.small); near = omega (arith, given.near, m); slides = λ l. given.slides (omega arith) }

-- No moment of a view wraps.
pub moment_fits : (b : Board) (first views view : ℕ) → Numbered b first views → view ≤ views → b.slide < 4294967296 → moment b (first + view) < 18446744073709551616
unfolding moment
moment_fits b first views view given h k =
    let m : suc (first + view) * b.slide ≤ suc (first + views) * b.slide = mul-le-mul (omega arith) (omega arith) in
    omega (arith, given.near, m)

module _ (b : Board) (first views : ℕ) (s : Spot) (given : Numbered b first views) where
  past_edge : past (edge b first views) s.entry.tick ≡ true → counts_for b s ≡ true → 0 < held_by b first views s
  unfolding edge reach_of
  past_edge e t =
      by (ltb 0 views && leb (moment b first) limit)
      (λ i.
      let h = (and-eq-true_iff _ _).0 i in
      let f = ltb-true 0 views h.0 in
      let m = ⊎_elim {C = Moment b (moment b first)} (λ m. m) (λ o. absurd (omega (arith, o, leb-true (moment b first) limit h.1))) (or_beyond b (given.slides f) first) in
      let k = leb-true (moment b first - b.window) s.entry.tick (rw i at e) in
      rw t (omega (arith, f, (counted b first (s.entry.tick + b.window)).1 (m, omega (arith, k)))))
      (λ i. absurd (clash (rw i at e) refl))

  shown_past : 0 < held_by b first views s → (past (edge b first views) s.entry.tick && counts_for b s) ≡ true
  unfolding edge reach_of
  shown_past h =
      by (counts_for b s)
      (λ t.
      let g = rw t at h in
      let c = (counted b first (s.entry.tick + b.window)).0 (omega arith) in
      rw (t, lt-ltb 0 views (omega arith), le-leb (moment b first) limit c.0.at_most) (rw (le-leb (moment b first - b.window) s.entry.tick (omega (arith, c.1)))))
      (λ t. absurd (omega (arith, rw (t, zero-sub, zero-min) at h)))

  -- A board shows what stands at a spot exactly if it counts for the board and its tick is not before the edge.
  pub at_edge : (past (edge b first views) s.entry.tick && counts_for b s) ≡ ltb 0 (held_by b first views s)
  at_edge =
      both_ways _ _
      (λ e. let h = (and-eq-true_iff _ _).0 e in lt-ltb _ _ (past_edge h.0 h.1))
      (λ e. shown_past (ltb-true _ _ e))
