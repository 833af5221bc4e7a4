-- The number of steps. The first stop above the clock is the first tick that is a moment or the target, so the stops up to the target are all such ticks in
-- order: as many as there are different moments, and one more if the target is none.
use mathlib.Core.Path.{◌≡◌, refl, sym, ap, ◌∙◌}
use mathlib.Core.List.Memᴰ
use mathlib.Core.List.{List, [], ◌∷◌}
use mathlib.Core.Bool.{Bool, true, false, cond, ◌||◌}
use mathlib.Core.Logic.{◌⊎◌, inl, inr, ◌↔◌}
use Prim.Native.Nat.{ℕ, zero, suc, ◌+◌, ◌-◌, ◌≤◌, ◌<◌}
use native.Mathlib.Omega.{arith}
use borrow.Author.Tests.{eq-eqb, ne_eqb, leb-true, not-false}
use lib.Dec.{eqb}
use lib.ListN.{length}
use Rattle.lists.specs.Views.{◌∈◌, those, put}
use Rattle.lists.proofs.Bools.{by, either, untrue, clash}
use Rattle.rules.specs.Desk.{limit, loaded}
use Rattle.rules.specs.Moments.{Moment, is_moment, some_moment, ticks_from, ticks, Reached, reached}
use Rattle.rules.specs.Refusals.{Rule, judged, step_rules}
use Rattle.rules.specs.Calls.{StepOutcome, stays, moved_to, step_call, StepsTo}
use Rattle.rules.specs.Calls.Reply.{refused, accepted}
use Rattle.rules.specs.Calls.StepsTo.{there, again}
use Rattle.rules.specs.declared.Board.{Board}
use Rattle.rules.specs.declared.Desk.{Desk}
use Rattle.rules.specs.declared.Steps.{Steps}
use Rattle.rules.proofs.Fitting.{all_slide}
use Rattle.rules.proofs.MomentLaw.{is_moment_lem}
use Rattle.rules.proofs.Refusing.{Denied, Granted, judged_cases, in_order}
use Rattle.rules.proofs.Stepping.{reached_is}

-- some board's moment
pub some_moment_lem : (boards : List Board) (T : ℕ) → (some_moment boards T ≡ true) ↔ ((b : Board) × (b ∈ boards) × Moment b T)
some_moment_lem boards T = (whose boards, has boards)
  where
    whose : (bs : List Board) → some_moment bs T ≡ true → (b : Board) × (b ∈ bs) × Moment b T
    whose [] e = clash e refl
    whose (b ∷ bs) e =
        elim (either (is_moment b T) (some_moment bs T) e) [ inl h ↦ (b, Memᴰ.head refl, (is_moment_lem b T).0 h) | inr h ↦ let r = whose bs h in (r.0, Memᴰ.tail r.1, r.2) ]

    has : (bs : List Board) → (b : Board) × (b ∈ bs) × Moment b T → some_moment bs T ≡ true
    has [] (b, m, t) = absurd (Memᴰ.not-nil m)
    has (c ∷ bs) (b, Memᴰ.head e, t) = rw ((is_moment_lem c T).1 (rw e at t))
    has (c ∷ bs) (b, Memᴰ.tail m, t) = by (is_moment c T) (λ e. rw e) (λ e. rw e (has bs (b, m, t)))

-- Ticks that fail a test are passed over, up to the first that does not.
passed : (p : ℕ → Bool) (n c r k : ℕ) → k ≡ suc (c + r) → ((T : ℕ) → n < T → T ≤ n + c → p T ≡ false) → p (suc (n + c)) ≡ true
    → those p (ticks_from n k) ≡ suc (n + c) ∷ those p (ticks_from (suc (n + c)) r)
passed p n c r zero e none t = absurd (omega arith)
passed p n zero r (suc k) e none t =
    let z : n + 0 ≡ n = omega arith in
    let same : k ≡ r = omega arith in
    let f : p (suc n) ≡ true = rw z at t in
    rw (z, f, same)
passed p n (suc c) r (suc k) e none t =
    let z : n + suc c ≡ suc n + c = omega arith in
    let same : k ≡ suc (c + r) = omega arith in
    rw (none (suc n) (omega arith) (omega arith), z) (passed p (suc n) c r k same (λ T h l. none T (omega arith) (omega arith)) (rw z at t))

-- a stop on the way to the target: a moment of some board, or the target
abbrev is_stop : List Board → ℕ → ℕ → Bool
is_stop boards target T = some_moment boards T || eqb T target

module _ (boards : List Board) (n target m : ℕ) (h : n < target) (r : Reached boards n target m) where
  above : n < m
  above = elim r.stop [ inl e ↦ omega (arith, e) | inr k ↦ k.3 ]

  stops : is_stop boards target m ≡ true
  stops =
      elim r.stop [
        | inl e ↦ by (some_moment boards m) (λ f. rw f) (λ f. rw (f, eq-eqb m target e))
        | inr k ↦ rw ((some_moment_lem boards m).1 (k.0, k.1, k.2))
      ]

  between : (T : ℕ) → n < T → T < m → is_stop boards target T ≡ false
  between T k l =
      let none : some_moment boards T ≡ false = untrue (some_moment boards T) (λ e. let w = (some_moment_lem boards T).0 e in omega (arith, r.earliest w.0 T w.1 w.2 k)) in
      rw (none, ne_eqb T target (λ e. omega (arith, r.at_most)))

  first_stop : those (is_stop boards target) (ticks n target) ≡ m ∷ those (is_stop boards target) (ticks m target)
  first_stop =
      let c : ℕ = m - suc n in
      let e : target - n ≡ suc (c + (target - m)) = omega (arith, above, r.at_most) in
      let f : suc (n + c) ≡ m = omega (arith, above) in
      passed (is_stop boards target) n c (target - m) (target - n) e (λ T k l. between T k (omega arith)) (rw f stops) ∙ rw f

-- An accepted step to a target above the clock reaches what `reached` says, in a desk with the same boards.
module _ (d : Desk) (target : ℕ) (slice : List ℕ) (s : Steps) (h : d.time.clock < target) (e : (step_call d target slice).reply ≡ accepted s) where
  abbrev rules : List Rule
  rules = step_rules d target (length slice)

  abbrev moves : StepOutcome
  moves = moved_to d (reached (loaded d) d.time.clock target) slice

  abbrev refuse : ℕ → StepOutcome
  refuse n = record { reply = refused n; desk = d; slice = slice }

  abbrev accepts : StepOutcome
  accepts = cond (eqb target d.time.clock) (stays d slice) moves

  granted : Granted rules × (step_call d target slice ≡ moves)
  unfolding step_call
  granted = go (judged_cases rules) (ne_eqb target d.time.clock (λ k. omega arith)) e
    where
      go : Denied rules ⊎ Granted rules → eqb target d.time.clock ≡ false → (judged rules refuse accepts).reply ≡ accepted s → Granted rules × (judged rules refuse accepts ≡ moves)
      go (inl k) moving e =
          let no = rw (k.same StepOutcome refuse accepts) at e in
          let z : ◌≡◌ {A = ℕ} 0 1 = cc in
          absurd (omega arith)
      go (inr k) moving e = (k, rw (k.same StepOutcome refuse accepts, moving))

  moved : ((step_call d target slice).desk.time.clock ≡ s.clock)
      × (loaded (step_call d target slice).desk ≡ loaded d)
      × Reached (loaded d) d.time.clock target s.clock
  moved =
      let g = granted in
      let none = g.0.none in
      let order = in_order d none.0 in
      let fits : target ≤ limit = leb-true target limit (not-false _ none.1.0) in
      let reaches = reached_is d.time.clock target fits (loaded d) (λ b m. all_slide (loaded d) order.boards m) in
      let same : reached (loaded d) d.time.clock target ≡ s.clock = cc (ap (λ (o : StepOutcome). o.reply) g.1) in
      (rw g.1 same, rw g.1, rw same at reaches)

-- The clocks reached are exactly the different moments above the clock and up to the target, in order, and the target.
pub steps_are : {target : ℕ} {d : Desk} {clocks : List ℕ} → StepsTo target d clocks
    → clocks ≡ those (λ T. some_moment (loaded d) T || eqb T target) (ticks d.time.clock target)
steps_are {target} {d} (there e) =
    let z : target - d.time.clock ≡ 0 = omega arith in
    rw z
steps_are {target} {d} (again {s = s} h slice e rest) =
    let m = moved d target slice s h e in
    rw (steps_are rest, m.0, m.1) (sym (first_stop (loaded d) d.time.clock target s.clock h m.2))

-- The target is the last tick: among those that pass a test it is there already, or it is one more.
one_more : (q : ℕ → Bool) (n c target : ℕ) → target ≡ suc (n + c)
    → length (those (λ T. q T || eqb T target) (ticks_from n (suc c))) ≡ length (those q (ticks_from n (suc c))) + cond (q target) 0 1
one_more q n zero target e =
    let same : target ≡ suc n = omega arith in
    rw same (rw (eq-eqb (suc n) (suc n) refl) (last (q (suc n))))
  where
    last : (b : Bool) → length (put (b || true) (suc n) []) ≡ length (put b (suc n) []) + cond b 0 1
    last true = refl
    last false = refl
one_more q n (suc c) target e =
    rw (ne_eqb (suc n) target (λ k. omega arith)) (before _ _ _ (q (suc n)) (one_more q (suc n) c target (omega arith)))
  where
    before : (xs ys : List ℕ) (k : ℕ) (b : Bool) → length xs ≡ length ys + k → length (put (b || false) (suc n) xs) ≡ length (put b (suc n) ys) + k
    before xs ys k true h = omega arith
    before xs ys k false h = h

-- From clock n to a target t above it the number of accepted steps is the number of different moments above n and up to t, and one more if t is not a moment.
pub steps_number : {target : ℕ} {d : Desk} {clocks : List ℕ} → d.time.clock < target → StepsTo target d clocks
    → length clocks ≡ length (those (some_moment (loaded d)) (ticks d.time.clock target)) + cond (some_moment (loaded d) target) 0 1
steps_number {target} {d} h steps =
    let c : ℕ = target - suc d.time.clock in
    let e : target - d.time.clock ≡ suc c = omega arith in
    rw (steps_are steps, e) (one_more (some_moment (loaded d)) d.time.clock c target (omega arith))
