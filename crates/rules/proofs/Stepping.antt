-- Where a step stops: the least of the target and of each board's first moment above the clock.
use mathlib.Core.Path.{◌≡◌, refl, subst}
use mathlib.Core.List.Memᴰ
use mathlib.Core.List.{List, [], ◌∷◌}
use mathlib.Core.Logic.{inl, inr}
use Prim.Native.Nat.{ℕ, ◌≤◌, ◌<◌}
use native.Mathlib.Omega.{arith}
use native.Mathlib.Nat.{min-eq_left, min-eq_right}
use borrow.Author.Tests.{leb-true, leb-false}
use lib.Dec.{leb}
use Rattle.lists.specs.Views.{◌∈◌}
use Rattle.lists.proofs.Bools.{by}
use Rattle.rules.specs.Desk.{limit}
use Rattle.rules.specs.Moments.{Moment, moment, upto, Reached, reached}
use Rattle.rules.specs.declared.Board.{Board}
use Rattle.rules.proofs.MomentLaw.{or_beyond}
use Rattle.rules.proofs.Moments.{next_above, next_least}

module _ (n target : ℕ) (fits : target ≤ limit) (b : Board) (bs : List Board) (r : ℕ) (rest : Reached bs n target r) where
  -- b's first moment above n comes first
  board_first : 0 < b.slide → moment b (upto b n) ≤ r → Reached (b ∷ bs) n target (moment b (upto b n))
  board_first p h = record {
    at_most = omega (arith, rest.at_most);
    earliest = λ c T m t l. elim (Memᴰ.cases_cons m) [ inl e ↦ next_least b n T (subst (λ (a : Board). Moment a T) e t) l | inr k ↦ omega (arith, rest.earliest c T k t l) ];
    stop = elim (or_beyond b p (upto b n)) [ inl m ↦ inr (b, Memᴰ.head refl, m, next_above b n m) | inr q ↦ absurd (omega (arith, rest.at_most)) ];
  }

  others_first : r < moment b (upto b n) → Reached (b ∷ bs) n target r
  others_first h = record {
    at_most = rest.at_most;
    earliest = λ c T m t l. elim (Memᴰ.cases_cons m) [ inl e ↦ omega (arith, next_least b n T (subst (λ (a : Board). Moment a T) e t) l) | inr k ↦ rest.earliest c T k t l ];
    stop = elim rest.stop [ inl e ↦ inl e | inr k ↦ inr (k.0, Memᴰ.tail k.1, k.2, k.3) ];
  }

pub reached_is : (n target : ℕ) → target ≤ limit → (boards : List Board) → ((b : Board) → b ∈ boards → 0 < b.slide)
    → Reached boards n target (reached boards n target)
unfolding reached
reached_is n target fits [] slide = record { at_most = omega arith; earliest = λ b T m. absurd (Memᴰ.not-nil m); stop = inl refl }
reached_is n target fits (b ∷ bs) slide =
    let rest = reached_is n target fits bs (λ c m. slide c (Memᴰ.tail m)) in
    by (leb (moment b (upto b n)) (reached bs n target))
    (λ e.
    let h : moment b (upto b n) ≤ reached bs n target = leb-true _ _ e in
    rw (min-eq_left h) (board_first n target fits b bs (reached bs n target) rest (slide b (Memᴰ.head refl)) h))
    (λ e.
    let h : reached bs n target < moment b (upto b n) = leb-false _ _ e in
    let k : reached bs n target ≤ moment b (upto b n) = omega arith in
    rw (min-eq_right k) (others_first n target fits b bs (reached bs n target) rest h))

-- A step never goes back.
pub reached_from : (n target : ℕ) → n ≤ target → target ≤ limit → (boards : List Board) → ((b : Board) → b ∈ boards → 0 < b.slide) → n ≤ reached boards n target
reached_from n target h fits boards slide =
    elim (reached_is n target fits boards slide).stop [ inl e ↦ omega (arith, e) | inr m ↦ omega (arith, m.3) ]

pub reached_at_most : (boards : List Board) (n target : ℕ) → reached boards n target ≤ target
unfolding reached
reached_at_most [] n target = omega arith
reached_at_most (b ∷ bs) n target = omega (arith, reached_at_most bs n target)

-- A step stops at one place only.
pub reached_only : (boards : List Board) (n target m m' : ℕ) → Reached boards n target m → Reached boards n target m' → m ≡ m'
reached_only boards n target m m' r s = omega (arith, below m m' r s, below m' m s r)
  where
    below : (m m' : ℕ) → Reached boards n target m → Reached boards n target m' → m ≤ m'
    below m m' r s = elim s.stop [ inl e ↦ omega (arith, r.at_most, e) | inr k ↦ r.earliest k.0 m' k.1 k.2 k.3 ]
