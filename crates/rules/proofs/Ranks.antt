-- Windows and ranks: each test is its sentence; better is an order in which no two accepted requests tie; the answer is the best k of the window.
use mathlib.Core.Path.{◌≡◌, sym, ◌∙◌}
use mathlib.Core.List.{List, [], ◌∷◌}
use mathlib.Core.Bool.{Bool, true, false, and-eq-true_iff}
use mathlib.Core.Logic.{inl, inr, ◌↔◌}
use Prim.Native.Nat.{ℕ, ◌+◌, ◌≤◌, ◌<◌}
use native.Mathlib.Omega.{arith}
use borrow.Author.Tests.{ltb-true, ltb-false, lt-ltb, eqb-true, eq-eqb, leb-true, leb-false, le-leb}
use lib.Dec.{ltb}
use lib.ListN.{length}
use Rattle.lists.specs.Views.{◌∈◌}
use Rattle.lists.specs.Order.{ranked, Strict, Falling}
use Rattle.lists.proofs.Bools.{by, untrue, both_ways}
use Rattle.lists.proofs.Best.{those_onto, length_those, count_ranked, ranked_mem, falling_place, falling_those, best_first, best_only, best_same}
use Rattle.rules.specs.Moments.{InWindow, in_window, Accepted, Better, better, InTurn, window_of, Answer, answer}
use Rattle.rules.specs.SharedList.{ahead}
use Rattle.rules.specs.declared.Board.{Board}
use Rattle.rules.specs.declared.Entry.{Entry}

pub in_window_lem : (b : Board) (T : ℕ) (e : Entry) → (in_window b T e ≡ true) ↔ InWindow b T e
unfolding in_window
in_window_lem b T e = (
  λ h.
      let k = (and-eq-true_iff _ _).0 h in
      let l = (and-eq-true_iff _ _).0 k.1 in
      record { counts = k.0; before = ltb-true _ _ l.0; reaches = leb-true _ _ l.1 },
  λ w. rw (w.counts, lt-ltb e.tick T w.before, le-leb T (e.tick + b.window) w.reaches),
)

pub is_better : (x y : Accepted) → (better x y ≡ true) ↔ Better x y
unfolding better
is_better x y = (
  λ h.
      by (ltb y.entry.score x.entry.score)
      (λ e. inl (ltb-true _ _ e))
      (λ e. let k = (and-eq-true_iff _ _).0 (rw e at h) in inr (eqb-true _ _ k.0, ltb-true _ _ k.1)),
  λ b.
      elim b [
        | inl p ↦ rw (lt-ltb _ _ p)
        | inr p ↦ by (ltb y.entry.score x.entry.score) (λ e. rw e) (λ e. rw (e, eq-eqb _ _ p.0, lt-ltb _ _ p.1))
      ],
)

pub not_above : (x y : Accepted) → Better x y → y.entry.score ≤ x.entry.score
not_above x y (inl p) = omega arith
not_above x y (inr p) = omega (arith, p.0)

onward : (x y z : Accepted) → Better x y → Better y z → Better x z
onward x y z (inl p) (inl q) = inl (omega arith)
onward x y z (inl p) (inr q) = inl (omega (arith, q.0))
onward x y z (inr p) (inl q) = inl (omega (arith, p.0))
onward x y z (inr p) (inr q) = inr (p.0 ∙ q.0, omega (arith, p.1, q.1))

never : (x : Accepted) → Better x x → ⊥
never x (inl p) = omega arith
never x (inr p) = omega (arith, p.1)

pub better_strict : Strict better
better_strict = record {
  never = λ x. untrue (better x x) (λ e. never x ((is_better x x).0 e));
  onward = λ x y z p q. (is_better x z).1 (onward x y z ((is_better x y).0 p) ((is_better y z).0 q));
}

-- To one that came later, better is what is ahead of it.
pub better_ahead : (x y : Accepted) → y.arrival < x.arrival → better y x ≡ ahead y.entry x.entry
better_ahead x y h =
    both_ways (better y x) (ahead y.entry x.entry)
    (λ e. le-leb _ _ (not_above y x ((is_better y x).0 e)))
    (λ e.
    (is_better y x).1 (
    by (ltb x.entry.score y.entry.score)
    (λ t. inl (ltb-true _ _ t))
    (λ t. inr (omega (arith, ltb-false x.entry.score y.entry.score t, leb-true x.entry.score y.entry.score e), h))
    ))

-- Of two requests one is better, unless they are one in score and in arrival: no two accepted requests tie.
pub one_is_better : (x y : Accepted) → x.arrival < y.arrival → better x y ≡ false → better y x ≡ true
one_is_better x y h e = (is_better y x).1 (inl (leb-false _ _ (sym (better_ahead y x h) ∙ e)))

pub falling_ranked : (xs : List Accepted) → InTurn xs → Falling better (ranked better xs)
falling_ranked [] h = tt
falling_ranked (x ∷ xs) h =
    falling_place better better_strict x (ranked better xs) (λ y m e. one_is_better y x (h.0 y ((ranked_mem better xs).0 m)) e) (falling_ranked xs h.1)

-- The answer is the best k of the window, and nothing else is.

module _ (b : Board) (T : ℕ) (xs : List Accepted) (turn : InTurn xs) where
  abbrev inside : Accepted → Bool
  inside x = in_window b T x.entry

  falling_window : Falling better (window_of b T (ranked better xs))
  falling_window = falling_those better inside (ranked better xs) (falling_ranked xs turn)

  same_window : (x : Accepted) → (x ∈ window_of b T (ranked better xs)) ↔ (x ∈ window_of b T xs)
  same_window x = (
    those_onto inside (ranked better xs) xs (ranked_mem better xs).0,
    those_onto inside xs (ranked better xs) (ranked_mem better xs).1,
  )

  same_size : length (window_of b T (ranked better xs)) ≡ length (window_of b T xs)
  same_size = length_those inside (ranked better xs) ∙ count_ranked better inside xs ∙ sym (length_those inside xs)

  pub answer_is : Answer b T xs (answer b T xs)
  unfolding answer
  answer_is = best_same better same_window same_size (best_first better better_strict b.k _ falling_window)

  pub answer_only : (shown : List Accepted) → Answer b T xs shown → shown ≡ answer b T xs
  unfolding answer
  answer_only shown a =
      best_only better better_strict b.k (window_of b T (ranked better xs)) shown falling_window
      (best_same better (λ x. ((same_window x).1, (same_window x).0)) (sym same_size) a)
