-- The entries fall where each pair of neighbours does: what the library's `is_sorted_by` asks is the definition.
use mathlib.Core.Path.{◌≡◌, refl, sym}
use mathlib.Core.List.{List, [], ◌∷◌}
use mathlib.Core.Bool.{Bool, true, false, and-false}
use Prim.Native.Nat.{ℕ, zero, suc, ◌+◌, ◌<◌}
use native.Mathlib.Numerals.{unary_clauses}
use native.Mathlib.Omega.{arith}
use lib.Dec.{leb}
use lib.ListN.{length, get_or}
use Rattle.std.specs.List.{IsAllAdjacentAnswer}
use Rattle.rules.specs.Refusals.{falls_from, falls}
use Rattle.rules.specs.declared.Entry.{Entry}

abbrev pub next_falls : Entry → Entry → Bool
next_falls e next = leb next.score e.score

each : (es : List Entry) → ((k : ℕ) (d : Entry) → k + 1 < length es → next_falls (get_or es k d) (get_or es (k + 1) d) ≡ true) → falls es ≡ true
unfolding falls falls_from
each [] h = refl
each (e ∷ []) h = refl
each (e ∷ x ∷ xs) h = rw (h 0 e (omega arith), each (x ∷ xs) (λ k d l. let g = h (suc k) d (omega (arith, l)) in simp unary_clauses (simp unary_clauses at g)))

broken : (es : List Entry) (k : ℕ) → k + 1 < length es → ((d : Entry) → next_falls (get_or es k d) (get_or es (k + 1) d) ≡ false) → falls es ≡ false
unfolding falls falls_from
broken [] k l h = absurd (omega (arith, l))
broken (e ∷ []) k l h = absurd (omega (arith, l))
broken (e ∷ x ∷ xs) zero l h = rw (h e)
broken (e ∷ x ∷ xs) (suc k) l h = rw (broken (x ∷ xs) k (omega (arith, l)) (λ d. let g = h d in simp unary_clauses (simp unary_clauses at g)), and-false)

pub fallen : (es : List Entry) (r : Bool) → IsAllAdjacentAnswer (λ e next b. b ≡ next_falls e next) es r → r ≡ falls es
fallen es true h = sym (each es (λ k d l. sym (h k d l)))
fallen es false h = sym (broken es h.0 h.1 (λ d. sym (h.2 d)))
