-- The four kinds, one by one.
use mathlib.Core.Path.{◌≡◌, sym, subst}
use mathlib.Core.Bool.{true, and-eq-true_iff}
use Prim.Native.Nat.{ℕ}
use native.Mathlib.Omega.{arith}
use borrow.Author.Tests.{leb-true, eqb-true, eqb-false}
use lib.Dec.{eqb, leb}
use Rattle.lists.proofs.Bools.{by}
use Rattle.rules.specs.Desk.{within}
use Rattle.rules.specs.declared.Message.{Message}

abbrev pub made : ℕ → ℕ → ℕ → ℕ → ℕ → Message
made kind byte first second third = record { kind = kind; byte = byte; first = first; second = second; third = third }

pub known_kind : (P : ℕ → Type 0) → P 1 → P 2 → P 3 → P 4 → (k : ℕ) → within 1 4 k ≡ true → P k
known_kind P board request opening clock k e =
    let t = (and-eq-true_iff (leb 1 k) (leb k 4)).0 e in
    by (eqb k 1)
    (λ f. subst P (sym (eqb-true k 1 f)) board)
    (λ no-board.
    by (eqb k 2)
    (λ f. subst P (sym (eqb-true k 2 f)) request)
    (λ no-request.
    by (eqb k 3)
    (λ f. subst P (sym (eqb-true k 3 f)) opening)
    (λ no-open.
    let kind : k ≡ 4 = omega (arith, leb-true 1 k t.0, leb-true k 4 t.1, eqb-false k 1 no-board, eqb-false k 2 no-request, eqb-false k 3 no-open) in
    subst P (sym kind) clock)))
