-- An answer can be found again from its number and values: each translation of an enum is injective.
use mathlib.Core.Path.{◌≡◌, refl, sym, ap, ◌∙◌}
use mathlib.Core.Bool.{cond}
use Prim.Native.Nat.{ℕ}
use native.Mathlib.Omega.{arith}
use lib.Dec.{eqb}
use Rattle.std.specs.Prelude.{Option, Some, None, Result, Ok, Err}
use Rattle.rules.specs.Replies.{number, replied, answered}
use Rattle.rules.specs.declared.Steps.{Steps}
use Rattle.rules.specs.declared.Refusal.{Refusal}

numbered : ℕ → Refusal
numbered n =
    cond (eqb n 1) Refusal.Short
    (cond (eqb n 2) Refusal.Mark
    (cond (eqb n 3) Refusal.Version
    (cond (eqb n 4) Refusal.Kind
    (cond (eqb n 5) Refusal.Nonzero
    (cond (eqb n 6) Refusal.Range
    (cond (eqb n 7) Refusal.Boards
    (cond (eqb n 8) Refusal.Needs
    (cond (eqb n 9) Refusal.Phase
    (cond (eqb n 10) Refusal.Boardless
    (cond (eqb n 11) Refusal.Past
    (cond (eqb n 12) Refusal.Reply
    (cond (eqb n 13) Refusal.Place
    (cond (eqb n 14) Refusal.Room
    (cond (eqb n 15) Refusal.Form
    Refusal.Disorder))))))))))))))

again : (r : Refusal) → numbered (number r) ≡ r
unfolding numbered
again Refusal.Short = refl
again Refusal.Mark = refl
again Refusal.Version = refl
again Refusal.Kind = refl
again Refusal.Nonzero = refl
again Refusal.Range = refl
again Refusal.Boards = refl
again Refusal.Needs = refl
again Refusal.Phase = refl
again Refusal.Boardless = refl
again Refusal.Past = refl
again Refusal.Reply = refl
again Refusal.Place = refl
again Refusal.Room = refl
again Refusal.Form = refl
again Refusal.Disorder = refl

pub same_number : (r s : Refusal) → number r ≡ number s → r ≡ s
same_number r s e = sym (again r) ∙ ap numbered e ∙ again s

-- Equal replies, equal answers.

apart : {C : Type 0} → ◌≡◌ {A = ℕ} 0 1 → C
apart e = absurd (omega arith)

pub same_replied : {A : Type 0} (a b : Result A Refusal) → replied a ≡ replied b → a ≡ b
same_replied (Ok a) (Ok b) e = cc
same_replied (Ok a) (Err s) e = apart (cc)
same_replied (Err r) (Ok b) e = apart (cc)
same_replied (Err r) (Err s) e = ap Err (same_number r s (cc))

pub same_answered : (a b : Result (Option Steps) Refusal) → answered a ≡ answered b → a ≡ b
same_answered (Ok None) (Ok None) e = refl
same_answered (Ok None) (Ok (Some t)) e = apart (cc)
same_answered (Ok None) (Err s) e = apart (cc)
same_answered (Ok (Some t)) (Ok None) e = apart (cc)
same_answered (Ok (Some t)) (Ok (Some u)) e = cc
same_answered (Ok (Some t)) (Err s) e = apart (cc)
same_answered (Err r) (Ok None) e = apart (cc)
same_answered (Err r) (Ok (Some t)) e = apart (cc)
same_answered (Err r) (Err s) e = ap Err (same_number r s (cc))

-- A promise that equates what an answer comes to determines the answer.
pub determined : {A B : Type 0} (of : A → B) → ((a b : A) → of a ≡ of b → a ≡ b) → (promised : B) (r s : A) → of r ≡ promised → of s ≡ promised → r ≡ s
determined of same promised r s p q = same r s (p ∙ sym q)
