-- A refused step leaves all as it stood: the lent clock and phase, the desk, and every word of the slice.
use mathlib.Core.Path.{◌≡◌, ap, ◌∙◌}
use mathlib.Core.List.{List}
use Prim.Native.Nat.{ℕ, ◌<◌}
use native.Mathlib.Omega.{arith}
use Rattle.rules.specs.Calls.{StepOutcome, refusal, step_call}
use Rattle.std.specs.Prelude.{Result}
use Rattle.rules.specs.Replies.{replied}
use Rattle.rules.specs.declared.Desk.{Desk}
use Rattle.rules.specs.declared.Refusal.{Refusal}
use Rattle.rules.specs.declared.Steps.{Steps}
use Rattle.rules.specs.declared.Time.{Time}
use Rattle.rules.proofs.Refusing.{step_stood}
use Rattle.desk.specs.Outcomes.{step_outcome}
use Rattle.lent.specs.Lent.{with_time}
use Rattle.lent.proofs.Tight.{own}

-- t and d are the lent time and desk before the call, t' and d' after it
pub refused_untouched : (d d' : Desk) (t t' : Time) (target : ℕ) (words words' : List ℕ) (r : Result Steps Refusal)
    → step_outcome r (with_time d' t') words' ≡ step_call (with_time d t) target words → d'.time ≡ d.time → 0 < refusal (replied r)
    → (t' ≡ t) × (d' ≡ d) × (words' ≡ words)
refused_untouched d d' t t' target words words' r promised stays denied =
    let h : 0 < refusal (step_call (with_time d t) target words).reply = omega (arith, denied, ap (λ (o : StepOutcome). refusal o.reply) promised) in
    let e = promised ∙ step_stood (with_time d t) target words h in
    (ap (λ (o : StepOutcome). o.desk.time) e, own d' d t' t (ap (λ (o : StepOutcome). o.desk) e) stays, ap (λ (o : StepOutcome). o.slice) e)
