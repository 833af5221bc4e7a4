-- Nothing else satisfies the promise: two results that both keep it are equal, with the time left behind the reference and every word of the slice.
use mathlib.Core.Path.{◌≡◌, sym, ap, ◌∙◌}
use mathlib.Core.List.{List}
use Prim.Native.Nat.{ℕ}
use Rattle.std.specs.Prelude.{Result}
use Rattle.rules.specs.Calls.{StepOutcome, step_call}
use Rattle.rules.specs.declared.Desk.{Desk}
use Rattle.rules.specs.declared.Time.{Time}
use Rattle.rules.specs.declared.Steps.{Steps}
use Rattle.rules.specs.declared.Refusal.{Refusal}
use Rattle.rules.proofs.Answering.{same_replied}
use Rattle.desk.specs.Outcomes.{step_outcome}
use Rattle.lent.specs.Lent.{with_time}

pub record Lending : Type 0 where
  pub answer : Result Steps Refusal
  pub desk : Desk
  pub time : Time
  pub slice : List ℕ

-- a desk is its own clock and phase, put into what it is with any other
pub own : (d e : Desk) (t u : Time) → with_time d t ≡ with_time e u → d.time ≡ e.time → d ≡ e
own d e t u p q = λ i. record { time = q i; count = (p i).count; boards = (p i).boards; len = (p i).len; entries = (p i).entries }

module _ (d : Desk) (t : Time) (target : ℕ) (words : List ℕ) where
  pub record Promised (l : Lending) : Type 0 where
    pub step : step_outcome l.answer (with_time l.desk l.time) l.slice ≡ step_call (with_time d t) target words
    pub own : l.desk.time ≡ d.time

  pub step_lent_tight : (l m : Lending) → Promised l → Promised m → l ≡ m
  step_lent_tight l m p q =
      let e = p.step ∙ sym q.step in
      let a = same_replied l.answer m.answer (ap (λ (o : StepOutcome). o.reply) e) in
      let f = own l.desk m.desk l.time m.time (ap (λ (o : StepOutcome). o.desk) e) (p.own ∙ sym q.own) in
      λ i. record { answer = a i; desk = f i; time = (e i).desk.time; slice = (e i).slice }
