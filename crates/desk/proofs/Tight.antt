-- Nothing else satisfies a promise: two results of a call that both keep it are equal, whatever the desk, the arguments and the slice.
use mathlib.Core.Path.{◌≡◌, ap}
use mathlib.Core.List.{List}
use Prim.Native.Nat.{ℕ}
use Rattle.std.specs.Prelude.{Option, Result}
use Rattle.rules.specs.Calls.{Outcome, StepOutcome, MessageOutcome, length_call, place_call, board_call, open_call, request_call, step_call, message_call}
use Rattle.rules.specs.Replies.{replied}
use Rattle.rules.specs.declared.Board.{Board}
use Rattle.rules.specs.declared.Entry.{Entry}
use Rattle.rules.specs.declared.Message.{Message}
use Rattle.rules.specs.declared.Desk.{Desk}
use Rattle.rules.specs.declared.Refusal.{Refusal}
use Rattle.rules.specs.declared.Steps.{Steps}
use Rattle.rules.proofs.Answering.{same_replied, same_answered, determined}
use Rattle.desk.specs.Outcomes.{outcome, step_outcome, message_outcome}

-- what a call leaves: its answer and the desk
pub record Called (A : Type 0) : Type 0 where
  pub answer : Result A Refusal
  pub desk : Desk

abbrev pub called : {A : Type 0} → Called A → Outcome A
called r = outcome r.answer r.desk

same_called : {A : Type 0} (r s : Called A) → called r ≡ called s → r ≡ s
same_called {A} r s e =
    let a = same_replied r.answer s.answer (ap (λ (o : Outcome A). o.reply) e) in
    λ i. record { answer = a i; desk = (e i).desk }

-- of a step, every word of the slice too; and of a message
pub record Stepping (A : Type 0) : Type 0 where
  pub answer : Result A Refusal
  pub desk : Desk
  pub slice : List ℕ

abbrev pub stepped : Stepping Steps → StepOutcome
stepped r = step_outcome r.answer r.desk r.slice

same_stepping : (r s : Stepping Steps) → stepped r ≡ stepped s → r ≡ s
same_stepping r s e =
    let a = same_replied r.answer s.answer (ap (λ (o : StepOutcome). o.reply) e) in
    λ i. record { answer = a i; desk = (e i).desk; slice = (e i).slice }

abbrev pub taken : Stepping (Option Steps) → MessageOutcome
taken r = message_outcome r.answer r.desk r.slice

same_taking : (r s : Stepping (Option Steps)) → taken r ≡ taken s → r ≡ s
same_taking r s e =
    let a = same_answered r.answer s.answer (ap (λ (o : MessageOutcome). o.reply) e) in
    λ i. record { answer = a i; desk = (e i).desk; slice = (e i).slice }

module _ (d : Desk) where
  pub load_tight : (b : Board) (r s : Called Unit) → called r ≡ board_call d b → called s ≡ board_call d b → r ≡ s
  load_tight b = determined called same_called (board_call d b)

  pub open_tight : (r s : Called Unit) → called r ≡ open_call d → called s ≡ open_call d → r ≡ s
  open_tight = determined called same_called (open_call d)

  pub request_tight : (topic id score : ℕ) (r s : Called Unit) → called r ≡ request_call d topic id score → called s ≡ request_call d topic id score → r ≡ s
  request_tight topic id score = determined called same_called (request_call d topic id score)

  pub length_tight : (r s : Result ℕ Refusal) → replied r ≡ length_call d → replied s ≡ length_call d → r ≡ s
  length_tight = determined replied same_replied (length_call d)

  pub place_tight : (at : ℕ) (r s : Result Entry Refusal) → replied r ≡ place_call d at → replied s ≡ place_call d at → r ≡ s
  place_tight at = determined replied same_replied (place_call d at)

  pub step_tight : (target : ℕ) (slice : List ℕ) (r s : Stepping Steps) → stepped r ≡ step_call d target slice → stepped s ≡ step_call d target slice → r ≡ s
  step_tight target slice = determined stepped same_stepping (step_call d target slice)

  pub take_tight : (m : Message) (slice : List ℕ) (r s : Stepping (Option Steps)) → taken r ≡ message_call d m slice → taken s ≡ message_call d m slice → r ≡ s
  take_tight m slice = determined taken same_taking (message_call d m slice)
