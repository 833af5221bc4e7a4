-- What the calls give back, in document 01's terms: the reply, the desk, and of a step the slice.
use Rattle.std.specs.Prelude.{List, ℕ, Option, Result}
use Rattle.rules.specs.Calls.{Outcome, StepOutcome, MessageOutcome}
use Rattle.rules.specs.Replies.{replied, answered}
use Rattle.rules.specs.declared.Desk.{Desk}
use Rattle.rules.specs.declared.Refusal.{Refusal}
use Rattle.rules.specs.declared.Steps.{Steps}
use Rattle.reply.specs.Written.{wrote}

abbrev pub outcome : {A : Type 0} → Result A Refusal → Desk → Outcome A
outcome answer d = record { reply = replied answer; desk = d }

abbrev pub step_outcome : Result Steps Refusal → Desk → List ℕ → StepOutcome
step_outcome answer d slice = record { reply = replied answer; desk = d; slice = slice }

abbrev pub message_outcome : Result (Option Steps) Refusal → Desk → List ℕ → MessageOutcome
message_outcome answer d slice = record { reply = answered answer; desk = d; slice = slice }

-- what a step that moves the clock returns, by what the reply promises of any desk
abbrev pub moved_by : Desk → ℕ → ℕ → Steps
moved_by d T room = record { clock = T; due = (wrote d T room).due; words = (wrote d T room).words }
