-- For each answer that is an enum in the code: this paper's number and values for each case.
use Rattle.std.specs.Prelude.{ℕ, cond, Option, Some, None, Result, Ok, Err}
use Rattle.rules.specs.Desk.{within}
use Rattle.rules.specs.Messages.{by_kind}
use Rattle.rules.specs.Calls.{Reply, Done}
use Rattle.rules.specs.Calls.Done.{done, moved}
use Rattle.rules.specs.Calls.Reply.{refused, accepted}
use Rattle.rules.specs.declared.Kind.{Kind}
use Rattle.rules.specs.declared.Refusal.{Refusal}
use Rattle.rules.specs.declared.Steps.{Steps}

abbrev pub number : Refusal → ℕ
number Refusal.Short = 1
number Refusal.Mark = 2
number Refusal.Version = 3
number Refusal.Kind = 4
number Refusal.Nonzero = 5
number Refusal.Range = 6
number Refusal.Boards = 7
number Refusal.Needs = 8
number Refusal.Phase = 9
number Refusal.Boardless = 10
number Refusal.Past = 11
number Refusal.Reply = 12
number Refusal.Place = 13
number Refusal.Room = 14
number Refusal.Form = 15
number Refusal.Disorder = 99

-- the kind of a number: 1 to 4; any other is refused
abbrev pub kind_of : ℕ → Result Kind Refusal
kind_of n = cond (within 1 4 n) (Ok (by_kind n Kind.Board Kind.Request Kind.Open Kind.Clock)) (Err Refusal.Kind)

-- a call's answer
abbrev pub replied : {A : Type 0} → Result A Refusal → Reply A
replied (Ok a) = accepted a
replied (Err r) = refused (number r)

-- a message's answer: of a step, what it returns; of any other call nothing
abbrev pub answered : Result (Option Steps) Refusal → Reply Done
answered (Ok None) = accepted done
answered (Ok (Some s)) = accepted (moved s)
answered (Err r) = refused (number r)
