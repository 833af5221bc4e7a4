-- A message given as numbers, its answer as numbers, and what the caller is left with.
use Rattle.std.specs.Prelude.{◌≡◌, List, ℕ}
use Rattle.rules.specs.Calls.{Reply, Done, MessageOutcome, message_call}
use Rattle.rules.specs.Calls.Done.{done, moved}
use Rattle.rules.specs.Calls.Reply.{refused, accepted}
use Rattle.rules.specs.declared.Desk.{Desk}
use Rattle.foreign.specs.declared.Replied.{Replied}

-- the message of these numbers, for the desk
abbrev pub numbers_call : Desk → ℕ → ℕ → ℕ → ℕ → ℕ → List ℕ → MessageOutcome
numbers_call d kind byte first second third slice = message_call d (record { kind = kind; byte = byte; first = first; second = second; third = third }) slice

-- a refusal's number, or 0 and what an accepted step returns; zeros for any other accepted message
abbrev pub replied : Reply Done → Replied
replied (refused n) = record { refusal = n; clock = 0; due = 0; words = 0 }
replied (accepted done) = record { refusal = 0; clock = 0; due = 0; words = 0 }
replied (accepted (moved s)) = record { refusal = 0; clock = s.clock; due = s.due; words = s.words }

-- the numbers, the desk and every word of the slice are those of the outcome
abbrev pub Left : MessageOutcome → Replied → Desk → List ℕ → Type 0
Left o r desk slice = (r ≡ replied o.reply) × (desk ≡ o.desk) × (slice ≡ o.slice)
