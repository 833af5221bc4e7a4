-- The theorems of specs/Theorems, proved.
use Rattle.runs.specs.Theorems.{Theorems}
use Rattle.runs.proofs.Programs.{program_runs}
use Rattle.runs.proofs.Running.{same_answers, room}
use Rattle.runs.proofs.Continuing.{exactly}
use Rattle.runs.proofs.Refusing.{refused_unseen}

pub theorems : Theorems
theorems = record { program = λ d e run given p. program_runs p; A = same_answers; B = exactly; C = room; D = refused_unseen }
