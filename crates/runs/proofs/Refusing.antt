-- Theorem D: a refused call gives back the desk and the slice by its definition, so nothing later can tell that it was made.
use mathlib.Core.Path.{◌≡◌, refl, ap}
use mathlib.Core.List.{◌∷◌}
use Rattle.rules.specs.Refusals.{board_rules, open_rules, request_rules}
use Rattle.rules.specs.Calls.{StepOutcome, board_call, with_board, open_call, opened, request_call, requested, entry_at}
use Rattle.rules.specs.declared.Desk.{Desk}
use Rattle.rules.proofs.Refusing.{stood, step_stood}
use Rattle.runs.specs.Runs.{Call, said, next, replies, after}
use Rattle.runs.specs.Runs.Call.{load, opening, request, step, measure, place, read}
use Rattle.runs.specs.Runs.Said.{stepped}
use Rattle.runs.specs.Theorems.{Untouched, Refused, Unseen}

unseen : (d : Desk) (c : Call) → next d c ≡ d → Untouched c (said d c) → Unseen d c
unseen d c e u =
    record { slice = u; replies = λ later. ap (λ d'. said d c ∷ replies d' later) e; desk = λ later. ap (λ d'. after d' later) e }

pub refused_unseen : (d : Desk) (c : Call) → Refused d c → Unseen d c
unfolding board_call open_call request_call
refused_unseen d (load b) h = unseen d (load b) (stood d (with_board d b) (board_rules d b) (board_call d b) refl h) tt
refused_unseen d opening h = unseen d opening (stood d (opened d) (open_rules d) (open_call d) refl h) tt
refused_unseen d (request topic id score) h =
    unseen d (request topic id score) (stood d (requested d (entry_at d topic id score)) (request_rules d topic score) (request_call d topic id score) refl h) tt
refused_unseen d (step target slice) h =
    let e = step_stood d target slice h in
    unseen d (step target slice) (ap (λ (o : StepOutcome). o.desk) e) (ap (λ (o : StepOutcome). stepped o.reply o.slice) e)
refused_unseen d measure h = unseen d measure refl tt
refused_unseen d (place at) h = unseen d (place at) refl tt
refused_unseen d (read bytes) h = unseen d (read bytes) refl tt
