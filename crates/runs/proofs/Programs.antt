-- The composition of the functions' promises along a run is the run of the definitions: each promise equates reply, desk and slice with its definition.
use mathlib.Core.Path.{◌≡◌, refl, ap, ap₂, ◌∙◌}
use mathlib.Core.List.{List, ◌∷◌}
use Rattle.rules.specs.Calls.{Outcome, StepOutcome}
use Rattle.rules.specs.declared.Desk.{Desk}
use Rattle.runs.specs.Runs.{Call, Said, said, next, replies, after}
use Rattle.runs.specs.Runs.Call.{load, opening, request, step, measure, place, read}
use Rattle.runs.specs.Runs.Said.{asked, stepped, measured, found, heard}
use Rattle.runs.specs.Program.{Program}
use Rattle.runs.specs.Program.Program.{ends, loads, opens, requests, steps, measures, places, reads}

-- one call more
onward : {d' e : Desk} {s : Said} {ss : List Said} (d : Desk) (c : Call) (cs : List Call) → s ≡ said d c → d' ≡ next d c → (ss ≡ replies d' cs) × (e ≡ after d' cs)
    → (s ∷ ss ≡ replies d (c ∷ cs)) × (e ≡ after d (c ∷ cs))
onward d c cs p q r = (ap₂ (λ s ss. s ∷ ss) p (r.0 ∙ ap (λ d. replies d cs) q), r.1 ∙ ap (λ d. after d cs) q)

pub program_runs : {d e : Desk} {cs : List Call} {ss : List Said} → Program d cs ss e → (ss ≡ replies d cs) × (e ≡ after d cs)
program_runs ends = (refl, refl)
program_runs (loads {d} {b} {cs} r exit p q) = onward d (load b) cs (ap (λ (o : Outcome Unit). asked o.reply) p) (ap (λ (o : Outcome Unit). o.desk) p) (program_runs q)
program_runs (opens {d} {cs} r exit p q) = onward d opening cs (ap (λ (o : Outcome Unit). asked o.reply) p) (ap (λ (o : Outcome Unit). o.desk) p) (program_runs q)
program_runs (requests {d} {topic} {id} {score} {cs} r exit p q) =
    onward d (request topic id score) cs (ap (λ (o : Outcome Unit). asked o.reply) p) (ap (λ (o : Outcome Unit). o.desk) p) (program_runs q)
program_runs (steps {d} {target} {slice} {cs} r exit words p q) =
    onward d (step target slice) cs (ap (λ (o : StepOutcome). stepped o.reply o.slice) p) (ap (λ (o : StepOutcome). o.desk) p) (program_runs q)
program_runs (measures {d} {cs} r p q) = onward d measure cs (ap measured p) refl (program_runs q)
program_runs (places {d} {at} {cs} r p q) = onward d (place at) cs (ap found p) refl (program_runs q)
program_runs (reads {d} {bytes} {cs} r p q) = onward d (read bytes) cs (ap heard p) refl (program_runs q)
