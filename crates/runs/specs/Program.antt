-- The program's run: each call is the function's, and gives back an answer, and leaves a desk, that keep the function's promise.
use Rattle.std.specs.Prelude.{◌≡◌, List, [], ◌∷◌, ℕ, Result}
use Rattle.rules.specs.Calls.{reader_call, length_call, place_call, board_call, open_call, request_call, step_call}
use Rattle.rules.specs.Replies.{replied}
use Rattle.rules.specs.declared.Board.{Board}
use Rattle.rules.specs.declared.Entry.{Entry}
use Rattle.rules.specs.declared.Message.{Message}
use Rattle.rules.specs.declared.Desk.{Desk}
use Rattle.rules.specs.declared.Refusal.{Refusal}
use Rattle.rules.specs.declared.Steps.{Steps}
use Rattle.desk.specs.Outcomes.{outcome, step_outcome}
use Rattle.runs.specs.Runs.{Call, Said}
use Rattle.runs.specs.Runs.Call.{load, opening, request, step, measure, place, read}
use Rattle.runs.specs.Runs.Said.{asked, stepped, measured, found, heard}

-- From a desk, over these calls, with these replies, to a desk. A call's premise is the `ensures` of the function that it calls; the desk at its exit goes on.
pub data Program : Desk → List Call → List Said → Desk → Type 0 where
  ends : {d : Desk} → Program d [] [] d
  -- desk::load, desk::open, desk::request
  loads : {d e : Desk} {b : Board} {cs : List Call} {ss : List Said} (r : Result Unit Refusal) (exit : Desk)
      → outcome r exit ≡ board_call d b → Program exit cs ss e → Program d (load b ∷ cs) (asked (replied r) ∷ ss) e
  opens : {d e : Desk} {cs : List Call} {ss : List Said} (r : Result Unit Refusal) (exit : Desk)
      → outcome r exit ≡ open_call d → Program exit cs ss e → Program d (opening ∷ cs) (asked (replied r) ∷ ss) e
  requests : {d e : Desk} {topic id score : ℕ} {cs : List Call} {ss : List Said} (r : Result Unit Refusal) (exit : Desk)
      → outcome r exit ≡ request_call d topic id score → Program exit cs ss e → Program d (request topic id score ∷ cs) (asked (replied r) ∷ ss) e
  -- desk::step, with what its slice holds at exit
  steps : {d e : Desk} {target : ℕ} {slice : List ℕ} {cs : List Call} {ss : List Said} (r : Result Steps Refusal) (exit : Desk) (words : List ℕ)
      → step_outcome r exit words ≡ step_call d target slice → Program exit cs ss e
      → Program d (step target slice ∷ cs) (stepped (replied r) words ∷ ss) e
  -- desk::length, desk::place, message::read
  measures : {d e : Desk} {cs : List Call} {ss : List Said} (r : Result ℕ Refusal) → replied r ≡ length_call d → Program d cs ss e
      → Program d (measure ∷ cs) (measured (replied r) ∷ ss) e
  places : {d e : Desk} {at : ℕ} {cs : List Call} {ss : List Said} (r : Result Entry Refusal) → replied r ≡ place_call d at → Program d cs ss e
      → Program d (place at ∷ cs) (found (replied r) ∷ ss) e
  reads : {d e : Desk} {bytes : List ℕ} {cs : List Call} {ss : List Said} (r : Result Message Refusal) → replied r ≡ reader_call bytes → Program d cs ss e
      → Program d (read bytes ∷ cs) (heard (replied r) ∷ ss) e
