-- What the teacher asked for, over runs of calls from a fresh desk. The demands' words stand beside each theorem; the proofs are in proofs/.
use Rattle.std.specs.Prelude.{◌≡◌, List, [], ◌∷◌, ◌↔◌, ℕ, ◌≤◌, ◌<◌, length}
use Rattle.lists.specs.Views.{◌∈◌}
use Rattle.lists.specs.Order.{Falling}
use Rattle.rules.specs.Desk.{needs, loaded, listed, fresh}
use Rattle.rules.specs.Moments.{Moment, Accepted, better, Answer, answer}
use Rattle.rules.specs.SharedList.{OnList}
use Rattle.rules.specs.Refusals.{InOrder}
use Rattle.rules.specs.Calls.{refusal}
use Rattle.rules.specs.Calls.Reply.{refused, accepted}
use Rattle.rules.specs.declared.Board.{Board}
use Rattle.rules.specs.declared.Desk.{Desk}
use Rattle.rules.specs.declared.Steps.{Steps}
use Rattle.runs.specs.Runs.{Call, Said, said, replies, after}
use Rattle.runs.specs.Runs.Call.{load, opening, request, step, measure, place, read}
use Rattle.runs.specs.Runs.Said.{asked, stepped, measured, found, heard}
use Rattle.runs.specs.Program.{Program}
use Rattle.runs.specs.Ledger.{Ledger, empty, on_list, entries, stop, ledger_said, ledger_next, ledger_replies, ledger_after}

-- the ledger of a run: every accepted request, and nothing thrown away
abbrev pub kept : List Call → Ledger
kept run = ledger_after empty run

-- A. "The shared list gives the same answers as a desk that throws nothing away and ranks each whole window anew."
pub record SameAnswers (run : List Call) : Type 0 where
  -- call by call: the same reply or refusal, the same words in the reply slice
  pub replies : replies fresh run ≡ ledger_replies empty run
  -- the same clock and phase, the same boards
  pub time : (after fresh run).time ≡ (kept run).time
  pub boards : loaded (after fresh run) ≡ (kept run).boards
  -- the list, entry for entry and in order: what the list's rule names of all requests accepted so far, best first
  pub list : listed (after fresh run) ≡ entries (kept run)
  pub named : (x : Accepted) → (x ∈ on_list (kept run)) ↔ ((x ∈ (kept run).requests) × OnList (kept run).boards (kept run).time.clock (kept run).requests x)
  pub order : Falling better (on_list (kept run))
  -- and an answer of that desk is demand 2's: the best k of the board's window, and nothing else
  pub answers : (b : Board) (T : ℕ) (shown : List Accepted) → Answer b T (kept run).requests shown ↔ (shown ≡ answer b T (kept run).requests)

-- B. "A request is on the list exactly when some continuation would still show it on some board."

-- a continuation: requests and clock steps, each of them accepted
abbrev pub Goes : Ledger → Call → Type 0
Goes l (load b) = ⊥
Goes l opening = ⊥
Goes l (request topic id score) = ledger_said l (request topic id score) ≡ asked (accepted tt)
Goes l (step target slice) = (s : Steps) × (words : List ℕ) × (ledger_said l (step target slice) ≡ stepped (accepted s) words)
Goes l measure = ⊥
Goes l (place at) = ⊥
Goes l (read bytes) = ⊥

abbrev pub Continues : Ledger → List Call → Type 0
Continues l [] = Unit {0}
Continues l (c ∷ cs) = Goes l c × Continues (ledger_next l c) cs

-- after it one more step reaches a moment of some board, whose answer has that very request
pub record ShownLater (l : Ledger) (x : Accepted) : Type 0 where
  pub calls : List Call
  pub goes : Continues l calls
  pub target : ℕ
  pub slice : List ℕ
  pub steps : Goes (ledger_after l calls) (step target slice)
  pub moves : (ledger_after l calls).time.clock < stop (ledger_after l calls) target
  pub board : Board
  pub loaded : board ∈ l.boards
  pub due : Moment board (stop (ledger_after l calls) target)
  pub shown : x ∈ answer board (stop (ledger_after l calls) target) (ledger_after l calls).requests

abbrev pub Exactly : List Call → Type 0
Exactly run = (x : Accepted) → x ∈ (kept run).requests → (x ∈ on_list (kept run)) ↔ ShownLater (kept run) x

-- C. "So the list never runs out of room": never more than the sum of needs; the entries in the list's order; and no call answers 99.

-- a refusal's number; 0 where the call is accepted
abbrev pub number : Said → ℕ
number (asked r) = refusal r
number (stepped r words) = refusal r
number (measured r) = refusal r
number (found r) = refusal r
number (heard r) = refusal r

pub record Room (run : List Call) : Type 0 where
  pub room : length (listed (after fresh run)) ≤ needs (loaded (after fresh run))
  pub order : InOrder (after fresh run)
  pub never99 : (s : Said) → s ∈ replies fresh run → number s ≡ 99 → ⊥

-- D. "Every call ends in a reply or a numbered refusal; then the desk and the caller's reply slice stay as they stood": of any desk at all.
abbrev pub Untouched : Call → Said → Type 0
Untouched (step target slice) s = s ≡ stepped (refused (number s)) slice
Untouched (load b) s = Unit {0}
Untouched opening s = Unit {0}
Untouched (request topic id score) s = Unit {0}
Untouched measure s = Unit {0}
Untouched (place at) s = Unit {0}
Untouched (read bytes) s = Unit {0}

abbrev pub Refused : Desk → Call → Type 0
Refused d c = 0 < number (said d c)

pub record Unseen (d : Desk) (c : Call) : Type 0 where
  pub slice : Untouched c (said d c)
  -- whatever comes later is the same as if the call had never been made
  pub replies : (later : List Call) → replies d (c ∷ later) ≡ said d c ∷ replies d later
  pub desk : (later : List Call) → after d (c ∷ later) ≡ after d later

-- These are theorems about the program: whatever its functions give back along a run, by their promises, is what the definitions give.
abbrev pub OfTheProgram : Type 0
OfTheProgram = (d e : Desk) (run : List Call) (given : List Said) → Program d run given e → (given ≡ replies d run) × (e ≡ after d run)

pub record Theorems : Type 0 where
  pub program : OfTheProgram
  pub A : (run : List Call) → SameAnswers run
  pub B : (run : List Call) → Exactly run
  pub C : (run : List Call) → Room run
  pub D : (d : Desk) (c : Call) → Refused d c → Unseen d c
