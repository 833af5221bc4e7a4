-- The desk that throws nothing away: it keeps every accepted request with its arrival number, and ranks each whole window anew.
use Rattle.std.specs.Prelude.{List, [], ◌∷◌, ◌++◌, map, Bool, cond, not, ℕ, suc, ◌+◌, eqb, ltb, leb, length, get_or}
use Rattle.lists.specs.Views.{View, along, count, sift}
use Rattle.lists.specs.Order.{ranked}
use Rattle.rules.specs.Desk.{need, needs, board_fits, request_fits, clock_fits, no_entry}
use Rattle.rules.specs.Moments.{is_moment, Accepted, entry_of, better, answer, reached}
use Rattle.rules.specs.SharedList.{views}
use Rattle.rules.specs.Refusals.{Rule, ◌when◌, judged, reply_need}
use Rattle.rules.specs.Calls.{block, written, reader_call}
use Rattle.rules.specs.Calls.Reply.{refused, accepted}
use Rattle.rules.specs.declared.Board.{Board}
use Rattle.rules.specs.declared.Entry.{Entry}
use Rattle.rules.specs.declared.Time.{Time}
use Rattle.runs.specs.Runs.{Call, Said}
use Rattle.runs.specs.Runs.Call.{load, opening, request, step, measure, place, read}
use Rattle.runs.specs.Runs.Said.{asked, stepped, measured, found, heard}

-- the latest accepted request stands first
pub record Ledger : Type 0 where
  pub time : Time
  pub boards : List Board
  pub requests : List Accepted

abbrev pub empty : Ledger
empty = record { time = record { clock = 0; phase = 0 }; boards = []; requests = [] }

abbrev pub open? : Ledger → Bool
open? l = eqb l.time.phase 1

-- What document 01's rule of the shared list names of all accepted requests, best first.
abbrev pub seen : List Board → ℕ → List (View Accepted)
seen boards n = map (along entry_of) (views boards n)

unfoldable pub on_list : Ledger → List Accepted
on_list l = sift (seen l.boards l.time.clock) (ranked better l.requests)

abbrev pub entries : Ledger → List Entry
entries l = map entry_of (on_list l)

-- The refusals in document 01's order. This desk is never in disorder.
abbrev pub load_rules : Ledger → Board → List Rule
load_rules l b =
    6 when not (board_fits b) ∷ 9 when open? l ∷ 7 when leb 32 (length l.boards) ∷ 8 when ltb 1024 (needs l.boards + need b) ∷ []

abbrev pub opening_rules : Ledger → List Rule
opening_rules l = 9 when open? l ∷ 10 when eqb (length l.boards) 0 ∷ []

abbrev pub request_rules : Ledger → ℕ → ℕ → List Rule
request_rules l topic score = 6 when not (request_fits topic score) ∷ 9 when not (open? l) ∷ []

abbrev pub step_rules : Ledger → ℕ → ℕ → List Rule
step_rules l target room =
    6 when not (clock_fits target) ∷ 9 when not (open? l) ∷ 11 when ltb target l.time.clock ∷ 12 when ltb room (reply_need l.boards) ∷ []

abbrev pub place_rules : Ledger → ℕ → List Rule
place_rules l at = 13 when leb (length (entries l)) at ∷ []

-- An accepted call.
abbrev pub with_board : Ledger → Board → Ledger
with_board l b = record { time = l.time; boards = l.boards ++ (b ∷ []); requests = l.requests }

abbrev pub opened : Ledger → Ledger
opened l = record { time = record { clock = l.time.clock; phase = 1 }; boards = l.boards; requests = l.requests }

abbrev pub arriving : Ledger → ℕ → ℕ → ℕ → Accepted
arriving l topic id score = record { arrival = length l.requests; entry = record { id = id; score = score; tick = l.time.clock; topic = topic } }

abbrev pub with_request : Ledger → Accepted → Ledger
with_request l x = record { time = l.time; boards = l.boards; requests = x ∷ l.requests }

abbrev pub at_clock : Ledger → ℕ → Ledger
at_clock l T = record { time = record { clock = T; phase = l.time.phase }; boards = l.boards; requests = l.requests }

-- Demand 2: each due board whole_blocks with the best k of its whole window.
unfoldable pub whole_blocks : ℕ → List Board → ℕ → List Accepted → List ℕ
whole_blocks number [] T xs = []
whole_blocks number (b ∷ bs) T xs = cond (is_moment b T) (block number (map entry_of (answer b T xs))) [] ++ whole_blocks (suc number) bs T xs

-- where a step stops
abbrev pub stop : Ledger → ℕ → ℕ
stop l target = reached l.boards l.time.clock target

abbrev pub step_said : Ledger → ℕ → List ℕ → Said
step_said l T slice =
    let words = whole_blocks 0 l.boards T l.requests in
    stepped (accepted (record { clock = T; due = count (λ b. is_moment b T) l.boards; words = length words })) (written words slice)

-- One call on this desk.
abbrev pub ledger_said : Ledger → Call → Said
ledger_said l (load b) = asked (judged (load_rules l b) refused (accepted tt))
ledger_said l opening = asked (judged (opening_rules l) refused (accepted tt))
ledger_said l (request topic id score) = asked (judged (request_rules l topic score) refused (accepted tt))
ledger_said l (step target slice) =
    judged (step_rules l target (length slice))
    (λ n. stepped (refused n) slice)
    (cond (eqb target l.time.clock) (stepped (accepted (record { clock = l.time.clock; due = 0; words = 0 })) slice) (step_said l (stop l target) slice))
ledger_said l measure = measured (accepted (length (entries l)))
ledger_said l (place at) = found (judged (place_rules l at) refused (accepted (get_or (entries l) at no_entry)))
ledger_said l (read bytes) = heard (reader_call bytes)

abbrev pub ledger_next : Ledger → Call → Ledger
ledger_next l (load b) = judged (load_rules l b) (λ n. l) (with_board l b)
ledger_next l opening = judged (opening_rules l) (λ n. l) (opened l)
ledger_next l (request topic id score) = judged (request_rules l topic score) (λ n. l) (with_request l (arriving l topic id score))
ledger_next l (step target slice) = judged (step_rules l target (length slice)) (λ n. l) (cond (eqb target l.time.clock) l (at_clock l (stop l target)))
ledger_next l measure = l
ledger_next l (place at) = l
ledger_next l (read bytes) = l

abbrev pub ledger_replies : Ledger → List Call → List Said
ledger_replies l [] = []
ledger_replies l (c ∷ cs) = ledger_said l c ∷ ledger_replies (ledger_next l c) cs

abbrev pub ledger_after : Ledger → List Call → Ledger
ledger_after l [] = l
ledger_after l (c ∷ cs) = ledger_after (ledger_next l c) cs
