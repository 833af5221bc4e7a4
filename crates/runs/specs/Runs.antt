-- A run: any list of calls, early, late, out of range, refused ones included, and bytes that only the reader sees.
use Rattle.std.specs.Prelude.{List, [], ◌∷◌, ℕ}
use Rattle.rules.specs.Calls.{Reply, reader_call, length_call, place_call, board_call, open_call, request_call, step_call}
use Rattle.rules.specs.declared.Board.{Board}
use Rattle.rules.specs.declared.Entry.{Entry}
use Rattle.rules.specs.declared.Message.{Message}
use Rattle.rules.specs.declared.Desk.{Desk}
use Rattle.rules.specs.declared.Steps.{Steps}

pub data Call : Type 0 where
  -- a board; open; a request's topic, id and score; a step's target and the slice lent to it
  load : Board → Call
  opening : Call
  request : ℕ → ℕ → ℕ → Call
  step : ℕ → List ℕ → Call
  -- the list's length, and a place of it
  measure : Call
  place : ℕ → Call
  -- bytes for the reader; what it refuses goes no further
  read : List ℕ → Call

-- what the caller is given: a reply, and of a step the words of the slice
pub data Said : Type 0 where
  asked : Reply Unit → Said
  stepped : Reply Steps → List ℕ → Said
  measured : Reply ℕ → Said
  found : Reply Entry → Said
  heard : Reply Message → Said

-- One call on a desk, by document 01's definitions.
abbrev pub said : Desk → Call → Said
said d (load b) = asked (board_call d b).reply
said d opening = asked (open_call d).reply
said d (request topic id score) = asked (request_call d topic id score).reply
said d (step target slice) = stepped (step_call d target slice).reply (step_call d target slice).slice
said d measure = measured (length_call d)
said d (place at) = found (place_call d at)
said d (read bytes) = heard (reader_call bytes)

abbrev pub next : Desk → Call → Desk
next d (load b) = (board_call d b).desk
next d opening = (open_call d).desk
next d (request topic id score) = (request_call d topic id score).desk
next d (step target slice) = (step_call d target slice).desk
next d measure = d
next d (place at) = d
next d (read bytes) = d

-- A run from a desk: what every call is given, and the desk at the end.
abbrev pub replies : Desk → List Call → List Said
replies d [] = []
replies d (c ∷ cs) = said d c ∷ replies (next d c) cs

abbrev pub after : Desk → List Call → Desk
after d [] = d
after d (c ∷ cs) = after (next d c) cs
