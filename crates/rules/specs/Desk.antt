-- Document 01, "What the desk has": the ranges, the need of a board, the topics that a mask names.
use Rattle.std.specs.Prelude.{List, [], ◌∷◌, Bool, ◌&&◌, ◌||◌, ℕ, ◌+◌, ◌-◌, ◌*◌, ◌/◌, ◌%◌, ◌^◌, ◌≤◌, eqb, ltb, leb, take, replicate}
use Rattle.rules.specs.declared.Board.{Board}
use Rattle.rules.specs.declared.Entry.{Entry}
use Rattle.rules.specs.declared.Desk.{Desk}

-- the last tick of the clock, and the highest score
abbrev pub limit : ℕ
limit = 1000000000

abbrev pub within : ℕ → ℕ → ℕ → Bool
within low high n = leb low n && leb n high

-- topics are 0 to 7; bit i of a mask names topic i, and the mask 0 names all eight
unfoldable pub names : Board → ℕ → Bool
names b topic = ltb topic 8 && (eqb b.mask 0 || eqb (b.mask / 2 ^ topic % 2) 1)

-- a divided by b, rounded up
unfoldable pub rounded_up : ℕ → ℕ → ℕ
rounded_up a b = (a + (b - 1)) / b

-- Only the quotient is rounded, before k is applied.
unfoldable pub need : Board → ℕ
need b = b.k * rounded_up b.window b.slide

unfoldable pub needs : List Board → ℕ
needs [] = 0
needs (b ∷ bs) = need b + needs bs

-- The ranges of a board's fields, of a request's, and of a clock or a target.
pub record BoardFits (b : Board) : Type 0 where
  pub mask : b.mask ≤ 255
  pub window : (1 ≤ b.window) × (b.window ≤ 86400)
  pub slide : (1 ≤ b.slide) × (b.slide ≤ 86400)
  pub k : (1 ≤ b.k) × (b.k ≤ 256)

unfoldable pub board_fits : Board → Bool
board_fits b = leb b.mask 255 && within 1 86400 b.window && within 1 86400 b.slide && within 1 256 b.k

unfoldable pub request_fits : ℕ → ℕ → Bool
request_fits topic score = leb topic 7 && leb score limit

abbrev pub clock_fits : ℕ → Bool
clock_fits n = leb n limit

-- the boards of a desk, numbered from 0 as loaded, and the entries on its list, best first
abbrev pub loaded : Desk → List Board
loaded d = take d.count d.boards

abbrev pub listed : Desk → List Entry
listed d = take d.len d.entries

abbrev pub is_open : Desk → Bool
is_open d = eqb d.time.phase 1

-- a row and a place that hold zeros, and the fresh desk
abbrev pub no_board : Board
no_board = record { mask = 0; window = 0; slide = 0; k = 0 }

abbrev pub no_entry : Entry
no_entry = record { id = 0; score = 0; tick = 0; topic = 0 }

unfoldable pub fresh : Desk
fresh = record {
  time = record { clock = 0; phase = 0 };
  count = 0;
  boards = replicate 32 no_board;
  len = 0;
  entries = replicate 1024 no_entry;
}
