-- Document 01, "Messages": 20 bytes, big-endian numbers, and one table of the four kinds that reader, writer and text go by.
use Rattle.std.specs.Prelude.{List, [], ◌∷◌, ◌++◌, Bool, true, false, cond, ◌&&◌, ℕ, zero, suc, ◌+◌, ◌*◌, ◌/◌, ◌%◌, ◌^◌, eqb, length, get_or, take, drop}
use Rattle.lists.specs.Views.{all}
use Rattle.rules.specs.Desk.{board_fits, request_fits, clock_fits}
use Rattle.rules.specs.declared.Board.{Board}
use Rattle.rules.specs.declared.Message.{Message}

-- the ASCII letters "DTR"
abbrev pub mark : List ℕ
mark = 68 ∷ 84 ∷ 82 ∷ []

abbrev pub same_bytes : List ℕ → List ℕ → Bool
same_bytes [] [] = true
same_bytes [] (y ∷ ys) = false
same_bytes (x ∷ xs) [] = false
same_bytes (x ∷ xs) (y ∷ ys) = eqb x y && same_bytes xs ys

-- the first byte counts most
unfoldable pub big_endian : List ℕ → ℕ
big_endian [] = 0
big_endian (x ∷ xs) = x * 256 ^ length xs + big_endian xs

-- the number in `size` bytes from a place on
abbrev pub number_at : List ℕ → ℕ → ℕ → ℕ
number_at bytes from size = big_endian (take size (drop from bytes))

-- n places from one on
abbrev pub places : ℕ → ℕ → List ℕ
places from zero = []
places from (suc n) = from ∷ places (suc from) n

-- What stands in the kind's column of the table: 1 board, 2 request, 3 open, 4 clock.
abbrev pub by_kind : {A : Type 0} → ℕ → A → A → A → A → A
by_kind kind board request opening clock = cond (eqb kind 1) board (cond (eqb kind 2) request (cond (eqb kind 3) opening clock))

-- What a part of a message holds: one of its fields, or zeros.
pub data Holds : Type 0 where
  zeros : Holds
  byte : Holds
  first : Holds
  second : Holds
  third : Holds

abbrev pub is_field : Holds → Bool
is_field zeros = false
is_field byte = true
is_field first = true
is_field second = true
is_field third = true

-- A part: the place of its first byte, how many bytes it has, and what it holds.
pub record Part : Type 0 where
  pub place : ℕ
  pub size : ℕ
  pub holds : Holds

-- The table behind byte 5: what a kind has in byte 6, byte 7, bytes 8-11, 12-15 and 16-19.
abbrev pub row : Holds → Holds → Holds → Holds → Holds → List Part
row six seven eight twelve sixteen =
    record { place = 6; size = 1; holds = six }
    ∷ record { place = 7; size = 1; holds = seven }
    ∷ record { place = 8; size = 4; holds = eight }
    ∷ record { place = 12; size = 4; holds = twelve }
    ∷ record { place = 16; size = 4; holds = sixteen }
    ∷ []

unfoldable pub layout : ℕ → List Part
layout kind =
    by_kind kind
    (row byte zeros first second third)
    (row byte zeros first second zeros)
    (row zeros zeros zeros zeros zeros)
    (row zeros zeros first zeros zeros)

-- the places that must be zero
unfoldable pub zero_places : List Part → List ℕ
zero_places [] = []
zero_places (p ∷ ps) = cond (is_field p.holds) [] (places p.place p.size) ++ zero_places ps

abbrev pub is_zero : List ℕ → ℕ → Bool
is_zero bytes place = eqb (get_or bytes place 0) 0

unfoldable pub zeros_stand : List ℕ → ℕ → Bool
zeros_stand bytes kind = all (is_zero bytes) (zero_places (layout kind))

-- what a message has of it, and the message with this number in its place
abbrev pub value_of : Holds → Message → ℕ
value_of zeros m = 0
value_of byte m = m.byte
value_of first m = m.first
value_of second m = m.second
value_of third m = m.third

abbrev pub holding : Holds → ℕ → Message → Message
holding zeros n m = m
holding byte n m = record { kind = m.kind; byte = n; first = m.first; second = m.second; third = m.third }
holding first n m = record { kind = m.kind; byte = m.byte; first = n; second = m.second; third = m.third }
holding second n m = record { kind = m.kind; byte = m.byte; first = m.first; second = n; third = m.third }
holding third n m = record { kind = m.kind; byte = m.byte; first = m.first; second = m.second; third = n }

-- a message of a kind with no field, and with what is given for each of these parts
abbrev pub blank : ℕ → Message
blank kind = record { kind = kind; byte = 0; first = 0; second = 0; third = 0 }

abbrev pub filled : List Part → (Part → ℕ) → Message → Message
filled [] given m = m
filled (p ∷ ps) given m = holding p.holds (given p) (filled ps given m)

-- The message in these bytes: each field of its kind is the number that stands in its part; fields that the kind does not have are 0.
abbrev pub kind_at : List ℕ → ℕ
kind_at bytes = number_at bytes 5 1

unfoldable pub message : List ℕ → Message
message bytes = filled (layout (kind_at bytes)) (λ p. number_at bytes p.place p.size) (blank (kind_at bytes))

-- A message with the fields of its kind alone, the others 0.
unfoldable pub own : Message → Message
own m = filled (layout m.kind) (λ p. value_of p.holds m) (blank m.kind)

-- a number in n bytes: the last is its remainder by 256, those before it are the bytes of the quotient
unfoldable pub digits : ℕ → ℕ → List ℕ
digits zero x = []
digits (suc n) x = digits n (x / 256) ++ (x % 256 ∷ [])

-- The bytes of a message: the mark, the version, the kind, and what it has in each part; zeros where the kind has no field.
unfoldable pub laid : List Part → Message → List ℕ
laid [] m = []
laid (p ∷ ps) m = digits p.size (value_of p.holds m) ++ laid ps m

unfoldable pub encoded : ℕ → Message → List ℕ
encoded version m = mark ++ (digits 2 version ++ (digits 1 m.kind ++ laid (layout m.kind) m))

-- mask, window, slide and k of a board message
abbrev pub board_of : Message → Board
board_of m = record { mask = m.byte; window = m.first; slide = m.second; k = m.third }

-- a board's ranges; topic and score of a request; nothing to open; the target of a clock
unfoldable pub fields_fit : Message → Bool
fields_fit m = by_kind m.kind (board_fits (board_of m)) (request_fits m.byte m.second) true (clock_fits m.first)

-- what follows the twentieth byte
abbrev pub rest : List ℕ → List ℕ
rest bytes = drop 20 bytes
