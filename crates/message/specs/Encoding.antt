-- What bytes and fields are as numbers: for the theorems of reading and writing, and the last for what the reader has of all fields.
use Rattle.std.specs.Prelude.{List, ℕ, ◌<◌, ◌^◌, length, get_or}
use Rattle.rules.specs.Messages.{Holds, value_of, kind_at, number_at}
use Rattle.rules.specs.declared.Message.{Message}

-- every element is a byte
abbrev pub Bytes : List ℕ → Type 0
Bytes xs = (place : ℕ) → place < length xs → get_or xs place 0 < 256

-- every field has 32 bits
abbrev pub Words : Message → Type 0
Words m = (field : Holds) → value_of field m < 2 ^ 32

-- all numbers that stand in the parts of a board, whatever the kind
abbrev pub numbers : List ℕ → Message
numbers bytes =
    record {
      kind = kind_at bytes;
      byte = number_at bytes 6 1;
      first = number_at bytes 8 4;
      second = number_at bytes 12 4;
      third = number_at bytes 16 4;
    }
