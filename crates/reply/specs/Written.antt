-- A step's blocks in a slice of words, for any desk and any slice.
use Rattle.std.specs.Prelude.{List, Bool, cond, ◌&&◌, ℕ, leb, length}
use Rattle.lists.specs.Views.{count}
use Rattle.rules.specs.Desk.{loaded, listed}
use Rattle.rules.specs.Moments.{is_moment}
use Rattle.rules.specs.Refusals.{reply_need}
use Rattle.rules.specs.Calls.{blocks, written}
use Rattle.rules.specs.declared.Desk.{Desk}
use Rattle.reply.specs.declared.Wrote.{Wrote}

-- what can be written: 32 boards, 1,024 places, and a slice that is long enough for all boards
unfoldable pub writable : Desk → ℕ → Bool
writable d room = leb d.count 32 && leb d.len 1024 && leb (reply_need (loaded d)) room

-- the slice afterwards
unfoldable pub blocks_into : Desk → ℕ → List ℕ → List ℕ
blocks_into d T slice = cond (writable d (length slice)) (written (blocks 0 (loaded d) T (listed d)) slice) slice

-- the number of due boards, and the number of words written
abbrev pub all_written : Desk → ℕ → Wrote
all_written d T = record { due = count (λ b. is_moment b T) (loaded d); words = length (blocks 0 (loaded d) T (listed d)) }

unfoldable pub wrote : Desk → ℕ → ℕ → Wrote
wrote d T room = cond (writable d room) (all_written d T) (record { due = 0; words = 0 })
