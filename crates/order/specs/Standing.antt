-- A desk in order, in one walk: all that is asked before the entries; then each entry fits, and none has a score above the one before it.
use Rattle.std.specs.Prelude.{List, Bool, ◌&&◌, ◌||◌, ℕ, eqb, leb}
use Rattle.lists.specs.Views.{all}
use Rattle.rules.specs.Desk.{needs, board_fits, clock_fits}
use Rattle.rules.specs.Refusals.{falls_from, entry_fits}
use Rattle.rules.specs.declared.Board.{Board}
use Rattle.rules.specs.declared.Entry.{Entry}
use Rattle.rules.specs.declared.Time.{Time}

unfoldable pub heads : Time → List Board → ℕ → ℕ → Bool
heads time boards count len =
    leb count 32
    && leb time.phase 1
    && clock_fits time.clock
    && all board_fits boards
    && leb (needs boards) 1024
    && leb len (needs boards)
    && (eqb time.phase 1 || eqb len 0)

unfoldable pub standing : ℕ → ℕ → List Entry → Bool
standing clock score es = all (entry_fits clock) es && falls_from score es
