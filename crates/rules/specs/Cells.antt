-- Beside document 01: the future views of a board by their number. At clock n an entry of tick t <= n lies in those from `upto b n` up to its reach,
-- so they are nested, and one cell for each holds what is left of its k.
use Rattle.std.specs.Prelude.{List, [], ◌∷◌, ◌++◌, cond, ℕ, ◌+◌, replicate}
use Rattle.lists.specs.Views.{View}
use Rattle.lists.specs.Nested.{nested}
use Rattle.rules.specs.Desk.{names, rounded_up}
use Rattle.rules.specs.Moments.{upto}
use Rattle.rules.specs.declared.Board.{Board}
use Rattle.rules.specs.declared.Entry.{Entry}

-- how many moments of the board are not past the entry's window; it does not depend on the clock
unfoldable pub reach : Board → Entry → ℕ
reach b e = cond (names b e.topic) (upto b (e.tick + b.window)) 0

unfoldable pub cells : Board → ℕ
cells b = rounded_up b.window b.slide

unfoldable pub cell_views : List Board → ℕ → List (View Entry)
cell_views [] n = []
cell_views (b ∷ bs) n = nested (reach b) (upto b n) (replicate (cells b) b.k) ++ cell_views bs n
