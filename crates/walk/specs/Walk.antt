-- The shared list after a step and after a request: what the future views still show of its entries. A desk that the walk cannot hold stays as it stands.
use Rattle.std.specs.Prelude.{List, [], ◌∷◌, Bool, cond, ◌&&◌, ℕ, ◌+◌, leb, Option, Some, None}
use Rattle.lists.specs.Views.{sift}
use Rattle.rules.specs.Desk.{loaded, listed, needs}
use Rattle.rules.specs.Cells.{cells, cell_views}
use Rattle.rules.specs.SharedList.{placed}
use Rattle.rules.specs.Calls.{with_list}
use Rattle.rules.specs.declared.Board.{Board}
use Rattle.rules.specs.declared.Entry.{Entry}
use Rattle.rules.specs.declared.Desk.{Desk}

unfoldable pub sum_cells : List Board → ℕ
sum_cells [] = 0
sum_cells (b ∷ bs) = cells b + sum_cells bs

-- what the walk can hold: 32 boards, 1,024 cells and needs, 1,024 places
unfoldable pub holdable : List Board → ℕ → ℕ → Bool
holdable bs count len = leb count 32 && leb (sum_cells bs) 1024 && leb (needs bs) 1024 && leb len 1024

abbrev pub walkable : Desk → Bool
walkable d = holdable (loaded d) d.count d.len

unfoldable pub thinned_to : Desk → ℕ → Desk
thinned_to d n = cond (walkable d) (with_list d n (sift (cell_views (loaded d) n) (listed d))) d

unfoldable pub with_entry : Desk → Entry → Desk
with_entry d e = cond (walkable d) (with_list d d.time.clock (sift (cell_views (loaded d) d.time.clock) (placed e (listed d)))) d

-- Both in one: the entries, with the new one, if there is one, at its place.
abbrev pub arrived : Option Entry → List Entry → List Entry
arrived None es = es
arrived (Some e) es = placed e es

abbrev pub walked_to : Desk → ℕ → Option Entry → Desk
walked_to d clock new = with_list d clock (sift (cell_views (loaded d) clock) (arrived new (listed d)))
