-- The sums of the boards from number i on.
use mathlib.Core.Path.{◌≡◌, refl}
use mathlib.Core.List.{List}
use Prim.Native.Nat.{ℕ, ◌+◌, ◌≤◌, ◌<◌}
use native.Mathlib.Numerals.{add-one}
use lib.ListN.{length, drop, get_or, drop_of_length-le}
use lib.Seq.{drop-cons}
use Rattle.rules.specs.Desk.{need, needs, no_board}
use Rattle.rules.specs.Cells.{cells}
use Rattle.rules.specs.declared.Board.{Board}
use Rattle.walk.specs.Walk.{sum_cells}

module _ (boards : List Board) (i : ℕ) where
  pub cells_rest : i < length boards → sum_cells (drop i boards) ≡ cells (get_or boards i no_board) + sum_cells (drop (i + 1) boards)
  unfolding sum_cells
  cells_rest h = rw (drop-cons boards i no_board h, add-one)

  pub needs_rest : i < length boards → needs (drop i boards) ≡ need (get_or boards i no_board) + needs (drop (i + 1) boards)
  unfolding needs
  needs_rest h = rw (drop-cons boards i no_board h, add-one)

  pub none_rest : length boards ≤ i → (sum_cells (drop i boards) ≡ 0) × (needs (drop i boards) ≡ 0)
  unfolding sum_cells needs
  none_rest h = rw (drop_of_length-le boards {i = i} h) (refl, refl)
