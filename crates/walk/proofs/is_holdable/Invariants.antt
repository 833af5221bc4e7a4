-- The sums so far and those of the boards left make the whole, so a sum that passes 1,024 stays above it.
use Rattle.std.proofs.Common.{◌≡◌, ◌+◌, ◌≤◌, drop}
use Rattle.rules.specs.Desk.{needs as needs_of, loaded}
use Rattle.walk.specs.Walk.{sum_cells}
use Rattle.walk.proofs.is_holdable.Given as goal

abbrev pub invariant-loop-board : goal.invariant-loop-board
invariant-loop-board l =
    let bs = loaded l.desk in record {
      all : l.board-items ≡ bs;
      few : (l.cells ≤ 1024) × (l.needs ≤ 1024);
      cells : sum_cells bs ≡ l.cells + sum_cells (drop l.board-index bs);
      needs : needs_of bs ≡ l.needs + needs_of (drop l.board-index bs);
    }
