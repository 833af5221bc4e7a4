-- The boards left mark what is left to mark.
use Rattle.std.proofs.Common.{◌≡◌, ◌≤◌, drop}
use Rattle.lists.specs.Marks.{noted}
use Rattle.walk.specs.Edges.{board_views}
use Rattle.walk.specs.Line.{with_mark}
use Rattle.walk.specs.Walk.{sum_cells}
use Rattle.walk.proofs.mark_all.Given as goal

abbrev pub invariant-loop-board : goal.invariant-loop-board
invariant-loop-board l = record {
  few : sum_cells (drop l.board-index l.boards) ≤ 1024;
  whole : noted with_mark (board_views (drop l.board-index l.boards) l.clock) l.line ≡ noted with_mark (board_views l.boards l.clock) l.initial.line;
}
