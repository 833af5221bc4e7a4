-- The invariant: the earliest of all is the earlier of what was found and the earliest of the boards that are left.
use Rattle.std.proofs.Common.{◌≡◌, ◌≤◌, min, drop}
use Rattle.rules.specs.Moments.{reached}
use Rattle.desk.proofs.reached.Given as goal

abbrev pub invariant-loop-board : goal.invariant-loop-board
invariant-loop-board l = record {
  at_most : l.at ≤ l.target;
  same : reached l.boards l.clock l.target ≡ min l.at (reached (drop l.board-index l.boards) l.clock l.target);
}
