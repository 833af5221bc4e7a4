-- The invariant: the sum so far and the needs that are left are the sum of needs, or both are past the largest number.
use Rattle.std.proofs.Common.{◌-◌, ◌≡◌, ◌+◌, ◌^◌, ◌<◌, min, drop}
use Rattle.rules.specs.Desk.{needs}
use Rattle.order.proofs.sum_of_needs.Given as goal

abbrev pub invariant-loop-board : goal.invariant-loop-board
invariant-loop-board l = record {
  small : l.sum < 2 ^ 64;
  left : min (l.sum + needs (drop l.board-index l.boards)) (2 ^ 64 - 1) ≡ min (needs l.boards) (2 ^ 64 - 1);
}
