-- So many are lowered, all of which hold the tick, and the moment of the next is at hand.
use Rattle.std.proofs.Common.{◌≡◌, ◌+◌, ◌-◌, ◌≤◌, length, min}
use Rattle.lists.specs.Nested.{on_front}
use Rattle.rules.specs.Moments.{moment, upto}
use Rattle.walk.proofs.Views.lower.Given as goal

abbrev pub invariant-loop-left : goal.invariant-loop-left
invariant-loop-left l = record {
  held : l.left-index ≤ min (upto l.board (l.fn.tick + l.board.window) - l.first) (length l.initial.left-items);
  next : l.at ≡ moment l.board (l.first + l.left-index);
  lowered : l.left-items ≡ on_front (λ q. q - 1) l.left-index l.initial.left-items;
}
