-- The marks so far, and what the views in hand mark of the rest, make the whole.
use Rattle.std.proofs.Common.{◌≡◌, replicate, Some}
use Rattle.lists.specs.Nested.{from}
use Rattle.lists.specs.Marks.{noted}
use Rattle.rules.specs.Moments.{upto}
use Rattle.rules.specs.Cells.{cells}
use Rattle.walk.specs.Line.{with_mark}
use Rattle.walk.specs.Edges.{views_from}
use Rattle.walk.proofs.Marking.{in_hand, edge_of}
use Rattle.walk.proofs.mark.Given as goal

abbrev pub invariant-loop-spot : goal.invariant-loop-spot
invariant-loop-spot l =
    let b = l.fn.board in record {
      same : l.views.board ≡ b;
      past : Some l.edge ≡ edge_of l.views;
      together : from l.spot-index (noted with_mark (in_hand l.views)) l.spot-items ≡ noted with_mark (views_from b (upto b l.fn.clock) (replicate (cells b) b.k)) l.initial.spot-items;
    }
