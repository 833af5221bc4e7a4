-- What stands on the list, and what is marked of the rest, is all that is marked; behind what is kept nothing was written yet.
use Rattle.std.proofs.Common.{◌≡◌, ◌++◌, ◌≤◌, length, take, drop}
use Rattle.walk.specs.Line.{kept}
use Rattle.walk.proofs.keep.Given as goal

abbrev pub invariant-loop-spot : goal.invariant-loop-spot
invariant-loop-spot l = record {
  fits : (l.now ≤ 1024) × (length l.entries ≡ 1024);
  behind : drop l.now l.entries ≡ drop l.now l.initial.entries;
  whole : take l.now l.entries ++ kept (drop l.spot-index l.line) ≡ kept l.line;
}
