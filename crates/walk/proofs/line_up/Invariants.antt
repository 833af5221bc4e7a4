-- What stands in line, and what is left of the list and the new entry, is the whole.
use Rattle.std.proofs.Common.{◌≡◌, ◌++◌, ◌+◌, length, map, take, drop}
use Rattle.std.specs.Option.{option_to_list}
use Rattle.walk.specs.Line.{spot_of}
use Rattle.walk.specs.Walk.{arrived}
use Rattle.walk.proofs.line_up.Given as goal

abbrev pub invariant-loop-entry : goal.invariant-loop-entry
invariant-loop-entry l = record {
  few : l.total + length (option_to_list l.waiting) ≡ l.entry-index + length (option_to_list l.fn.new);
  whole : take l.total l.line ++ map spot_of (arrived l.waiting (drop l.entry-index l.listed)) ≡ map spot_of (arrived l.fn.new l.listed);
}
