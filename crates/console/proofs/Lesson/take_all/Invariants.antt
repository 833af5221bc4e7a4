-- What is left is a part of the input; the measure is its length.
use Rattle.std.proofs.Common.{◌≤◌, length}
use Rattle.console.proofs.Lesson.take_all.Given as goal

abbrev pub invariant-loop-rest : goal.invariant-loop-rest
invariant-loop-rest g l = length l.rest ≤ length l.input

abbrev pub decreases-loop-rest : goal.decreases-loop-rest
decreases-loop-rest g l = length l.rest
