-- What is left of the words are blocks; the measure is how many they are.
use Rattle.std.proofs.Common.{length}
use Rattle.console.specs.Steps.{Blocks}
use Rattle.console.proofs.put_blocks.Given as goal

abbrev pub invariant-loop-left : goal.invariant-loop-left
invariant-loop-left g l = Blocks l.left

abbrev pub decreases-loop-left : goal.decreases-loop-left
decreases-loop-left g l = length l.left
