-- Fewer than 20 bytes are left at each turn, so there is room for a read.
use Rattle.std.proofs.Common.{◌<◌}
use Rattle.console.proofs.run.Given as goal

abbrev pub invariant-loop : goal.invariant-loop
invariant-loop g l = l.left < 20
