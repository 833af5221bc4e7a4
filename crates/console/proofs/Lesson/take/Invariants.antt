-- A step that stops short of its target moves the clock on, and no clock passes the limit.
use Rattle.std.proofs.Common.{◌-◌}
use Rattle.console.proofs.Lesson.take.Given as goal

abbrev pub decreases-loop-steps : goal.decreases-loop-steps
decreases-loop-steps g l = 1000000000 - l.self.desk.time.clock
