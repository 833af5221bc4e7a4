use Rattle.std.proofs.Common.{arith, rules}
use Rattle.console.proofs.Lines.{one_number}
use Rattle.console.proofs.Lesson.finish.Goals as goal

pub line-requires : goal.line-requires
line-requires g c = omega (arith, one_number c.in-Ok.held (search rules))
