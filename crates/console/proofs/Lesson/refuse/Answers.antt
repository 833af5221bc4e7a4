use Rattle.std.proofs.Common.{arith, rules}
use Rattle.rules.specs.Replies.{number}
use Rattle.console.proofs.Lines.{number_small, two_numbers}
use Rattle.console.proofs.Lesson.refuse.Goals as goal

pub line-requires : goal.line-requires
line-requires g c = omega (arith, two_numbers c.args.self.now.place (number c.args.refusal) (search rules) (omega (arith, number_small c.args.refusal)))
