use Rattle.std.proofs.Common.{arith, rules}
use Rattle.console.proofs.Lines.{three_numbers}
use Rattle.console.proofs.put_entry.Goals as goal

pub line-requires : goal.line-requires
line-requires g c = omega (arith, three_numbers c.args.id c.args.score c.args.tick (search rules) (search rules) (search rules))
