use Rattle.std.proofs.Common.{arith, rules}
use Rattle.console.proofs.Lines.{three_numbers}
use Rattle.console.proofs.put_board.Goals as goal

pub line-requires : goal.line-requires
line-requires g c = omega (arith, three_numbers c.args.moment c.args.board c.args.count (search rules) (search rules) (search rules))
