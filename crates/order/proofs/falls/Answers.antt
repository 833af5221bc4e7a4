-- The closure compares two scores each time it is called, and no more.
use Rattle.std.proofs.Common.{rules}
use Rattle.std.proofs.lemmas.Fn.{always_returns_same}
use Rattle.order.proofs.Falling.{next_falls, fallen}
use Rattle.order.proofs.falls.Goals as goal

pub returns : goal.returns
returns c = fallen _ _ (c.is_sorted_by.ensures.cases next_falls (always_returns_same _ _ _ (λ x r f' k. search rules)))
