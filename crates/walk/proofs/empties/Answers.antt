use Rattle.std.proofs.Common.{◌∙◌, eqb, rules}
use borrow.Author.Tests.{tests}
use Rattle.std.proofs.lemmas.Iterator.{YieldsList-from_slice}
use Rattle.std.proofs.lemmas.Iterator.Search.{YieldsList-from_take_while}
use Rattle.std.proofs.lemmas.Iterator.Consumers.{count_from_yields_List}
use Rattle.std.proofs.lemmas.List.Folds.{length-prefix_len}
use Rattle.walk.proofs.Fronts.{empties_prefix}
use Rattle.walk.proofs.empties.Goals as goal

pub returns : goal.returns
returns c =
    let qs = c.args.left.now in
    count_from_yields_List c.take_while.result _ c.count.ensures.ran
    (YieldsList-from_take_while _ (λ q. eqb q 0) (YieldsList-from_slice qs cc) c.take_while.ensures.closure c.take_while.ensures.done (λ x b q k. search (rules, tests)))
    ∙ length-prefix_len (λ q. eqb q 0) qs ∙ empties_prefix qs
