-- The loop goes over the entries that the board shows: each turn writes the next of them, and at the end none is left.
use Rattle.std.proofs.Common.{rules, tests, arith}
use Rattle.std.proofs.lemmas.Iterator.Consumers.{YieldsList-turn, YieldsList-end}
use Rattle.std.proofs.lemmas.List.{length_push}
use Rattle.rules.specs.Calls.{shown_at}
use Rattle.reply.proofs.Showing.{goes_over, few_shown, next_shown, blocked}
use Rattle.reply.proofs.write_block.Goals as goal

pub loop-e-preserved : goal.loop-e-preserved
loop-e-preserved c =
    let b = c.args.board in
    let es = c.args.listed.now in
    let turn =
    YieldsList-turn (goes_over b c.args.at es _ c.iter.ensures.rest c.filter.ensures.source c.filter.ensures.closure (λ x r q k. search (rules, tests))
    c.take-e-items.ensures.source c.take-e-items.ensures.count c.into_iter-e-iterator.ensures.into_iter_gives)
    c.loop-e.yielded _ c.loop-e.yielded_by _ _ c.in-Some.e c.in-Some.is c.next.ensures.steps in
    let here = rw (← c.loop-e.invariant.count) at turn in
    let few = few_shown b c.args.at es in
    record {
      some = omega (arith, here.0, few);
      count = omega (arith, length_push c.loop-e.yielded c.in-Some.e);
      filling =
          next_shown (shown_at b c.args.at es) c.loop-e.shown c.in-Some.e.now c.loop-e.invariant.filling here (omega (arith, here.0, few)) (omega (arith, here.0, few))
          c.write_entry.ensures;
    }

pub returns : goal.returns
returns c =
    let b = c.args.board in
    let es = c.args.listed.now in
    let end =
    YieldsList-end (goes_over b c.args.at es _ c.iter.ensures.rest c.filter.ensures.source c.filter.ensures.closure (λ x r q k. search (rules, tests))
    c.take-e-items.ensures.source c.take-e-items.ensures.count c.into_iter-e-iterator.ensures.into_iter_gives)
    c.loop-e.yielded _ c.loop-e.yielded_by _ _ c.in-None.is c.next.ensures.steps in
    blocked c.args.number c.args.reply.now (shown_at b c.args.at es) (omega arith) c.loop-e.invariant.filling (rw (← c.loop-e.invariant.count) at end.1)
