-- The words of the entries shown so far and of those still to be shown make the words of all that the board shows.
use Rattle.std.proofs.Common.{◌≡◌, ◌+◌, ◌*◌, ◌++◌, ◌≤◌, length, take, drop}
use Rattle.rules.specs.Calls.{entry_words, shown_at}
use Rattle.reply.proofs.Filling.{Filling}
use Rattle.reply.proofs.write_block.Given as goal

abbrev pub invariant-loop-e : goal.invariant-loop-e
invariant-loop-e l = record {
  some : l.shown ≤ l.fn.board.k;
  count : l.shown ≡ length l.yielded;
  filling : Filling l.initial.reply l.reply (2 + 3 * l.shown) (entry_words (drop l.shown (shown_at l.fn.board l.fn.at l.fn.listed))) (take 2 l.initial.reply ++ entry_words (shown_at l.fn.board l.fn.at l.fn.listed));
}
