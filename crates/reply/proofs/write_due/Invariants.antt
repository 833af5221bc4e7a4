-- The words written so far and the blocks of the boards that are left make the whole; so do the due boards.
use Rattle.std.proofs.Common.{◌≡◌, ◌+◌, ◌≤◌, length, drop}
use Rattle.lists.specs.Views.{count}
use Rattle.rules.specs.Desk.{listed}
use Rattle.rules.specs.Moments.{is_moment}
use Rattle.rules.specs.Refusals.{reply_need}
use Rattle.rules.specs.Calls.{blocks}
use Rattle.reply.proofs.Filling.{Filling}
use Rattle.reply.proofs.write_due.Given as goal

abbrev pub invariant-loop-number : goal.invariant-loop-number
invariant-loop-number l = record {
  few : l.due ≤ l.number;
  due : l.due + count (λ b. is_moment b l.at) (drop l.number l.board-items) ≡ count (λ b. is_moment b l.at) l.board-items;
  room : l.next + reply_need (drop l.number l.board-items) ≤ length l.initial.reply;
  filling : Filling l.initial.reply l.reply l.next (blocks l.number (drop l.number l.board-items) l.at (listed l.desk)) (blocks 0 l.board-items l.at (listed l.desk));
}
