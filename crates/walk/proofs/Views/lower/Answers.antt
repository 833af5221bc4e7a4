use Rattle.std.proofs.Common.{◌≡◌, ◌+◌, ◌-◌, ◌≤◌, ◌∙◌, refl, ℕ, length, ap, min, arith}
use native.Mathlib.Nat.{le_antisymm}
use Rattle.std.proofs.lemmas.List.{set-get_or}
use Rattle.rules.specs.Desk.{limit}
use Rattle.rules.specs.Moments.{moment, upto}
use Rattle.lists.specs.Nested.{on_front}
use Rattle.lists.proofs.Nested.{rise_lower}
use Rattle.walk.specs.Edges.{lowered}
use Rattle.walk.proofs.Edges.{reached, beyond}
use Rattle.walk.proofs.Fronts.{front_at, front_more}
use Rattle.walk.proofs.Views.lower.Goals as goal
use Rattle.walk.proofs.Views.lower.Goals.{Left-loop-left, else-loop-left-test, then-loop-left-test+then-last-at}

pub loop-left-init : goal.loop-left-init
unfolding moment
loop-left-init c = record { held = omega arith; next = omega arith; lowered = refl }

pub loop-left-preserved : goal.loop-left-preserved
unfolding moment upto
loop-left-preserved c =
    let v = c.args.self in
    let l = c.loop-left in
    let i = l.left-index in
    record {
      held = omega (arith, reached v.board.slide (min (c.args.tick + v.board.window) limit) v.first (length v.left.now) i (v.numbered.slides (omega arith)) c.loop-left-test.true (omega (arith, l.invariant.next, c.if-last-at.false, c.min-last.ensures)));
      next = omega (arith, l.invariant.next);
      lowered = rw (l.invariant.lowered, front_at) (front_more (λ q. q - 1) i v.left.now c.loop-left-test.true);
    }

-- at the end the views that hold the tick are lowered
done : (c : Left-loop-left) → c.loop-left-test.left ≡ lowered c.args.self.board c.args.self.first c.args.tick c.args.self.left.now
unfolding lowered moment upto
done c =
    let v = c.args.self in
    let l = c.loop-left in
    let i = l.left-index in
    let held : ℕ = min (upto v.board (c.args.tick + v.board.window) - v.first) (length v.left.now) in
    let when = λ (n : held ≤ i). l.invariant.lowered ∙ ap (λ n. on_front (λ q. q - 1) n v.left.now) (le_antisymm l.invariant.held n) in
    elim c.loop-left-test.branch [
      | else-loop-left-test w ↦ w.left-is ∙ when (omega (arith, w.loop-left-test.false))
      | then-loop-left-test+then-last-at w ↦
          w.left-is ∙ set-get_or l.left-items i 0
          ∙ when (beyond v.board.slide (min (c.args.tick + v.board.window) limit) v.first (length v.left.now) i (omega (arith, l.invariant.next, w.if-last-at.true, c.min-last.ensures)))
    ]

pub new-requires-clause-rise : goal.new-requires-clause-rise
unfolding lowered
new-requires-clause-rise c =
    let v = c.args.self in
    rw (done c) (rise_lower 1 (min (upto v.board (c.args.tick + v.board.window) - v.first) (length v.left.now)) v.left.now v.rise)

pub returns : goal.returns
returns c = rw (done (goal.at.returns c).Left-loop-left) at c.new.ensures
