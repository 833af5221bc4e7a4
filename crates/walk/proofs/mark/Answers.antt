use Rattle.std.proofs.Common.{◌≡◌, ◌∙◌, ◌&&◌, Bool, ℕ, leb, ltb, sym, arith}
use Rattle.std.specs.Int.Bits.{bit_and}
use Rattle.rules.specs.declared.Board.{Board}
use Rattle.walk.specs.Line.{named_bits}
use Rattle.std.proofs.lemmas.List.{set-get_or}
use Rattle.walk.proofs.Marking.{starts, skips, marks_it, marked_early, marked_all}
use Rattle.walk.proofs.mark.Goals as goal
use Rattle.walk.proofs.mark.Goals.{then-is_shown+in-Some-edge, else-is_shown}

-- what the test says of a spot, with the board's own bits
seen : (b : Board) (edge tick bit : ℕ) {own : Board} {topics : ℕ} {answer found : Bool} → own ≡ b → topics ≡ named_bits b → found ≡ (leb edge tick && ltb 0 (bit_and topics bit)) → found ≡ answer
    → (leb edge tick && ltb 0 (bit_and (named_bits own) bit)) ≡ answer
seen b edge tick bit o n e a = rw (o, ← n) (sym e ∙ a)

pub loop-spot-init : goal.loop-spot-init
loop-spot-init c = record { same = c.at-views.ensures.same; past = sym c.in-Some.is ∙ c.edge.ensures; together = starts _ _ _ c.args.line.now c.at-views.result c.at-views.ensures }

pub returns-in_default : goal.returns-in_default
returns-in_default c = marked_early c.at-views.result c.args.line.now 0 (sym c.edge.ensures ∙ c.in_default.is) (starts _ _ _ c.args.line.now c.at-views.result c.at-views.ensures)

pub returns-in_default-edge : goal.returns-in_default-edge
returns-in_default-edge c =
    let i = c.loop-spot.invariant in
    let e = seen c.args.board c.loop-spot.edge _ _ i.same c.topics-topics.ensures c.is_shown.ensures c.if-is_shown.true in
    let t = marks_it c.loop-spot.views c.loop-spot.edge i.past c.loop-spot.spot-items c.loop-spot.spot-index (omega arith) i.together e c.lower-views.result c.lower-views.ensures in
    marked_early c.lower-views.result _ _ (sym c.edge-then-is_shown.ensures ∙ c.in_default-edge.is) t

pub loop-spot-preserved : goal.loop-spot-preserved
loop-spot-preserved c =
    let i = c.loop-spot.invariant in
    elim c.if-is_shown.branch [
      | then-is_shown+in-Some-edge w ↦
          let e = seen c.args.board c.loop-spot.edge _ _ i.same c.topics-topics.ensures c.is_shown.ensures w.if-is_shown.true in
          let t = marks_it c.loop-spot.views c.loop-spot.edge i.past c.loop-spot.spot-items c.loop-spot.spot-index (omega arith) i.together e w.lower-views.result w.lower-views.ensures in
          rw (w.views-is, w.edge-is, w.spot-items-is) (record { same = w.lower-views.ensures.same ∙ i.same; past = grind (arith, sym w.in-Some-edge.is ∙ w.edge-then-is_shown.ensures); together = t })
      | else-is_shown w ↦
          let e = seen c.args.board c.loop-spot.edge _ _ i.same c.topics-topics.ensures c.is_shown.ensures w.if-is_shown.false in
          rw (w.views-is, w.edge-is, w.spot-items-is, set-get_or) (record { same = i.same; past = i.past; together = skips c.loop-spot.views c.loop-spot.edge i.past c.loop-spot.spot-items c.loop-spot.spot-index (omega arith) i.together e })
    ]

pub returns : goal.returns
returns c = marked_all _ _ c.loop-spot.spot-index (omega arith) c.loop-spot.invariant.together
