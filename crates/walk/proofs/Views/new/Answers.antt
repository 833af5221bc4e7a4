use Rattle.std.proofs.Common.{◌≡◌, ◌-◌, length, drop, take, ap, ◌∙◌, arith, length-drop}
use Rattle.std.proofs.lemmas.List.{take_all}
use Rattle.lists.specs.Nested.{empties}
use Rattle.lists.proofs.Nested.{empties_few}
use Rattle.walk.proofs.Edges.{numbered_past}
use Rattle.walk.proofs.Fronts.{rise_past}
use Rattle.walk.proofs.Views.new.Goals as goal

pub invariant_of-result : goal.invariant_of-result
invariant_of-result c =
    let qs = c.args.left.now in
    let full = c.empties-full.result in
    let e : take (length qs - full) (drop full qs) ≡ drop (empties qs) qs = take_all _ _ (omega (arith, length-drop full qs)) ∙ ap (λ n. drop n qs) c.empties-full.ensures in
    record {
      numbered = rw (e, length-drop) (numbered_past c.requires.numbered (omega arith) (empties_few qs));
      rise = rw e (rise_past qs c.requires.rise);
    }
