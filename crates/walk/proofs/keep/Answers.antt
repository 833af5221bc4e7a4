use Rattle.std.proofs.Common.{◌≡◌, ◌-◌, ◌∙◌, [], length, take, drop, replicate, max, ap, arith, rules, length-take, length-drop}
use mathlib.Core.List.{append-nil}
use lib.ListN.{drop_of_length-le}
use Rattle.rules.specs.Desk.{no_entry}
use Rattle.walk.specs.Line.{kept}
use Rattle.walk.proofs.Keeping.{settles}
use Rattle.walk.proofs.keep.Goals as goal

pub returns : goal.returns
returns c =
    let l = c.loop-spot in
    let d : drop l.spot-index c.args.line.now ≡ [] = drop_of_length-le c.args.line.now {i = l.spot-index} c.loop-spot-test.false in
    let t : take l.now l.entries ≡ kept c.args.line.now = rw (d, append-nil) at l.invariant.whole in
    let n : length (take (c.max.result - l.now) (drop l.now l.entries)) ≡ max c.args.len l.now - l.now = omega (arith, length-take (c.max.result - l.now) (drop l.now l.entries), length-drop l.now l.entries) in
    let e : c.default.result ≡ no_entry = search rules in
    let z : c.fill.new.self ≡ replicate (max c.args.len l.now - l.now) no_entry = c.fill.ensures.after (λ y e. search rules) ∙ ap (λ x. replicate (length (take (c.max.result - l.now) (drop l.now l.entries))) x) e ∙ ap (λ m. replicate m no_entry) n in
    let s = settles c.args.len l.now c.args.entries.now l.entries (omega arith) t l.invariant.behind z in
    record { now = s.0; list = rw c.max.ensures s.1 }
