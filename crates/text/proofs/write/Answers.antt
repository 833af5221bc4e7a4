-- One piece, and its end.
use Rattle.text.proofs.Whole.{to_the_end}
use Rattle.text.proofs.write.Goals as goal

pub returns : goal.returns
returns c =
    let a = c.args in
    let t = c.take in
    to_the_end t.result _ t.new.bytes a.text.now a.bytes.now a.at _ _ t.ensures c.fresh.ensures c.end.ensures c.and.ensures
