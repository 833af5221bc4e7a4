use Rattle.std.proofs.Common.{◌∙◌, sym, arith}
use Rattle.text.proofs.Pieces.{line_refused, room}
use Rattle.text.proofs.take.Goals as goal

pub returns-then-is_err : goal.returns-then-is_err
returns-then-is_err c =
    let l = c.loop-byte in
    let e = c.line_end-written in
    line_refused l.line c.args.piece.now l.byte-index l.written.messages l.bytes l.written.place c.loop-byte-test.true e.new.bytes e.result c.if-byte-eq10.true (sym c.if-is_err.ensures.value) e.ensures
    ∙ sym l.invariant.same

pub overflow_add-written-then-byte-eq10 : goal.overflow_add-written-then-byte-eq10
overflow_add-written-then-byte-eq10 c =
    let w = c.loop-byte.written in
    omega (arith, room c.loop-byte.line c.loop-byte.bytes _ w.place _ (sym c.if-is_err.ensures.value) c.line_end-written.ensures)
