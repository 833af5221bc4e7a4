-- The loop's invariant: the whole piece makes of the line what was begun what the rest of it makes of the line that is begun now.
use Rattle.std.proofs.Common.{◌≡◌, ◌≤◌, drop}
use Rattle.std.specs.Prelude.{Ok}
use Rattle.text.specs.Machine.{piece_call}
use Rattle.text.proofs.take.Given as goal

abbrev pub invariant-loop-byte : goal.invariant-loop-byte
invariant-loop-byte l =
    record {
      few : l.written.messages ≤ l.byte-index;
      accepted : l.written.answer ≡ Ok tt;
      same : piece_call l.fn.line l.piece 0 l.fn.bytes l.at ≡ piece_call l.line (drop l.byte-index l.piece) l.written.messages l.bytes l.written.place;
    }
