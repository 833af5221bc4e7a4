-- Nothing else satisfies the promises: what a function gives back can be found again from the definition's outcome.
use mathlib.Core.Path.{◌≡◌, ap, ap₂}
use mathlib.Core.List.{List}
use Prim.Native.Nat.{ℕ}
use Rattle.std.specs.Prelude.{Result}
use Rattle.rules.specs.Replies.{replied}
use Rattle.rules.specs.declared.Refusal.{Refusal}
use Rattle.rules.proofs.Answering.{same_replied, determined}
use Rattle.text.specs.Lines.{TextOutcome, text_call}
use Rattle.text.specs.Machine.{PieceOutcome, taken, written, piece_call, end_call}
use Rattle.text.specs.declared.Begun.{Begun}
use Rattle.text.specs.declared.Taken.{Taken}
use Rattle.text.specs.declared.Written.{Written}

abbrev wrote : Written × List ℕ → TextOutcome
wrote r = written r.0 r.1

abbrev of_written : ℕ → ℕ → Result Unit Refusal → List ℕ → Written × List ℕ
of_written messages place answer slice = (record { messages = messages; place = place; answer = answer }, slice)

same_wrote : (r s : Written × List ℕ) → wrote r ≡ wrote s → r ≡ s
same_wrote r s e =
    let answer = same_replied r.0.answer s.0.answer (ap (λ (o : TextOutcome). o.reply) e) in
    ap₂ (λ (o : TextOutcome) a. of_written o.messages o.place a o.slice) e answer

abbrev took : Taken × List ℕ → PieceOutcome
took r = taken r.0 r.1

abbrev of_taken : Begun → Written × List ℕ → Taken × List ℕ
of_taken line w = (record { line = line; written = w.0 }, w.1)

same_took : (r s : Taken × List ℕ) → took r ≡ took s → r ≡ s
same_took r s e =
    ap₂ of_taken (ap (λ (o : PieceOutcome). o.line) e) (same_wrote (r.0.written, r.1) (s.0.written, s.1) (ap (λ (o : PieceOutcome). o.text) e))

pub take_tight : (line : Begun) (piece bytes : List ℕ) (at : ℕ) (r s : Taken × List ℕ) → took r ≡ piece_call line piece 0 bytes at → took s ≡ piece_call line piece 0 bytes at → r ≡ s
take_tight line piece bytes at = determined took same_took (piece_call line piece 0 bytes at)

pub write_tight : (text bytes : List ℕ) (at : ℕ) (r s : Written × List ℕ) → wrote r ≡ text_call text bytes at → wrote s ≡ text_call text bytes at → r ≡ s
write_tight text bytes at = determined wrote same_wrote (text_call text bytes at)

pub end_tight : (line : Begun) (a b : Result Unit Refusal) → replied a ≡ end_call line → replied b ≡ end_call line → a ≡ b
end_tight line = determined replied same_replied (end_call line)
