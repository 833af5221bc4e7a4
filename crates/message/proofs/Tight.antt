-- Nothing else satisfies the promises of reader and writer: an answer can be found again from its reply, and the slice stands beside it.
use mathlib.Core.Path.{◌≡◌, ap}
use mathlib.Core.List.{List}
use Prim.Native.Nat.{ℕ}
use Rattle.std.specs.Prelude.{Result}
use Rattle.rules.specs.Calls.{WriterOutcome, reader_call, writer_call}
use Rattle.rules.specs.Replies.{replied}
use Rattle.rules.specs.declared.Message.{Message}
use Rattle.rules.specs.declared.Refusal.{Refusal}
use Rattle.rules.proofs.Answering.{same_replied, determined}
use Rattle.message.specs.Outcomes.{wrote}

-- Two answers to the same bytes that keep the promise are the same.
pub read_tight : (bytes : List ℕ) (a b : Result Message Refusal) → replied a ≡ reader_call bytes → replied b ≡ reader_call bytes → a ≡ b
read_tight bytes = determined replied same_replied (reader_call bytes)

-- of a write, the answer and every byte of the slice
pub record Writing : Type 0 where
  pub answer : Result Unit Refusal
  pub slice : List ℕ

same_writing : (r s : Writing) → wrote r.answer r.slice ≡ wrote s.answer s.slice → r ≡ s
same_writing r s e =
    let a = same_replied r.answer s.answer (ap (λ (o : WriterOutcome). o.reply) e) in
    λ i. record { answer = a i; slice = (e i).slice }

-- Two writes of the same message into the same slice that keep the promise are the same.
pub write_tight : (version : ℕ) (m : Message) (slice : List ℕ) (at : ℕ) (r s : Writing)
    → wrote r.answer r.slice ≡ writer_call version m slice at → wrote s.answer s.slice ≡ writer_call version m slice at → r ≡ s
write_tight version m slice at = determined (λ (r : Writing). wrote r.answer r.slice) same_writing (writer_call version m slice at)
