-- What the writer gives back, in document 02's terms: the reply, and the slice.
use Rattle.std.specs.Prelude.{List, ℕ, Result}
use Rattle.rules.specs.Calls.{WriterOutcome}
use Rattle.rules.specs.Replies.{replied}
use Rattle.rules.specs.declared.Refusal.{Refusal}

abbrev pub wrote : Result Unit Refusal → List ℕ → WriterOutcome
wrote answer slice = record { reply = replied answer; slice = slice }
