-- The reader of lines as a machine: a line may come in pieces, and be longer than any of them.
use Rattle.std.specs.Prelude.{List, [], ◌∷◌, Bool, true, false, cond, not, ◌&&◌, ◌||◌, ℕ, ◌+◌, ◌^◌, min, eqb, ltb, take, set, replicate}
use Rattle.lists.specs.Views.{all}
use Rattle.rules.specs.Refusals.{◌when◌, judged}
use Rattle.rules.specs.Calls.{Reply, WriterOutcome}
use Rattle.rules.specs.Calls.Reply.{refused, accepted}
use Rattle.rules.specs.Replies.{replied}
use Rattle.rules.specs.declared.Message.{Message}
use Rattle.text.specs.Decimals.{is_digit, tenfold}
use Rattle.text.specs.Lines.{space, line_feed, has_32_bits, read_numbers, write_read, TextOutcome, on_reply, so_far}
use Rattle.text.specs.declared.Begun.{Begun}
use Rattle.text.specs.declared.Taken.{Taken}
use Rattle.text.specs.declared.Written.{Written}

-- nothing of a line
abbrev pub fresh : Begun
fresh = record { numbers = replicate 6 0; count = 0; value = 0; digits = false; broken = false }

abbrev pub breaks : Begun → Begun
breaks s = record { numbers = s.numbers; count = s.count; value = s.value; digits = s.digits; broken = true }

-- A digit. From 2 to the 32nd on a number is out of every range, and it need not be known by how much.
abbrev pub capped : ℕ → ℕ
capped n = min n (2 ^ 32)

abbrev pub digit : Begun → ℕ → Begun
digit s byte = record { numbers = s.numbers; count = s.count; value = tenfold (capped s.value) byte; digits = true; broken = s.broken }

-- A number ends. It has a digit, and no line has a seventh.
abbrev pub ends : Begun → Begun
ends s =
    cond (s.digits && ltb s.count 6)
    (record { numbers = set s.numbers s.count s.value; count = s.count + 1; value = 0; digits = false; broken = s.broken })
    (breaks s)

unfoldable pub next : Begun → ℕ → Begun
next s byte = cond (is_digit byte) (digit s byte) (cond (eqb byte space) (ends s) (breaks s))

-- the number, if 32 bits hold it
abbrev pub in_word : ℕ → Reply ℕ
in_word n = judged (6 when not (has_32_bits n) ∷ []) refused (accepted n)

-- the message, if 32 bits hold each of its fields
abbrev pub in_words : Message → Reply Message
in_words m = judged (6 when not (all has_32_bits (m.byte ∷ m.first ∷ m.second ∷ m.third ∷ [])) ∷ []) refused (accepted m)

-- At the line feed: what the numbers say.
abbrev pub says : Begun → Reply Message
says s = read_numbers (not s.broken) (take s.count s.numbers)

unfoldable pub line_end : Begun → List ℕ → ℕ → WriterOutcome
line_end s slice at = write_read (says (ends s)) slice at

-- At the end of the text: a line that was begun lacks its line feed.
unfoldable pub begun : Begun → Bool
begun s = s.broken || (s.digits || ltb 0 s.count)

unfoldable pub end_call : Begun → Reply Unit
end_call s = judged (15 when begun s ∷ []) refused (accepted tt)

-- A piece: the line that is left begun, and what was written. At a refusal the line stays as it stood.
pub record PieceOutcome : Type 0 where
  pub line : Begun
  pub text : TextOutcome

abbrev pub leaving : Begun → TextOutcome → PieceOutcome
leaving s o = record { line = s; text = o }

unfoldable pub piece_call : Begun → List ℕ → ℕ → List ℕ → ℕ → PieceOutcome
piece_call s [] messages slice at = leaving s (so_far messages at slice (accepted tt))
piece_call s (byte ∷ bytes) messages slice at =
    cond (eqb byte line_feed)
    (on_reply (line_end s slice at).reply
    (λ n. leaving s (so_far messages at (line_end s slice at).slice (refused n)))
    (λ _. piece_call fresh bytes (messages + 1) (line_end s slice at).slice (at + 20)))
    (piece_call (next s byte) bytes messages slice at)

-- What the functions give back, in these terms.
abbrev pub written : Written → List ℕ → TextOutcome
written r slice = so_far r.messages r.place slice (replied r.answer)

abbrev pub taken : Taken → List ℕ → PieceOutcome
taken r slice = leaving r.line (written r.written slice)
