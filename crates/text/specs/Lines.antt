-- Document 01: "Written as text, a message is one line: version, kind, then its fields in byte order, in decimal, one space between, a line feed after." And
-- document 02's program over a whole text.
use Rattle.std.specs.Prelude.{◌≡◌, List, [], ◌∷◌, ◌++◌, map, Bool, true, false, cond, not, ◌&&◌, ℕ, ◌+◌, ◌^◌, eqb, ltb, length}
use Rattle.lists.specs.Views.{those, all}
use Rattle.rules.specs.Desk.{within}
use Rattle.rules.specs.Messages.{Part, is_field, layout, value_of, holding, blank, own}
use Rattle.rules.specs.Refusals.{◌when◌, judged}
use Rattle.rules.specs.Calls.{Reply, WriterOutcome, writer_call}
use Rattle.rules.specs.Calls.Reply.{refused, accepted}
use Rattle.rules.specs.declared.Message.{Message}
use Rattle.text.specs.Decimals.{Decimal, is_decimal, some, value}

abbrev pub space : ℕ
space = 32

abbrev pub line_feed : ℕ
line_feed = 10

-- Numbers in decimal, one space between.
pub data Spaced : List ℕ → List ℕ → Type 0 where
  last : {text : List ℕ} {n : ℕ} → Decimal text n → Spaced text (n ∷ [])
  more : {text rest : List ℕ} {n : ℕ} {ns : List ℕ} → Decimal text n → Spaced rest ns → Spaced (text ++ (space ∷ rest)) (n ∷ ns)

-- the parts of a kind that hold a field, and what a message has in them, in byte order
unfoldable pub field_parts : ℕ → List Part
field_parts kind = those (λ p. is_field p.holds) (layout kind)

unfoldable pub fields : Message → List ℕ
fields m = map (λ p. value_of p.holds m) (field_parts m.kind)

-- The line of a message, before its line feed; a message has no other fields than those of its kind.
pub record Line (text : List ℕ) (m : Message) : Type 0 where
  pub spaced : Spaced text (1 ∷ m.kind ∷ fields m)
  pub known : within 1 4 m.kind ≡ true
  pub whole : own m ≡ m

-- A text of messages: their lines, a line feed after each.
pub data Text : List ℕ → List Message → Type 0 where
  none : Text [] []
  begins : {text rest : List ℕ} {m : Message} {ms : List Message} → Line text m → Text rest ms → Text (text ++ (line_feed ∷ rest)) (m ∷ ms)

-- What computes these. The pieces of a text between its separators: always one at least.
abbrev pub onto : ℕ → List (List ℕ) → List (List ℕ)
onto byte [] = (byte ∷ []) ∷ []
onto byte (piece ∷ pieces) = (byte ∷ piece) ∷ pieces

unfoldable pub split : ℕ → List ℕ → List (List ℕ)
split separator [] = [] ∷ []
split separator (byte ∷ bytes) = cond (eqb byte separator) ([] ∷ split separator bytes) (onto byte (split separator bytes))

abbrev pub numbers : List ℕ → List ℕ
numbers line = map value (split space line)

-- version 1, a known kind, and as many numbers behind it as the kind has fields
unfoldable pub formed : List ℕ → Bool
formed [] = false
formed (version ∷ []) = false
formed (version ∷ kind ∷ ns) = eqb version 1 && (within 1 4 kind && eqb (length ns) (length (field_parts kind)))

unfoldable pub of_form : List ℕ → Bool
of_form line = all is_decimal (split space line) && formed (numbers line)

-- the message with these numbers in these parts
abbrev pub given : List Part → List ℕ → Message → Message
given [] ns m = m
given (p ∷ ps) [] m = m
given (p ∷ ps) (n ∷ ns) m = holding p.holds n (given ps ns m)

unfoldable pub of_numbers : List ℕ → Message
of_numbers [] = blank 0
of_numbers (version ∷ []) = blank 0
of_numbers (version ∷ kind ∷ ns) = given (field_parts kind) ns (blank kind)

abbrev pub message_in : List ℕ → Message
message_in line = of_numbers (numbers line)

-- 15 for what is not of the form; then 6 for a number that no field of 32 bits holds.
abbrev pub has_32_bits : ℕ → Bool
has_32_bits n = ltb n (2 ^ 32)

unfoldable pub read_numbers : Bool → List ℕ → Reply Message
read_numbers decimal ns =
    judged (15 when not (decimal && formed ns) ∷ 6 when not (all has_32_bits ns) ∷ [])
    refused
    (accepted (of_numbers ns))

abbrev pub read_line : List ℕ → Reply Message
read_line line = read_numbers (all is_decimal (split space line)) (numbers line)

-- A line's message is written, by the writer's own rules: 3, 4, 6, 14.
abbrev pub write_read : Reply Message → List ℕ → ℕ → WriterOutcome
write_read (refused n) slice at = record { reply = refused n; slice = slice }
write_read (accepted m) slice at = writer_call 1 m slice at

abbrev pub line_call : List ℕ → List ℕ → ℕ → WriterOutcome
line_call line slice at = write_read (read_line line) slice at

-- How many messages were written, so the number of the line that was refused; where the next would go; the reply and the slice.
pub record TextOutcome : Type 0 where
  pub messages : ℕ
  pub place : ℕ
  pub reply : Reply Unit
  pub slice : List ℕ

-- by a reply: what to make of a refusal, and what of an acceptance
abbrev pub on_reply : {A B : Type 0} → Reply A → (ℕ → B) → (A → B) → B
on_reply (refused n) refuse accept = refuse n
on_reply (accepted a) refuse accept = accept a

-- the outcome with this much written
abbrev pub so_far : ℕ → ℕ → List ℕ → Reply Unit → TextOutcome
so_far messages at slice reply = record { messages = messages; place = at; reply = reply; slice = slice }

-- Lines behind so many messages that are written: the first that is refused ends it. What is behind the last line feed must be empty: a last line without its
-- line feed is not of the form.
unfoldable pub lines_call : List (List ℕ) → ℕ → List ℕ → ℕ → TextOutcome
lines_call [] messages slice at = so_far messages at slice (accepted tt)
lines_call (rest ∷ []) messages slice at = so_far messages at slice (judged (15 when some rest ∷ []) refused (accepted tt))
lines_call (line ∷ next ∷ rest) messages slice at =
    on_reply (line_call line slice at).reply
    (λ n. so_far messages at (line_call line slice at).slice (refused n))
    (λ _. lines_call (next ∷ rest) (messages + 1) (line_call line slice at).slice (at + 20))

abbrev pub text_call : List ℕ → List ℕ → ℕ → TextOutcome
text_call text slice at = lines_call (split line_feed text) 0 slice at
