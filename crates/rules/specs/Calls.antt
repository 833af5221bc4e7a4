-- Each call of document 01: from the desk, its arguments and the caller's slice of words to the reply, the desk and the slice afterwards.
use Rattle.std.specs.Prelude.{◌≡◌, List, [], ◌∷◌, ◌++◌, cond, ℕ, suc, ◌+◌, ◌<◌, eqb, length, get_or, set, take, drop}
use Rattle.lists.specs.Views.{count, first}
use Rattle.rules.specs.Desk.{within, loaded, listed, no_entry}
use Rattle.rules.specs.Messages.{by_kind, message, encoded, board_of}
use Rattle.rules.specs.Moments.{is_moment, reached}
use Rattle.rules.specs.SharedList.{view_at, named, placed, settled}
use Rattle.rules.specs.Refusals.{judged, reader_rules, writer_rules, board_rules, open_rules, request_rules, step_rules, length_rules, place_rules, kind_rules}
use Rattle.rules.specs.declared.Board.{Board}
use Rattle.rules.specs.declared.Entry.{Entry}
use Rattle.rules.specs.declared.Message.{Message}
use Rattle.rules.specs.declared.Desk.{Desk}
use Rattle.rules.specs.declared.Steps.{Steps}

-- a refusal's number only, or what the call returns
pub data Reply (A : Type 0) : Type 0 where
  refused : ℕ → Reply A
  accepted : A → Reply A

-- a refusal's number; 0 where the call is accepted
abbrev pub refusal : {A : Type 0} → Reply A → ℕ
refusal (refused n) = n
refusal (accepted a) = 0

-- The reader, and calls that only read: nothing is altered.

unfoldable pub reader_call : List ℕ → Reply Message
reader_call bytes = judged (reader_rules bytes) refused (accepted (message bytes))

unfoldable pub length_call : Desk → Reply ℕ
length_call d = judged (length_rules d) refused (accepted d.len)

unfoldable pub place_call : Desk → ℕ → Reply Entry
place_call d at = judged (place_rules d at) refused (accepted (get_or d.entries at no_entry))

-- The writer: from a version, a message, the caller's slice of bytes and a place in it to the reply and the slice afterwards. The message's 20 bytes stand at
-- the place, and every other byte as it stood.

pub record WriterOutcome : Type 0 where
  pub reply : Reply Unit
  pub slice : List ℕ

abbrev pub placed_at : ℕ → List ℕ → List ℕ → List ℕ
placed_at at bytes slice = take at slice ++ (bytes ++ drop (at + length bytes) slice)

unfoldable pub writer_call : ℕ → Message → List ℕ → ℕ → WriterOutcome
writer_call version m slice at =
    judged (writer_rules version m (length slice) at)
    (λ n. record { reply = refused n; slice = slice })
    (record { reply = accepted tt; slice = placed_at at (encoded version m) slice })

-- Calls that alter the desk: a refused one leaves it as it stood.

pub record Outcome (A : Type 0) : Type 0 where
  pub reply : Reply A
  pub desk : Desk

abbrev pub with_board : Desk → Board → Desk
with_board d b = record { time = d.time; count = d.count + 1; boards = set d.boards d.count b; len = d.len; entries = d.entries }

unfoldable pub board_call : Desk → Board → Outcome Unit
board_call d b = judged (board_rules d b) (λ n. record { reply = refused n; desk = d }) (record { reply = accepted tt; desk = with_board d b })

abbrev pub opened : Desk → Desk
opened d = record { time = record { clock = d.time.clock; phase = 1 }; count = d.count; boards = d.boards; len = d.len; entries = d.entries }

unfoldable pub open_call : Desk → Outcome Unit
open_call d = judged (open_rules d) (λ n. record { reply = refused n; desk = d }) (record { reply = accepted tt; desk = opened d })

-- the desk at a clock, with these entries on its list
abbrev pub with_list : Desk → ℕ → List Entry → Desk
with_list d clock es =
    record {
      time = record { clock = clock; phase = d.time.phase };
      count = d.count;
      boards = d.boards;
      len = length es;
      entries = settled d.len d.entries es;
    }

-- a request at the desk's clock
abbrev pub entry_at : Desk → ℕ → ℕ → ℕ → Entry
entry_at d topic id score = record { id = id; score = score; tick = d.time.clock; topic = topic }

abbrev pub requested : Desk → Entry → Desk
requested d e = with_list d d.time.clock (named (loaded d) d.time.clock (placed e (listed d)))

unfoldable pub request_call : Desk → ℕ → ℕ → ℕ → Outcome Unit
request_call d topic id score =
    judged (request_rules d topic score)
    (λ n. record { reply = refused n; desk = d })
    (record { reply = accepted tt; desk = requested d (entry_at d topic id score) })

-- The step

-- a board's block: its number, the count, then id, score and tick of each entry
unfoldable pub entry_words : List Entry → List ℕ
entry_words [] = []
entry_words (e ∷ es) = e.id ∷ e.score ∷ e.tick ∷ entry_words es

abbrev pub block : ℕ → List Entry → List ℕ
block number shown = number ∷ length shown ∷ entry_words shown

-- the first k of the board's window at T, of entries in order of rank
abbrev pub shown_at : Board → ℕ → List Entry → List Entry
shown_at b T es = first (view_at b T) es

-- the blocks of the boards due at T in board order; the first of these boards has this number
unfoldable pub blocks : ℕ → List Board → ℕ → List Entry → List ℕ
blocks number [] T es = []
blocks number (b ∷ bs) T es = cond (is_moment b T) (block number (shown_at b T es)) [] ++ blocks (suc number) bs T es

-- An accepted step returns the clock reached, the number of due boards and the number of words written.
pub record StepOutcome : Type 0 where
  pub reply : Reply Steps
  pub desk : Desk
  pub slice : List ℕ

-- Words after the last block are unaltered.
abbrev pub written : List ℕ → List ℕ → List ℕ
written words slice = words ++ drop (length words) slice

abbrev pub moved_to : Desk → ℕ → List ℕ → StepOutcome
moved_to d T slice =
    let words = blocks 0 (loaded d) T (listed d) in
    record {
      reply = accepted (record { clock = T; due = count (λ b. is_moment b T) (loaded d); words = length words });
      desk = with_list d T (named (loaded d) T (listed d));
      slice = written words slice;
    }

-- An accepted step with a target equal to the clock alters nothing.
abbrev pub stays : Desk → List ℕ → StepOutcome
stays d slice = record { reply = accepted (record { clock = d.time.clock; due = 0; words = 0 }); desk = d; slice = slice }

unfoldable pub step_call : Desk → ℕ → List ℕ → StepOutcome
step_call d target slice =
    judged (step_rules d target (length slice))
    (λ n. record { reply = refused n; desk = d; slice = slice })
    (cond (eqb target d.time.clock) (stays d slice) (moved_to d (reached (loaded d) d.time.clock target) slice))

-- The caller steps again, until the target: the clocks that the accepted steps reach, one after the other.
pub data StepsTo (target : ℕ) : Desk → List ℕ → Type 0 where
  there : {d : Desk} → d.time.clock ≡ target → StepsTo target d []
  again : {d : Desk} {s : Steps} {clocks : List ℕ} → d.time.clock < target → (slice : List ℕ) → (step_call d target slice).reply ≡ accepted s
      → StepsTo target (step_call d target slice).desk clocks → StepsTo target d (s.clock ∷ clocks)

-- A message for the desk: the call that its kind names; where it names none, 99 or 4.

pub data Done : Type 0 where
  done : Done
  moved : Steps → Done

pub record MessageOutcome : Type 0 where
  pub reply : Reply Done
  pub desk : Desk
  pub slice : List ℕ

abbrev pub onward : {A : Type 0} → (A → Done) → Reply A → Reply Done
onward f (refused n) = refused n
onward f (accepted a) = accepted (f a)

abbrev pub asked_by : List ℕ → Outcome Unit → MessageOutcome
asked_by slice o = record { reply = onward (λ _. done) o.reply; desk = o.desk; slice = slice }

abbrev pub stepped_by : StepOutcome → MessageOutcome
stepped_by o = record { reply = onward moved o.reply; desk = o.desk; slice = o.slice }

unfoldable pub message_call : Desk → Message → List ℕ → MessageOutcome
message_call d m slice =
    cond (within 1 4 m.kind)
    (by_kind m.kind
    (asked_by slice (board_call d (board_of m)))
    (asked_by slice (request_call d m.byte m.first m.second))
    (asked_by slice (open_call d))
    (stepped_by (step_call d m.first slice)))
    (record { reply = judged (kind_rules d) refused (accepted done); desk = d; slice = slice })
