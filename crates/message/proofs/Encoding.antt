-- Reading what was written returns the fields (`read_written`); writing what was read returns the same bytes (`written_read`, `accepted_bytes`). What was read has
-- the fields of its kind alone (`read_own`), and its bytes are determined by it (`same_message`).
use mathlib.Core.Path.{◌≡◌, sym, ap, ◌∙◌}
use mathlib.Core.List.{List, ◌++◌}
use Prim.Native.Nat.{ℕ, ◌+◌, ◌≤◌}
use native.Mathlib.Omega.{arith}
use borrow.Author.Tests.{ltb-false, le-ltb, eqb-true, not-false}
use lib.ListN.{length, take, drop}
use lib.Seq.{drop_at, length-take-le}
use Rattle.rules.specs.Calls.{reader_call, writer_call, placed_at}
use Rattle.rules.specs.Calls.Reply.{accepted}
use Rattle.rules.specs.Messages.{number_at, own, encoded, rest}
use Rattle.rules.specs.declared.Message.{Message}
use Rattle.message.specs.Encoding.{Bytes, Words, numbers}
use Rattle.message.proofs.Parts.{message_own, own_own}
use Rattle.message.proofs.Standing.{stands_accepted, stands_encoded, none, accepted_stands, encoded_length, written_stands, written}

-- a message's own fields, with its version, at the front of bytes; behind it stand others
pub record Returned (version : ℕ) (m : Message) (bytes behind : List ℕ) : Type 0 where
  pub fields : reader_call bytes ≡ accepted (own m)
  pub number : number_at bytes 3 2 ≡ version
  pub others : rest bytes ≡ behind

-- Reading at the place, in the slice that an accepted write leaves behind, returns the fields and what stood behind them.
pub read_written : (version : ℕ) (m : Message) (slice : List ℕ) (at : ℕ) → Words m → (writer_call version m slice at).reply ≡ accepted tt
    → Returned version m (drop at (writer_call version m slice at).slice) (drop (at + 20) slice)
read_written version m slice at w e =
    let behind = drop (at + 20) slice in
    let o = written version m slice at e in
    let n = o.0 in
    let s = written_stands version m behind (not-false _ n.0) (not-false _ n.1.0) (not-false _ n.1.1.0) w in
    let room : at + 20 ≤ length slice = ltb-false (length slice) (at + 20) n.1.1.1.0 in
    let size = encoded_length version m in
    let there : drop at (writer_call version m slice at).slice ≡ encoded version m ++ behind =
    ap (drop at) o.1 ∙ drop_at (take at slice) _ at (length-take-le at slice (omega arith)) ∙ ap (λ k. encoded version m ++ drop (at + k) slice) size
    in
    rw there (record {
      fields = stands_accepted version (encoded version m ++ behind) m s;
      number = s.numbered;
      others = drop_at (encoded version m) behind 20 size;
    })

-- What was read has its own fields alone.
pub read_own : (xs : List ℕ) (m : Message) → reader_call xs ≡ accepted m → own m ≡ m
read_own xs m e =
    let same = (none xs m e).1 in
    ap own (sym same ∙ sym (message_own xs)) ∙ own_own (numbers xs) ∙ message_own xs ∙ same

-- The bytes of a message that was read are those that it is written as.
pub accepted_bytes : (xs : List ℕ) → Bytes xs → (m : Message) → reader_call xs ≡ accepted m → encoded (number_at xs 3 2) m ≡ take 20 xs
accepted_bytes xs bytes m e = stands_encoded (number_at xs 3 2) xs m (accepted_stands xs m e) bytes

-- Writing what was read, with its version, into any slice and at any place with room: accepted, and the same bytes stand there.
pub written_read : (xs : List ℕ) → Bytes xs → (m : Message) → reader_call xs ≡ accepted m → (slice : List ℕ) (at : ℕ) → at + 20 ≤ length slice
    → writer_call (number_at xs 3 2) m slice at ≡ record { reply = accepted tt; slice = placed_at at (take 20 xs) slice }
unfolding writer_call
written_read xs bytes m e slice at h =
    let s = accepted_stands xs m e in
    rw (s.current, s.known, s.fits, le-ltb (length slice) (at + 20) h, accepted_bytes xs bytes m e)

-- Where two are accepted as the same message, their twenty bytes are the same.
pub same_message : (xs ys : List ℕ) → Bytes xs → Bytes ys → (m : Message) → reader_call xs ≡ accepted m → reader_call ys ≡ accepted m → take 20 xs ≡ take 20 ys
same_message xs ys byteX byteY m x y =
    let one = eqb-true (number_at xs 3 2) 1 (accepted_stands xs m x).current in
    let other = eqb-true (number_at ys 3 2) 1 (accepted_stands ys m y).current in
    sym (accepted_bytes xs byteX m x) ∙ ap (λ version. encoded version m) (one ∙ sym other) ∙ accepted_bytes ys byteY m y
