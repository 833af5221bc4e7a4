-- A message stands at the front of bytes (`Stands`): what stands there is accepted, what is accepted stands there, what is written stands there, and what stands
-- there is written as these bytes.
use mathlib.Core.Path.{◌≡◌, refl, sym, ap, ap₂, subst, ◌∙◌}
use mathlib.Core.List.{List, [], ◌∷◌, ◌++◌, append_assoc}
use mathlib.Core.Bool.{true, and-eq-true_iff}
use mathlib.Core.Logic.{◌⊎◌, inl, inr}
use Prim.Native.Nat.{ℕ, ◌≤◌}
use native.Mathlib.Omega.{arith}
use borrow.Author.Tests.{ltb-false, le-ltb, leb-true, eqb-true, not-false}
use lib.Dec.{eqb, leb}
use lib.ListN.{length, take, drop, length-append}
use lib.Seq.{take-add, drop-drop}
use Rattle.lists.proofs.Bools.{clash}
use Rattle.rules.specs.Calls.{Reply, WriterOutcome, reader_call, writer_call, placed_at}
use Rattle.rules.specs.Calls.Reply.{refused, accepted}
use Rattle.rules.specs.Desk.{within, board_fits, request_fits, clock_fits}
use Rattle.rules.specs.Messages.{mark, same_bytes, number_at, kind_at, Holds, layout, value_of, board_of, blank, message, own, digits, laid, encoded, zeros_stand, fields_fit}
use Rattle.rules.specs.Refusals.{Rule, judged, reader_rules, writer_rules}
use Rattle.rules.specs.declared.Message.{Message}
use Rattle.rules.proofs.Fitting.{board_fits_lem}
use Rattle.rules.proofs.Refusing.{None, none_given, Denied, Granted, judged_cases}
use Rattle.message.specs.Encoding.{Bytes, Words}
use Rattle.message.proofs.Holding.{Reads, Fits, number_in, laid_length, laid_reads, reads_zeros, zeros_read, reads_laid, zero_numbers}
use Rattle.message.proofs.Numbers.{number_part, digits_length, digits_of}
use Rattle.message.proofs.Parts.{each_kind, layout_joined, filled_same, given_back, message_kind, own_fits, front_bytes, encoded_front}

-- A message of this version stands at the front of the bytes, and its fields are in their ranges.
pub record Stands (version : ℕ) (bytes : List ℕ) (m : Message) : Type 0 where
  pub long : 20 ≤ length bytes
  pub marked : take 3 bytes ≡ mark
  pub numbered : number_at bytes 3 2 ≡ version
  pub current : eqb version 1 ≡ true
  pub kind : kind_at bytes ≡ m.kind
  pub known : within 1 4 m.kind ≡ true
  pub parts : Reads bytes m (layout m.kind)
  pub fits : fields_fit m ≡ true

module _ (version : ℕ) (bytes : List ℕ) (m : Message) (s : Stands version bytes m) where
  -- What stands there is accepted.

  stands_message : message bytes ≡ own m
  unfolding message own
  stands_message = rw s.kind (filled_same (number_in bytes) (λ p. value_of p.holds m) (layout m.kind) (blank m.kind) s.parts)

  stands_zeros : zeros_stand bytes m.kind ≡ true
  unfolding zeros_stand
  stands_zeros = reads_zeros m bytes 6 (layout m.kind) 20 (layout_joined m.kind) s.long s.parts

  pub stands_accepted : reader_call bytes ≡ accepted (own m)
  unfolding reader_call
  stands_accepted = rw (le-ltb (length bytes) 20 s.long, s.marked, s.numbered, s.current, stands_message, own_fits m, s.fits, s.kind, s.known, stands_zeros)

  -- What stands there is written as these bytes.

  front_back : Bytes bytes → front_bytes version m.kind ≡ take 6 bytes
  front_back b =
      sym (rw (
        take-add 3 3 bytes,
        take-add 2 1 (drop 3 bytes),
        drop-drop 2 3 bytes,
        s.marked,
        digits_of bytes b 3 2 (omega (arith, s.long)),
        s.numbered,
        digits_of bytes b 5 1 (omega (arith, s.long)),
        s.kind,
      ))

  pub stands_encoded : Bytes bytes → encoded version m ≡ take 20 bytes
  stands_encoded b =
      encoded_front version m
      ∙ ap₂ (λ x y. x ++ y) (front_back b) (reads_laid m bytes b 6 (layout m.kind) 20 (layout_joined m.kind) s.long s.parts)
      ∙ sym (take-add 6 14 bytes)

-- What is accepted stands there.

same_equal : (xs ys : List ℕ) → same_bytes xs ys ≡ true → xs ≡ ys
same_equal [] [] e = refl
same_equal [] (y ∷ ys) e = clash e refl
same_equal (x ∷ xs) [] e = clash e refl
same_equal (x ∷ xs) (y ∷ ys) e =
    let t = (and-eq-true_iff (eqb x y) (same_bytes xs ys)).0 e in
    ap₂ (λ b l. b ∷ l) (eqb-true x y t.0) (same_equal xs ys t.1)

message_reads : (bytes : List ℕ) → 20 ≤ length bytes → zeros_stand bytes (kind_at bytes) ≡ true → Reads bytes (message bytes) (layout (message bytes).kind)
unfolding zeros_stand message
message_reads bytes h z =
    let kind = kind_at bytes in
    rw (message_kind bytes)
    (zeros_read (message bytes) bytes (layout kind) (sym (zero_numbers bytes 6 (layout kind) 20 (layout_joined kind) h) ∙ z) (given_back (number_in bytes) (blank kind) kind))

module _ (bytes : List ℕ) (m : Message) (e : reader_call bytes ≡ accepted m) where
  pub none : None (reader_rules bytes) × (message bytes ≡ m)
  unfolding reader_call
  none = none_given (reader_rules bytes) (message bytes) m e

  pub accepted_stands : Stands (number_at bytes 3 2) bytes m
  accepted_stands =
      let n = none.0 in
      let long = ltb-false (length bytes) 20 n.0 in
      subst (Stands (number_at bytes 3 2) bytes) none.1 (record {
        long = long;
        marked = same_equal (take 3 bytes) mark (not-false _ n.1.0);
        numbered = refl;
        current = not-false _ n.1.1.0;
        kind = sym (message_kind bytes);
        known = rw (message_kind bytes) (not-false _ n.1.1.1.0);
        parts = message_reads bytes long (not-false _ n.1.1.1.1.0);
        fits = not-false _ n.1.1.1.1.1.0;
      })

-- What is written stands there.

fields_fit_lem : (m : Message) → Words m → fields_fit m ≡ true → Fits m (layout m.kind)
unfolding fields_fit layout request_fits
fields_fit_lem m w =
    each_kind (λ ps t. t ≡ true → Fits m ps) (board_fits (board_of m)) (request_fits m.byte m.second) true (clock_fits m.first)
    (λ t. (omega (arith, ((board_fits_lem (board_of m)).0 t).mask), (omega arith, (w Holds.first, (w Holds.second, (w Holds.third, tt))))))
    (λ t. (omega (arith, leb-true m.byte 7 ((and-eq-true_iff _ _).0 t).0), (omega arith, (w Holds.first, (w Holds.second, (omega arith, tt))))))
    (λ t. (omega arith, (omega arith, (omega arith, (omega arith, (omega arith, tt))))))
    (λ t. (omega arith, (omega arith, (w Holds.first, (omega arith, (omega arith, tt))))))
    m.kind

front_length : (version kind : ℕ) → length (front_bytes version kind) ≡ 6
front_length version kind =
    let two = digits 2 version in
    let one = digits 1 kind in
    omega (arith, length-append mark (two ++ one), length-append two one, digits_length 2 version, digits_length 1 kind)

pub encoded_length : (version : ℕ) (m : Message) → length (encoded version m) ≡ 20
encoded_length version m =
    let parts = laid (layout m.kind) m in
    rw (encoded_front version m)
    (omega (arith, length-append (front_bytes version m.kind) parts, front_length version m.kind, laid_length m 6 (layout m.kind) 20 (layout_joined m.kind)))

module _ (version : ℕ) (m : Message) (tail : List ℕ) where
  abbrev kind_parts : List ℕ
  kind_parts = laid (layout m.kind) m

  laid_out : encoded version m ++ tail ≡ front_bytes version m.kind ++ (kind_parts ++ tail)
  laid_out = ap (λ l. l ++ tail) (encoded_front version m) ∙ append_assoc (front_bytes version m.kind) kind_parts tail

  pub written_stands : eqb version 1 ≡ true → within 1 4 m.kind ≡ true → fields_fit m ≡ true → Words m → Stands version (encoded version m ++ tail) m
  written_stands v k f w =
      let high : m.kind ≤ 4 = leb-true m.kind 4 ((and-eq-true_iff (leb 1 m.kind) (leb m.kind 4)).0 k).1 in
      let behind = kind_parts ++ tail in
      let two = digits 2 version in
      let one = digits 1 m.kind in
      let split : encoded version m ++ tail ≡ mark ++ (two ++ (one ++ behind)) = laid_out ∙ ap (λ l. mark ++ l) (append_assoc two one behind) in
      let n : length (mark ++ two) ≡ 5 = omega (arith, length-append mark two, digits_length 2 version) in
      record {
        long = omega (arith, length-append (encoded version m) tail, encoded_length version m);
        marked = ap (take 3) split;
        numbered = ap (λ l. number_at l 3 2) split ∙ number_part mark (one ++ behind) 3 2 version refl (omega (arith, eqb-true version 1 v));
        current = v;
        kind = ap kind_at split ∙ number_part (mark ++ two) behind 5 1 m.kind n (omega arith);
        known = k;
        parts = laid_reads m 6 (layout m.kind) 20 (layout_joined m.kind) (fields_fit_lem m w f) (front_bytes version m.kind) tail _ (front_length version m.kind) laid_out;
        fits = f;
      }

-- An accepted write: no rule was given, and the bytes stand at the place.
pub written : (version : ℕ) (m : Message) (slice : List ℕ) (at : ℕ) → (writer_call version m slice at).reply ≡ accepted tt
    → None (writer_rules version m (length slice) at) × ((writer_call version m slice at).slice ≡ placed_at at (encoded version m) slice)
unfolding writer_call
written version m slice at e = go (judged_cases rules)
  where
    rules : List Rule
    rules = writer_rules version m (length slice) at

    refuse : ℕ → WriterOutcome
    refuse n = record { reply = refused n; slice = slice }

    done : WriterOutcome
    done = record { reply = accepted tt; slice = placed_at at (encoded version m) slice }

    go : Denied rules ⊎ Granted rules → None rules × ((judged rules refuse done).slice ≡ placed_at at (encoded version m) slice)
    go (inl d) =
        let clash : ◌≡◌ {A = Reply Unit} (refused d.no) (accepted tt) = sym (ap (λ (o : WriterOutcome). o.reply) (d.same WriterOutcome refuse done)) ∙ e in
        let z : ◌≡◌ {A = ℕ} 0 1 = cc in
        absurd (omega arith)
    go (inr g) = (g.none, ap (λ (o : WriterOutcome). o.slice) (g.same WriterOutcome refuse done))
