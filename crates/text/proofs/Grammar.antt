-- A line has one reading, and it is the one that is computed: the words between spaces are the decimals of the grammar, and a kind's numbers are its fields.
use mathlib.Core.Path.{◌≡◌, refl, sym, ap, ap₂, subst, ◌∙◌}
use mathlib.Core.List.{List, [], ◌∷◌, map}
use mathlib.Core.Bool.{true, not, ◌&&◌, and-eq-true_iff}
use Prim.Native.Nat.{ℕ, suc, ◌+◌, ◌<◌}
use native.Mathlib.Omega.{arith}
use borrow.Author.Tests.{leb-true, eqb-true, eq-eqb, ne_eqb}
use lib.Dec.{eqb, leb}
use lib.ListN.{length, length-map}
use Rattle.lists.specs.Views.{all}
use Rattle.lists.proofs.Bools.{by, clash}
use Rattle.lists.proofs.Best.{all_append}
use Rattle.rules.specs.Desk.{within}
use Rattle.rules.specs.Messages.{layout, own, blank}
use Rattle.rules.specs.Calls.{Reply}
use Rattle.rules.specs.Calls.Reply.{refused, accepted}
use Rattle.rules.specs.declared.Message.{Message}
use Rattle.text.specs.Decimals.{Decimal, is_digit, is_decimal, some, value}
use Rattle.text.specs.Lines.{Spaced, Line, Text, split, numbers, field_parts, fields, formed, of_form, given, of_numbers, message_in, read_numbers, TextOutcome, on_reply, so_far, line_call, lines_call, text_call}
use Rattle.text.specs.Lines.Spaced.{last, more}
use Rattle.text.specs.Lines.Text.{none, begins}
use Rattle.text.proofs.EachKind.{made, known_kind}
use Rattle.text.proofs.Splitting.{pieces, free, one_piece, piece_ends, joined, joined_again}

-- Decimals
digits_free : (separator : ℕ) → separator < 48 → (text : List ℕ) → all is_digit text ≡ true → free separator text ≡ true
digits_free separator h [] e = refl
digits_free separator h (byte ∷ bytes) e =
    let t = (and-eq-true_iff (is_digit byte) (all is_digit bytes)).0 e in
    let low = leb-true 48 byte ((and-eq-true_iff (leb 48 byte) (leb byte 57)).0 t.0).0 in
    rw (ne_eqb byte separator (λ f. omega arith), digits_free separator h bytes t.1)

decimal_is : {text : List ℕ} {n : ℕ} → Decimal text n → is_decimal text ≡ true
decimal_is {text} d = (and-eq-true_iff (some text) (all is_digit text)).1 (d.one, d.digits)

is_decimal_lem : (text : List ℕ) → is_decimal text ≡ true → Decimal text (value text)
is_decimal_lem text e = let t = (and-eq-true_iff (some text) (all is_digit text)).0 e in record { one = t.0; digits = t.1; same = refl }

-- Words
spaced_words : {text ns : List ℕ} → Spaced text ns → (all is_decimal (split 32 text) ≡ true) × (numbers text ≡ ns)
spaced_words (last {text = t} d) =
    rw (one_piece 32 t (digits_free 32 (omega arith) t d.digits), decimal_is d) (refl, ap (λ n. n ∷ []) d.same)
spaced_words (more {text = t} {rest = rest} d s) =
    let h = spaced_words s in
    rw (piece_ends 32 t rest (digits_free 32 (omega arith) t d.digits), decimal_is d) (h.0, ap₂ (λ n ns. n ∷ ns) d.same h.1)

words_spaced : (w : List ℕ) (ws : List (List ℕ)) → all is_decimal (w ∷ ws) ≡ true → Spaced (joined 32 (w ∷ ws)) (map value (w ∷ ws))
words_spaced w [] e = last (is_decimal_lem w ((and-eq-true_iff (is_decimal w) true).0 e).0)
words_spaced w (v ∷ vs) e =
    let t = (and-eq-true_iff (is_decimal w) (all is_decimal (v ∷ vs))).0 e in
    more (is_decimal_lem w t.0) (words_spaced v vs t.1)

-- Fields
fields_message : (m : Message) → within 1 4 m.kind ≡ true → of_numbers (1 ∷ m.kind ∷ fields m) ≡ own m
unfolding of_numbers fields field_parts layout own
fields_message m =
    known_kind (λ k. of_numbers (1 ∷ k ∷ fields (made k m.byte m.first m.second m.third)) ≡ own (made k m.byte m.first m.second m.third)) refl refl refl refl m.kind

-- the message of a kind's numbers has these as its fields
abbrev Has : ℕ → List ℕ → Type 0
Has k ns = ((given (field_parts k) ns (blank k)).kind ≡ k) × (fields (given (field_parts k) ns (blank k)) ≡ ns) × (own (given (field_parts k) ns (blank k)) ≡ given (field_parts k) ns (blank k))

one_more : (P : List ℕ → Type 0) (n : ℕ) → ((a : ℕ) (ns : List ℕ) → length ns ≡ n → P (a ∷ ns)) → (ns : List ℕ) → length ns ≡ suc n → P ns
one_more P n f [] e = absurd (omega arith)
one_more P n f (a ∷ ns) e = f a ns (omega arith)

no_more : (P : List ℕ → Type 0) → P [] → (ns : List ℕ) → length ns ≡ 0 → P ns
no_more P p [] e = p
no_more P p (a ∷ ns) e = absurd (omega arith)

numbers_fields : (k : ℕ) → within 1 4 k ≡ true → (ns : List ℕ) → length ns ≡ length (field_parts k) → Has k ns
unfolding fields field_parts layout own
numbers_fields =
    known_kind (λ k. (ns : List ℕ) → length ns ≡ length (field_parts k) → Has k ns)
    (one_more (Has 1) 3 λ a. one_more (λ l. Has 1 (a ∷ l)) 2 λ b. one_more (λ l. Has 1 (a ∷ b ∷ l)) 1 λ c. one_more (λ l. Has 1 (a ∷ b ∷ c ∷ l)) 0 λ d.
    no_more (λ l. Has 1 (a ∷ b ∷ c ∷ d ∷ l)) (refl, refl, refl))
    (one_more (Has 2) 2 λ a. one_more (λ l. Has 2 (a ∷ l)) 1 λ b. one_more (λ l. Has 2 (a ∷ b ∷ l)) 0 λ c. no_more (λ l. Has 2 (a ∷ b ∷ c ∷ l)) (refl, refl, refl))
    (no_more (Has 3) (refl, refl, refl))
    (one_more (Has 4) 0 λ a. no_more (λ l. Has 4 (a ∷ l)) (refl, refl, refl))

-- A line that the grammar has is of the form, and its message is the one that is computed.
pub line_read : {text : List ℕ} {m : Message} → Line text m → (of_form text ≡ true) × (message_in text ≡ m)
unfolding of_form formed fields
line_read {text} {m} l =
    let h = spaced_words l.spaced in
    let n : length (fields m) ≡ length (field_parts m.kind) = length-map (field_parts m.kind) _ in
    (rw (h.0, h.1, l.known, eq-eqb (length (fields m)) (length (field_parts m.kind)) n), ap of_numbers h.1 ∙ fields_message m l.known ∙ l.whole)

-- What is of the form has numbers: version 1, the kind, and as many as the kind has fields.
form_numbers : (ns : List ℕ) → formed ns ≡ true → (k : ℕ) × (rest : List ℕ) × (ns ≡ 1 ∷ k ∷ rest) × (within 1 4 k ≡ true) × (length rest ≡ length (field_parts k))
unfolding formed
form_numbers [] e = clash e refl
form_numbers (v ∷ []) e = clash e refl
form_numbers (v ∷ k ∷ ns) e =
    let t = (and-eq-true_iff (eqb v 1) (within 1 4 k && eqb (length ns) (length (field_parts k)))).0 e in
    let u = (and-eq-true_iff (within 1 4 k) (eqb (length ns) (length (field_parts k)))).0 t.1 in
    (k, ns, ap (λ n. n ∷ k ∷ ns) (eqb-true v 1 t.0), u.0, eqb-true (length ns) (length (field_parts k)) u.1)

-- And what is of the form is a line of the grammar.
pub read_line_lem : (text : List ℕ) → of_form text ≡ true → Line text (message_in text)
unfolding of_form of_numbers
read_line_lem text e =
    let t = (and-eq-true_iff (all is_decimal (split 32 text)) (formed (numbers text))).0 e in
    let f = form_numbers (numbers text) t.1 in
    let has = numbers_fields f.0 f.3 f.1 f.4 in
    let m : message_in text ≡ given (field_parts f.0) f.1 (blank f.0) = ap of_numbers f.2 in
    let p = pieces 32 text in
    let words = subst (λ l. Spaced (joined 32 l) (map value l)) (sym p.same) (words_spaced p.first p.rest (rw p.same at t.0)) in
    let spaced : Spaced text (1 ∷ f.0 ∷ f.1) = subst (λ l. Spaced text l) f.2 (rw (joined_again 32 text) at words) in
    subst (λ x. Line text x) (sym m)
    (record { spaced = subst (λ l. Spaced text l) (ap₂ (λ k ns. 1 ∷ k ∷ ns) (sym has.0) (sym has.1)) spaced; known = rw has.0 f.3; whole = has.2 })

-- So a line has one reading,
pub one_reading : {text : List ℕ} {m n : Message} → Line text m → Line text n → m ≡ n
one_reading l k = sym (line_read l).1 ∙ (line_read k).1

-- and so has a text: the messages of the lines before its last line feed.
abbrev messages_in : List (List ℕ) → List Message
messages_in [] = []
messages_in (line ∷ []) = []
messages_in (line ∷ next ∷ rest) = message_in line ∷ messages_in (next ∷ rest)

spaced_free : {text ns : List ℕ} → Spaced text ns → free 10 text ≡ true
spaced_free (last {text = t} d) = digits_free 10 (omega arith) t d.digits
spaced_free (more {text = t} {rest = rest} d s) =
    all_append (λ byte. not (eqb byte 10)) t (32 ∷ rest) ∙ rw (digits_free 10 (omega arith) t d.digits, spaced_free s)

text_read : {text : List ℕ} {ms : List Message} → Text text ms → messages_in (split 10 text) ≡ ms
unfolding split
text_read none = refl
text_read (begins {text = t} {rest = rest} {m = m} l more-lines) =
    let p = pieces 10 rest in
    let h = rw p.same at (text_read more-lines) in
    rw (piece_ends 10 t rest (spaced_free l.spaced), p.same) (ap₂ (λ x xs. x ∷ xs) (line_read l).1 h)

pub one_reading_of_a_text : {text : List ℕ} {ms ns : List Message} → Text text ms → Text text ns → ms ≡ ns
one_reading_of_a_text t u = sym (text_read t) ∙ text_read u

-- What is accepted is a text of the grammar.
form_read : (line slice : List ℕ) (at : ℕ) → (line_call line slice at).reply ≡ accepted tt → of_form line ≡ true
unfolding of_form read_numbers
form_read line slice at e =
    by (all is_decimal (split 32 line) && formed (numbers line))
    (λ f. f)
    (λ f.
    let d : ◌≡◌ {A = Reply Unit} (refused 15) (accepted tt) = rw f at e in
    let z : ◌≡◌ {A = ℕ} 0 1 = cc in
    absurd (omega arith))

on_accept : (r : Reply Unit) (a : ℕ → TextOutcome) (b : TextOutcome) → ((n : ℕ) → (a n).reply ≡ refused n) → (on_reply r a (λ _. b)).reply ≡ accepted tt
    → (r ≡ accepted tt) × (b.reply ≡ accepted tt)
on_accept (refused n) a b h e =
    let d : ◌≡◌ {A = Reply Unit} (refused n) (accepted tt) = sym (h n) ∙ e in
    let z : ◌≡◌ {A = ℕ} 0 1 = cc in
    absurd (omega arith)
on_accept (accepted u) a b h e = (refl, e)

accepted_lines : (lines : List (List ℕ)) (messages : ℕ) (slice : List ℕ) (at : ℕ) → (lines_call lines messages slice at).reply ≡ accepted tt → Text (joined 10 lines) (messages_in lines)
unfolding lines_call
accepted_lines [] messages slice at e = none
accepted_lines ([] ∷ []) messages slice at e = none
accepted_lines ((byte ∷ bytes) ∷ []) messages slice at e = let z : ◌≡◌ {A = ℕ} 0 1 = cc in absurd (omega arith)
accepted_lines (line ∷ next ∷ rest) messages slice at e =
    let o = line_call line slice at in
    let k = on_accept o.reply (λ n. so_far messages at o.slice (refused n)) (lines_call (next ∷ rest) (messages + 1) o.slice (at + 20)) (λ n. refl) e in
    begins (read_line_lem line (form_read line slice at k.0)) (accepted_lines (next ∷ rest) (messages + 1) o.slice (at + 20) k.1)

pub accepted_text : (text slice : List ℕ) (at : ℕ) → (text_call text slice at).reply ≡ accepted tt → (ms : List Message) × Text text ms
accepted_text text slice at e = (messages_in (split 10 text), rw (joined_again 10 text) at (accepted_lines (split 10 text) 0 slice at e))
