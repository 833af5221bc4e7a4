-- The bytes of a line, one after the other, leave what its words say: by induction on the bytes, over the line that was begun before them.
use mathlib.Core.Path.{◌≡◌, refl, sym, subst, ap, ◌∙◌}
use mathlib.Core.List.{List, [], ◌∷◌, ◌++◌, map, append_assoc}
use mathlib.Core.Bool.{Bool, true, false, not, ◌&&◌, ◌||◌, and-eq-true_iff, and-true, and-false, or-true}
use Prim.Native.Nat.{ℕ, suc, ◌+◌, ◌≤◌, ◌<◌}
use native.Mathlib.Omega.{arith}
use native.Mathlib.Nat.{zero-add}
use native.Mathlib.Numerals.{add-one}
use borrow.Author.Tests.{ltb-true, ltb-false, ne_eqb, leb-true, leb-false, le-leb, lt-leb}
use lib.Dec.{eqb, ltb, leb}
use lib.ListN.{length, take, set, length-set, length-map}
use lib.Seq.{take-suc-set}
use Rattle.lists.specs.Views.{all}
use Rattle.lists.proofs.Bools.{by, clash}
use Rattle.rules.specs.Messages.{layout}
use Rattle.text.specs.Decimals.{is_digit, is_decimal, some, value, behind, tenfold}
use Rattle.text.specs.Lines.{split, field_parts, formed, read_numbers, read_line}
use Rattle.text.specs.Machine.{fresh, next, digit, ends, breaks, says, capped}
use Rattle.text.specs.declared.Begun.{Begun}
use Rattle.text.proofs.Splitting.{pieces}
use Rattle.text.proofs.Capping.{cap_tenfold, cap_behind, cap_twice, cap_read}

abbrev pub fed : Begun → List ℕ → Begun
fed s [] = s
fed s (byte ∷ bytes) = fed (next s byte) bytes

-- the numbers of a line that was begun
abbrev finished : Begun → List ℕ
finished s = take s.count s.numbers

-- words behind it: the first goes on with its last number
abbrev decimal_from : Bool → List (List ℕ) → Bool
decimal_from begun [] = true
decimal_from begun (w ∷ ws) = ((begun || some w) && all is_digit w) && all is_decimal ws

abbrev values_from : ℕ → List (List ℕ) → List ℕ
values_from n [] = []
values_from n (w ∷ ws) = behind n w ∷ map value ws

record Said (s : Begun) (words : List (List ℕ)) (t : Begun) : Type 0 where
  form : not t.broken ≡ (not s.broken && (decimal_from s.digits words && leb (s.count + length words) 6))
  same : t.broken ≡ false → map capped (finished t) ≡ map capped (finished s ++ values_from s.value words)

-- a line that is broken stays so
stays : (t : List ℕ) (s : Begun) → s.broken ≡ true → (ends (fed s t)).broken ≡ true
unfolding next
stays [] s e = by (s.digits && ltb s.count 6) (λ f. rw (f, e)) (λ f. rw f)
stays (byte ∷ bytes) s e =
    by (is_digit byte)
    (λ f. stays bytes (next s byte) (rw (f, e)))
    (λ f.
    by (eqb byte 32)
    (λ g. stays bytes (next s byte) (rw (f, g) (by (s.digits && ltb s.count 6) (λ h. rw (h, e)) (λ h. rw h))))
    (λ g. stays bytes (next s byte) (rw (f, g))))

cap_at : (xs ys : List ℕ) (a b : ℕ) → capped a ≡ capped b → map capped (xs ++ (a ∷ ys)) ≡ map capped (xs ++ (b ∷ ys))
cap_at [] ys a b e = ap (λ n. n ∷ map capped ys) e
cap_at (x ∷ xs) ys a b e = ap (λ l. capped x ∷ l) (cap_at xs ys a b e)

-- A number that cannot end: it has no digit, or is the seventh.
unended : (digits : Bool) (count n : ℕ) (rest : Bool) → (digits && ltb count 6) ≡ false → ((((digits || false) && true) && rest) && leb (count + suc n) 6) ≡ false
unended false count n rest e = refl
unended true count n rest e = rw (lt-leb (count + suc n) 6 (omega (arith, ltb-false count 6 e))) (and-false rest)

broke : {s t : Begun} {words : List (List ℕ)} → t.broken ≡ true → (decimal_from s.digits words && leb (s.count + length words) 6) ≡ false → Said s words t
broke {s} {t} {words} e f = record { form = rw (e, f) (sym (and-false (not s.broken))); same = λ g. clash e g }

-- The three kinds of bytes.
on_digit : (s : Begun) (byte : ℕ) (w : List ℕ) (ws : List (List ℕ)) (t : Begun) → is_digit byte ≡ true → Said (digit s byte) (w ∷ ws) t → Said s ((byte ∷ w) ∷ ws) t
unfolding behind
on_digit s byte w ws t e h =
    record {
      form = rw (or-true s.digits, e) h.form;
      same = λ b. h.same b ∙ cap_at (finished s) (map value ws) _ _ (cap_behind (tenfold (capped s.value) byte) (tenfold s.value byte) w (cap_tenfold (capped s.value) s.value byte (cap_twice s.value)));
    }

on_space : (s : Begun) (w : List ℕ) (ws : List (List ℕ)) (t : Begun) → length s.numbers ≡ 6 → Said (ends s) (w ∷ ws) t → ((ends s).broken ≡ true → t.broken ≡ true)
    → Said s ([] ∷ w ∷ ws) t
unfolding behind
on_space s w ws t six h dead =
    by (s.digits && ltb s.count 6)
    (λ e.
    let f = (and-eq-true_iff s.digits (ltb s.count 6)).0 e in
    let k : s.count + 1 + suc (length ws) ≡ s.count + suc (suc (length ws)) = omega arith in
    let taken : take (s.count + 1) (set s.numbers s.count s.value) ≡ take s.count s.numbers ++ (s.value ∷ []) =
    rw (add-one s.count) (take-suc-set s.numbers s.count s.value (omega (arith, ltb-true s.count 6 f.1))) in
    record {
      form = rw (f.0, ← k) (rw (f.0, f.1) at h.form);
      same = λ b. rw (f.0, f.1, taken, append_assoc) at (h.same b);
    })
    (λ e. broke (dead (rw e)) (unended s.digits s.count (suc (length ws)) (all is_decimal (w ∷ ws)) e))

on_other : (s : Begun) (byte : ℕ) (w : List ℕ) (ws : List (List ℕ)) (t : Begun) → is_digit byte ≡ false → t.broken ≡ true → Said s ((byte ∷ w) ∷ ws) t
on_other s byte w ws t e b = broke b (rw (e, or-true s.digits))

ends_six : (s : Begun) → length s.numbers ≡ 6 → length (ends s).numbers ≡ 6
ends_six s six = by (s.digits && ltb s.count 6) (λ e. rw (e, length-set) six) (λ e. rw e six)

along : (s : Begun) (bytes : List ℕ) {words words' : List (List ℕ)} {t t' : Begun} → words ≡ words' → t ≡ t' → Said s words' (ends (fed t' bytes)) → Said s words (ends (fed t bytes))
along s bytes {words} {words'} {t} {t'} e f h = subst (λ l. Said s l (ends (fed t bytes))) (sym e) (subst (λ x. Said s words' (ends (fed x bytes))) (sym f) h)

said : (text : List ℕ) (s : Begun) → length s.numbers ≡ 6 → Said s (split 32 text) (ends (fed s text))
unfolding split next behind
said [] s six =
    by (s.digits && ltb s.count 6)
    (λ e.
    let f = (and-eq-true_iff s.digits (ltb s.count 6)).0 e in
    let small = ltb-true s.count 6 f.1 in
    let taken : take (s.count + 1) (set s.numbers s.count s.value) ≡ take s.count s.numbers ++ (s.value ∷ []) =
    rw (add-one s.count) (take-suc-set s.numbers s.count s.value (omega arith)) in
    record {
      form = rw (f.0, f.1, le-leb (s.count + 1) 6 (omega arith)) (sym (and-true (not s.broken)));
      same = λ b. rw (f.0, f.1, taken);
    })
    (λ e. broke (rw e) (unended s.digits s.count 0 true e))
said (byte ∷ bytes) s six =
    let p = pieces 32 bytes in
    by (is_digit byte)
    (λ e.
    let no-space : eqb byte 32 ≡ false = ne_eqb byte 32 (λ h. omega (arith, leb-true 48 byte ((and-eq-true_iff (leb 48 byte) (leb byte 57)).0 e).0)) in
    along s bytes (rw (no-space, p.same)) (rw e) (on_digit s byte p.first p.rest _ e (rw p.same at (said bytes (digit s byte) six))))
    (λ e.
    by (eqb byte 32)
    (λ g. along s bytes (rw (g, p.same)) (rw (e, g)) (on_space s p.first p.rest _ six (rw p.same at (said bytes (ends s) (ends_six s six))) (stays bytes (ends s))))
    (λ g. along s bytes (rw (g, p.same)) (rw (e, g)) (on_other s byte p.first p.rest _ e (stays bytes (breaks s) refl))))

-- more than six numbers are of no form
formed_few : (ns : List ℕ) → 6 < length ns → formed ns ≡ false
unfolding formed field_parts layout
formed_few [] h = refl
formed_few (v ∷ []) h = refl
formed_few (v ∷ k ∷ ns) h =
    let few : length (field_parts k) ≤ 4 = by (eqb k 1) (λ e. rw e (omega arith)) (λ e. by (eqb k 2) (λ f. rw (e, f) (omega arith)) (λ f. by (eqb k 3) (λ g. rw (e, f, g) (omega arith)) (λ g. rw (e, f, g) (omega arith)))) in
    rw (ne_eqb (length ns) (length (field_parts k)) (λ e. omega arith), and-false (leb 1 k && leb k 4), and-false (eqb v 1))

-- A line's bytes, fed to the machine, say what the line says.
concluded : (t : Begun) (w : List ℕ) (ws : List (List ℕ)) → Said fresh (w ∷ ws) t → says t ≡ read_numbers (all is_decimal (w ∷ ws)) (map value (w ∷ ws))
unfolding read_numbers
concluded t w ws h =
    let form : not t.broken ≡ (all is_decimal (w ∷ ws) && leb (length (w ∷ ws)) 6) = rw zero-add at h.form in
    by t.broken
    (λ e.
    let dead : (all is_decimal (w ∷ ws) && formed (map value (w ∷ ws))) ≡ false =
    by (all is_decimal (w ∷ ws))
    (λ f.
    let long = leb-false (length (w ∷ ws)) 6 (sym (rw (e, f) at form)) in
    rw f (formed_few (map value (w ∷ ws)) (omega (arith, length-map ws value))))
    (λ f. rw f) in
    rw (e, dead))
    (λ e.
    let f = (and-eq-true_iff (all is_decimal (w ∷ ws)) (leb (length (w ∷ ws)) 6)).0 (sym (rw e at form)) in
    rw (e, f.0) (sym (cap_read true (finished t)) ∙ ap (read_numbers true) (h.same e) ∙ cap_read true (map value (w ∷ ws))))

pub says_line : (text : List ℕ) → says (ends (fed fresh text)) ≡ read_line text
says_line text =
    let p = pieces 32 text in
    concluded _ p.first p.rest (rw p.same at (said text fresh refl)) ∙ sym (ap (λ l. read_numbers (all is_decimal l) (map value l)) p.same)
