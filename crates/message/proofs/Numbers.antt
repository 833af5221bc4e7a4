-- Big-endian numbers. One byte more makes 256 of each unit of the number so far, and adds the byte: from this one law, for any number of bytes, come the digits.
use mathlib.Core.Path.{◌≡◌, refl, sym, ap, ◌∙◌}
use mathlib.Core.List.{List, [], ◌∷◌, ◌++◌}
use mathlib.Core.Bool.{◌&&◌}
use Prim.Native.Nat.{ℕ, zero, suc, ◌+◌, ◌*◌, ◌/◌, ◌%◌, ◌^◌, ◌≤◌, ◌<◌}
use native.Mathlib.Nat.{pow-suc, one-le-pow, mul_assoc, mul-le-mul, add-zero, zero-add, div-lt_iff_lt-mul}
use native.Mathlib.Omega.{arith}
use native.Mathlib.Numerals.{add-one}
use borrow.Author.Tests.{ne_eqb}
use lib.Arith.{digits_div, digits_mod}
use lib.Dec.{eqb, lit<}
use lib.ListN.{length, take, drop, get_or, length-append, length-drop}
use lib.Seq.{take-suc, take_at, take-append-le, drop_at, drop-cons, drop-append-le, get_or-drop}
use Rattle.lists.specs.Views.{all}
use Rattle.rules.specs.Messages.{big_endian, number_at, digits, places, is_zero}
use Rattle.message.specs.Encoding.{Bytes}

at_the_end : (xs : List ℕ) (byte : ℕ) → big_endian (xs ++ (byte ∷ [])) ≡ big_endian xs * 256 + byte
unfolding big_endian
at_the_end [] byte = omega arith
at_the_end (x ∷ xs) byte =
    let h : x * 256 ^ length (xs ++ (byte ∷ [])) ≡ x * 256 ^ length xs * 256 = rw (length-append, add-one, pow-suc, ← mul_assoc) in
    omega (arith, at_the_end xs byte)

-- one byte more of a list, and of a number in a list
pub taken_more : (bytes : List ℕ) (i : ℕ) → i < length bytes → big_endian (take (i + 1) bytes) ≡ big_endian (take i bytes) * 256 + get_or bytes i 0
taken_more bytes i h = rw (add-one, take-suc bytes i 0) (at_the_end (take i bytes) (get_or bytes i 0))

pub one_more : (bytes : List ℕ) (from size : ℕ) → from + size < length bytes → number_at bytes from (size + 1) ≡ number_at bytes from size * 256 + get_or bytes (from + size) 0
one_more bytes from size h =
    let k : size < length (drop from bytes) = rw length-drop (omega arith) in
    rw get_or-drop at (taken_more (drop from bytes) size k)

pub one_byte : (bytes : List ℕ) (from : ℕ) → from < length bytes → number_at bytes from 1 ≡ get_or bytes from 0
unfolding big_endian
one_byte bytes from h = one_more bytes from 0 (omega arith) ∙ simp (add-zero, zero-add)

-- a message's kind is its byte 5, and its small field its byte 6
pub kind_byte : (bytes : List ℕ) → 20 ≤ length bytes → number_at bytes 5 1 ≡ get_or bytes 5 0
kind_byte bytes h = one_byte bytes 5 (omega arith)

pub front_kind : (bytes : List ℕ) → length bytes ≡ 20 → number_at bytes 5 1 ≡ get_or bytes 5 0
front_kind bytes h = one_byte bytes 5 (omega arith)

pub field_byte : (bytes : List ℕ) → length bytes ≡ 20 → number_at bytes 6 1 ≡ get_or bytes 6 0
field_byte bytes h = one_byte bytes 6 (omega arith)

-- the four bytes of a word
pub word_at : (bytes : List ℕ) (at : ℕ) → at + 4 ≤ length bytes
    → get_or bytes at 0 * 16777216 + get_or bytes (at + 1) 0 * 65536 + get_or bytes (at + 2) 0 * 256 + get_or bytes (at + 3) 0 ≡ number_at bytes at 4
word_at bytes at h =
    omega (arith, one_byte bytes at (omega arith), one_more bytes at 1 (omega arith), one_more bytes at 2 (omega arith), one_more bytes at 3 (omega arith))

-- A number and its digits

pub digits_length : (size n : ℕ) → length (digits size n) ≡ size
unfolding digits
digits_length zero n = refl
digits_length (suc size) n = rw (length-append, digits_length size) (omega arith)

-- Bytes are the digits of their number, however many they are.
pub digits_of : (xs : List ℕ) → Bytes xs → (from size : ℕ) → from + size ≤ length xs → take size (drop from xs) ≡ digits size (number_at xs from size)
unfolding digits
digits_of xs bytes from zero h = refl
digits_of xs bytes from (suc n) h =
    let inside : from + n < length xs = omega arith in
    let byte : get_or xs (from + n) 0 < 256 = bytes (from + n) inside in
    let more : number_at xs from (suc n) ≡ number_at xs from n * 256 + get_or xs (from + n) 0 = rw (← add-one n) (one_more xs from n inside) in
    let k : n < length (drop from xs) = rw length-drop (omega arith) in
    rw (more, digits_div (number_at xs from n) byte, digits_mod (number_at xs from n) byte, take-suc (drop from xs) n 0, get_or-drop)
    (ap (λ l. l ++ (get_or xs (from + n) 0 ∷ [])) (digits_of xs bytes from n (omega arith)))

-- The digits' number is the number again, where it has as many bytes.
pub of_digits : (size n : ℕ) → n < 256 ^ size → big_endian (digits size n) ≡ n
unfolding digits big_endian
of_digits zero n h = omega arith
of_digits (suc size) n h =
    let k : n / 256 < 256 ^ size = (div-lt_iff_lt-mul {k = 256} {x = n} {y = 256 ^ size} (lit< tt)).1 (rw pow-suc at h) in
    at_the_end (digits size (n / 256)) (n % 256) ∙ rw (of_digits size (n / 256) k) (omega arith)

-- a number's digits, behind `from` bytes and in front of others
pub number_part : (front tail : List ℕ) (from size n : ℕ) → length front ≡ from → n < 256 ^ size → number_at (front ++ (digits size n ++ tail)) from size ≡ n
number_part front tail from size n e h = rw (drop_at front (digits size n ++ tail) from e, take_at (digits size n) tail size (digits_length size n)) (of_digits size n h)

-- bytes in front of others
pub number_more : (xs ys : List ℕ) (from size : ℕ) → from + size ≤ length xs → number_at (xs ++ ys) from size ≡ number_at xs from size
number_more xs ys from size h =
    let p : from ≤ length xs = omega arith in
    let q : size ≤ length (drop from xs) = rw length-drop (omega arith) in
    rw (drop-append-le from xs ys p, take-append-le size (drop from xs) ys q)

-- Bytes are all zero exactly if their number is 0.
zero_first : (n rest size : ℕ) → eqb (n * 256 ^ size + rest) 0 ≡ (eqb n 0 && eqb rest 0)
zero_first zero rest size = let e : 0 * 256 ^ size + rest ≡ rest = omega arith in rw e
zero_first (suc n) rest size =
    let one : 1 ≤ suc n = omega arith in
    let positive : 1 * 1 ≤ suc n * 256 ^ size = mul-le-mul one (one-le-pow size 256 (lit< tt)) in
    rw (ne_eqb (suc n * 256 ^ size + rest) 0 (λ e. omega (arith, e, positive)), ne_eqb (suc n) 0 (λ e. omega (arith, e)))

pub zero_number : (bytes : List ℕ) (from size : ℕ) → from + size ≤ length bytes → all (is_zero bytes) (places from size) ≡ eqb (number_at bytes from size) 0
unfolding big_endian
zero_number bytes from zero h = refl
zero_number bytes from (suc n) h =
    rw (drop-cons bytes from 0 (omega arith), zero_number bytes (suc from) n (omega arith))
    (sym (zero_first (get_or bytes from 0) (number_at bytes (suc from) n) (length (take n (drop (suc from) bytes)))))

-- Asked place by place or of the bytes that are taken from there, all are zero.
pub zeros_taken : (bytes : List ℕ) (from size : ℕ) → from + size ≤ length bytes → all (is_zero bytes) (places from size) ≡ all (λ byte. eqb byte 0) (take size (drop from bytes))
zeros_taken bytes from zero h = refl
zeros_taken bytes from (suc n) h =
    rw (drop-cons bytes from 0 (omega arith)) (ap (λ b. eqb (get_or bytes from 0) 0 && b) (zeros_taken bytes (suc from) n (omega arith)))
