-- Parts that stand one behind the other, in bytes. `Reads`: in each part stands the number that a message has of it. Bytes laid from a message read so; where bytes
-- read so, the message is laid as these bytes, is read from them, and their zeros stand.
use mathlib.Core.Path.{◌≡◌, refl, sym, ap, ap₂, ◌∙◌}
use mathlib.Core.List.{List, [], ◌∷◌, ◌++◌, append_assoc}
use mathlib.Core.Bool.{Bool, true, false, cond, ◌&&◌, and-eq-true_iff}
use Prim.Native.Nat.{ℕ, ◌+◌, ◌-◌, ◌^◌, ◌≤◌, ◌<◌}
use native.Mathlib.Omega.{arith}
use borrow.Author.Tests.{eqb-true}
use lib.Dec.{eqb}
use lib.ListN.{length, take, drop, length-append}
use lib.Seq.{take-add, drop-drop}
use Rattle.lists.specs.Views.{all}
use Rattle.rules.specs.Messages.{number_at, places, Part, is_field, Holds, zero_places, is_zero, value_of, digits, laid}
use Rattle.rules.specs.declared.Message.{Message}
use Rattle.message.specs.Encoding.{Bytes}
use Rattle.lists.proofs.Best.{all_append}
use Rattle.message.proofs.Numbers.{digits_of, digits_length, number_part, number_more, zero_number}
use Rattle.message.proofs.Parts.{Each, Joined, zero_parts, zero_same}

joined_le : (from : ℕ) (ps : List Part) (end : ℕ) → Joined from ps end → from ≤ end
joined_le from [] end j = omega (arith, j)
joined_le from (p ∷ ps) end j = omega (arith, joined_le (from + p.size) ps end j.1)

-- the number in a part
abbrev pub number_in : List ℕ → Part → ℕ
number_in bytes p = number_at bytes p.place p.size

-- Where more bytes follow, the numbers are the same.
pub numbers_more : (xs ys : List ℕ) (from : ℕ) (ps : List Part) (end : ℕ) → Joined from ps end → end ≤ length xs → Each (λ p. number_in (xs ++ ys) p ≡ number_in xs p) ps
numbers_more xs ys from [] end j h = tt
numbers_more xs ys from (p ∷ ps) end j h =
    (number_more xs ys p.place p.size (omega (arith, j.0, joined_le (from + p.size) ps end j.1)), numbers_more xs ys (from + p.size) ps end j.1 h)

-- The zeros stand exactly if the parts that hold them have the number 0.
pub zero_numbers : (bytes : List ℕ) (from : ℕ) (ps : List Part) (end : ℕ) → Joined from ps end → end ≤ length bytes
    → all (is_zero bytes) (zero_places ps) ≡ zero_parts ps (number_in bytes)
unfolding zero_places
zero_numbers bytes from [] end j h = refl
zero_numbers bytes from (p ∷ ps) end j h =
    let rest = zero_numbers bytes (from + p.size) ps end j.1 h in
    let here = zero_number bytes p.place p.size (omega (arith, j.0, joined_le (from + p.size) ps end j.1)) in
    go (is_field p.holds) rest here
  where
    go : (t : Bool) → all (is_zero bytes) (zero_places ps) ≡ zero_parts ps (number_in bytes) → all (is_zero bytes) (places p.place p.size) ≡ eqb (number_in bytes p) 0
        → all (is_zero bytes) (cond t [] (places p.place p.size) ++ zero_places ps) ≡ (cond t true (eqb (number_in bytes p) 0) && zero_parts ps (number_in bytes))
    go true rest here = rest
    go false rest here = all_append (is_zero bytes) (places p.place p.size) (zero_places ps) ∙ ap₂ (λ a b. a && b) here rest

-- In each part stands the number that the message has of it, 0 where it has none.
abbrev pub Reads : List ℕ → Message → List Part → Type 0
Reads bytes m ps = Each (λ p. number_in bytes p ≡ value_of p.holds m) ps

-- every number fits its part
abbrev pub Fits : Message → List Part → Type 0
Fits m ps = Each (λ p. value_of p.holds m < 256 ^ p.size) ps

module _ (m : Message) where
  -- a part that holds zeros has 0
  zero_value : (h : Holds) → cond (is_field h) true (eqb (value_of h m) 0) ≡ true
  zero_value Holds.zeros = refl
  zero_value Holds.byte = refl
  zero_value Holds.first = refl
  zero_value Holds.second = refl
  zero_value Holds.third = refl

  own_zeros : (ps : List Part) → zero_parts ps (λ p. value_of p.holds m) ≡ true
  own_zeros [] = refl
  own_zeros (p ∷ ps) = rw (zero_value p.holds) (own_zeros ps)

  -- What is laid reaches from the first place to the end, and reads as the message.

  pub laid_length : (from : ℕ) (ps : List Part) (end : ℕ) → Joined from ps end → from + length (laid ps m) ≡ end
  unfolding laid
  laid_length from [] end j = omega (arith, j)
  laid_length from (p ∷ ps) end j =
      let d = digits p.size (value_of p.holds m) in
      omega (arith, length-append d (laid ps m), digits_length p.size (value_of p.holds m), laid_length (from + p.size) ps end j.1)

  pub laid_reads : (from : ℕ) (ps : List Part) (end : ℕ) → Joined from ps end → Fits m ps
      → (front tail bytes : List ℕ) → length front ≡ from → bytes ≡ front ++ (laid ps m ++ tail) → Reads bytes m ps
  unfolding laid
  laid_reads from [] end j f front tail bytes n e = tt
  laid_reads from (p ∷ ps) end j f front tail bytes n e =
      let d = digits p.size (value_of p.holds m) in
      let k : length (front ++ d) ≡ from + p.size = rw (length-append, n, digits_length p.size (value_of p.holds m)) in
      let e₁ : bytes ≡ front ++ (d ++ (laid ps m ++ tail)) = e ∙ ap (λ l. front ++ l) (append_assoc d (laid ps m) tail) in
      let e₂ : bytes ≡ (front ++ d) ++ (laid ps m ++ tail) = e₁ ∙ sym (append_assoc front d (laid ps m ++ tail)) in
      (rw (e₁, j.0) (number_part front (laid ps m ++ tail) from p.size (value_of p.holds m) n f.0), laid_reads (from + p.size) ps end j.1 f.1 (front ++ d) tail bytes k e₂)

  module _ (bytes : List ℕ) where
    -- Where bytes read as a message, their zeros stand; and where the zeros stand, they read as the message that has their numbers.

    pub reads_zeros : (from : ℕ) (ps : List Part) (end : ℕ) → Joined from ps end → end ≤ length bytes → Reads bytes m ps → all (is_zero bytes) (zero_places ps) ≡ true
    reads_zeros from ps end j h r = zero_numbers bytes from ps end j h ∙ zero_same (number_in bytes) (λ p. value_of p.holds m) ps r ∙ own_zeros ps

    pub zeros_read : (ps : List Part) → zero_parts ps (number_in bytes) ≡ true → Each (λ p. value_of p.holds m ≡ cond (is_field p.holds) (number_in bytes p) 0) ps → Reads bytes m ps
    zeros_read [] z g = tt
    zeros_read (p ∷ ps) z g =
        let t = (and-eq-true_iff (cond (is_field p.holds) true (eqb (number_in bytes p) 0)) (zero_parts ps (number_in bytes))).0 z in
        (go (is_field p.holds) t.0 g.0, zeros_read ps t.1 g.1)
      where
        go : (t : Bool) → cond t true (eqb (number_in bytes p) 0) ≡ true → value_of p.holds m ≡ cond t (number_in bytes p) 0 → number_in bytes p ≡ value_of p.holds m
        go true z g = sym g
        go false z g = eqb-true (number_in bytes p) 0 z ∙ sym g

    -- Where bytes read as a message, it is laid as these bytes.
    pub reads_laid : Bytes bytes → (from : ℕ) (ps : List Part) (end : ℕ) → Joined from ps end → end ≤ length bytes → Reads bytes m ps
        → laid ps m ≡ take (end - from) (drop from bytes)
    unfolding laid
    reads_laid b from [] end j h r = let none : end - from ≡ 0 = omega (arith, j) in rw none
    reads_laid b from (p ∷ ps) end j h r =
        let le = joined_le (from + p.size) ps end j.1 in
        let more : end - from ≡ p.size + (end - (from + p.size)) = omega (arith, le) in
        rw (more, take-add p.size (end - (from + p.size)) (drop from bytes), drop-drop p.size from bytes, ← r.0, j.0)
        (ap₂ (λ a c. a ++ c) (sym (digits_of bytes b from p.size (omega arith))) (reads_laid b (from + p.size) ps end j.1 h r.1))
