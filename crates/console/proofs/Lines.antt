-- A line waits whole: there is room for the longest where it begins, so each piece of it stands behind the one before. No line is longer than a word and three numbers.
use Rattle.std.proofs.Common.{◌≡◌, ◌∙◌, ℕ, ◌+◌, ◌<◌, ◌≤◌, ◌^◌, List, [], ◌∷◌, ◌++◌, length, take, Result, Ok, Err, Option, Some, None, IfSome, OnOk, sym, ap, append_assoc, arith, length-append}
use Rattle.std.specs.List.{FoldsTo, concat}
use Rattle.std.specs.Fmt.{decimal, with_newline, WritesText}
use native.Mathlib.Nat.{min-le_left}
use Rattle.std.proofs.lemmas.Bool.{le-leb}
use Rattle.std.proofs.lemmas.List.{append-nil, length-take}
use Rattle.std.proofs.lemmas.Fmt.{length-decimal-le}
use Rattle.rules.specs.Replies.{number}
use Rattle.rules.specs.declared.Refusal.{Refusal}
use Rattle.console.specs.Output.{behind, longest}

module _ {W : Type 0} (waits : W → List ℕ) (room : ℕ) where
  abbrev pub Behind : W → List ℕ → W → Type 0
  Behind before text after = waits after ≡ behind room (waits before) text

  -- a text with room behind what waits
  fits : (w : W) (text : List ℕ) (v : W) → length (waits w) + length text ≤ room → Behind w text v → waits v ≡ waits w ++ text
  fits w text v h e = rw (le-leb (length (waits w) + length text) room h) at e

  pieces : (parts : List (List ℕ)) (w v : W) → length (waits w) + length (concat parts) ≤ room → FoldsTo Behind w parts v → waits v ≡ waits w ++ concat parts
  pieces [] w v h e = ap waits (sym e) ∙ sym (append-nil (waits w))
  pieces (x ∷ xs) w v h (j, e, more) =
      let first : waits j ≡ waits w ++ x = fits w x j (omega (arith, length-append x (concat xs))) e in
      let n : length (waits j) + length (concat xs) ≤ room = rw first (omega (arith, length-append x (concat xs), length-append (waits w) x)) in
      pieces xs j v n more ∙ ap (λ (l : List ℕ). l ++ concat xs) first ∙ append_assoc (waits w) x (concat xs)

  pub line_stands : {E : Type 0} (answer : Result (Unit {0}) E) (line : Option (List ℕ)) (w v : W) → IfSome line (λ text. length text < longest) → length (waits w) + longest ≤ room
      → OnOk answer (WritesText Behind w (with_newline line) v) → OnOk answer (IfSome line (λ text. waits v ≡ waits w ++ (text ++ (10 ∷ []))))
  line_stands (Err e) line w v h k c = tt
  line_stands (Ok a) None w v h k c = tt
  line_stands (Ok a) (Some text) w v h k c =
      rw (← c.whole) (pieces c.parts w v (rw c.whole (omega (arith, length-append text (10 ∷ []), h, k))) c.calls)

-- a part that waits is no longer than its end
pub short_take : (n : ℕ) (bytes : List ℕ) (more : ℕ) {room : ℕ} → n + more ≤ room → length (take n bytes) + more ≤ room
short_take n bytes more h = omega (arith, h, length-take n bytes, min-le_left n (length bytes))

pub number_small : (r : Refusal) → number r ≤ 99
number_small Refusal.Short = omega arith
number_small Refusal.Mark = omega arith
number_small Refusal.Version = omega arith
number_small Refusal.Kind = omega arith
number_small Refusal.Nonzero = omega arith
number_small Refusal.Range = omega arith
number_small Refusal.Boards = omega arith
number_small Refusal.Needs = omega arith
number_small Refusal.Phase = omega arith
number_small Refusal.Boardless = omega arith
number_small Refusal.Past = omega arith
number_small Refusal.Reply = omega arith
number_small Refusal.Place = omega arith
number_small Refusal.Room = omega arith
number_small Refusal.Form = omega arith
number_small Refusal.Disorder = omega arith

-- what is printed of numbers is no longer than the longest numbers
number_short : (n : ℕ) → n < 2 ^ 64 → length (decimal n) ≤ 20
number_short n h = length-decimal-le 20 n (omega arith) (omega arith) h

pub one_number : (n : ℕ) → n < 2 ^ 64 → length (decimal n) + 8 < longest
one_number n h = omega (arith, number_short n h)

pub two_numbers : (n m : ℕ) → n < 2 ^ 64 → m < 2 ^ 64 → length (decimal n ++ (32 ∷ decimal m)) + 8 < longest
two_numbers n m h k = omega (arith, length-append (decimal n) (32 ∷ decimal m), number_short n h, number_short m k)

pub three_numbers : (n m p : ℕ) → n < 2 ^ 64 → m < 2 ^ 64 → p < 2 ^ 64 → length (decimal n ++ (32 ∷ (decimal m ++ (32 ∷ decimal p)))) + 8 < longest
three_numbers n m p h k l =
    omega (arith, length-append (decimal n) (32 ∷ (decimal m ++ (32 ∷ decimal p))), length-append (decimal m) (32 ∷ decimal p), number_short n h, number_short m k, number_short p l)
