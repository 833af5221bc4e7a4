-- Document 01: "Decimal text anywhere is one digit or more, leading zeros allowed."
use Rattle.std.specs.Prelude.{◌≡◌, List, [], ◌∷◌, Bool, true, false, ◌&&◌, ℕ, ◌+◌, ◌-◌, ◌*◌}
use Rattle.lists.specs.Views.{all}
use Rattle.rules.specs.Desk.{within}

-- the ASCII digits
abbrev pub is_digit : ℕ → Bool
is_digit byte = within 48 57 byte

-- digits behind a number: each makes ten of what stands before it, and adds its own
abbrev pub tenfold : ℕ → ℕ → ℕ
tenfold n byte = n * 10 + (byte - 48)

unfoldable pub behind : ℕ → List ℕ → ℕ
behind n [] = n
behind n (byte ∷ bytes) = behind (tenfold n byte) bytes

abbrev pub value : List ℕ → ℕ
value text = behind 0 text

-- one digit or more
abbrev pub some : List ℕ → Bool
some [] = false
some (byte ∷ bytes) = true

-- The text is decimal, for the number n.
pub record Decimal (text : List ℕ) (n : ℕ) : Type 0 where
  pub one : some text ≡ true
  pub digits : all is_digit text ≡ true
  pub same : value text ≡ n

abbrev pub is_decimal : List ℕ → Bool
is_decimal text = some text && all is_digit text
