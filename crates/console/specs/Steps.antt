-- What the console asks of a desk's answer: the blocks that a step wrote.
use Rattle.std.specs.Prelude.{◌≡◌, ℕ, ◌*◌, ◌≤◌, List, [], ◌∷◌, ◌++◌, length, take}
use Rattle.rules.specs.declared.Steps.{Steps}

-- Blocks, one behind the other: a board's number, how many entries it shows, and three words for each.
pub data Blocks : List ℕ → Type 0 where
  none : Blocks []
  more : (board shown : ℕ) (entries others : List ℕ) → length entries ≡ 3 * shown → Blocks others → Blocks (board ∷ shown ∷ entries ++ others)

-- a step's words stand first in the reply, and are blocks
abbrev pub Shown : Steps → List ℕ → Type 0
Shown s reply = (s.words ≤ length reply) × Blocks (take s.words reply)
