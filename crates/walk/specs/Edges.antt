-- One board's walk. Its views with nothing left are the first ones, so the board shows an entry exactly if the entry lies in the first view behind them:
-- if its tick is at or past an edge.
use Rattle.std.specs.Prelude.{◌≡◌, Bool, false, cond, ◌&&◌, List, [], ◌∷◌, ◌++◌, ℕ, ◌+◌, ◌-◌, ◌*◌, ◌≤◌, ◌<◌, min, ltb, leb, length, drop, replicate, Option, Some, None}
use Rattle.std.specs.Int.Bits.{bit_and}
use Rattle.std.specs.Coded.{×_prop, Unit-prop, le_prop}
use Rattle.lists.specs.Views.{View}
use Rattle.lists.specs.Nested.{nested, empties, on_front, Rise}
use Rattle.rules.specs.Desk.{limit}
use Rattle.rules.specs.Moments.{moment, upto}
use Rattle.rules.specs.Cells.{cells}
use Rattle.rules.specs.declared.Board.{Board}
use Rattle.walk.specs.Line.{named_bits}
use Rattle.walk.specs.declared.Spot.{Spot}

-- whether what stands at a spot counts for the board, and how many of the board's moments are not past its window
abbrev pub counts_for : Board → Spot → Bool
counts_for b s = ltb 0 (bit_and (named_bits b) s.bit)

unfoldable pub reach_of : Board → Spot → ℕ
reach_of b s = cond (counts_for b s) (upto b (s.entry.tick + b.window)) 0

-- how many of so many views hold it
abbrev pub held_by : Board → ℕ → ℕ → Spot → ℕ
held_by b first views s = min (reach_of b s - first) views

-- the board's views from number `first` on, each with what it has left; and the views of all boards at a clock, with k left in each
unfoldable pub views_from : Board → ℕ → List ℕ → List (View Spot)
views_from b first left = nested (reach_of b) first left

unfoldable pub board_views : List Board → ℕ → List (View Spot)
board_views [] n = []
board_views (b ∷ bs) n = views_from b (upto b n) (replicate (cells b) b.k) ++ board_views bs n

-- What can be counted on: the number behind the last view's is that of a moment not more than 1,025 slides past the limit, and a board with views has a slide.
pub record Numbered (b : Board) (first views : ℕ) : Type 0 where
  pub small : first + views ≤ limit + 1024
  pub near : moment b (first + views) ≤ limit + 1025 * b.slide
  pub slides : 0 < views → 0 < b.slide

-- Of views from number `first` on, these stay: those that have something left, for those that have nothing are the first ones.
pub record Stay (b : Board) (first : ℕ) (left : List ℕ) (board : Board) (number : ℕ) (rest : List ℕ) : Type 0 where
  pub same : board ≡ b
  pub number_is : number ≡ first + empties left
  pub rest_is : rest ≡ drop (empties left) left

-- what views have left once those that hold this tick have lost one
unfoldable pub lowered : Board → ℕ → ℕ → List ℕ → List ℕ
lowered b first tick left = on_front (λ q. q - 1) (min (upto b (tick + b.window) - first) (length left)) left

-- The first tick that the first view holds; none where there is no view, or where its moment is past the limit.
unfoldable pub edge : Board → ℕ → ℕ → Option ℕ
edge b first views = cond (ltb 0 views && leb (moment b first) limit) (Some (moment b first - b.window)) None

abbrev pub past : Option ℕ → ℕ → Bool
past None tick = false
past (Some at) tick = leb at tick

-- Two proofs that a list rises are one.
pub rise_prop : (n : ℕ) (qs : List ℕ) → IsProp (Rise n qs)
rise_prop n [] = Unit-prop
rise_prop n (q ∷ qs) = ×_prop le_prop (rise_prop q qs)
