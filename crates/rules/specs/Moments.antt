-- Document 01, "Moments, windows, ranks". A name with a capital is the document's sentence; the same name without one computes it.
use Rattle.std.specs.Prelude.{◌≡◌, List, [], ◌∷◌, Bool, true, false, ◌&&◌, ◌||◌, ◌⊎◌, ℕ, zero, suc, ◌+◌, ◌-◌, ◌*◌, ◌/◌, ◌%◌, ◌≤◌, ◌<◌, min, eqb, ltb, leb, take}
use Rattle.lists.specs.Views.{◌∈◌, those}
use Rattle.lists.specs.Order.{ranked, Best}
use Rattle.rules.specs.Desk.{limit, names}
use Rattle.rules.specs.declared.Board.{Board}
use Rattle.rules.specs.declared.Entry.{Entry}

-- A moment of a board is a positive multiple of its slide, at most 1,000,000,000.
pub record Moment (b : Board) (T : ℕ) : Type 0 where
  pub positive : 0 < T
  pub multiple : (i : ℕ) × (T ≡ i * b.slide)
  pub at_most : T ≤ limit

unfoldable pub is_moment : Board → ℕ → Bool
is_moment b T = ltb 0 T && eqb (T % b.slide) 0 && leb T limit

-- Moments by their number, counted from 0, and how many of them are at most x.
unfoldable pub moment : Board → ℕ → ℕ
moment b i = suc i * b.slide

unfoldable pub upto : Board → ℕ → ℕ
upto b x = min x limit / b.slide

-- the ticks above n and up to m, and those of them that are moments of the board
abbrev pub ticks_from : ℕ → ℕ → List ℕ
ticks_from n zero = []
ticks_from n (suc c) = suc n ∷ ticks_from (suc n) c

abbrev pub ticks : ℕ → ℕ → List ℕ
ticks n m = ticks_from n (m - n)

unfoldable pub moments : Board → ℕ → ℕ → List ℕ
moments b n m = those (is_moment b) (ticks n m)

-- Its window at T holds the requests that count for it and whose tick t has t < T and T <= t + window.
pub record InWindow (b : Board) (T : ℕ) (e : Entry) : Type 0 where
  pub counts : names b e.topic ≡ true
  pub before : e.tick < T
  pub reaches : T ≤ e.tick + b.window

unfoldable pub in_window : Board → ℕ → Entry → Bool
in_window b T e = names b e.topic && (ltb e.tick T && leb T (e.tick + b.window))

-- An accepted request, and how many were accepted before it.
pub record Accepted : Type 0 where
  pub arrival : ℕ
  pub entry : Entry

abbrev pub entry_of : Accepted → Entry
entry_of x = x.entry

-- A higher score; with equal scores, the earlier accepted (document 02, item 2).
abbrev pub Better : Accepted → Accepted → Type 0
Better x y = (y.entry.score < x.entry.score) ⊎ ((x.entry.score ≡ y.entry.score) × (x.arrival < y.arrival))

unfoldable pub better : Accepted → Accepted → Bool
better x y = ltb y.entry.score x.entry.score || (eqb x.entry.score y.entry.score && ltb x.arrival y.arrival)

-- All accepted requests, the latest first: each has a higher number than those accepted before it.
abbrev pub InTurn : List Accepted → Type 0
InTurn [] = Unit {0}
InTurn (x ∷ xs) = ((y : Accepted) → y ∈ xs → y.arrival < x.arrival) × InTurn xs

abbrev pub window_of : Board → ℕ → List Accepted → List Accepted
window_of b T xs = those (λ x. in_window b T x.entry) xs

-- The answer at T: the first k of the window, best first, or all of it when fewer.
abbrev pub Answer : Board → ℕ → List Accepted → List Accepted → Type 0
Answer b T xs shown = Best better b.k (window_of b T xs) shown

unfoldable pub answer : Board → ℕ → List Accepted → List Accepted
answer b T xs = take b.k (window_of b T (ranked better xs))

-- a moment of some board
abbrev pub some_moment : List Board → ℕ → Bool
some_moment [] T = false
some_moment (b ∷ bs) T = is_moment b T || some_moment bs T

-- A step from clock n to a target reaches m: the target, or before it the earliest moment of any board above n.
pub record Reached (boards : List Board) (n target m : ℕ) : Type 0 where
  pub at_most : m ≤ target
  pub earliest : (b : Board) (T : ℕ) → b ∈ boards → Moment b T → n < T → m ≤ T
  pub stop : (m ≡ target) ⊎ ((b : Board) × (b ∈ boards) × Moment b m × (n < m))

unfoldable pub reached : List Board → ℕ → ℕ → ℕ
reached [] n target = target
reached (b ∷ bs) n target = min (moment b (upto b n)) (reached bs n target)
