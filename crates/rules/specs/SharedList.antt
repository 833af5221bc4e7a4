-- Document 01, "The shared list".
use Rattle.std.specs.Prelude.{List, [], ◌∷◌, ◌++◌, map, Bool, ℕ, ◌+◌, ◌-◌, ◌≤◌, ◌<◌, leb, length, drop, replicate}
use Rattle.lists.specs.Views.{View, ◌∈◌, count, keep}
use Rattle.lists.specs.Order.{place}
use Rattle.rules.specs.Desk.{no_entry}
use Rattle.rules.specs.Moments.{Moment, moments, InWindow, in_window, Accepted, better, window_of}
use Rattle.rules.specs.declared.Board.{Board}
use Rattle.rules.specs.declared.Entry.{Entry}

-- At clock n a future view is a board and a moment T of it with n < T <= n + window.
pub record FutureView (boards : List Board) (n : ℕ) (b : Board) (T : ℕ) : Type 0 where
  pub board : b ∈ boards
  pub moment : Moment b T
  pub above : n < T
  pub near : T ≤ n + b.window

-- In it a request lies in the window and fewer than k better accepted requests lie in it too.
pub record ShownIn (b : Board) (T : ℕ) (xs : List Accepted) (x : Accepted) : Type 0 where
  pub inside : InWindow b T x.entry
  pub few : count (λ y. better y x) (window_of b T xs) < b.k

-- A request is on the list exactly if that is so in at least one future view.
abbrev pub OnList : List Board → ℕ → List Accepted → Accepted → Type 0
OnList boards n xs x = (b : Board) × (T : ℕ) × FutureView boards n b T × ShownIn b T xs x

-- The same over entries that stand in order of rank: better is what stands before. A view shows the first k of its window.
abbrev pub view_at : Board → ℕ → View Entry
view_at b T = record { inside = in_window b T; cap = b.k }

unfoldable pub views : List Board → ℕ → List (View Entry)
views [] n = []
views (b ∷ bs) n = map (view_at b) (moments b n (n + b.window)) ++ views bs n

-- what the list's rule names of them
unfoldable pub named : List Board → ℕ → List Entry → List Entry
named boards n es = keep (views boards n) [] es

-- A new request stands behind its equals, before the first entry whose score is below its own: it is the latest accepted.
abbrev pub ahead : Entry → Entry → Bool
ahead y x = leb x.score y.score

abbrev pub placed : Entry → List Entry → List Entry
placed e es = place ahead e es

-- The places of the list afterwards: the entries, zeros from the new length up to the old one, and later places as they stood.
unfoldable pub settled : ℕ → List Entry → List Entry → List Entry
settled len stood es = es ++ (replicate (len - length es) no_entry ++ drop (length es + (len - length es)) stood)
