-- Document 01, "Refusal numbers": what is refused, in which order, and a desk in disorder.
use Rattle.std.specs.Prelude.{◌≡◌, List, [], ◌∷◌, Bool, true, false, cond, not, ◌&&◌, ◌||◌, ◌⊎◌, ℕ, ◌+◌, ◌*◌, ◌≤◌, eqb, ltb, leb, length, take}
use Rattle.lists.specs.Views.{all}
use Rattle.rules.specs.Desk.{limit, within, need, needs, board_fits, request_fits, clock_fits, loaded, listed, is_open}
use Rattle.rules.specs.Messages.{mark, same_bytes, number_at, kind_at, message, zeros_stand, fields_fit}
use Rattle.rules.specs.declared.Board.{Board}
use Rattle.rules.specs.declared.Entry.{Entry}
use Rattle.rules.specs.declared.Message.{Message}
use Rattle.rules.specs.declared.Desk.{Desk}

-- A line of the table: a number, and when it is given.
pub record Rule : Type 0 where
  pub no : ℕ
  pub given : Bool

infix 68 ◌when◌
abbrev pub ◌when◌ : ℕ → Bool → Rule
◌when◌ n b = record { no = n; given = b }

-- The first rule that is given refuses, with its number; where none is, the call is accepted.
abbrev pub judged : {A : Type 0} → List Rule → (ℕ → A) → A → A
judged [] refuse accept = accept
judged (r ∷ rs) refuse accept = cond r.given (refuse r.no) (judged rs refuse accept)

-- n is the number of the first rule that is given
abbrev pub Refuses : List Rule → ℕ → Type 0
Refuses [] n = ⊥
Refuses (r ∷ rs) n = ((r.given ≡ true) × (r.no ≡ n)) ⊎ ((r.given ≡ false) × Refuses rs n)

-- entries in the list's order by score: no score above the one before it
unfoldable pub falls_from : ℕ → List Entry → Bool
falls_from score [] = true
falls_from score (e ∷ es) = leb e.score score && falls_from e.score es

unfoldable pub falls : List Entry → Bool
falls [] = true
falls (e ∷ es) = falls_from e.score es

-- an entry's fields in range, and its tick not above the clock
unfoldable pub entry_fits : ℕ → Entry → Bool
entry_fits clock e = request_fits e.topic e.score && leb e.tick clock

-- the sum over all boards of 2 + 3k, due or not
unfoldable pub reply_need : List Board → ℕ
reply_need [] = 0
reply_need (b ∷ bs) = 2 + 3 * b.k + reply_need bs

-- 99
unfoldable pub disorder : Desk → Bool
disorder d =
    ltb 32 d.count
    || ltb 1024 (needs (loaded d))
    || ltb (needs (loaded d)) d.len
    || (not (is_open d) && ltb 0 d.len)
    || not (clock_fits d.time.clock)
    || ltb 1 d.time.phase
    || not (all board_fits (loaded d))
    || not (all (entry_fits d.time.clock) (listed d))
    || not (falls (listed d))

-- the same, as what a desk in order has
pub record InOrder (d : Desk) : Type 0 where
  pub few : d.count ≤ 32
  pub room : needs (loaded d) ≤ 1024
  pub short : d.len ≤ needs (loaded d)
  pub none : is_open d ≡ false → d.len ≡ 0
  pub clock : d.time.clock ≤ limit
  pub phase : d.time.phase ≤ 1
  pub boards : all board_fits (loaded d) ≡ true
  pub entries : all (entry_fits d.time.clock) (listed d) ≡ true
  pub falling : falls (listed d) ≡ true

abbrev pub reader_rules : List ℕ → List Rule
reader_rules bytes =
    1 when ltb (length bytes) 20
    ∷ 2 when not (same_bytes (take 3 bytes) mark)
    ∷ 3 when not (eqb (number_at bytes 3 2) 1)
    ∷ 4 when not (within 1 4 (kind_at bytes))
    ∷ 5 when not (zeros_stand bytes (kind_at bytes))
    ∷ 6 when not (fields_fit (message bytes))
    ∷ []

-- the version and the message to write, the length of the slice, and the place in it
abbrev pub writer_rules : ℕ → Message → ℕ → ℕ → List Rule
writer_rules version m room at =
    3 when not (eqb version 1)
    ∷ 4 when not (within 1 4 m.kind)
    ∷ 6 when not (fields_fit m)
    ∷ 14 when ltb room (at + 20)
    ∷ []

abbrev pub board_rules : Desk → Board → List Rule
board_rules d b =
    99 when disorder d
    ∷ 6 when not (board_fits b)
    ∷ 9 when is_open d
    ∷ 7 when leb 32 d.count
    ∷ 8 when ltb 1024 (needs (loaded d) + need b)
    ∷ []

abbrev pub open_rules : Desk → List Rule
open_rules d = 99 when disorder d ∷ 9 when is_open d ∷ 10 when eqb d.count 0 ∷ []

abbrev pub request_rules : Desk → ℕ → ℕ → List Rule
request_rules d topic score = 99 when disorder d ∷ 6 when not (request_fits topic score) ∷ 9 when not (is_open d) ∷ []

-- the step's target, and the length of its reply slice
abbrev pub step_rules : Desk → ℕ → ℕ → List Rule
step_rules d target room =
    99 when disorder d
    ∷ 6 when not (clock_fits target)
    ∷ 9 when not (is_open d)
    ∷ 11 when ltb target d.time.clock
    ∷ 12 when ltb room (reply_need (loaded d))
    ∷ []

abbrev pub length_rules : Desk → List Rule
length_rules d = 99 when disorder d ∷ []

abbrev pub place_rules : Desk → ℕ → List Rule
place_rules d at = 99 when disorder d ∷ 13 when leb d.len at ∷ []

-- a message of no known kind
abbrev pub kind_rules : Desk → List Rule
kind_rules d = 99 when disorder d ∷ 4 when true ∷ []
