-- Document 01, "Both sides of the edges": E1 to E12 as one table.
use Rattle.std.specs.Prelude.{◌≡◌, List, [], ◌∷◌, true, false, ◌⊎◌, ◌↔◌, ℕ, ◌+◌, ◌≤◌, ◌<◌, length}
use Rattle.rules.specs.Desk.{need, needs, names, board_fits, loaded, is_open}
use Rattle.rules.specs.Moments.{Moment, InWindow, Accepted, Answer}
use Rattle.rules.specs.SharedList.{FutureView, ShownIn, OnList}
use Rattle.rules.specs.Refusals.{disorder, reply_need}
use Rattle.rules.specs.Calls.{board_call, with_board, step_call, stays}
use Rattle.rules.specs.Calls.Reply.{refused, accepted}
use Rattle.rules.specs.declared.Board.{Board}
use Rattle.rules.specs.declared.Entry.{Entry}
use Rattle.rules.specs.declared.Desk.{Desk}

-- a board by its mask, window, slide and k; an accepted request by its arrival, id, score, tick and topic
abbrev pub board : ℕ → ℕ → ℕ → ℕ → Board
board mask window slide k = record { mask = mask; window = window; slide = slide; k = k }

abbrev pub request : ℕ → ℕ → ℕ → ℕ → ℕ → Accepted
request arrival id score tick topic = record { arrival = arrival; entry = record { id = id; score = score; tick = tick; topic = topic } }

-- the program's boards, and its requests on topic 0
abbrev pub board0 : Board
board0 = board 1 8 4 1

abbrev pub board1 : Board
board1 = board 1 7 3 2

abbrev pub boards01 : List Board
boards01 = board0 ∷ board1 ∷ []

abbrev pub id1 : Accepted
id1 = request 0 1 10 0 0

abbrev pub id2 : Accepted
id2 = request 1 2 20 0 0

abbrev pub requests01 : List Accepted
requests01 = id2 ∷ id1 ∷ []

-- a desk that takes boards: in order, loading, with a number free
pub record Loading (d : Desk) : Type 0 where
  pub order : disorder d ≡ false
  pub phase : is_open d ≡ false
  pub free : d.count < 32

pub record Edges : Type 0 where
  -- needs: (window 8, slide 4, k 1) 2; (7, 3, 2) 6; (4, 8, 3) 3
  pub E1 : (mask : ℕ) → (need (board mask 8 4 1) ≡ 2) × (need (board mask 7 3 2) ≡ 6) × (need (board mask 4 8 3) ≡ 3)
  -- moments of slide 3 above 0 and up to 8: 3 and 6
  pub E2 : (mask window k T : ℕ) → (Moment (board mask window 3 k) T × (T ≤ 8)) ↔ ((T ≡ 3) ⊎ (T ≡ 6))
  -- tick 3 is in the window at 4, tick 4 is not
  pub E3 : (b : Board) (id score topic : ℕ) → names b topic ≡ true → 1 ≤ b.window
      → InWindow b 4 (record { id = id; score = score; tick = 3; topic = topic }) × (InWindow b 4 (record { id = id; score = score; tick = 4; topic = topic }) → ⊥)
  -- window 8: tick 0 is in it at 8, not at 9
  pub E4 : (b : Board) (e : Entry) → names b e.topic ≡ true → b.window ≡ 8 → e.tick ≡ 0 → InWindow b 8 e × (InWindow b 9 e → ⊥)
  -- one tick, score 5, id 7 then id 8, k 1: the answer is 7 (document 02, item 2)
  pub E5 : (b : Board) (T tick topic : ℕ) → b.k ≡ 1 → InWindow b T (request 0 7 5 tick topic).entry → (shown : List Accepted)
      → Answer b T (request 1 8 5 tick topic ∷ request 0 7 5 tick topic ∷ []) shown ↔ (shown ≡ request 0 7 5 tick topic ∷ [])
  -- window 4, slide 8: a request at tick 3 is not listed, at tick 4 it is
  pub E6 : (k arrival id score : ℕ) → 1 ≤ k → (xs : List Accepted)
      → (OnList (board 1 4 8 k ∷ []) 3 xs (request arrival id score 3 0) → ⊥)
      × OnList (board 1 4 8 k ∷ []) 4 (request arrival id score 4 0 ∷ []) (request arrival id score 4 0)
  -- the program's boards, after both topic 0 requests at clock 0: id 1 is shown in the views at 3 and 6, not at 4 or 8
  pub E7 : ((b : Board) (T : ℕ) → FutureView boards01 0 b T ↔ (((b ≡ board0) × ((T ≡ 4) ⊎ (T ≡ 8))) ⊎ ((b ≡ board1) × ((T ≡ 3) ⊎ (T ≡ 6)))))
      × ShownIn board1 3 requests01 id1
      × ShownIn board1 6 requests01 id1
      × (ShownIn board0 4 requests01 id1 → ⊥)
      × (ShownIn board0 8 requests01 id1 → ⊥)
  -- window 4, slide 1, k 1: score 9 at tick 0, score 5 at tick 1: both are listed at clock 1, for the second has the view at 5
  pub E8 : (id id' : ℕ)
      → OnList (board 1 4 1 1 ∷ []) 1 (request 1 id' 5 1 0 ∷ request 0 id 9 0 0 ∷ []) (request 0 id 9 0 0)
      × OnList (board 1 4 1 1 ∷ []) 1 (request 1 id' 5 1 0 ∷ request 0 id 9 0 0 ∷ []) (request 1 id' 5 1 0)
      × FutureView (board 1 4 1 1 ∷ []) 1 (board 1 4 1 1) 5
      × ShownIn (board 1 4 1 1) 5 (request 1 id' 5 1 0 ∷ request 0 id 9 0 0 ∷ []) (request 1 id' 5 1 0)
  -- clock 999,999,999, one board, slide 3, window 3: a new request is not listed. With slide 2, window 3, k 1 and no earlier request it is.
  pub E9 : (k arrival id score : ℕ) (xs : List Accepted)
      → (OnList (board 1 3 3 k ∷ []) 999999999 xs (request arrival id score 999999999 0) → ⊥)
      × OnList (board 1 3 2 1 ∷ []) 999999999 (request arrival id score 999999999 0 ∷ []) (request arrival id score 999999999 0)
  -- target equal to the clock, reply long enough: accepted, nothing written
  pub E10 : (d : Desk) (slice : List ℕ) → disorder d ≡ false → is_open d ≡ true → reply_need (loaded d) ≤ length slice → step_call d d.time.clock slice ≡ stays d slice
  -- fewer than 32 boards: needs 1,024 accepted; one board more of need 1: refusal 8
  pub E11 : (d : Desk) (b : Board) → Loading d → board_fits b ≡ true
      → (needs (loaded d) + need b ≡ 1024 → board_call d b ≡ record { reply = accepted tt; desk = with_board d b })
      × (needs (loaded d) ≡ 1024 → need b ≡ 1 → board_call d b ≡ record { reply = refused 8; desk = d })
  -- k 256 accepted when its need fits; 257: refusal 6
  pub E12 : (d : Desk) (mask window slide : ℕ) → Loading d → board_fits (board mask window slide 256) ≡ true
      → (needs (loaded d) + need (board mask window slide 256) ≤ 1024
      → board_call d (board mask window slide 256) ≡ record { reply = accepted tt; desk = with_board d (board mask window slide 256) })
      × (board_call d (board mask window slide 257) ≡ record { reply = refused 6; desk = d })
