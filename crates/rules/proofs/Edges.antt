-- E1 to E12 hold of the definitions: a window or a view by its two ends, a list by what the rule names, a call by its rules in their order.
use mathlib.Core.Path.{◌≡◌, refl, sym, ap, subst, ◌∙◌}
use mathlib.Core.List.Memᴰ
use mathlib.Core.List.{List, [], ◌∷◌}
use mathlib.Core.Bool.{true, false, ◌&&◌, and-false}
use mathlib.Core.Logic.{◌⊎◌, inl, inr, ◌↔◌}
use Prim.Native.Nat.{ℕ, ◌+◌, ◌*◌, ◌≤◌, ◌<◌}
use native.Mathlib.Omega.{arith}
use native.Mathlib.Decide.{ℕ_discrete}
use borrow.Author.Tests.{lt-ltb, le-ltb, eq-eqb, le-leb, lt-leb}
use lib.Dec.{leb, lit<, lit≤}
use lib.ListN.{length}
use Rattle.lists.specs.Views.{◌∈◌, count}
use Rattle.rules.specs.Desk.{limit, within, names, rounded_up, need, needs, board_fits, loaded, is_open}
use Rattle.rules.specs.Moments.{Moment, InWindow, in_window, Accepted, better, InTurn, window_of, Answer, answer}
use Rattle.rules.specs.SharedList.{FutureView, ShownIn}
use Rattle.rules.specs.Refusals.{disorder, reply_need}
use Rattle.rules.specs.Calls.{board_call, with_board, step_call, stays}
use Rattle.rules.specs.Calls.Reply.{refused, accepted}
use Rattle.rules.specs.Edges.{board, request, board0, board1, boards01, id1, requests01, Loading, Edges}
use Rattle.rules.specs.declared.Board.{Board}
use Rattle.rules.specs.declared.Desk.{Desk}
use Rattle.rules.proofs.Ranks.{in_window_lem, better_strict, answer_is, answer_only}
use Rattle.rules.proofs.Refusing.{in_order}

needs_of : (mask : ℕ) → (need (board mask 8 4 1) ≡ 2) × (need (board mask 7 3 2) ≡ 6) × (need (board mask 4 8 3) ≡ 3)
unfolding need rounded_up
needs_of mask = (refl, refl, refl)

threes : (mask window k T : ℕ) → (Moment (board mask window 3 k) T × (T ≤ 8)) ↔ ((T ≡ 3) ⊎ (T ≡ 6))
threes mask window k T = (to, back)
  where
    to : Moment (board mask window 3 k) T × (T ≤ 8) → (T ≡ 3) ⊎ (T ≡ 6)
    to m = elim (ℕ_discrete T 3) [ yes e ↦ inl e | no e ↦ inr (omega (arith, m.0.positive, m.0.multiple.1, m.1)) ]

    back : (T ≡ 3) ⊎ (T ≡ 6) → Moment (board mask window 3 k) T × (T ≤ 8)
    back (inl e) = (record { positive = omega arith; multiple = (1, omega arith); at_most = omega arith }, omega arith)
    back (inr e) = (record { positive = omega arith; multiple = (2, omega arith); at_most = omega arith }, omega arith)

earlier_first : (b : Board) (T tick topic : ℕ) → b.k ≡ 1 → InWindow b T (request 0 7 5 tick topic).entry
    → answer b T (request 1 8 5 tick topic ∷ request 0 7 5 tick topic ∷ []) ≡ request 0 7 5 tick topic ∷ []
unfolding answer better in_window
earlier_first b T tick topic k w =
    rw (w.counts, lt-ltb tick T w.before, le-leb T (tick + b.window) w.reaches, k)

id7_only : (b : Board) (T tick topic : ℕ) → b.k ≡ 1 → InWindow b T (request 0 7 5 tick topic).entry → (shown : List Accepted)
    → Answer b T (request 1 8 5 tick topic ∷ request 0 7 5 tick topic ∷ []) shown ↔ (shown ≡ request 0 7 5 tick topic ∷ [])
id7_only b T tick topic k w shown = (
  λ a. answer_only b T xs turn shown a ∙ earlier_first b T tick topic k w,
  λ e. subst (Answer b T xs) (earlier_first b T tick topic k w ∙ sym e) (answer_is b T xs turn),
)
  where
    xs : List Accepted
    xs = request 1 8 5 tick topic ∷ request 0 7 5 tick topic ∷ []

    turn : InTurn xs
    turn = (λ y m. omega (arith, ap (λ (x : Accepted). x.arrival) (Memᴰ.eq_of_singleton m)), (λ y m. absurd (Memᴰ.not-nil m), tt))

-- A request alone is shown wherever it lies.
alone : (b : Board) (T : ℕ) (x : Accepted) → 1 ≤ b.k → InWindow b T x.entry → ShownIn b T (x ∷ []) x
alone b T x h w = record { inside = w; few = omega (arith, none) }
  where
    none : count (λ y. better y x) (window_of b T (x ∷ [])) ≡ 0
    none = rw ((in_window_lem b T x.entry).1 w, better_strict.never x)

-- Of one board, a future view is that board's.
one_board : {b c : Board} {n T : ℕ} → FutureView (c ∷ []) n b T → FutureView (c ∷ []) n c T
one_board {c} {n} {T} f = subst (λ (a : Board). FutureView (c ∷ []) n a T) (Memᴰ.eq_of_singleton f.board) f

none_at_8 : (k : ℕ) {b : Board} {T : ℕ} → FutureView (board 1 4 8 k ∷ []) 3 b T → ⊥
none_at_8 k f = let g = one_board f in omega (arith, g.moment.positive, g.moment.multiple.1, g.near)

none_beyond : (k : ℕ) {b : Board} {T : ℕ} → FutureView (board 1 3 3 k ∷ []) 999999999 b T → ⊥
none_beyond k f = let g = one_board f in omega (arith, g.moment.multiple.1, g.moment.at_most, g.above)

topic0 : (window slide k : ℕ) → names (board 1 window slide k) 0 ≡ true
unfolding names
topic0 window slide k = refl

-- E7: the future views at clock 0, and where id 1 is shown

views01 : (b : Board) (T : ℕ) → FutureView boards01 0 b T ↔ (((b ≡ board0) × ((T ≡ 4) ⊎ (T ≡ 8))) ⊎ ((b ≡ board1) × ((T ≡ 3) ⊎ (T ≡ 6))))
views01 b T = (λ f. to f (Memᴰ.cases_cons f.board), back)
  where
    of0 : FutureView boards01 0 board0 T → (T ≡ 4) ⊎ (T ≡ 8)
    of0 f = elim (ℕ_discrete T 4) [ yes e ↦ inl e | no e ↦ inr (omega (arith, f.above, f.moment.multiple.1, f.near)) ]

    of1 : FutureView boards01 0 board1 T → (T ≡ 3) ⊎ (T ≡ 6)
    of1 f = elim (ℕ_discrete T 3) [ yes e ↦ inl e | no e ↦ inr (omega (arith, f.above, f.moment.multiple.1, f.near)) ]

    to : FutureView boards01 0 b T → (b ≡ board0) ⊎ (b ∈ board1 ∷ []) → ((b ≡ board0) × ((T ≡ 4) ⊎ (T ≡ 8))) ⊎ ((b ≡ board1) × ((T ≡ 3) ⊎ (T ≡ 6)))
    to f (inl e) = inl (e, of0 (subst (λ (a : Board). FutureView boards01 0 a T) e f))
    to f (inr m) = let e = Memᴰ.eq_of_singleton m in inr (e, of1 (subst (λ (a : Board). FutureView boards01 0 a T) e f))

    at : (c : Board) (i : ℕ) → c ∈ boards01 → b ≡ c → 0 < T → T ≡ i * c.slide → T ≤ 0 + c.window → T ≤ limit → FutureView boards01 0 b T
    at c i m e p q h l =
        subst (λ (a : Board). FutureView boards01 0 a T) (sym e)
        (record { board = m; moment = record { positive = p; multiple = (i, q); at_most = l }; above = p; near = h })

    back : ((b ≡ board0) × ((T ≡ 4) ⊎ (T ≡ 8))) ⊎ ((b ≡ board1) × ((T ≡ 3) ⊎ (T ≡ 6))) → FutureView boards01 0 b T
    back (inl (e, inl h)) = at board0 1 (Memᴰ.head refl) e (omega arith) (omega arith) (omega arith) (omega arith)
    back (inl (e, inr h)) = at board0 2 (Memᴰ.head refl) e (omega arith) (omega arith) (omega arith) (omega arith)
    back (inr (e, inl h)) = at board1 1 (Memᴰ.tail (Memᴰ.head refl)) e (omega arith) (omega arith) (omega arith) (omega arith)
    back (inr (e, inr h)) = at board1 2 (Memᴰ.tail (Memᴰ.head refl)) e (omega arith) (omega arith) (omega arith) (omega arith)

-- id 2 is the better one, so id 1 is shown where k is 2 and not where it is 1
one_better : (T : ℕ) (b : Board) → names b 0 ≡ true → 0 < T → T ≤ b.window → count (λ y. better y id1) (window_of b T requests01) ≡ 1
unfolding better in_window
one_better T b t p h = rw (t, lt-ltb 0 T p, le-leb T (0 + b.window) (omega arith))

shown_at_lem : (T : ℕ) → 0 < T → T ≤ 7 → ShownIn board1 T requests01 id1
shown_at_lem T p h = record {
  inside = record { counts = topic0 7 3 2; before = p; reaches = omega arith };
  few = omega (arith, one_better T board1 (topic0 7 3 2) p h);
}

not_shown_at : (T : ℕ) → 0 < T → T ≤ 8 → ShownIn board0 T requests01 id1 → ⊥
not_shown_at T p h s = omega (arith, s.few, one_better T board0 (topic0 8 4 1) p h)

-- E8: the first is the better one, and at 5 it is out of the window

first9 : ℕ → Accepted
first9 id = request 0 id 9 0 0

second5 : ℕ → Accepted
second5 id = request 1 id 5 1 0

at_2 : (id id' : ℕ) → ShownIn (board 1 4 1 1) 2 (second5 id' ∷ first9 id ∷ []) (first9 id)
unfolding first9 second5 better in_window names
at_2 id id' = record { inside = record { counts = refl; before = lit< tt; reaches = lit≤ tt }; few = lit< tt }

at_5 : (id id' : ℕ) → ShownIn (board 1 4 1 1) 5 (second5 id' ∷ first9 id ∷ []) (second5 id')
unfolding first9 second5 better in_window names
at_5 id id' = record { inside = record { counts = refl; before = lit< tt; reaches = lit≤ tt }; few = lit< tt }

view_of : (T : ℕ) → 1 < T → T ≤ 5 → FutureView (board 1 4 1 1 ∷ []) 1 (board 1 4 1 1) T
view_of T p h = record {
  board = Memᴰ.head refl;
  moment = record { positive = omega arith; multiple = (T, omega arith); at_most = omega arith };
  above = p;
  near = omega arith;
}

-- Calls: the rules that are not given

same_target : (d : Desk) (slice : List ℕ) → disorder d ≡ false → is_open d ≡ true → reply_need (loaded d) ≤ length slice
    → step_call d d.time.clock slice ≡ stays d slice
unfolding step_call
same_target d slice o p h =
    rw (
      o,
      le-leb d.time.clock limit (in_order d o).clock,
      p,
      le-ltb d.time.clock d.time.clock (omega arith),
      le-ltb (length slice) (reply_need (loaded d)) h,
      eq-eqb d.time.clock d.time.clock refl,
    )

board_taken : (d : Desk) (b : Board) → Loading d → board_fits b ≡ true → needs (loaded d) + need b ≤ 1024
    → board_call d b ≡ record { reply = accepted tt; desk = with_board d b }
unfolding board_call
board_taken d b l f h = rw (l.order, f, l.phase, lt-leb 32 d.count l.free, le-ltb 1024 (needs (loaded d) + need b) h)

board_too_much : (d : Desk) (b : Board) → Loading d → board_fits b ≡ true → 1024 < needs (loaded d) + need b
    → board_call d b ≡ record { reply = refused 8; desk = d }
unfolding board_call
board_too_much d b l f h = rw (l.order, f, l.phase, lt-leb 32 d.count l.free, lt-ltb 1024 (needs (loaded d) + need b) h)

k_257 : (d : Desk) (mask window slide : ℕ) → Loading d → board_call d (board mask window slide 257) ≡ record { reply = refused 6; desk = d }
unfolding board_call board_fits
k_257 d mask window slide l = rw (l.order, and-false (leb mask 255 && within 1 86400 window && within 1 86400 slide))

pub edges : Edges
unfolding first9 second5
edges = record {
  E1 = needs_of;
  E2 = threes;
  E3 = λ b id score topic t h. (record { counts = t; before = lit< tt; reaches = omega arith }, λ w. omega (arith, w.before));
  E4 = λ b e t h z. (record { counts = t; before = omega arith; reaches = omega arith }, λ w. omega (arith, w.reaches));
  E5 = id7_only;
  E6 =
      λ k arrival id score h xs. (
        λ o. none_at_8 k o.2,
        (
          board 1 4 8 k,
          8,
          record { board = Memᴰ.head refl; moment = record { positive = lit< tt; multiple = (1, refl); at_most = lit≤ tt }; above = lit< tt; near = lit≤ tt },
          alone (board 1 4 8 k) 8 (request arrival id score 4 0) h (record { counts = topic0 4 8 k; before = lit< tt; reaches = lit≤ tt }),
        ),
      );
  E7 =
      (views01, shown_at_lem 3 (lit< tt) (lit≤ tt), shown_at_lem 6 (lit< tt) (lit≤ tt), not_shown_at 4 (lit< tt) (lit≤ tt), not_shown_at 8 (lit< tt) (lit≤ tt));
  E8 =
      λ id id'. (
        (board 1 4 1 1, 2, view_of 2 (lit< tt) (lit≤ tt), at_2 id id'),
        (board 1 4 1 1, 5, view_of 5 (lit< tt) (lit≤ tt), at_5 id id'),
        view_of 5 (lit< tt) (lit≤ tt),
        at_5 id id',
      );
  E9 =
      λ k arrival id score xs. (
        λ o. none_beyond k o.2,
        (
          board 1 3 2 1,
          limit,
          record { board = Memᴰ.head refl; moment = record { positive = lit< tt; multiple = (500000000, refl); at_most = lit≤ tt }; above = lit< tt; near = lit≤ tt },
          alone (board 1 3 2 1) limit (request arrival id score 999999999 0) (lit≤ tt) (record { counts = topic0 3 2 1; before = lit< tt; reaches = lit≤ tt }),
        ),
      );
  E10 = same_target;
  E11 = λ d b l f. (λ h. board_taken d b l f (omega arith), λ h g. board_too_much d b l f (omega arith));
  E12 = λ d mask window slide l f. (λ h. board_taken d (board mask window slide 256) l f h, k_257 d mask window slide l);
}
