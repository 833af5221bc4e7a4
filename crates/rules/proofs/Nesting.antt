-- Nested cells: at clock n an entry of tick t <= n lies in the board's views from number `upto b n` up to its reach, so the last of them decides.
use mathlib.Core.Path.{◌≡◌, sym, ap, subst, ◌∙◌}
use mathlib.Core.List.Memᴰ
use mathlib.Core.List.{List, [], ◌∷◌, map}
use mathlib.Core.Bool.{true, cond}
use Prim.Native.Nat.{ℕ, ◌+◌, ◌≤◌, ◌<◌}
use native.Mathlib.Omega.{arith}
use borrow.Author.Tests.{ltb-true, ltb-false, lt-ltb, le-ltb, leb-true, leb-false, le-leb}
use lib.Dec.{ltb, leb}
use lib.ListN.{replicate}
use Rattle.lists.specs.Views.{View, ◌∈◌, sift, Covers}
use Rattle.lists.specs.Nested.{view, nested}
use Rattle.lists.proofs.Bools.{by, both_ways}
use Rattle.lists.proofs.Quota.{keep_sift}
use Rattle.lists.proofs.Laws.{agree, covers_append}
use Rattle.lists.proofs.Best.{fewer_those}
use Rattle.lists.proofs.Nested.{nested_mem, mem_nested}
use Rattle.rules.specs.Desk.{names}
use Rattle.rules.specs.Moments.{Moment, moment, upto, moments, InWindow, in_window, Accepted, better}
use Rattle.rules.specs.SharedList.{ShownIn, view_at, views, named}
use Rattle.rules.specs.Cells.{reach, cells, cell_views}
use Rattle.rules.specs.declared.Board.{Board}
use Rattle.rules.specs.declared.Entry.{Entry}
use Rattle.rules.proofs.MomentLaw.{counted, numbered}
use Rattle.rules.proofs.Moments.{moments_mem, few_views}
use Rattle.rules.proofs.Ranks.{in_window_lem}

module _ (n : ℕ) (es : List Entry) (past : (e : Entry) → e ∈ es → e.tick ≤ n) where
  module _ (b : Board) where
    same_inside : (j : ℕ) → Moment b (moment b j) → n < moment b j → (e : Entry) → e ∈ es → in_window b (moment b j) e ≡ ltb j (reach b e)
    unfolding in_window reach
    same_inside j m h e k =
        by (names b e.topic)
        (λ t. rw (t, lt-ltb e.tick (moment b j) (omega (arith, past e k))) (
        both_ways _ _
        (λ q. lt-ltb j (upto b (e.tick + b.window)) ((counted b j (e.tick + b.window)).1 (m, leb-true _ _ q)))
        (λ q. le-leb (moment b j) (e.tick + b.window) ((counted b j (e.tick + b.window)).0 (ltb-true _ _ q)).1)
        ))
        (λ t. rw t (sym (le-ltb j 0 (omega arith))))

    abbrev paper_views : List (View Entry)
    paper_views = map (view_at b) (moments b n (n + b.window))

    abbrev cells_of_board : List (View Entry)
    cells_of_board = nested (reach b) (upto b n) (replicate (cells b) b.k)

    -- number j at or past `upto b n` is above n
    ahead : (j : ℕ) → upto b n ≤ j → Moment b (moment b j) → n < moment b j
    ahead j h m =
        by (leb (moment b j) n)
        (λ e. absurd (omega (arith, (counted b j n).1 (m, leb-true _ _ e))))
        (λ e. leb-false _ _ e)

    paper_covers : Covers es paper_views cells_of_board
    unfolding reach
    paper_covers v a e k i p =
        let r = nested_mem (reach b) (upto b n) (cells b) b.k a in
        let j = r.0 in
        let in_reach : ltb j (reach b e) ≡ true = ap (λ (u : View Entry). u.inside e) (sym r.3) ∙ i in
        let c = reaches j in_reach in
        let h = ahead j r.1 c.0 in (
          view_at b (moment b j),
          Memᴰ.map (view_at b) ((moments_mem b n (n + b.window)).1 (c.0, h, omega (arith, c.1, past e k))),
          record {
            room = omega (arith, ap (λ (u : View Entry). u.cap) r.3);
            same = λ x m. same_inside j c.0 h x m ∙ ap (λ (u : View Entry). u.inside x) (sym r.3);
          },
        )
      where
        reaches : (j : ℕ) → ltb j (cond (names b e.topic) (upto b (e.tick + b.window)) 0) ≡ true → Moment b (moment b j) × (moment b j ≤ e.tick + b.window)
        reaches j q =
            by (names b e.topic)
            (λ t. (counted b j (e.tick + b.window)).0 (ltb-true _ _ (rw t at q)))
            (λ t. absurd (omega (arith, ltb-true j 0 (rw t at q))))

    cells_cover : Covers es cells_of_board paper_views
    unfolding cells
    cells_cover v a e k i p =
        let s = Memᴰ.of_map (view_at b) (moments b n (n + b.window)) a in
        let t = (moments_mem b n (n + b.window)).0 s.1 in
        let r = numbered b t.0 in
        let j = r.0 in
        let m = subst (Moment b) r.1 t.0 in
        let low : upto b n ≤ j = not_yet j (omega (arith, r.1, t.1)) in
        let high : j < upto b (n + b.window) = (counted b j (n + b.window)).1 (m, omega (arith, r.1, t.2)) in (
          view (reach b) j b.k,
          mem_nested (reach b) (upto b n) (cells b) b.k j low (omega (arith, few_views b n)),
          record {
            room = omega (arith, ap (λ (u : View Entry). u.cap) s.2);
            same = λ x h. sym (same_inside j m (omega (arith, r.1, t.1)) x h) ∙ ap (λ T. in_window b T x) (sym r.1) ∙ ap (λ (u : View Entry). u.inside x) s.2;
          },
        )
      where
        not_yet : (j : ℕ) → n < moment b j → upto b n ≤ j
        not_yet j h =
            by (ltb j (upto b n))
            (λ f. absurd (omega (arith, ((counted b j n).0 (ltb-true _ _ f)).1)))
            (λ f. ltb-false _ _ f)

  all_cover : (boards : List Board) → Covers es (views boards n) (cell_views boards n) × Covers es (cell_views boards n) (views boards n)
  unfolding views cell_views
  all_cover [] = (λ v m. absurd (Memᴰ.not-nil m), λ v m. absurd (Memᴰ.not-nil m))
  all_cover (b ∷ bs) = let r = all_cover bs in (covers_append es (paper_covers b) r.0, covers_append es (cells_cover b) r.1)

  -- What the rule names is what the walk over the cells keeps.
  pub named_cells : (boards : List Board) → named boards n es ≡ sift (cell_views boards n) es
  unfolding named
  named_cells boards = let c = all_cover boards in keep_sift (views boards n) es ∙ agree (views boards n) (cell_views boards n) es c.0 c.1

-- The last view decides: at a later moment a board's window holds no more of what was accepted, so what is in it is shown there no worse.
pub later_shows : (b : Board) (n T T' : ℕ) (xs : List Accepted) (x : Accepted) → ((y : Accepted) → y ∈ xs → y.entry.tick ≤ n) → n < T → T ≤ T'
    → InWindow b T' x.entry → ShownIn b T xs x → ShownIn b T' xs x
later_shows b n T T' xs x past h le w s = record {
  inside = w;
  few = omega (arith, fewer_those (λ y. better y x) (λ y. in_window b T y.entry) (λ y. in_window b T' y.entry) xs (λ y m. holds y (past y m)), s.few);
}
  where
    holds : (y : Accepted) → y.entry.tick ≤ n → in_window b T' y.entry ≡ true → in_window b T y.entry ≡ true
    holds y p e =
        let v = (in_window_lem b T' y.entry).0 e in
        (in_window_lem b T y.entry).1 (record { counts = v.counts; before = omega arith; reaches = omega (arith, v.reaches) })
