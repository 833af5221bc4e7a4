-- One board's walk along the line. Its views have no less left the later they are, so those with nothing left are the first ones, and may go; and of those
-- that stay the first decides what is shown.
use mathlib.Core.Path.{◌≡◌, refl, sym, ap, ◌∙◌}
use mathlib.Core.List.{List, [], ◌∷◌, ◌++◌}
use mathlib.Core.Bool.{true, false, cond, ◌&&◌, and-eq-true_iff}
use Prim.Native.Nat.{ℕ, suc, ◌+◌, ◌-◌, ◌≤◌, ◌<◌}
use native.Mathlib.Omega.{arith}
use native.Mathlib.Nat.{min-le_right}
use borrow.Author.Tests.{ltb-false, lt-ltb}
use lib.Dec.{ltb, leb}
use lib.ListN.{length, take, drop, get_or, set, take-append-drop, drop_of_length-le}
use Rattle.std.specs.Prelude.{Option, Some, None}
use Rattle.lists.specs.Views.{View, shows, pass}
use Rattle.lists.specs.Nested.{view, nested, empties, from, Rise}
use Rattle.lists.specs.Marks.{noted}
use Rattle.lists.proofs.Bools.{by}
use Rattle.lists.proofs.Nested.{left_edge, nested_shows, nested_pass}
use Rattle.lists.proofs.Fronts.{front_min}
use Rattle.lists.proofs.Marks.{noted_idle, noted_shown, noted_passed}
use Rattle.rules.specs.Desk.{no_entry}
use Rattle.rules.specs.declared.Board.{Board}
use Rattle.walk.specs.Line.{with_mark}
use Rattle.walk.specs.Edges.{counts_for, reach_of, held_by, views_from, Stay, lowered, edge, past}
use Rattle.walk.specs.declared.Spot.{Spot}
use Rattle.walk.specs.declared.Views.{Views}
use Rattle.walk.proofs.Edges.{at_edge}

-- A view with nothing left shows nothing, and does not get less.
full_one : (reach : Spot → ℕ) (i : ℕ) (vs : List (View Spot)) (xs : List Spot) → noted with_mark (view reach i 0 ∷ vs) xs ≡ noted with_mark vs xs
full_one reach i vs [] = refl
full_one reach i vs (x ∷ xs) =
    by (ltb i (reach x))
    (λ e. rw e (ap (λ (l : List Spot). cond (shows vs x) (with_mark x) x ∷ l) (full_one reach i (pass x vs) xs)))
    (λ e. rw e (ap (λ (l : List Spot). cond (shows vs x) (with_mark x) x ∷ l) (full_one reach i (pass x vs) xs)))

-- so those at the front may go
full_gone : (reach : Spot → ℕ) (i : ℕ) (qs : List ℕ) (xs : List Spot) → noted with_mark (nested reach i qs) xs ≡ noted with_mark (nested reach (i + empties qs) (drop (empties qs) qs)) xs
full_gone reach i [] xs = refl
full_gone reach i (q ∷ qs) xs =
    by (ltb 0 q)
    (λ e. rw e (ap (λ n. noted with_mark (nested reach n (q ∷ qs)) xs) (omega arith)))
    (λ e.
    let z : q ≡ 0 = omega (arith, ltb-false 0 q e) in
    let n : suc i + empties qs ≡ i + suc (empties qs) = omega arith in
    rw e (ap (λ q. noted with_mark (view reach i q ∷ nested reach (suc i) qs) xs) z ∙ full_one reach i (nested reach (suc i) qs) xs ∙ full_gone reach (suc i) qs xs ∙ ap (λ m. noted with_mark (nested reach m (drop (empties qs) qs)) xs) n))

-- where each has something left, none is empty
none_empty : (qs : List ℕ) → Rise 1 qs → empties qs ≡ 0
none_empty [] h = refl
none_empty (q ∷ qs) h = rw (lt-ltb 0 q h.0)

-- what stands where nothing does
abbrev pub no_spot : Spot
no_spot = record { entry = no_entry; bit = 0; marked = false }

abbrev pub in_hand : Views → List (View Spot)
in_hand v = views_from v.board v.first v.left.now

abbrev pub edge_of : Views → Option ℕ
edge_of v = edge v.board v.first (length v.left.now)

module _ (v : Views) where
  shown_at : (s : Spot) → shows (in_hand v) s ≡ (past (edge_of v) s.entry.tick && counts_for v.board s)
  unfolding views_from
  shown_at s =
      let held : ℕ = held_by v.board v.first (length v.left.now) s in
      nested_shows (reach_of v.board) v.first 1 v.left.now s v.rise
      ∙ left_edge 1 held v.left.now v.rise (min-le_right _ (length v.left.now))
      ∙ ap (λ n. ltb n held) (none_empty v.left.now v.rise)
      ∙ sym (at_edge v.board v.first (length v.left.now) s v.numbered)

  -- with no edge, nothing more is marked
  pub marked_early : (line : List Spot) (i : ℕ) {whole : List Spot} → (edge_of v) ≡ None → from i (noted with_mark (in_hand v)) line ≡ whole → line ≡ whole
  marked_early line i e t =
      rw (noted_idle with_mark (in_hand v) (drop i line) (λ s. shown_at s ∙ ap (λ o. past o s.entry.tick && counts_for v.board s) e), take-append-drop) at t

  module _ (start : ℕ) (here : Some start ≡ (edge_of v)) (line : List Spot) (i : ℕ) (h : i < length line) {whole : List Spot} (together : from i (noted with_mark (in_hand v)) line ≡ whole) where
    abbrev pub spot : Spot
    spot = get_or line i no_spot

    shown : shows (in_hand v) spot ≡ (leb start spot.entry.tick && counts_for v.board spot)
    shown = shown_at spot ∙ ap (λ o. past o spot.entry.tick && counts_for v.board spot) (sym here)

    pub skips : (leb start spot.entry.tick && counts_for v.board spot) ≡ false → from (i + 1) (noted with_mark (in_hand v)) line ≡ whole
    skips e = sym (noted_passed with_mark (in_hand v) line i no_spot h (shown ∙ e)) ∙ together

    -- what is shown is marked, and the views go on with what they have left
    module _ (e : (leb start spot.entry.tick && counts_for v.board spot) ≡ true) where
      abbrev pub less : List ℕ
      less = lowered v.board v.first spot.entry.tick v.left.now

      passed : pass spot (in_hand v) ≡ nested (reach_of v.board) v.first less
      unfolding views_from lowered reach_of
      passed =
          let t = ((and-eq-true_iff (leb start spot.entry.tick) (counts_for v.board spot)).0 e).1 in
          nested_pass (reach_of v.board) v.first v.left.now spot ∙ ap (nested (reach_of v.board) v.first) (sym (front_min (λ q. q - 1) (reach_of v.board spot - v.first) v.left.now) ∙ rw t)

      pub marks_it : (w : Views) → Stay v.board v.first less w.board w.first w.left.now → from (i + 1) (noted with_mark (in_hand w)) (set line i (with_mark spot)) ≡ whole
      unfolding views_from
      marks_it w t =
          let rest : List Spot = drop (i + 1) (set line i (with_mark spot)) in
          rw (t.same, t.number_is, t.rest_is) (
          ap (λ l. take (i + 1) (set line i (with_mark spot)) ++ l) (sym (ap (λ vs. noted with_mark vs rest) passed ∙ full_gone (reach_of v.board) v.first less rest))
          ∙ sym (noted_shown with_mark (in_hand v) line i no_spot h (shown ∙ e)) ∙ together
          )

-- at the line's end nothing is left to mark
pub marked_all : (vs : List (View Spot)) (line : List Spot) (i : ℕ) {whole : List Spot} → length line ≤ i → from i (noted with_mark vs) line ≡ whole → line ≡ whole
marked_all vs line i h t =
    let z : drop i line ≡ [] = drop_of_length-le line {i = i} h in
    sym (rw z at (take-append-drop i line)) ∙ (rw z at t)

-- The walk begins with k left in each view.
pub starts : (b : Board) (first : ℕ) (left : List ℕ) (line : List Spot) (v : Views) → Stay b first left v.board v.first v.left.now → noted with_mark (in_hand v) line ≡ noted with_mark (views_from b first left) line
unfolding views_from
starts b first left line v t = rw (t.same, t.number_is, t.rest_is) (sym (full_gone (reach_of b) first left line))
