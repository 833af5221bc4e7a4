-- The list's rule in document 01's words and as a walk over the views at the clock: both name the same requests, and never more than the sum of needs.
use mathlib.Core.Path.{◌≡◌, refl, sym, ap, subst, ◌∙◌}
use mathlib.Core.List.Memᴰ
use mathlib.Core.List.{List, [], ◌∷◌, map}
use mathlib.Core.Bool.{true, ◌&&◌}
use mathlib.Core.Logic.{inl, inr, ◌↔◌}
use Prim.Native.Nat.{ℕ, ◌+◌, ◌*◌, ◌≤◌, ◌<◌}
use native.Mathlib.Omega.{arith}
use native.Mathlib.Nat.{mul_comm, mul-le-mul_right}
use lib.ListN.{length}
use Rattle.lists.specs.Views.{View, ◌∈◌, along, those, first, count, keep, sift, caps}
use Rattle.lists.specs.Order.{ranked, Needed}
use Rattle.lists.proofs.Quota.{keep_sift}
use Rattle.lists.proofs.Laws.{room, first_sift}
use Rattle.lists.proofs.Best.{count_those, count_ranked, ranked_mem, keep_exactly}
use Rattle.lists.proofs.Along.{map_sift}
use Rattle.lists.proofs.Nested.{caps_append}
use Rattle.rules.specs.Desk.{need, needs}
use Rattle.rules.specs.Moments.{moments, in_window, Accepted, entry_of, better, InTurn, window_of, answer}
use Rattle.rules.specs.SharedList.{FutureView, ShownIn, OnList, view_at, views, named}
use Rattle.rules.specs.Cells.{cells}
use Rattle.rules.specs.declared.Board.{Board}
use Rattle.rules.specs.declared.Entry.{Entry}
use Rattle.rules.proofs.Moments.{length_moments, moments_mem, few_views}
use Rattle.rules.proofs.Ranks.{in_window_lem, better_strict, falling_ranked}

-- The views at a clock are the future views.

pub views_mem : {v : View Entry} (boards : List Board) (n : ℕ) → v ∈ views boards n → (b : Board) × (T : ℕ) × FutureView boards n b T × (v ≡ view_at b T)
unfolding views
views_mem [] n m = absurd (Memᴰ.not-nil m)
views_mem (b ∷ bs) n m =
    elim (Memᴰ.append_cases (map (view_at b) (moments b n (n + b.window))) m) [
      | inl h ↦
          let s = Memᴰ.of_map (view_at b) (moments b n (n + b.window)) h in
          let t = (moments_mem b n (n + b.window)).0 s.1 in
          (b, s.0, record { board = Memᴰ.head refl; moment = t.0; above = t.1; near = t.2 }, sym s.2)
      | inr h ↦
          let r = views_mem bs n h in
          let f = r.2 in
          (r.0, r.1, record { board = Memᴰ.tail f.board; moment = f.moment; above = f.above; near = f.near }, r.3)
    ]

pub mem_views : {b : Board} {T : ℕ} (boards : List Board) (n : ℕ) → FutureView boards n b T → view_at b T ∈ views boards n
unfolding views
mem_views {b} {T} boards n f = go boards f.board
  where
    go : (bs : List Board) → b ∈ bs → view_at b T ∈ views bs n
    go bs (Memᴰ.head {x = c} {xs = cs} e) =
        Memᴰ.append_left (views cs n) (
        subst (λ (a : Board). view_at b T ∈ map (view_at a) (moments a n (n + a.window))) e (
        Memᴰ.map (view_at b) ((moments_mem b n (n + b.window)).1 (f.moment, f.above, f.near))
        ))
    go bs (Memᴰ.tail {x = c} {xs = cs} m) = Memᴰ.append_right (map (view_at c) (moments c n (n + c.window))) (go cs m)

-- The rule in document 01's words.

module _ (boards : List Board) (n : ℕ) (xs : List Accepted) where
  abbrev seen : List (View Accepted)
  seen = map (along entry_of) (views boards n)

  same_few : (b : Board) (T : ℕ) (x : Accepted) → count (λ y. better y x) (window_of b T (ranked better xs)) ≡ count (λ y. better y x) (window_of b T xs)
  same_few b T x =
      count_those (λ y. better y x) (λ y. in_window b T y.entry) (ranked better xs)
      ∙ count_ranked better (λ y. in_window b T y.entry && better y x) xs
      ∙ sym (count_those (λ y. better y x) (λ y. in_window b T y.entry) xs)

  -- What an answer shows: the requests in its window with fewer than k better ones there.
  pub answer_shown : {x : Accepted} (b : Board) (T : ℕ) → InTurn xs → (x ∈ answer b T xs) ↔ ((x ∈ xs) × ShownIn b T xs x)
  unfolding answer
  answer_shown {x} b T turn =
      let v = along entry_of (view_at b T) in
      let all = ranked better xs in
      let k = keep_exactly better better_strict (v ∷ []) all (falling_ranked xs turn) in
      let e : keep (v ∷ []) [] all ≡ first v all = keep_sift (v ∷ []) all ∙ sym (first_sift v all) in (
        λ m.
            let r = k.0 (subst (λ l. x ∈ l) (sym e) m) in
            let t = r.1 in
            let s = subst (λ (u : View Accepted). (u.inside x ≡ true) × (count (λ y. better y x) (those u.inside all) < u.cap)) (Memᴰ.eq_of_singleton t.1) (t.2, t.3) in
            ((ranked_mem better xs).0 r.0, record { inside = (in_window_lem b T x.entry).0 s.0; few = omega (arith, s.1, same_few b T x) }),
        λ r.
            subst (λ l. x ∈ l) e
            (k.1 ((ranked_mem better xs).1 r.0, (v, Memᴰ.head refl, (in_window_lem b T x.entry).1 r.1.inside, omega (arith, r.1.few, same_few b T x)))),
      )

  on_needed : {x : Accepted} → OnList boards n xs x → Needed better seen (ranked better xs) x
  on_needed {x} o =
      let b = o.0 in
      let T = o.1 in
      let s = o.3 in (
        along entry_of (view_at b T),
        Memᴰ.map (along entry_of) (mem_views boards n o.2),
        (in_window_lem b T x.entry).1 s.inside,
        omega (arith, s.few, same_few b T x),
      )

  needed_on : {x : Accepted} → Needed better seen (ranked better xs) x → OnList boards n xs x
  needed_on {x} t =
      let m = Memᴰ.of_map (along entry_of) (views boards n) t.1 in
      let r = views_mem boards n m.1 in
      let b = r.0 in
      let T = r.1 in
      let e : along entry_of (view_at b T) ≡ t.0 = ap (along entry_of) (sym r.3) ∙ m.2 in
      let s = subst (λ (v : View Accepted). (v.inside x ≡ true) × (count (λ y. better y x) (those v.inside (ranked better xs)) < v.cap)) (sym e) (t.2, t.3) in
      (b, T, r.2, record { inside = (in_window_lem b T x.entry).0 s.0; few = omega (arith, s.1, same_few b T x) })

  -- What the walk over the views at the clock keeps of all accepted requests, best first, is what the rule names.
  pub list_exactly : {x : Accepted} → InTurn xs → (x ∈ sift seen (ranked better xs)) ↔ ((x ∈ xs) × OnList boards n xs x)
  list_exactly {x} turn =
      let k = keep_exactly better better_strict seen (ranked better xs) (falling_ranked xs turn) in
      let e = keep_sift seen (ranked better xs) in (
        λ m. let r = k.0 (subst (λ l. x ∈ l) (sym e) m) in ((ranked_mem better xs).0 r.0, needed_on r.1),
        λ r. subst (λ l. x ∈ l) e (k.1 ((ranked_mem better xs).1 r.0, on_needed r.1)),
      )

  -- The entries of it, in their order, are what the rule names of the entries.
  pub list_entries : map entry_of (sift seen (ranked better xs)) ≡ named boards n (map entry_of (ranked better xs))
  unfolding named
  list_entries = map_sift entry_of (views boards n) (ranked better xs) ∙ sym (keep_sift (views boards n) (map entry_of (ranked better xs)))

-- Room: at most the sum of needs.

caps_views : (b : Board) (ts : List ℕ) → caps (map (view_at b) ts) ≡ length ts * b.k
caps_views b [] = omega arith
caps_views b (t ∷ ts) = omega (arith, caps_views b ts)

few_caps : (boards : List Board) (n : ℕ) → caps (views boards n) ≤ needs boards
unfolding views needs need cells
few_caps [] n = omega arith
few_caps (b ∷ bs) n =
    let m : length (moments b n (n + b.window)) ≤ cells b = omega (arith, length_moments b n b.window, few_views b n) in
    omega (
      arith,
      caps_append (map (view_at b) (moments b n (n + b.window))) (views bs n),
      caps_views b (moments b n (n + b.window)),
      mul-le-mul_right b.k m,
      mul_comm b.k (cells b),
      few_caps bs n,
    )

pub named_room : (boards : List Board) (n : ℕ) (es : List Entry) → length (named boards n es) ≤ needs boards
unfolding named
named_room boards n es = omega (arith, ap length (keep_sift (views boards n) es), room (views boards n) es, few_caps boards n)
