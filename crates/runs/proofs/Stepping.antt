-- An accepted step: the answers of the shared list are those of whole windows, and what it keeps is what the rule names at the new clock.
use mathlib.Core.Path.{◌≡◌, refl, sym, ap, subst, ◌∙◌}
use mathlib.Core.List.Memᴰ
use mathlib.Core.List.{List, [], ◌∷◌, map}
use mathlib.Core.Bool.{cond}
use mathlib.Core.Logic.{◌⊎◌, inl, inr}
use Prim.Native.Nat.{ℕ, suc, ◌+◌, ◌≤◌, ◌<◌}
use native.Mathlib.Omega.{arith}
use borrow.Author.Tests.{ltb-false, leb-true, leb-false, eqb-false, not-false}
use lib.Dec.{eqb, leb}
use lib.ListN.{length}
use lib.Seq.{take-nil}
use Rattle.lists.specs.Views.{View, ◌∈◌, along, first, sift, Covers}
use Rattle.lists.specs.Order.{ranked}
use Rattle.lists.proofs.Bools.{by, untrue}
use Rattle.lists.proofs.Quota.{keep_sift}
use Rattle.lists.proofs.Laws.{step as step_law, answers}
use Rattle.lists.proofs.Best.{those_none, ranked_mem}
use Rattle.lists.proofs.Along.{map_sift, map_first}
use Rattle.rules.specs.Desk.{limit}
use Rattle.rules.specs.Moments.{Moment, is_moment, in_window, Accepted, entry_of, better, answer, Reached}
use Rattle.rules.specs.SharedList.{FutureView, view_at, views, named}
use Rattle.rules.specs.Refusals.{Rule, judged}
use Rattle.rules.specs.Calls.{shown_at, blocks, StepOutcome, stays, moved_to, step_call}
use Rattle.rules.specs.Calls.Reply.{refused, accepted}
use Rattle.rules.specs.declared.Board.{Board}
use Rattle.rules.specs.declared.Desk.{Desk}
use Rattle.rules.proofs.Refusing.{None, Denied, Granted, judged_cases}
use Rattle.rules.proofs.Fitting.{all_slide, entry_fits_lem}
use Rattle.rules.proofs.MomentLaw.{is_moment_lem}
use Rattle.rules.proofs.Ranks.{in_window_lem}
use Rattle.rules.proofs.Listing.{views_mem, mem_views}
use Rattle.rules.proofs.Stepping.{reached_is, reached_from}
use Rattle.runs.specs.Runs.{Said}
use Rattle.runs.specs.Runs.Call.{step}
use Rattle.runs.specs.Runs.Said.{stepped}
use Rattle.runs.specs.Ledger.{Ledger, seen, on_list, entries, step_rules, at_clock, stop, whole_blocks, step_said, ledger_said, ledger_next}
use Rattle.runs.proofs.Agreeing.{Sound, listed_request}
use Rattle.runs.proofs.Settling.{with_list_lem}
use Rattle.runs.proofs.Calling.{On, ordered}

module _ (l : Ledger) (s : Sound l) where
  -- every accepted request came by now
  pub past : {x : Accepted} → x ∈ l.requests → x.entry.tick ≤ l.time.clock
  past {x} m = ((entry_fits_lem l.time.clock x.entry).0 (s.entered x m)).1

  pub slides : (b : Board) → b ∈ l.boards → 0 < b.slide
  slides b m = all_slide l.boards s.fits m

  -- where a step to a target not below the clock stops
  pub stops : (target : ℕ) → l.time.clock ≤ target → target ≤ limit → Reached l.boards l.time.clock target (stop l target) × (l.time.clock ≤ stop l target)
  stops target h k =
      (reached_is l.time.clock target k l.boards slides, reached_from l.time.clock target h k l.boards slides)

  -- A due board shows of the list what it shows of all requests.

  seen_mem : {b : Board} {T : ℕ} → FutureView l.boards l.time.clock b T → along entry_of (view_at b T) ∈ seen l.boards l.time.clock
  seen_mem f = Memᴰ.map (along entry_of) (mem_views l.boards l.time.clock f)

  -- a window that begins after the clock holds no request yet
  none_yet : (b : Board) (T : ℕ) → l.time.clock + b.window < T → (xs : List Accepted) → ((x : Accepted) → x ∈ xs → x ∈ l.requests)
      → first (along entry_of (view_at b T)) xs ≡ []
  none_yet b T h xs f =
      rw (those_none (λ x. in_window b T x.entry) xs (λ x m. untrue _ (λ e. omega (arith, ((in_window_lem b T x.entry).0 e).reaches, past (f x m)))))
      (take-nil b.k)

  shown_alike : (b : Board) (T : ℕ) → b ∈ l.boards → Moment b T → l.time.clock < T → shown_at b T (entries l) ≡ map entry_of (answer b T l.requests)
  unfolding on_list answer
  shown_alike b T m t h =
      let all = ranked better l.requests in
      let vs = seen l.boards l.time.clock in
      let v = along entry_of (view_at b T) in
      sym (map_first entry_of (view_at b T) (sift vs all))
      ∙ ap (map entry_of) (
      by (leb T (l.time.clock + b.window))
      (λ e. answers vs all (seen_mem (record { board = m; moment = t; above = h; near = leb-true _ _ e })))
      (λ e.
      none_yet b T (leb-false _ _ e) (sift vs all) (λ x k. listed_request l s k)
      ∙ sym (none_yet b T (leb-false _ _ e) all (λ x k. (ranked_mem better l.requests).0 k)))
      )

  pub blocks_alike : (T : ℕ) → l.time.clock < T → (number : ℕ) (bs : List Board) → ((b : Board) → b ∈ bs → b ∈ l.boards)
      → blocks number bs T (entries l) ≡ whole_blocks number bs T l.requests
  unfolding blocks whole_blocks
  blocks_alike T h number [] f = refl
  blocks_alike T h number (b ∷ bs) f =
      let rest = blocks_alike T h (suc number) bs (λ c m. f c (Memᴰ.tail m)) in
      by (is_moment b T)
      (λ e. rw (e, shown_alike b T (f b (Memᴰ.head refl)) ((is_moment_lem b T).0 e) h, rest))
      (λ e. rw (e, rest))

  -- What the rule names at a later clock is named of what it named before.

  later_covers : (T : ℕ) → l.time.clock ≤ T → Covers (ranked better l.requests) (seen l.boards l.time.clock) (seen l.boards T)
  later_covers T h v m x k i p =
      let u = Memᴰ.of_map (along entry_of) (views l.boards T) m in
      let r = views_mem l.boards T u.1 in
      let f = r.2 in
      let e : along entry_of (view_at r.0 r.1) ≡ v = ap (along entry_of) (sym r.3) ∙ u.2 in
      let w = (in_window_lem r.0 r.1 x.entry).0 (ap (λ (z : View Accepted). z.inside x) e ∙ i) in
      let tick = past ((ranked_mem better l.requests).0 k) in (
        v,
        subst (λ (z : View Accepted). z ∈ seen l.boards l.time.clock) e
            (seen_mem (record { board = f.board; moment = f.moment; above = omega (arith, f.above); near = omega (arith, w.reaches) })),
        record { room = omega arith; same = λ y n. refl },
      )

  pub names_later : (T : ℕ) → l.time.clock ≤ T → named l.boards T (entries l) ≡ entries (at_clock l T)
  unfolding named on_list
  names_later T h =
      let all = ranked better l.requests in
      keep_sift (views l.boards T) (map entry_of (sift (seen l.boards l.time.clock) all))
      ∙ sym (map_sift entry_of (views l.boards T) (sift (seen l.boards l.time.clock) all))
      ∙ ap (map entry_of) (step_law (seen l.boards l.time.clock) (seen l.boards T) all (later_covers T h))

  pub later_sound : (T : ℕ) → l.time.clock ≤ T → T ≤ limit → Sound (at_clock l T)
  later_sound T h k = record {
    few = s.few;
    room = s.room;
    fits = s.fits;
    clock = k;
    phase = s.phase;
    loading = s.loading;
    turn = s.turn;
    numbers = s.numbers;
    entered = λ x m. (entry_fits_lem T x.entry).1 (((entry_fits_lem l.time.clock x.entry).0 (s.entered x m)).0, omega (arith, past m));
  }

-- The step as a call.

module _ (d : Desk) (l : Ledger) (on : On d l) (target : ℕ) (slice : List ℕ) where
  abbrev rules : List Rule
  rules = step_rules l target (length slice)

  abbrev refuse : ℕ → StepOutcome
  refuse n = record { reply = refused n; desk = d; slice = slice }

  abbrev accept : StepOutcome
  accept = cond (eqb target l.time.clock) (stays d slice) (moved_to d (stop l target) slice)

  step_judged : step_call d target slice ≡ judged rules refuse accept
  unfolding step_call
  step_judged = rw (ordered d l on, on.same.boards, on.same.time)

  abbrev Alike : StepOutcome → Said → Ledger → Type 0
  Alike o said l' = (stepped o.reply o.slice ≡ said) × On o.desk l'

  stays_alike : Alike (stays d slice) (stepped (accepted (record { clock = l.time.clock; due = 0; words = 0 })) slice) l
  stays_alike = (rw on.same.time, on)

  moves_alike : (T : ℕ) → l.time.clock < T → T ≤ limit → Alike (moved_to d T slice) (step_said l T slice) (at_clock l T)
  moves_alike T h k =
      let a = on.same in
      let s = on.sound in
      let sound = later_sound l s T (omega arith) k in (
        rw (a.boards, a.list, blocks_alike l s T h 0 l.boards (λ b m. m)),
        record {
          same = rw (a.boards, a.list, names_later l s T (omega arith)) (with_list_lem d l (at_clock l T) a s sound refl refl (entries (at_clock l T)) refl);
          sound = sound;
        },
      )

  accept_alike : None rules → Alike accept (cond (eqb target l.time.clock) (stepped (accepted (record { clock = l.time.clock; due = 0; words = 0 })) slice) (step_said l (stop l target) slice))
      (cond (eqb target l.time.clock) l (at_clock l (stop l target)))
  accept_alike none =
      let fits = leb-true target limit (not-false (leb target limit) none.0) in
      let below = ltb-false target l.time.clock none.1.1.0 in
      let r = stops l on.sound target below fits in
      by (eqb target l.time.clock)
      (λ e. rw e stays_alike)
      (λ e.
      let apart = eqb-false target l.time.clock e in
      let above : l.time.clock < stop l target = elim r.0.stop [ inl q ↦ omega (arith, q, below, apart) | inr m ↦ m.3 ] in
      rw e (moves_alike (stop l target) above (omega (arith, r.0.at_most))))

  pub step_alike : Alike (step_call d target slice) (ledger_said l (step target slice)) (ledger_next l (step target slice))
  step_alike = rw step_judged (go (judged_cases rules))
    where
      go : Denied rules ⊎ Granted rules → Alike (judged rules refuse accept) (ledger_said l (step target slice)) (ledger_next l (step target slice))
      go (inl h) = rw (h.same StepOutcome refuse accept, h.same Said (λ n. stepped (refused n) slice) _, h.same Ledger (λ n. l) _) (refl, on)
      go (inr h) = rw (h.same StepOutcome refuse accept, h.same Said (λ n. stepped (refused n) slice) _, h.same Ledger (λ n. l) _) (accept_alike h.none)
