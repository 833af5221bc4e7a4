-- Theorem B. A listed request has a future view; steps alone lead to it, and it is shown there. What is shown after a continuation was shown by fewer
-- better requests before: later ones only push others down, and a moment that still holds it was a future view all along.
use mathlib.Core.Path.{◌≡◌, refl, sym, ap, subst, ◌∙◌}
use mathlib.Core.List.Memᴰ
use mathlib.Core.List.{List, [], ◌∷◌, ◌++◌, append_assoc}
use mathlib.Core.Bool.{true, cond}
use mathlib.Core.Logic.{◌⊎◌, inl, inr}
use Prim.Native.Nat.{ℕ, zero, suc, ◌-◌, ◌≤◌, ◌<◌}
use native.Mathlib.Omega.{arith}
use native.Mathlib.Nat.{le_refl}
use native.Mathlib.Decide.{ℕ_discrete}
use borrow.Author.Tests.{ltb-false, le-ltb, leb-true, le-leb, ne_eqb, not-false}
use lib.Dec.{eqb, leb}
use lib.ListN.{length, replicate, length-replicate}
use Rattle.lists.specs.Views.{◌∈◌, count}
use Rattle.lists.proofs.Bools.{by}
use Rattle.rules.specs.Desk.{limit, fresh}
use Rattle.rules.specs.Moments.{Moment, in_window, Accepted, better, window_of, answer}
use Rattle.rules.specs.Refusals.{judged, reply_need}
use Rattle.rules.specs.Calls.Reply.{refused}
use Rattle.rules.specs.declared.Board.{Board}
use Rattle.rules.specs.declared.Desk.{Desk}
use Rattle.rules.proofs.Refusing.{None, Denied, Granted, judged_cases}
use Rattle.rules.proofs.Listing.{list_exactly, answer_shown}
use Rattle.runs.specs.Runs.{Call, next, after}
use Rattle.runs.specs.Runs.Call.{load, opening, request, step, measure, place, read}
use Rattle.runs.specs.Runs.Said.{stepped}
use Rattle.runs.specs.Ledger.{Ledger, open?, on_list, request_rules, step_rules, with_request, arriving, at_clock, stop, step_said, ledger_next, ledger_after}
use Rattle.runs.specs.Theorems.{kept, Goes, Continues, ShownLater, Exactly}
use Rattle.runs.proofs.Agreeing.{Sound}
use Rattle.runs.proofs.Calling.{On}
use Rattle.runs.proofs.Stepping.{past, stops, later_sound}
use Rattle.runs.proofs.Running.{call_alike, kept_on}

-- What a continuation alters: requests are added in front, and the clock does not go back.
pub record Further (l l' : Ledger) : Type 0 where
  pub boards : l'.boards ≡ l.boards
  pub clock : l.time.clock ≤ l'.time.clock
  pub newer : List Accepted
  pub requests : l'.requests ≡ newer ++ l.requests

further_self : (l : Ledger) → Further l l
further_self l = record { boards = refl; clock = omega arith; newer = []; requests = refl }

further_on : (l m n : Ledger) → Further l m → Further m n → Further l n
further_on l m n f g = record {
  boards = g.boards ∙ f.boards;
  clock = omega (arith, f.clock, g.clock);
  newer = g.newer ++ f.newer;
  requests = g.requests ∙ ap (λ xs. g.newer ++ xs) f.requests ∙ sym (append_assoc g.newer f.newer l.requests);
}

goes_further : (l : Ledger) → Sound l → (c : Call) → Goes l c → Further l (ledger_next l c)
goes_further l s (load b) g = absurd g
goes_further l s opening g = absurd g
goes_further l s measure g = absurd g
goes_further l s (place at) g = absurd g
goes_further l s (read bytes) g = absurd g
goes_further l s (request topic id score) g = go (judged_cases (request_rules l topic score))
  where
    x : Accepted
    x = arriving l topic id score

    go : Denied (request_rules l topic score) ⊎ Granted (request_rules l topic score) → Further l (ledger_next l (request topic id score))
    go (inl h) = rw (h.same Ledger (λ n. l) (with_request l x)) (further_self l)
    go (inr h) = rw (h.same Ledger (λ n. l) (with_request l x)) (record { boards = refl; clock = omega arith; newer = x ∷ []; requests = refl })
goes_further l s (step target slice) g = go (judged_cases (step_rules l target (length slice)))
  where
    then : Ledger
    then = cond (eqb target l.time.clock) l (at_clock l (stop l target))

    moved : None (step_rules l target (length slice)) → Further l then
    moved none =
        let r = stops l s target (ltb-false target l.time.clock none.1.1.0) (leb-true target limit (not-false (leb target limit) none.0)) in
        by (eqb target l.time.clock) (λ e. rw e (further_self l)) (λ e. rw e (record { boards = refl; clock = r.1; newer = []; requests = refl }))

    go : Denied (step_rules l target (length slice)) ⊎ Granted (step_rules l target (length slice)) → Further l (ledger_next l (step target slice))
    go (inl h) = rw (h.same Ledger (λ n. l) then) (further_self l)
    go (inr h) = rw (h.same Ledger (λ n. l) then) (moved h.none)

-- along a continuation, with the desk beside the ledger
continues_further : (d : Desk) (l : Ledger) → On d l → (cs : List Call) → Continues l cs → Further l (ledger_after l cs) × Sound (ledger_after l cs)
continues_further d l on [] g = (further_self l, on.sound)
continues_further d l on (c ∷ cs) g =
    let r = continues_further (next d c) (ledger_next l c) (call_alike d l on c).1 cs g.1 in
    (further_on l (ledger_next l c) (ledger_after (ledger_next l c) cs) (goes_further l on.sound c g.0) r.0, r.1)

-- Later requests only push others down.
fewer_before : (b : Board) (T : ℕ) (x : Accepted) (newer xs : List Accepted)
    → count (λ y. better y x) (window_of b T xs) ≤ count (λ y. better y x) (window_of b T (newer ++ xs))
fewer_before b T x [] xs = omega arith
fewer_before b T x (y ∷ ys) xs =
    let r = fewer_before b T x ys xs in
    by (in_window b T y.entry) (λ e. rw e (by (better y x) (λ f. rw f (omega arith)) (λ f. rw f r))) (λ e. rw e r)

module _ (d : Desk) (l : Ledger) (on : On d l) {x : Accepted} (came : x ∈ l.requests) where
  shown_on : ShownLater l x → x ∈ on_list l
  unfolding on_list
  shown_on p =
      let r = continues_further d l on p.calls p.goes in
      let f = r.0 in
      let l' = ledger_after l p.calls in
      let T = stop l' p.target in
      let b = p.board in
      let shown = ((answer_shown l'.boards l'.time.clock l'.requests b T r.1.turn).0 p.shown).1 in
      let few = rw f.requests at shown.few in
      (list_exactly l.boards l.time.clock l.requests on.sound.turn).1 (
        came,
        (
          b,
          T,
          record {
            board = p.loaded;
            moment = p.due;
            above = omega (arith, f.clock, p.moves);
            near = omega (arith, shown.inside.reaches, past l on.sound came);
          },
          record { inside = shown.inside; few = omega (arith, few, fewer_before b T x f.newer l.requests) },
        ),
      )

-- Steps towards a moment, with a slice that is long enough.

abbrev room : Ledger → List ℕ
room l = replicate (reply_need l.boards) 0

module _ (l : Ledger) (s : Sound l) (opens : open? l ≡ true) (T : ℕ) (ahead : l.time.clock < T) (fits : T ≤ limit) where
  taken : {A : Type 0} (refuse : ℕ → A) (stay move : A)
      → judged (step_rules l T (length (room l))) refuse (cond (eqb T l.time.clock) stay move) ≡ move
  taken refuse stay move =
      rw (
        le-leb T limit fits,
        opens,
        le-ltb T l.time.clock (omega arith),
        le-ltb (length (room l)) (reply_need l.boards) (omega (arith, length-replicate {A = ℕ} (reply_need l.boards) 0)),
        ne_eqb T l.time.clock (λ e. omega arith),
      )

  step_goes : Goes l (step T (room l))
  step_goes = (_, _, taken (λ n. stepped (refused n) (room l)) _ (step_said l (stop l T) (room l)))

  step_next : ledger_next l (step T (room l)) ≡ at_clock l (stop l T)
  step_next = taken (λ n. l) l (at_clock l (stop l T))

-- one call more in front
longer : (l l' : Ledger) {x : Accepted} (c : Call) → Goes l c → ledger_next l c ≡ l' → l'.boards ≡ l.boards → ShownLater l' x → ShownLater l x
longer l l' {x} c g e f p =
    let q = subst (λ m. ShownLater m x) (sym e) p in
    record {
      calls = c ∷ q.calls;
      goes = (g, q.goes);
      target = q.target;
      slice = q.slice;
      steps = q.steps;
      moves = q.moves;
      board = q.board;
      loaded = subst (λ bs. q.board ∈ bs) (ap (λ (m : Ledger). m.boards) e ∙ f) q.loaded;
      due = q.due;
      shown = q.shown;
    }

steps_to : (fuel : ℕ) (l : Ledger) {x : Accepted} → Sound l → open? l ≡ true → (b : Board) (T : ℕ) → b ∈ l.boards → Moment b T → l.time.clock < T
    → T - l.time.clock ≤ fuel → x ∈ answer b T l.requests → ShownLater l x
steps_to zero l s o b T m t h k a = absurd (omega arith)
steps_to (suc fuel) l {x} s o b T m t h k a =
    let r = stops l s T (omega arith) t.at_most in
    elim (ℕ_discrete (stop l T) T) [
      | yes e ↦
          record {
            calls = [];
            goes = tt;
            target = T;
            slice = room l;
            steps = step_goes l s o T h t.at_most;
            moves = omega (arith, e);
            board = b;
            loaded = m;
            due = subst (Moment b) (sym e) t;
            shown = subst (λ n. x ∈ answer b n l.requests) (sym e) a;
          }
      | no e ↦
          let below : stop l T < T = omega (arith, r.0.at_most, e) in
          let above : l.time.clock < stop l T = elim r.0.stop [ inl q ↦ absurd (e q) | inr n ↦ n.3 ] in
          longer l (at_clock l (stop l T)) (step T (room l)) (step_goes l s o T h t.at_most) (step_next l s o T h t.at_most) refl
          (steps_to fuel (at_clock l (stop l T)) (later_sound l s (stop l T) r.1 (omega (arith, below, t.at_most))) o b T m t below (omega arith) a)
    ]

on_shown : (l : Ledger) {x : Accepted} → Sound l → x ∈ on_list l → ShownLater l x
unfolding on_list
on_shown l {x} s m =
    let r = (list_exactly l.boards l.time.clock l.requests s.turn).0 m in
    let o = r.1 in
    let b = o.0 in
    let T = o.1 in
    let f = o.2 in
    let opens : open? l ≡ true = by (open? l) (λ e. e) (λ e. absurd (Memᴰ.not-nil (subst (λ xs. x ∈ xs) (s.loading e) r.0))) in
    steps_to (T - l.time.clock) l s opens b T f.board f.moment f.above (le_refl (T - l.time.clock))
    ((answer_shown l.boards l.time.clock l.requests b T s.turn).1 (r.0, o.3))

pub exactly : (run : List Call) → Exactly run
exactly run x came = (on_shown (kept run) (kept_on run).sound, shown_on (after fresh run) (kept run) (kept_on run) came)
