-- An accepted request: it is placed by score, and what the rule names afterwards is what it names of all requests, the new one with them.
use mathlib.Core.Path.{◌≡◌, refl, sym, ap, ◌∙◌}
use mathlib.Core.List.Memᴰ
use mathlib.Core.List.{List, [], ◌∷◌, map}
use mathlib.Core.Bool.{true}
use mathlib.Core.Logic.{inl, inr}
use Prim.Native.Nat.{ℕ, ◌<◌}
use native.Mathlib.Omega.{arith}
use borrow.Author.Tests.{not-false}
use Rattle.lists.specs.Views.{◌∈◌, sift}
use Rattle.lists.specs.Order.{place, ranked}
use Rattle.lists.proofs.Bools.{by, clash}
use Rattle.lists.proofs.Quota.{keep_sift}
use Rattle.lists.proofs.Best.{falling_ranks}
use Rattle.lists.proofs.Along.{map_sift}
use Rattle.lists.proofs.Place.{request}
use Rattle.rules.specs.Desk.{request_fits}
use Rattle.rules.specs.Moments.{Accepted, entry_of, better}
use Rattle.rules.specs.SharedList.{views, named, ahead, placed}
use Rattle.rules.specs.Refusals.{judged, entry_fits}
use Rattle.rules.specs.Calls.{requested, entry_at, request_call}
use Rattle.rules.specs.Calls.Reply.{refused, accepted}
use Rattle.rules.specs.declared.Desk.{Desk}
use Rattle.rules.proofs.Refusing.{None}
use Rattle.rules.proofs.Fitting.{entry_fits_lem}
use Rattle.rules.proofs.Ranks.{better_ahead, better_strict, falling_ranked}
use Rattle.runs.specs.Ledger.{Ledger, seen, on_list, entries, request_rules, with_request, arriving}
use Rattle.runs.proofs.Agreeing.{Sound, listed_request}
use Rattle.runs.proofs.Settling.{with_list_lem}
use Rattle.runs.proofs.Calling.{On, asked_alike, ordered}

place_entries : (x : Accepted) (xs : List Accepted) → ((y : Accepted) → y ∈ xs → y.arrival < x.arrival)
    → map entry_of (place better x xs) ≡ placed x.entry (map entry_of xs)
place_entries x [] h = refl
place_entries x (y ∷ ys) h =
    let e = better_ahead x y (h y (Memᴰ.head refl)) in
    by (ahead y.entry x.entry)
    (λ t. rw (e ∙ t, t) (ap (λ es. y.entry ∷ es) (place_entries x ys (λ z m. h z (Memᴰ.tail m)))))
    (λ t. rw (e ∙ t, t))

module _ (d : Desk) (l : Ledger) (on : On d l) (topic id score : ℕ) where
  abbrev x : Accepted
  x = arriving l topic id score

  abbrev l' : Ledger
  l' = with_request l x

  -- what the desk names is what the ledger has
  names : named l.boards l.time.clock (placed x.entry (entries l)) ≡ entries l'
  unfolding named on_list
  names =
      let vs = seen l.boards l.time.clock in
      let all = ranked better l.requests in
      ap (λ es. named l.boards l.time.clock es) (sym (place_entries x (on_list l) (λ y m. on.sound.numbers y (listed_request l on.sound m))))
      ∙ keep_sift (views l.boards l.time.clock) (map entry_of (place better x (sift vs all)))
      ∙ sym (map_sift entry_of (views l.boards l.time.clock) (place better x (sift vs all)))
      ∙ ap (map entry_of) (request better vs x all (falling_ranks better better_strict all (falling_ranked l.requests on.sound.turn)))

  request_sound : None (request_rules l topic score) → Sound l'
  request_sound none = record {
    few = s.few;
    room = s.room;
    fits = s.fits;
    clock = s.clock;
    phase = s.phase;
    loading = λ e. clash (not-false _ none.1.0) e;
    turn = (s.numbers, s.turn);
    numbers = λ y m. elim (Memᴰ.cases_cons m) [ inl e ↦ omega (arith, ap (λ (z : Accepted). z.arrival) e) | inr k ↦ omega (arith, s.numbers y k) ];
    entered = λ y m. elim (Memᴰ.cases_cons m) [ inl e ↦ ap (λ (z : Accepted). entry_fits l.time.clock z.entry) e ∙ fits_now | inr k ↦ s.entered y k ];
  }
    where
      s : Sound l
      s = on.sound

      fits_now : entry_fits l.time.clock x.entry ≡ true
      fits_now = (entry_fits_lem l.time.clock x.entry).1 (not-false (request_fits topic score) none.0, omega arith)

  request_judged : request_call d topic id score
      ≡ judged (request_rules l topic score) (λ n. record { reply = refused n; desk = d }) (record { reply = accepted tt; desk = requested d (entry_at d topic id score) })
  unfolding request_call
  request_judged = rw (ordered d l on, on.same.time)

  request_goes : None (request_rules l topic score) → On (requested d (entry_at d topic id score)) l'
  request_goes none =
      let a = on.same in
      let sound = request_sound none in
      record {
        same = rw (a.time, a.boards, a.list, names) (rw a.time at (with_list_lem d l l' a on.sound sound refl refl (entries l') refl));
        sound = sound;
      }

  pub request_alike : ((request_call d topic id score).reply ≡ judged (request_rules l topic score) refused (accepted tt))
      × On (request_call d topic id score).desk (judged (request_rules l topic score) (λ n. l) l')
  request_alike = asked_alike d l on (request_rules l topic score) (requested d (entry_at d topic id score)) l' request_goes (request_call d topic id score) request_judged
