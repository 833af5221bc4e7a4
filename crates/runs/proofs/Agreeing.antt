-- What ties a desk to the ledger of the same run, and that it holds of the fresh desk.
use mathlib.Core.Path.{◌≡◌, refl, sym, ap, ◌∙◌}
use mathlib.Core.List.Memᴰ
use mathlib.Core.List.{List, [], ◌∷◌, map}
use mathlib.Core.Bool.{true, false}
use Prim.Native.Nat.{◌≤◌, ◌<◌}
use native.Mathlib.Omega.{arith}
use borrow.Author.Tests.{le-leb}
use lib.Dec.{eqb}
use lib.ListN.{length}
use Rattle.lists.specs.Views.{◌∈◌, all}
use Rattle.lists.specs.Order.{ranked, Falling}
use Rattle.lists.proofs.Laws.{sift_mem}
use Rattle.lists.proofs.Best.{ranked_mem, falling_sift}
use Rattle.rules.specs.Desk.{limit, needs, board_fits, loaded, listed, fresh}
use Rattle.rules.specs.Moments.{Accepted, entry_of, better, InTurn}
use Rattle.rules.specs.Refusals.{entry_fits, falls_from, falls, InOrder}
use Rattle.rules.specs.declared.Time.{Time}
use Rattle.rules.specs.declared.Desk.{Desk}
use Rattle.rules.proofs.Ranks.{is_better, not_above, falling_ranked}
use Rattle.rules.proofs.Listing.{list_entries, named_room}
use Rattle.runs.specs.Ledger.{Ledger, empty, seen, on_list, entries, open?}

-- What every ledger of a run has.
pub record Sound (l : Ledger) : Type 0 where
  pub few : length l.boards ≤ 32
  pub room : needs l.boards ≤ 1024
  pub fits : all board_fits l.boards ≡ true
  pub clock : l.time.clock ≤ limit
  pub phase : l.time.phase ≤ 1
  pub loading : open? l ≡ false → l.requests ≡ []
  pub turn : InTurn l.requests
  pub numbers : (x : Accepted) → x ∈ l.requests → x.arrival < length l.requests
  pub entered : (x : Accepted) → x ∈ l.requests → entry_fits l.time.clock x.entry ≡ true

-- The desk shows what the ledger has, and its list is what the rule names.
pub record Same (d : Desk) (l : Ledger) : Type 0 where
  pub time : d.time ≡ l.time
  pub rows : length d.boards ≡ 32
  pub places : length d.entries ≡ 1024
  pub count : d.count ≡ length l.boards
  pub boards : loaded d ≡ l.boards
  pub len : d.len ≡ length (entries l)
  pub list : listed d ≡ entries l

pub fresh_same : Same fresh empty
unfolding fresh on_list
fresh_same = record { time = refl; rows = refl; places = refl; count = refl; boards = refl; len = refl; list = refl }

pub empty_sound : Sound empty
unfolding needs
empty_sound = record {
  few = omega arith;
  room = omega arith;
  fits = refl;
  clock = omega arith;
  phase = omega arith;
  loading = λ _. refl;
  turn = tt;
  numbers = λ x m. absurd (Memᴰ.not-nil m);
  entered = λ x m. absurd (Memᴰ.not-nil m);
}

-- A desk that is the same as a sound ledger is in order: no run meets 99.

score_falls : (x : Accepted) (xs : List Accepted) → Falling better (x ∷ xs) → falls_from x.entry.score (map entry_of xs) ≡ true
unfolding falls_from
score_falls x [] h = refl
score_falls x (y ∷ ys) h =
    rw (le-leb y.entry.score x.entry.score (not_above x y ((is_better x y).0 (h.0 y (Memᴰ.head refl))))) (score_falls y ys h.1)

scores_fall : (xs : List Accepted) → Falling better xs → falls (map entry_of xs) ≡ true
unfolding falls
scores_fall [] h = refl
scores_fall (x ∷ xs) h = score_falls x xs h

pub nothing_listed : (l : Ledger) → l.requests ≡ [] → on_list l ≡ []
unfolding on_list
nothing_listed l e = rw e

module _ (l : Ledger) (s : Sound l) where
  pub falling_list : Falling better (on_list l)
  unfolding on_list
  falling_list = falling_sift better (seen l.boards l.time.clock) (ranked better l.requests) (falling_ranked l.requests s.turn)

  pub listed_request : {x : Accepted} → x ∈ on_list l → x ∈ l.requests
  unfolding on_list
  listed_request m = (ranked_mem better l.requests).0 (sift_mem (seen l.boards l.time.clock) (ranked better l.requests) m)

  pub list_room : length (entries l) ≤ needs l.boards
  unfolding on_list
  list_room = rw (list_entries l.boards l.time.clock l.requests) (named_room l.boards l.time.clock (map entry_of (ranked better l.requests)))

  entries_fit : (xs : List Accepted) → ((x : Accepted) → x ∈ xs → x ∈ l.requests) → all (entry_fits l.time.clock) (map entry_of xs) ≡ true
  entries_fit [] f = refl
  entries_fit (x ∷ xs) f = rw (s.entered x (f x (Memᴰ.head refl)), entries_fit xs (λ y m. f y (Memᴰ.tail m)))

  pub same_order : (d : Desk) → Same d l → InOrder d
  same_order d a = record {
    few = omega (arith, s.few, a.count);
    room = rw a.boards s.room;
    short = rw (a.boards, a.len) list_room;
    none = λ e. a.len ∙ ap (λ xs. length (map entry_of xs)) (nothing_listed l (s.loading (ap (λ (t : Time). eqb t.phase 1) (sym a.time) ∙ e)));
    clock = rw a.time s.clock;
    phase = rw a.time s.phase;
    boards = rw a.boards s.fits;
    entries = rw (a.list, a.time) (entries_fit (on_list l) (λ x m. listed_request m));
    falling = rw a.list (scores_fall (on_list l) falling_list);
  }
