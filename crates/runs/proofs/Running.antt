-- Theorem A, call by call: what ties the desk to its ledger is kept by every call, and gives equal replies. Theorem C reads off it.
use mathlib.Core.Path.{◌≡◌, refl, sym, ap, ap₂, subst, ◌∙◌}
use mathlib.Core.List.Memᴰ
use mathlib.Core.List.{List, [], ◌∷◌}
use mathlib.Core.Bool.{true, not, and-eq-true_iff}
use Prim.Native.Nat.{ℕ, ◌<◌}
use native.Mathlib.Omega.{arith}
use borrow.Author.Tests.{leb-false, eq-eqb}
use lib.Dec.{eqb, leb}
use lib.ListN.{length, get_or}
use lib.Seq.{get_or-take}
use Rattle.lists.specs.Views.{◌∈◌, all}
use Rattle.lists.proofs.Bools.{by, clash}
use Rattle.rules.specs.Desk.{fresh, no_entry}
use Rattle.rules.specs.Messages.{message}
use Rattle.rules.specs.Moments.{Answer}
use Rattle.rules.specs.Refusals.{Rule, judged, reader_rules}
use Rattle.rules.specs.Calls.{refusal, reader_call, length_call, place_call}
use Rattle.rules.specs.Calls.Reply.{refused, accepted}
use Rattle.rules.specs.declared.Desk.{Desk}
use Rattle.rules.proofs.Ranks.{answer_is, answer_only}
use Rattle.rules.proofs.Listing.{list_exactly}
use Rattle.runs.specs.Runs.{Call, Said, said, next, replies, after}
use Rattle.runs.specs.Runs.Call.{load, opening, request, step, measure, place, read}
use Rattle.runs.specs.Runs.Said.{asked, stepped, measured, found}
use Rattle.runs.specs.Ledger.{Ledger, empty, on_list, entries, load_rules, opening_rules, request_rules, step_rules, place_rules, ledger_said, ledger_next, ledger_replies, ledger_after}
use Rattle.runs.specs.Theorems.{kept, SameAnswers, number, Room}
use Rattle.runs.proofs.Agreeing.{fresh_same, empty_sound, falling_list, list_room, same_order}
use Rattle.runs.proofs.Calling.{On, ordered, load_alike, open_alike}
use Rattle.runs.proofs.Requesting.{request_alike}
use Rattle.runs.proofs.Stepping.{step_alike}

module _ (d : Desk) (l : Ledger) (on : On d l) where
  length_alike : length_call d ≡ accepted (length (entries l))
  unfolding length_call
  length_alike = rw (ordered d l on, on.same.len)

  place_alike : (at : ℕ) → place_call d at ≡ judged (place_rules l at) refused (accepted (get_or (entries l) at no_entry))
  unfolding place_call
  place_alike at =
      let a = on.same in
      by (leb (length (entries l)) at)
      (λ e. rw (ordered d l on, a.len, e))
      (λ e.
      let h : at < d.len = omega (arith, a.len, leb-false (length (entries l)) at e) in
      let same : get_or d.entries at no_entry ≡ get_or (entries l) at no_entry = sym (get_or-take d.len d.entries at no_entry h) ∙ ap (λ es. get_or es at no_entry) a.list in
      rw (same, ordered d l on, a.len, e))

  pub call_alike : (c : Call) → (said d c ≡ ledger_said l c) × On (next d c) (ledger_next l c)
  call_alike (load b) = let r = load_alike d l on b in (ap asked r.0, r.1)
  call_alike opening = let r = open_alike d l on in (ap asked r.0, r.1)
  call_alike (request topic id score) = let r = request_alike d l on topic id score in (ap asked r.0, r.1)
  call_alike (step target slice) = step_alike d l on target slice
  call_alike measure = (ap measured length_alike, on)
  call_alike (place at) = (ap found (place_alike at), on)
  call_alike (read bytes) = (refl, on)

pub run_alike : (d : Desk) (l : Ledger) → On d l → (run : List Call) → (replies d run ≡ ledger_replies l run) × On (after d run) (ledger_after l run)
run_alike d l on [] = (refl, on)
run_alike d l on (c ∷ cs) =
    let h = call_alike d l on c in
    let r = run_alike (next d c) (ledger_next l c) h.1 cs in
    (ap₂ (λ s ss. s ∷ ss) h.0 r.0, r.1)

pub fresh_on : On fresh empty
fresh_on = record { same = fresh_same; sound = empty_sound }

pub kept_on : (run : List Call) → On (after fresh run) (kept run)
kept_on run = (run_alike fresh empty fresh_on run).1

pub same_answers : (run : List Call) → SameAnswers run
unfolding on_list
same_answers run =
    let r = run_alike fresh empty fresh_on run in
    let l = kept run in
    let on = r.1 in
    let s = on.sound in
    record {
      replies = r.0;
      time = on.same.time;
      boards = on.same.boards;
      list = on.same.list;
      named = λ x. list_exactly l.boards l.time.clock l.requests s.turn;
      order = falling_list l s;
      answers = λ b T shown. (
        answer_only b T l.requests s.turn shown,
        λ e. subst (Answer b T l.requests) (sym e) (answer_is b T l.requests s.turn),
      );
    }

-- No call answers 99: on the ledger no rule has that number.

module _ {A : Type 0} (of : A → ℕ) (refuse : ℕ → A) (accept : A) (same : (n : ℕ) → of (refuse n) ≡ n) (none : of accept ≡ 0) where
  no_other : (rs : List Rule) → all (λ r. not (eqb r.no 99)) rs ≡ true → of (judged rs refuse accept) ≡ 99 → ⊥
  no_other [] h e = omega (arith, none, e)
  no_other (r ∷ rs) h e =
      let k = (and-eq-true_iff (not (eqb r.no 99)) (all (λ q. not (eqb q.no 99)) rs)).0 h in
      by r.given
      (λ t. clash k.0 (ap not (eq-eqb r.no 99 (sym (same r.no) ∙ (rw t at e)))))
      (λ t. no_other rs k.1 (rw t at e))

-- of a call whose accepted reply is a value
reply_never99 : {A : Type 0} (rs : List Rule) (a : A) → all (λ r. not (eqb r.no 99)) rs ≡ true → refusal (judged rs refused (accepted a)) ≡ 99 → ⊥
reply_never99 rs a = no_other refusal refused (accepted a) (λ n. refl) refl rs

call_never99 : (l : Ledger) (c : Call) → number (ledger_said l c) ≡ 99 → ⊥
unfolding reader_call
call_never99 l (load b) = reply_never99 (load_rules l b) tt refl
call_never99 l opening = reply_never99 (opening_rules l) tt refl
call_never99 l (request topic id score) = reply_never99 (request_rules l topic score) tt refl
call_never99 l (step target slice) =
    no_other number (λ n. stepped (refused n) slice) _ (λ n. refl) (by (eqb target l.time.clock) (λ e. rw e) (λ e. rw e)) (step_rules l target (length slice)) refl
call_never99 l measure = λ e. omega arith
call_never99 l (place at) = reply_never99 (place_rules l at) (get_or (entries l) at no_entry) refl
call_never99 l (read bytes) = reply_never99 (reader_rules bytes) (message bytes) refl

run_never99 : (l : Ledger) (run : List Call) (s : Said) → s ∈ ledger_replies l run → number s ≡ 99 → ⊥
run_never99 l [] s m e = Memᴰ.not-nil m
run_never99 l (c ∷ cs) s (Memᴰ.head p) e = call_never99 l c (ap number (sym p) ∙ e)
run_never99 l (c ∷ cs) s (Memᴰ.tail m) e = run_never99 (ledger_next l c) cs s m e

pub room : (run : List Call) → Room run
room run =
    let on = kept_on run in
    record {
      room = rw (on.same.list, on.same.boards) (list_room (kept run) on.sound);
      order = same_order (kept run) on.sound (after fresh run) on.same;
      never99 = λ s m. run_never99 empty run s (subst (λ ss. s ∈ ss) (run_alike fresh empty fresh_on run).0 m);
    }
