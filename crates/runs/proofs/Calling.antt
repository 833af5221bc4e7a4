-- One call: a desk and the ledger of the same run are refused alike, and accepted they go on alike.
use mathlib.Core.Path.{◌≡◌, sym, ap, ◌∙◌}
use mathlib.Core.List.{List, [], ◌∷◌, ◌++◌, map}
use mathlib.Core.Bool.{true, false, and-eq-true_iff}
use mathlib.Core.Logic.{◌⊎◌, inl, inr}
use Prim.Native.Nat.{◌+◌, ◌<◌}
use native.Mathlib.Omega.{arith}
use native.Mathlib.Numerals.{add-one}
use borrow.Author.Tests.{ltb-false, leb-false, not-false}
use lib.ListN.{length, length-set, length-append}
use lib.Seq.{take-suc-set}
use Rattle.lists.specs.Views.{all}
use Rattle.rules.specs.Moments.{entry_of}
use Rattle.rules.specs.Desk.{need, needs, board_fits}
use Rattle.rules.specs.Refusals.{Rule, judged, disorder}
use Rattle.rules.specs.Calls.{Reply, Outcome, with_board, board_call, opened, open_call}
use Rattle.rules.specs.Calls.Reply.{refused, accepted}
use Rattle.rules.specs.declared.Board.{Board}
use Rattle.rules.specs.declared.Time.{Time}
use Rattle.rules.specs.declared.Desk.{Desk}
use Rattle.rules.proofs.Refusing.{None, Denied, Granted, judged_cases, order_in}
use Rattle.runs.specs.Ledger.{Ledger, entries, load_rules, opening_rules, with_board as with_board_l, opened as opened_l}
use Rattle.runs.proofs.Agreeing.{Sound, Same, same_order, nothing_listed}

-- Both go on, or both stay.
pub record On (d : Desk) (l : Ledger) : Type 0 where
  pub same : Same d l
  pub sound : Sound l

module _ (d : Desk) (l : Ledger) (on : On d l) (rs : List Rule) (d' : Desk) (l' : Ledger) (goes : None rs → On d' l') where
  -- a call that answers only that it was accepted
  pub asked_alike : (o : Outcome Unit) → o ≡ judged rs (λ n. record { reply = refused n; desk = d }) (record { reply = accepted tt; desk = d' })
      → (o.reply ≡ judged rs refused (accepted tt)) × On o.desk (judged rs (λ n. l) l')
  asked_alike o e = go (judged_cases rs)
    where
      go : Denied rs ⊎ Granted rs → (o.reply ≡ judged rs refused (accepted tt)) × On o.desk (judged rs (λ n. l) l')
      go (inl h) =
          let p = e ∙ h.same (Outcome Unit) (λ n. record { reply = refused n; desk = d }) (record { reply = accepted tt; desk = d' }) in
          (ap (λ (u : Outcome Unit). u.reply) p ∙ sym (h.same (Reply Unit) refused (accepted tt)), rw (p, h.same Ledger (λ n. l) l') on)
      go (inr h) =
          let p = e ∙ h.same (Outcome Unit) (λ n. record { reply = refused n; desk = d }) (record { reply = accepted tt; desk = d' }) in
          (ap (λ (u : Outcome Unit). u.reply) p ∙ sym (h.same (Reply Unit) refused (accepted tt)), rw (p, h.same Ledger (λ n. l) l') (goes h.none))

needs_more : (bs : List Board) (b : Board) → needs (bs ++ (b ∷ [])) ≡ needs bs + need b
unfolding needs
needs_more [] b = omega arith
needs_more (c ∷ bs) b = omega (arith, needs_more bs b)

fit_more : (bs : List Board) (b : Board) → all board_fits bs ≡ true → board_fits b ≡ true → all board_fits (bs ++ (b ∷ [])) ≡ true
fit_more [] b e f = rw f
fit_more (c ∷ bs) b e f = let h = (and-eq-true_iff (board_fits c) (all board_fits bs)).0 e in rw (h.0, fit_more bs b h.1 f)

module _ (d : Desk) (l : Ledger) (on : On d l) where
  abbrev a : Same d l
  a = on.same

  abbrev s : Sound l
  s = on.sound

  pub ordered : disorder d ≡ false
  ordered = order_in d (same_order l s d a)

  -- Load a board

  load_judged : (b : Board) → board_call d b ≡ judged (load_rules l b) (λ n. record { reply = refused n; desk = d }) (record { reply = accepted tt; desk = with_board d b })
  unfolding board_call
  load_judged b = rw (ordered, a.boards, a.count, a.time)

  load_goes : (b : Board) → None (load_rules l b) → On (with_board d b) (with_board_l l b)
  load_goes b none =
      let empty = s.loading none.1.0 in
      let before : entries l ≡ [] = ap (map entry_of) (nothing_listed l empty) in
      let then : entries (with_board_l l b) ≡ [] = ap (map entry_of) (nothing_listed (with_board_l l b) empty) in
      let free : d.count < 32 = omega (arith, a.count, leb-false 32 (length l.boards) none.1.1.0) in
      record {
        same = record {
          time = a.time;
          rows = length-set d.boards d.count b ∙ a.rows;
          places = a.places;
          count = omega (arith, a.count, length-append l.boards (b ∷ []));
          boards = rw (add-one d.count) (take-suc-set d.boards d.count b (omega (arith, a.rows)) ∙ ap (λ bs. bs ++ (b ∷ [])) a.boards);
          len = a.len ∙ ap length (before ∙ sym then);
          list = a.list ∙ before ∙ sym then;
        };
        sound = record {
          few = omega (arith, leb-false 32 (length l.boards) none.1.1.0, length-append l.boards (b ∷ []));
          room = rw (needs_more l.boards b) (ltb-false 1024 (needs l.boards + need b) none.1.1.1.0);
          fits = fit_more l.boards b s.fits (not-false (board_fits b) none.0);
          clock = s.clock;
          phase = s.phase;
          loading = s.loading;
          turn = s.turn;
          numbers = s.numbers;
          entered = s.entered;
        };
      }

  pub load_alike : (b : Board) → ((board_call d b).reply ≡ judged (load_rules l b) refused (accepted tt)) × On (board_call d b).desk (judged (load_rules l b) (λ n. l) (with_board_l l b))
  load_alike b = asked_alike d l on (load_rules l b) (with_board d b) (with_board_l l b) (load_goes b) (board_call d b) (load_judged b)

  -- Open

  open_judged : open_call d ≡ judged (opening_rules l) (λ n. record { reply = refused n; desk = d }) (record { reply = accepted tt; desk = opened d })
  unfolding open_call
  open_judged = rw (ordered, a.count, a.time)

  open_goes : None (opening_rules l) → On (opened d) (opened_l l)
  open_goes none =
      let empty = s.loading none.0 in
      let before : entries l ≡ [] = ap (map entry_of) (nothing_listed l empty) in
      let then : entries (opened_l l) ≡ [] = ap (map entry_of) (nothing_listed (opened_l l) empty) in
      record {
        same = record {
          time = ap (λ (t : Time). record { clock = t.clock; phase = 1 }) a.time;
          rows = a.rows;
          places = a.places;
          count = a.count;
          boards = a.boards;
          len = a.len ∙ ap length (before ∙ sym then);
          list = a.list ∙ before ∙ sym then;
        };
        sound = record {
          few = s.few;
          room = s.room;
          fits = s.fits;
          clock = s.clock;
          phase = omega arith;
          loading = λ e. empty;
          turn = s.turn;
          numbers = s.numbers;
          entered = s.entered;
        };
      }

  pub open_alike : ((open_call d).reply ≡ judged (opening_rules l) refused (accepted tt)) × On (open_call d).desk (judged (opening_rules l) (λ n. l) (opened_l l))
  open_alike = asked_alike d l on (opening_rules l) (opened d) (opened_l l) open_goes (open_call d) open_judged
