-- Disorder by one walk over a desk: one turn over its boards or its entries, and what disorder comes to.
use mathlib.Core.Path.{◌≡◌, refl, sym, ◌∙◌}
use mathlib.Core.List.{List, [], ◌∷◌}
use mathlib.Core.Bool.{Bool, true, false, ◌&&◌, ◌||◌, and-false, and-eq-true_iff}
use Prim.Native.Nat.{ℕ, ◌+◌, ◌-◌, ◌≤◌, ◌<◌}
use native.Mathlib.Omega.{arith}
use borrow.Author.Tests.{eqb-true, leb-true, le-leb, lt-leb}
use lib.Dec.{eqb, leb}
use Rattle.lists.specs.Views.{all}
use Rattle.lists.proofs.Bools.{by, clash, both_ways}
use Rattle.rules.specs.Desk.{limit, needs, board_fits, request_fits, loaded, listed}
use Rattle.rules.specs.Refusals.{falls_from, falls, entry_fits, disorder, InOrder}
use Rattle.rules.specs.declared.Board.{Board}
use Rattle.rules.specs.declared.Entry.{Entry}
use Rattle.rules.specs.declared.Time.{Time}
use Rattle.rules.specs.declared.Desk.{Desk}
use Rattle.rules.proofs.Refusing.{in_order, order_in}
use Rattle.order.specs.Standing.{heads, standing}

module _ (clock score : ℕ) (e : Entry) (es : List Entry) where
  pub stands : entry_fits clock e ≡ true → e.score ≤ score → standing clock score (e ∷ es) ≡ standing clock e.score es
  unfolding standing falls_from
  stands f h = rw (f, le-leb e.score score h)

  pub misfits : entry_fits clock e ≡ false → standing clock score (e ∷ es) ≡ false
  unfolding standing
  misfits f = rw f

  pub climbs : score < e.score → standing clock score (e ∷ es) ≡ false
  unfolding standing falls_from
  climbs h = rw (lt-leb e.score score h, and-false)

-- Where no entry is left, all stand.
pub none_left : (clock score : ℕ) → standing clock score [] ≡ true
unfolding standing falls_from
none_left clock score = refl

-- Before the first entry stands the limit: its score fits.
pub standing_limit : (clock : ℕ) (es : List Entry) → standing clock limit es ≡ (all (entry_fits clock) es && falls es)
unfolding standing falls_from falls entry_fits request_fits
standing_limit clock [] = refl
standing_limit clock (e ∷ es) =
    by (leb e.score limit) (λ h. rw h) (λ h. rw (h, and-false (leb e.topic 7)))

-- all that is asked before the entries
pub record Heads (time : Time) (boards : List Board) (count len : ℕ) : Type 0 where
  pub few : count ≤ 32
  pub phase : time.phase ≤ 1
  pub clock : time.clock ≤ limit
  pub fitting : all board_fits boards ≡ true
  pub room : needs boards ≤ 1024
  pub short : len ≤ needs boards
  pub none : eqb time.phase 1 ≡ false → len ≡ 0

module _ (time : Time) (boards : List Board) (count len : ℕ) where
  abbrev opened : Bool
  opened = eqb time.phase 1

  pub heads_in : heads time boards count len ≡ true → Heads time boards count len
  unfolding heads
  heads_in h =
      let f = (and-eq-true_iff _ (opened || eqb len 0)).0 h in
      let e = (and-eq-true_iff _ (leb len (needs boards))).0 f.0 in
      let d = (and-eq-true_iff _ (leb (needs boards) 1024)).0 e.0 in
      let c = (and-eq-true_iff _ (all board_fits boards)).0 d.0 in
      let b = (and-eq-true_iff _ (leb time.clock limit)).0 c.0 in
      let a = (and-eq-true_iff (leb count 32) (leb time.phase 1)).0 b.0 in
      record {
        few = leb-true _ _ a.0;
        phase = leb-true _ _ a.1;
        clock = leb-true _ _ b.1;
        fitting = c.1;
        room = leb-true _ _ d.1;
        short = leb-true _ _ e.1;
        none = λ q. eqb-true len 0 (rw q at f.1);
      }

  -- the last condition decides where all others hold
  pub heads_last : count ≤ 32 → time.phase ≤ 1 → time.clock ≤ limit → all board_fits boards ≡ true → needs boards ≤ 1024 → len ≤ needs boards
      → heads time boards count len ≡ (opened || eqb len 0)
  unfolding heads
  heads_last few phase clock fitting room short =
      rw (le-leb _ _ few, le-leb _ _ phase, le-leb _ _ clock, fitting, le-leb _ _ room, le-leb _ _ short)

  pub in_heads : Heads time boards count len → heads time boards count len ≡ true
  in_heads o =
      heads_last o.few o.phase o.clock o.fitting o.room o.short
      ∙ by opened (λ e. rw e) (λ e. rw (e, o.none e))

  pub no_heads : (Heads time boards count len → ⊥) → heads time boards count len ≡ false
  no_heads f = by (heads time boards count len) (λ e. absurd (f (heads_in e))) (λ e. e)

-- A desk is in order where all before its entries stands, and the entries do.
module _ (d : Desk) where
  abbrev headed : Bool
  headed = heads d.time (loaded d) d.count d.len

  abbrev stood : Bool
  stood = standing d.time.clock limit (listed d)

  pub standing_order : headed ≡ true → stood ≡ true → disorder d ≡ false
  standing_order h s =
      let o = heads_in _ _ _ _ h in
      let e = (and-eq-true_iff _ _).0 (sym (standing_limit d.time.clock (listed d)) ∙ s) in
      order_in d (record {
        few = o.few;
        room = o.room;
        short = o.short;
        none = o.none;
        clock = o.clock;
        phase = o.phase;
        boards = o.fitting;
        entries = e.0;
        falling = e.1;
      })

  pub headless_disorder : headed ≡ false → disorder d ≡ true
  headless_disorder h = by (disorder d) (λ e. e) (λ e. let o = in_order d e in clash (in_heads _ _ _ _ (heads_of o)) h)
    where
      heads_of : InOrder d → Heads d.time (loaded d) d.count d.len
      heads_of o = record {
        few = o.few;
        phase = o.phase;
        clock = o.clock;
        fitting = o.boards;
        room = o.room;
        short = o.short;
        none = o.none;
      }

  pub fallen_disorder : stood ≡ false → disorder d ≡ true
  fallen_disorder s =
      by (disorder d)
      (λ e. e)
      (λ e. let o = in_order d e in clash (standing_limit d.time.clock (listed d) ∙ rw (o.entries, o.falling)) s)

-- For a loop over the entries: a turn of it, what stands where it is reached, and what each end of it says.
pub ruleset in_disorder = (stands, misfits, climbs, none_left, heads_in, standing_order, headless_disorder, fallen_disorder)

-- Needs against what is left of 1,024: one more is taken off, or is too much.
pub takes : (n m left : ℕ) → n ≤ left → leb (n + m) left ≡ leb m (left - n)
takes n m left h =
    both_ways _ _
    (λ e. le-leb m (left - n) (omega (arith, leb-true (n + m) left e)))
    (λ e. le-leb (n + m) left (omega (arith, leb-true m (left - n) e)))

pub too_much : (n m left : ℕ) → left < n → leb (n + m) left ≡ false
too_much n m left h = lt-leb (n + m) left (omega arith)
