-- Refusals: a number is given exactly when its rule is the first that is given; a desk is in disorder exactly when it is not in order.
use mathlib.Core.Path.{◌≡◌, refl, ap, ◌∙◌}
use mathlib.Core.List.{List, [], ◌∷◌}
use mathlib.Core.Bool.{Bool, true, false, cond, not, ◌&&◌}
use mathlib.Core.Logic.{◌⊎◌, inl, inr, ◌↔◌}
use Prim.Native.Nat.{ℕ, ◌<◌}
use native.Mathlib.Omega.{arith}
use borrow.Author.Tests.{ltb-false, le-ltb, leb-true, le-leb, not-false}
use lib.Dec.{eqb, ltb}
use lib.ListN.{length}
use Rattle.lists.proofs.Bools.{by, neither}
use Rattle.rules.specs.Desk.{limit, needs, loaded, is_open}
use Rattle.rules.specs.Moments.{reached}
use Rattle.rules.specs.Refusals.{Rule, judged, Refuses, disorder, InOrder, step_rules}
use Rattle.rules.specs.Calls.{Reply, refusal, Outcome, StepOutcome, stays, moved_to, step_call}
use Rattle.rules.specs.Calls.Reply.{refused, accepted}
use Rattle.rules.specs.declared.Desk.{Desk}

module _ {A : Type 0} (a : A) (n : ℕ) where
  same_number : (m : ℕ) → ◌≡◌ {A = Reply A} (refused m) (refused n) → m ≡ n
  same_number m e = cc

  not_refused : ◌≡◌ {A = Reply A} (accepted a) (refused n) → ⊥
  not_refused e = let z : ◌≡◌ {A = ℕ} 0 1 = cc in omega arith

  refused_first : (rs : List Rule) → judged rs refused (accepted a) ≡ refused n → Refuses rs n
  refused_first [] h = not_refused h
  refused_first (r ∷ rs) h = by r.given (λ e. inl (e, same_number r.no (rw e at h))) (λ e. inr (e, refused_first rs (rw e at h)))

  first_refused : (rs : List Rule) → Refuses rs n → judged rs refused (accepted a) ≡ refused n
  first_refused [] h = absurd h
  first_refused (r ∷ rs) (inl h) = rw (h.0, h.1)
  first_refused (r ∷ rs) (inr h) = rw h.0 (first_refused rs h.1)

  pub refused_exactly : (rs : List Rule) → (judged rs refused (accepted a) ≡ refused n) ↔ Refuses rs n
  refused_exactly rs = (refused_first rs, first_refused rs)

-- An accepted call: no rule was given.
abbrev pub None : List Rule → Type 0
None [] = Unit {0}
None (r ∷ rs) = (r.given ≡ false) × None rs

pub none_given : {A : Type 0} (rs : List Rule) (x a : A) → judged rs refused (accepted x) ≡ accepted a → None rs × (x ≡ a)
none_given [] x a e = (tt, cc)
none_given (r ∷ rs) x a e =
    by r.given
    (λ t. let clash = rw t at e in let z : ◌≡◌ {A = ℕ} 0 1 = cc in absurd (omega arith))
    (λ f. let s = none_given rs x a (rw f at e) in ((f, s.0), s.1))

-- A call is refused with one number, whatever it would give back, or no rule is given and it is accepted.
pub record Denied (rs : List Rule) : Type 1 where
  pub no : ℕ
  pub same : (A : Type 0) (refuse : ℕ → A) (accept : A) → judged rs refuse accept ≡ refuse no

pub record Granted (rs : List Rule) : Type 1 where
  pub none : None rs
  pub same : (A : Type 0) (refuse : ℕ → A) (accept : A) → judged rs refuse accept ≡ accept

pub judged_cases : (rs : List Rule) → Denied rs ⊎ Granted rs
judged_cases [] = inr (record { none = tt; same = λ A refuse accept. refl })
judged_cases (r ∷ rs) = go r.given refl (judged_cases rs)
  where
    go : (t : Bool) → r.given ≡ t → Denied rs ⊎ Granted rs → Denied (r ∷ rs) ⊎ Granted (r ∷ rs)
    go true e h = inl (record { no = r.no; same = λ A refuse accept. rw e })
    go false e (inl h) = inl (record { no = h.no; same = λ A refuse accept. rw e (h.same A refuse accept) })
    go false e (inr h) = inr (record { none = (e, h.none); same = λ A refuse accept. rw e (h.same A refuse accept) })

-- A refused call gives back the desk and the slice as they stood, by its definition.

pub stood : (d d' : Desk) (rs : List Rule) (o : Outcome Unit)
    → o ≡ judged rs (λ n. record { reply = refused n; desk = d }) (record { reply = accepted tt; desk = d' }) → 0 < refusal o.reply → o.desk ≡ d
stood d d' rs o e h = go (judged_cases rs)
  where
    go : Denied rs ⊎ Granted rs → o.desk ≡ d
    go (inl k) = ap (λ (u : Outcome Unit). u.desk) (e ∙ k.same (Outcome Unit) _ _)
    go (inr k) = absurd (omega (arith, h, ap (λ (u : Outcome Unit). refusal u.reply) (e ∙ k.same (Outcome Unit) _ _)))

module _ (d : Desk) (target : ℕ) (slice : List ℕ) where
  abbrev accepts : StepOutcome
  accepts = cond (eqb target d.time.clock) (stays d slice) (moved_to d (reached (loaded d) d.time.clock target) slice)

  accepts_number : refusal accepts.reply ≡ 0
  accepts_number = by (eqb target d.time.clock) (λ e. rw e) (λ e. rw e)

  pub step_stood : 0 < refusal (step_call d target slice).reply
      → step_call d target slice ≡ record { reply = refused (refusal (step_call d target slice).reply); desk = d; slice = slice }
  unfolding step_call
  step_stood h = go (judged_cases rules)
    where
      rules : List Rule
      rules = step_rules d target (length slice)

      refuse : ℕ → StepOutcome
      refuse n = record { reply = refused n; desk = d; slice = slice }

      go : Denied rules ⊎ Granted rules → judged rules refuse accepts ≡ refuse (refusal (judged rules refuse accepts).reply)
      go (inl k) = let e = k.same StepOutcome refuse accepts in rw e
      go (inr k) =
          let e = k.same StepOutcome refuse accepts in
          absurd (omega (arith, h, ap (λ (u : StepOutcome). refusal u.reply) e, accepts_number))

module _ (d : Desk) where
  pub in_order : disorder d ≡ false → InOrder d
  unfolding disorder
  in_order e =
      let h = neither _ _ e in
      let g = neither _ _ h.0 in
      let f = neither _ _ g.0 in
      let p = neither _ _ f.0 in
      let c = neither _ _ p.0 in
      let l = neither _ _ c.0 in
      let s = neither _ _ l.0 in
      let r = neither _ _ s.0 in
      record {
        few = ltb-false 32 d.count r.0;
        room = ltb-false 1024 (needs (loaded d)) r.1;
        short = ltb-false (needs (loaded d)) d.len s.1;
        none = λ q. omega (arith, ltb-false 0 d.len (rw q at l.1));
        clock = leb-true d.time.clock limit (not-false _ c.1);
        phase = ltb-false 1 d.time.phase p.1;
        boards = not-false _ f.1;
        entries = not-false _ g.1;
        falling = not-false _ h.1;
      }

  pub order_in : InOrder d → disorder d ≡ false
  unfolding disorder
  order_in o =
      let none : (not (is_open d) && ltb 0 d.len) ≡ false = loading (is_open d) refl in
      rw (
        le-ltb 32 d.count o.few,
        le-ltb 1024 (needs (loaded d)) o.room,
        le-ltb (needs (loaded d)) d.len o.short,
        none,
        le-leb d.time.clock limit o.clock,
        le-ltb 1 d.time.phase o.phase,
        o.boards,
        o.entries,
        o.falling,
      )
    where
      loading : (t : Bool) → is_open d ≡ t → (not t && ltb 0 d.len) ≡ false
      loading true e = refl
      loading false e = le-ltb 0 d.len (omega (arith, o.none e))
