-- Of a desk's answer to a message: a step's blocks are the first words of the reply, and a step that stopped short of its target moved the clock on.
use Rattle.std.proofs.Common.{◌≡◌, ℕ, suc, ◌-◌, ◌*◌, ◌<◌, ◌≤◌, Bool, true, false, cond, eqb, List, [], ◌∷◌, ◌++◌, length, take, drop, slice_index, Some, Ok, sym, refl, ap, subst, inl, inr, arith, length-append, take_all, leb-true, eqb-true}
use Rattle.std.proofs.Math.Seq.{take-append_seam, drop-append_seam}
use borrow.Author.Tests.{not-false}
use Rattle.lists.proofs.Bools.{by}
use Rattle.rules.specs.Desk.{limit, within, loaded, listed}
use Rattle.rules.specs.Moments.{is_moment, reached}
use Rattle.rules.specs.Messages.{board_of}
use Rattle.rules.specs.Refusals.{Rule, judged, step_rules, kind_rules}
use Rattle.rules.specs.Calls.{Reply, Done, Outcome, StepOutcome, MessageOutcome, entry_words, shown_at, blocks, moved_to, stays, board_call, request_call, open_call, step_call, message_call, onward, asked_by, stepped_by}
use Rattle.rules.specs.Calls.Reply.{refused, accepted}
use Rattle.rules.specs.Calls.Done.{done, moved}
use Rattle.rules.specs.declared.Board.{Board}
use Rattle.rules.specs.declared.Entry.{Entry}
use Rattle.rules.specs.declared.Message.{Message}
use Rattle.rules.specs.declared.Desk.{Desk}
use Rattle.rules.specs.declared.Steps.{Steps}
use Rattle.rules.proofs.Fitting.{all_slide}
use Rattle.rules.proofs.Refusing.{None as NoRule, judged_cases, in_order}
use Rattle.rules.proofs.Stepping.{reached_is}
use Rattle.desk.specs.Outcomes.{message_outcome}
use Rattle.reply.proofs.Blocks.{words_length}
use Rattle.console.specs.Steps.{Blocks, Shown}
use Rattle.console.specs.Steps.Blocks.{none, more}

-- the words behind the two at the front
abbrev pub behind : List ℕ → List ℕ
behind words = take (length words - 2) (drop 2 words)

-- the entries of the block at the front lie within them, and the other blocks stand behind these
pub front : (words : List ℕ) → 2 ≤ length words → Blocks words
    → (3 * slice_index words 1 ≤ length (behind words)) × Blocks (drop (3 * slice_index words 1) (behind words))
front _ h none = absurd (omega arith)
front _ h (more board shown entries others e b) =
    let words : List ℕ = board ∷ shown ∷ entries ++ others in
    let all : behind words ≡ entries ++ others = take_all (length words - 2) (entries ++ others) (omega arith) in
    (omega (arith, length-append entries others, ap length all), rw (all, ← e, drop-append_seam entries others) b)

-- the blocks of the boards due at T
stand : (number : ℕ) (bs : List Board) (T : ℕ) (es : List Entry) → Blocks (blocks number bs T es)
unfolding blocks
stand number [] T es = none
stand number (b ∷ bs) T es =
    let others = stand (suc number) bs T es in
    by (is_moment b T)
    (λ e. rw e (more number (length (shown_at b T es)) (entry_words (shown_at b T es)) (blocks (suc number) bs T es) (words_length (shown_at b T es)) others))
    (λ e. rw e others)

-- Of an accepted step from clock n: its words are blocks, and where it did not reach the target, the clock moved on.
pub record Went (n target : ℕ) (d : Desk) (s : Steps) (slice : List ℕ) : Type 0 where
  pub shown : Shown s slice
  pub rises : (s.clock ≡ target → ⊥) → (n < d.time.clock) × (d.time.clock ≤ limit)

abbrev After : ℕ → ℕ → Desk → List ℕ → Reply Done → Type 0
After n target d slice (refused r) = Unit {0}
After n target d slice (accepted done) = Unit {0}
After n target d slice (accepted (moved s)) = Went n target d s slice

abbrev Sound : ℕ → ℕ → MessageOutcome → Type 0
Sound n target o = After n target o.desk o.slice o.reply

-- What holds of each case of a test holds of what it picks, and so of a call that is refused or accepted.
cases : {A : Type 0} (P : A → Type 0) (b : Bool) (x y : A) → (b ≡ true → P x) → P y → P (cond b x y)
cases P true x y p q = p refl
cases P false x y p q = q

judging : {A : Type 0} (P : A → Type 0) (rs : List Rule) (refuse : ℕ → A) (accept : A) → ((n : ℕ) → P (refuse n)) → (NoRule rs → P accept) → P (judged rs refuse accept)
judging P rs refuse accept p q =
    elim (judged_cases rs) [
      | inl h ↦ subst P (sym (h.same _ refuse accept)) (p h.no)
      | inr h ↦ subst P (sym (h.same _ refuse accept)) (q h.none)
    ]

module _ (d : Desk) (target : ℕ) (slice : List ℕ) where
  abbrev Fine : StepOutcome → Type 0
  Fine o = Sound d.time.clock target (stepped_by o)

  stayed : target ≡ d.time.clock → Fine (stays d slice)
  stayed e = record { shown = (omega arith, none); rises = λ short. absurd (short (sym e)) }

  went : NoRule (step_rules d target (length slice)) → Fine (moved_to d (reached (loaded d) d.time.clock target) slice)
  went h =
      let o = in_order d h.0 in
      let T = reached (loaded d) d.time.clock target in
      let words = blocks 0 (loaded d) T (listed d) in
      let fits : target ≤ limit = leb-true target limit (not-false _ h.1.0) in
      let r = reached_is d.time.clock target fits (loaded d) (λ b m. all_slide (loaded d) o.boards m) in
      record {
        shown = (
          omega (arith, length-append words (drop (length words) slice)),
          rw (take-append_seam words (drop (length words) slice)) (stand 0 (loaded d) T (listed d)),
        );
        rises = λ short. elim r.stop [ inl s ↦ absurd (short s) | inr k ↦ (k.3, omega (arith, r.at_most)) ];
      }

  stepped : Fine (step_call d target slice)
  unfolding step_call
  stepped =
      judging Fine (step_rules d target (length slice)) (λ n. record { reply = refused n; desk = d; slice = slice }) _ (λ n. tt)
      (λ h. cases Fine (eqb target d.time.clock) (stays d slice) (moved_to d _ slice) (λ e. stayed (eqb-true target d.time.clock e)) (went h))

asked : (n target : ℕ) (slice : List ℕ) (o : Outcome Unit) → Sound n target (asked_by slice o)
asked n target slice o = by_reply o.reply
  where
    by_reply : (r : Reply Unit) → After n target o.desk slice (onward (λ _. done) r)
    by_reply (refused m) = tt
    by_reply (accepted a) = tt

sound : (d : Desk) (m : Message) (slice : List ℕ) → Sound d.time.clock m.first (message_call d m slice)
unfolding message_call
sound d m slice =
    let n = d.time.clock in
    let P = Sound n m.first in
    cases P (within 1 4 m.kind) _ _
    (λ _.
    cases P (eqb m.kind 1) _ _ (λ _. asked n m.first slice (board_call d (board_of m)))
    (cases P (eqb m.kind 2) _ _ (λ _. asked n m.first slice (request_call d m.byte m.first m.second))
    (cases P (eqb m.kind 3) _ _ (λ _. asked n m.first slice (open_call d)) (stepped d m.first slice))))
    (judging (After n m.first d slice) (kind_rules d) refused (refused 4) (λ _. tt) (λ _. tt))

-- the same of a desk's answer to a message
pub took : (d : Desk) (m : Message) (slice : List ℕ) {after : Desk} {reply : List ℕ} {s : Steps}
    → message_outcome (Ok (Some s)) after reply ≡ message_call d m slice → Went d.time.clock m.first after s reply
took d m slice {after} {reply} {s} e = subst (Sound d.time.clock m.first) (sym e) (sound d m slice)
