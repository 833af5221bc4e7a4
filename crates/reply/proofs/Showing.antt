-- A block's entries, word by word: the words written so far, and those of the entries that are still to be shown, make the block. Its two first words are written last.
use mathlib.Core.Path.{◌≡◌, refl, ap}
use mathlib.Core.List.{List, [], ◌∷◌, ◌++◌}
use mathlib.Core.Bool.{Bool, cond}
use Prim.Native.Nat.{ℕ, ◌+◌, ◌*◌, ◌≤◌, ◌<◌}
use native.Mathlib.Omega.{arith}
use borrow.Rule.Slice.PartMut.{put_mid}
use lib.ListN.{length, length-take, take, drop, get_or, set, drop_of_length-le}
use denote.Param.Members.{Mut}
use denote.Ref.{Bor}
use Rattle.std.specs.Fn.{CalledAt}
use Rattle.std.specs.Iterator.Adapters.{filter_source, filter_callee, filter_steps, take_source, take_count, take_steps}
use Rattle.std.specs.List.{filter}
use Rattle.std.specs.Slice.Iter.{iter_rest}
use Rattle.std.proofs.iter.Yields.{fronts}
use Rattle.std.proofs.lemmas.Iterator.{YieldsList, YieldsList-from_slice, YieldsList-from_take}
use Rattle.std.proofs.lemmas.Iterator.Consumers.{YieldsList-at, YieldsList-from_filter}
use Rattle.lists.specs.Views.{those}
use Rattle.rules.specs.Moments.{in_window}
use Rattle.rules.specs.Calls.{entry_words, block, shown_at, written}
use Rattle.rules.specs.declared.Board.{Board}
use Rattle.rules.specs.declared.Entry.{Entry}
use Rattle.reply.proofs.Filling.{Filling, turn, more, full}

-- the library's word for those that pass a test
those_filter : {A : Type 0} (p : A → Bool) (xs : List A) → those p xs ≡ filter p xs
those_filter p [] = refl
those_filter p (x ∷ xs) = ap (λ l. cond (p x) (x ∷ l) l) (those_filter p xs)

-- The clauses of `iter`, `filter`, `take` and of the loop's beginning: the loop goes over the entries that the board shows.
pub goes_over : {F : Type 0} (b : Board) (T : ℕ) (es : List Entry) (g : Mut F (Bor (Bor Entry) × Unit {0}) Bool) {f : F} {i : _} {s : _} {t : _} {it : _}
    → iter_rest i ≡ es → filter_source s ≡ i → filter_callee s ≡ f → ((x : Bor Entry) (r : Bool) (q : F) → CalledAt g f x r q → (q ≡ f) × (r ≡ in_window b T x.now))
    → take_source t ≡ s → take_count t ≡ b.k → it ≡ t → YieldsList (take_steps (filter_steps fronts g)) (λ x. x.now) it (shown_at b T es)
goes_over b T es g rest source closure inside passed count begun =
    rw (ap (λ l. take b.k l) (those_filter (in_window b T) es))
    (YieldsList-at begun (YieldsList-from_take b.k (YieldsList-at passed (YieldsList-from_filter g (in_window b T) (YieldsList-at source (YieldsList-from_slice es rest)) closure inside)) count))

pub few_shown : (b : Board) (T : ℕ) (es : List Entry) → length (shown_at b T es) ≤ b.k
few_shown b T es = omega (arith, length-take b.k (those (in_window b T) es))

-- all : the entries that the board shows; n of them are written
pub next_shown : {stood reply whole part : List ℕ} {k : ℕ} (all : List Entry) (n : ℕ) (e : Entry) → Filling stood reply (2 + 3 * n) (entry_words (drop n all)) whole
    → (n < length all) × (e ≡ get_or all n e) → 2 + 3 * n + 3 ≤ length reply → 3 ≤ k → part ≡ written (entry_words (e ∷ [])) (take k (drop (2 + 3 * n) reply))
    → Filling stood (put_mid (2 + 3 * n) k reply part) (2 + 3 * (n + 1)) (entry_words (drop (n + 1) all)) whole
unfolding entry_words
next_shown all n e f h room three p =
    let m : 2 + 3 * (n + 1) ≡ 2 + 3 * n + 3 = omega arith in
    rw m (more (entry_words (e ∷ [])) (entry_words (drop (n + 1) all)) (rw (turn all e n h.0, ← h.1) at f) room three p)

-- Where all are written, the number in front and the count behind it make them the block.
pub blocked : {reply : List ℕ} {n : ℕ} (number : ℕ) (r : List ℕ) (all : List Entry) → 2 ≤ length r
    → Filling r reply (2 + 3 * n) (entry_words (drop n all)) (take 2 r ++ entry_words all) → n ≡ length all
    → (2 + 3 * n ≡ length (block number all)) × (set (set reply 0 number) 1 n ≡ written (block number all) r)
unfolding entry_words
blocked number [] all two g none = absurd (omega arith)
blocked number (x ∷ []) all two g none = absurd (omega arith)
blocked {n = n} number (x ∷ y ∷ r) all two g none =
    let f = full (rw (drop_of_length-le all {i = n} (omega (arith, none))) at g) in
    (f.0, rw (f.1, none))
