-- A slice that is written from its front: its first words and those still to come make the whole, and what remains is as it stood.
use mathlib.Core.Path.{◌≡◌, refl, sym, ap, ◌∙◌}
use mathlib.Core.List.{List, [], ◌∷◌, ◌++◌, append_assoc, append-nil}
use Prim.Native.Nat.{ℕ, zero, suc, ◌+◌, ◌≤◌, ◌<◌}
use native.Mathlib.Omega.{arith}
use native.Mathlib.Numerals.{add-one}
use borrow.Rule.Slice.PartMut.{put_mid}
use lib.ListN.{length, take, drop, get_or, length-append, length-drop, take-append-drop}
use lib.Seq.{length-take-le, take_at, drop_at, drop-cons, drop-drop}
use Rattle.rules.specs.Calls.{written}

-- `at` words of the reply are written; `rest` behind them makes `whole`
pub record Filling (stood reply : List ℕ) (at : ℕ) (rest whole : List ℕ) : Type 0 where
  pub same : length reply ≡ length stood
  pub within : at ≤ length reply
  pub words : take at reply ++ rest ≡ whole
  pub remains : drop at reply ≡ drop at stood

pub start : (stood rest : List ℕ) → Filling stood stood 0 rest rest
start stood rest = record { same = refl; within = omega arith; words = refl; remains = refl }

-- what is left of a list at i: the element there, and what is left behind it
pub turn : {A : Type 0} (xs : List A) (d : A) (i : ℕ) → i < length xs → drop i xs ≡ get_or xs i d ∷ drop (i + 1) xs
turn xs d i h = rw (add-one i) (drop-cons xs i d h)

-- what is left of the first k, and what is behind them
behind : (n k : ℕ) (xs : List ℕ) → n ≤ k → drop n (take k xs) ++ drop k xs ≡ drop n xs
behind zero k xs h = take-append-drop k xs
behind (suc n) zero xs h = absurd (omega (arith, h))
behind (suc n) (suc k) [] h = refl
behind (suc n) (suc k) (x ∷ xs) h = behind n k xs (omega (arith, h))

-- k words of a slice, lent and written into, come home
home : (at k : ℕ) (reply words : List ℕ) {part : List ℕ} → length words ≤ k → part ≡ written words (take k (drop at reply))
    → put_mid at k reply part ≡ (take at reply ++ words) ++ drop (at + length words) reply
home at k reply words h e =
    rw (e, append_assoc words, append_assoc (take at reply) words, behind (length words) k (drop at reply) h, drop-drop (length words) at reply)

pub more : {stood reply whole part : List ℕ} {at k : ℕ} (words rest : List ℕ) → Filling stood reply at (words ++ rest) whole → at + length words ≤ length reply
    → length words ≤ k → part ≡ written words (take k (drop at reply)) → Filling stood (put_mid at k reply part) (at + length words) rest whole
more {stood} {reply} {whole} {part} {at} {k} words rest f h l e =
    let n : length (take at reply ++ words) ≡ at + length words = rw (length-append, length-take-le at reply f.within) in
    let m : length ((take at reply ++ words) ++ drop (at + length words) reply) ≡ length reply = rw (length-append, n, length-drop) (omega arith) in
    rw (home at k reply words l e) (record {
      same = m ∙ f.same;
      within = rw m h;
      words = rw (take_at _ _ _ n, append_assoc) f.words;
      remains = rw (drop_at _ _ _ n, ← drop-drop (length words) at reply, f.remains, drop-drop (length words) at stood);
    })

pub filled : {stood reply whole : List ℕ} {at : ℕ} → Filling stood reply at [] whole → take at reply ≡ whole
filled f = rw append-nil at f.words

pub full : {stood reply whole : List ℕ} {at : ℕ} → Filling stood reply at [] whole → (at ≡ length whole) × (reply ≡ written whole stood)
full {stood} {reply} {whole} {at} f =
    let w = filled f in
    let n : at ≡ length whole = sym (length-take-le at reply f.within) ∙ ap length w in
    (n, sym (take-append-drop at reply) ∙ rw (w, f.remains, n))
