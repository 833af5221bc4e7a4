-- A block's entries, word by word: the words gathered so far, and those of what the entries that are left still show, make them.
use mathlib.Core.Path.{◌≡◌, ap}
use mathlib.Core.List.{List, [], ◌∷◌, ◌++◌}
use mathlib.Core.Bool.{Bool, true, false}
use Prim.Native.Nat.{ℕ, suc, ◌+◌, ◌-◌, ◌*◌, ◌≤◌, ◌<◌}
use native.Mathlib.Nat.{sub-zero}
use native.Mathlib.Omega.{arith}
use lib.ListN.{length, take, drop}
use lib.Seq.{length-take-le}
use Rattle.lists.specs.Views.{those}
use Rattle.rules.specs.Moments.{in_window}
use Rattle.rules.specs.Calls.{entry_words, block, shown_at, written}
use Rattle.rules.specs.declared.Board.{Board}
use Rattle.rules.specs.declared.Entry.{Entry}
use Rattle.reply.proofs.Blocks.{words_length}
use Rattle.reply.proofs.Filling.{Filling, start, more, filled}

-- Of the first k, n are taken, and x is the next of those.
take_those : {A : Type 0} (p : A → Bool) (k n : ℕ) (x : A) (xs : List A) → n < k → p x ≡ true → take (k - n) (those p (x ∷ xs)) ≡ x ∷ take (k - (n + 1)) (those p xs)
take_those p k n x xs h e =
    let m : k - n ≡ suc (k - (n + 1)) = omega arith in
    rw (e, m)

-- what the board still shows of these entries, where it has shown n
abbrev pub still_shown : Board → ℕ → ℕ → List Entry → List Entry
still_shown b T n es = take (b.k - n) (those (in_window b T) es)

-- `left` is what is left of the entries.
pub record Gathering (b : Board) (T : ℕ) (es left : List Entry) (stood gathered : List ℕ) (end shown : ℕ) : Type 0 where
  pub some : shown ≤ b.k
  pub three : end ≡ 3 * shown
  pub filling : Filling stood gathered end (entry_words (still_shown b T shown left)) (entry_words (shown_at b T es))

module _ {b : Board} {T : ℕ} {es : List Entry} {stood : List ℕ} where
  pub begins : Gathering b T es es stood stood 0 0
  begins = record { some = omega arith; three = omega arith; filling = rw (sub-zero b.k) (start stood _) }

  module _ {gathered : List ℕ} {end shown : ℕ} {e : Entry} {left : List Entry} (g : Gathering b T es (e ∷ left) stood gathered end shown) where
    pub shows : {part : List ℕ} {size : ℕ} → length gathered ≡ size → shown < b.k → in_window b T e ≡ true → end + 3 ≤ size
        → part ≡ written (entry_words (e ∷ [])) (take (size - end) (drop end gathered))
        → Gathering b T es left stood (take end gathered ++ (part ++ drop (size - end) (drop end gathered))) (end + 3) (shown + 1)
    unfolding entry_words
    shows n h w room p = record {
      some = omega arith;
      three = omega (arith, g.three);
      filling = rw (← n)
          (more (entry_words (e ∷ [])) (entry_words (still_shown b T (shown + 1) left)) (rw (take_those (in_window b T) b.k shown e left h w) at g.filling)
          (rw n room)
          (rw n (omega (arith, room)))
          (rw (← n) at p));
    }

    pub passes : in_window b T e ≡ false → Gathering b T es left stood gathered end shown
    passes w = record { some = g.some; three = g.three; filling = rw w at g.filling }

  -- Where no entry is left, or none of k, a number in front makes it the block.
  pub blocked : {gathered : List ℕ} {end shown : ℕ} {left : List Entry} (number : ℕ) → Gathering b T es left stood gathered end shown → still_shown b T shown left ≡ []
      → number ∷ shown ∷ take end gathered ≡ block number (shown_at b T es)
  unfolding entry_words
  blocked {gathered} {end} {shown} number g none =
      let f : take end gathered ≡ entry_words (shown_at b T es) = filled (rw none at g.filling) in
      let n : shown ≡ length (shown_at b T es) = omega (arith, g.three, g.filling.within, length-take-le end gathered g.filling.within, ap length f, words_length (shown_at b T es)) in
      rw (n, f)
