-- How many words a block can have: three for each entry shown, and of those at most k and at most all.
use mathlib.Core.Path.{◌≡◌, refl}
use mathlib.Core.List.{List, [], ◌∷◌}
use Prim.Native.Nat.{ℕ, suc, ◌+◌, ◌*◌, ◌≤◌, min}
use native.Mathlib.Omega.{arith}
use lib.ListN.{length, length-append, length-take}
use Rattle.lists.specs.Views.{those}
use Rattle.lists.proofs.Bools.{by}
use Rattle.lists.proofs.Best.{those_fewer}
use Rattle.rules.specs.Moments.{is_moment, in_window}
use Rattle.rules.specs.Calls.{entry_words, block, shown_at, blocks}
use Rattle.rules.specs.declared.Board.{Board}
use Rattle.rules.specs.declared.Entry.{Entry}

pub words_length : (es : List Entry) → length (entry_words es) ≡ 3 * length es
unfolding entry_words
words_length [] = refl
words_length (e ∷ es) = omega (arith, words_length es)

pub block_length : (number : ℕ) (b : Board) (T : ℕ) (es : List Entry) → length (block number (shown_at b T es)) ≤ 2 + 3 * min b.k (length es)
block_length number b T es =
    omega (arith, words_length (shown_at b T es), length-take b.k (those (in_window b T) es), those_fewer (in_window b T) es)

-- 3,074 is 2 + 3 * 1,024
pub blocks_length : (number : ℕ) (bs : List Board) (T : ℕ) (es : List Entry) → length es ≤ 1024 → length (blocks number bs T es) ≤ 3074 * length bs
unfolding blocks
blocks_length number [] T es h = omega arith
blocks_length number (b ∷ bs) T es h =
    let r = blocks_length (suc number) bs T es h in
    by (is_moment b T)
    (λ e. rw (e, length-append (block number (shown_at b T es))) (omega (arith, block_length number b T es)))
    (λ e. rw e (omega arith))
