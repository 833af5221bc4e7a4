-- Bytes placed in a slice: the slice keeps its length, and bytes placed right behind others are placed with them.
use mathlib.Core.Path.{◌≡◌, sym, ap, ◌∙◌}
use mathlib.Core.List.{List, ◌++◌, append_assoc}
use Prim.Native.Nat.{ℕ, ◌+◌, ◌≤◌}
use native.Mathlib.Omega.{arith}
use lib.ListN.{length, take, drop, length-append}
use lib.Seq.{paste, length-take-le, length-paste, take-length, take_at, drop-drop}
use Rattle.lists.proofs.Fronts.{drop_past}
use Rattle.rules.specs.Calls.{placed_at}

pub placed_paste : (at : ℕ) (bytes slice : List ℕ) → paste slice at bytes (length bytes) ≡ placed_at at bytes slice
placed_paste at bytes slice = rw (take-length bytes) (append_assoc (take at slice) bytes (drop (at + length bytes) slice))

module _ (at : ℕ) (xs : List ℕ) where
  pub placed_length : (slice : List ℕ) → at + length xs ≤ length slice → length (placed_at at xs slice) ≡ length slice
  placed_length slice h = ap length (sym (placed_paste at xs slice)) ∙ length-paste slice at xs (length xs) h (omega arith)

  -- bytes right behind others
  placed_behind : (ys slice : List ℕ) {next : ℕ} → next ≡ at + length xs → next ≤ length slice → placed_at next ys (placed_at at xs slice) ≡ placed_at at (xs ++ ys) slice
  placed_behind ys slice {next} e h =
      let n : length (take at slice ++ xs) ≡ next = rw (length-append, length-take-le at slice (omega arith)) (sym e) in
      let m : at + length (xs ++ ys) ≡ next + length ys = rw (length-append, e) (omega arith) in
      let front : take next (placed_at at xs slice) ≡ take at slice ++ xs = rw (← append_assoc (take at slice) xs (drop (at + length xs) slice)) (take_at _ _ next n) in
      let back : drop (next + length ys) (placed_at at xs slice) ≡ drop (next + length ys) slice =
      rw (← append_assoc (take at slice) xs (drop (at + length xs) slice), drop_past _ (drop (at + length xs) slice) next (length ys) n, ← e) (drop-drop (length ys) next slice)
      in
      rw (front, back, m, append_assoc, append_assoc)

-- what is put right behind what was put before it stands with it
pub put_behind : (at next size : ℕ) (xs ys stood : List ℕ) {between after : List ℕ} → length xs ≡ size → next ≡ at + size → next ≤ length stood
    → after ≡ placed_at next ys between → between ≡ placed_at at xs stood → after ≡ placed_at at (xs ++ ys) stood
put_behind at next size xs ys stood n k h e f = e ∙ ap (placed_at next ys) f ∙ placed_behind at xs ys stood (rw n k) h
