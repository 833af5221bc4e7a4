-- Only the first twenty bytes matter: all parts stand in them, and the numbers there are the same where more bytes follow.
use mathlib.Core.Path.{◌≡◌, sym, ap, ◌∙◌}
use mathlib.Core.List.{List, ◌++◌}
use Prim.Native.Nat.{ℕ, ◌≤◌}
use native.Mathlib.Omega.{arith}
use borrow.Author.Tests.{ltb-true, ltb-false, le-ltb}
use lib.Dec.{ltb}
use lib.ListN.{length, take, drop, length-append, take-append-drop}
use lib.Seq.{take-append-le, take_all, length-take-le}
use Rattle.lists.proofs.Bools.{by}
use Rattle.rules.specs.Calls.{reader_call}
use Rattle.rules.specs.Messages.{layout, blank, zeros_stand, message}
use Rattle.message.proofs.Holding.{numbers_more, zero_numbers, number_in}
use Rattle.message.proofs.Numbers.{number_more}
use Rattle.message.proofs.Parts.{layout_joined, filled_same, zero_same}

module _ (xs ys : List ℕ) (h : 20 ≤ length xs) where
  message_more : message (xs ++ ys) ≡ message xs
  unfolding message
  message_more =
      rw (number_more xs ys 5 1 (omega arith))
      (filled_same (number_in (xs ++ ys)) (number_in xs) (layout _) (blank _) (numbers_more xs ys 6 (layout _) 20 (layout_joined _) h))

  zeros_more : (kind : ℕ) → zeros_stand (xs ++ ys) kind ≡ zeros_stand xs kind
  unfolding zeros_stand
  zeros_more kind =
      let more : 20 ≤ length (xs ++ ys) = rw length-append (omega arith) in
      let parts = layout_joined kind in
      zero_numbers (xs ++ ys) 6 (layout kind) 20 parts more
      ∙ zero_same (number_in (xs ++ ys)) (number_in xs) (layout kind) (numbers_more xs ys 6 (layout kind) 20 parts h)
      ∙ sym (zero_numbers xs 6 (layout kind) 20 parts h)

  more : reader_call (xs ++ ys) ≡ reader_call xs
  unfolding reader_call
  more =
      let k : 20 ≤ length (xs ++ ys) = rw length-append (omega arith) in
      let three : 3 ≤ length xs = omega arith in
      rw (
        le-ltb (length xs) 20 h,
        le-ltb (length (xs ++ ys)) 20 k,
        take-append-le 3 xs ys three,
        number_more xs ys 3 2 (omega arith),
        number_more xs ys 5 1 (omega arith),
        message_more,
        zeros_more,
      )

-- What follows the twentieth byte never matters.
pub front : (xs : List ℕ) → reader_call xs ≡ reader_call (take 20 xs)
front xs =
    by (ltb (length xs) 20)
    (λ e. let short : length xs ≤ 20 = omega (arith, ltb-true (length xs) 20 e) in rw (take_all 20 xs short))
    (λ e.
    let long : 20 ≤ length (take 20 xs) = rw (length-take-le 20 xs (ltb-false (length xs) 20 e)) (omega arith) in
    ap reader_call (sym (take-append-drop 20 xs)) ∙ more (take 20 xs) (drop 20 xs) long)

-- The same twenty bytes, the same answer.
pub same_front : (xs ys : List ℕ) → take 20 xs ≡ take 20 ys → reader_call xs ≡ reader_call ys
same_front xs ys e = front xs ∙ ap reader_call e ∙ sym (front ys)
