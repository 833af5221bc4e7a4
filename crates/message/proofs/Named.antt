-- A number that has a kind is this kind's; and which bytes must be zero where a kind has few fields.
use mathlib.Core.Path.{◌≡◌, ap, ap₂, ◌∙◌}
use mathlib.Core.List.{List}
use mathlib.Core.Bool.{◌&&◌}
use Prim.Native.Nat.{ℕ}
use native.Mathlib.Omega.{arith}
use lib.Dec.{eqb}
use lib.ListN.{length, take, drop, get_or}
use Rattle.std.proofs.lemmas.Bool.Decides.{nat_tests}
use Rattle.std.specs.Prelude.{Ok}
use Rattle.lists.specs.Views.{all}
use Rattle.lists.proofs.Best.{all_append}
use Rattle.rules.specs.Messages.{kind_at, number_at, zeros_stand, zero_places, layout, places, is_zero}
use Rattle.rules.specs.Replies.{kind_of}
use Rattle.rules.specs.declared.Kind.{Kind}
use Rattle.message.proofs.Numbers.{zero_number, zeros_taken}

-- the number of a kind
abbrev pub number_of : Kind → ℕ
number_of Kind.Board = 1
number_of Kind.Request = 2
number_of Kind.Open = 3
number_of Kind.Clock = 4

pub kind_is : (n : ℕ) (kind : Kind) → kind_of n ≡ Ok kind → n ≡ number_of kind
kind_is n kind e = grind (arith, nat_tests)

-- Zeros stand from a place on exactly if all bytes taken from there are zero.
module _ (bytes : List ℕ) (h : length bytes ≡ 20) where
  pub request_zeros : kind_of (kind_at bytes) ≡ Ok Kind.Request → zeros_stand bytes (kind_at bytes) ≡ (eqb (get_or bytes 7 0) 0 && eqb (number_at bytes 16 4) 0)
  unfolding zeros_stand zero_places layout
  request_zeros e = rw (kind_is (kind_at bytes) Kind.Request e) (ap (λ b. eqb (get_or bytes 7 0) 0 && b) (zero_number bytes 16 4 (omega arith)))

  pub open_zeros : kind_of (kind_at bytes) ≡ Ok Kind.Open → zeros_stand bytes (kind_at bytes) ≡ all (λ byte. eqb byte 0) (take 14 (drop 6 bytes))
  unfolding zeros_stand zero_places layout
  open_zeros e = rw (kind_is (kind_at bytes) Kind.Open e) (zeros_taken bytes 6 14 (omega arith))

  pub clock_zeros : kind_of (kind_at bytes) ≡ Ok Kind.Clock
      → zeros_stand bytes (kind_at bytes) ≡ (all (λ byte. eqb byte 0) (take 2 (drop 6 bytes)) && all (λ byte. eqb byte 0) (take 8 (drop 12 bytes)))
  unfolding zeros_stand zero_places layout
  clock_zeros e =
      rw (kind_is (kind_at bytes) Kind.Clock e)
      (all_append (is_zero bytes) (places 6 2) (places 12 8) ∙ ap₂ (λ a b. a && b) (zeros_taken bytes 6 2 (omega arith)) (zeros_taken bytes 12 8 (omega arith)))
