-- What the writer lays, byte for byte, is the message in bytes; and where it casts, the number is a byte.
use mathlib.Core.Path.{◌≡◌, ◌∙◌}
use mathlib.Core.List.{List, ◌∷◌, ◌++◌}
use mathlib.Core.Bool.{true, and-eq-true_iff}
use Prim.Native.Nat.{ℕ, ◌<◌}
use native.Mathlib.Nat.{mod-eq_of_lt, div-div-eq-div-mul}
use native.Mathlib.Omega.{arith}
use borrow.Author.Tests.{leb-true}
use Rattle.std.specs.Int.{to_be_bytes, w32}
use Rattle.std.specs.Prelude.{Ok}
use Rattle.rules.specs.Desk.{board_fits, request_fits, clock_fits}
use Rattle.rules.specs.Messages.{mark, own, encoded, laid, layout, digits, filled, blank, value_of, board_of, fields_fit}
use Rattle.rules.specs.Replies.{kind_of}
use Rattle.rules.specs.declared.Kind.{Kind}
use Rattle.rules.specs.declared.Message.{Message}
use Rattle.rules.proofs.Fitting.{board_fits_lem}
use Rattle.message.proofs.Named.{number_of, kind_is}
use Rattle.message.proofs.Parts.{each_kind, front_bytes, own_kind, encoded_own}

small : (kind : Kind) → number_of kind < 256
small Kind.Board = omega arith
small Kind.Request = omega arith
small Kind.Open = omega arith
small Kind.Clock = omega arith

pub own_kind_small : (m : Message) (kind : Kind) → kind_of m.kind ≡ Ok kind → (own m).kind < 256
own_kind_small m kind e = rw (own_kind m, kind_is m.kind kind e) (small kind)

pub own_byte_small : (m : Message) → fields_fit m ≡ true → (own m).byte < 256
unfolding own layout fields_fit request_fits
own_byte_small m =
    each_kind (λ ps t. t ≡ true → (filled ps (λ p. value_of p.holds m) (blank m.kind)).byte < 256)
    (board_fits (board_of m)) (request_fits m.byte m.second) true (clock_fits m.first)
    (λ t. omega (arith, ((board_fits_lem (board_of m)).0 t).mask))
    (λ t. omega (arith, leb-true m.byte 7 ((and-eq-true_iff _ _).0 t).0))
    (λ t. omega arith)
    (λ t. omega arith)
    m.kind

-- a message's own fields in the parts of a board
abbrev row_bytes : Message → List ℕ
row_bytes m = mark ++ (0 ∷ 1 ∷ m.kind ∷ m.byte ∷ 0 ∷ (to_be_bytes w32 m.first ++ (to_be_bytes w32 m.second ++ to_be_bytes w32 m.third)))

row : (m : Message) → m.kind < 256 → m.byte < 256 → row_bytes m ≡ front_bytes 1 m.kind ++ laid (layout 1) m
unfolding digits laid layout
row m k b = simp (mod-eq_of_lt k, mod-eq_of_lt b, div-div-eq-div-mul)

pub row_encoded : (m : Message) → (own m).kind < 256 → (own m).byte < 256 → row_bytes (own m) ≡ encoded 1 m
row_encoded m k b = row (own m) k b ∙ encoded_own 1 m
