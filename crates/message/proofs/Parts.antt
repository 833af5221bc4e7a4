-- The table of the kinds. What is read of a message, and whether its zeros stand, depends on nothing but the numbers in its parts; what a kind does not have is 0.
-- A law of one kind's parts is shown of the four rows (`each_row`).
use mathlib.Core.Path.{◌≡◌, refl, sym, ap, ap₂, ◌∙◌}
use mathlib.Core.List.{List, [], ◌∷◌, ◌++◌, append_assoc}
use mathlib.Core.Bool.{Bool, true, false, cond, ◌&&◌}
use Prim.Native.Nat.{ℕ, ◌+◌}
use lib.Dec.{eqb}
use Rattle.lists.proofs.Bools.{by}
use Rattle.rules.specs.Messages.{
  mark,
  by_kind,
  Part,
  is_field,
  layout,
  number_at,
  value_of,
  holding,
  blank,
  filled,
  kind_at,
  message,
  own,
  digits,
  laid,
  encoded,
  fields_fit,
}
use Rattle.rules.specs.declared.Message.{Message}
use Rattle.message.specs.Encoding.{numbers}

abbrev pub Each : (Part → Type 0) → List Part → Type 0
Each P [] = Unit {0}
Each P (p ∷ ps) = P p × Each P ps

-- Parts that stand one behind the other, from a place to an end.
abbrev pub Joined : ℕ → List Part → ℕ → Type 0
Joined from [] end = from ≡ end
Joined from (p ∷ ps) end = (p.place ≡ from) × Joined (from + p.size) ps end

-- the parts that hold zeros have the number 0
abbrev pub zero_parts : List Part → (Part → ℕ) → Bool
zero_parts [] given = true
zero_parts (p ∷ ps) given = cond (is_field p.holds) true (eqb (given p) 0) && zero_parts ps given

module _ (f g : Part → ℕ) where
  pub filled_same : (ps : List Part) (m : Message) → Each (λ p. f p ≡ g p) ps → filled ps f m ≡ filled ps g m
  filled_same [] m h = refl
  filled_same (p ∷ ps) m h = ap₂ (holding p.holds) h.0 (filled_same ps m h.1)

  pub zero_same : (ps : List Part) → Each (λ p. f p ≡ g p) ps → zero_parts ps f ≡ zero_parts ps g
  zero_same [] h = refl
  zero_same (p ∷ ps) h = ap₂ (λ n b. cond (is_field p.holds) true (eqb n 0) && b) h.0 (zero_same ps h.1)

-- Rows of the table

-- with what stands in another column of the four kinds
pub each_kind : {A : Type 0} (P : List Part → A → Type 0) (a b c d : A) → P (layout 1) a → P (layout 2) b → P (layout 3) c → P (layout 4) d
    → (kind : ℕ) → P (layout kind) (by_kind kind a b c d)
unfolding layout
each_kind P a b c d board request opening clock kind = go (eqb kind 1) (eqb kind 2) (eqb kind 3)
  where
    go : (x y z : Bool) → P (cond x (layout 1) (cond y (layout 2) (cond z (layout 3) (layout 4)))) (cond x a (cond y b (cond z c d)))
    go true y z = board
    go false true z = request
    go false false true = opening
    go false false false = clock

pub each_row : (P : List Part → Type 0) → P (layout 1) → P (layout 2) → P (layout 3) → P (layout 4) → (kind : ℕ) → P (layout kind)
each_row P board request opening clock kind = each_kind (λ ps (_ : Bool). P ps) true true true true board request opening clock kind

pub layout_joined : (kind : ℕ) → Joined 6 (layout kind) 20
unfolding layout
layout_joined = each_row (λ ps. Joined 6 ps 20) row row row row
  where
    row : Joined 6 (layout 1) 20
    row = (refl, (refl, (refl, (refl, (refl, refl)))))

-- each field stands in one part: a message that is filled has there what was given
pub given_back : (given : Part → ℕ) (m : Message) (kind : ℕ)
    → Each (λ p. value_of p.holds (filled (layout kind) given m) ≡ cond (is_field p.holds) (given p) 0) (layout kind)
unfolding layout
given_back given m =
    each_row (λ ps. Each (λ p. value_of p.holds (filled ps given m) ≡ cond (is_field p.holds) (given p) 0) ps)
    (refl, (refl, (refl, (refl, (refl, tt)))))
    (refl, (refl, (refl, (refl, (refl, tt)))))
    (refl, (refl, (refl, (refl, (refl, tt)))))
    (refl, (refl, (refl, (refl, (refl, tt)))))

pub message_own : (bytes : List ℕ) → own (numbers bytes) ≡ message bytes
unfolding own message layout
message_own bytes =
    each_row (λ ps. filled ps (λ p. value_of p.holds (numbers bytes)) (blank (kind_at bytes)) ≡ filled ps (λ p. number_at bytes p.place p.size) (blank (kind_at bytes)))
    refl refl refl refl (kind_at bytes)

-- A message is written as its own fields in the parts of a board: what the kind does not have is 0 there.
pub laid_own : (m : Message) → laid (layout m.kind) m ≡ laid (layout 1) (own m)
unfolding own laid layout
laid_own m =
    each_row (λ ps. laid ps m ≡ laid (layout 1) (filled ps (λ p. value_of p.holds m) (blank m.kind)))
    refl refl refl refl m.kind

pub own_kind : (m : Message) → (own m).kind ≡ m.kind
unfolding own layout
own_kind m = each_row (λ ps. (filled ps (λ p. value_of p.holds m) (blank m.kind)).kind ≡ m.kind) refl refl refl refl m.kind

pub message_kind : (bytes : List ℕ) → (message bytes).kind ≡ kind_at bytes
message_kind bytes = ap (λ (f : Message). f.kind) (sym (message_own bytes)) ∙ own_kind (numbers bytes)

-- the fields of a message that a kind has
abbrev of_kind : ℕ → Message → Message
of_kind kind m = filled (layout kind) (λ p. value_of p.holds m) (blank kind)

pub own_own : (m : Message) → own (own m) ≡ own m
unfolding own layout
own_own m =
    ap (λ kind. of_kind kind (own m)) (own_kind m)
    ∙ each_row (λ ps. filled ps (λ p. value_of p.holds (filled ps (λ p. value_of p.holds m) (blank m.kind))) (blank m.kind) ≡ filled ps (λ p. value_of p.holds m) (blank m.kind))
    refl refl refl refl m.kind

pub own_fits : (m : Message) → fields_fit (own m) ≡ fields_fit m
unfolding own layout fields_fit
own_fits m =
    by (eqb m.kind 1)
    (λ e. rw (e, e))
    (λ e. by (eqb m.kind 2) (λ f. rw (e, f, e, f)) (λ f. by (eqb m.kind 3) (λ g. rw (e, f, g, e, f, g)) (λ g. rw (e, f, g, e, f, g))))

-- A message in bytes: mark, version and kind, and behind them the parts.
abbrev pub front_bytes : ℕ → ℕ → List ℕ
front_bytes version kind = mark ++ (digits 2 version ++ digits 1 kind)

pub encoded_front : (version : ℕ) (m : Message) → encoded version m ≡ front_bytes version m.kind ++ laid (layout m.kind) m
unfolding encoded
encoded_front version m = ap (λ l. mark ++ l) (sym (append_assoc (digits 2 version) (digits 1 m.kind) (laid (layout m.kind) m)))

pub encoded_own : (version : ℕ) (m : Message) → front_bytes version (own m).kind ++ laid (layout 1) (own m) ≡ encoded version m
encoded_own version m = rw (encoded_front version m, laid_own m, own_kind m)
