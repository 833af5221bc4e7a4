-- The pieces between separators: there is always one; what has no separator is one piece; a separator ends a piece; joined again they are the text.
use mathlib.Core.Path.{◌≡◌, refl, sym, ap, ◌∙◌}
use mathlib.Core.List.{List, [], ◌∷◌, ◌++◌}
use mathlib.Core.Bool.{Bool, true, not, and-eq-true_iff}
use Prim.Native.Nat.{ℕ}
use borrow.Author.Tests.{eq-eqb, eqb-true, not-true}
use lib.Dec.{eqb}
use Rattle.lists.specs.Views.{all}
use Rattle.lists.proofs.Bools.{by}
use Rattle.text.specs.Lines.{onto, split}

-- the first piece and those behind it
pub record Pieces (separator : ℕ) (text : List ℕ) : Type 0 where
  pub first : List ℕ
  pub rest : List (List ℕ)
  pub same : split separator text ≡ first ∷ rest

onto_some : (byte : ℕ) (pieces : List (List ℕ)) → (first : List ℕ) × (rest : List (List ℕ)) × (onto byte pieces ≡ first ∷ rest)
onto_some byte [] = (byte ∷ [], [], refl)
onto_some byte (p ∷ ps) = (byte ∷ p, ps, refl)

module _ (separator : ℕ) where
  pub pieces : (text : List ℕ) → Pieces separator text
  unfolding split
  pieces [] = record { first = []; rest = []; same = refl }
  pieces (byte ∷ bytes) =
      by (eqb byte separator)
      (λ e. record { first = []; rest = split separator bytes; same = rw e })
      (λ e. let o = onto_some byte (split separator bytes) in record { first = o.0; rest = o.1; same = rw e o.2 })

  -- no separator in it
  abbrev pub free : List ℕ → Bool
  free text = all (λ byte. not (eqb byte separator)) text

  pub one_piece : (text : List ℕ) → free text ≡ true → split separator text ≡ text ∷ []
  unfolding split
  one_piece [] e = refl
  one_piece (byte ∷ bytes) e =
      let t = (and-eq-true_iff (not (eqb byte separator)) (free bytes)).0 e in
      rw (not-true (eqb byte separator) t.0, one_piece bytes t.1)

  pub piece_ends : (text rest : List ℕ) → free text ≡ true → split separator (text ++ (separator ∷ rest)) ≡ text ∷ split separator rest
  unfolding split
  piece_ends [] rest e = rw (eq-eqb separator separator refl)
  piece_ends (byte ∷ bytes) rest e =
      let t = (and-eq-true_iff (not (eqb byte separator)) (free bytes)).0 e in
      rw (not-true (eqb byte separator) t.0, piece_ends bytes rest t.1)

  abbrev pub joined : List (List ℕ) → List ℕ
  joined [] = []
  joined (p ∷ []) = p
  joined (p ∷ q ∷ rest) = p ++ (separator ∷ joined (q ∷ rest))

  joined_onto : (byte : ℕ) (p : List ℕ) (ps : List (List ℕ)) → joined ((byte ∷ p) ∷ ps) ≡ byte ∷ joined (p ∷ ps)
  joined_onto byte p [] = refl
  joined_onto byte p (q ∷ rest) = refl

  pub joined_again : (text : List ℕ) → joined (split separator text) ≡ text
  unfolding split
  joined_again [] = refl
  joined_again (byte ∷ bytes) =
      let s = pieces bytes in
      let again = sym (ap joined s.same) ∙ joined_again bytes in
      by (eqb byte separator)
      (λ e. rw (e, s.same) (ap (λ l. separator ∷ l) again ∙ ap (λ b. b ∷ bytes) (sym (eqb-true byte separator e))))
      (λ e. rw (e, s.same, joined_onto byte s.first s.rest) (ap (λ l. byte ∷ l) again))
