-- Nothing else satisfies the promise: two results that both keep it are equal, with the desk left behind the reference and every word of the slice.
use mathlib.Core.Path.{◌≡◌, sym, ◌∙◌}
use mathlib.Core.List.{List}
use Prim.Native.Nat.{ℕ}
use Rattle.rules.specs.declared.Desk.{Desk}
use Rattle.foreign.specs.Foreign.{numbers_call, Left}
use Rattle.foreign.specs.declared.Replied.{Replied}

pub record Taking : Type 0 where
  pub replied : Replied
  pub desk : Desk
  pub slice : List ℕ

module _ (d : Desk) (kind byte first second third : ℕ) (words : List ℕ) where
  abbrev Promised : Taking → Type 0
  Promised t = Left (numbers_call d kind byte first second third words) t.replied t.desk t.slice

  pub desk_take_tight : (t u : Taking) → Promised t → Promised u → t ≡ u
  desk_take_tight t u p q =
      let a = p.0 ∙ sym q.0 in
      let b = p.1 ∙ sym q.1 in
      let c = p.2 ∙ sym q.2 in
      λ i. record { replied = a i; desk = b i; slice = c i }
