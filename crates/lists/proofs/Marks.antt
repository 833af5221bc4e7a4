-- Views one after another mark what all of them mark together, so each group of views can walk alone.
use mathlib.Core.Path.{◌≡◌, refl, sym, ap, ap₂, subst, ◌∙◌}
use mathlib.Core.List.Memᴰ
use mathlib.Core.List.{List, [], ◌∷◌, ◌++◌}
use mathlib.Core.Bool.{Bool, true, false, cond, ◌&&◌, ◌||◌}
use Prim.Native.Nat.{ℕ, suc, ◌+◌, ◌-◌, ◌<◌}
use native.Mathlib.Omega.{arith}
use native.Mathlib.Numerals.{add-one}
use lib.Dec.{ltb}
use lib.ListN.{length, take, drop, get_or, set}
use lib.Seq.{take-suc, take-suc-set, drop-cons, drop-set-lt, append_snoc}
use Rattle.lists.specs.Views.{View, spend, shows, pass}
use Rattle.lists.specs.Nested.{from}
use Rattle.lists.specs.Marks.{noted, Blind}
use Rattle.lists.proofs.Bools.{by}
use Rattle.lists.proofs.Quota.{idle}
use Rattle.lists.proofs.Nested.{shows_append, pass_append}

module _ {A : Type 0} (mark : A → A) where
  pub noted_none : (xs : List A) → noted mark [] xs ≡ xs
  noted_none [] = refl
  noted_none (x ∷ xs) = ap (λ l. x ∷ l) (noted_none xs)

  -- Views that show nothing mark nothing.
  pub noted_idle : (vs : List (View A)) (xs : List A) → ((x : A) → shows vs x ≡ false) → noted mark vs xs ≡ xs
  noted_idle vs [] h = refl
  noted_idle vs (x ∷ xs) h = rw (h x, idle vs x (h x)) (ap (λ l. x ∷ l) (noted_idle vs xs h))

  -- what blind views show and lose does not depend on a mark
  blind_shows : (vs : List (View A)) (x : A) → Blind mark vs → shows vs (mark x) ≡ shows vs x
  blind_shows [] x h = refl
  blind_shows (v ∷ vs) x h = ap₂ (λ b c. (b && ltb 0 v.cap) || c) (h v (Memᴰ.head refl) x) (blind_shows vs x (λ u m. h u (Memᴰ.tail m)))

  blind_pass : (vs : List (View A)) (x : A) → Blind mark vs → pass (mark x) vs ≡ pass x vs
  blind_pass [] x h = refl
  blind_pass (v ∷ vs) x h =
      ap₂ {C = List (View A)} (λ b us. record { inside = v.inside; cap = cond b (v.cap - 1) v.cap } ∷ us) (h v (Memᴰ.head refl) x) (blind_pass vs x (λ u m. h u (Memᴰ.tail m)))

  blind_on : (vs : List (View A)) (x : A) → Blind mark vs → Blind mark (pass x vs)
  blind_on vs x h u m y = let s = Memᴰ.of_map (spend x) vs m in subst (λ (w : View A). w.inside (mark y) ≡ w.inside y) s.2 (h s.0 s.1 y)

  -- a second mark changes nothing
  module _ (again : (x : A) → mark (mark x) ≡ mark x) where
    twice : (a b : Bool) (x : A) → cond (a || b) (mark x) x ≡ cond b (mark (cond a (mark x) x)) (cond a (mark x) x)
    twice true true x = sym (again x)
    twice true false x = refl
    twice false b x = refl

    pub noted_append : (vs ws : List (View A)) (xs : List A) → Blind mark ws → noted mark (vs ++ ws) xs ≡ noted mark ws (noted mark vs xs)
    noted_append vs ws [] h = refl
    noted_append vs ws (x ∷ xs) h =
        let y : A = cond (shows vs x) (mark x) x in
        let s : shows ws y ≡ shows ws x = by (shows vs x) (λ e. rw e (blind_shows ws x h)) (λ e. rw e) in
        let p : pass y ws ≡ pass x ws = by (shows vs x) (λ e. rw e (blind_pass ws x h)) (λ e. rw e) in
        rw (shows_append vs ws x, pass_append vs ws x, s, p)
        (ap₂ (λ z l. z ∷ l) (twice (shows vs x) (shows ws x) x) (noted_append (pass x vs) (pass x ws) xs (blind_on ws x h)))

  -- a walk that marks, turn by turn: what is shown, and what is not
  module _ (vs : List (View A)) (xs : List A) (i : ℕ) (d : A) (h : i < length xs) where
    abbrev x : A
    x = get_or xs i d

    here : from i (noted mark vs) xs ≡ take i xs ++ (cond (shows vs x) (mark x) x ∷ noted mark (pass x vs) (drop (i + 1) xs))
    here = rw (drop-cons xs i d h, add-one)

    pub noted_shown : shows vs x ≡ true → from i (noted mark vs) xs ≡ from (i + 1) (noted mark (pass x vs)) (set xs i (mark x))
    noted_shown e = here ∙ rw (e, add-one, take-suc-set xs i (mark x) h, drop-set-lt (suc i) xs i (mark x) (omega arith), append_snoc)

    pub noted_passed : shows vs x ≡ false → from i (noted mark vs) xs ≡ from (i + 1) (noted mark vs) xs
    noted_passed e = here ∙ rw (e, idle vs x e, add-one, take-suc xs i d h, append_snoc)
