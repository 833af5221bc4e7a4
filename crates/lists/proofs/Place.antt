-- One more element: what was dropped before it came does not matter.
use mathlib.Core.Path.{◌≡◌, refl, ap, ◌∙◌}
use mathlib.Core.List.Memᴰ
use mathlib.Core.List.{List, [], ◌∷◌}
use mathlib.Core.Bool.{Bool, true, false}
use mathlib.Core.Logic.{◌⊎◌, inl, inr}
use Rattle.lists.specs.Views.{View, ◌∈◌, put, shows, pass, sift}
use Rattle.lists.specs.Order.{place, Rank, Ranked}
use Rattle.lists.proofs.Bools.{by, untrue, clash}
use Rattle.lists.proofs.Laws.{mem_put, sift_mem, put_mem, stay, step, step_mem, covers_pass_self}

module _ {A : Type 0} (above : A → A → Bool) where
  place_put : (r y : A) (b : Bool) (l : List A) → above y r ≡ true → place above r (put b y l) ≡ put b y (place above r l)
  place_put r y true l e = rw e
  place_put r y false l e = refl

  place_top : (r : A) (l : List A) → ((y : A) → y ∈ l → above y r ≡ false) → place above r l ≡ r ∷ l
  place_top r [] h = refl
  place_top r (y ∷ ys) h = rw (h y (Memᴰ.head refl))

  -- y ranks over x and over all of l, so over all of x ∷ l
  rank_cons : {z : A} (y x : A) (l : List A) → Rank above y x → ((z : A) → z ∈ l → Rank above y z) → z ∈ x ∷ l → Rank above y z
  rank_cons y x l k h (Memᴰ.head p) = rw p k
  rank_cons y x l k h (Memᴰ.tail m) = h _ m

  below : {z : A} (r y : A) (ys : List A) → Ranked above (y ∷ ys) → above y r ≡ false → z ∈ y ∷ ys → above z r ≡ false
  below r y ys h e m = untrue _ (λ k. clash (rank_cons y y ys (λ x q. q) h.0 m r k) e)

  pub request : (vs : List (View A)) (r : A) (xs : List A) → Ranked above xs → sift vs (place above r (sift vs xs)) ≡ sift vs (place above r xs)
  request vs r [] h = refl
  request vs r (y ∷ ys) h =
      by (above y r)
      (λ e.
      rw e (
      ap (sift vs) (place_put r y (shows vs y) (sift (pass y vs) ys) e)
      ∙ stay vs y (shows vs y) (place above r (sift (pass y vs) ys)) (λ k. k)
      ∙ ap (λ l. put (shows vs y) y l) (request (pass y vs) r ys h.1)
      ))
      (λ e.
      rw e (
      ap (sift vs) (place_top r (sift vs (y ∷ ys)) (λ z m. below r y ys h e (sift_mem vs (y ∷ ys) m)))
      ∙ ap (λ l. put (shows vs r) r l) (step vs (pass r vs) (y ∷ ys) (covers_pass_self vs r (y ∷ ys)))
      ))

  -- Others are only pushed down.
  pub pushed : {x : A} (vs : List (View A)) (r : A) (xs : List A) → x ∈ sift vs (place above r xs) → (x ≡ r) ⊎ (x ∈ sift vs xs)
  pushed vs r [] m = elim (mem_put (shows vs r) r [] m) [ inl e ↦ inl e.1 | inr k ↦ inr k ]
  pushed {x} vs r (y ∷ ys) m =
      by (above y r)
      (λ e.
      elim (mem_put (shows vs y) y (sift (pass y vs) (place above r ys)) (rw e at m)) [
        | inl p ↦ inr (rw p.0 (Memᴰ.head p.1))
        | inr k ↦ elim (pushed (pass y vs) r ys k) [ inl q ↦ inl q | inr q ↦ inr (put_mem (shows vs y) y q) ]
      ])
      (λ e.
      elim (mem_put (shows vs r) r (sift (pass r vs) (y ∷ ys)) (rw e at m)) [
        | inl p ↦ inl p.1
        | inr k ↦ inr (step_mem vs (pass r vs) (y ∷ ys) (covers_pass_self vs r (y ∷ ys)) k)
      ])

  pub place_mem : {z : A} (x : A) (xs : List A) → z ∈ place above x xs → z ∈ x ∷ xs
  place_mem x [] m = m
  place_mem x (y ∷ ys) m =
      by (above y x)
      (λ e.
      elim (Memᴰ.cases_cons (rw e at m)) [
        | inl p ↦ Memᴰ.tail (Memᴰ.head p)
        | inr n ↦
            elim (Memᴰ.cases_cons (place_mem x ys n)) [
              | inl p ↦ Memᴰ.head p
              | inr q ↦ Memᴰ.tail (Memᴰ.tail q)
            ]
      ])
      (λ e. rw e at m)
