-- Best first. In a falling list those before an element are just those above it; so "fewer than cap before it" is "fewer than cap above it".
use mathlib.Core.Path.{◌≡◌, refl, sym, ap, ap₂, ◌∙◌}
use mathlib.Core.List.Memᴰ
use mathlib.Core.List.{List, [], ◌∷◌, ◌++◌}
use mathlib.Core.Bool.{Bool, true, false, cond, ◌&&◌, and_assoc, and-eq-true_iff}
use mathlib.Core.Logic.{◌⊎◌, inl, inr, ◌↔◌}
use Prim.Native.Nat.{ℕ, zero, suc, ◌+◌, ◌≤◌, ◌<◌, min}
use native.Mathlib.Omega.{arith}
use native.Mathlib.Nat.{min-le_left, suc-min-suc}
use lib.ListN.{length, take, length-take}
use Rattle.lists.specs.Views.{View, ◌∈◌, put, those, count, all, needed, keep, shows, pass, sift}
use Rattle.lists.specs.Order.{place, ranked, Ranked, Strict, Falling, Needed, Best}
use Rattle.lists.proofs.Bools.{by, clash}
use Rattle.lists.proofs.Quota.{needed_some, some_needed}
use Rattle.lists.proofs.Laws.{mem_put, put_mem, sift_mem}
use Rattle.lists.proofs.Place.{place_mem}

-- Those that pass a test

module _ {A : Type 0} (p : A → Bool) where
  pub mem_those : {x : A} (xs : List A) → x ∈ those p xs → (x ∈ xs) × (p x ≡ true)
  mem_those [] m = absurd (Memᴰ.not-nil m)
  mem_those (y ∷ ys) m =
      elim (mem_put (p y) y (those p ys) m) [
        | inl e ↦ (Memᴰ.head e.1, ap p e.1 ∙ e.0)
        | inr k ↦ let r = mem_those ys k in (Memᴰ.tail r.0, r.1)
      ]

  pub those_mem : {x : A} (xs : List A) → x ∈ xs → p x ≡ true → x ∈ those p xs
  those_mem [] m e = absurd (Memᴰ.not-nil m)
  those_mem (y ∷ ys) (Memᴰ.head h) e = rw (sym (ap p h) ∙ e) (Memᴰ.head h)
  those_mem (y ∷ ys) (Memᴰ.tail m) e = put_mem (p y) y (those_mem ys m e)

  pub those_onto : {x : A} (xs ys : List A) → (x ∈ xs → x ∈ ys) → x ∈ those p xs → x ∈ those p ys
  those_onto xs ys f m = let r = mem_those xs m in those_mem ys (f r.0) r.1

  -- Where all pass, each does.
  pub of_all : {x : A} (xs : List A) → all p xs ≡ true → x ∈ xs → p x ≡ true
  of_all [] h m = absurd (Memᴰ.not-nil m)
  of_all (y ∷ ys) h (Memᴰ.head e) = ap p e ∙ ((and-eq-true_iff (p y) (all p ys)).0 h).0
  of_all (y ∷ ys) h (Memᴰ.tail m) = of_all ys ((and-eq-true_iff (p y) (all p ys)).0 h).1 m

  -- one list, and another behind it
  pub all_append : (xs ys : List A) → all p (xs ++ ys) ≡ (all p xs && all p ys)
  all_append [] ys = refl
  all_append (x ∷ xs) ys = ap (λ b. p x && b) (all_append xs ys) ∙ sym (and_assoc (p x) (all p xs) (all p ys))

  pub length_those : (xs : List A) → length (those p xs) ≡ count p xs
  length_those [] = refl
  length_those (y ∷ ys) = by (p y) (λ e. rw e (ap suc (length_those ys))) (λ e. rw e (length_those ys))

  pub count_those : (q : A → Bool) (xs : List A) → count p (those q xs) ≡ count (λ y. q y && p y) xs
  count_those q [] = refl
  count_those q (y ∷ ys) = by (q y) (λ e. rw (e, count_those q ys)) (λ e. rw e (count_those q ys))

  pub those_none : (xs : List A) → ((x : A) → x ∈ xs → p x ≡ false) → those p xs ≡ []
  those_none [] h = refl
  those_none (x ∷ xs) h = rw (h x (Memᴰ.head refl)) (those_none xs (λ y m. h y (Memᴰ.tail m)))

  pub those_fewer : (xs : List A) → length (those p xs) ≤ length xs
  those_fewer [] = omega arith
  those_fewer (x ∷ xs) = let r = those_fewer xs in by (p x) (λ e. rw e (omega arith)) (λ e. rw e (omega arith))

  -- A stronger test passes no more.
  pub fewer_those : (q q' : A → Bool) (xs : List A) → ((x : A) → x ∈ xs → q' x ≡ true → q x ≡ true) → count p (those q' xs) ≤ count p (those q xs)
  fewer_those q q' [] f = omega arith
  fewer_those q q' (x ∷ xs) f =
      let r = fewer_those q q' xs (λ y m. f y (Memᴰ.tail m)) in
      by (q' x)
      (λ e. rw (e, f x (Memᴰ.head refl) e) (by (p x) (λ g. rw g (omega arith)) (λ g. rw g r)))
      (λ e. rw e (by (q x) (λ g. rw g (by (p x) (λ h. rw h (omega arith)) (λ h. rw h r))) (λ g. rw g r)))

swap : (b c : Bool) (n : ℕ) → cond b (suc (cond c (suc n) n)) (cond c (suc n) n) ≡ cond c (suc (cond b (suc n) n)) (cond b (suc n) n)
swap true true n = refl
swap true false n = refl
swap false c n = refl

module _ {A : Type 0} (above : A → A → Bool) where
  -- Placing neither loses nor adds

  pub count_place : (p : A → Bool) (x : A) (xs : List A) → count p (place above x xs) ≡ count p (x ∷ xs)
  count_place p x [] = refl
  count_place p x (y ∷ ys) =
      by (above y x) (λ e. rw (e, count_place p x ys) (swap (p y) (p x) (count p ys))) (λ e. rw e)

  pub count_ranked : (p : A → Bool) (xs : List A) → count p (ranked above xs) ≡ count p xs
  count_ranked p [] = refl
  count_ranked p (x ∷ xs) = count_place p x (ranked above xs) ∙ ap (λ n. cond (p x) (suc n) n) (count_ranked p xs)

  -- one step of the walk that places x
  later : {z : A} (x y : A) (ys : List A) → (z ∈ x ∷ ys → z ∈ place above x ys) → z ∈ x ∷ y ∷ ys → z ∈ y ∷ place above x ys
  later x y ys f (Memᴰ.head p) = Memᴰ.tail (f (Memᴰ.head p))
  later x y ys f (Memᴰ.tail (Memᴰ.head p)) = Memᴰ.head p
  later x y ys f (Memᴰ.tail (Memᴰ.tail n)) = Memᴰ.tail (f (Memᴰ.tail n))

  pub mem_place : {z : A} (x : A) (xs : List A) → z ∈ x ∷ xs → z ∈ place above x xs
  mem_place x [] m = m
  mem_place x (y ∷ ys) m = by (above y x) (λ e. rw e (later x y ys (mem_place x ys) m)) (λ e. rw e m)

  pub ranked_mem : {z : A} (xs : List A) → (z ∈ ranked above xs) ↔ (z ∈ xs)
  ranked_mem [] = (λ m. m, λ m. m)
  ranked_mem (x ∷ xs) =
      let r = ranked_mem xs in (
        λ m. onto r.0 (place_mem above x (ranked above xs) m),
        λ m. mem_place x (ranked above xs) (onto r.1 m),
      )
    where
      onto : {z : A} {ys zs : List A} → (z ∈ ys → z ∈ zs) → z ∈ x ∷ ys → z ∈ x ∷ zs
      onto f (Memᴰ.head p) = Memᴰ.head p
      onto f (Memᴰ.tail n) = Memᴰ.tail (f n)

  -- A list falls when each new one is placed into it, where no two tie

  falling_one : {z : A} (y x : A) (l : List A) → above y x ≡ true → ((z : A) → z ∈ l → above y z ≡ true) → z ∈ x ∷ l → above y z ≡ true
  falling_one y x l k h (Memᴰ.head p) = ap (above y) p ∙ k
  falling_one y x l k h (Memᴰ.tail m) = h _ m

  pub falling_place : Strict above → (x : A) (xs : List A) → ((y : A) → y ∈ xs → above y x ≡ false → above x y ≡ true) → Falling above xs
      → Falling above (place above x xs)
  falling_place s x [] a h = (λ z m. absurd (Memᴰ.not-nil m), tt)
  falling_place s x (y ∷ ys) a h =
      by (above y x)
      (λ e. rw e (λ z m. falling_one y x ys e h.0 (place_mem above x ys m), falling_place s x ys (λ w n. a w (Memᴰ.tail n)) h.1))
      (λ e.
      let o = a y (Memᴰ.head refl) e in
      rw e (λ z m. falling_one x y ys o (λ w n. s.onward x y w o (h.0 w n)) m, h))

  falling_put : (y : A) (b : Bool) (l : List A) → ((z : A) → z ∈ l → above y z ≡ true) → Falling above l → Falling above (put b y l)
  falling_put y true l h k = (h, k)
  falling_put y false l h k = k

  pub falling_those : (p : A → Bool) (xs : List A) → Falling above xs → Falling above (those p xs)
  falling_those p [] h = tt
  falling_those p (y ∷ ys) h = falling_put y (p y) (those p ys) (λ z m. h.0 z (mem_those p ys m).0) (falling_those p ys h.1)

  pub falling_sift : (vs : List (View A)) (xs : List A) → Falling above xs → Falling above (sift vs xs)
  falling_sift vs [] h = tt
  falling_sift vs (y ∷ ys) h =
      falling_put y (shows vs y) (sift (pass y vs) ys) (λ z m. h.0 z (sift_mem (pass y vs) ys m)) (falling_sift (pass y vs) ys h.1)

  -- A falling list is ranked.
  pub falling_ranks : Strict above → (xs : List A) → Falling above xs → Ranked above xs
  falling_ranks s [] h = tt
  falling_ranks s (y ∷ ys) h = (λ z m x e. s.onward y z x (h.0 z m) e, falling_ranks s ys h.1)

  -- In a falling list those before an element are those above it

  module _ (s : Strict above) where
    pub never_both : {C : Type 0} (x y : A) → above x y ≡ true → above y x ≡ true → C
    never_both x y e f = clash (s.onward x y x e f) (s.never x)

    none_above : (p : A → Bool) (y : A) (ys : List A) → ((z : A) → z ∈ ys → above y z ≡ true) → count (λ z. above z y) (those p ys) ≡ 0
    none_above p y [] h = refl
    none_above p y (z ∷ zs) h =
        let r = none_above p y zs (λ w n. h w (Memᴰ.tail n)) in
        by (p z)
        (λ e. rw e (by (above z y) (λ f. never_both y z (h z (Memᴰ.head refl)) f) (λ f. rw f r)))
        (λ e. rw e r)

    -- what is counted above x in y ∷ ys and before it, where y is above x: y goes over to those before
    over : (p : A → Bool) (x y : A) (ys before : List A) → above y x ≡ true
        → count (λ z. above z x) (those p (y ∷ ys)) + count p before ≡ count (λ z. above z x) (those p ys) + count p (y ∷ before)
    over p x y ys before e = by (p y) (λ f. rw (f, e) (omega arith)) (λ f. rw f)

    BeforeOrAbove : List (View A) → List A → List A → A → Type 0
    BeforeOrAbove vs before xs x =
        (v : View A) × (v ∈ vs) × (v.inside x ≡ true) × (count (λ y. above y x) (those v.inside xs) + count v.inside before < v.cap)

    kept_needed : {x : A} (vs : List (View A)) (before xs : List A) → Falling above xs → x ∈ keep vs before xs → (x ∈ xs) × BeforeOrAbove vs before xs x
    unfolding BeforeOrAbove
    kept_needed vs before [] h m = absurd (Memᴰ.not-nil m)
    kept_needed {x} vs before (y ∷ ys) h m =
        elim (mem_put (needed vs before y) y (keep vs (y ∷ before) ys) m) [
          | inl e ↦
              let t = needed_some vs before y e.0 in (
                Memᴰ.head e.1,
                rw e.1 (
                  t.0,
                  t.1,
                  t.2,
                  by (t.0.inside y)
                      (λ f. rw (f, s.never y) (omega (arith, none_above t.0.inside y ys h.0, t.3)))
                      (λ f. clash t.2 f),
                ),
              )
          | inr k ↦
              let r = kept_needed vs (y ∷ before) ys h.1 k in
              let t = r.1 in (
                Memᴰ.tail r.0,
                (t.0, t.1, t.2, omega (arith, over t.0.inside x y ys before (h.0 x r.0), t.3)),
              )
        ]

    needed_kept : {x : A} (vs : List (View A)) (before xs : List A) → Falling above xs → x ∈ xs → BeforeOrAbove vs before xs x → x ∈ keep vs before xs
    unfolding BeforeOrAbove
    needed_kept vs before [] h m t = absurd (Memᴰ.not-nil m)
    needed_kept {x} vs before (y ∷ ys) h (Memᴰ.head e) t =
        rw (ap (needed vs before) (sym e) ∙ some_needed before x t.1 t.2 (omega (arith, t.3))) (Memᴰ.head e)
    needed_kept {x} vs before (y ∷ ys) h (Memᴰ.tail m) t =
        put_mem (needed vs before y) y (
        needed_kept vs (y ∷ before) ys h.1 m
        (t.0, t.1, t.2, omega (arith, over t.0.inside x y ys before (h.0 x m), t.3))
        )

    -- On a falling list the walk keeps exactly what is needed.
    pub keep_exactly : {x : A} (vs : List (View A)) (xs : List A) → Falling above xs → (x ∈ keep vs [] xs) ↔ ((x ∈ xs) × Needed above vs xs x)
    unfolding BeforeOrAbove
    keep_exactly vs xs h = (
      λ m. let r = kept_needed vs [] xs h m in let t = r.1 in (r.0, (t.0, t.1, t.2, omega (arith, t.3))),
      λ r. let t = r.1 in needed_kept vs [] xs h r.0 (t.0, t.1, t.2, omega (arith, t.3)),
    )

    -- The best k of a falling list are its first k, and nothing else is

    pub best_first : (k : ℕ) (xs : List A) → Falling above xs → Best above k xs (take k xs)
    best_first k xs h = record { part = λ x m. take_mem k xs m; ordered = falling_take k xs h; size = length-take k xs; rest = λ x y m n. split k xs h m n }
      where
        take_mem : {x : A} (k : ℕ) (xs : List A) → x ∈ take k xs → x ∈ xs
        take_mem zero xs m = absurd (Memᴰ.not-nil m)
        take_mem (suc k) [] m = m
        take_mem (suc k) (y ∷ ys) (Memᴰ.head p) = Memᴰ.head p
        take_mem (suc k) (y ∷ ys) (Memᴰ.tail m) = Memᴰ.tail (take_mem k ys m)

        falling_take : (k : ℕ) (xs : List A) → Falling above xs → Falling above (take k xs)
        falling_take zero xs h = tt
        falling_take (suc k) [] h = tt
        falling_take (suc k) (y ∷ ys) h = (λ z m. h.0 z (take_mem k ys m), falling_take k ys h.1)

        split : {x y : A} (k : ℕ) (xs : List A) → Falling above xs → x ∈ take k xs → y ∈ xs → (y ∈ take k xs) ⊎ (above x y ≡ true)
        split zero xs h m n = absurd (Memᴰ.not-nil m)
        split (suc k) [] h m n = inl n
        split (suc k) (z ∷ zs) h m (Memᴰ.head q) = inl (Memᴰ.head q)
        split {x} {y} (suc k) (z ∷ zs) h (Memᴰ.head p) (Memᴰ.tail n) = inr (ap (λ w. above w y) p ∙ h.0 y n)
        split (suc k) (z ∷ zs) h (Memᴰ.tail m) (Memᴰ.tail n) =
            elim (split k zs h.1 m n) [ inl q ↦ inl (Memᴰ.tail q) | inr q ↦ inr q ]

    pub best_only : (k : ℕ) (xs best : List A) → Falling above xs → Best above k xs best → best ≡ take k xs
    best_only zero xs [] h b = refl
    best_only zero xs (x ∷ best) h b = absurd (omega (arith, b.size, min-le_left zero (length xs)))
    best_only (suc k) [] [] h b = refl
    best_only (suc k) [] (x ∷ best) h b = absurd (Memᴰ.not-nil (b.part x (Memᴰ.head refl)))
    best_only (suc k) (y ∷ ys) [] h b = absurd (omega (arith, b.size, suc-min-suc k (length ys)))
    best_only (suc k) (y ∷ ys) (x ∷ best) h b = ap₂ (λ a l. a ∷ l) top (best_only k ys best h.1 below)
      where
        none : {C : Type 0} → x ∈ ys → C
        none m =
            elim (b.rest x y (Memᴰ.head refl) (Memᴰ.head refl)) [
              | inl (Memᴰ.head p) ↦ clash (ap (above y) p ∙ h.0 x m) (s.never y)
              | inl (Memᴰ.tail n) ↦ never_both x y (b.ordered.0 y n) (h.0 x m)
              | inr q ↦ never_both x y q (h.0 x m)
            ]

        top : x ≡ y
        top = elim (Memᴰ.cases_cons (b.part x (Memᴰ.head refl))) [ inl p ↦ p | inr m ↦ none m ]

        behind : {z : A} → z ∈ best → z ∈ y ∷ ys → z ∈ ys
        behind n (Memᴰ.head p) = clash (ap (above x) (top ∙ sym p) ∙ b.ordered.0 _ n) (s.never x)
        behind n (Memᴰ.tail m) = m

        within : {z w : A} → z ∈ best → w ∈ ys → (w ∈ x ∷ best) ⊎ (above z w ≡ true) → (w ∈ best) ⊎ (above z w ≡ true)
        within n m (inl (Memᴰ.head p)) = none (Memᴰ.cast (sym p) m)
        within n m (inl (Memᴰ.tail q)) = inl q
        within n m (inr q) = inr q

        below : Best above k ys best
        below = record {
          part = λ z n. behind n (b.part z (Memᴰ.tail n));
          ordered = b.ordered.1;
          size = omega (arith, b.size, suc-min-suc k (length ys));
          rest = λ z w n m. within n m (b.rest z w (Memᴰ.tail n) (Memᴰ.tail m));
        }

  -- What is best of a list does not depend on the order in which it is handed over.
  pub best_same : {k : ℕ} {xs ys best : List A} → ((x : A) → (x ∈ xs) ↔ (x ∈ ys)) → length xs ≡ length ys → Best above k xs best → Best above k ys best
  best_same {k} f e b = record {
    part = λ x m. (f x).0 (b.part x m);
    ordered = b.ordered;
    size = b.size ∙ ap (min k) e;
    rest = λ x y m n. b.rest x y m ((f y).1 n);
  }
