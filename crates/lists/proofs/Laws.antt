-- The laws of `sift`: room, fewer views, answers, members.
use mathlib.Core.Path.{◌≡◌, refl, sym, ap, ap₂, subst, ◌∙◌}
use mathlib.Core.List.Memᴰ
use mathlib.Core.List.{List, [], ◌∷◌, ◌++◌}
use mathlib.Core.Bool.{Bool, true, false, cond, ◌&&◌, ◌||◌}
use mathlib.Core.Logic.{◌⊎◌, inl, inr, ◌↔◌}
use Prim.Native.Nat.{ℕ, zero, suc, ◌+◌, ◌-◌, ◌≤◌}
use native.Mathlib.Omega.{arith}
use borrow.Author.Tests.{ltb-true, lt-ltb}
use lib.ListN.{length, take}
use lib.Seq.{take-nil}
use lib.Dec.{ltb}
use Rattle.lists.specs.Views.{View, ◌∈◌, put, those, first, shows, spend, pass, sift, caps, Covers}
use Rattle.lists.proofs.Bools.{by, untrue, clash, both_ways}
use Rattle.lists.proofs.Quota.{needed_some, some_needed, idle}

room_one : (b c : Bool) (q m n : ℕ) → m + cond c 1 0 ≤ n → (cond b (q - 1) q + m) + cond ((b && ltb 0 q) || c) 1 0 ≤ q + n
room_one false c q m n h = omega arith
room_one true c q m n h = by (ltb 0 q) (λ e. rw e (omega (arith, ltb-true 0 q e))) (λ e. rw e (omega arith))

spend_less : (b : Bool) (c d : ℕ) → c ≤ d → cond b (c - 1) c ≤ cond b (d - 1) d
spend_less true c d h = omega arith
spend_less false c d h = h

spend_self : (b : Bool) (c : ℕ) → cond b (c - 1) c ≤ c
spend_self true c = omega arith
spend_self false c = omega arith

module _ {A : Type 0} where
  -- Members of `put` and of `sift`

  pub put_mem : {x : A} {l : List A} (b : Bool) (y : A) → x ∈ l → x ∈ put b y l
  put_mem true y m = Memᴰ.tail m
  put_mem false y m = m

  pub mem_put : {x : A} (b : Bool) (y : A) (l : List A) → x ∈ put b y l → ((b ≡ true) × (x ≡ y)) ⊎ (x ∈ l)
  mem_put true y l (Memᴰ.head e) = inl (refl, e)
  mem_put true y l (Memᴰ.tail m) = inr m
  mem_put false y l m = inr m

  pub sift_mem : {x : A} (vs : List (View A)) (xs : List A) → x ∈ sift vs xs → x ∈ xs
  sift_mem vs [] m = m
  sift_mem vs (y ∷ ys) m =
      elim (mem_put (shows vs y) y (sift (pass y vs) ys) m) [
        | inl e ↦ Memᴰ.head e.1
        | inr k ↦ Memᴰ.tail (sift_mem (pass y vs) ys k)
      ]

  -- Room: at most the caps together

  caps_pass : (vs : List (View A)) (x : A) → caps (pass x vs) + cond (shows vs x) 1 0 ≤ caps vs
  caps_pass [] x = omega arith
  caps_pass (v ∷ vs) x = room_one (v.inside x) (shows vs x) v.cap (caps (pass x vs)) (caps vs) (caps_pass vs x)

  length_put : (b : Bool) (x : A) (l : List A) → length (put b x l) ≡ length l + cond b 1 0
  length_put true x l = omega arith
  length_put false x l = omega arith

  pub room : (vs : List (View A)) (xs : List A) → length (sift vs xs) ≤ caps vs
  room vs [] = omega arith
  room vs (x ∷ xs) = omega (arith, length_put (shows vs x) x (sift (pass x vs) xs), room (pass x vs) xs, caps_pass vs x)

  -- Fewer views, less quota

  pub stay : (vs : List (View A)) (x : A) (b : Bool) (l : List A) → (shows vs x ≡ true → b ≡ true) → sift vs (put b x l) ≡ sift vs (x ∷ l)
  stay vs x true l h = refl
  stay vs x false l h =
      let e : shows vs x ≡ false = untrue _ (λ k. clash (h k) refl) in
      rw (e, idle vs x e)

  on_pass : (P : View A → Type 0) (vs : List (View A)) (x : A) → ((v : View A) → v ∈ vs → P (spend x v)) → (u : View A) → u ∈ pass x vs → P u
  on_pass P vs x f u m = let s = Memᴰ.of_map (spend x) vs m in subst P s.2 (f s.0 s.1)

  covers_shows : {ws vs : List (View A)} {x : A} {xs : List A} → Covers (x ∷ xs) ws vs → shows vs x ≡ true → shows ws x ≡ true
  covers_shows {vs} {x} c e =
      let s = needed_some vs [] x e in
      let t = c s.0 s.1 x (Memᴰ.head refl) s.2 s.3 in
      some_needed [] x t.1 (t.2.same x (Memᴰ.head refl) ∙ s.2) (omega (arith, s.3, t.2.room))

  covers_pass : {ws vs : List (View A)} {x : A} {xs : List A} → Covers (x ∷ xs) ws vs → Covers xs (pass x ws) (pass x vs)
  covers_pass {ws} {vs} {x} {xs} c = on_pass _ vs x λ v m y k i h.
      let t = c v m y (Memᴰ.tail k) i (omega (arith, spend_self (v.inside x) v.cap)) in (
        spend x t.0,
        Memᴰ.map (spend x) t.1,
        record {
          room = rw (t.2.same x (Memᴰ.head refl)) (spend_less (v.inside x) _ _ t.2.room);
          same = λ z n. t.2.same z (Memᴰ.tail n);
        },
      )

  pub step : (ws vs : List (View A)) (xs : List A) → Covers xs ws vs → sift vs (sift ws xs) ≡ sift vs xs
  step ws vs [] c = refl
  step ws vs (x ∷ xs) c =
      stay vs x (shows ws x) (sift (pass x ws) xs) (covers_shows c)
      ∙ ap (λ l. put (shows vs x) x l) (step (pass x ws) (pass x vs) xs (covers_pass c))

  pub step_mem : {x : A} (ws vs : List (View A)) (xs : List A) → Covers xs ws vs → x ∈ sift vs xs → x ∈ sift ws xs
  step_mem {x} ws vs xs c m = sift_mem vs (sift ws xs) (subst (λ l. x ∈ l) (sym (step ws vs xs c)) m)

  pub covers_sub : {ws vs : List (View A)} (xs : List A) → ((v : View A) → v ∈ vs → v ∈ ws) → Covers xs ws vs
  covers_sub xs f v m _ _ _ _ = (v, f v m, record { room = omega arith; same = λ y n. refl })

  pub covers_pass_self : (vs : List (View A)) (x : A) (xs : List A) → Covers xs vs (pass x vs)
  covers_pass_self vs x xs = on_pass _ vs x λ v m _ _ _ _. (v, m, record { room = spend_self (v.inside x) v.cap; same = λ z n. refl })

  pub covers_append : {ws ws' vs vs' : List (View A)} (xs : List A) → Covers xs ws vs → Covers xs ws' vs' → Covers xs (ws ++ ws') (vs ++ vs')
  covers_append {ws} {ws'} {vs} xs c d v m x k i h =
      elim (Memᴰ.append_cases vs m) [
        | inl n ↦ let t = c v n x k i h in (t.0, Memᴰ.append_left ws' t.1, t.2)
        | inr n ↦ let t = d v n x k i h in (t.0, Memᴰ.append_right ws t.1, t.2)
      ]

  -- Views that cover one another keep the same: their order, and those that have nothing to show, do not matter.
  pub agree : (ws vs : List (View A)) (xs : List A) → Covers xs ws vs → Covers xs vs ws → sift ws xs ≡ sift vs xs
  agree ws vs [] c d = refl
  agree ws vs (x ∷ xs) c d =
      ap₂ (λ b l. put b x l) (both_ways _ _ (covers_shows d) (covers_shows c)) (agree (pass x ws) (pass x vs) xs (covers_pass c) (covers_pass d))

  -- Answers: a view shows the same of what is kept

  take_put : (b : Bool) (c : ℕ) (x : A) (l : List A) → take c (put b x l) ≡ put ((b && ltb 0 c) || false) x (take (cond b (c - 1) c) l)
  take_put false c x l = refl
  take_put true zero x l = refl
  take_put true (suc n) x l =
      let e : suc n - 1 ≡ n = omega arith in
      rw (lt-ltb 0 (suc n) (omega arith), e)

  pub first_sift : (v : View A) (xs : List A) → first v xs ≡ sift (v ∷ []) xs
  first_sift v [] = take-nil v.cap
  first_sift v (x ∷ xs) = take_put (v.inside x) v.cap x (those v.inside xs) ∙ ap (λ l. put (shows (v ∷ []) x) x l) (first_sift (spend x v) xs)

  pub answers : {v : View A} (vs : List (View A)) (xs : List A) → v ∈ vs → first v (sift vs xs) ≡ first v xs
  answers {v} vs xs m =
      first_sift v (sift vs xs) ∙ step vs (v ∷ []) xs (covers_sub xs (λ u n. Memᴰ.cast (Memᴰ.eq_of_singleton n) m)) ∙ sym (first_sift v xs)

  -- Membership: kept is what some view shows

  shown : {x : A} (vs : List (View A)) (xs : List A) → x ∈ sift vs xs → (v : View A) × (v ∈ vs) × (x ∈ sift (v ∷ []) xs)
  shown vs [] m = absurd (Memᴰ.not-nil m)
  shown {x} vs (y ∷ ys) m =
      elim (mem_put (shows vs y) y (sift (pass y vs) ys) m) [
        | inl e ↦
            let s = needed_some vs [] y e.0 in
            (s.0, s.1, rw (some_needed {v = s.0} {vs = s.0 ∷ []} [] y (Memᴰ.head refl) s.2 s.3) (Memᴰ.head e.1))
        | inr k ↦
            let t = shown (pass y vs) ys k in
            let s = Memᴰ.of_map (spend y) vs t.1 in
            (s.0, s.1, put_mem (shows (s.0 ∷ []) y) y (subst (λ (u : View A). x ∈ sift (u ∷ []) ys) (sym s.2) t.2))
      ]

  pub members : {x : A} (vs : List (View A)) (xs : List A) → (x ∈ sift vs xs) ↔ ((v : View A) × (v ∈ vs) × (x ∈ first v xs))
  members {x} vs xs = (
    λ m. let s = shown vs xs m in (s.0, s.1, subst (λ l. x ∈ l) (sym (first_sift s.0 xs)) s.2),
    λ s. sift_mem (s.0 ∷ []) (sift vs xs) (subst (λ l. x ∈ l) (sym (answers vs xs s.1) ∙ first_sift s.0 (sift vs xs)) s.2),
  )
