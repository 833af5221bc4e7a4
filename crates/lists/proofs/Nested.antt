-- Nested views by their caps alone. A later view never has less left than an earlier one, so of the views that hold an element the last
-- decides: one test, and one walk over a front part.
use mathlib.Core.Path.{◌≡◌, refl, sym, ap, ◌∙◌}
use mathlib.Core.List.Memᴰ
use mathlib.Core.List.{List, [], ◌∷◌, ◌++◌}
use mathlib.Core.Bool.{false, ◌||◌, or-false, or_assoc}
use Prim.Native.Nat.{ℕ, zero, suc, ◌+◌, ◌-◌, ◌*◌, ◌≤◌, ◌<◌, min}
use native.Mathlib.Omega.{arith}
use native.Mathlib.Nat.{zero-min, min-zero, suc-min-suc, min-le_right}
use native.Mathlib.Decide.{ℕ_discrete}
use borrow.Author.Tests.{ltb-true, lt-ltb, le-ltb}
use lib.ListN.{length, get_or, replicate}
use lib.Dec.{ltb, leb-suc-suc}
use Rattle.lists.specs.Views.{View, ◌∈◌, sees, shows, spend, pass, sift, caps}
use Rattle.lists.specs.Nested.{view, nested, left, empties, on_front, Rise}
use Rattle.lists.proofs.Bools.{by}

-- All caps of a rising list are at least its first bound.
rise_at : (n : ℕ) (qs : List ℕ) (c : ℕ) → Rise n qs → c < length qs → n ≤ get_or qs c 0
rise_at n [] c h k = absurd (omega arith)
rise_at n (q ∷ qs) zero h k = h.0
rise_at n (q ∷ qs) (suc c) h k = omega (arith, rise_at q qs c h.1 (omega arith), h.0)

rise_less : (n m : ℕ) (qs : List ℕ) → m ≤ n → Rise n qs → Rise m qs
rise_less n m [] k h = tt
rise_less n m (q ∷ qs) k h = (omega arith, h.1)

pub rise_lower : (n c : ℕ) (qs : List ℕ) → Rise n qs → Rise (n - 1) (on_front (λ q. q - 1) c qs)
rise_lower n zero qs h = rise_less n (n - 1) qs (omega arith) h
rise_lower n (suc c) [] h = tt
rise_lower n (suc c) (q ∷ qs) h = (omega arith, rise_lower q c qs h.1)

rise_full : (n k : ℕ) → Rise k (replicate n k)
rise_full zero k = tt
rise_full (suc n) k = (omega arith, rise_full n k)

pub rise_all : (k n : ℕ) → Rise 0 (replicate n k)
rise_all k n = rise_less k 0 (replicate n k) (omega arith) (rise_full n k)

-- Of the first one and what comes after it, up to the last, the last decides.
last : (q c : ℕ) (qs : List ℕ) → Rise q qs → c ≤ length qs → (ltb 0 q || left c qs) ≡ left (suc c) (q ∷ qs)
last q zero qs h k = or-false (ltb 0 q)
last q (suc c) qs h k = by (ltb 0 q) (λ e. rw e (sym (lt-ltb 0 (get_or qs c 0) (omega (arith, ltb-true 0 q e, rise_at q qs c h k))))) (λ e. rw e)

-- The empty views are a front part, and their number is the edge: what is held past it is shown.
pub left_edge : (n c : ℕ) (qs : List ℕ) → Rise n qs → c ≤ length qs → left c qs ≡ ltb (empties qs) c
left_edge n zero qs h k = sym (le-ltb (empties qs) 0 (omega arith))
left_edge n (suc c) [] h k = absurd (omega arith)
left_edge n (suc c) (q ∷ qs) h k =
    sym (last q c qs h.1 (omega arith))
    ∙ by (ltb 0 q)
    (λ e. rw e (sym (lt-ltb 0 (suc c) (omega arith))))
    (λ e. rw e (left_edge q c qs h.1 (omega arith) ∙ sym (leb-suc-suc (suc (empties qs)) c)))

-- The walk over the views from the edge on: what is empty stays empty, so lowering and the search for the next edge may begin at it.
pub empties_few : (qs : List ℕ) → empties qs ≤ length qs
empties_few [] = omega arith
empties_few (q ∷ qs) = by (ltb 0 q) (λ e. rw e (omega arith)) (λ e. rw e (omega (arith, empties_few qs)))

module _ {A : Type 0} (reach : A → ℕ) where
  nested_pass_at : (i c : ℕ) (qs : List ℕ) (x : A) → reach x - i ≡ c → pass x (nested reach i qs) ≡ nested reach i (on_front (λ q. q - 1) c qs)
  nested_pass_at i zero [] x e = refl
  nested_pass_at i zero (q ∷ qs) x e = rw (le-ltb i (reach x) (omega arith)) (ap (λ vs. view reach i q ∷ vs) (nested_pass_at (suc i) zero qs x (omega arith)))
  nested_pass_at i (suc c) [] x e = refl
  nested_pass_at i (suc c) (q ∷ qs) x e = rw (lt-ltb i (reach x) (omega arith)) (ap (λ vs. view reach i (q - 1) ∷ vs) (nested_pass_at (suc i) c qs x (omega arith)))

  pub nested_pass : (i : ℕ) (qs : List ℕ) (x : A) → pass x (nested reach i qs) ≡ nested reach i (on_front (λ q. q - 1) (reach x - i) qs)
  nested_pass i qs x = nested_pass_at i (reach x - i) qs x refl

  out : (i : ℕ) (qs : List ℕ) (x : A) → reach x ≤ i → shows (nested reach i qs) x ≡ false
  out i [] x e = refl
  out i (q ∷ qs) x e = rw (le-ltb i (reach x) e) (out (suc i) qs x (omega arith))

  nested_shows_at : (i n c : ℕ) (qs : List ℕ) (x : A) → Rise n qs → reach x - i ≡ c → shows (nested reach i qs) x ≡ left (min c (length qs)) qs
  nested_shows_at i n zero qs x h e = rw zero-min (out i qs x (omega arith))
  nested_shows_at i n (suc c) [] x h e = rw min-zero
  nested_shows_at i n (suc c) (q ∷ qs) x h e =
      rw (lt-ltb i (reach x) (omega arith), nested_shows_at (suc i) q c qs x h.1 (omega arith), suc-min-suc)
      (last q (min c (length qs)) qs h.1 (min-le_right c (length qs)))

  -- The last view decides; an element that reaches past the last of them counts as in it.
  pub nested_shows : (i n : ℕ) (qs : List ℕ) (x : A) → Rise n qs → shows (nested reach i qs) x ≡ left (min (reach x - i) (length qs)) qs
  nested_shows i n qs x h = nested_shows_at i n (reach x - i) qs x h refl

  pub nested_caps : (i n k : ℕ) → caps (nested reach i (replicate n k)) ≡ n * k
  nested_caps i zero k = omega arith
  nested_caps i (suc n) k = omega (arith, nested_caps (suc i) n k)

  -- Which views they are

  pub nested_mem : {v : View A} (i n k : ℕ) → v ∈ nested reach i (replicate n k) → (j : ℕ) × (i ≤ j) × (j < i + n) × (v ≡ view reach j k)
  nested_mem i zero k m = absurd (Memᴰ.not-nil m)
  nested_mem i (suc n) k (Memᴰ.head e) = (i, omega arith, omega arith, e)
  nested_mem i (suc n) k (Memᴰ.tail m) = let r = nested_mem (suc i) n k m in (r.0, omega (arith, r.1), omega (arith, r.2), r.3)

  pub mem_nested : (i n k j : ℕ) → i ≤ j → j < i + n → view reach j k ∈ nested reach i (replicate n k)
  mem_nested i zero k j a b = absurd (omega arith)
  mem_nested i (suc n) k j a b =
      elim (ℕ_discrete j i) [
        | yes e ↦ Memᴰ.head (ap (λ h. view reach h k) e)
        | no e ↦ Memᴰ.tail (mem_nested (suc i) n k j (omega arith) (omega arith))
      ]

-- Several groups of views, one after another

module _ {A : Type 0} where
  pub shows_append : (vs ws : List (View A)) (x : A) → shows (vs ++ ws) x ≡ shows vs x || shows ws x
  shows_append [] ws x = refl
  shows_append (v ∷ vs) ws x = ap (λ b. sees v [] x || b) (shows_append vs ws x) ∙ sym (or_assoc (sees v [] x) (shows vs x) (shows ws x))

  pub pass_append : (vs ws : List (View A)) (x : A) → pass x (vs ++ ws) ≡ pass x vs ++ pass x ws
  pass_append [] ws x = refl
  pass_append (v ∷ vs) ws x = ap (λ us. spend x v ∷ us) (pass_append vs ws x)

  pub caps_append : (vs ws : List (View A)) → caps (vs ++ ws) ≡ caps vs + caps ws
  caps_append [] ws = omega arith
  caps_append (v ∷ vs) ws = omega (arith, caps_append vs ws)

-- Four views from number 1 on, of cap 1: of two that reach 4 and 5, both are kept, for the second has view 4; of two that reach 4, the first is.
two_kept : sift (nested (λ n. n) 1 (replicate 4 1)) (4 ∷ 5 ∷ []) ≡ 4 ∷ 5 ∷ []
two_kept = refl

one_kept : sift (nested (λ n. n) 1 (replicate 4 1)) (4 ∷ 4 ∷ []) ≡ 4 ∷ []
one_kept = refl
