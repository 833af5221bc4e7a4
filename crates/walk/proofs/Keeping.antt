-- What has a mark is kept: it is what sifting by all boards' views keeps, and so it fits the list.
use mathlib.Core.Logic.{inl, inr}
use mathlib.Core.Path.{◌≡◌, refl, sym, ap, ◌∙◌}
use mathlib.Core.List.Memᴰ
use mathlib.Core.List.{List, [], ◌∷◌, map, map-append}
use Prim.Native.Nat.{ℕ, zero, suc, ◌+◌, ◌*◌, ◌/◌, ◌%◌, ◌^◌, ◌-◌, ◌≤◌, ◌<◌, max}
use native.Mathlib.Omega.{arith}
use native.Mathlib.Numerals.{add-one}
use native.Mathlib.Nat.{add_comm, mul_comm, zero-mul, two-pow-succ, pow-le-pow_right, mod-lt}
use borrow.Author.Tests.{ltb-true, lt-ltb}
use lib.Bits.{bit_and, and_high, and_zero_r}
use lib.Dec.{eqb, ltb}
use lib.ListN.{length, take, drop, get_or, replicate, drop_of_length-le}
use lib.Seq.{drop-cons, drop-drop, length-take-le}
use borrow.Rule.Slice.PartMut.{put_mid}
use Rattle.lists.specs.Views.{View, along, shows, pass, sift, caps}
use Rattle.lists.specs.Nested.{nested}
use Rattle.lists.specs.Marks.{noted, Blind}
use Rattle.lists.proofs.Bools.{by}
use Rattle.lists.proofs.Laws.{room}
use Rattle.lists.proofs.Along.{shows_along, pass_along}
use Rattle.lists.proofs.Nested.{nested_caps, caps_append}
use Rattle.lists.proofs.Marks.{noted_none, noted_append}
use Rattle.rules.specs.Desk.{names, need, needs, no_board, no_entry}
use Rattle.rules.specs.SharedList.{settled}
use Rattle.rules.specs.Moments.{upto}
use Rattle.rules.specs.Cells.{reach, cells, cell_views}
use Rattle.rules.specs.declared.Board.{Board}
use Rattle.rules.specs.declared.Entry.{Entry}
use Rattle.walk.specs.Line.{bit_of, named_bits, spot_of, with_mark, kept}
use Rattle.walk.specs.Edges.{reach_of, views_from, board_views}
use Rattle.walk.specs.declared.Spot.{Spot}

-- The boards mark one after another, for no view looks at a mark.

blind_nested : (b : Board) (i : ℕ) (qs : List ℕ) → Blind with_mark (nested (reach_of b) i qs)
unfolding reach_of
blind_nested b i [] v m x = absurd (Memᴰ.not-nil m)
blind_nested b i (q ∷ qs) v (Memᴰ.head e) x = rw e
blind_nested b i (q ∷ qs) v (Memᴰ.tail m) x = blind_nested b (suc i) qs v m x

blind_boards : (bs : List Board) (n : ℕ) → Blind with_mark (board_views bs n)
unfolding board_views views_from
blind_boards [] n v m x = absurd (Memᴰ.not-nil m)
blind_boards (b ∷ bs) n v m x =
    elim (Memᴰ.append_cases (nested (reach_of b) (upto b n) (replicate (cells b) b.k)) m) [
      | inl k ↦ blind_nested b (upto b n) (replicate (cells b) b.k) v k x
      | inr k ↦ blind_boards bs n v k x
    ]

pub next_board : (boards : List Board) (i n : ℕ) (line : List Spot) → i < length boards
    → let b = get_or boards i no_board in
    noted with_mark (board_views (drop i boards) n) line ≡ noted with_mark (board_views (drop (i + 1) boards) n) (noted with_mark (views_from b (upto b n) (replicate (cells b) b.k)) line)
unfolding board_views
next_board boards i n line h =
    let b : Board = get_or boards i no_board in
    rw (drop-cons boards i no_board h, add-one)
    (noted_append with_mark (λ x. refl) (views_from b (upto b n) (replicate (cells b) b.k)) (board_views (drop (suc i) boards) n) line (blind_boards (drop (suc i) boards) n))

pub boards_done : (boards : List Board) (i n : ℕ) (line : List Spot) → length boards ≤ i → noted with_mark (board_views (drop i boards) n) line ≡ line
unfolding board_views
boards_done boards i n line h = rw (drop_of_length-le boards {i = i} h) (noted_none with_mark line)

-- A view sees an entry's tick and its topic's bit alone.

-- the bit of a number at a place, as an and with a power of two
and_power : (n k : ℕ) → bit_and n (2 ^ k) ≡ (n / 2 ^ k % 2) * 2 ^ k
and_power n k =
    let p : 2 ^ (1 + k) - 2 ^ k ≡ 2 ^ k = rw (add_comm 1 k, add-one, two-pow-succ) (omega arith) in
    rw p at (and_high n 1 k)

all_eight : (t : ℕ) → t < 8 → 255 / 2 ^ t % 2 ≡ 1
all_eight zero h = refl
all_eight (suc zero) h = refl
all_eight (suc (suc zero)) h = refl
all_eight (suc (suc (suc zero))) h = refl
all_eight (suc (suc (suc (suc zero)))) h = refl
all_eight (suc (suc (suc (suc (suc zero))))) h = refl
all_eight (suc (suc (suc (suc (suc (suc zero)))))) h = refl
all_eight (suc (suc (suc (suc (suc (suc (suc zero))))))) h = refl
all_eight (suc (suc (suc (suc (suc (suc (suc (suc t)))))))) h = absurd (omega arith)

-- a product with a power of two is above 0 exactly if the bit is 1
bit_test : (d k : ℕ) → d < 2 → ltb 0 (d * 2 ^ k) ≡ eqb d 1
bit_test zero k h = rw zero-mul
bit_test (suc zero) k h = let p : 1 ≤ 2 ^ k = pow-le-pow_right {n = 2} (omega arith) {i = 0} {j = k} (omega arith) in lt-ltb 0 (1 * 2 ^ k) (omega arith)
bit_test (suc (suc d)) k h = absurd (omega arith)

named_bit : (b : Board) (t : ℕ) → ltb 0 (bit_and (named_bits b) (bit_of t)) ≡ names b t
unfolding names
named_bit b t =
    by (ltb t 8)
    (λ e.
    rw (e, and_power, bit_test (named_bits b / 2 ^ t % 2) t (mod-lt (named_bits b / 2 ^ t) {m = 2} (omega arith))) (
    by (eqb b.mask 0)
    (λ z. rw (z, all_eight t (ltb-true _ _ e)))
    (λ z. rw z)
    ))
    (λ e. rw (e, and_zero_r))

reach_spot : (b : Board) (e : Entry) → reach_of b (spot_of e) ≡ reach b e
unfolding reach_of reach
reach_spot b e = rw named_bit

nested_spot : (b : Board) (i : ℕ) (qs : List ℕ) → map (along spot_of) (nested (reach_of b) i qs) ≡ nested (reach b) i qs
nested_spot b i [] = refl
nested_spot b i (q ∷ qs) = λ j. record { inside = λ e. ltb i (reach_spot b e j); cap = q } ∷ nested_spot b (suc i) qs j

views_spot : (bs : List Board) (n : ℕ) → map (along spot_of) (board_views bs n) ≡ cell_views bs n
unfolding cell_views board_views views_from
views_spot [] n = refl
views_spot (b ∷ bs) n = rw (map-append, nested_spot, views_spot bs n)

-- The marks of all boards: what has one is what sifting keeps.

kept_sift : (vs : List (View Spot)) (es : List Entry) → kept (noted with_mark vs (map spot_of es)) ≡ sift (map (along spot_of) vs) es
kept_sift vs [] = refl
kept_sift vs (e ∷ es) =
    by (shows vs (spot_of e))
    (λ s. rw (shows_along spot_of e vs, pass_along spot_of e vs, s) (ap (λ l. e ∷ l) (kept_sift (pass (spot_of e) vs) es)))
    (λ s. rw (shows_along spot_of e vs, pass_along spot_of e vs, s) (kept_sift (pass (spot_of e) vs) es))

pub all_kept : (bs : List Board) (n : ℕ) (es : List Entry) {line : List Spot} → line ≡ noted with_mark (board_views bs n) (map spot_of es) → kept line ≡ sift (cell_views bs n) es
all_kept bs n es e = rw (e, kept_sift) (ap (λ vs. sift vs es) (views_spot bs n))

-- behind the list come zeros up to the old length
pub settles : (len now : ℕ) (stood entries : List Entry) {es zeros : List Entry} → now ≤ length entries → take now entries ≡ es → drop now entries ≡ drop now stood → zeros ≡ replicate (max len now - now) no_entry
    → (now ≡ length es) × (put_mid now (max len now - now) entries zeros ≡ settled len stood es)
unfolding settled
settles len now stood entries {es} k t b z =
    let l : length es ≡ now = ap length (sym t) ∙ length-take-le now entries k in
    let n : max len now - now ≡ len - now = omega arith in
    (sym l, rw (z, b, t, l, n, drop-drop))

-- What is kept is at most the sum of needs.

caps_needs : (n : ℕ) (bs : List Board) → caps (cell_views bs n) ≡ needs bs
unfolding cell_views needs need cells
caps_needs n [] = refl
caps_needs n (b ∷ bs) = rw (caps_append, nested_caps, caps_needs n bs, mul_comm (cells b) b.k)

sift_few : (n : ℕ) (bs : List Board) (es : List Entry) → length (sift (cell_views bs n) es) ≤ needs bs
sift_few n bs es = rw (← caps_needs n bs) (room (cell_views bs n) es)

pub few_kept : (bs : List Board) (n : ℕ) (es : List Entry) {line : List Spot} → line ≡ noted with_mark (board_views bs n) (map spot_of es) → length (kept line) ≤ needs bs
few_kept bs n es e = rw (all_kept bs n es e) (sift_few n bs es)
