-- Boards in range: the test is its sentence, and their needs are small.
use mathlib.Core.Path.{◌≡◌}
use mathlib.Core.List.{List, [], ◌∷◌}
use mathlib.Core.Bool.{true, and-eq-true_iff}
use mathlib.Core.Logic.{◌↔◌}
use Prim.Native.Nat.{ℕ, ◌*◌, ◌≤◌, ◌<◌}
use native.Mathlib.Omega.{arith}
use native.Mathlib.Nat.{mul-le-mul, le_trans}
use borrow.Author.Tests.{leb-true, le-leb}
use lib.Dec.{leb}
use lib.ListN.{length}
use Rattle.lists.specs.Views.{◌∈◌, all}
use Rattle.lists.proofs.Best.{of_all}
use Rattle.rules.specs.Desk.{within, need, needs, BoardFits, board_fits, request_fits}
use Rattle.rules.specs.Refusals.{entry_fits}
use Rattle.rules.specs.declared.Board.{Board}
use Rattle.rules.specs.declared.Entry.{Entry}
use Rattle.rules.proofs.MomentLaw.{rounded_small}

in_range : (low high n : ℕ) → within low high n ≡ true → (low ≤ n) × (n ≤ high)
in_range low high n e = let h = (and-eq-true_iff _ _).0 e in (leb-true _ _ h.0, leb-true _ _ h.1)

pub board_fits_lem : (b : Board) → (board_fits b ≡ true) ↔ BoardFits b
unfolding board_fits
board_fits_lem b = (
  λ e.
      let k = (and-eq-true_iff _ _).0 e in
      let s = (and-eq-true_iff _ _).0 k.0 in
      let w = (and-eq-true_iff _ _).0 s.0 in
      record { mask = leb-true _ _ w.0; window = in_range 1 86400 _ w.1; slide = in_range 1 86400 _ s.1; k = in_range 1 256 _ k.1 },
  λ f.
      rw (
        le-leb b.mask 255 f.mask,
        le-leb 1 b.window f.window.0,
        le-leb b.window 86400 f.window.1,
        le-leb 1 b.slide f.slide.0,
        le-leb b.slide 86400 f.slide.1,
        le-leb 1 b.k f.k.0,
        le-leb b.k 256 f.k.1,
      ),
)

pub all_slide : {b : Board} (bs : List Board) → all board_fits bs ≡ true → b ∈ bs → 0 < b.slide
all_slide {b} bs e m = ((board_fits_lem b).0 (of_all board_fits bs e m)).slide.0

pub need_small : (b : Board) → board_fits b ≡ true → need b ≤ 22118400
unfolding need
need_small b e = let f = (board_fits_lem b).0 e in mul-le-mul f.k.1 (le_trans (rounded_small b.window b.slide) f.window.1)

pub needs_small : (bs : List Board) → all board_fits bs ≡ true → needs bs ≤ length bs * 22118400
unfolding needs
needs_small [] e = omega arith
needs_small (b ∷ bs) e = let h = (and-eq-true_iff _ _).0 e in omega (arith, need_small b h.0, needs_small bs h.1)

pub entry_fits_lem : (clock : ℕ) (e : Entry) → (entry_fits clock e ≡ true) ↔ ((request_fits e.topic e.score ≡ true) × (e.tick ≤ clock))
unfolding entry_fits
entry_fits_lem clock e = (
  λ h. let k = (and-eq-true_iff (request_fits e.topic e.score) (leb e.tick clock)).0 h in (k.0, leb-true _ _ k.1),
  λ h. rw (h.0, le-leb e.tick clock h.1),
)
