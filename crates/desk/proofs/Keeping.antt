-- A desk in order is one that the walk can hold, and the walk over cells keeps what the list's rule names.
use mathlib.Core.Path.{◌≡◌, ap}
use mathlib.Core.List.Memᴰ
use mathlib.Core.List.{List, [], ◌∷◌}
use mathlib.Core.Bool.{true, false, and-eq-true_iff}
use mathlib.Core.Logic.{inl, inr}
use Rattle.std.specs.Prelude.{Ok}
use Prim.Native.Nat.{ℕ, ◌≤◌}
use native.Mathlib.Omega.{arith}
use native.Mathlib.Nat.{mul_comm, le-mul_of_pos_right}
use borrow.Author.Tests.{le-leb}
use Rattle.lists.specs.Views.{◌∈◌, all}
use Rattle.lists.proofs.Best.{of_all}
use Rattle.lists.proofs.Place.{place_mem}
use lib.ListN.{length}
use Rattle.rules.specs.Desk.{limit, need, needs, board_fits, loaded, listed}
use Rattle.rules.specs.Moments.{reached}
use Rattle.rules.specs.SharedList.{named, ahead, placed}
use Rattle.rules.specs.Cells.{cells}
use Rattle.rules.specs.Refusals.{disorder, entry_fits, reply_need, InOrder}
use Rattle.rules.specs.Calls.{with_list, requested, moved_to}
use Rattle.rules.specs.declared.Board.{Board}
use Rattle.rules.specs.declared.Entry.{Entry}
use Rattle.rules.specs.declared.Desk.{Desk}
use Rattle.rules.proofs.Fitting.{board_fits_lem, all_slide, entry_fits_lem}
use Rattle.rules.proofs.Refusing.{in_order}
use Rattle.rules.proofs.Stepping.{reached_from}
use Rattle.rules.proofs.Nesting.{named_cells}
use Rattle.reply.specs.Written.{writable, wrote, blocks_into}
use Rattle.desk.specs.Outcomes.{step_outcome, moved_by}
use Rattle.walk.specs.Walk.{sum_cells, holdable, walkable, thinned_to, with_entry}

-- a desk in order has few boards and entries
pub small : (d : Desk) → disorder d ≡ false → (d.count ≤ 32) × (d.len ≤ 1024)
small d o = let p = in_order d o in (p.few, omega (arith, p.short, p.room))

-- k is at least 1
cells_need : (bs : List Board) → all board_fits bs ≡ true → sum_cells bs ≤ needs bs
unfolding sum_cells needs need cells
cells_need [] e = omega arith
cells_need (b ∷ bs) e =
    let h = (and-eq-true_iff (board_fits b) (all board_fits bs)).0 e in
    let k = ((board_fits_lem b).0 h.0).k.0 in
    omega (arith, cells_need bs h.1, le-mul_of_pos_right (cells b) k, mul_comm (cells b) b.k)

module _ (d : Desk) (o : InOrder d) where
  walks : walkable d ≡ true
  unfolding holdable
  walks =
      rw (
        le-leb d.count 32 o.few,
        le-leb (sum_cells (loaded d)) 1024 (omega (arith, cells_need (loaded d) o.boards, o.room)),
        le-leb (needs (loaded d)) 1024 o.room,
        le-leb d.len 1024 (omega (arith, o.short, o.room)),
      )

  past : (e : Entry) → e ∈ listed d → e.tick ≤ d.time.clock
  past e m = ((entry_fits_lem d.time.clock e).0 (of_all (entry_fits d.time.clock) (listed d) o.entries m)).1

  pub thinned_named : (n : ℕ) → d.time.clock ≤ n → thinned_to d n ≡ with_list d n (named (loaded d) n (listed d))
  unfolding thinned_to
  thinned_named n h = rw (walks, named_cells n (listed d) (λ e m. omega (arith, past e m)) (loaded d))

  pub entry_named : (e : Entry) → e.tick ≡ d.time.clock → with_entry d e ≡ requested d e
  unfolding with_entry
  entry_named e h = rw (walks, named_cells d.time.clock (placed e (listed d)) come (loaded d))
    where
      come : (x : Entry) → x ∈ placed e (listed d) → x.tick ≤ d.time.clock
      come x m = elim (Memᴰ.cases_cons (place_mem ahead e (listed d) m)) [ inl p ↦ omega (arith, h, ap (λ (y : Entry). y.tick) p) | inr k ↦ past x k ]

  -- A step that moves the clock, by its parts.
  pub moves : (T : ℕ) (slice : List ℕ) → d.time.clock ≤ T → reply_need (loaded d) ≤ length slice
      → step_outcome (Ok (moved_by d T (length slice))) (thinned_to d T) (blocks_into d T slice) ≡ moved_to d T slice
  unfolding wrote blocks_into writable
  moves T slice h k =
      rw (
        le-leb d.count 32 o.few,
        le-leb d.len 1024 (omega (arith, o.short, o.room)),
        le-leb (reply_need (loaded d)) (length slice) k,
        thinned_named T h,
      )

  pub not_back : (target : ℕ) → d.time.clock ≤ target → target ≤ limit → d.time.clock ≤ reached (loaded d) d.time.clock target
  not_back target h k = reached_from d.time.clock target h k (loaded d) (λ b m. all_slide (loaded d) o.boards m)
