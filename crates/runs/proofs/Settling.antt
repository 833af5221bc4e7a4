-- The list afterwards: its entries in front, and still 1,024 places.
use mathlib.Core.Path.{◌≡◌, sym, ap, ◌∙◌}
use mathlib.Core.List.{List, ◌++◌}
use Prim.Native.Nat.{ℕ, ◌+◌, ◌-◌, ◌≤◌}
use native.Mathlib.Omega.{arith}
use lib.ListN.{length, take, drop, replicate, length-append, length-drop, length-replicate}
use lib.Seq.{take-append_seam}
use Rattle.rules.specs.Desk.{no_entry}
use Rattle.rules.specs.SharedList.{settled}
use Rattle.rules.specs.Calls.{with_list}
use Rattle.rules.specs.declared.Entry.{Entry}
use Rattle.rules.specs.declared.Time.{Time}
use Rattle.rules.specs.declared.Desk.{Desk}
use Rattle.runs.specs.Ledger.{Ledger, entries}
use Rattle.runs.proofs.Agreeing.{Sound, Same, list_room}

settled_front : (len : ℕ) (stood es : List Entry) → take (length es) (settled len stood es) ≡ es
unfolding settled
settled_front len stood es = take-append_seam es (replicate (len - length es) no_entry ++ drop (length es + (len - length es)) stood)

settled_length : (len : ℕ) (stood es : List Entry) → length es ≤ length stood → len ≤ length stood → length (settled len stood es) ≡ length stood
unfolding settled
settled_length len stood es h k = simp (length-append, length-drop, length-replicate) (omega arith)

-- A desk that went on to a ledger of the same boards and phase.
pub with_list_lem : (d : Desk) (l l' : Ledger) → Same d l → Sound l → Sound l' → l'.boards ≡ l.boards → l'.time.phase ≡ l.time.phase
    → (es : List Entry) → es ≡ entries l' → Same (with_list d l'.time.clock es) l'
with_list_lem d l l' a s s' b p es e =
    let room : length es ≤ 1024 = omega (arith, ap length e, list_room l' s', s'.room) in
    let few : d.len ≤ 1024 = omega (arith, a.len, list_room l s, s.room) in
    record {
      time = λ i. record { clock = l'.time.clock; phase = (ap (λ (t : Time). t.phase) a.time ∙ sym p) i };
      rows = a.rows;
      places = settled_length d.len d.entries es (omega (arith, a.places)) (omega (arith, a.places)) ∙ a.places;
      count = a.count ∙ ap length (sym b);
      boards = a.boards ∙ sym b;
      len = ap length e;
      list = settled_front d.len d.entries es ∙ e;
    }
