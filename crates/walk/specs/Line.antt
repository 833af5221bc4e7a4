-- The line that the boards walk: the entries in their order, each with the bit of its topic and a mark if some board shows it.
use Rattle.std.specs.Prelude.{List, cond, ℕ, ◌^◌, eqb, ltb, map, true, false}
use Rattle.lists.specs.Views.{those}
use Rattle.rules.specs.declared.Board.{Board}
use Rattle.rules.specs.declared.Entry.{Entry}
use Rattle.walk.specs.declared.Spot.{Spot}

-- the bit of a topic, and those of the topics that a board names: topics are 0 to 7, and the mask 0 names all eight
abbrev pub bit_of : ℕ → ℕ
bit_of topic = cond (ltb topic 8) (2 ^ topic) 0

abbrev pub named_bits : Board → ℕ
named_bits b = cond (eqb b.mask 0) 255 b.mask

-- an entry that no board has marked, and one that some board has
abbrev pub spot_of : Entry → Spot
spot_of e = record { entry = e; bit = bit_of e.topic; marked = false }

abbrev pub with_mark : Spot → Spot
with_mark s = record { entry = s.entry; bit = s.bit; marked = true }

abbrev pub entry_of : Spot → Entry
entry_of s = s.entry

-- the entries that have a mark
abbrev pub kept : List Spot → List Entry
kept line = map entry_of (those (λ s. s.marked) line)
