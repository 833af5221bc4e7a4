-- A desk with a lent clock and phase in it.
use Rattle.rules.specs.declared.Desk.{Desk}
use Rattle.rules.specs.declared.Time.{Time}

abbrev pub with_time : Desk → Time → Desk
with_time d t = record { time = t; count = d.count; boards = d.boards; len = d.len; entries = d.entries }
