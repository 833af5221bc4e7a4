use Rattle.std.proofs.Common.{List, take}
use Rattle.console.specs.declared.output.TheConstants.{ROOM}
use Rattle.console.specs.declared.output.Output.{Output}
use Rattle.console.specs.Output.{longest}
use Rattle.console.proofs.Lines.{short_take, line_stands}
use Rattle.console.proofs.output.Output.line.Goals as goal

pub returns : goal.returns
returns g c =
    let waits : Output _ → List _ = λ o. take o.waiting o.bytes in
    let room = short_take c.make_room.new.self.waiting c.make_room.new.self.bytes longest c.make_room.ensures.room in
    rw (← c.make_room.ensures.waits) (line_stands waits ROOM c.writeln.result (g.D.Display.output c.args.line) c.make_room.new.self c.writeln.new.self c.requires room c.writeln.ensures.writes)
