-- What the desk's answer to the message gives: its words are blocks, and where the step stopped short, the clock rose.
use Rattle.std.proofs.Common.{arith}
use Rattle.console.proofs.Shows.{took}
use Rattle.console.proofs.Lesson.take.Goals as goal

pub put_blocks-requires : goal.put_blocks-requires
put_blocks-requires g c = (took c.loop-steps.self.desk c.in-Ok.message c.loop-steps.self.reply (rw c.in-Ok-Some.field-0-is at c.in-Ok-Some.ensures)).shown

pub loop-steps-smaller : goal.loop-steps-smaller
loop-steps-smaller g c = omega (arith, (took c.loop-steps.self.desk c.in-Ok.message c.loop-steps.self.reply (rw c.in-Ok-Some.field-0-is at c.in-Ok-Some.ensures)).rises c.if-steps-message.false)
