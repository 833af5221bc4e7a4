-- Three stores one behind the other are the entry's words at the front.
use Rattle.std.proofs.Common.{[], ◌∷◌}
use lib.Seq.{sets-eq}
use Rattle.rules.specs.Calls.{entry_words}
use Rattle.reply.proofs.write_entry.Goals as goal

pub returns : goal.returns
unfolding entry_words
returns c = sets-eq (entry_words (c.args.e ∷ [])) c.args.reply.now 0 c.requires
