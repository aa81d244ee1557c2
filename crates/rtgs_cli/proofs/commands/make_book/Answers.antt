use Rattle.std.proofs.Common.{refl}
use Rattle.rtgs_cli.proofs.commands.make_book.Goals as goal

pub returns-in-Err-clause-refused : goal.returns-in-Err-clause-refused
returns-in-Err-clause-refused g c = rw c.refused.ensures (c.in-Err.unmade, refl, c.in-Err.ensures.refused, refl)
