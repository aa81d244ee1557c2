use Rattle.rtgs_book.specs.declared.standing.Standing.TheVariants.{Settled, Queued, Held, Withdrawn, Rejected}
use Rattle.rtgs_statements.proofs.tallies.Tallies.with.Goals as goal

pub with-requires : goal.with-requires
with-requires c = c.requires Settled

pub with-requires-2 : goal.with-requires-2
with-requires-2 c = c.requires Queued

pub with-requires-3 : goal.with-requires-3
with-requires-3 c = c.requires Held

pub with-requires-4 : goal.with-requires-4
with-requires-4 c = c.requires Withdrawn

pub with-requires-5 : goal.with-requires-5
with-requires-5 c = c.requires Rejected
