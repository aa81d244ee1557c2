-- The word for where an order stands is short.
use Rattle.std.proofs.Common.{◌≤◌, length, arith}
use Rattle.rtgs_book.specs.declared.standing.Standing.{Standing}
use Rattle.rtgs_book.specs.declared.standing.Standing.TheVariants.{Settled, Queued, Held, Withdrawn, Rejected}
use Rattle.rtgs_book.specs.Standings.{word_of}

pub is_short : (standing : Standing) → length (word_of standing) ≤ 9
is_short Settled = omega arith
is_short Queued = omega arith
is_short Held = omega arith
is_short Withdrawn = omega arith
is_short Rejected = omega arith
