use Rattle.rtgs_book.proofs.Balances.{balance-settle_queued}
use Rattle.rtgs_book.proofs.laws.balance_after_settling.Goals as goal

pub returns : goal.returns
returns c = balance-settle_queued
