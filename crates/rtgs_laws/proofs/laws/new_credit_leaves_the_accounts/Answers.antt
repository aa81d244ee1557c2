use Rattle.rtgs_laws.proofs.SoundCredit.{accounts-with_credit}
use Rattle.rtgs_laws.proofs.laws.new_credit_leaves_the_accounts.Goals as goal

pub returns : goal.returns
returns c = accounts-with_credit
