use Rattle.rtgs_laws.proofs.Calm.{own_quiet}
use Rattle.rtgs_laws.proofs.laws.what_did_not_act_leaves_the_book.Goals as goal

pub returns : goal.returns
returns c = own_quiet
