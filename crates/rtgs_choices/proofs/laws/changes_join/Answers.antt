use Rattle.rtgs_choices.proofs.Joining.{joined_leads}
use Rattle.rtgs_choices.proofs.laws.changes_join.Goals as goal

pub returns : goal.returns
returns c old mid new one next same first second = joined_leads old mid new one next same first.book second.book
