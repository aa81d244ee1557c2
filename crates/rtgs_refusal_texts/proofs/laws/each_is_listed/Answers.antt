use Rattle.rtgs_refusal_texts.proofs.Listing.{each_listed}
use Rattle.rtgs_refusal_texts.proofs.laws.each_is_listed.Goals as goal

pub returns : goal.returns
returns c = each_listed
