use Rattle.rtgs_refusal_texts.proofs.Listing.{each_begun}
use Rattle.rtgs_refusal_texts.proofs.laws.texts_begin_with_numbers_and_names.Goals as goal

pub returns : goal.returns
returns c = each_begun
