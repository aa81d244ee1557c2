use Rattle.rtgs_examples.proofs.Computed.{largest_posting_comes}
use Rattle.rtgs_examples.proofs.largest_posting.Goals as goal

pub returns : goal.returns
returns c = largest_posting_comes
