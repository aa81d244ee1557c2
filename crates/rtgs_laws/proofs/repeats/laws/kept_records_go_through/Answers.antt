use Rattle.rtgs_laws.proofs.repeats.KeptSteps.{kept_goes_through}
use Rattle.rtgs_laws.proofs.repeats.laws.kept_records_go_through.Goals as goal

pub returns : goal.returns
returns c = kept_goes_through
