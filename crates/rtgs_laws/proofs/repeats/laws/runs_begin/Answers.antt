use Rattle.rtgs_laws.proofs.repeats.Begun.{begun}
use Rattle.rtgs_laws.proofs.repeats.laws.runs_begin.Goals as goal

pub returns : goal.returns
returns c = begun
