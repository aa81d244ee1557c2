use Rattle.rtgs_laws.proofs.Steady.{few_marks}
use Rattle.rtgs_laws.proofs.laws.marks_are_few.Goals as goal

pub returns : goal.returns
returns c = few_marks
