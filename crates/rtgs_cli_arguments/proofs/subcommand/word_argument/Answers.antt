use Rattle.std.proofs.Common.{arith}
use Rattle.std.proofs.lemmas.Grind.{common_steps}
use Rattle.rtgs_cli_arguments.proofs.subcommand.word_argument.Goals as goal

pub returns-clause-rule : goal.returns-clause-rule
returns-clause-rule c = grind (arith, common_steps)

pub returns-clause-plain : goal.returns-clause-plain
returns-clause-plain c = grind (arith, common_steps)
