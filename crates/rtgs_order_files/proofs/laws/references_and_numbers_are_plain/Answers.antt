use Rattle.rtgs_order_files.proofs.Plain.{plain_reference, plain_number}
use Rattle.rtgs_order_files.proofs.laws.references_and_numbers_are_plain.Goals as goal

pub returns-clause-reference : goal.returns-clause-reference
returns-clause-reference c = plain_reference

pub returns-clause-number : goal.returns-clause-number
returns-clause-number c = plain_number
