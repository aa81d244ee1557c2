use Rattle.rtgs_order_files.proofs.Plain.{plain_date}
use Rattle.rtgs_order_files.proofs.laws.dates_are_plain.Goals as goal

pub returns : goal.returns
returns c = plain_date
