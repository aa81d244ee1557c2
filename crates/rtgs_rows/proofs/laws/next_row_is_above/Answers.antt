use Rattle.rtgs_rows.proofs.NextRow.{all_below}
use Rattle.rtgs_rows.proofs.laws.next_row_is_above.Goals as goal

pub returns : goal.returns
returns c holdings rise = all_below holdings rise
