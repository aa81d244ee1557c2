use Rattle.rtgs_rows.proofs.Querying.{held}
use Rattle.rtgs_rows.proofs.laws.shown_records_are_held.Goals as goal

pub returns : goal.returns
returns c version known trees book accounts sound full is fits shows stored =
    held version known trees book accounts sound full is fits shows stored
