use Rattle.rtgs_statements.proofs.Widths.{posting_row_long, order_row_long}
use Rattle.rtgs_statements.proofs.laws.rows_have_77_characters.Goals as goal

pub returns : goal.returns
returns c = record {
  postings = posting_row_long;
  orders = order_row_long;
}
