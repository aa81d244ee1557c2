use Rattle.rtgs_choices.proofs.Rows.{changed-one_by_one, balance_set-one_by_one, added-one_by_one}
use Rattle.rtgs_choices.proofs.laws.changes_one_by_one.Goals as goal

pub returns : goal.returns
returns c = record {
  book = λ row passes change book numbers kind. changed-one_by_one row passes change kind book numbers;
  balances = λ row passes change code numbers rows kind. balance_set-one_by_one row passes change kind code numbers
      rows;
  added = λ row passes change new numbers all rows kind h. added-one_by_one row passes change kind new all numbers rows
      h;
}
