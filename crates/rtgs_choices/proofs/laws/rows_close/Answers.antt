use Rattle.rtgs_choices.specs.Closing.{closing_rows}
use Rattle.rtgs_choices.proofs.Closing.{closing, rejected, same_balance, moves_nothing, adds_nobody}
use Rattle.rtgs_choices.proofs.laws.rows_close.Goals as goal

pub returns : goal.returns
returns c = record {
  step = closing;
  leads = λ book sound. record {
    book = rejected book c.states_one_by_one.ensures.states (c.queued_are_numbered.ensures.numbers book sound);
    balances = moves_nothing book c.balance_after_restating.ensures;
  };
  balances = λ book code. same_balance book c.balance_after_restating.ensures code;
  added = λ book new. adds_nobody new (closing_rows book) book;
}
