use Rattle.std.proofs.Common.{◌∷◌, ◌++◌, ◌∙◌}
use Rattle.rtgs_book.specs.declared.change.RowChange.TheVariants.{AddMark}
use Rattle.rtgs_book.specs.declared.order_state.OrderState.TheVariants.{Settled}
use Rattle.rtgs_book.specs.Changes.{changed}
use Rattle.rtgs_choices.specs.Settling.{numbers_taken, state_rows, balance_rows}
use Rattle.rtgs_choices.proofs.Resolution.{resolution, mark-number, added}
use Rattle.rtgs_choices.proofs.Rows.{of_balances}
use Rattle.rtgs_choices.proofs.laws.rows_settle.Goals as goal

pub returns : goal.returns
returns c = record {
  step = resolution;
  leads = λ book choice mark sound some is. record {
    book =
        (λ i. changed book (state_rows (Settled (mark-number book choice mark is i))
        (numbers_taken book choice) ++ AddMark (is i) ∷ balance_rows book choice))
        ∙ c.states_one_by_one.ensures.settled book choice (numbers_taken book choice) (balance_rows book choice)
        (c.chosen_numbers.ensures.numbers book choice sound) some (of_balances book choice);
    balances = c.balances_one_by_one.ensures book choice (numbers_taken book choice) mark;
  };
  added = λ book new choice mark. added new book choice (numbers_taken book choice) mark;
}
