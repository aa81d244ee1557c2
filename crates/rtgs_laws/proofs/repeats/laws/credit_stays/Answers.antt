use Rattle.rtgs_book.specs.declared.command.Command.TheVariants.{SetCredit}
use Rattle.rtgs_laws.proofs.repeats.Credit.{set_again}
use Rattle.rtgs_laws.proofs.repeats.laws.credit_stays.Goals as goal

pub returns : goal.returns
returns c = λ old new code credit reply sound accepted s.
    set_again c.greatest_exists.ensures c.followed_books_are_calm.ensures old new reply code credit sound
    (c.step_keeps_soundness.ensures old new (SetCredit code credit) reply sound s) accepted s
