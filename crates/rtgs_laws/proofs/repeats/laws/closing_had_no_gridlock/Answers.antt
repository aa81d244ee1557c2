use Rattle.std.proofs.Common.{Ok, refl}
use Rattle.rtgs_book.specs.declared.answer.Answer.TheVariants.{Closed}
use Rattle.rtgs_book.specs.declared.command.Command.TheVariants.{CloseDay}
use Rattle.rtgs_book.specs.Outcome.{alone}
use Rattle.rtgs_laws.proofs.repeats.Days.{closed_empty, closed_count}
use Rattle.rtgs_laws.proofs.repeats.Following.{own_step}
use Rattle.rtgs_laws.proofs.repeats.laws.closing_had_no_gridlock.Goals as goal

pub returns : goal.returns
returns c = record {
  choice = λ old new date count choice s greatest. closed_empty c.greatest_is_unique.ensures old new date count choice
      (own_step old new (CloseDay date) (alone (Ok (Closed count))) refl s) greatest;
  count = λ old new date count s. closed_count old new date count
      (own_step old new (CloseDay date) (alone (Ok (Closed count))) refl s);
}
