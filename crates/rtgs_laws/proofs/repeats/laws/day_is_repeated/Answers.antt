use Rattle.std.proofs.Common.{refl}
use Rattle.rtgs_book.specs.declared.command.Command.TheVariants.{CutOff, CloseDay}
use Rattle.rtgs_book.specs.Commands.{repeated}
use Rattle.rtgs_book.specs.Outcome.{own_of}
use Rattle.rtgs_laws.proofs.repeats.Days.{opened_again, cut_off_again, closed_again}
use Rattle.rtgs_laws.proofs.repeats.Following.{own_step, quietly}
use Rattle.rtgs_laws.proofs.repeats.laws.day_is_repeated.Goals as goal

pub returns : goal.returns
returns c = record {
  opened = λ old new new_day reply accepted s. opened_again old new reply new_day accepted s;
  cut_off = λ old new date reply accepted s. quietly new (CutOff date) repeated refl
      (cut_off_again old new (own_of reply) date accepted (own_step old new (CutOff date) reply refl s));
  closed = λ old new date reply sound accepted s. quietly new (CloseDay date) repeated refl
      (closed_again old new (own_of reply) date accepted c.greatest_exists.ensures
      (c.step_keeps_soundness.ensures old new (CloseDay date) reply sound s).floors
      (own_step old new (CloseDay date) reply refl s));
}
