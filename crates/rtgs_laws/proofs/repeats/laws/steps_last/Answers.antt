use Rattle.std.proofs.Common.{◌≡◌, true, Ok, refl, subst}
use Rattle.rtgs_book.specs.declared.answer.Answer.TheVariants.{Closed}
use Rattle.rtgs_book.specs.declared.command.Command.{Command}
use Rattle.rtgs_book.specs.declared.command.Command.TheVariants.{Add, SetCredit, Post, OpenDay, Order, Withdraw}
use Rattle.rtgs_book.specs.declared.command.Command.TheVariants.{Resolve, CutOff, CloseDay}
use Rattle.rtgs_book.specs.Run.{is_accepted}
use Rattle.rtgs_book.specs.Step.{OwnStep, Step}
use Rattle.rtgs_laws.specs.repeats.Lasting.{StaysAtOnce}
use Rattle.rtgs_laws.proofs.repeats.Following.{own_step, alone_step}
use Rattle.rtgs_laws.proofs.repeats.laws.steps_last.Goals as goal

pub returns : goal.returns
returns c old new command reply sound step = record {
  stands = c.step_keeps_what_is_final.ensures old new command reply sound step;
  money = c.total_moves_by_postings.ensures old new command reply sound step;
  known = λ acts accepted commands replies later run. c.acted_is_repeated.ensures old new later command reply commands
      replies sound acts accepted step run;
  at_once = λ accepted. at_once command accepted step;
  deadlock = λ date count is_close is_closed choice greatest. c.closing_had_no_gridlock.ensures.choice old new date
      count choice (alone_step old new (CloseDay date) (Ok (Closed count)) refl
      (subst (λ r. OwnStep old (CloseDay date) r new) is_closed
      (own_step old new (CloseDay date) reply refl (subst (λ k. Step old k reply new) is_close step)))) greatest;
  calm = λ calm. c.step_keeps_calm.ensures old new command reply sound calm step;
}
  where
    at_once : (command : Command) → is_accepted reply ≡ true → Step old command reply new → StaysAtOnce new command
    at_once (SetCredit code credit) accepted step = c.credit_stays.ensures old new code credit reply sound accepted step
    at_once (OpenDay new_day) accepted step = c.day_is_repeated.ensures.opened old new new_day reply
        accepted step
    at_once Resolve accepted step = c.resolved_leaves_nothing.ensures old new reply sound accepted step
    at_once (CutOff date) accepted step = c.day_is_repeated.ensures.cut_off old new date reply accepted step
    at_once (CloseDay date) accepted step = c.day_is_repeated.ensures.closed old new date reply sound accepted step
    at_once (Add code name key) accepted step = tt
    at_once (Post code reference cents) accepted step = tt
    at_once (Order sender new_order) accepted step = tt
    at_once (Withdraw sender reference) accepted step = tt
