use Rattle.std.specs.Bool.{⊤}
use Rattle.rtgs_book.specs.declared.command.Command.{Command}
use Rattle.rtgs_lists.proofs.Lists.{all_of}
use Rattle.rtgs_laws.specs.repeats.Kept.{AreKept}
use Rattle.rtgs_laws.proofs.repeats.KeptSteps.{step_kept}
use Rattle.rtgs_laws.proofs.repeats.Runs.{over_run}
use Rattle.rtgs_laws.proofs.repeats.laws.records_are_kept.Goals as goal

pub returns : goal.returns
returns c = λ old new commands replies sound run. over_run c.step_keeps_soundness.ensures (λ command. ⊤) AreKept
    c.kept_records_go_through.ensures
    (λ one other command reply h any s. step_kept c.own_step_keeps_soundness.ensures one other command reply h s)
    old new commands replies sound (all_of (λ (command : Command). ⊤) (λ command. tt) commands) run
