use Rattle.rtgs_book.specs.Laws.{KeepsWhatIsFinal}
use Rattle.rtgs_laws.proofs.Lifting.{lifted}
use Rattle.rtgs_laws.proofs.Steady.{step_stands}
use Rattle.rtgs_laws.proofs.laws.step_keeps_what_is_final.Goals as goal

pub returns : goal.returns
returns c = lifted c.own_step_keeps_soundness.ensures KeepsWhatIsFinal step_stands
    c.what_is_final_goes_through.ensures
