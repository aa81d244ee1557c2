use Rattle.rtgs_book.specs.Laws.{KeepsWhatIsFinal}
use Rattle.rtgs_laws.proofs.Runs.{over_run}
use Rattle.rtgs_laws.proofs.laws.run_keeps_what_is_final.Goals as goal

pub returns : goal.returns
returns c = over_run c.step_keeps_soundness.ensures KeepsWhatIsFinal c.what_is_final_goes_through.ensures
    c.step_keeps_what_is_final.ensures
