use Rattle.rtgs_laws.proofs.repeats.Lives.{lived, lived_calm}
use Rattle.rtgs_laws.proofs.repeats.laws.life_is_a_run.Goals as goal

pub returns : goal.returns
returns c = record {
  run = lived;
  stands = λ book found sessions sound life.
      let run = lived book found sessions life in (
        c.run_keeps_soundness.ensures book found run.0 run.1 sound run.3,
        c.run_keeps_what_is_final.ensures book found
            run.0 run.1 sound run.3,
      );
  calm = lived_calm c.step_keeps_soundness.ensures c.step_keeps_calm.ensures c.run_keeps_soundness.ensures
      c.run_keeps_calm.ensures;
}
