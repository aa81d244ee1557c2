use Rattle.rtgs_laws.proofs.repeats.Posted.{moved_by}
use Rattle.rtgs_laws.proofs.repeats.laws.runs_last.Goals as goal

pub returns : goal.returns
returns c old new commands replies sound run = record {
  stands = c.run_keeps_what_is_final.ensures old new commands replies sound run;
  money = moved_by c.step_keeps_soundness.ensures c.total_moves_by_postings.ensures old new commands replies sound run;
  once = c.once_ends_alike.ensures old new commands replies sound run;
  calm = λ calm. c.run_keeps_calm.ensures old new commands replies sound calm run;
}
