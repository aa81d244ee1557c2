use Rattle.std.proofs.Common.{refl}
use Rattle.rtgs_promises.proofs.Headlines.{headline}
use Rattle.rtgs_promises.proofs.program.sessions_are_the_headline.Goals as goal

pub returns : goal.returns
returns c start found sessions sound calm life = headline (record {
  run = c.life_is_a_run.ensures.run;
  stands = c.life_is_a_run.ensures.stands;
  calm = c.life_is_a_run.ensures.calm;
  resolutions = c.each_resolution_settles_the_greatest_choice.ensures.each;
  in_time = c.nothing_settles_early.ensures.sound;
}) start found _ _ sound calm (record { sessions = sessions; commands = refl; replies = refl; life = life })
