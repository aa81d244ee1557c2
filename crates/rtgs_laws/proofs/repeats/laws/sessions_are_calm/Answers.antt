use Rattle.std.proofs.Common.{take}
use Rattle.rtgs_book.specs.Session.{answered, answers}
use Rattle.rtgs_laws.proofs.repeats.Lives.{found_calm}
use Rattle.rtgs_laws.proofs.repeats.laws.sessions_are_calm.Goals as goal

pub returns : goal.returns
returns c = record {
  between = λ s n sound calm is.
      let begun = c.runs_begin.ensures s.start is.last (answered s.commands s.replies) (answers s.replies) n is.run in (
        begun.0,
        begun.1,
        c.run_keeps_calm.ensures s.start begun.0 (take n (answered s.commands s.replies)) (take n (answers s.replies))
            sound calm begun.1,
      );
  found = found_calm c.step_keeps_calm.ensures c.run_keeps_soundness.ensures c.run_keeps_calm.ensures;
}
