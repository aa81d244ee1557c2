use Rattle.std.proofs.Common.{subst}
use Rattle.sqlite_store.specs.Opening.{FailsToOpen}
use Rattle.sqlite_store.specs.Unopened.{state_of, StopsCreating, CanCreate}
use Rattle.rtgs_book_file.proofs.small_pages.created.Goals as goal

pub returns-in-Ok-clause-made : goal.returns-in-Ok-clause-made
returns-in-Ok-clause-made g c = record {
  files = c.in-Some-over.unopened;
  held_it = c.in-Some-over.ensures.same;
  ready = c.in-Ok.ensures.ready;
  started = c.in-Ok.ensures.started;
  creates = c.in-Ok.ensures.kept;
}

pub returns-clause-more : goal.returns-clause-more
returns-clause-more g c = λ is.
    let files = c.in-Some-over.unopened in
    let left = c.in-Err.field-0-1 in
    record {
      files = files;
      left = left;
      held_it = c.in-Some-over.ensures.same;
      refused = λ clean. subst (FailsToOpen (state_of files).faults (state_of left).faults (StopsCreating left)
          (CanCreate files)) is (c.in-Err.ensures.cause clean);
    }
