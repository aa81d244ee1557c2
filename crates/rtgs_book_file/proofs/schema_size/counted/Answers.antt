use Rattle.std.proofs.Common.{subst}
use Rattle.sqlite_store.specs.Opening.{FailsToOpen}
use Rattle.sqlite_store.specs.Unopened.{state_of, IsFullFile, HasSomeFile}
use Rattle.rtgs_book_file.proofs.schema_size.counted.Goals as goal

pub returns-in-Err-Refused : goal.returns-in-Err-Refused
returns-in-Err-Refused g c = λ clean.
    let old = c.args.files.now in
    let new = c.read_catalog.new.self in (
      c.if-has_sums.true,
      subst (FailsToOpen (state_of old).faults (state_of new).faults (IsFullFile new)
          (HasSomeFile old)) c.in-Err-Refused.field-0-is (c.in-Err-Refused.ensures.cause clean),
    )
