use Rattle.std.proofs.Common.{sym}
use Rattle.rtgs_book_file.proofs.closed_files.ClosedFiles.of.Goals as goal

pub returns-in-Ok : goal.returns-in-Ok
returns-in-Ok g c =
    let ok = c.in-Ok.ensures.ok in
    record { no_more = (ok.0, ok.2, ok.1); copied = λ _. c.in-Ok.ensures.copied; excused = tt }

pub returns-in-Err : goal.returns-in-Err
returns-in-Err g c =
    let err = c.in-Err.ensures.err in
    let given = sym c.close.ensures in
    record {
      no_more = (c.in-Err.store, err.0, given);
      copied = λ none. absurd (cc);
      excused = (c.in-Err.store, given, err.1);
    }
