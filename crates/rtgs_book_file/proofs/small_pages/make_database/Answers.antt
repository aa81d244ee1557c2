use Rattle.std.proofs.Common.{ℕ, Bool, cond, List, ap₂, inl}
use Rattle.sqlite.specs.Recovery.{Image}
use Rattle.sqlite_disk.specs.Events.{Event, replay}
use Rattle.rtgs_book_file.proofs.Starting.{started_of}
use Rattle.rtgs_book_file.proofs.small_pages.make_database.Goals as goal

abbrev image : List ℕ → List ℕ → Image
image log db = record { log = log; db = db }

abbrev seen : List ℕ → List ℕ → Bool → List Event → List ℕ
seen log db is_log history = (replay (cond is_log log db) history).seen

pub returns-in-Ok-clause-started : goal.returns-in-Ok-clause-started
returns-in-Ok-clause-started g c =
    let alike = seen g.S.Start.log g.S.Start.db in
    let log = c.in-Ok.ensures.fresh.0 in
    let db = c.in-Ok.ensures.fresh.1 in
    started_of _ c.in-Ok.files _ c.make_in.result (ap₂ image (ap₂ alike log.0 log.1) (ap₂ alike db.0 db.1))
    c.make_in.ensures.started

pub returns-in-Err-clause-refused : goal.returns-in-Err-clause-refused
returns-in-Err-clause-refused g c = inl (c.in-Err.error, c.of_path.ensures)
