use Rattle.rtgs_cli.proofs.ForRequest.{denied_for, printed_for, touched_for}
use Rattle.rtgs_cli.proofs.actions.act.Goals as goal
use Rattle.rtgs_lists.proofs.Results.{err_and}

pub returns-in-Make-clause-refused : goal.returns-in-Make-clause-refused
returns-in-Make-clause-refused g c = denied_for _ _ c.in-Make.is _ c.make_book.result.0
    (err_and c.make_book.result.0 _ _ c.make_book.ensures.refused c.make_book.ensures.unchanged)

pub returns-in-Migrate-clause-refused : goal.returns-in-Migrate-clause-refused
returns-in-Migrate-clause-refused g c = denied_for _ _ c.in-Migrate.is _ c.migrate_book.result.0
    (err_and c.migrate_book.result.0 _ _ c.migrate_book.ensures.refused c.migrate_book.ensures.unchanged)

pub returns-in-Submit-clause-printed : goal.returns-in-Submit-clause-printed
returns-in-Submit-clause-printed g c = printed_for _ _ c.in-Submit.is c.answer.result.0 _ _ c.answer.ensures.printed

pub returns-in-Submit-clause-refused : goal.returns-in-Submit-clause-refused
returns-in-Submit-clause-refused g c = denied_for _ _ c.in-Submit.is _ c.answer.result.0
    (err_and c.answer.result.0 _ _ c.answer.ensures.refused c.answer.ensures.unchanged)

pub returns-in-Import-clause-printed : goal.returns-in-Import-clause-printed
returns-in-Import-clause-printed g c = printed_for _ _ c.in-Import.is c.import.result.0 _ _ c.import.ensures.printed

pub returns-in-Import-clause-refused : goal.returns-in-Import-clause-refused
returns-in-Import-clause-refused g c = denied_for _ _ c.in-Import.is _ c.import.result.0
    (err_and c.import.result.0 _ _ c.import.ensures.refused c.import.ensures.unchanged)

pub returns-in-Read-clause-printed : goal.returns-in-Read-clause-printed
returns-in-Read-clause-printed g c = printed_for _ _ c.in-Read.is c.show.result.0 _ _ c.show.ensures.printed

pub returns-in-Read-clause-refused : goal.returns-in-Read-clause-refused
returns-in-Read-clause-refused g c = denied_for _ _ c.in-Read.is _ c.show.result.0
    c.show.ensures.refused

pub returns-in-Serve-clause-printed : goal.returns-in-Serve-clause-printed
returns-in-Serve-clause-printed g c = printed_for _ _ c.in-Serve.is c.serve.result.0 _ _ c.serve.ensures.printed

pub returns-in-Serve-clause-refused : goal.returns-in-Serve-clause-refused
returns-in-Serve-clause-refused g c = denied_for _ _ c.in-Serve.is _ c.serve.result.0
    (err_and c.serve.result.0 _ _ c.serve.ensures.refused c.serve.ensures.unchanged)

pub returns-in-Submit-clause-at : goal.returns-in-Submit-clause-at
returns-in-Submit-clause-at g c =
    touched_for _ _ c.in-Submit.is c.answer.result.0 _ _ c.answer.ensures.printed c.answer.ensures.at

pub returns-in-Import-clause-at : goal.returns-in-Import-clause-at
returns-in-Import-clause-at g c =
    touched_for _ _ c.in-Import.is c.import.result.0 _ _ c.import.ensures.printed c.import.ensures.at

pub returns-in-Read-clause-at : goal.returns-in-Read-clause-at
returns-in-Read-clause-at g c =
    touched_for _ _ c.in-Read.is c.show.result.0 _ _ c.show.ensures.printed c.show.ensures.at

pub returns-in-Serve-clause-at : goal.returns-in-Serve-clause-at
returns-in-Serve-clause-at g c =
    touched_for _ _ c.in-Serve.is c.serve.result.0 _ _ c.serve.ensures.printed c.serve.ensures.at
