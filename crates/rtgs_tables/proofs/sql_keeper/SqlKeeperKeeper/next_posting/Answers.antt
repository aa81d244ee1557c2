use Rattle.std.proofs.Common.{◌≡◌, ap, ◌∙◌}
use Rattle.std.proofs.lemmas.Result.{IfOk-weaker}
use Rattle.rtgs_book.specs.declared.posting.Posting.{Posting}
use Rattle.rtgs_book.specs.cores.Nexts.{posting_after, date_of_posting}
use Rattle.rtgs_sql_look_ups.specs.Seeking.{first_of_date}
use Rattle.rtgs_tables.specs.declared.sql_keeper.SqlKeeper.{SqlKeeper}
use Rattle.rtgs_tables.proofs.KeepingLooks.{reads_on, posting_of_date, some_date}
use Rattle.rtgs_tables.proofs.sql_keeper.SqlKeeperKeeper.next_posting.Goals as goal

pub returns-clause-found : goal.returns-clause-found
returns-clause-found g c clean book held =
    let same_date = ap (λ d. first_of_date (λ (p : Posting). p.number) date_of_posting d c.args.number
    book.postings) c.number.ensures.value in
    IfOk-weaker c.next_of-found.result (λ found. found ≡ first_of_date (λ (p : Posting). p.number)
    date_of_posting c.number.result c.args.number book.postings)
    (λ found. found ≡ posting_after book c.args.date c.args.number)
    (λ found is. is ∙ same_date
    ∙ posting_of_date book c.args.date c.args.number (some_date c.args.date c.number.ensures.in_range))
    (c.next_of-found.ensures.found clean book held (c.records_are_listed.ensures.postings book held.2.sound))

pub returns-clause-reads : goal.returns-clause-reads
returns-clause-reads g c = reads_on g.S.Store (λ (k : SqlKeeper g.row.S.Denot g.S.Store). k.conn) (λ k. k.failed) _ _
    c.next_of-found.result c.next_of-found.ensures.looks c.if-self.false
    c.is_store_fault-self.ensures.yes c.is_store_fault-self.ensures.no
