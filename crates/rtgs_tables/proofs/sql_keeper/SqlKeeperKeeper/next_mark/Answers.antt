use Rattle.std.proofs.Common.{◌≡◌, ap, ◌∙◌}
use Rattle.std.proofs.lemmas.Result.{IfOk-weaker}
use Rattle.rtgs_book.specs.declared.mark.Mark.{Mark}
use Rattle.rtgs_book.specs.cores.Nexts.{mark_after}
use Rattle.rtgs_sql_look_ups.specs.Seeking.{first_of_date}
use Rattle.rtgs_tables.specs.declared.sql_keeper.SqlKeeper.{SqlKeeper}
use Rattle.rtgs_tables.proofs.KeepingLooks.{reads_on}
use Rattle.rtgs_tables.proofs.sql_keeper.SqlKeeperKeeper.next_mark.Goals as goal

pub returns-clause-found : goal.returns-clause-found
unfolding mark_after
returns-clause-found g c clean book held =
    let same_date = ap (λ d. first_of_date (λ (m : Mark). m.number) (λ (m : Mark). m.date) d c.args.number
    book.marks) c.number.ensures.value in
    IfOk-weaker c.next_of-found.result (λ found. found ≡ first_of_date (λ (m : Mark). m.number)
    (λ (m : Mark). m.date) c.number.result c.args.number book.marks)
    (λ found. found ≡ mark_after book c.args.date c.args.number)
    (λ found is. is ∙ same_date)
    (c.next_of-found.ensures.found clean book held (c.records_are_listed.ensures.marks book held.2.sound))

pub returns-clause-reads : goal.returns-clause-reads
returns-clause-reads g c = reads_on g.S.Store (λ (k : SqlKeeper g.row.S.Denot g.S.Store). k.conn) (λ k. k.failed) _ _
    c.next_of-found.result c.next_of-found.ensures.looks c.if-self.false
    c.is_store_fault-self.ensures.yes c.is_store_fault-self.ensures.no
