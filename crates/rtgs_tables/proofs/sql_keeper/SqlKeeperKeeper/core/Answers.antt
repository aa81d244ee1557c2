use Rattle.std.proofs.Common.{◌≡◌, ◌⊎◌, subst}
use Rattle.rtgs_book.specs.declared.book.Book.{Book}
use Rattle.rtgs_book.specs.declared.fault.Fault.{Fault}
use Rattle.rtgs_book.specs.declared.fault.Fault.TheVariants.{OutOfMemory, StoreFault}
use Rattle.rtgs_book.specs.cores.Cores.{IsCoreOf}
use Rattle.rtgs_tables.proofs.Judging.{passed_on}
use Rattle.rtgs_tables.proofs.sql_keeper.SqlKeeperKeeper.core.Goals as goal

pub returns-in_err-book-clause-accepted : goal.returns-in_err-book-clause-accepted
returns-in_err-book-clause-accepted g c clean book holds =
    passed_on (λ (fault : Fault). (fault ≡ OutOfMemory) ⊎ (fault ≡ StoreFault)) c.load.result _ c.from_residual.result
    c.in_err-book.was c.from_residual.ensures.1 ((c.load.ensures.answers clean).accepted book holds)

pub returns-clause-given : goal.returns-clause-given
returns-clause-given g c clean book holds =
    let it = c.in_ok-book.ensures in
    subst (λ (b : Book). IsCoreOf b c.in_ok-core_of.field-0) ((it.answers clean).given book holds)
    (record { sound = it.sound; fits = it.fits; is = c.in_ok-core_of.ensures })
