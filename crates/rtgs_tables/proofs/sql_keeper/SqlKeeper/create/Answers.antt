use Rattle.std.proofs.Common.{◌≡◌, ⊎_elim, sym, subst, arith}
use Rattle.sqlite.specs.State.{HasCleanDisk}
use Rattle.sqlite.specs.Tree.{Trees}
use Rattle.sqlite.specs.Held.{state}
use Rattle.rtgs_book.specs.declared.book.Book.{Book}
use Rattle.rtgs_rows.specs.Keeping.{HoldsBook, MayLeave}
use Rattle.rtgs_book.specs.Books.{new_book}
use Rattle.rtgs_tables.specs.Building.{IsBlank, IsNoneOrNew}
use Rattle.rtgs_tables.proofs.NewBook.{holds_new, leaves_new, only_new}
use Rattle.rtgs_tables.proofs.sql_keeper.SqlKeeper.create.Goals as goal

pub returns-in-Ok-clause-made : goal.returns-in-Ok-clause-made
returns-in-Ok-clause-made g c =
    subst (λ h. HasCleanDisk (state g.S.Store h) → IsBlank (state g.S.Store c.args.conn)
    → HoldsBook g.S.Store h new_book) (sym c.open.ensures.is.0)
    (λ clean blank. holds_new g.S.Store c.create_tables.new.conn c.first_rows_are_the_new_book.ensures
    (c.in-Ok.ensures.done clean blank))

pub returns-in-Ok-clause-stops : goal.returns-in-Ok-clause-stops
returns-in-Ok-clause-stops g c =
    subst (λ h. HasCleanDisk (state g.S.Store h) → IsBlank (state g.S.Store c.args.conn) → (other : Book)
    → MayLeave g.S.Store h other → other ≡ new_book) (sym c.open.ensures.is.0)
    (λ clean blank. only_new c.rows_tell_the_book.ensures c.no_tables_hold_no_book.ensures g.S.Store
    c.create_tables.new.conn c.first_rows_are_the_new_book.ensures
    (leaves_new g.S.Store c.args.conn c.create_tables.new.conn c.create_tables.ensures.crash clean blank
    (c.leaves_no_tables.ensures blank)))

pub returns-in-Err-clause-left : goal.returns-in-Err-clause-left
returns-in-Err-clause-left g c clean blank =
    let late = c.fault_of-fault.ensures.survives in
    let tables : (trees : Trees) → (state g.S.Store c.fault_of-fault.new.conn).may_leave trees → IsNoneOrNew trees
    = λ trees left. ⊎_elim
    (leaves_new g.S.Store c.args.conn c.create_tables.new.conn c.create_tables.ensures.crash (omega (arith, late.clean))
    blank (c.leaves_no_tables.ensures blank) trees) (λ none. absurd none) (late.crash clean trees left) in
    record {
      tables = tables;
      books = only_new c.rows_tell_the_book.ensures c.no_tables_hold_no_book.ensures g.S.Store c.fault_of-fault.new.conn
          c.first_rows_are_the_new_book.ensures tables;
    }
