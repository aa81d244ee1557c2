-- The book after a change, and its records.
use Rattle.std.proofs.Common.{List, subst}
use Rattle.std.specs.List.{AllByRecursion}
use Rattle.rtgs_book.specs.declared.book.Book.{Book}
use Rattle.rtgs_book.specs.declared.change.RowChange.{RowChange}
use Rattle.rtgs_book.specs.Changes.{IsChange}
use Rattle.rtgs_rows.specs.Content.{Content, AreInOrder, with_changes}
use Rattle.rtgs_rows.specs.Fitting.{HasFormedValues, FitsRow}
use Rattle.rtgs_rows.specs.Keeping.{AreOf, IsBookOf}
use Rattle.rtgs_rows.proofs.Formed.{formed_after}
use Rattle.rtgs_rows.proofs.Matching.{steps}
use Rattle.rtgs_rows.proofs.Ordered.{ids_after, all_in_order, order_of}
use Rattle.rtgs_rows.proofs.Stored.{balances_after}

records_after : (old new : Book) (rows : List RowChange) (content : Content) → IsBookOf old content
    → IsChange old rows new → AreOf new (with_changes content rows)
records_after old new rows content of change = subst (λ b. AreOf b (with_changes content rows)) change.leads.book
    (steps old content rows of.records)

pub in_order : (old new : Book) (rows : List RowChange) (content : Content) → IsBookOf old content
    → IsChange old rows new → AreInOrder content rows
in_order old new rows content of change = all_in_order old rows content of.ids
    (order_of new (with_changes content rows) (records_after old new rows content of change)
    (ids_after rows content of.ids) change.sound)

pub changes : (old new : Book) (rows : List RowChange) (content : Content) → IsBookOf old content
    → IsChange old rows new → AllByRecursion FitsRow rows → IsBookOf new (with_changes content rows)
changes old new rows content of change forms = record {
  records = records_after old new rows content of change;
  balances = balances_after old new content rows (records_after old new rows content of change) of.balances
      change.leads.balances change.added;
  ids = ids_after rows content of.ids;
  sound = change.sound;
  fits = subst HasFormedValues change.leads.book (formed_after rows old content forms of.fits);
}
