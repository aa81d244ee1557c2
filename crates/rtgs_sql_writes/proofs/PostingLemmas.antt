-- What an INSERT of a posting does.
use Rattle.std.proofs.Common.{◌≡◌, ℕ, pos, List, [], ◌∷◌, ◌++◌, map, codes, Result, OnOk, refl, ap, subst, ◌∙◌, arith}
use Rattle.sqlite.specs.declared.types.Value.TheVariants.{Null, Int, Text}
use Rattle.sqlite.specs.declared.error.Error.{Error}
use Rattle.sqlite.specs.Order.{Row}
use Rattle.sqlite.specs.Term.{Term, lit, col}
use Rattle.sqlite.specs.Source.TheVariants.{Values}
use Rattle.sqlite.specs.Command.TheVariants.{Insert}
use Rattle.sqlite.specs.Edit.{edit_of, edited}
use Rattle.sqlite.specs.Rowids.TheVariants.{Chosen}
use Rattle.sqlite.specs.Rows.{stamped}
use Rattle.sqlite.specs.Tree.{Trees, put_row}
use Rattle.sqlite.specs.Listing.{understood}
use Rattle.sqlite.specs.Effect.{Database, value_rows}
use Rattle.sqlite.specs.State.{State, ExecutesInside}
use Rattle.sqlite.specs.Values.{bound_value}
use Rattle.sqlite_tied.specs.Compute.{everything}
use Rattle.rtgs_book.specs.declared.posting.Posting.{Posting}
use Rattle.rtgs_book.specs.declared.change.RowChange.TheVariants.{AddPosting}
use Rattle.rtgs_rows.specs.Tables.{schema_in, posting_table as table}
use Rattle.rtgs_rows.specs.Rows.{date_value, posting_row}
use Rattle.rtgs_rows.specs.Content.{rows_in, Content, IsUnderWay, IsInOrder, with_change}
use Rattle.rtgs_sql_writes.proofs.Casts.{cast_null, cast_int, cast_date, bound_date}
use Rattle.rtgs_sql_writes.specs.Building.{with_rows}
use Rattle.rtgs_sql_writes.proofs.Writing.{IsUnderstoodAs}
use Rattle.rtgs_sql_writes.proofs.Adding.{adds}

abbrev pub posting_text : List ℕ
posting_text = codes "INSERT INTO posting (number, code, reference, cents, date) VALUES (?1, ?2, ?3, ?4, ?5)"

abbrev terms : List Term
terms = col 0 0 ∷ lit Null ∷ col 0 1 ∷ col 0 2 ∷ col 0 3 ∷ col 0 4 ∷ []

posting_means : IsUnderstoodAs posting_text (Insert 2 (Values terms 6))
unfolding understood everything schema_in
posting_means = record { is = refl; plain = (refl, refl) }

abbrev params : Posting → Row
params p = Int (pos p.number) ∷ Text p.code ∷ Text p.reference ∷ Int p.cents ∷ date_value p.date ∷ []

edit : (trees : Trees) (p : Posting) → edited trees (edit_of trees table [] Chosen 0
    (value_rows (stamped table (params p)) 6 1 terms)) ≡ put_row (posting_row p) (trees table.tree)
edit trees p = rw (cast_int (pos p.number), cast_null, cast_int p.cents, cast_date p.date)

abbrev pub posting_given : Posting → Row
posting_given p = Int (pos p.number) ∷ Text p.code ∷ Text p.reference ∷ Int p.cents ∷ bound_value (date_value p.date)
    ∷ []

given_is : (p : Posting) → posting_given p ≡ params p
given_is p = ap (λ date. Int (pos p.number) ∷ Text p.code ∷ Text p.reference ∷ Int p.cents ∷ date ∷ [])
    (bound_date p.date)

pub adds_posting : (was : Database) (content : Content) (old new : State) (p : Posting) (r : Result ℕ Error)
    (values : Row) → values ≡ posting_given p → IsUnderWay was content old → IsInOrder (with_change content (AddPosting
    p))
    → ExecutesInside 0 posting_text values old new r → OnOk r (IsUnderWay was (with_change content (AddPosting p)) new)
adds_posting was content old new p r values same stands order h =
    adds posting_text 2 (omega arith) terms 6 posting_row (λ q. pos q.number) (λ _. refl) posting_means (params p) p
    (λ trees. edit trees p) was content (with_change content (AddPosting p)) content.postings old new r stands
    (ap (rows_in table) stands.holds.rows) order.postings
    (ap (with_rows table (map posting_row (content.postings ++ p ∷ []))) stands.holds.rows)
    (subst (λ all. ExecutesInside 0 posting_text all old new r) (same ∙ given_is p) h)
