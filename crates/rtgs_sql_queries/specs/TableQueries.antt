-- What the query of a whole table is to the engine, and what it shows of a book. With the table's description this is
-- all that the reading of a table needs to know of it, apart from how a row is read.
use Rattle.std.specs.Prelude.{◌≡◌, ℕ, Bool, true, false, List, [], ◌∷◌, map, length, Ok, Err, Result}
use Rattle.std.specs.List.{AllByRecursion}
use Rattle.sqlite_value.specs.declared.keys.Key.{Key}
use Rattle.sqlite.specs.Collation.TheVariants.{Binary}
use Rattle.sqlite.specs.Command.TheVariants.{Select}
use Rattle.sqlite.specs.Order.{Row}
use Rattle.sqlite.specs.Schema.{Schema}
use Rattle.sqlite.specs.Table.{Table}
use Rattle.sqlite.specs.Term.{Term, col}
use Rattle.sqlite.specs.Tree.{Trees}
use Rattle.sqlite.specs.Query.{Query}
use Rattle.sqlite.specs.Listing.{understood, reads_listing, listing_schema}
use Rattle.sqlite.specs.Given.{IsPlain}
use Rattle.sqlite.proofs.Callers.{command_of}
use Rattle.sqlite_ast.specs.declared.Statement.{Statement}
use Rattle.sqlite_ast.specs.declared.Statement.TheVariants as written
use Rattle.sqlite_schema.specs.Names.{place_of}
use Rattle.sqlite_schema.specs.declared.program.Program.{Program}
use Rattle.sqlite_syntax.specs.declared.statement.Parsed.{Parsed}
use Rattle.sqlite_typing.specs.Types.{accepts_program}
use Rattle.sqlite_resolve.specs.declared.compiled.Compiled.{Compiled}
use Rattle.sqlite_resolve.specs.declared.error.CompileError.{CompileError}
use Rattle.sqlite_resolve.specs.declared.error.CompileError.TheVariants.{NoSuchTable}
use Rattle.sqlite_resolve.specs.Lowering.{Checked}
use Rattle.sqlite_resolve.specs.Compile.{first, compiled}
use Rattle.rtgs_book.specs.declared.book.Book.{Book}
use Rattle.rtgs_book.specs.declared.account.Account.{Account}
use Rattle.rtgs_rows.specs.Tables.{desk_schema, places, schema_in, versions_of, HasTable}
use Rattle.rtgs_rows.specs.TableRecords.{TableRecords}
use Rattle.rtgs_rows.specs.Content.{Content, tables_of_in, tables_for_in}
use Rattle.rtgs_rows.specs.Querying.{ShowsTable}
use Rattle.rtgs_sql_queries.specs.Records.{AreRead}
use Rattle.rtgs_sql_columns.specs.OneTable.{simple, Sorts}
use Rattle.rtgs_sql_columns.specs.Tables.{column_names, query_text}

-- ---- what such a text is to the engine

abbrev pub is_selection : Statement → Bool
is_selection (written.Select s) = true
is_selection _ = false

-- the text is one query, without parameters, which reads no time
abbrev pub IsQueryText : List ℕ → Checked Parsed → Type 0
IsQueryText text (Ok p) = (is_selection p.statement ≡ true) × (p.names ≡ []) × (p.formats ≡ []) × (p.tail ≡ length text)
IsQueryText text (Err e) = ⊥

abbrev pub tail_of : Result Compiled CompileError → ℕ
tail_of (Ok c) = c.tail
tail_of (Err e) = 0

abbrev pub count_of : Result Compiled CompileError → ℕ
count_of (Ok c) = length c.names
count_of (Err e) = 0

-- the text is one query over this schema, with this many parameters
pub record IsOneQuery (schema : Schema) (sql : List ℕ) (count : ℕ) (q : Program) (names : List (List ℕ)) : Type 0 where
  pub command : command_of (understood schema sql) ≡ Select q names
  pub plain : IsPlain (understood schema sql)
  pub whole : tail_of (understood schema sql) ≡ length sql
  pub given : count_of (understood schema sql) ≡ count

abbrev pub shown_columns : List ℕ → List Term
shown_columns = map (col 1)

-- what the query shows of a row
abbrev pub columns_of : Table → List Term
columns_of t = shown_columns (places t)

-- sorted by one column, upward
abbrev pub rising_by : ℕ → List (Term × Key)
rising_by place = (col 1 place, record { collation = Binary; descending = false }) ∷ []

-- the columns that are named, of all rows of the table, sorted by the first of them
abbrev pub whole_table : Table → Query
whole_table t = simple t.tree [] (columns_of t) (rising_by (place_of t 0))

-- the rows are those of the table, as that query shows and sorts them
abbrev pub ShowsSorted : Table → Trees → List Row → Type 0
ShowsSorted t trees rows = ShowsTable t trees rows × Sorts (whole_table t) [] (trees t.tree) rows

-- over this schema the text is that query
pub record AsksTable (t : Table) (schema : Schema) : Type 0 where
  pub asks : IsOneQuery schema (query_text t) 0 (record { lets = []; body = whole_table t }) (column_names t)
  pub typed : accepts_program schema [] (whole_table t) [] ≡ true
  pub unlisted : reads_listing schema (query_text t) ≡ false

-- the text is that query: it is so over each version of the tables that has this one; and over any schema it is some
-- query
pub record IsTableQuery (t : Table) : Type 0 where
  pub asks : AllByRecursion (λ version. AsksTable t (schema_in version)) (versions_of t)
  pub query : IsQueryText (query_text t) (first (query_text t))
  pub foreign : compiled listing_schema (query_text t) ≡ Err NoSuchTable

-- ---- a query with parameters

-- the text is this query, with this many parameters
pub record Seeks (text : List ℕ) (count : ℕ) (query : Query) (names : List (List ℕ)) : Type 0 where
  pub asks : IsOneQuery desk_schema text count (record { lets = []; body = query }) names
  pub unlisted : reads_listing desk_schema text ≡ false

-- ---- what it shows of a book

-- Where the tables of a version have records, each of those that a book has of the table is in its form and range, and
-- the rows that the query shows are theirs, in their order.
pub record ShowsOwn {A : Type 0} (records : TableRecords A) : Type 0 where
  pub fit : (version : ℕ) (content : Content) (accounts : List Account) (book : Book) → AreRead content accounts book
      → AllByRecursion records.fits (records.of_book version accounts book)
  pub rows : (version : ℕ) → HasTable version records.table → (content : Content) (accounts : List Account)
      (book : Book) → AreRead content accounts book → (trees : Trees)
      → tables_of_in version trees ≡ tables_for_in version content → (rows : List Row)
      → Sorts (whole_table records.table) [] (trees records.table.tree) rows
      → rows ≡ map records.shown (records.of_book version accounts book)
