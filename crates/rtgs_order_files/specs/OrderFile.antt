-- Order files: the records of a text of CSV (RFC 4180) are a header and then one order each. The header says whether
-- there is a column for due dates.
use Rattle.std.specs.Prelude.{◌≡◌, ◌≢◌, ◌≤◌, ◌+◌, ◌⊎◌, ⊤, ℕ, List, [], ◌∷◌, ◌++◌, length, map, codes, decimal}
use Rattle.std.specs.Prelude.{Option, None, Some, IfSome}
use Rattle.std.specs.List.{AllByRecursion}
use Rattle.csv.specs.Reading.{default_config, records, strip_bom}
use Rattle.rtgs_money.specs.Amounts.{IsAmount}
use Rattle.rtgs_money.specs.Date.{IsBusinessDate, date_text}
use Rattle.rtgs_money.specs.Forms.{IsCode, IsReference}
use Rattle.rtgs_order_files.specs.declared.limits.TheConstants.{MOST_ROWS}
use Rattle.rtgs_order_files.specs.declared.columns.Columns.{Columns}
use Rattle.rtgs_order_files.specs.declared.columns.Columns.TheVariants.{WithoutDue, WithDue}
use Rattle.rtgs_book.specs.declared.new_order.NewOrder.{NewOrder}
use Rattle.rtgs_order_files.specs.declared.batch_fault.BatchFault.{BatchFault}
use Rattle.rtgs_order_files.specs.declared.batch_fault.BatchFault.TheVariants.{BadHeader, BadRow, BadCount, OutOfMemory}

-- a record of CSV: the bytes of each of its fields
abbrev pub CsvFields : Type 0
CsvFields = List (List ℕ)

-- a due date is one of the calendar, and there is none where there is no column for it
abbrev pub FitsColumns : Columns → Option ℕ → Type 0
FitsColumns WithoutDue due = due ≡ None
FitsColumns WithDue due = IfSome due IsBusinessDate

-- a row's values, in their forms
abbrev pub IsRow : Columns → NewOrder → Type 0
IsRow columns row = IsReference row.reference × IsCode row.receiver × IsAmount row.amount × FitsColumns columns row.due

-- the field, if there is one
abbrev pub field_or_none : Option (List ℕ) → CsvFields
field_or_none None = []
field_or_none (Some field) = field ∷ []

-- what stands after the amount; an empty field says that there is no due date
abbrev pub due_fields : Columns → Option ℕ → CsvFields
due_fields WithoutDue due = []
due_fields WithDue None = [] ∷ []
due_fields WithDue (Some due) = date_text due ∷ []

-- the fields that spell a row
abbrev pub fields_of_row : Columns → NewOrder → CsvFields
fields_of_row columns row = row.reference ∷ row.receiver ∷ decimal row.amount ∷ due_fields columns row.due

-- These fields spell no row.
abbrev pub IsNoRow : Columns → CsvFields → Type 0
IsNoRow columns fields = (row : NewOrder) → IsRow columns row → fields ≢ fields_of_row columns row

-- The records spell these rows, and then the rest follows.
abbrev pub BeginWith : Columns → List NewOrder → List CsvFields → List CsvFields → Type 0
BeginWith columns rows rest records = (records ≡ map (fields_of_row columns) rows ++ rest)
    × AllByRecursion (IsRow columns) rows

-- The records spell these rows, and they are 1 to MOST_ROWS.
abbrev pub AreRows : Columns → List NewOrder → List CsvFields → Type 0
AreRows columns rows records = BeginWith columns rows [] records × (1 ≤ length rows) × (length rows ≤ MOST_ROWS)

-- Row r, one of the first MOST_ROWS, is the first that is none.
abbrev pub FirstBadRow : Columns → ℕ → List CsvFields → Type 0
FirstBadRow columns r records = (rows : List NewOrder) × (bad : CsvFields) × (rest : List CsvFields)
    × BeginWith columns rows (bad ∷ rest) records × IsNoRow columns bad × (r ≡ length rows + 1) × (r ≤ MOST_ROWS)

-- There is no row, or MOST_ROWS are good and there are more.
abbrev pub Miscount : Columns → List CsvFields → Type 0
Miscount columns records = (records ≡ [])
    ⊎ ((rows : List NewOrder) × (next : CsvFields) × (rest : List CsvFields)
    × BeginWith columns rows (next ∷ rest) records × (length rows ≡ MOST_ROWS))

-- Why these records, those under a header, are refused.
abbrev pub IsFaultOfRows : Columns → BatchFault → List CsvFields → Type 0
IsFaultOfRows columns BadHeader records = ⊥
IsFaultOfRows columns (BadRow row) records = FirstBadRow columns row records
IsFaultOfRows columns BadCount records = Miscount columns records
IsFaultOfRows columns OutOfMemory records = ⊤

-- the name of the column after the amount
abbrev pub due_column : Columns → CsvFields
due_column WithoutDue = []
due_column WithDue = codes "due" ∷ []

abbrev pub header : Columns → CsvFields
header columns = codes "reference" ∷ codes "to" ∷ codes "amount" ∷ due_column columns

-- the records of a text, with the usual commas and quotes, and without a byte order mark at its start
abbrev pub records_of : List ℕ → List CsvFields
records_of bytes = records default_config (strip_bom bytes)

-- The text's records are the header of these columns and these.
abbrev pub HasUnderHeader : List ℕ → Columns → List CsvFields → Type 0
HasUnderHeader bytes columns under = records_of bytes ≡ header columns ∷ under

-- The text is an order file with these rows.
abbrev pub IsOrderFile : List ℕ → List NewOrder → Type 0
IsOrderFile bytes rows =
    (columns : Columns) × (under : List CsvFields) × HasUnderHeader bytes columns under × AreRows columns rows under

-- Why the text is no order file, the first cause: another header or none, then the first bad row, or the count of rows.
-- Memory may be wanting for every text.
abbrev pub IsFaultOf : List ℕ → BatchFault → Type 0
IsFaultOf bytes BadHeader = (columns : Columns) (under : List CsvFields) → HasUnderHeader bytes columns under → ⊥
IsFaultOf bytes (BadRow row) =
    (columns : Columns) × (under : List CsvFields) × HasUnderHeader bytes columns under × FirstBadRow columns row under
IsFaultOf bytes BadCount =
    (columns : Columns) × (under : List CsvFields) × HasUnderHeader bytes columns under × Miscount columns under
IsFaultOf bytes OutOfMemory = ⊤
