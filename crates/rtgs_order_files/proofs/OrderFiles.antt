-- What records under a header spell, and that they spell it alone.
use Rattle.std.proofs.Common.{◌≡◌, ◌≢◌, ◌≤◌, ◌+◌, ◌⊎◌, ℕ, List, [], ◌∷◌, ◌++◌, length, map, decimal, Option}
use Rattle.std.proofs.Common.{Result, Ok, Err, IfOk, IfErr, refl, sym, ap, subst, ◌∙◌, inl, inr, arith, append_assoc}
use Rattle.std.specs.List.{AllByRecursion}
use Rattle.std.proofs.lemmas.Fmt.{decimal_injective}
use Rattle.std.proofs.lemmas.List.{append-nil, length-append, length-map, map-append}
use Rattle.rtgs_order_files.specs.declared.columns.Columns.{Columns}
use Rattle.rtgs_order_files.specs.declared.columns.Columns.TheVariants.{WithoutDue, WithDue}
use Rattle.rtgs_book.specs.declared.new_order.NewOrder.{NewOrder}
use Rattle.rtgs_order_files.specs.declared.batch_fault.BatchFault.{BatchFault}
use Rattle.rtgs_order_files.specs.declared.batch_fault.BatchFault.TheVariants.{BadHeader, BadRow, BadCount, OutOfMemory}
use Rattle.rtgs_order_files.specs.OrderFile.{CsvFields, HasUnderHeader, IsFaultOf, IsOrderFile, IsRow, IsNoRow}
use Rattle.rtgs_order_files.specs.OrderFile.{BeginWith, AreRows, FirstBadRow, Miscount, IsFaultOfRows, fields_of_row}
use Rattle.rtgs_order_files.specs.OrderFile.{header, records_of}
use Rattle.rtgs_order_files.proofs.DueFields.{DatesDiffer, same_due}

-- ---- one row more

all_more : (columns : Columns) (rows : List NewOrder) (row : NewOrder) → AllByRecursion (IsRow columns) rows
    → IsRow columns row → AllByRecursion (IsRow columns) (rows ++ row ∷ [])
all_more columns [] row h g = (g, tt)
all_more columns (r ∷ rows) row h g = (h.0, all_more columns rows row h.1 g)

pub begin_more : (columns : Columns) (rows : List NewOrder) (row : NewOrder) (fields : CsvFields)
    (left rest records : List CsvFields)
    → BeginWith columns rows left records → left ≡ fields ∷ rest → fields ≡ fields_of_row columns row
    → IsRow columns row → BeginWith columns (rows ++ row ∷ []) rest records
begin_more columns rows row fields left rest records b e f good = (
  b.0 ∙ rw (e, f, map-append, append_assoc) refl,
  all_more columns rows row b.1 good,
)

pub no_rows : (columns : Columns) (rows : List NewOrder) (records : List CsvFields) → BeginWith columns rows [] records
    → length rows ≡ 0 → records ≡ []
no_rows columns [] records b e = b.0
no_rows columns (r ∷ rows) records b e = absurd (omega arith)

-- ---- fields spell one row alone

row_of : List ℕ → List ℕ → ℕ → Option ℕ → NewOrder
row_of reference receiver amount due =
    record { reference = reference; receiver = receiver; amount = amount; due = due }

same_row : DatesDiffer → (columns : Columns) (a b : NewOrder) → IsRow columns a → IsRow columns b
    → fields_of_row columns a ≡ fields_of_row columns b → a ≡ b
unfolding row_of
same_row differ columns a b ga gb e =
    let spelled : decimal a.amount ≡ decimal b.amount = cc in
    let amount = decimal_injective a.amount b.amount (omega arith) (omega arith) spelled in
    let due = same_due differ columns a.due b.due ga.3 gb.3 (cc e) in
    ap (λ (x : List ℕ). row_of x a.receiver a.amount a.due) (cc e)
    ∙ ap (λ (x : List ℕ). row_of b.reference x a.amount a.due) (cc e)
    ∙ ap (λ (x : ℕ). row_of b.reference b.receiver x a.due) amount
    ∙ ap (λ (x : Option ℕ). row_of b.reference b.receiver b.amount x) due

same_rows : DatesDiffer → (columns : Columns) (a b : List NewOrder) → AllByRecursion (IsRow columns) a
    → AllByRecursion (IsRow columns) b → map (fields_of_row columns) a ≡ map (fields_of_row columns) b → a ≡ b
same_rows differ columns [] [] ga gb e = refl
same_rows differ columns [] (y ∷ b) ga gb e = cc e
same_rows differ columns (x ∷ a) [] ga gb e = cc e
same_rows differ columns (x ∷ a) (y ∷ b) ga gb e =
    let first = same_row differ columns x y ga.0 gb.0 (cc e) in
    let rest = same_rows differ columns a b ga.1 gb.1 (cc e) in
    cc

-- rows end before fields that spell none
ends_before : (columns : Columns) (a b : List NewOrder) (bad : CsvFields) (rest left : List CsvFields)
    → map (fields_of_row columns) a ++ bad ∷ rest ≡ map (fields_of_row columns) b ++ left → IsNoRow columns bad
    → AllByRecursion (IsRow columns) b → length b ≤ length a
ends_before columns a [] bad rest left e none good = omega arith
ends_before columns [] (y ∷ b) bad rest left e none good = absurd (none y good.0 (cc e))
ends_before columns (x ∷ a) (y ∷ b) bad rest left e none good =
    let h = ends_before columns a b bad rest left (cc e) none good.1 in
    omega arith

-- how many records there are
counted : (columns : Columns) (rows : List NewOrder) (rest records : List CsvFields)
    → BeginWith columns rows rest records → length records ≡ length rows + length rest
counted columns rows rest records b = rw (b.0, length-append, length-map) refl

-- ---- the answers exclude one another

rows_once : DatesDiffer → (columns : Columns) (a b : List NewOrder) (records : List CsvFields)
    → AreRows columns a records → AreRows columns b records → a ≡ b
rows_once differ columns a b records ha hb = same_rows differ columns a b ha.0.1 hb.0.1
    (rw (append-nil, append-nil) at (sym ha.0.0 ∙ hb.0.0))

first_bad_once : (columns : Columns) (r q : ℕ) (records : List CsvFields) → FirstBadRow columns r records
    → FirstBadRow columns q records → r ≡ q
first_bad_once columns r q records (a, bad, rest, ha, nothing, er, few) (b, worse, left, hb, none, eq, small) =
    let up = ends_before columns a b bad rest (worse ∷ left) (sym ha.0 ∙ hb.0) nothing hb.1 in
    let down = ends_before columns b a worse left (bad ∷ rest) (sym hb.0 ∙ ha.0) none ha.1 in
    omega arith

bad_or_miscount : (columns : Columns) (r : ℕ) (records : List CsvFields) → FirstBadRow columns r records
    → Miscount columns records → ⊥
bad_or_miscount columns r records (a, bad, rest, ha, nothing, er, few) (inl empty) =
    let n = counted columns a (bad ∷ rest) records ha in
    let none : length records ≡ 0 = ap length empty in
    omega arith
bad_or_miscount columns r records (a, bad, rest, ha, nothing, er, few) (inr (b, next, left, hb, full)) =
    let up = ends_before columns a b bad rest (next ∷ left) (sym ha.0 ∙ hb.0) nothing hb.1 in
    omega arith

faults_once : (columns : Columns) (a b : BatchFault) (records : List CsvFields) → IsFaultOfRows columns a records
    → IsFaultOfRows columns b records → a ≢ OutOfMemory → b ≢ OutOfMemory → a ≡ b
faults_once columns a OutOfMemory records ha hb na nb = absurd (nb refl)
faults_once columns OutOfMemory b records ha hb na nb = absurd (na refl)
faults_once columns BadHeader b records ha hb na nb = absurd ha
faults_once columns a BadHeader records ha hb na nb = absurd hb
faults_once columns (BadRow r) (BadRow q) records ha hb na nb = ap BadRow (first_bad_once columns r q records ha hb)
faults_once columns (BadRow r) BadCount records ha hb na nb = absurd (bad_or_miscount columns r records ha hb)
faults_once columns BadCount (BadRow q) records ha hb na nb = absurd (bad_or_miscount columns q records hb ha)
faults_once columns BadCount BadCount records ha hb na nb = refl

no_fault : (columns : Columns) (rows : List NewOrder) (fault : BatchFault) (records : List CsvFields)
    → AreRows columns rows records → IsFaultOfRows columns fault records → fault ≡ OutOfMemory
no_fault columns rows OutOfMemory records h f = refl
no_fault columns rows BadHeader records h f = absurd f
no_fault columns rows (BadRow r) records h (a, bad, rest, ha, nothing, er, few) =
    let up = ends_before columns a rows bad rest [] (sym ha.0 ∙ h.0.0) nothing h.0.1 in
    let n = counted columns a (bad ∷ rest) records ha in
    let m = counted columns rows [] records h.0 in
    absurd (omega arith)
no_fault columns rows BadCount records h (inl empty) =
    let n = counted columns rows [] records h.0 in
    let none : length records ≡ 0 = ap length empty in
    absurd (omega arith)
no_fault columns rows BadCount records h (inr (b, next, left, hb, full)) =
    let n = counted columns rows [] records h.0 in
    let m = counted columns b (next ∷ left) records hb in
    absurd (omega arith)

-- ---- the same of a text

-- a header names its columns
columns_once : (a b : Columns) (u v : List CsvFields) → header a ∷ u ≡ header b ∷ v → a ≡ b
columns_once WithoutDue WithoutDue u v e = refl
columns_once WithoutDue WithDue u v e = let no : ⊥ = cc e in absurd no
columns_once WithDue WithoutDue u v e = let no : ⊥ = cc e in absurd no
columns_once WithDue WithDue u v e = refl

-- what holds of the records under a header holds of them under each
under_once : (P : Columns → List CsvFields → Type 0) (bytes : List ℕ) (a b : Columns) (u v : List CsvFields)
    → HasUnderHeader bytes a u → HasUnderHeader bytes b v → P b v → P a u
under_once P bytes a b u v ha hb p =
    let same : header a ∷ u ≡ header b ∷ v = sym ha ∙ hb in
    let under : u ≡ v = cc same in
    subst (λ c. P c u) (sym (columns_once a b u v same)) (subst (λ w. P b w) (sym under) p)

of_rows : (bytes : List ℕ) (columns : Columns) (under : List CsvFields) (fault : BatchFault)
    → HasUnderHeader bytes columns under → IsFaultOf bytes fault → IsFaultOfRows columns fault under
of_rows bytes columns under BadHeader h f = absurd (f columns under h)
of_rows bytes columns under (BadRow r) h (other, records, g, f) =
    under_once (λ c u. FirstBadRow c r u) bytes columns other under records h g f
of_rows bytes columns under BadCount h (other, records, g, f) =
    under_once (λ c u. Miscount c u) bytes columns other under records h g f
of_rows bytes columns under OutOfMemory h f = tt

of_text : (bytes : List ℕ) (columns : Columns) (under : List CsvFields) (fault : BatchFault)
    → HasUnderHeader bytes columns under → IsFaultOfRows columns fault under → IsFaultOf bytes fault
of_text bytes columns under BadHeader h f = absurd f
of_text bytes columns under (BadRow r) h f = (columns, under, h, f)
of_text bytes columns under BadCount h f = (columns, under, h, f)
of_text bytes columns under OutOfMemory h f = tt

pub one_file : DatesDiffer → (bytes : List ℕ) (a b : List NewOrder) → IsOrderFile bytes a → IsOrderFile bytes b → a ≡ b
one_file differ bytes a b (columns, under, h, good) (other, records, g, file) = rows_once differ columns a b under good
    (under_once (λ c u. AreRows c b u) bytes columns other under records h g file)

pub file_or_fault : (bytes : List ℕ) (rows : List NewOrder) (fault : BatchFault) → IsOrderFile bytes rows
    → IsFaultOf bytes fault → fault ≡ OutOfMemory
file_or_fault bytes rows fault (columns, under, h, file) f =
    no_fault columns rows fault under file (of_rows bytes columns under fault h f)

pub one_fault : (bytes : List ℕ) (a b : BatchFault) → IsFaultOf bytes a → IsFaultOf bytes b → a ≢ OutOfMemory
    → b ≢ OutOfMemory → a ≡ b
one_fault bytes OutOfMemory b fa fb na nb = absurd (na refl)
one_fault bytes (BadRow r) b (columns, under, h, f) fb na nb =
    faults_once columns (BadRow r) b under f (of_rows bytes columns under b h fb) na nb
one_fault bytes BadCount b (columns, under, h, f) fb na nb =
    faults_once columns BadCount b under f (of_rows bytes columns under b h fb) na nb
one_fault bytes BadHeader BadHeader fa fb na nb = refl
one_fault bytes BadHeader (BadRow q) fa (columns, under, h, f) na nb = absurd (fa columns under h)
one_fault bytes BadHeader BadCount fa (columns, under, h, f) na nb = absurd (fa columns under h)
one_fault bytes BadHeader OutOfMemory fa fb na nb = absurd (nb refl)

-- what a read answers, whose rows are seen by `items`
pub of_under : {V : Type 0} (items : V → List NewOrder) (bytes : List ℕ) (columns : Columns) (under : List CsvFields)
    (result : Result V BatchFault) → HasUnderHeader bytes columns under
    → IfOk result (λ v. AreRows columns (items v) under) → IfErr result (λ fault. IsFaultOfRows columns fault under)
    → IfOk result (λ v. IsOrderFile bytes (items v)) × IfErr result (λ fault. IsFaultOf bytes fault)
of_under items bytes columns under (Ok v) h o f = ((columns, under, h, o), tt)
of_under items bytes columns under (Err fault) h o f = (tt, of_text bytes columns under fault h f)

pub taken : {V : Type 0} → DatesDiffer → (items : V → List NewOrder) (bytes : List ℕ) (result : Result V BatchFault)
    → IfOk result (λ v. IsOrderFile bytes (items v)) → IfErr result (λ fault. IsFaultOf bytes fault)
    → (rows : List NewOrder) → IsOrderFile bytes rows → IfOk result (λ v. items v ≡ rows)
    × IfErr result (λ fault. fault ≡ OutOfMemory)
taken differ items bytes (Ok v) o f rows file = (one_file differ bytes (items v) rows o file, tt)
taken differ items bytes (Err fault) o f rows file = (tt, file_or_fault bytes rows fault file f)

pub refused : {V : Type 0} (items : V → List NewOrder) (bytes : List ℕ) (result : Result V BatchFault)
    → IfOk result (λ v. IsOrderFile bytes (items v)) → IfErr result (λ fault. IsFaultOf bytes fault)
    → (fault : BatchFault) → IsFaultOf bytes fault → fault ≢ OutOfMemory
    → (result ≡ Err fault) ⊎ (result ≡ Err OutOfMemory)
refused items bytes (Ok v) o f fault is other = absurd (other (file_or_fault bytes (items v) fault o is))
refused items bytes (Err OutOfMemory) o f fault is other = inr refl
refused items bytes (Err BadHeader) o f fault is other = inl
    (ap (λ (b : BatchFault). Err b) (one_fault bytes BadHeader fault f is (λ e. cc e) other))
refused items bytes (Err (BadRow r)) o f fault is other = inl
    (ap (λ (b : BatchFault). Err b) (one_fault bytes (BadRow r) fault f is (λ e. cc e) other))
refused items bytes (Err BadCount) o f fault is other = inl (ap (λ (b : BatchFault). Err b)
    (one_fault bytes BadCount fault f is (λ e. cc e) other))

-- the answer of a read that found no header
pub fault_at_once : {V : Type 0} (bytes : List ℕ) (read : List CsvFields) (given : BatchFault)
    (result : Result V BatchFault) → read ≡ records_of bytes → result ≡ Err given
    → (given ≡ OutOfMemory)
    ⊎ ((given ≡ BadHeader) × ((columns : Columns) (under : List CsvFields) → read ≢ header columns ∷ under))
    → IfErr result (λ fault. IsFaultOf bytes fault)
fault_at_once bytes read given result start is (inl e) = rw (is, e) tt
fault_at_once bytes read given result start is (inr (e, none)) =
    rw (is, e) (λ columns under h. none columns under (start ∙ h))

pub refused_at_once : {V : Type 0} (bytes : List ℕ) (read : List CsvFields) (given : BatchFault)
    (result : Result V BatchFault) → read ≡ records_of bytes → result ≡ Err given
    → (given ≡ OutOfMemory)
    ⊎ ((given ≡ BadHeader) × ((columns : Columns) (under : List CsvFields) → read ≢ header columns ∷ under))
    → (fault : BatchFault) → IsFaultOf bytes fault → fault ≢ OutOfMemory
    → (result ≡ Err fault) ⊎ (result ≡ Err OutOfMemory)
refused_at_once bytes read given result start is (inl e) fault f other = inr (is ∙ ap (λ (b : BatchFault). Err b) e)
refused_at_once bytes read given result start is (inr (e, none)) fault f other =
    inl (is ∙ ap (λ (b : BatchFault). Err b) (e ∙ one_fault bytes BadHeader fault
    (λ columns under h. none columns under (start ∙ h)) f
    (λ e. cc e) other))
