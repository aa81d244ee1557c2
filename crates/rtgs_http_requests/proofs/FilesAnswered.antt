-- A body is an order file or has a fault.
use Rattle.std.proofs.Common.{◌≡◌, ◌⊎◌, inl, inr, ◌≤◌, ◌<◌, ◌+◌, ℕ, zero, suc, List, [], ◌∷◌, length, Ok, Err, refl, ap}
use Rattle.std.proofs.Common.{◌∙◌, arith, Global}
use Rattle.std.specs.Prelude.{◌≢◌}
use Rattle.std.specs.Global.{Vec}
use denote.RawPtr.{null_ptr}
use Rattle.rtgs_order_files.specs.OrderFile.{BeginWith, CsvFields, HasUnderHeader, IsFaultOf, IsNoRow, IsOrderFile}
use Rattle.rtgs_order_files.specs.OrderFile.{IsRow, fields_of_row}
use Rattle.rtgs_order_files.specs.declared.columns.Columns.{Columns}
use Rattle.rtgs_order_files.specs.declared.batch_fault.BatchFault.{BatchFault}
use Rattle.rtgs_order_files.specs.declared.batch_fault.BatchFault.TheVariants as batch
use Rattle.rtgs_order_files.specs.declared.limits.TheConstants.{MOST_ROWS}
use Rattle.rtgs_book.specs.declared.new_order.NewOrder.{NewOrder}
use Rattle.rtgs_http_requests.specs.Meaning.{AsksBatch}
use Rattle.rtgs_http_requests.specs.Steps.{HasAnswer}
use Rattle.rtgs_http_requests.specs.declared.asked.Asked.TheVariants.{Batch}
use Rattle.rtgs_http_requests.specs.declared.http_fault.HttpFault.TheVariants as fault

-- all records spell rows, and there are at most this many
abbrev AllRows : Columns → ℕ → List CsvFields → Type 0
AllRows columns n records = (rows : List NewOrder) × BeginWith columns rows [] records × (length rows ≤ n)

-- one of the first N is the first that spells none
abbrev BadAmong : Columns → ℕ → List CsvFields → Type 0
BadAmong columns n records = (rows : List NewOrder) × (bad : CsvFields) × (rest : List CsvFields)
    × BeginWith columns rows (bad ∷ rest) records × IsNoRow columns bad × (length rows < n)

-- the first N spell rows, and there are more
abbrev MoreThan : Columns → ℕ → List CsvFields → Type 0
MoreThan columns n records = (rows : List NewOrder) × (next : CsvFields) × (rest : List CsvFields)
    × BeginWith columns rows (next ∷ rest) records × (length rows ≡ n)

abbrev Judged : Columns → ℕ → List CsvFields → Type 0
Judged columns n records = AllRows columns n records ⊎ (BadAmong columns n records ⊎ MoreThan columns n records)

-- a row before the others
begun : (columns : Columns) (row : NewOrder) (fields : CsvFields) (rows : List NewOrder) (rest records : List CsvFields)
    → IsRow columns row → fields ≡ fields_of_row columns row
    → BeginWith columns rows rest records → BeginWith columns (row ∷ rows) rest (fields ∷ records)
begun columns row fields rows rest records is e x =
    (ap (λ f. f ∷ records) e ∙ ap (λ r. fields_of_row columns row ∷ r) x.0, (is, x.1))

grown : (columns : Columns) (n : ℕ) (row : NewOrder) (fields : CsvFields) (records : List CsvFields)
    → IsRow columns row → fields ≡ fields_of_row columns row
    → Judged columns n records → Judged columns (suc n) (fields ∷ records)
grown columns n row fields records is e (inl x) =
    inl (row ∷ x.0, begun columns row fields x.0 [] records is e x.1, omega (arith, x.2))
grown columns n row fields records is e (inr (inl x)) =
    inr (inl (row ∷ x.0, x.1, x.2, begun columns row fields x.0 (x.1 ∷ x.2) records is e x.3, x.4, omega (arith, x.5)))
grown columns n row fields records is e (inr (inr x)) =
    inr (inr (row ∷ x.0, x.1, x.2, begun columns row fields x.0 (x.1 ∷ x.2) records is e x.3, omega (arith, x.4)))

judged : (columns : Columns) (n : ℕ) (records : List CsvFields) → ¬ (¬ Judged columns n records)
judged columns n [] none = none (inl ([], (refl, tt), omega arith))
judged columns zero (next ∷ rest) none = none (inr (inr ([], next, rest, (refl, tt), refl)))
judged columns (suc n) (fields ∷ rest) none =
    let bad : IsNoRow columns fields → ⊥ = λ no. none (inr (inl ([], fields, rest, (refl, tt), no, omega arith))) in
    bad (λ row is e. judged columns n rest (λ x. none (grown columns n row fields rest is e x)))

-- rows, in memory
kept : Global → (rows : List NewOrder) → length rows ≤ MOST_ROWS → Vec NewOrder
kept alloc rows few =
    record {
      ptr = null_ptr;
      len = length rows;
      cap = length rows;
      alloc = alloc;
      items = rows;
      ok = (refl, omega arith);
      small = omega (arith, few);
    }

pub file_answered : Global → (caller body : List ℕ) → HasAnswer (AsksBatch caller body)
unfolding kept
file_answered alloc caller body none = no_fault batch.BadHeader (λ e. cc) by_header
  where
    no_fault : (bad : BatchFault) → bad ≢ batch.OutOfMemory → ¬ IsFaultOf body bad
    no_fault bad other is = let clash = none (Err (fault.Batch bad)) (is, other) in cc

    no_file : (rows : List NewOrder) → length rows ≤ MOST_ROWS → ¬ IsOrderFile body rows
    no_file rows few is = let clash = none (Ok (Batch caller (kept alloc rows few))) (refl, is) in cc

    all_rows : (columns : Columns) (under : List CsvFields) → HasUnderHeader body columns under
        → (rows : List NewOrder) → BeginWith columns rows [] under → length rows ≤ MOST_ROWS → ⊥
    all_rows columns under has [] x few = no_fault batch.BadCount (λ e. cc) (columns, under, has, inl x.0)
    all_rows columns under has (row ∷ rows) x few =
        no_file (row ∷ rows) few (columns, under, has, (x, omega arith, few))

    by : (columns : Columns) (under : List CsvFields) → HasUnderHeader body columns under
        → ¬ Judged columns MOST_ROWS under
    by columns under has (inl x) = all_rows columns under has x.0 x.1 x.2
    by columns under has (inr (inl x)) =
        no_fault (batch.BadRow (length x.0 + 1)) (λ e. cc) (
          columns,
          under,
          has,
          (x.0, x.1, x.2, x.3, x.4, refl, omega (arith, x.5)),
        )
    by columns under has (inr (inr x)) =
        no_fault batch.BadCount (λ e. cc) (columns, under, has, inr (x.0, x.1, x.2, x.3, x.4))

    by_header : (columns : Columns) (under : List CsvFields) → HasUnderHeader body columns under → ⊥
    by_header columns under has = judged columns MOST_ROWS under (by columns under has)
