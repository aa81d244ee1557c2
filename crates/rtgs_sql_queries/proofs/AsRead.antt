-- Rows as they are read: a number below zero is read as 0.
use Rattle.std.proofs.Common.{◌≡◌, ℕ, suc, pos, Bool, List, [], ◌∷◌, map, length, Option, Some, None, refl, ap, ap₂}
use Rattle.std.proofs.Common.{◌∙◌, arith, Ok, Err, Result, IfOk, Vec, Global}
use Rattle.sqlite.specs.declared.error.Error.{Error}
use Rattle.sqlite.specs.Order.{Row}
use Rattle.sqlite.specs.declared.types.Value.{Value}
use Rattle.sqlite.specs.declared.types.Value.TheVariants.{Null, Int, Text}
use Rattle.sqlite_keyed.proofs.ListLemmas.{map-map, map_same}
use Rattle.rtgs_book.specs.declared.posting.Posting.{Posting}
use Rattle.rtgs_book.specs.declared.order.Order.{Order}
use Rattle.rtgs_book.specs.declared.order_state.OrderState.{OrderState}
use Rattle.rtgs_book.specs.declared.order_state.OrderState.TheVariants.{Queued, Held, Settled, Withdrawn, Rejected}
use Rattle.rtgs_book.specs.declared.mark.Mark.{Mark}
use Rattle.sqlite_value.specs.Order.{column}
use Rattle.rtgs_money.specs.Date.{date_text, IsBusinessDate}
use Rattle.rtgs_rows.specs.Fitting.{FitsDate}
use Rattle.rtgs_rows.specs.Rows.{shown_posting, shown_order, shown_mark, shown_forward, mark_value, date_value}
use Rattle.rtgs_rows.specs.Rows.{state_number}
use Rattle.rtgs_sql_queries.proofs.RowColumns.{of_four, of_eight}
use Rattle.rtgs_rows.specs.TableRecords.{posting_records, order_records, mark_records, forward_records}
use Rattle.rtgs_rows.specs.declared.forward.Forward.{Forward}
use Rattle.rtgs_sql_columns.specs.Numbers.{at_least_zero, as_read}

-- ---- a record's own row is read as it is

pub posting_same : (p : Posting) → as_read posting_records.counted (shown_posting p) ≡ shown_posting p
posting_same p = refl

mark_same_value : (state : OrderState) → at_least_zero (mark_value state) ≡ mark_value state
mark_same_value Queued = refl
mark_same_value Held = refl
mark_same_value (Settled mark) = refl
mark_same_value Withdrawn = refl
mark_same_value Rejected = refl

pub order_same : (o : Order) → as_read order_records.counted (shown_order o) ≡ shown_order o
order_same o = let last = mark_same_value o.state in rw last refl

pub mark_same : (m : Mark) → as_read mark_records.counted (shown_mark m) ≡ shown_mark m
mark_same m = refl

pub forward_same : (f : Forward) → as_read forward_records.counted (shown_forward f) ≡ shown_forward f
forward_same f = refl

-- so are the rows of records
pub rows_same : {A : Type 0} (counted : List Bool) (shown : A → Row) → ((a : A) → as_read counted (shown a) ≡ shown a)
    → (rows : List Row) (all : List A) → rows ≡ map shown all → map (as_read counted) rows ≡ map shown all
rows_same counted shown same rows all is = ap (map (as_read counted)) is ∙ map-map (as_read counted) shown all
    ∙ map_same (λ a. as_read counted (shown a)) shown same all

-- also where they are those of an answer
pub read_so : {A : Type 0} (counted : List Bool) (shown : A → Row) → ((a : A) → as_read counted (shown a) ≡ shown a)
    → (r : Result (Vec Row Global) Error) (all : List A) → IfOk r (λ rows. rows.items ≡ map shown all)
    → IfOk r (λ rows. map (as_read counted) rows.items ≡ map shown all)
read_so counted shown same (Ok rows) all is = rows_same counted shown same rows.items all is
read_so counted shown same (Err e) all is = tt

-- ---- rows of records, column by column

head_of : (v u : Value) (r s : Row) → ◌≡◌ {A = Row} (v ∷ r) (u ∷ s) → v ≡ u
head_of v u r s e = cc

tail_of : (v u : Value) (r s : Row) → ◌≡◌ {A = Row} (v ∷ r) (u ∷ s) → r ≡ s
tail_of v u r s e = cc

pub record PostingColumns (row : Row) (p : Posting) : Type 0 where
  pub wide : length row ≡ 5
  pub number : at_least_zero (column row 0) ≡ Int (pos p.number)
  pub code : column row 1 ≡ Text p.code
  pub reference : column row 2 ≡ Text p.reference
  pub cents : column row 3 ≡ Int p.cents
  pub date : column row 4 ≡ date_value p.date

pub posting_columns : (row : Row) (p : Posting) → as_read posting_records.counted row ≡ shown_posting p
    → PostingColumns row p
posting_columns [] p e = absurd cc
posting_columns (v ∷ row) p e =
    let rest = tail_of _ _ _ _ e in
    record {
      wide = ap (λ (r : Row). suc (length r)) rest;
      number = head_of _ _ _ _ e;
      code = ap (λ (r : Row). column r 0) rest;
      reference = ap (λ (r : Row). column r 1) rest;
      cents = ap (λ (r : Row). column r 2) rest;
      date = ap (λ (r : Row). column r 3) rest;
    }

pub posting_read : (row : Row) (p : Posting) → PostingColumns row p
    → as_read posting_records.counted row ≡ shown_posting p
posting_read [] p at = absurd (let wide = at.wide in omega (arith, wide))
posting_read (v ∷ row) p at = ap₂ ◌∷◌ at.number (of_four row (let wide = at.wide in omega (arith, wide)) at.code
    at.reference at.cents at.date)

pub record OrderColumns (row : Row) (o : Order) : Type 0 where
  pub wide : length row ≡ 8
  pub number : at_least_zero (column row 0) ≡ Int (pos o.number)
  pub sender : column row 1 ≡ Text o.sender
  pub reference : column row 2 ≡ Text o.reference
  pub receiver : column row 3 ≡ Text o.receiver
  pub amount : column row 4 ≡ Int (pos o.amount)
  pub date : column row 5 ≡ Text (date_text o.date)
  pub state : column row 6 ≡ Int (pos (state_number o.state))
  pub mark : at_least_zero (column row 7) ≡ mark_value o.state

pub order_columns : (row : Row) (o : Order) → as_read order_records.counted row ≡ shown_order o → OrderColumns row o
order_columns [] o e = absurd cc
order_columns (a ∷ []) o e = absurd cc
order_columns (a ∷ b ∷ []) o e = absurd cc
order_columns (a ∷ b ∷ c ∷ []) o e = absurd cc
order_columns (a ∷ b ∷ c ∷ d ∷ []) o e = absurd cc
order_columns (a ∷ b ∷ c ∷ d ∷ f ∷ []) o e = absurd cc
order_columns (a ∷ b ∷ c ∷ d ∷ f ∷ g ∷ []) o e = absurd cc
order_columns (a ∷ b ∷ c ∷ d ∷ f ∷ g ∷ h ∷ []) o e = absurd cc
order_columns (a ∷ b ∷ c ∷ d ∷ f ∷ g ∷ h ∷ k ∷ rest) o e = record {
  wide = ap (λ (r : Row). length r) e;
  number = ap (λ (r : Row). column r 0) e;
  sender = ap (λ (r : Row). column r 1) e;
  reference = ap (λ (r : Row). column r 2) e;
  receiver = ap (λ (r : Row). column r 3) e;
  amount = ap (λ (r : Row). column r 4) e;
  date = ap (λ (r : Row). column r 5) e;
  state = ap (λ (r : Row). column r 6) e;
  mark = ap (λ (r : Row). column r 7) e;
}

pub order_read : (row : Row) (o : Order) → OrderColumns row o → as_read order_records.counted row ≡ shown_order o
order_read row o at = at_eight row at.wide at
  where
    at_eight : (r : Row) → length r ≡ 8 → OrderColumns r o → as_read order_records.counted r ≡ shown_order o
    at_eight [] wide at = absurd (omega (arith, wide))
    at_eight (a ∷ []) wide at = absurd (omega (arith, wide))
    at_eight (a ∷ b ∷ []) wide at = absurd (omega (arith, wide))
    at_eight (a ∷ b ∷ c ∷ []) wide at = absurd (omega (arith, wide))
    at_eight (a ∷ b ∷ c ∷ d ∷ []) wide at = absurd (omega (arith, wide))
    at_eight (a ∷ b ∷ c ∷ d ∷ f ∷ []) wide at = absurd (omega (arith, wide))
    at_eight (a ∷ b ∷ c ∷ d ∷ f ∷ g ∷ []) wide at = absurd (omega (arith, wide))
    at_eight (a ∷ b ∷ c ∷ d ∷ f ∷ g ∷ h ∷ []) wide at = absurd (omega (arith, wide))
    at_eight (a ∷ b ∷ c ∷ d ∷ f ∷ g ∷ h ∷ k ∷ []) wide at = of_eight
        (at_least_zero a ∷ b ∷ c ∷ d ∷ f ∷ g ∷ h ∷ at_least_zero k ∷ []) refl at.number at.sender at.reference
        at.receiver at.amount at.date at.state at.mark
    at_eight (a ∷ b ∷ c ∷ d ∷ f ∷ g ∷ h ∷ k ∷ l ∷ rest) wide at = absurd (omega (arith, wide))

pub record MarkColumns (row : Row) (m : Mark) : Type 0 where
  pub wide : length row ≡ 4
  pub number : at_least_zero (column row 0) ≡ Int (pos m.number)
  pub date : column row 1 ≡ Text (date_text m.date)
  pub count : at_least_zero (column row 2) ≡ Int (pos m.count)
  pub value : column row 3 ≡ Int m.value

pub mark_columns : (row : Row) (m : Mark) → as_read mark_records.counted row ≡ shown_mark m → MarkColumns row m
mark_columns [] m e = absurd cc
mark_columns (a ∷ []) m e = absurd cc
mark_columns (a ∷ b ∷ []) m e = absurd cc
mark_columns (a ∷ b ∷ c ∷ rest) m e = record {
  wide = ap (λ (r : Row). length r) e;
  number = ap (λ (r : Row). column r 0) e;
  date = ap (λ (r : Row). column r 1) e;
  count = ap (λ (r : Row). column r 2) e;
  value = ap (λ (r : Row). column r 3) e;
}

pub mark_read : (row : Row) (m : Mark) → MarkColumns row m → as_read mark_records.counted row ≡ shown_mark m
mark_read row m at = at_four row at.wide at
  where
    at_four : (r : Row) → length r ≡ 4 → MarkColumns r m → as_read mark_records.counted r ≡ shown_mark m
    at_four [] wide at = absurd (omega (arith, wide))
    at_four (a ∷ []) wide at = absurd (omega (arith, wide))
    at_four (a ∷ b ∷ []) wide at = absurd (omega (arith, wide))
    at_four (a ∷ b ∷ c ∷ rest) wide at = of_four (at_least_zero a ∷ b ∷ at_least_zero c ∷ rest) wide at.number at.date
        at.count at.value

pub record ForwardColumns (row : Row) (f : Forward) : Type 0 where
  pub wide : length row ≡ 2
  pub number : at_least_zero (column row 0) ≡ Int (pos f.number)
  pub due : column row 1 ≡ Text (date_text f.due)

pub forward_columns : (row : Row) (f : Forward) → as_read forward_records.counted row ≡ shown_forward f
    → ForwardColumns row f
forward_columns [] f e = absurd cc
forward_columns (a ∷ rest) f e = record {
  wide = ap (λ (r : Row). length r) e;
  number = ap (λ (r : Row). column r 0) e;
  due = ap (λ (r : Row). column r 1) e;
}

pub forward_read : (row : Row) (f : Forward) → ForwardColumns row f
    → as_read forward_records.counted row ≡ shown_forward f
forward_read row f at = at_two row at.wide at
  where
    at_two : (r : Row) → length r ≡ 2 → ForwardColumns r f → as_read forward_records.counted r ≡ shown_forward f
    at_two [] wide at = absurd (omega (arith, wide))
    at_two (a ∷ []) wide at = absurd (omega (arith, wide))
    at_two (a ∷ b ∷ []) wide at = ap₂ ◌∷◌ at.number (ap (λ v. v ∷ []) at.due)
    at_two (a ∷ b ∷ c ∷ rest) wide at = absurd (omega (arith, wide))

-- a date that is there or not
pub date_found : (row : Row) (date : Option ℕ) (read : Option (Option ℕ)) → (column row 4 ≡ Null → read ≡ Some None)
    → ((day : ℕ) → IsBusinessDate day → column row 4 ≡ Text (date_text day) → read ≡ Some (Some day)) → FitsDate date
    → column row 4 ≡ date_value date → read ≡ Some date
date_found row None read none some fits is = none is
date_found row (Some day) read none some fits is = some day fits is
