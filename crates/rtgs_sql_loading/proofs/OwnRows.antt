-- Rows of records whose numbers are above zero, as in a sound book.
use Rattle.std.proofs.Common.{◌≡◌, ℕ, ◌<◌, ℤ, pos, negsuc, Bool, List, [], ◌∷◌, map, refl, sym, ap, ap₂, ◌∙◌, arith}
use Rattle.std.specs.List.{AllByRecursion}
use Rattle.sqlite.specs.Order.{Row}
use Rattle.sqlite.specs.declared.types.Value.{Value}
use Rattle.sqlite.specs.declared.types.Value.TheVariants.{Null, Int, Real, Text, Blob}
use Rattle.rtgs_book.specs.declared.posting.Posting.{Posting}
use Rattle.rtgs_book.specs.declared.order.Order.{Order}
use Rattle.rtgs_book.specs.declared.order_state.OrderState.{OrderState}
use Rattle.rtgs_book.specs.declared.order_state.OrderState.TheVariants.{Queued, Held, Settled, Withdrawn, Rejected}
use Rattle.rtgs_book.specs.declared.mark.Mark.{Mark}
use Rattle.rtgs_rows.specs.Rows.{shown_posting, shown_order, shown_mark, shown_forward, mark_value}
use Rattle.rtgs_rows.specs.TableRecords.{TableRecords, posting_records, order_records, mark_records, forward_records}
use Rattle.rtgs_rows.specs.declared.forward.Forward.{Forward}
use Rattle.rtgs_sql_columns.specs.Numbers.{natural_of, at_least_zero, as_read, IsFormed, IsNumberedPosting}
use Rattle.rtgs_sql_columns.specs.Numbers.{IsNumberedState, IsNumberedOrder, IsNumberedMark}

-- what is read as a number is one
pub number_in : (v : Value) (n : ℕ) → at_least_zero v ≡ Int (pos n) → (m : ℤ) × (v ≡ Int m) × (natural_of m ≡ n)
number_in Null n e = absurd cc
number_in (Int m) n e = (m, refl, cc)
number_in (Real x) n e = absurd cc
number_in (Text t) n e = absurd cc
number_in (Blob b) n e = absurd cc

-- a number above zero is read as it is
pub above_in : (v : Value) (n : ℕ) → 0 < n → at_least_zero v ≡ Int (pos n) → v ≡ Int (pos n)
above_in v n low e = at (number_in v n e)
  where
    at : ((m : ℤ) × (v ≡ Int m) × (natural_of m ≡ n)) → v ≡ Int (pos n)
    at (pos m, is, same) = is ∙ ap (λ k. Int (pos k)) same
    at (negsuc m, is, same) = absurd (omega (arith, same, low))

-- ---- where the numbers are above zero, the row is the record's own

state_own : (state : OrderState) (v : Value) → IsNumberedState state → at_least_zero v ≡ mark_value state
    → v ≡ mark_value state
state_own Queued Null low e = e
state_own Queued (Int n) low e = absurd cc
state_own Queued (Real x) low e = absurd cc
state_own Queued (Text t) low e = absurd cc
state_own Queued (Blob b) low e = absurd cc
state_own Held Null low e = e
state_own Held (Int n) low e = absurd cc
state_own Held (Real x) low e = absurd cc
state_own Held (Text t) low e = absurd cc
state_own Held (Blob b) low e = absurd cc
state_own (Settled mark) v low e = above_in v mark low e
state_own Withdrawn Null low e = e
state_own Withdrawn (Int n) low e = absurd cc
state_own Withdrawn (Real x) low e = absurd cc
state_own Withdrawn (Text t) low e = absurd cc
state_own Withdrawn (Blob b) low e = absurd cc
state_own Rejected Null low e = e
state_own Rejected (Int n) low e = absurd cc
state_own Rejected (Real x) low e = absurd cc
state_own Rejected (Text t) low e = absurd cc
state_own Rejected (Blob b) low e = absurd cc

head_of : (v u : Value) (r s : Row) → ◌≡◌ {A = Row} (v ∷ r) (u ∷ s) → v ≡ u
head_of v u r s e = cc

tail_of : (v u : Value) (r s : Row) → ◌≡◌ {A = Row} (v ∷ r) (u ∷ s) → r ≡ s
tail_of v u r s e = cc

pub posting_own : (row : Row) (p : Posting) → IsNumberedPosting p
    → as_read posting_records.counted row ≡ shown_posting p → row ≡ shown_posting p
posting_own [] p low e = absurd cc
posting_own (v ∷ row) p low e = ap₂ ◌∷◌ (above_in v p.number low (head_of _ _ _ _ e)) (tail_of _ _ _ _ e)

pub order_own : (row : Row) (o : Order) → IsNumberedOrder o → as_read order_records.counted row ≡ shown_order o
    → row ≡ shown_order o
order_own [] o low e = absurd cc
order_own (a ∷ []) o low e = absurd cc
order_own (a ∷ b ∷ []) o low e = absurd cc
order_own (a ∷ b ∷ c ∷ []) o low e = absurd cc
order_own (a ∷ b ∷ c ∷ d ∷ []) o low e = absurd cc
order_own (a ∷ b ∷ c ∷ d ∷ f ∷ []) o low e = absurd cc
order_own (a ∷ b ∷ c ∷ d ∷ f ∷ g ∷ []) o low e = absurd cc
order_own (a ∷ b ∷ c ∷ d ∷ f ∷ g ∷ h ∷ []) o low e = absurd cc
order_own (a ∷ b ∷ c ∷ d ∷ f ∷ g ∷ h ∷ k ∷ rest) o low e =
    let number = above_in a o.number low.0 (let is : at_least_zero a ≡ Int (pos o.number) = cc in is) in
    let mark = state_own o.state k low.1 (let is : at_least_zero k ≡ mark_value o.state = cc in is) in
    cc

pub mark_own : (row : Row) (m : Mark) → IsNumberedMark m → as_read mark_records.counted row ≡ shown_mark m
    → row ≡ shown_mark m
mark_own [] m low e = absurd cc
mark_own (a ∷ []) m low e = absurd cc
mark_own (a ∷ b ∷ []) m low e = absurd cc
mark_own (a ∷ b ∷ c ∷ rest) m low e =
    let number = above_in a m.number low.0 (let is : at_least_zero a ≡ Int (pos m.number) = cc in is) in
    let count = above_in c m.count low.1 (let is : at_least_zero c ≡ Int (pos m.count) = cc in is) in
    cc

pub forward_own : (row : Row) (f : Forward) → 0 < f.number → as_read forward_records.counted row ≡ shown_forward f
    → row ≡ shown_forward f
forward_own [] f low e = absurd cc
forward_own (v ∷ row) f low e = ap₂ ◌∷◌ (above_in v f.number low (head_of _ _ _ _ e)) (tail_of _ _ _ _ e)

-- ---- what is read as a row is the row itself

abbrev pub IsOwn : List Bool → Row → Type 0
IsOwn counted seen_rows = (row : Row) → as_read counted row ≡ seen_rows → row ≡ seen_rows

-- the rows of records with numbers above zero are such
pub owns : {A : Type 0} (records : TableRecords A) (numbered : A → Type 0)
    → ((row : Row) (a : A) → numbered a → as_read records.counted row ≡ records.shown a → row ≡ records.shown a)
    → (all : List A) → AllByRecursion numbered all → AllByRecursion (IsOwn records.counted) (map records.shown all)
owns records numbered own [] low = tt
owns records numbered own (a ∷ all) low = (λ row e. own row a low.0 e, owns records numbered own all low.1)

-- so is each, where no number is read in another way
pub all_own : (rows : List Row) → AllByRecursion (IsOwn []) rows
all_own [] = tt
all_own (seen_rows ∷ rows) = (λ row e. e, all_own rows)

-- so the rows are read as they are
pub read_unchanged : (counted : List Bool) (rows : List Row)
    → AllByRecursion (IsOwn counted) (map (as_read counted) rows)
    → map (as_read counted) rows ≡ rows
read_unchanged counted [] own = refl
read_unchanged counted (row ∷ rows) own = ap₂ ◌∷◌ (sym (own.0 row refl)) (read_unchanged counted rows own.1)

-- the rows of records are in their forms
pub are_formed : {A : Type 0} (records : TableRecords A) (all : List A) → AllByRecursion records.fits all
    → (rows : List Row) → map (as_read records.counted) rows ≡ map records.shown all
    → AllByRecursion (IsFormed records) rows
are_formed records [] fit [] is = tt
are_formed records [] fit (row ∷ rows) is = absurd cc
are_formed records (a ∷ all) fit [] is = absurd cc
are_formed records (a ∷ all) fit (row ∷ rows) is =
    let first : as_read records.counted row ≡ records.shown a = cc in
    let rest : map (as_read records.counted) rows ≡ map records.shown all = cc in
    ((a, fit.0, first), are_formed records all fit.1 rows rest)
