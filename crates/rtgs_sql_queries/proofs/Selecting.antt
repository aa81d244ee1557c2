-- The queries of whole tables.
use Rattle.std.proofs.Common.{◌≡◌, ◌<◌, ◌≤◌, ℕ, pos, List, [], ◌∷◌, ◌++◌, map, Option, Some, None, refl, sym, ap}
use Rattle.std.proofs.Common.{subst, ◌∙◌, arith}
use Rattle.std.specs.List.{AllByRecursion}
use Rattle.std.specs.Ordering.{int_cmp}
use Rattle.std.specs.List.Sorted.{IsPermutation}
use Rattle.std.proofs.lemmas.List.Sorted.{IsPermutation-map, IsPermutation-sym}
use Rattle.std.specs.declared.cmp.Ordering.TheVariants.{Less}
use Rattle.sqlite_value.proofs.OrderLemmas.{then-Equal, value_cmp-Int, value_cmp-Text}
use Rattle.sqlite.specs.Order.{Row, column}
use Rattle.sqlite.specs.Tree.{Trees}
use Rattle.sqlite.specs.Query.{output, Output}
use Rattle.sqlite_sql.specs.Query.{output_cmp}
use Rattle.sqlite_tied.specs.Compute.{everything}
use Rattle.sqlite.specs.Listing.{understood, listing_schema}
use Rattle.sqlite_keyed.proofs.ListLemmas.{ascending-map, ascending_weaker, map-map, map_same}
use Rattle.rtgs_book.specs.declared.book.Book.{Book}
use Rattle.rtgs_book.specs.declared.day.Day.{Day}
use Rattle.rtgs_book.specs.declared.order.Order.{Order}
use Rattle.rtgs_rows.specs.Tables.{IsVersion, schema_in, known_tables, desk_table, participant_table, posting_table}
use Rattle.rtgs_rows.specs.Tables.{order_table, mark_table, forward_table, resolution_table, versions_of, HasTable}
use Rattle.sqlite.specs.Table.{Table}
use Rattle.rtgs_rows.specs.Dues.{without_due, forward_for, forwards_of}
use Rattle.rtgs_rows.specs.Fitting.{FitsDate, FitsParticipant, FitsUndated, FitsOrder, FitsForward}
use Rattle.rtgs_rows.specs.Rows.{desk_row, desk_row_of, posting_row, order_row, mark_row, forward_row, resolution_row}
use Rattle.rtgs_rows.specs.Rows.{resolution_row_of, shown_account}
use Rattle.rtgs_rows.specs.TableRecords.{TableRecords, desk_records, account_records, posting_records, order_records}
use Rattle.rtgs_rows.specs.TableRecords.{mark_records, forward_records, resolution_records, HasNoMoreBeyond, at_first}
use Rattle.rtgs_rows.specs.Content.{Holding, Content, holding_row, stored_account, tables_of_in, tables_for_in}
use Rattle.rtgs_rows.specs.Content.{rows_in, Rise}
use Rattle.rtgs_book.specs.declared.account.Account.{Account}
use Rattle.rtgs_sql_queries.specs.Records.{AreRead}
use Rattle.rtgs_sql_queries.specs.TableQueries.{IsTableQuery, ShowsOwn, whole_table}
use Rattle.rtgs_sql_queries.proofs.AsRead.{posting_same, order_same, mark_same, forward_same}
use Rattle.rtgs_sql_queries.proofs.Versions.{in_each, in_all}
use Rattle.rtgs_sql_queries.proofs.Showing.{numbered, shown_are}
use Rattle.rtgs_lists.proofs.Lists.{all_unmap, map_same as plain_rows}

-- ---- what they are to the engine

-- over the tables of each version
pub all_asks : AllByRecursion IsTableQuery known_tables
unfolding understood listing_schema everything schema_in
all_asks = assumption refl

-- ---- which versions have them

-- the first is known, and what it has each that is known has
pub first_is_known : IsVersion 1
first_is_known = (0, omega arith, refl)

pub has_always : (version : ℕ) → IsVersion version → 1 ≤ version → IsVersion version
has_always version known low = known

-- none that is known is before the first
pub none_before : (version : ℕ) → IsVersion version → version < 1 → ⊥
none_before = in_all (λ version. version < 1 → ⊥)
    (λ low. omega (arith, low), (λ low. omega (arith, low), (λ low. omega (arith, low), tt)))

pub ruleset since_the_first = (first_is_known, has_always, none_before)

-- due dates are in the second
pub second_has_forwards : HasTable 2 forward_table
second_has_forwards = (0, omega arith, refl)

pub has_forwards : (version : ℕ) → IsVersion version → 2 ≤ version → HasTable version forward_table
has_forwards = in_all (λ version. 2 ≤ version → HasTable version forward_table)
    (λ low. absurd (omega (arith, low)), (λ low. second_has_forwards, (λ low. (1, omega arith, refl), tt)))

pub lacks_forwards : (version : ℕ) → IsVersion version → version < 2 → ¬ HasTable version forward_table
lacks_forwards version known low has =
    let only = in_each (λ v. 2 ≤ v) forward_table (omega arith, (omega arith, tt)) version has in
    omega (arith, low, only)

-- the records of a table that a version lacks are those of a new desk, where a book has no more of such tables
abbrev FirstIn : {A : Type 0} → TableRecords A → ℕ → ℕ → Type 0
FirstIn records first version = version < first → (accounts : List Account) (book : Book)
    → HasNoMoreBeyond version accounts book → records.of_book version accounts book ≡ at_first version records

pub no_forwards : (version : ℕ) → IsVersion version → FirstIn forward_records 2 version
no_forwards = in_all (FirstIn forward_records 2) (
  λ low accounts book none. none.0,
  (λ low accounts book none. absurd (omega (arith, low)), (λ low accounts book none. absurd (omega (arith, low)), tt)),
)

pub ruleset since_the_second = (second_has_forwards, has_forwards, lacks_forwards, no_forwards)

-- the choice of a day is in the third
pub third_has_choices : HasTable 3 resolution_table
third_has_choices = (0, omega arith, refl)

pub has_choices : (version : ℕ) → IsVersion version → 3 ≤ version → HasTable version resolution_table
has_choices = in_all (λ version. 3 ≤ version → HasTable version resolution_table)
    (λ low. absurd (omega (arith, low)), (λ low. absurd (omega (arith, low)), (λ low. third_has_choices, tt)))

pub lacks_choices : (version : ℕ) → IsVersion version → version < 3 → ¬ HasTable version resolution_table
lacks_choices version known low has =
    let only = in_each (λ v. 3 ≤ v) resolution_table (omega arith, tt) version has in
    omega (arith, low, only)

pub no_choice : (version : ℕ) → IsVersion version → FirstIn resolution_records 3 version
no_choice = in_all (FirstIn resolution_records 3) (
  λ low accounts book none. none.1.0,
  (λ low accounts book none. none.0, (λ low accounts book none. absurd (omega (arith, low)), tt)),
)

pub ruleset since_the_third = (third_has_choices, has_choices, lacks_choices, no_choice)

-- ---- what they show of a book

-- tables of this version that have records have these rows in one
abbrev HasRows : Table → (ℕ → Content → List Row) → ℕ → Type 0
HasRows table rows version = (content : Content) (trees : Trees)
    → tables_of_in version trees ≡ tables_for_in version content → trees table.tree ≡ rows version content

-- a table in the order of its row numbers
own_numbered : {A : Type 0} (records : TableRecords A) (row : A → Row) (number : A → ℕ) (all : ℕ → Content → List A)
    → ((a b : A) → int_cmp (pos (number a)) (pos (number b)) ≡ Less → output_cmp (whole_table records.table)
    (output (whole_table records.table) ([] ∷ row a ∷ [])) (output (whole_table records.table) ([] ∷ row b ∷ []))
    ≡ Less) → ((a : A) → (output (whole_table records.table) ([] ∷ row a ∷ [])).1 ≡ records.shown a)
    → ((version : ℕ) (content : Content) (accounts : List Account) (book : Book) → AreRead content accounts book
    → AllByRecursion records.fits (records.of_book version accounts book)
    × Rise (λ a. pos (number a)) (all version content)
    × (all version content ≡ records.of_book version accounts book))
    → AllByRecursion (HasRows records.table (λ version content. map row (all version content)))
    (versions_of records.table) → ShowsOwn records
own_numbered records row number all by shows read held = record {
  fit = λ version content accounts book are. (read version content accounts book are).0;
  rows = λ version has content accounts book are trees same rows.
      let its = read version content accounts book are in
      let here = in_each (HasRows records.table (λ version content. map row (all version content))) records.table held
      version has content trees same in
      numbered records.table row records.shown (λ a. pos (number a)) by shows (all version content)
      (records.of_book version accounts book) its.1 its.2 (trees records.table.tree) rows here;
}

pub desk_own : ShowsOwn desk_records
desk_own = own_numbered desk_records desk_row (λ _. 1) (λ version c. desk_row_of version c.day ∷ [])
    (λ a b low. then-Equal _ ∙ value_cmp-Int (pos 1) (pos 1) ∙ low) (λ a. refl)
    (λ version c accounts book are.
    ((are.fits.day, tt), (tt, tt), ap (λ (day : Day). desk_row_of version day ∷ []) are.lists.day)) (
      λ c trees held. ap (rows_in desk_table) held,
      (λ c trees held. ap (rows_in desk_table) held, (λ c trees held. ap (rows_in desk_table) held, tt)),
    )

pub postings_own : ShowsOwn posting_records
postings_own = own_numbered posting_records posting_row (λ p. p.number) (λ version c. c.postings)
    (λ a b low. then-Equal _ ∙ value_cmp-Int (pos a.number) (pos b.number) ∙ low) (λ a. refl)
    (λ version c accounts book are. (are.fits.postings, are.order.postings, are.lists.postings)) (
      λ c trees held. ap (rows_in posting_table) held,
      (λ c trees held. ap (rows_in posting_table) held, (λ c trees held. ap (rows_in posting_table) held, tt)),
    )

-- the rows of orders are those of the orders without their due dates
rows_without_due : (os : List Order) → map order_row os ≡ map order_row (map without_due os)
rows_without_due os = sym (plain_rows order_row without_due (λ o. refl) os)

plain_fit : (os : List Order) → AllByRecursion FitsOrder os
    → AllByRecursion (λ (o : Order). FitsUndated o × (o.due ≡ None)) (map without_due os)
plain_fit [] fits = tt
plain_fit (o ∷ os) fits =
    let it = fits.0.undated in (
      (
        record {
          sender = it.sender;
          reference = it.reference;
          receiver = it.receiver;
          amount = it.amount;
          date = it.date;
        },
        refl,
      ),
      plain_fit os fits.1,
    )

plain_rise : (os : List Order) → Rise (λ (o : Order). pos o.number) os
    → Rise (λ (o : Order). pos o.number) (map without_due os)
plain_rise = ascending-map (λ (a b : Order). int_cmp (pos a.number) (pos b.number) ≡ Less) without_due

pub orders_own : ShowsOwn order_records
orders_own = own_numbered order_records order_row (λ o. o.number) (λ version c. map without_due c.orders)
    (λ a b low. then-Equal _ ∙ value_cmp-Int (pos a.number) (pos b.number) ∙ low) (λ a. refl)
    (λ version c accounts book are. (
      plain_fit book.orders are.fits.orders,
      plain_rise c.orders are.order.orders,
      ap (map without_due) are.lists.orders,
    )) (
      λ c trees held. ap (rows_in order_table) held ∙ rows_without_due c.orders,
      (
        λ c trees held. ap (rows_in order_table) held ∙ rows_without_due c.orders,
        (λ c trees held. ap (rows_in order_table) held ∙ rows_without_due c.orders, tt),
      ),
    )

pub marks_own : ShowsOwn mark_records
marks_own = own_numbered mark_records mark_row (λ m. m.number) (λ version c. c.marks)
    (λ a b low. then-Equal _ ∙ value_cmp-Int (pos a.number) (pos b.number) ∙ low) (λ a. refl)
    (λ version c accounts book are. (are.fits.marks, are.order.marks, are.lists.marks)) (
      λ c trees held. ap (rows_in mark_table) held,
      (λ c trees held. ap (rows_in mark_table) held, (λ c trees held. ap (rows_in mark_table) held, tt)),
    )

forwards_fit : (os : List Order) → AllByRecursion FitsOrder os → AllByRecursion FitsForward (forwards_of os)
forwards_fit [] fits = tt
forwards_fit (o ∷ os) fits = by o.due fits.0.due (forwards_fit os fits.1)
  where
    by : (due : Option ℕ) → FitsDate due → AllByRecursion FitsForward (forwards_of os)
        → AllByRecursion FitsForward (forward_for o.number due ++ forwards_of os)
    by None fit rest = rest
    by (Some due) fit rest = (record { due = fit }, rest)

pub forwards_own : ShowsOwn forward_records
forwards_own = own_numbered forward_records forward_row (λ f. f.number) (λ version c. c.forwards)
    (λ a b low. then-Equal _ ∙ value_cmp-Int (pos a.number) (pos b.number) ∙ low) (λ a. refl)
    (λ version c accounts book are.
    (forwards_fit book.orders are.fits.orders, are.order.forwards, are.lists.forwards))
    (λ c trees held. ap (rows_in forward_table) held, (λ c trees held. ap (rows_in forward_table) held, tt))

pub resolution_own : ShowsOwn resolution_records
resolution_own = own_numbered resolution_records resolution_row (λ _. 1) (λ version c. resolution_row_of c.day ∷ [])
    (λ a b low. then-Equal _ ∙ value_cmp-Int (pos 1) (pos 1) ∙ low) (λ a. refl)
    (λ version c accounts book are.
    ((tt, tt), (tt, tt), ap (λ (day : Day). resolution_row_of day ∷ []) are.lists.day))
    (λ c trees held. ap (rows_in resolution_table) held, tt)

-- ---- the participants, in the order of their codes

pub accounts_fit : (content : Content) (accounts : List Account) (book : Book) → AreRead content accounts book
    → AllByRecursion (λ (a : Account). FitsParticipant a.participant) accounts
accounts_fit content accounts book are = all_unmap FitsParticipant (λ (a : Account). a.participant) accounts
    (subst (AllByRecursion FitsParticipant) are.participants are.fits.participants)

abbrev out : Account → Output
out a = (column (shown_account a) 0 ∷ [], shown_account a)

stored_outputs : (hs : List Holding) → map (λ r. output (whole_table participant_table) ([] ∷ r ∷ []))
    (map holding_row hs) ≡ map out (map stored_account hs)
stored_outputs [] = refl
stored_outputs (h ∷ hs) = ap (λ l. out (stored_account h) ∷ l) (stored_outputs hs)

pub participants_own : ShowsOwn account_records
participants_own = record {
  fit = λ version. accounts_fit;
  rows = λ version has content accounts book are trees held rows s.
      let here = in_each (HasRows participant_table (λ _ c. map holding_row c.holdings)) participant_table (
        λ c trees same. ap (rows_in participant_table) same,
        (
          λ c trees same. ap (rows_in participant_table) same,
          (λ c trees same. ap (rows_in participant_table) same, tt),
        ),
      ) version has content trees held in
      let q = whole_table participant_table in
      let up = ascending-map (λ (a b : Output). output_cmp q a b ≡ Less) out accounts
      (ascending_weaker _ _ (λ a b low. then-Equal _ ∙ value_cmp-Text a.participant.code b.participant.code ∙ low)
      accounts are.rising) in
      let same : IsPermutation (map out accounts) (map (λ r. output q ([] ∷ r ∷ [])) (trees participant_table.tree)) =
      subst (IsPermutation (map out accounts)) (sym (ap (map (λ (r : Row). output q ([] ∷ r ∷ []))) here
      ∙ stored_outputs content.holdings))
      (IsPermutation-map out _ _ (IsPermutation-sym _ _ are.stored)) in
      shown_are q (trees participant_table.tree) rows (map out accounts) up same s
      ∙ map-map (λ (o : Output). o.1) out accounts
      ∙ map_same (λ (a : Account). (out a).1) shown_account (λ a. refl) accounts;
}

-- ---- what each query is and shows

pub ruleset queries = (
  all_asks,
  desk_own,
  participants_own,
  postings_own,
  posting_same,
  orders_own,
  order_same,
  marks_own,
  mark_same,
  forwards_own,
  forward_same,
  resolution_own,
)
