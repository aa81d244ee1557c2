-- Rows of a query and the records that are read of them.
use Rattle.std.proofs.Common.{◌≡◌, ◌≢◌, inl, inr, ap, ℕ, List, [], ◌∷◌, map, length, IsPermutation, sym, Ok, Err, ◌∙◌}
use Rattle.std.proofs.Common.{Result, IfOk, IfErr, Vec, Global, refl, subst, arith}
use Rattle.std.specs.List.{AllByRecursion}
use Rattle.std.proofs.lemmas.List.Sorted.{IsPermutation-map, IsPermutation-refl, IsPermutation-sym, length_permutation}
use Rattle.sqlite.specs.State.{State, HasCleanDisk}
use Rattle.sqlite.specs.Tree.{Trees}
use Rattle.sqlite_value.specs.Order.{Row}
use Rattle.sqlite_trees.proofs.ListLemmas.{all-permutation}
use Rattle.rtgs_book.specs.declared.book.Book.{Book}
use Rattle.rtgs_book.specs.declared.fault.Fault.{Fault}
use Rattle.rtgs_book.specs.declared.account.Account.{Account}
use Rattle.rtgs_rows.specs.Rows.{desk_row_of, shown_desk}
use Rattle.rtgs_rows.specs.Querying.{as_shown, IsFileIn}
use Rattle.rtgs_rows.specs.TableRecords.{TableRecords, desk_records, HasNoMoreBeyond, at_first}
use Rattle.rtgs_rows.specs.declared.desk_row.DeskRow.{DeskRow}
use Rattle.rtgs_rows.specs.Tables.{HasTable, IsVersion, desk_table}
use Rattle.rtgs_sql_columns.specs.Numbers.{as_read, AreReadAs, IsFormed}
use Rattle.rtgs_sql_columns.specs.Tables.{query_text}
use Rattle.rtgs_sql_queries.specs.Displaying.{Displays}
use Rattle.rtgs_sql_queries.specs.Records.{HasRecords}
use Rattle.rtgs_sql_queries.specs.TableQueries.{ShowsSorted}
use Rattle.rtgs_sql_loading.specs.Accounts.{IsOneRow, IsDeskOf, InForm}
use Rattle.rtgs_sql_loading.specs.Displaying.{IsUnread, SaysNoVersion}
use Rattle.rtgs_sql_loading.specs.Loading.{ReadsRecords, ReadsList, ReadsOne, ReadsDesk, ReadsAlone, ReadsOn, Stops}
use Rattle.sqlite.specs.Effect.{Database}
use Rattle.rtgs_sql_loading.proofs.Versions.{known_of}

-- of the rows that a query shows, these records are read, and no others
pub reads_of : {A : Type 0} (version : ℕ) (records : TableRecords A) (s : State) (rows seen : List Row)
    (r : Result (Vec A Global) Fault) → seen ≡ rows → Displays s.now (query_text records.table) rows
    → (HasTable version records.table → (trees : Trees) → IsFileIn version trees s
    → ShowsSorted records.table trees rows)
    → (IsVersion version → HasTable version records.table)
    → ((accounts : List Account) (book : Book) → HasRecords version accounts book s
    → AllByRecursion records.fits (records.of_book version accounts book)
    × (map (as_read records.counted) rows ≡ map records.shown (records.of_book version accounts book)))
    → ((found : List A) → AllByRecursion records.fits found
    → map (as_read records.counted) seen ≡ map records.shown found → IfOk r (λ v. v.items ≡ found))
    → IfOk r (λ v. AllByRecursion records.fits v.items
    × (map (as_read records.counted) seen ≡ map records.shown v.items))
    → IfOk r (λ v. ReadsList version records s v.items)
reads_of version records s rows seen (Ok v) same shows raw has own given is =
    let counted = records.counted in
    let are : map (as_read counted) rows ≡ map records.shown v.items = ap (map (as_read counted)) (sym same) ∙ is.1 in
    record {
      reads = record {
        given = λ accounts book held.
            let its = own accounts book held in
            given (records.of_book version accounts book) its.0 (ap (map (as_read counted)) same ∙ its.1);
        fit = is.0;
        has_rows = λ its. (
          λ trees file. subst (IsPermutation (map (as_read counted) (as_shown records.table trees))) are
              (IsPermutation-map (as_read counted) _ _ (raw its trees file).0),
          (rows, shows, are),
        );
        had = λ known. inl (has known);
      };
      rows = λ its. record {
        rows = rows;
        read = are;
        only = λ others fit alike. given others fit (ap (map (as_read counted)) same ∙ alike);
        displayed = shows;
        sorted = λ trees file. raw its trees file;
      };
    }
reads_of version records s rows seen (Err e) same shows raw has own given is = tt

-- of a table that the version has not, the records are those of a new desk
pub first_reads : {A : Type 0} (version : ℕ) (records : TableRecords A) (s : State) (all : List A)
    → all ≡ at_first version records → AllByRecursion records.fits all
    → (IsVersion version → ¬ HasTable version records.table)
    → (IsVersion version → (accounts : List Account) (book : Book) → HasNoMoreBeyond version accounts book
    → records.of_book version accounts book ≡ at_first version records)
    → ReadsRecords version records s all
first_reads version records s all first fit lacks own = record {
  given = λ accounts book held. first ∙ sym (own held.1.known accounts book held.3);
  fit = fit;
  has_rows = λ has. absurd (lacks (known_of version records.table has) has);
  had = λ known. inr (lacks known, first);
}

-- where a new desk has none there, none is read
pub reads_none : {A : Type 0} (version : ℕ) (records : TableRecords A) (s : State) (all : List A) → all ≡ []
    → at_first version records ≡ [] → (IsVersion version → ¬ HasTable version records.table)
    → (IsVersion version → (accounts : List Account) (book : Book) → HasNoMoreBeyond version accounts book
    → records.of_book version accounts book ≡ at_first version records)
    → ReadsList version records s all
reads_none version records s all none empty lacks own = record {
  reads = first_reads version records s all (none ∙ sym empty) (subst (AllByRecursion records.fits) (sym none) tt)
      lacks own;
  rows = λ has. absurd (lacks (known_of version records.table has) has);
}

-- one row alone is the only row
only_row : (rows : List Row) (row : Row) → IsPermutation (row ∷ []) rows → rows ≡ row ∷ []
only_row rows row same = all_one rows row (all-permutation (λ r. r ≡ row) _ _ same (refl, tt))
    (sym (length_permutation _ _ same))
  where
    all_one : (rs : List Row) (r : Row) → AllByRecursion (λ x. x ≡ r) rs → length (r ∷ []) ≡ length rs → rs ≡ r ∷ []
    all_one [] r each many = absurd (omega (arith, many))
    all_one (x ∷ []) r each many = ap (λ y. y ∷ []) each.0
    all_one (x ∷ y ∷ rs) r each many = absurd (omega (arith, many))

-- the one record that a book has of a table is what its row says
pub single : {A : Type 0} (records : TableRecords A) (it : A) (all : List A) (rows seen : List Row)
    (r : Result A Fault) → all ≡ it ∷ [] → seen ≡ rows → AllByRecursion records.fits all → AreReadAs records rows all
    → ((found : A) → records.fits found → AreReadAs records seen (found ∷ []) → r ≡ Ok found) → r ≡ Ok it
single records it all rows seen r one same fit read given =
    let fits = subst (AllByRecursion records.fits) one fit in
    given it fits.0 (ap (map (as_read records.counted)) same ∙ read ∙ ap (map records.shown) one)

-- what the query shows of a table of one row is what that row says
pub one_reads : {A : Type 0} (records : TableRecords A) (s : State) (rows seen : List Row) (r : Result A Fault)
    → seen ≡ rows → Displays s.now (query_text records.table) rows
    → ((version : ℕ) → HasTable version records.table → (trees : Trees) → IsFileIn version trees s
    → IsPermutation (as_shown records.table trees) rows)
    → ((version : ℕ) → HasTable version records.table → (accounts : List Account) (book : Book)
    → HasRecords version accounts book s
    → (it : A) × (records.of_book version accounts book ≡ it ∷ []) × (r ≡ Ok it))
    → IfOk r (λ it. records.fits it × AreReadAs records seen (it ∷ []))
    → IfOk r (ReadsOne records s)
one_reads {A = A} records s rows seen (Ok it) same shows raw given is =
    let counted = records.counted in
    let are : map (as_read counted) rows ≡ records.shown it ∷ [] = ap (map (as_read counted)) (sym same) ∙ is.1 in
    record {
      given = λ version has accounts book held.
          let own = given version has accounts book held in
          let found : ◌≡◌ {A = Result A Fault} (Ok it) (Ok own.0) = own.2 in
          let alike : it ≡ own.0 = cc in
          ap (λ (x : A). x ∷ []) alike ∙ sym own.1;
      rows = λ version has trees file. only_row _ _ (IsPermutation-sym _ _
          (subst (IsPermutation (map (as_read counted) (as_shown records.table trees))) are
          (IsPermutation-map (as_read counted) _ _ (raw version has trees file))));
      shown = (rows, shows, are);
      fit = is.0;
    }
one_reads records s rows seen (Err e) same shows raw given is = tt

-- so it is read in tables of a version that has the table
pub one_read : {A : Type 0} (version : ℕ) (records : TableRecords A) (s : State) (it : A)
    → (IsVersion version → HasTable version records.table) → ReadsOne records s it → ReadsAlone version records s it
one_read version records s it has reads = record {
  given = λ accounts book held. reads.given version (has held.1.known) accounts book held;
  fit = (reads.fit, tt);
  has_rows = λ its. (
    λ trees file. subst (IsPermutation (map (as_read records.counted) (as_shown records.table trees)))
        (reads.rows version its trees file) (IsPermutation-refl _),
    reads.shown,
  );
  had = λ known. inl (has known);
}

-- where it says another version
pub other_version : (version : ℕ) (desk : DeskRow) → desk.version ≢ version → (rows : List Row)
    → AreReadAs desk_records rows (desk ∷ []) → ¬ IsDeskOf version rows
other_version version desk other rows read one =
    let is : ◌≡◌ {A = List Row} (shown_desk desk ∷ []) (shown_desk one.0.0 ∷ []) = sym read ∙ one.0.2 in
    let same : desk.version ≡ one.0.0.version = cc in
    other (same ∙ one.1)

-- a row that the query shows is malformed, so one that the table has
pub misread : {A : Type 0} (records : TableRecords A) (stored rows : List Row) → IsPermutation stored rows
    → ¬ InForm records rows → ¬ InForm records stored
misread records stored rows same wrong all = wrong (all-permutation (IsFormed records) _ _ same all)

-- so where it shows not one row in form
pub no_row : {A : Type 0} (records : TableRecords A) (stored rows : List Row) → IsPermutation stored rows
    → ¬ IsOneRow records rows → ¬ IsOneRow records stored
no_row records stored rows same none found =
    let counted = records.counted in
    none (
      found.0,
      found.1,
      only_row _ _ (subst (λ shown. IsPermutation shown (map (as_read counted) rows)) found.2
          (IsPermutation-map (as_read counted) _ _ same)),
    )

-- no version that is said, so not this one
pub unsaid : (version : ℕ) (db : Database) → SaysNoVersion db → IsUnread db (query_text desk_table) (IsDeskOf version)
unsaid version db (inl none) = inl none
unsaid version db (inr shown) = inr (shown.0, shown.1, λ one. shown.2 one.0)

-- where another version is said, this one is not read
pub stops_at_another : {A : Type 0} (version : ℕ) (old new : State) (desk : DeskRow) (answer : Result A Fault)
    → ReadsOn old new → (HasCleanDisk new → ReadsDesk old desk) → desk.version ≢ version
    → Stops version old new answer (λ trees. ¬ IsDeskOf version (as_shown desk_table trees))
    (λ db. IsUnread db (query_text desk_table) (IsDeskOf version))
stops_at_another version old new desk answer on reads other = record {
  right = λ clean accounts book held e.
      let is = (reads clean).given version held.1.known accounts book held in
      let same : desk ≡ desk_row_of version book.day = cc in
      other (ap (λ (d : DeskRow). d.version) same);
  wrong = λ clean trees file e one.
      let rows = (reads clean).rows version file.known trees file in
      other_version version desk other (as_shown desk_table trees) rows one;
  unread = λ clean known e.
      let shown = (reads clean).shown in
      inr (shown.0, shown.1, other_version version desk other shown.0 shown.2);
  same = λ clean _. on.keeps clean;
  survives = on.survives;
}

pub not_read : {A : Type 0} (r : Result A Fault) (fault : Fault) (None : Type 0) → IfErr r (λ it. (it ≡ fault) × None)
    → r ≡ Err fault → None
not_read {A = A} (Ok it) fault None why e =
    absurd (let clash : ◌≡◌ {A = Result A Fault} (Ok it) (Err fault) = e in cc)
not_read (Err it) fault None why e = why.1
