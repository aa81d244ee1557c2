-- The rows of the participants, whose row numbers no query shows.
use Rattle.std.proofs.Common.{◌≡◌, ◌+◌, ℤ, pos, nat_abs, List, [], ◌∷◌, map, length, IsTrue, IsPermutation, refl, sym}
use Rattle.std.proofs.Common.{ap₂, subst, subst₂, ◌∙◌}
use Rattle.std.specs.List.{AllByRecursion}
use Rattle.std.specs.Ordering.{int_cmp}
use Rattle.std.specs.declared.cmp.Ordering.TheVariants.{Less}
use Rattle.std.proofs.lemmas.List.Sorted.{IsPermutation-map, IsPermutation-sym}
use Rattle.sqlite_value.proofs.OrderLemmas.{value_cmp-Int}
use Rattle.sqlite_value.specs.Order.{value_cmp, bytes}
use Rattle.sqlite.specs.declared.types.Value.{Value}
use Rattle.sqlite.specs.declared.types.Value.TheVariants.{Null, Int, Real, Text, Blob}
use Rattle.sqlite.specs.Order.{Row, column}
use Rattle.sqlite.specs.Tree.{IsAscending}
use Rattle.sqlite_trees.specs.Tree.{rowid}
use Rattle.sqlite_trees.specs.View.{is_int}
use Rattle.sqlite_trees.proofs.ListLemmas.{all-permutation}
use Rattle.sqlite_keyed.proofs.ListLemmas.{map-map, map_back, all-map, all_unmap, ascending_from_map, ascending_weaker}
use Rattle.rtgs_book.specs.declared.account.Account.{Account}
use Rattle.rtgs_rows.specs.Tables.{participant_table, width, places}
use Rattle.rtgs_rows.specs.Content.{Holding, holding_row, stored_account, Rise}
use Rattle.rtgs_rows.specs.Rows.{shown_account}
use Rattle.rtgs_rows.specs.Querying.{AreNumberedRows, picked}
use Rattle.rtgs_rows.proofs.Numbered.{by_width}

abbrev int_in : Value → ℤ
int_in (Int n) = n
int_in _ = pos 0

abbrev account_in : Row → Account
account_in row = record {
  participant = record {
    code = bytes (column row 0);
    name = bytes (column row 1);
    key = bytes (column row 2);
    credit = nat_abs (int_in (column row 3));
  };
  balance = int_in (column row 4);
}

abbrev shown_columns_of : Row → Row
shown_columns_of = picked (places participant_table)

abbrev pub holding_in : Row → Holding
holding_in row = record {
  id = int_in (column row 0);
  participant = (account_in (shown_columns_of row)).participant;
  balance = (account_in (shown_columns_of row)).balance;
}

account_back : (a : Account) → account_in (shown_account a) ≡ a
account_back a = refl

is_whole_number : (v : Value) → IsTrue (is_int v) → v ≡ Int (int_in v)
is_whole_number Null h = absurd cc
is_whole_number (Int n) h = refl
is_whole_number (Real x) h = absurd cc
is_whole_number (Text t) h = absurd cc
is_whole_number (Blob b) h = absurd cc

participant_is : (row : Row) → IsTrue (is_int (rowid row)) → length row ≡ width participant_table + 1
    → shown_account (account_in (shown_columns_of row)) ≡ shown_columns_of row → row ≡ holding_row (holding_in row)
participant_is row int is e = let id = is_whole_number (column row 0) int in let all = by_width row _ is in cc

holdings_are : (rows : List Row)
    → AllByRecursion (λ row. IsTrue (is_int (rowid row)) × (length row ≡ width participant_table + 1)) rows
    → AllByRecursion (λ row. shown_account (account_in (shown_columns_of row)) ≡ shown_columns_of row) rows
    → rows ≡ map holding_row (map holding_in rows)
holdings_are [] whole shown = refl
holdings_are (row ∷ rows) whole shown = ap₂ ◌∷◌ (participant_is row whole.0.0 whole.0.1 shown.0)
    (holdings_are rows whole.1 shown.1)

-- the participants with their balances, as they are stored
pub record Stores (rows : List Row) (accounts : List Account) : Type 0 where
  pub holdings : List Holding
  pub rows_are : rows ≡ map holding_row holdings
  pub same : IsPermutation (map stored_account holdings) accounts
  pub ids : Rise (λ (h : Holding). h.id) holdings

pub stored_participants : (rows : List Row) (accounts : List Account)
    → AreNumberedRows (width participant_table) rows
    → IsPermutation (map shown_columns_of rows) (map shown_account accounts) → Stores rows accounts
stored_participants rows accounts numbered same =
    let shown = all_unmap (λ row. shown_account (account_in row) ≡ row) shown_columns_of rows
    (all-permutation (λ row. shown_account (account_in row) ≡ row) _ _ (IsPermutation-sym _ _ same)
    (all-map (λ row. shown_account (account_in row) ≡ row) shown_account (λ a. refl) accounts)) in
    let hs = map holding_in rows in
    let are = holdings_are rows numbered.1 shown in
    let up : IsAscending (λ (a b : Holding). value_cmp (Int a.id) (Int b.id) ≡ Less) hs =
    ascending_from_map (λ (a b : Row). value_cmp (rowid a) (rowid b) ≡ Less) holding_row hs
    (subst (IsAscending (λ (a b : Row). value_cmp (rowid a) (rowid b) ≡ Less)) are numbered.0) in
    record {
      holdings = hs;
      rows_are = are;
      same = subst₂ IsPermutation (map-map account_in shown_columns_of rows
          ∙ sym (map-map stored_account holding_in rows))
          (map_back shown_account account_in account_back accounts) (IsPermutation-map account_in _ _ same);
      ids = ascending_weaker (λ (a b : Holding). value_cmp (Int a.id) (Int b.id) ≡ Less)
          (λ (a b : Holding). int_cmp a.id b.id ≡ Less) (λ a b low. sym (value_cmp-Int a.id b.id) ∙ low) hs up;
    }
