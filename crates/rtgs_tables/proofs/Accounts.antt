-- The records as they are read.
use Rattle.std.proofs.Common.{◌≡◌, ℕ, Bool, true, false, List, [], ◌∷◌, map, Option, IsPermutation, ap, ap₂, refl}
use Rattle.std.proofs.Common.{sym, subst, ◌∙◌, arith}
use Rattle.std.specs.List.{AllByRecursion}
use Rattle.std.proofs.lemmas.List.Sorted.{IsPermutation-map}
use Rattle.std.specs.List.Sorted.{IsStrictlySortedBy}
use Rattle.std.specs.Ordering.{nat_cmp}
use Rattle.std.specs.declared.cmp.Ordering.TheVariants.{Less}
use Rattle.std.specs.Cmp.Lexicographic.{slice_cmp}
use Rattle.sqlite.specs.Order.{Row}
use Rattle.sqlite.specs.State.{State}
use Rattle.sqlite.specs.Tree.{IsAscending}
use Rattle.rtgs_sql_queries.specs.Records.{AreRead, HasRecords}
use Rattle.sqlite_keyed.proofs.ListLemmas.{ascending-map, ascending_from_map, map_back}
use Rattle.rtgs_book.specs.declared.book.Book.{Book}
use Rattle.rtgs_book.specs.declared.day.Day.{Day}
use Rattle.rtgs_book.specs.Books.{new_book}
use Rattle.rtgs_book.specs.Balance.{balance}
use Rattle.rtgs_book.specs.declared.participant.Participant.{Participant}
use Rattle.rtgs_book.specs.Lookup.{codes_of}
use Rattle.rtgs_book.specs.Soundness.{CodesRise, FitsDue}
use Rattle.rtgs_book.specs.Settle.{today}
use Rattle.rtgs_book.specs.declared.order.Order.{Order}
use Rattle.rtgs_lists.proofs.Lists.{all_get}
use Rattle.rtgs_rows.specs.Content.{Holding, Content, RestsIn, stored_account}
use Rattle.rtgs_book.specs.declared.account.Account.{Account}
use Rattle.rtgs_rows.specs.Keeping.{SameLists, IsBookOf, AreBalances}
use Rattle.rtgs_rows.specs.RowLaws.{RecordsStandInOrder}
use Rattle.rtgs_rows.specs.Dues.{IsHeldByDue}
use Rattle.rtgs_rows.specs.Migrating.{HasNoMore}
use Rattle.rtgs_rows.specs.Rows.{forward_row, resolution_number, resolution_row_of, choice_row}
use Rattle.rtgs_rows.specs.TableRecords.{HasNoMoreBeyond}
use Rattle.rtgs_rows.specs.Tables.{IsVersion, versions}
use Rattle.rtgs_rows.specs.declared.forward.Forward.{Forward}
use Rattle.rtgs_rows.specs.declared.resolution_row.ResolutionRow.{ResolutionRow}

abbrev account_of : Book → Participant → Account
account_of book p = record { participant = p; balance = balance book p.code }

-- the participants of a book with their balances
abbrev pub accounts_of : Book → List Account
accounts_of book = map (account_of book) book.participants

strict_codes : (codes : List (List ℕ)) → IsStrictlySortedBy (slice_cmp nat_cmp) codes
    → IsAscending (λ a b. slice_cmp nat_cmp a b ≡ Less) codes
unfolding IsStrictlySortedBy
strict_codes [] sorted = tt
strict_codes (x ∷ xs) sorted = (sorted.0, strict_codes xs sorted.1)

in_order_of_codes : (book : Book) → CodesRise book → IsAscending
    (λ (p q : Participant). slice_cmp nat_cmp p.code q.code ≡ Less) book.participants
unfolding codes_of
in_order_of_codes book rise = ascending_from_map (λ (x y : List ℕ). slice_cmp nat_cmp x y ≡ Less)
    (λ (p : Participant). p.code) book.participants (strict_codes _ rise.0)

-- where the stored balances are those of the book, the accounts are those of its participants
own_accounts : (book : Book) (hs : List Holding) → AllByRecursion
    (λ (h : Holding). h.balance ≡ balance book h.participant.code) hs
    → map stored_account hs ≡ map (account_of book) (map (λ (h : Holding). h.participant) hs)
own_accounts book [] stored = refl
own_accounts book (h ∷ hs) stored = ap₂ ◌∷◌ (λ i. record { participant = h.participant; balance = stored.0 i })
    (own_accounts book hs stored.1)

-- no order of a sound book is held without a due date
held_by_dues : (today : ℕ) (os : List Order)
    → AllByRecursion (λ (o : Order). FitsDue today o.due o.date o.state) os → AllByRecursion IsHeldByDue os
held_by_dues today [] fit = tt
held_by_dues today (o ∷ os) fit = (
  λ none. subst (λ (due : Option ℕ). FitsDue today due o.date o.state) none fit.0,
  held_by_dues today os fit.1,
)

no_rows : (forwards : List Forward) → map forward_row forwards ≡ [] → forwards ≡ []
no_rows [] none = refl
no_rows (f ∷ forwards) none = absurd cc

-- a day whose row is that of a new desk is not automatic
plain : (automatic : Bool) → resolution_number automatic ≡ resolution_number false → automatic ≡ false
plain false same = refl
plain true same = absurd (omega arith)

same_choice : (day : Day) → ◌≡◌ {A = List Row} (choice_row day ∷ []) (choice_row new_book.day ∷ [])
    → ◌≡◌ {A = List ResolutionRow} (resolution_row_of day ∷ []) (resolution_row_of new_book.day ∷ [])
same_choice day rows =
    let number : resolution_number day.automatic ≡ resolution_number false = cc in
    λ i. record { automatic = plain day.automatic number i } ∷ []

-- where the tables lack none of the records, the book has no more than a new one beyond them
none_beyond : (version : ℕ) → IsVersion version → (content : Content) (book : Book) (accounts : List Account)
    → SameLists book content → HasNoMore version content → HasNoMoreBeyond version accounts book
none_beyond version known content book accounts same =
    all_get (λ v. HasNoMore v content → HasNoMoreBeyond v accounts book) versions known.0 version known.1
    (sym known.2) (
      λ none. (
        sym same.forwards ∙ no_rows content.forwards (first_of none),
        (chosen (second_of none), tt),
      ),
      (λ none. (chosen (only_of none), tt), (λ none. tt, tt)),
    )
  where
    first_of : {rows more : List Row} → ◌≡◌ {A = List (List Row)} (rows ∷ more ∷ [])
        ([] ∷ (choice_row new_book.day ∷ []) ∷ []) → rows ≡ []
    first_of e = cc

    second_of : {rows more : List Row} → ◌≡◌ {A = List (List Row)} (rows ∷ more ∷ [])
        ([] ∷ (choice_row new_book.day ∷ []) ∷ []) → more ≡ choice_row new_book.day ∷ []
    second_of e = cc

    only_of : {rows : List Row} → ◌≡◌ {A = List (List Row)} (rows ∷ []) ((choice_row new_book.day ∷ []) ∷ [])
        → rows ≡ choice_row new_book.day ∷ []
    only_of e = cc

    chosen : ◌≡◌ {A = List Row} (choice_row content.day ∷ []) (choice_row new_book.day ∷ [])
        → ◌≡◌ {A = List ResolutionRow} (resolution_row_of book.day ∷ []) (resolution_row_of new_book.day ∷ [])
    chosen rows = ap (λ (day : Day). resolution_row_of day ∷ []) (sym same.day) ∙ same_choice content.day rows

are_own : RecordsStandInOrder → (content : Content) (book : Book) → IsBookOf book content
    → AreRead content (accounts_of book) book
are_own in_order content book of =
    record {
      order = in_order book content of;
      stored = subst (λ l. IsPermutation l (accounts_of book)) (sym (own_accounts book content.holdings of.balances))
          (IsPermutation-map (account_of book) _ _ of.records.participants);
      rising = ascending-map (λ (a b : Account). slice_cmp nat_cmp a.participant.code b.participant.code ≡ Less)
          (account_of book) book.participants (in_order_of_codes book of.sound.codes_rise);
      participants = sym (map_back (account_of book) (λ (a : Account). a.participant) (λ p. refl) book.participants);
      lists = of.records.lists;
      fits = of.fits;
      dues = held_by_dues (today book) book.orders of.sound.dates.dues;
    }

pub has_own : RecordsStandInOrder → (version : ℕ) (s : State) (content : Content) (book : Book)
    → RestsIn version content s → HasNoMore version content → IsBookOf book content
    → HasRecords version (accounts_of book) book s
has_own in_order version s content book rests none of = (
  content,
  rests,
  are_own in_order content book of,
  none_beyond version rests.known content book (accounts_of book) of.records.lists none,
)

balances_of : (book : Book) (ps : List Participant) → AreBalances book (map (account_of book) ps)
balances_of book [] = tt
balances_of book (p ∷ ps) = (refl, balances_of book ps)

pub own_balances : (book : Book) → AreBalances book (accounts_of book)
own_balances book = balances_of book book.participants
