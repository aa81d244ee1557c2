-- A book that tables of an earlier version hold has no automatic day, and so is calm.
use Rattle.std.proofs.Common.{◌≡◌, ◌∙◌, ◌<◌, ◌&&◌, ℕ, Bool, true, false, not, List, [], ◌∷◌, refl, sym, ap, arith}
use Rattle.std.specs.List.{AllByRecursion}
use Rattle.sqlite.specs.Order.{Row}
use Rattle.sqlite.specs.Tree.{Trees}
use Rattle.rtgs_lists.proofs.Lists.{all_get}
use Rattle.rtgs_book.specs.Books.{is_closed, new_book}
use Rattle.rtgs_book.specs.Calm.{IsCalm}
use Rattle.rtgs_book.specs.declared.book.Book.{Book}
use Rattle.rtgs_book.specs.declared.day.Day.{Day}
use Rattle.rtgs_rows.specs.Content.{Content}
use Rattle.rtgs_rows.specs.Migrating.{HasNoMore}
use Rattle.rtgs_rows.specs.Rows.{choice_row, resolution_number}
use Rattle.rtgs_rows.specs.Tables.{versions}
use Rattle.rtgs_rows.specs.declared.numbers.TheConstants.{VERSION}
use Rattle.rtgs_book_file.specs.stored_desk.Migrated.{AreOlderTablesOf}

-- a day whose row is that of a new desk is not automatic
plain : (automatic : Bool) → resolution_number automatic ≡ resolution_number false → automatic ≡ false
plain false same = refl
plain true same = absurd (omega arith)

plain_day : (day : Day) → ◌≡◌ {A = List Row} (choice_row day ∷ []) (choice_row new_book.day ∷ [])
    → day.automatic ≡ false
plain_day day rows =
    let number : resolution_number day.automatic ≡ resolution_number false = cc in
    plain day.automatic number

first_of : {rows more : List Row}
    → ◌≡◌ {A = List (List Row)} (rows ∷ []) (more ∷ []) → rows ≡ more
first_of e = cc

second_of : {first rows other more : List Row}
    → ◌≡◌ {A = List (List Row)} (first ∷ rows ∷ []) (other ∷ more ∷ []) → rows ≡ more
second_of e = cc

-- in the records of an earlier version the day is not automatic
abbrev IsPlainIn : Content → ℕ → Type 0
IsPlainIn content version = version < VERSION → HasNoMore version content → content.day.automatic ≡ false

each_is_plain : (content : Content) → AllByRecursion (IsPlainIn content) versions
each_is_plain content = (
  λ earlier none. plain_day content.day (second_of none),
  (λ earlier none. plain_day content.day (first_of none), (λ same none. absurd (omega arith), tt)),
)

-- what is off is not on
off : (automatic running : Bool) → automatic ≡ false → (automatic && running) ≡ true → ⊥
off false running plain on = let bad : false ≡ true = on in cc
off true running plain on = let bad : true ≡ false = plain in cc

pub older_is_calm : (book : Book) (trees : Trees) → AreOlderTablesOf book trees → IsCalm book
older_is_calm book trees older automatic choice greatest =
    let tells = older.tells in
    let plain = all_get (IsPlainIn tells.content) versions older.known.0 older.version older.known.1
    (sym older.known.2) (each_is_plain tells.content) older.earlier tells.no_more in
    absurd (off book.day.automatic (not (is_closed book.day.phase))
    (ap (λ (day : Day). day.automatic) (sym tells.same.records.lists.day) ∙ plain) automatic)
