-- Which record of a date comes next.
use Rattle.std.specs.Prelude.{ℕ, ◌<◌, ◌≤◌, ◌==◌, Bool, ◌&&◌, nat_lt, List, [], ◌∷◌, Option, unwrap_or, ⊤}
use Rattle.std.specs.List.{AllByRecursion, find}
use Rattle.rtgs_book.specs.declared.limits.TheConstants.{LARGEST_NUMBER}
use Rattle.rtgs_book.specs.declared.book.Book.{Book}
use Rattle.rtgs_book.specs.declared.posting.Posting.{Posting}
use Rattle.rtgs_book.specs.declared.order.Order.{Order}
use Rattle.rtgs_book.specs.declared.mark.Mark.{Mark}
use Rattle.rtgs_book.specs.Commands.{is_date}

-- ---- of the date, with a number above this one

abbrev pub is_posting_after : ℕ → ℕ → Posting → Bool
is_posting_after date number p = is_date p.date date && nat_lt number p.number

abbrev pub is_order_after : ℕ → ℕ → Order → Bool
is_order_after date number o = (o.date == date) && nat_lt number o.number

abbrev pub is_mark_after : ℕ → ℕ → Mark → Bool
is_mark_after date number m = (m.date == date) && nat_lt number m.number

-- ---- the first such one of a book, which has the least number, since numbers rise

unfoldable pub posting_after : Book → ℕ → ℕ → Option Posting
posting_after book date number = find (is_posting_after date number) book.postings

unfoldable pub order_after : Book → ℕ → ℕ → Option Order
order_after book date number = find (is_order_after date number) book.orders

unfoldable pub mark_after : Book → ℕ → ℕ → Option Mark
mark_after book date number = find (is_mark_after date number) book.marks

-- ---- lists of records

-- the date of a posting as a number, and 0 where it has none
abbrev pub date_of_posting : Posting → ℕ
date_of_posting p = unwrap_or p.date 0

-- The numbers rise, and none is above the greatest.
abbrev pub AreNumberedInOrder : {A : Type 0} → (A → ℕ) → List A → Type 0
AreNumberedInOrder number [] = ⊤
AreNumberedInOrder number (x ∷ xs) = (number x ≤ LARGEST_NUMBER) × AllByRecursion (λ y. number x < number y) xs
    × AreNumberedInOrder number xs

-- The dates never fall.
abbrev pub AreDatedInOrder : {A : Type 0} → (A → ℕ) → List A → Type 0
AreDatedInOrder date [] = ⊤
AreDatedInOrder date (x ∷ xs) = AllByRecursion (λ y. date x ≤ date y) xs × AreDatedInOrder date xs

-- So it is with the numbers, and with the dates.
pub record AreListed {A : Type 0} (number date : A → ℕ) (xs : List A) : Type 0 where
  pub numbers : AreNumberedInOrder number xs
  pub dates : AreDatedInOrder date xs
