-- The ranges that the types of the records carry, as a fact about a book.
use Rattle.std.specs.List.{AllByRecursion}
use Rattle.rtgs_money.specs.Amounts.{IsAmount, IsPostingAmount, IsCredit}
use Rattle.rtgs_book.specs.Books.{Book, Participant, Posting, Order}

-- each credit, posting and order has an amount in its range
pub record Fits (book : Book) : Type 0 where
  pub credits : AllByRecursion (λ (p : Participant). IsCredit p.credit) book.participants
  pub postings : AllByRecursion (λ (p : Posting). IsPostingAmount p.cents) book.postings
  pub orders : AllByRecursion (λ (o : Order). IsAmount o.amount) book.orders
