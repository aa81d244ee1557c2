-- What laws of rtgs_book say of each book, as the lemmas of this crate take it.
use Rattle.std.proofs.Common.{◌≡◌, ℕ, pos, ◌+ℤ◌, Bool, true, false, cond, List, [], ◌∷◌, ◌++◌, filter}
use Rattle.std.specs.List.{AllByRecursion}
use Rattle.std.specs.Str.{bytes_eq}
use Rattle.rtgs_book.specs.declared.book.Book.{Book}
use Rattle.rtgs_book.specs.declared.order.Order.{Order}
use Rattle.rtgs_book.specs.declared.order_state.OrderState.{OrderState}
use Rattle.rtgs_book.specs.declared.posting.Posting.{Posting}
use Rattle.rtgs_book.specs.Books.{is_queued, is_settled, is_settled_state}
use Rattle.rtgs_book.specs.Lookup.{is_participant}
use Rattle.rtgs_book.specs.IntSum.{int_sum_by}
use Rattle.rtgs_book.specs.Balance.{balance, total, issued, gain}
use Rattle.rtgs_book.specs.Settle.{settle}
use Rattle.rtgs_book.specs.Commands.{let_in, with_state}
use Rattle.rtgs_book.specs.Soundness.{CodesRise, PartiesAreKnown, IsSound}

-- the orders that pass the test are queued
abbrev pub AreQueued : Book → (Order → Bool) → Type 0
AreQueued book is_in = AllByRecursion (λ o. is_in o ≡ true → is_queued o ≡ true) book.orders

-- the orders that pass the test are not settled
abbrev pub AreUnsettled : Book → (Order → Bool) → Type 0
AreUnsettled book is_in = AllByRecursion (λ o. is_in o ≡ true → is_settled o ≡ false) book.orders

abbrev pub TotalIsIssued : Type 0
TotalIsIssued = (book : Book) → CodesRise book → PartiesAreKnown book → total book ≡ issued book

-- what balances are after a change of the book, and the total of all
pub record BookLaws : Type 0 where
  pub posting : (book : Book) (posting : Posting) (code : List ℕ)
      → balance (record book { postings = book.postings ++ posting ∷ [] }) code
      ≡ balance book code +ℤ cond (bytes_eq posting.code code) posting.cents (pos 0)
  pub restating : (book : Book) (is_in : Order → Bool) (state : OrderState) (code : List ℕ)
      → AreUnsettled book is_in → is_settled_state state ≡ false
      → balance (with_state book is_in state) code ≡ balance book code
  pub entering : (book : Book) (is_in : Order → Bool) (date : ℕ) (code : List ℕ) → AreUnsettled book is_in
      → balance (let_in book is_in date) code ≡ balance book code
  pub settling : (book : Book) (is_in : Order → Bool) (code : List ℕ) → AreQueued book is_in
      → balance (settle book is_in) code ≡ balance book code +ℤ int_sum_by (gain code) (filter is_in book.orders)
  pub unknown : (book : Book) (code : List ℕ) → IsSound book → is_participant book code ≡ false
      → balance book code ≡ pos 0
  pub issue : TotalIsIssued
