use Rattle.std.proofs.Common.{◌≡◌, ◌∙◌, refl, sym, ap, Option, Some, None, find, IfSome, subst}
use Rattle.std.specs.Option.{option_map}
use Rattle.rtgs_book.specs.declared.book.Book.{Book}
use Rattle.rtgs_book.specs.Balance.{balance}
use Rattle.rtgs_book.specs.Lookup as lookup
use Rattle.rtgs_book.specs.declared.account.Account.{Account}
use Rattle.rtgs_records.specs.accounts.Accounts.{is_of, participant_in}
use Rattle.rtgs_ledger.proofs.Kept.{find-participants, balance_at}
use Rattle.rtgs_ledger.proofs.Whole.{Whole, whole, book_of, is_of_book}
use Rattle.rtgs_ledger.proofs.ledger.Ledger.account.Goals as goal

pub returns-clause-participant : goal.returns-clause-participant
unfolding lookup.participant_of
returns-clause-participant c book is =
    let r = c.self.inside.records in
    let of = is_of_book book r c.args.self.now c.self.view_is is in
    subst (λ (b : Book). option_map participant_in c.get.result ≡ lookup.participant_of b c.args.code.now) of.same
    (ap (option_map participant_in) c.get.ensures ∙ sym (find-participants c.args.code.now r.accounts.accounts))

pub returns-clause-balance : goal.returns-clause-balance
returns-clause-balance c book is =
    let r = c.self.inside.records in
    let of = is_of_book book r c.args.self.now c.self.view_is is in
    subst (λ (b : Book). IfSome c.get.result (λ a. a.balance ≡ balance b c.args.code.now)) of.same
    (rw c.get.ensures (by (whole book r) (find (is_of c.args.code.now) r.accounts.accounts)
    (λ a e. balance_at (whole book r) of.kept c.args.code.now a e)))
  where
    by : (w : Whole) (found : Option Account) → ((a : Account) → found ≡ Some a
        → a.balance ≡ balance (book_of w) c.args.code.now)
        → IfSome found (λ a. a.balance ≡ balance (book_of w) c.args.code.now)
    by w None h = tt
    by w (Some a) h = h a refl
