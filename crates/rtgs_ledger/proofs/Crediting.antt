-- What setting a credit limit gives, test by test, and its change.
use Rattle.std.proofs.Common.{◌≡◌, ℕ, pos, neg_ℤ, true, false, not, ◌&&◌, if◌then◌else◌, List, [], ◌∷◌}
use Rattle.std.proofs.Common.{Ok, Err, Some, None, refl}
use Rattle.std.specs.Prelude.{int_lt}
use Rattle.std.specs.Ordering.{int_eq}
use Rattle.rtgs_money.specs.Amounts.{IsCredit}
use Rattle.rtgs_book.specs.declared.command.Command.TheVariants as command
use Rattle.rtgs_book.specs.declared.answer.Answer.TheVariants.{CreditSet}
use Rattle.rtgs_book.specs.declared.refusal.Refusal.TheVariants.{UnknownParticipant, NoCover}
use Rattle.rtgs_book.specs.declared.change.RowChange.TheVariants.{SetCredit}
use Rattle.rtgs_book.specs.declared.book.Book.{Book}
use Rattle.rtgs_book.specs.Balance.{balance}
use Rattle.rtgs_book.specs.Books.{is_closed}
use Rattle.rtgs_book.specs.Changes.{Leads, balance_set}
use Rattle.rtgs_book.specs.Commands.{set_credit, with_credit}
use Rattle.rtgs_book.specs.Lookup.{codes_of, is_participant}
use Rattle.rtgs_book.specs.Outcome.{first_of}
use Rattle.rtgs_book.specs.Step.{OwnStep}
use Rattle.rtgs_records.specs.accounts.Accounts.{with_limit}
use Rattle.rtgs_ledger.proofs.Balances.{all_same}
use Rattle.rtgs_ledger.proofs.Kept.{prepared_done}
use Rattle.rtgs_ledger.proofs.Resolving.{balanced_limit}
use Rattle.rtgs_ledger.proofs.Whole.{Held, IsKept, IsPrepared}
use Rattle.rtgs_lists.proofs.Lists.{all_of}
use Rattle.rtgs_lists.proofs.Numbers.{int_eq_self}

module _ (book : Book) (code : List ℕ) (credit : ℕ) where
  pub unknown : is_participant book code ≡ false → OwnStep book (command.SetCredit code credit) (Err UnknownParticipant)
      book
  unfolding set_credit first_of
  unknown e = rw e refl

  module _ (known : is_participant book code ≡ true) where
    pub no_cover : (not (is_closed book.day.phase) && int_lt (balance book code) (neg_ℤ (pos credit))) ≡ true
        → OwnStep book (command.SetCredit code credit) (Err NoCover) book
    unfolding set_credit first_of
    no_cover past = rw (known, past) refl

    pub sets : (not (is_closed book.day.phase) && int_lt (balance book code) (neg_ℤ (pos credit))) ≡ false
        → OwnStep book (command.SetCredit code credit) (Ok CreditSet) (with_credit book code credit)
    unfolding set_credit first_of
    sets within = rw (known, within) refl

module _ (held : Held) (kept : IsKept held) (code : List ℕ) (credit : ℕ) where
  balance_same : (c : List ℕ) → balance held.content c ≡ balance (with_credit held.content code credit) c
  unfolding balance with_credit
  balance_same c = refl

  leads_to_it : Leads held.content (SetCredit code credit ∷ []) (with_credit held.content code credit)
  leads_to_it = record {
    book = refl;
    balances = all_of (λ c. balance_set c (SetCredit code credit ∷ [])
        ≡ (if int_eq (balance held.content c) (balance (with_credit held.content code credit) c) then None else Some
        (balance (with_credit held.content code credit) c)))
        (λ c. rw (← balance_same c, int_eq_self (balance held.content c)) refl)
        (codes_of (with_credit held.content code credit));
  }

  pub prepared_credit : IsCredit credit → is_participant held.content code ≡ true
      → (not (is_closed held.content.day.phase) && int_lt (balance held.content code) (neg_ℤ (pos credit))) ≡ false
      → IsPrepared held (command.SetCredit code credit) CreditSet (SetCredit code credit ∷ [])
  prepared_credit fits known within =
      prepared_done held (command.SetCredit code credit) CreditSet (SetCredit code credit ∷ [])
      (with_credit held.content code credit) fits (sets held.content code credit known within)
      leads_to_it (tt, tt)
      (all_same (balance held.content) (balance (with_credit held.content code credit)) balance_same
      (with_limit code credit held.accounts) (balanced_limit (balance held.content) code credit held.accounts
      kept.balanced))
      (λ k e. absurd (cc)) (λ e. absurd (cc))
