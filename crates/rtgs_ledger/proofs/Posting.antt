-- What a posting gives, test by test, and its change.
use Rattle.std.proofs.Common.{◌≡◌, ℕ, ◌+◌, ℤ, pos, ◌+ℤ◌, Bool, true, false, ◌&&◌, if◌then◌else◌, nat_le, List, [], ◌∷◌}
use Rattle.std.proofs.Common.{◌++◌, length, find, Ok, Err, Some, None, refl, sym, ap, subst, ◌∙◌, arith}
use Rattle.std.proofs.lemmas.Int.{ints}
use Rattle.std.specs.Cmp.Lexicographic.{bytes_decides}
use Rattle.std.specs.Prelude.{int_lt}
use Rattle.std.specs.Str.{bytes_eq}
use Rattle.std.specs.Ordering.{int_eq}
use Rattle.rtgs_book.specs.declared.command.Command.TheVariants as command
use Rattle.rtgs_book.specs.declared.answer.Answer.TheVariants.{Posted, Repeated}
use Rattle.rtgs_book.specs.declared.answer.Known.TheVariants as known
use Rattle.rtgs_book.specs.declared.refusal.Refusal.TheVariants.{UnknownParticipant, ReferenceUsed, NumbersUsedUp}
use Rattle.rtgs_book.specs.declared.refusal.Refusal.TheVariants.{TotalTooLarge, NoCover}
use Rattle.rtgs_book.specs.declared.book.Book.{Book}
use Rattle.rtgs_book.specs.declared.posting.Posting.{Posting}
use Rattle.rtgs_book.specs.Balance.{balance, floor, total}
use Rattle.rtgs_book.specs.Lookup.{is_participant, posting_named, codes_of}
use Rattle.rtgs_book.specs.Outcome.{first_of}
use Rattle.rtgs_book.specs.Commands.{post}
use Rattle.rtgs_book.specs.Step.{OwnStep}
use Rattle.rtgs_money.specs.Amounts.{IsPostingAmount}
use Rattle.rtgs_book.specs.declared.change.RowChange.TheVariants.{AddPosting, SetBalance}
use Rattle.rtgs_book.specs.Changes.{Leads, balance_set}
use Rattle.rtgs_book.specs.declared.account.Account.{Account}
use Rattle.rtgs_book.specs.declared.limits.TheConstants.{LARGEST_NUMBER, LARGEST_TOTAL}
use Rattle.rtgs_records.specs.accounts.Accounts.{is_of, with_balance}
use Rattle.rtgs_ledger.proofs.Balances.{other_int, moved, all_moved, all_same, balance-with_posting}
use Rattle.rtgs_ledger.proofs.Kept.{is_known, balance_at, prepared_done}
use Rattle.rtgs_ledger.proofs.Whole.{IsKept, IsPrepared, Whole, book_of, held_of}
use Rattle.rtgs_lists.proofs.Lists.{all_of}
use Rattle.rtgs_lists.proofs.Numbers.{int_eq_self}

-- the posting that is added
abbrev pub next_posting : Book → List ℕ → List ℕ → ℤ → Posting
next_posting book code reference cents = record {
  number = length book.postings + 1;
  code = code;
  reference = reference;
  cents = cents;
  date = book.day.date;
}

abbrev pub with_posting : Book → Posting → Book
with_posting book posting = record book { postings = book.postings ++ posting ∷ [] }

module _ (book : Book) (code reference : List ℕ) (cents : ℤ) where
  pub unknown : is_participant book code ≡ false → OwnStep book (command.Post code reference cents)
      (Err UnknownParticipant) book
  unfolding post first_of
  unknown e = rw e refl

  pub repeats : is_participant book code ≡ true → (p : Posting) → posting_named book reference ≡ Some p
      → (bytes_eq p.code code && int_eq p.cents cents) ≡ true
      → OwnStep book (command.Post code reference cents) (Ok (Repeated (known.Posting p.number))) book
  unfolding post first_of
  repeats e p found same = rw (e, found, same) refl

  pub reference_used : is_participant book code ≡ true → (p : Posting) → posting_named book reference ≡ Some p
      → (bytes_eq p.code code && int_eq p.cents cents) ≡ false
      → OwnStep book (command.Post code reference cents) (Err ReferenceUsed) book
  unfolding post first_of
  reference_used e p found other = rw (e, found, other) refl

  module _ (known : is_participant book code ≡ true) (absent : posting_named book reference ≡ None) where
    pub numbers_used_up : nat_le LARGEST_NUMBER (length book.postings) ≡ true
        → OwnStep book (command.Post code reference cents) (Err NumbersUsedUp) book
    unfolding post first_of
    numbers_used_up many = rw (known, absent, many) refl

    pub total_too_large : nat_le LARGEST_NUMBER (length book.postings) ≡ false
        → (int_lt (pos 0) cents && int_lt (pos LARGEST_TOTAL) (total book +ℤ cents)) ≡ true
        → OwnStep book (command.Post code reference cents) (Err TotalTooLarge) book
    unfolding post first_of
    total_too_large few large = rw (known, absent, few, large) refl

    pub no_cover : nat_le LARGEST_NUMBER (length book.postings) ≡ false
        → (int_lt (pos 0) cents && int_lt (pos LARGEST_TOTAL) (total book +ℤ cents)) ≡ false
        → (int_lt cents (pos 0) && int_lt (balance book code +ℤ cents) (floor book code)) ≡ true
        → OwnStep book (command.Post code reference cents) (Err NoCover) book
    unfolding post first_of
    no_cover few small short = rw (known, absent, few, small, short) refl

    pub posts : nat_le LARGEST_NUMBER (length book.postings) ≡ false
        → (int_lt (pos 0) cents && int_lt (pos LARGEST_TOTAL) (total book +ℤ cents)) ≡ false
        → (int_lt cents (pos 0) && int_lt (balance book code +ℤ cents) (floor book code)) ≡ false
        → OwnStep book (command.Post code reference cents) (Ok (Posted (length book.postings + 1)))
        (with_posting book (next_posting book code reference cents))
    unfolding post first_of
    posts few small covered = rw (known, absent, few, small, covered) refl

moved_int : (z cents : ℤ) → (cents ≡ pos 0 → ⊥) → int_eq z (z +ℤ cents) ≡ false
moved_int z cents apart = other_int z (z +ℤ cents) (λ e. apart (omega (arith, ints)))

module _ (r : Whole) (kept : IsKept (held_of r)) (code reference : List ℕ) (cents : ℤ) (a : Account)
    (found : find (is_of code) r.accounts.accounts ≡ Some a) (b : ℤ) (sum : b ≡ a.balance +ℤ cents) where
  abbrev q : Posting
  q = next_posting (book_of r) code reference cents

  balance_new : (c : List ℕ) (t : Bool) → bytes_eq code c ≡ t
      → balance (with_posting (book_of r) q) c ≡ balance (book_of r) c +ℤ (if t then cents else pos 0)
  balance_new c t e = subst (λ t. balance (with_posting (book_of r) q) c
      ≡ balance (book_of r) c +ℤ (if t then cents else pos 0)) e (balance-with_posting (book_of r) q c)

  balance_of_it : (c : List ℕ) → bytes_eq code c ≡ true → b ≡ balance (with_posting (book_of r) q) c
  balance_of_it c e = sum ∙ ap (λ z. z +ℤ cents) (balance_at r kept code a found
      ∙ ap (balance (book_of r)) ((bytes_decides code c).0 e)) ∙ sym (balance_new c true e)

  balance_of_other : (c : List ℕ) → bytes_eq code c ≡ false → balance (with_posting (book_of r) q) c
      ≡ balance (book_of r) c
  balance_of_other c e = balance_new c false e ∙ omega (arith, ints)

  sets_one : (cents ≡ pos 0 → ⊥) → (c : List ℕ) → balance_set c (AddPosting q ∷ SetBalance code b ∷ [])
      ≡ (if int_eq (balance (book_of r) c) (balance (with_posting (book_of r) q) c) then None else Some
      (balance (with_posting (book_of r) q) c))
  sets_one apart c = by (bytes_eq code c) refl
    where
      by : (t : Bool) → bytes_eq code c ≡ t → (if t then Some b else None)
          ≡ (if int_eq (balance (book_of r) c) (balance (with_posting (book_of r) q) c) then None else Some
          (balance (with_posting (book_of r) q) c))
      by true e = rw (balance_new c true e, moved_int (balance (book_of r) c) cents apart)
          (ap Some (balance_of_it c e ∙ balance_new c true e))
      by false e = rw (balance_of_other c e, int_eq_self (balance (book_of r) c)) refl

  is_moved : (c : List ℕ) → moved code b (balance (book_of r)) c ≡ balance (with_posting (book_of r) q) c
  is_moved c = by (bytes_eq code c) refl
    where
      by : (t : Bool) → bytes_eq code c ≡ t → (if t then b else balance (book_of r) c)
          ≡ balance (with_posting (book_of r) q) c
      by true e = balance_of_it c e
      by false e = sym (balance_of_other c e)

  pub prepared_post : IsPostingAmount cents
      → posting_named (book_of r) reference ≡ None → nat_le LARGEST_NUMBER (length r.postings) ≡ false
      → (int_lt (pos 0) cents && int_lt (pos LARGEST_TOTAL) (total (book_of r) +ℤ cents)) ≡ false
      → (int_lt cents (pos 0) && int_lt (balance (book_of r) code +ℤ cents) (floor (book_of r) code)) ≡ false
      → IsPrepared (held_of r) (command.Post code reference cents) (Posted (length r.postings + 1))
      (AddPosting q ∷ SetBalance code b ∷ [])
  prepared_post in_range absent few small covered =
      let step = posts (book_of r) code reference cents (is_known r kept code a found) absent few small covered in
      let leads : Leads (book_of r) (AddPosting q ∷ SetBalance code b ∷ []) (with_posting (book_of r) q) =
      record { book = refl; balances = all_of _ (sets_one in_range.0) (codes_of (with_posting (book_of r) q)) } in
      prepared_done (held_of r) (command.Post code reference cents) (Posted (length r.postings + 1))
      (AddPosting q ∷ SetBalance code b ∷ []) (with_posting (book_of r) q) in_range step leads
      (tt, (tt, tt))
      (all_same (moved code b (balance (book_of r))) (balance (with_posting (book_of r) q)) is_moved
      (with_balance code b r.accounts.accounts) (all_moved code b (balance (book_of r)) r.accounts.accounts
      kept.balanced))
      (λ k e. absurd (cc)) (λ e. absurd (cc))
