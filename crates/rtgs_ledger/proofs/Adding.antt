-- What adding a participant gives, test by test, and its change.
use Rattle.std.proofs.Common.{◌≡◌, ℕ, pos, true, false, ◌&&◌, if◌then◌else◌, nat_le, List, [], ◌∷◌, length, find, Ok}
use Rattle.std.proofs.Common.{Err, Some, None, refl, sym, ◌∙◌}
use Rattle.std.specs.List.{list_any}
use Rattle.std.specs.Str.{bytes_eq}
use Rattle.rtgs_book.specs.declared.command.Command.TheVariants.{Add}
use Rattle.rtgs_book.specs.declared.answer.Answer.TheVariants.{Added, Repeated}
use Rattle.rtgs_book.specs.declared.answer.Known.TheVariants.{Nothing}
use Rattle.rtgs_book.specs.declared.refusal.Refusal.TheVariants.{CodeTaken, KeyTaken, TooManyParticipants}
use Rattle.rtgs_book.specs.declared.book.Book.{Book}
use Rattle.rtgs_book.specs.declared.participant.Participant.{Participant}
use Rattle.rtgs_book.specs.Lookup as lookup
use Rattle.rtgs_book.specs.Outcome.{first_of}
use Rattle.rtgs_book.specs.Commands.{add, with_participant, is_before}
use Rattle.rtgs_book.specs.Step.{OwnStep}
use Rattle.std.specs.Ordering.{int_eq}
use Rattle.rtgs_book.specs.declared.change.RowChange.TheVariants.{AddParticipant}
use Rattle.rtgs_book.specs.declared.limits.TheConstants.{MOST_PARTICIPANTS}
use Rattle.rtgs_book.specs.Balance.{balance}
use Rattle.rtgs_book.specs.Changes.{Leads, balance_set}
use Rattle.rtgs_book.specs.Lookup.{codes_of}
use Rattle.rtgs_records.specs.accounts.Accounts.{code_of, is_of, has_key, with_account}
use Rattle.rtgs_ledger.proofs.Balances.{all_same, balance_unknown}
use Rattle.rtgs_ledger.proofs.Kept.{participant_none, is_unknown, any-participants, length-participants, prepared_done}
use Rattle.rtgs_book.specs.cores.Following.{AreBalanced}
use Rattle.rtgs_ledger.proofs.Whole.{IsKept, IsPrepared, Whole, book_of, held_of}
use Rattle.rtgs_lists.proofs.Filters.{all_put_in}
use Rattle.rtgs_lists.proofs.Lists.{all_of}
use Rattle.rtgs_lists.proofs.Numbers.{int_eq_self}

module _ (book : Book) (code name key : List ℕ) where
  pub repeats : (p : Participant) → lookup.participant_of book code ≡ Some p
      → (bytes_eq p.name name && bytes_eq p.key key) ≡ true
      → OwnStep book (Add code name key) (Ok (Repeated Nothing)) book
  unfolding add first_of
  repeats p found same = rw (found, same) refl

  pub code_taken : (p : Participant) → lookup.participant_of book code ≡ Some p
      → (bytes_eq p.name name && bytes_eq p.key key) ≡ false → OwnStep book (Add code name key) (Err CodeTaken) book
  unfolding add first_of
  code_taken p found other = rw (found, other) refl

  pub key_taken : lookup.participant_of book code ≡ None → list_any (λ (p : Participant). bytes_eq p.key key)
      book.participants ≡ true → OwnStep book (Add code name key) (Err KeyTaken) book
  unfolding add first_of
  key_taken absent taken = rw (absent, taken) refl

  pub too_many : lookup.participant_of book code ≡ None → list_any (λ (p : Participant). bytes_eq p.key key)
      book.participants ≡ false → nat_le MOST_PARTICIPANTS (length book.participants) ≡ true
      → OwnStep book (Add code name key) (Err TooManyParticipants) book
  unfolding add first_of
  too_many absent free many = rw (absent, free, many) refl

  pub adds : lookup.participant_of book code ≡ None → list_any (λ (p : Participant). bytes_eq p.key key)
      book.participants ≡ false → nat_le MOST_PARTICIPANTS (length book.participants) ≡ false
      → OwnStep book (Add code name key) (Ok Added) (with_participant book
      (record { code = code; name = name; key = key; credit = 0 }))
  unfolding add first_of
  adds absent free few = rw (absent, free, few) refl

module _ (r : Whole) (kept : IsKept (held_of r)) (code name key : List ℕ)
    (absent : find (is_of code) r.accounts.accounts ≡ None) where
  abbrev p : Participant
  p = record { code = code; name = name; key = key; credit = 0 }

  balance_same : (c : List ℕ) → balance (with_participant (book_of r) p) c ≡ balance (book_of r) c
  unfolding balance with_participant
  balance_same c = refl

  leads_to_it : Leads (book_of r) (AddParticipant p ∷ []) (with_participant (book_of r) p)
  leads_to_it = record {
    book = refl;
    balances = all_of (λ c. balance_set c (AddParticipant p ∷ [])
        ≡ (if int_eq (balance (book_of r) c) (balance (with_participant (book_of r) p) c) then None else Some
        (balance (with_participant (book_of r) p) c))) (λ c. rw (balance_same c, int_eq_self (balance (book_of r) c))
        refl)
        (codes_of (with_participant (book_of r) p));
  }

  no_balance : balance (book_of r) code ≡ pos 0
  no_balance = balance_unknown (book_of r) code kept.sound.parties (is_unknown r kept code absent)

  stays_balanced : AreBalanced (with_participant (book_of r) p)
      (with_account (record { participant = p; balance = pos 0 }) r.accounts.accounts)
  stays_balanced = all_put_in (λ a. a.balance ≡ balance (with_participant (book_of r) p) (code_of a))
      (λ a. is_before (code_of a) code) (record { participant = p; balance = pos 0 }) r.accounts.accounts
      (all_same (balance (book_of r)) (balance (with_participant (book_of r) p)) (λ c. sym (balance_same c))
      r.accounts.accounts kept.balanced)
      (sym (balance_same code ∙ no_balance))

  pub prepared_add : list_any (has_key key) r.accounts.accounts ≡ false
      → nat_le MOST_PARTICIPANTS (length r.accounts.accounts) ≡ false
      → IsPrepared (held_of r) (Add code name key) Added (AddParticipant p ∷ [])
  prepared_add free few =
      let step = adds (book_of r) code name key (participant_none r kept code absent)
      (any-participants key r.accounts.accounts ∙ free) (rw (length-participants r.accounts.accounts) few) in
      prepared_done (held_of r) (Add code name key) Added (AddParticipant p ∷ []) (with_participant (book_of r) p) tt
      step
      leads_to_it ((refl, balance_same code ∙ no_balance), tt) stays_balanced
      (λ k e. absurd (cc)) (λ e. absurd (cc))
