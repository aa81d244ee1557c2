-- What cutting off a day gives, test by test, and its change.
use Rattle.std.proofs.Common.{◌≡◌, ◌==◌, ℕ, Bool, true, false, not, ◌&&◌, true≢false, sym, if◌then◌else◌, List, [], ◌∷◌}
use Rattle.std.proofs.Common.{Ok, Err, Some, None, refl}
use Rattle.std.specs.Ordering.{int_eq}
use Rattle.rtgs_book.specs.declared.command.Command.TheVariants as command
use Rattle.rtgs_book.specs.declared.answer.Answer.TheVariants.{CutOffDone, Repeated}
use Rattle.rtgs_book.specs.declared.answer.Known.TheVariants.{Nothing}
use Rattle.rtgs_book.specs.declared.refusal.Refusal.TheVariants.{WrongPhase, WrongDate}
use Rattle.rtgs_book.specs.declared.change.RowChange.TheVariants.{SetDay}
use Rattle.rtgs_book.specs.declared.book.Book.{Book}
use Rattle.rtgs_book.specs.declared.day.Day.{Day}
use Rattle.rtgs_book.specs.declared.phase.Phase.TheVariants.{CutOff}
use Rattle.rtgs_book.specs.Balance.{balance}
use Rattle.rtgs_book.specs.Books.{is_open, is_cut_off}
use Rattle.rtgs_book.specs.Changes.{Leads, balance_set}
use Rattle.rtgs_book.specs.Commands.{cut_off, with_day, is_date}
use Rattle.rtgs_book.specs.Lookup.{codes_of}
use Rattle.rtgs_book.specs.Outcome.{first_of}
use Rattle.rtgs_book.specs.Step.{OwnStep}
use Rattle.rtgs_ledger.proofs.Balances.{all_same}
use Rattle.rtgs_ledger.proofs.Kept.{prepared_done}
use Rattle.rtgs_ledger.proofs.Whole.{Held, IsKept, IsPrepared}
use Rattle.rtgs_lists.proofs.Lists.{all_of}
use Rattle.rtgs_lists.proofs.Numbers.{int_eq_self}

-- a date and the day's date
pub other_date : (day date : ℕ) → not (day == date) ≡ true → is_date (Some day) date ≡ false
other_date day date e = by (day == date) e
  where
    by : (b : Bool) → not b ≡ true → b ≡ false
    by true f = absurd (true≢false (sym f))
    by false f = refl

pub same_date : (day date : ℕ) → not (day == date) ≡ false → is_date (Some day) date ≡ true
same_date day date e = by (day == date) e
  where
    by : (b : Bool) → not b ≡ false → b ≡ true
    by true f = refl
    by false f = absurd (true≢false f)

module _ (book : Book) (date : ℕ) where
  pub repeats : (is_cut_off book.day.phase && is_date book.day.date date) ≡ true
      → OwnStep book (command.CutOff date) (Ok (Repeated Nothing)) book
  unfolding cut_off first_of
  repeats same = rw same refl

  module _ (new : (is_cut_off book.day.phase && is_date book.day.date date) ≡ false) where
    pub wrong_phase : is_open book.day.phase ≡ false → OwnStep book (command.CutOff date) (Err WrongPhase) book
    unfolding cut_off first_of
    wrong_phase shut = rw (new, shut) refl

    pub wrong_date : is_open book.day.phase ≡ true → is_date book.day.date date ≡ false
        → OwnStep book (command.CutOff date) (Err WrongDate) book
    unfolding cut_off first_of
    wrong_date opened other = rw (new, opened, other) refl

    pub cuts_off : is_open book.day.phase ≡ true → is_date book.day.date date ≡ true
        → OwnStep book (command.CutOff date) (Ok CutOffDone) (with_day book (record book.day { phase = CutOff }))
    unfolding cut_off first_of
    cuts_off opened same = rw (new, opened, same) refl

module _ (held : Held) (kept : IsKept held) (date : ℕ) where
  abbrev day : Day
  day = record held.content.day { phase = CutOff }

  balance_same : (c : List ℕ) → balance held.content c ≡ balance (with_day held.content day) c
  unfolding balance
  balance_same c = refl

  leads_to_it : Leads held.content (SetDay day ∷ []) (with_day held.content day)
  leads_to_it = record {
    book = refl;
    balances = all_of (λ c. balance_set c (SetDay day ∷ []) ≡ (if int_eq (balance held.content c)
        (balance (with_day held.content day) c) then None else Some (balance (with_day held.content day) c)))
        (λ c. rw (← balance_same c, int_eq_self (balance held.content c)) refl) (codes_of (with_day held.content day));
  }

  pub prepared_cut_off : (is_cut_off held.content.day.phase && is_date held.content.day.date date) ≡ false
      → is_open held.content.day.phase ≡ true → is_date held.content.day.date date ≡ true
      → IsPrepared held (command.CutOff date) CutOffDone (SetDay day ∷ [])
  prepared_cut_off new opened same =
      prepared_done held (command.CutOff date) CutOffDone (SetDay day ∷ []) (with_day held.content day) tt
      (cuts_off held.content date new opened same) leads_to_it (tt, tt)
      (all_same (balance held.content) (balance (with_day held.content day)) balance_same held.accounts kept.balanced)
      (λ k e. absurd (cc)) (λ e. absurd (cc))
