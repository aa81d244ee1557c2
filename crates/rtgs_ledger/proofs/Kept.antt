-- What the accounts of a kept ledger say of its book.
use Rattle.std.proofs.Common.{◌≡◌, ℕ, pos, neg_ℤ, ◌+ℤ◌, Bool, true, false, ◌||◌, cond, if◌then◌else◌, List, [], ◌∷◌}
use Rattle.std.proofs.Common.{map, length, find, Ok, Some, None, option_map, refl, sym, ap, ◌∙◌, subst}
use Rattle.std.proofs.lemmas.List.{length-map}
use Rattle.std.specs.List.{list_any, AllByRecursion}
use Rattle.std.specs.Str.{bytes_eq}
use Rattle.std.specs.Ordering.{int_eq}
use Rattle.rtgs_book.specs.Laws.{CommandFits, BalancesFit}
use Rattle.rtgs_book.specs.Totals.{Within}
use Rattle.std.specs.Cmp.Lexicographic.{bytes_decides}
use Rattle.rtgs_book.specs.declared.book.Book.{Book}
use Rattle.rtgs_book.specs.declared.participant.Participant.{Participant}
use Rattle.rtgs_book.specs.declared.command.Command.{Command}
use Rattle.rtgs_book.specs.declared.answer.Answer.{Answer}
use Rattle.rtgs_book.specs.declared.answer.Answer.TheVariants.{Nothing, Repeated}
use Rattle.rtgs_book.specs.declared.answer.Known.{Known}
use Rattle.rtgs_book.specs.declared.change.RowChange.{RowChange}
use Rattle.rtgs_book.specs.Books.{is_closed}
use Rattle.rtgs_book.specs.Balance.{balance, floor, total}
use Rattle.rtgs_book.specs.Changes.{Leads, StartsEmpty, balance_set, SetsBalances}
use Rattle.rtgs_book.specs.IntSum.{int_sum_by}
use Rattle.rtgs_book.specs.Lookup as lookup
use Rattle.rtgs_book.specs.Lookup.{has_code, codes_of, is_participant, credit_of}
use Rattle.rtgs_book.specs.Step.{OwnStep}
use Rattle.rtgs_book.specs.declared.account.Account.{Account}
use Rattle.rtgs_book.specs.declared.limits.TheConstants.{LARGEST_BALANCE}
use Rattle.rtgs_records.specs.accounts.Accounts.{code_of, participant_in, balance_of, is_of, has_key}
use Rattle.rtgs_book.specs.cores.Following.{AreBalanced}
use Rattle.rtgs_ledger.proofs.Whole.{Held, IsKept, IsPrepared, Whole, after, book_of, held_of}
use Rattle.rtgs_lists.proofs.Codes.{bytes_eq_comm}
use Rattle.rtgs_lists.proofs.Lists.{all_of}
use Rattle.rtgs_lists.proofs.Numbers.{int_eq_self}

-- ---- the accounts and the participants

pub find-participants : (code : List ℕ) (xs : List Account) → find (has_code code) (map participant_in xs)
    ≡ option_map participant_in (find (is_of code) xs)
find-participants code [] = refl
find-participants code (x ∷ xs) = by (is_of code x) (find-participants code xs)
  where
    by : (b : Bool) → find (has_code code) (map participant_in xs) ≡ option_map participant_in (find (is_of code) xs)
        → cond b (Some (participant_in x)) (find (has_code code) (map participant_in xs))
        ≡ option_map participant_in (cond b (Some x) (find (is_of code) xs))
    by true e = refl
    by false e = e

pub any-participants : (key : List ℕ) (xs : List Account) → list_any (λ (p : Participant). bytes_eq p.key key)
    (map participant_in xs) ≡ list_any (has_key key) xs
any-participants key [] = refl
any-participants key (x ∷ xs) = ap (λ b. has_key key x || b) (any-participants key xs)

pub length-participants : (xs : List Account) → length (map participant_in xs) ≡ length xs
length-participants xs = length-map xs participant_in

-- what holds of each code holds of that of an account that is found, which is the code
found_code : (P : List ℕ → Type 0) (code : List ℕ) (xs : List Account) (a : Account) → find (is_of code) xs ≡ Some a
    → AllByRecursion P (map (λ (p : Participant). p.code) (map participant_in xs)) → P code
found_code P code [] a e h = absurd (let f : None ≡ Some a = e in cc)
found_code P code (x ∷ xs) a e h = by (is_of code x) refl e (λ f. found_code P code xs a f h.1)
  where
    by : (b : Bool) → is_of code x ≡ b → cond b (Some x) (find (is_of code) xs) ≡ Some a
        → (find (is_of code) xs ≡ Some a → P code) → P code
    by true f g rest = subst P ((bytes_decides (code_of x) code).0 f) h.0
    by false f g rest = rest g

pub found_is : (code : List ℕ) (xs : List Account) (a : Account) → find (is_of code) xs ≡ Some a → code_of a ≡ code
found_is code [] a e = absurd (let f : None ≡ Some a = e in cc)
found_is code (x ∷ xs) a e = by (is_of code x) refl e (λ f. found_is code xs a f)
  where
    by : (b : Bool) → is_of code x ≡ b → cond b (Some x) (find (is_of code) xs) ≡ Some a
        → (find (is_of code) xs ≡ Some a → code_of a ≡ code) → code_of a ≡ code
    by true f g rest = let same : x ≡ a = cc in ap code_of (sym same) ∙ (bytes_decides (code_of x) code).0 f
    by false f g rest = rest g

pub found_balance : (book : Book) (code : List ℕ) (xs : List Account) (a : Account) → find (is_of code) xs ≡ Some a
    → AreBalanced book xs → a.balance ≡ balance book code
found_balance book code [] a e h = absurd (let f : None ≡ Some a = e in cc)
found_balance book code (x ∷ xs) a e h = by (is_of code x) refl e (λ f. found_balance book code xs a f h.1)
  where
    by : (b : Bool) → is_of code x ≡ b → cond b (Some x) (find (is_of code) xs) ≡ Some a
        → (find (is_of code) xs ≡ Some a → a.balance ≡ balance book code) → a.balance ≡ balance book code
    by true f g rest = let same : x ≡ a = cc in ap (λ (y : Account). y.balance) (sym same) ∙ h.0
        ∙ ap (balance book) ((bytes_decides (code_of x) code).0 f)
    by false f g rest = rest g

found_any : (code : List ℕ) (xs : List Account) (a : Account) → find (is_of code) xs ≡ Some a
    → list_any (bytes_eq code) (map (λ (p : Participant). p.code) (map participant_in xs)) ≡ true
found_any code [] a e = absurd (let f : None ≡ Some a = e in cc)
found_any code (x ∷ xs) a e = by (is_of code x) refl e (λ f. found_any code xs a f)
  where
    by : (b : Bool) → is_of code x ≡ b → cond b (Some x) (find (is_of code) xs) ≡ Some a
        → (find (is_of code) xs ≡ Some a → list_any (bytes_eq code)
        (map (λ (p : Participant). p.code) (map participant_in xs)) ≡ true)
        → list_any (bytes_eq code) (map (λ (p : Participant). p.code) (map participant_in (x ∷ xs))) ≡ true
    by true f g rest = rw (bytes_eq_comm code (code_of x), f) refl
    by false f g rest = rw (bytes_eq_comm code (code_of x), f) (rest g)

pub none_of : (code : List ℕ) (xs : List Account) → find (is_of code) xs ≡ None
    → AllByRecursion (λ a. is_of code a ≡ false) xs
none_of code [] e = tt
none_of code (x ∷ xs) e = by (is_of code x) refl e (none_of code xs)
  where
    by : (b : Bool) → is_of code x ≡ b → cond b (Some x) (find (is_of code) xs) ≡ None
        → (find (is_of code) xs ≡ None → AllByRecursion (λ a. is_of code a ≡ false) xs)
        → AllByRecursion (λ a. is_of code a ≡ false) (x ∷ xs)
    by true f g rest = absurd (let h : Some x ≡ None = g in cc)
    by false f g rest = (f, rest g)

none_any : (code : List ℕ) (xs : List Account) → AllByRecursion (λ a. is_of code a ≡ false) xs
    → list_any (bytes_eq code) (map (λ (p : Participant). p.code) (map participant_in xs)) ≡ false
none_any code [] h = refl
none_any code (x ∷ xs) h = rw (bytes_eq_comm code (code_of x), h.0) (none_any code xs h.1)

sum_of_balances : (book : Book) (xs : List Account) → AreBalanced book xs
    → int_sum_by balance_of xs ≡ int_sum_by (balance book) (map (λ (p : Participant). p.code) (map participant_in xs))
sum_of_balances book [] h = refl
sum_of_balances book (x ∷ xs) h = λ i. h.0 i +ℤ sum_of_balances book xs h.1 i

-- a change of no row, to the same book
pub no_balance_set : (book : Book) → SetsBalances book [] book
no_balance_set book = all_of (λ code. balance_set code [] ≡ (if int_eq (balance book code) (balance book code) then None
    else Some (balance book code))) (λ code. rw (int_eq_self (balance book code)) refl) (codes_of book)

pub prepared_repeat : (held : Held) (c : Command) (k : Known) → IsKept held
    → OwnStep held.content c (Ok (Repeated k)) held.content → IsPrepared held c (Repeated k) []
prepared_repeat held c k kept step = record {
  book = held.content;
  step = step;
  leads = record { book = refl; balances = no_balance_set held.content };
  added = tt;
  in_range = λ some. absurd (some refl);
  balanced = kept.balanced;
  repeated = λ _ _. refl;
  nothing = λ _. refl;
}

module _ (r : Whole) (kept : IsKept (held_of r)) where
  pub participant_at : (code : List ℕ) (a : Account) → find (is_of code) r.accounts.accounts ≡ Some a
      → lookup.participant_of (book_of r) code ≡ Some a.participant
  unfolding lookup.participant_of
  participant_at code a e = find-participants code r.accounts.accounts ∙ ap (option_map participant_in) e

  pub participant_none : (code : List ℕ) → find (is_of code) r.accounts.accounts ≡ None
      → lookup.participant_of (book_of r) code ≡ None
  unfolding lookup.participant_of
  participant_none code e = find-participants code r.accounts.accounts ∙ ap (option_map participant_in) e

  pub is_known : (code : List ℕ) (a : Account) → find (is_of code) r.accounts.accounts ≡ Some a
      → is_participant (book_of r) code ≡ true
  unfolding is_participant codes_of
  is_known code a e = found_any code r.accounts.accounts a e

  pub is_unknown : (code : List ℕ) → find (is_of code) r.accounts.accounts ≡ None
      → is_participant (book_of r) code ≡ false
  unfolding is_participant codes_of
  is_unknown code e = none_any code r.accounts.accounts (none_of code r.accounts.accounts e)

  pub balance_at : (code : List ℕ) (a : Account) → find (is_of code) r.accounts.accounts ≡ Some a
      → a.balance ≡ balance (book_of r) code
  balance_at code a e = found_balance (book_of r) code r.accounts.accounts a e kept.balanced

  -- the balance is far from the ends of 64 bits
  pub balance_fits : BalancesFit (book_of r) → (code : List ℕ) (a : Account)
      → find (is_of code) r.accounts.accounts ≡ Some a → Within LARGEST_BALANCE a.balance
  unfolding codes_of
  balance_fits small code a e = subst (Within LARGEST_BALANCE) (sym (balance_at code a e))
      (found_code (λ c. Within LARGEST_BALANCE (balance (book_of r) c)) code r.accounts.accounts a e small)

  pub floor_at : (code : List ℕ) (a : Account) → find (is_of code) r.accounts.accounts ≡ Some a
      → floor (book_of r) code ≡ (if is_closed r.day.phase then pos 0 else neg_ℤ (pos a.participant.credit))
  unfolding floor credit_of
  floor_at code a e = rw (participant_at code a e) refl

  pub total_at : int_sum_by balance_of r.accounts.accounts ≡ total (book_of r)
  unfolding total codes_of
  total_at = sum_of_balances (book_of r) r.accounts.accounts kept.balanced

-- a command that was not done before, and rows that lead on
pub prepared_done : (held : Held) (c : Command) (a : Answer) (rows : List RowChange) (book : Book)
    → CommandFits c → OwnStep held.content c (Ok a) book
    → Leads held.content rows book → AllByRecursion (StartsEmpty book rows) rows
    → AreBalanced book (after held rows).accounts → ((k : Known) → a ≡ Repeated k → ⊥)
    → (a ≡ Nothing → ⊥) → IsPrepared held c a rows
prepared_done held c a rows book in_range step leads added balanced new some = record {
  book = book;
  step = step;
  leads = leads;
  added = added;
  in_range = λ some. in_range;
  balanced = balanced;
  repeated = λ k e. absurd (new k e);
  nothing = λ e. absurd (some e);
}

pub codes-participants : (xs : List Account) → map code_of xs
    ≡ map (λ (p : Participant). p.code) (map participant_in xs)
codes-participants [] = refl
codes-participants (x ∷ xs) = λ i. code_of x ∷ codes-participants xs i
