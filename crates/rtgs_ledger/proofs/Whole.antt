-- A book as its records and running balances, and a change of it, row by row: what the preparations are proved of.
use Rattle.std.proofs.Common.{◌≡◌, ◌≢◌, List, [], ◌∷◌, map, filter, length, ◌+◌, pos, Ok, refl, sym, ap, subst, ◌∙◌}
use Rattle.std.proofs.Common.{◌≤◌, true, inl, arith}
use Rattle.std.specs.List.{AllByRecursion}
use Rattle.std.proofs.lemmas.List.{length-map}
use Rattle.rtgs_book.specs.declared.limits.TheConstants.{LARGEST_NUMBER}
use Rattle.rtgs_book.specs.declared.account.Account.{Account}
use Rattle.rtgs_book.specs.declared.book.Book.{Book}
use Rattle.rtgs_book.specs.declared.day.Day.{Day}
use Rattle.rtgs_book.specs.declared.mark.Mark.{Mark}
use Rattle.rtgs_book.specs.declared.order.Order.{Order}
use Rattle.rtgs_book.specs.declared.participant.Participant.{Participant}
use Rattle.rtgs_book.specs.declared.posting.Posting.{Posting}
use Rattle.rtgs_book.specs.declared.change.RowChange.{RowChange}
use Rattle.rtgs_book.specs.declared.change.RowChange.TheVariants.{AddParticipant, AddPosting, AddOrder, AddMark}
use Rattle.rtgs_book.specs.declared.change.RowChange.TheVariants.{SetCredit, SetBalance, SetState, EnterQueue, SetDay}
use Rattle.rtgs_book.specs.declared.command.Command.{Command}
use Rattle.rtgs_book.specs.declared.answer.Answer.{Answer}
use Rattle.rtgs_book.specs.declared.answer.Answer.TheVariants.{Nothing, Repeated}
use Rattle.rtgs_book.specs.declared.answer.Known.{Known}
use Rattle.rtgs_book.specs.declared.refusal.Refusal.{Refusal}
use Rattle.rtgs_book.specs.declared.refusal.Refusal.TheVariants.{OutOfMemory}
use Rattle.rtgs_book.specs.Books.{is_waiting}
use Rattle.rtgs_book.specs.Changes.{Leads, StartsEmpty, with_row}
use Rattle.rtgs_book.specs.Laws.{CommandFits}
use Rattle.rtgs_book.specs.Outcome.{is_done}
use Rattle.rtgs_book.specs.Ranges.{Fits}
use Rattle.rtgs_book.specs.Soundness.{IsSound}
use Rattle.rtgs_book.specs.Step.{OwnStep}
use Rattle.rtgs_book.specs.Lookup.{codes_of}
use Rattle.rtgs_book.specs.declared.cores.cores.Core.{Core}
use Rattle.rtgs_book.specs.cores.Cores.{account_of, core_of, IsCoreOf}
use Rattle.rtgs_book.specs.cores.Following.{AreBalanced, core_after_row, core_after}
use Rattle.rtgs_records.specs.declared.records.Records.{Records}
use Rattle.rtgs_records.specs.accounts.Accounts.{AccountList, code_of, participant_in, with_account, with_balance}
use Rattle.rtgs_records.specs.accounts.Accounts.{with_limit}
use Rattle.rtgs_records.specs.Held as seen
use Rattle.rtgs_ledger.specs.Kept as kept
use Rattle.rtgs_records.specs.Records.{core_in, held_of as seen_of}

-- ---- a book and its running balances

pub record Held : Type 0 where
  pub content : Book
  pub accounts : List Account

abbrev pub accounts_after : List Account → RowChange → List Account
accounts_after accounts (AddParticipant participant) = with_account
    (record { participant = participant; balance = pos 0 }) accounts
accounts_after accounts (SetCredit code credit) = with_limit code credit accounts
accounts_after accounts (SetBalance code balance) = with_balance code balance accounts
accounts_after accounts row = accounts

abbrev pub after_row : Held → RowChange → Held
after_row held row = record { content = with_row held.content row; accounts = accounts_after held.accounts row }

abbrev pub after : Held → List RowChange → Held
after held [] = held
after held (row ∷ rows) = after (after_row held row) rows

pub record IsKept (held : Held) : Type 0 where
  pub sound : IsSound held.content
  pub balanced : AreBalanced held.content held.accounts
  pub fits : Fits held.content

pub record IsPrepared (held : Held) (command : Command) (answer : Answer) (rows : List RowChange) : Type 0 where
  pub book : Book
  pub step : OwnStep held.content command (Ok answer) book
  pub leads : Leads held.content rows book
  pub added : AllByRecursion (StartsEmpty book rows) rows
  pub in_range : rows ≢ [] → CommandFits command
  pub balanced : AreBalanced book (after held rows).accounts
  pub repeated : (known : Known) → answer ≡ Repeated known → rows ≡ []
  pub nothing : answer ≡ Nothing → rows ≡ []

-- the accounts of a core go the same way
pub same_accounts : (held : Held) (core : Core) (rows : List RowChange) → held.accounts ≡ core.accounts
    → (after held rows).accounts ≡ (core_after core rows).accounts
same_accounts held core [] e = e
same_accounts held core (row ∷ rows) e = same_accounts (after_row held row) (core_after_row core row) rows (one row)
  where
    one : (row : RowChange) → accounts_after held.accounts row ≡ (core_after_row core row).accounts
    one (AddParticipant p) = ap (with_account (record { participant = p; balance = pos 0 })) e
    one (AddPosting p) = e
    one (AddOrder o) = e
    one (AddMark m) = e
    one (SetCredit code credit) = ap (with_limit code credit) e
    one (SetBalance code balance) = ap (with_balance code balance) e
    one (SetState number state) = e
    one (EnterQueue number date) = e
    one (SetDay day) = e

-- ---- the records of a ledger, with the rest of the book

pub record Whole : Type 0 where
  pub accounts : AccountList
  pub postings : List Posting
  pub orders : List Order
  pub marks : List Mark
  pub day : Day

abbrev pub book_of : Whole → Book
book_of r = record {
  participants = map participant_in r.accounts.accounts;
  postings = r.postings;
  orders = r.orders;
  marks = r.marks;
  day = r.day;
}

abbrev pub held_of : Whole → Held
held_of r = record { content = book_of r; accounts = r.accounts.accounts }

abbrev pub whole : Book → Records → Whole
whole book r = record {
  accounts = r.accounts;
  postings = book.postings;
  orders = book.orders;
  marks = book.marks;
  day = r.day;
}

own_participants : (book : Book) (ps : List Participant) → map participant_in (map (account_of book) ps) ≡ ps
own_participants book [] = refl
own_participants book (p ∷ ps) = ap (λ qs. p ∷ qs) (own_participants book ps)

own_balances : (book : Book) (ps : List Participant) → AreBalanced book (map (account_of book) ps)
own_balances book [] = tt
own_balances book (p ∷ ps) = (refl, own_balances book ps)

own_codes : (book : Book) (ps : List Participant) → map code_of (map (account_of book) ps)
    ≡ map (λ (p : Participant). p.code) ps
own_codes book [] = refl
own_codes book (p ∷ ps) = ap (λ cs. p.code ∷ cs) (own_codes book ps)

pub codes_in_core : (book : Book) (core : Core) → IsCoreOf book core → map code_of core.accounts ≡ codes_of book
unfolding core_of codes_of
codes_in_core book core is = ap (λ (c : Core). map code_of c.accounts) is.is ∙ own_codes book book.participants

pub balanced_core : (book : Book) (core : Core) → IsCoreOf book core → AreBalanced book core.accounts
unfolding core_of
balanced_core book core is = subst (AreBalanced book) (sym (ap (λ (c : Core). c.accounts) is.is))
    (own_balances book book.participants)

abbrev pub held_in : Book → Core → Held
held_in book core = record { content = book; accounts = core.accounts }

-- what a ledger's records say of a book whose core they are
pub record IsOf (book : Book) (r : Records) (core : Core) : Type 0 where
  pub same : book_of (whole book r) ≡ book
  pub kept : IsKept (held_of (whole book r))
  pub accounts : r.accounts.accounts ≡ core.accounts
  pub waiting : r.orders.orders ≡ filter is_waiting book.orders
  pub postings : r.next_posting ≡ length book.postings + 1
  pub orders : r.orders.next ≡ length book.orders + 1
  pub marks : r.next_mark ≡ length book.marks + 1

pub is_of_book : (book : Book) (r : Records) (held : seen.Held) → seen_of r ≡ held → IsCoreOf book held.core
    → IsOf book r held.core
unfolding core_of
is_of_book book r held view is =
    let own : core_in r ≡ core_of book = ap (λ (h : seen.Held). h.core) view ∙ is.is in
    let accounts : r.accounts.accounts ≡ map (account_of book) book.participants = ap (λ (c : Core). c.accounts) own in
    let day : r.day ≡ book.day = ap (λ (c : Core). c.day) own in
    let same : book_of (whole book r) ≡ book = λ i. record {
      participants = (ap (map participant_in) accounts ∙ own_participants book book.participants) i;
      postings = book.postings;
      orders = book.orders;
      marks = book.marks;
      day = day i;
    } in
    record {
      same = same;
      kept = record {
        sound = subst IsSound (sym same) is.sound;
        balanced = subst (λ b. AreBalanced b r.accounts.accounts) (sym same)
            (subst (AreBalanced book) (sym accounts) (own_balances book book.participants));
        fits = subst Fits (sym same) is.fits;
      };
      accounts = ap (λ (h : seen.Held). h.core.accounts) view;
      waiting = ap (λ (c : Core). c.waiting) own;
      postings = ap (λ (c : Core). c.next_posting) own;
      orders = ap (λ (c : Core). c.next_order) own;
      marks = ap (λ (c : Core). c.next_mark) own;
    }

module _ (book : Book) (r : Records) (core : Core) (of : IsOf book r core) where
  pub to_refused : (command : Command) (refusal : Refusal) → kept.IsRefusedByItself (book_of (whole book r)) command
      refusal
      → kept.IsRefusedByItself book command refusal
  to_refused command refusal refused = subst (λ b. kept.IsRefusedByItself b command refusal) of.same refused

  -- memory is lacking for a change that would be prepared
  pub to_lacking : (command : Command) (answer : Answer) (rows : List RowChange)
      → IsPrepared (held_of (whole book r)) command answer rows → is_done (Ok answer) ≡ true
      → kept.IsRefusedByItself book command OutOfMemory
  to_lacking command answer rows p done =
      to_refused command OutOfMemory (inl (refl, λ _. (answer, p.book, p.step, done)))

  pub to_prepared : (command : Command) (answer : Answer) (rows : List RowChange)
      → IsPrepared (held_of (whole book r)) command answer rows → kept.IsPreparedByItself book core command answer rows
  to_prepared command answer rows p = record {
    book = p.book;
    step = subst (λ b. OwnStep b command (Ok answer) p.book) of.same p.step;
    leads = subst (λ b. Leads b rows p.book) of.same p.leads;
    added = p.added;
    in_range = p.in_range;
    balanced = subst (AreBalanced p.book) (same_accounts (held_of (whole book r)) core rows of.accounts) p.balanced;
    repeated = p.repeated;
    nothing = p.nothing;
  }

  -- the number of the next mark is one that a sound book can have
  pub marks_are_counted : r.next_mark ≤ LARGEST_NUMBER + 1
  marks_are_counted =
      let next = of.marks in
      let sound = of.kept.sound.marks_numbered.1 in
      let long = length-map book.marks (λ (m : Mark). m.number) in
      omega (arith, next, sound, long)
