-- A resolution: its rows, and the balances that they leave.
use Rattle.std.proofs.Common.{◌≡◌, ℕ, ◌≤◌, ◌+◌, ℤ, pos, ◌+ℤ◌, Bool, true, false, not, cond, if◌then◌else◌, List, []}
use Rattle.std.proofs.Common.{◌∷◌, ◌++◌, map, filter, length, sum_by, Option, Some, None, unwrap_or, IsTrue, is_some}
use Rattle.std.proofs.Common.{Ok, Err, refl, sym, ap, ◌∙◌, subst, true≢false, arith}
use Rattle.std.proofs.lemmas.List.{length-map}
use Rattle.std.specs.List.{AllByRecursion}
use Rattle.std.specs.Ordering.{int_eq}
use Rattle.std.specs.Str.{bytes_eq}
use Rattle.rtgs_book.specs.declared.answer.Answer.TheVariants as answer
use Rattle.rtgs_book.specs.declared.book.Book.{Book}
use Rattle.rtgs_book.specs.declared.change.RowChange.{RowChange}
use Rattle.rtgs_book.specs.declared.change.RowChange.TheVariants.{AddParticipant, AddPosting, AddOrder, AddMark}
use Rattle.rtgs_book.specs.declared.change.RowChange.TheVariants.{SetCredit, SetBalance, SetState, EnterQueue, SetDay}
use Rattle.rtgs_book.specs.declared.command.Command.TheVariants.{Resolve}
use Rattle.rtgs_book.specs.declared.mark.Mark.{Mark}
use Rattle.rtgs_book.specs.declared.order.Order.{Order}
use Rattle.rtgs_book.specs.declared.order_state.OrderState.{OrderState}
use Rattle.rtgs_book.specs.declared.order_state.OrderState.TheVariants.{Settled}
use Rattle.rtgs_book.specs.declared.participant.Participant.{Participant}
use Rattle.rtgs_book.specs.declared.refusal.Refusal.TheVariants.{WrongPhase}
use Rattle.rtgs_book.specs.Balance.{balance, gain}
use Rattle.rtgs_book.specs.Books.{is_closed, is_empty}
use Rattle.rtgs_book.specs.Changes.{Leads, StartsEmpty, SetsBalances, balance_set, or_else}
use Rattle.rtgs_book.specs.Choice.{Choice, chosen, is_chosen, balance_after, IsGreatest}
use Rattle.rtgs_book.specs.Commands.{resolve}
use Rattle.rtgs_book.specs.IntSum.{int_sum_by}
use Rattle.rtgs_book.specs.Lookup.{codes_of}
use Rattle.rtgs_book.specs.Outcome.{first_of}
use Rattle.rtgs_book.specs.Settle.{restated, settle, mark_of, next_mark}
use Rattle.rtgs_book.specs.Soundness.{IsSound}
use Rattle.rtgs_book.specs.Step.{OwnStep}
use Rattle.rtgs_choices.specs.Settling.{orders_taken, numbers_taken, state_rows, balance_rows, settling_rows}
use Rattle.rtgs_book.specs.declared.account.Account.{Account}
use Rattle.rtgs_book.specs.declared.cores.cores.Core.{Core}
use Rattle.rtgs_book.specs.cores.Cores.{IsCoreOf}
use Rattle.rtgs_book.specs.cores.Following.{AreBalanced}
use Rattle.rtgs_records.specs.accounts.Accounts.{code_of, is_of, with_balance, with_limit}
use Rattle.rtgs_ledger.specs.Following.{AddsNoParticipant}
use Rattle.rtgs_ledger.specs.Kept.{IsPreparedByItself, WouldAct}
use Rattle.rtgs_ledger.specs.Resolving.{AreGreatest, IsSettlement, after_orders, has_moved, moved_between, settling}
use Rattle.rtgs_ledger.proofs.Balances.{Known, all_known, all_moved, moved, moved_are}
use Rattle.rtgs_ledger.proofs.Inputs.{all_found}
use Rattle.rtgs_ledger.proofs.Kept.{no_balance_set}
use Rattle.rtgs_ledger.proofs.Loading.{in_order}
use Rattle.rtgs_ledger.proofs.Whole.{Held, IsKept, Whole, after, after_row, balanced_core, codes_in_core}
use Rattle.rtgs_ledger.proofs.Whole.{held_in, held_of, same_accounts}
use Rattle.rtgs_lists.proofs.Lists.{all_weaker}
use Rattle.rtgs_lists.proofs.Numbers.{same_from_int_eq}

-- ---- the balances that rows leave

-- a limit moves no balance
pub balanced_limit : (f : List ℕ → ℤ) (code : List ℕ) (credit : ℕ) (xs : List Account)
    → AllByRecursion (λ a. a.balance ≡ f (code_of a)) xs → AllByRecursion (λ a. a.balance ≡ f (code_of a))
    (with_limit code credit xs)
balanced_limit f code credit [] h = tt
balanced_limit f code credit (x ∷ xs) h = (by (is_of code x), balanced_limit f code credit xs h.1)
  where
    by : (b : Bool) → (cond b (record x { participant = record x.participant { credit = credit } }) x).balance
        ≡ f (code_of (cond b (record x { participant = record x.participant { credit = credit } }) x))
    by true = h.0
    by false = h.0

limited_codes : (code : List ℕ) (credit : ℕ) (xs : List Account) → map code_of (with_limit code credit xs)
    ≡ map code_of xs
limited_codes code credit [] = refl
limited_codes code credit (x ∷ xs) = λ i. by (is_of code x) i ∷ limited_codes code credit xs i
  where
    by : (t : Bool) → code_of (cond t (record x { participant = record x.participant { credit = credit } }) x)
        ≡ code_of x
    by true = refl
    by false = refl

set_here : (b old : ℤ) (o : Option ℤ) (t : Bool) → unwrap_or o (if t then b else old)
    ≡ unwrap_or (or_else o (if t then Some b else None)) old
set_here b old None true = refl
set_here b old None false = refl
set_here b old (Some z) t = refl

-- a running balance becomes what the rows set for it
pub all_set : (rows : List RowChange) (held : Held) (f : List ℕ → ℤ) → AllByRecursion AddsNoParticipant rows
    → AllByRecursion (λ a. a.balance ≡ f (code_of a)) held.accounts
    → AllByRecursion (λ a. a.balance ≡ unwrap_or (balance_set (code_of a) rows) (f (code_of a)))
    (after held rows).accounts
all_set [] held f h e = e
all_set (SetBalance code b ∷ rows) held f h e =
    all_weaker (λ a. a.balance ≡ unwrap_or (balance_set (code_of a) rows) (moved code b f (code_of a)))
    (λ a. a.balance ≡ unwrap_or (balance_set (code_of a) (SetBalance code b ∷ rows)) (f (code_of a)))
    (λ a g. g ∙ set_here b (f (code_of a)) (balance_set (code_of a) rows) (bytes_eq code (code_of a)))
    (after held (SetBalance code b ∷ rows)).accounts
    (all_set rows (after_row held (SetBalance code b)) (moved code b f) h.1 (all_moved code b f held.accounts e))
all_set (AddParticipant participant ∷ rows) held f h e = absurd h.0
all_set (SetCredit code credit ∷ rows) held f h e = all_set rows (after_row held (SetCredit code credit)) f h.1
    (balanced_limit f code credit held.accounts e)
all_set (AddPosting posting ∷ rows) held f h e = all_set rows (after_row held (AddPosting posting)) f h.1 e
all_set (AddOrder order ∷ rows) held f h e = all_set rows (after_row held (AddOrder order)) f h.1 e
all_set (AddMark mark ∷ rows) held f h e = all_set rows (after_row held (AddMark mark)) f h.1 e
all_set (SetState number state ∷ rows) held f h e = all_set rows (after_row held (SetState number state)) f h.1 e
all_set (EnterQueue number date ∷ rows) held f h e = all_set rows (after_row held (EnterQueue number date)) f h.1 e
all_set (SetDay day ∷ rows) held f h e = all_set rows (after_row held (SetDay day)) f h.1 e

same_codes : (code : List ℕ) (b : ℤ) (xs : List Account) → map code_of (with_balance code b xs) ≡ map code_of xs
same_codes code b [] = refl
same_codes code b (x ∷ xs) = λ i. by (is_of code x) i ∷ same_codes code b xs i
  where
    by : (t : Bool) → code_of (cond t (record x { balance = b }) x) ≡ code_of x
    by true = refl
    by false = refl

pub codes_stay : (rows : List RowChange) (held : Held) → AllByRecursion AddsNoParticipant rows
    → map code_of (after held rows).accounts ≡ map code_of held.accounts
codes_stay [] held h = refl
codes_stay (SetBalance code b ∷ rows) held h = codes_stay rows (after_row held (SetBalance code b)) h.1
    ∙ same_codes code b held.accounts
codes_stay (AddParticipant participant ∷ rows) held h = absurd h.0
codes_stay (SetCredit code credit ∷ rows) held h = codes_stay rows (after_row held (SetCredit code credit)) h.1
    ∙ limited_codes code credit held.accounts
codes_stay (AddPosting posting ∷ rows) held h = codes_stay rows (after_row held (AddPosting posting)) h.1
codes_stay (AddOrder order ∷ rows) held h = codes_stay rows (after_row held (AddOrder order)) h.1
codes_stay (AddMark mark ∷ rows) held h = codes_stay rows (after_row held (AddMark mark)) h.1
codes_stay (SetState number state ∷ rows) held h = codes_stay rows (after_row held (SetState number state)) h.1
codes_stay (EnterQueue number date ∷ rows) held h = codes_stay rows (after_row held (EnterQueue number date)) h.1
codes_stay (SetDay day ∷ rows) held h = codes_stay rows (after_row held (SetDay day)) h.1

set_is_new : (old new : ℤ) → unwrap_or (if int_eq old new then None else Some new) old ≡ new
set_is_new old new = by (int_eq old new) refl
  where
    by : (b : Bool) → int_eq old new ≡ b → unwrap_or (if b then None else Some new) old ≡ new
    by true e = same_from_int_eq old new e
    by false e = refl

all_new : (old new : Book) (rows : List RowChange) (xs : List Account)
    → AllByRecursion (λ a. a.balance ≡ unwrap_or (balance_set (code_of a) rows) (balance old (code_of a))) xs
    → AllByRecursion (λ code. balance_set code rows ≡ (if int_eq (balance old code) (balance new code) then None else
    Some (balance new code))) (map code_of xs) → AreBalanced new xs
all_new old new rows [] h e = tt
all_new old new rows (x ∷ xs) h e = (
  h.0 ∙ ap (λ o. unwrap_or o (balance old (code_of x))) e.0
      ∙ set_is_new (balance old (code_of x)) (balance new (code_of x)),
  all_new old new rows xs h.1 e.1,
)

-- rows that set the balances that move leave the accounts balanced
pub balanced_after : (held : Held) (rows : List RowChange) (new : Book) → AllByRecursion AddsNoParticipant rows
    → AreBalanced held.content held.accounts → codes_of new ≡ map code_of held.accounts
    → SetsBalances held.content rows new → AreBalanced new (after held rows).accounts
balanced_after held rows new leaves balanced same sets =
    all_new held.content new rows (after held rows).accounts (all_set rows held (balance held.content) leaves balanced)
    (subst (AllByRecursion (λ code. balance_set code rows ≡ (if int_eq (balance held.content code) (balance new code)
    then None else Some (balance new code)))) (same ∙ sym (codes_stay rows held leaves)) sets)

-- ---- rows that add no participant

-- they give no money to one
pub starting : (new : Book) (all rows : List RowChange) → AllByRecursion AddsNoParticipant rows
    → AllByRecursion (StartsEmpty new all) rows
starting new all [] h = tt
starting new all (AddParticipant p ∷ rows) h = absurd h.0
starting new all (AddPosting p ∷ rows) h = (tt, starting new all rows h.1)
starting new all (AddOrder o ∷ rows) h = (tt, starting new all rows h.1)
starting new all (AddMark m ∷ rows) h = (tt, starting new all rows h.1)
starting new all (SetCredit code credit ∷ rows) h = (tt, starting new all rows h.1)
starting new all (SetBalance code b ∷ rows) h = (tt, starting new all rows h.1)
starting new all (SetState number state ∷ rows) h = (tt, starting new all rows h.1)
starting new all (EnterQueue number date ∷ rows) h = (tt, starting new all rows h.1)
starting new all (SetDay day ∷ rows) h = (tt, starting new all rows h.1)

-- those of a resolution are such
pub none_settling : (mark : Mark) (old new : List Account) (orders : List Order)
    → AllByRecursion AddsNoParticipant (settling orders mark old new)
none_settling mark old new [] = (tt, by (filter (has_moved old) new))
  where
    by : (xs : List Account) → AllByRecursion AddsNoParticipant (map (λ (a : Account). SetBalance (code_of a) a.balance)
        xs)
    by [] = tt
    by (x ∷ xs) = (tt, by xs)
none_settling mark old new (o ∷ orders) = (tt, none_settling mark old new orders)

states_are : (state : OrderState) (os : List Order) → map (λ (o : Order). SetState o.number state) os
    ≡ state_rows state (map (λ (o : Order). o.number) os)
states_are state [] = refl
states_are state (o ∷ os) = ap (λ rows. SetState o.number state ∷ rows) (states_are state os)

codes_after_orders : (orders : List Order) (xs : List Account) → map code_of (map (after_orders orders) xs)
    ≡ map code_of xs
codes_after_orders orders [] = refl
codes_after_orders orders (x ∷ xs) = ap (λ codes. code_of x ∷ codes) (codes_after_orders orders xs)

-- ---- a resolution

codes_settled : (book : Book) (is_in : Order → Bool) → codes_of (settle book is_in) ≡ codes_of book
unfolding codes_of settle
codes_settled book is_in = by (map (restated is_in (Settled (next_mark book))) book.orders)
    (book.marks ++ mark_of book (filter is_in book.orders) ∷ []) (is_empty (filter is_in book.orders))
  where
    by : (orders : List Order) (marks : List Mark) (b : Bool)
        → map (λ (p : Participant). p.code) (cond b book (record book { orders = orders; marks = marks })).participants
        ≡ map (λ (p : Participant). p.code) book.participants
    by orders marks true = refl
    by orders marks false = refl

is_closed_now : (b : Bool) (day : Option ℕ) → (if b then None else day) ≡ None → (b ≡ false → IsTrue (is_some day))
    → b ≡ true
is_closed_now true day e dated = refl
is_closed_now false None e dated = absurd (true≢false (sym (dated refl)))
is_closed_now false (Some date) e dated = absurd (let f : Some date ≡ None = e in cc)

is_not_closed : (b : Bool) (day : Option ℕ) (date : ℕ) → (if b then None else day) ≡ Some date → b ≡ false
is_not_closed true day date e = absurd (let f : None ≡ Some date = e in cc)
is_not_closed false day date e = refl

dated_so : (b : Bool) (day : Option ℕ) (date : ℕ) → (if b then None else day) ≡ Some date → day ≡ Some date
dated_so true day date e = absurd (let f : None ≡ Some date = e in cc)
dated_so false day date e = e

module _ (r : Whole) (kept : IsKept (held_of r)) where
  pub closed_now : (if is_closed r.day.phase then None else r.day.date) ≡ None → is_closed r.day.phase ≡ true
  closed_now e = is_closed_now (is_closed r.day.phase) r.day.date e kept.sound.dates.dated

  pub open_now : (date : ℕ) → (if is_closed r.day.phase then None else r.day.date) ≡ Some date
      → is_closed r.day.phase ≡ false
  open_now date e = is_not_closed (is_closed r.day.phase) r.day.date date e

  pub date_now : (date : ℕ) → (if is_closed r.day.phase then None else r.day.date) ≡ Some date → r.day.date ≡ Some date
  date_now date e = dated_so (is_closed r.day.phase) r.day.date date e

module _ (book : Book) (choice : Choice) (greatest : IsGreatest book choice) where
  pub wrong_phase : is_closed book.day.phase ≡ true → OwnStep book Resolve (Err WrongPhase) book
  unfolding resolve first_of
  wrong_phase closed = (choice, greatest, rw closed refl)

  pub nothing : is_closed book.day.phase ≡ false → is_empty (chosen book choice) ≡ true
      → OwnStep book Resolve (Ok answer.Nothing) book
  unfolding resolve first_of
  nothing opened none = (choice, greatest, rw (opened, none) refl)

  settles : is_closed book.day.phase ≡ false → is_empty (chosen book choice) ≡ false
      → OwnStep book Resolve (Ok (answer.Resolved (mark_of book (chosen book choice)).number
      (mark_of book (chosen book choice)).count (mark_of book (chosen book choice)).value))
      (settle book (is_chosen book choice))
  unfolding resolve first_of
  settles opened some = (choice, greatest, rw (opened, some) refl)

  -- on a day that is not closed a resolution would act
  pub would_act : is_closed book.day.phase ≡ false → WouldAct book Resolve
  would_act opened = by (is_empty (chosen book choice)) refl
    where
      by : (none : Bool) → is_empty (chosen book choice) ≡ none → WouldAct book Resolve
      by true none = (answer.Nothing, book, nothing opened none, refl)
      by false some = (
        answer.Resolved (mark_of book (chosen book choice)).number (mark_of book (chosen book choice)).count
            (mark_of book (chosen book choice)).value,
        settle book (is_chosen book choice),
        settles opened some,
        refl,
      )

no_elements : {X : Type 0} (xs : List X) → length xs ≡ 0 → is_empty xs ≡ true
no_elements [] e = refl
no_elements (x ∷ xs) e = absurd (omega arith)

some_elements : {X : Type 0} (xs : List X) → 1 ≤ length xs → is_empty xs ≡ false
some_elements [] e = absurd (omega arith)
some_elements (x ∷ xs) e = refl

-- as many orders are taken as are chosen
abbrev pub Count : Type 0
Count = (book : Book) (choice : Choice) → IsSound book → length (chosen book choice)
    ≡ length (numbers_taken book choice)

abbrev pub Numbers : Type 0
Numbers = (book : Book) (choice : Choice) → IsSound book → numbers_taken book choice
    ≡ map (λ (o : Order). o.number) (orders_taken book choice)

as_many : Count → Numbers → (book : Book) (orders : List Order) (g : AreGreatest book orders) → IsSound book
    → length orders ≡ length (chosen book g.choice)
as_many count numbers book orders g sound =
    ap length g.taken ∙ sym (length-map (orders_taken book g.choice) (λ (o : Order). o.number))
    ∙ sym (ap length (numbers book g.choice sound)) ∙ sym (count book g.choice sound)

pub none_chosen : Count → Numbers → (book : Book) (orders : List Order) (g : AreGreatest book orders) → IsSound book
    → length orders ≡ 0 → is_empty (chosen book g.choice) ≡ true
none_chosen count numbers book orders g sound none = no_elements (chosen book g.choice)
    (sym (as_many count numbers book orders g sound) ∙ none)

empty_length : {X : Type 0} (xs : List X) → is_empty xs ≡ true → length xs ≡ 0
empty_length [] e = refl
empty_length (x ∷ xs) e = absurd (true≢false (sym e))

pub none_taken : Count → Numbers → (book : Book) (orders : List Order) (g : AreGreatest book orders) → IsSound book
    → is_empty (chosen book g.choice) ≡ true → length orders ≡ 0
none_taken count numbers book orders g sound none =
    as_many count numbers book orders g sound ∙ empty_length (chosen book g.choice) none

pub some_chosen : Count → Numbers → (book : Book) (orders : List Order) (g : AreGreatest book orders) → IsSound book
    → 1 ≤ length orders → is_empty (chosen book g.choice) ≡ false
some_chosen count numbers book orders g sound some = some_elements (chosen book g.choice)
    (let n = as_many count numbers book orders g sound in omega arith)

module _ (book : Book) (core : Core) (is : IsCoreOf book core) (orders : List Order) (g : AreGreatest book orders)
    (count : Count) (numbers : Numbers) where
  pub nothing_chosen : is_closed book.day.phase ≡ false → length orders ≡ 0
      → IsPreparedByItself book core Resolve answer.Nothing []
  nothing_chosen opened none =
      record {
        book = book;
        step = nothing book g.choice g.greatest opened (none_chosen count numbers book orders g is.sound none);
        leads = record { book = refl; balances = no_balance_set book };
        added = tt;
        in_range = λ some. absurd (some refl);
        balanced = balanced_core book core is;
        repeated = λ _ _. refl;
        nothing = λ _. refl;
      }

  module _ (some : 1 ≤ length orders) (mark : Mark) (date : ℕ) (dated : book.day.date ≡ Some date)
      (made : mark ≡ record {
        number = length book.marks + 1;
        date = date;
        count = length orders;
        value = pos (sum_by (λ (o : Order). o.amount) orders);
      })
      (value : (book : Book) (choice : Choice) → IsSound book
      → sum_by (λ (o : Order). o.amount) (orders_taken book choice)
      ≡ sum_by (λ (o : Order). o.amount) (chosen book choice))
      (gains : (book : Book) (choice : Choice) (code : List ℕ) → IsSound book
      → int_sum_by (gain code) (orders_taken book choice) ≡ int_sum_by (gain code) (chosen book choice))
      (leaving : (book : Book) (choice : Choice) (code : List ℕ)
      → balance (settle book (is_chosen book choice)) code ≡ balance_after book choice code)
      (steps : (book : Book) (choice : Choice) (mark : Mark) → IsSound book → IsGreatest book choice
      → is_empty (chosen book choice) ≡ false → mark ≡ mark_of book (chosen book choice)
      → OwnStep book Resolve (Ok (answer.Resolved mark.number mark.count mark.value))
      (settle book (is_chosen book choice)))
      (leading : (book : Book) (choice : Choice) (mark : Mark) → IsSound book → is_empty (chosen book choice) ≡ false
      → mark ≡ mark_of book (chosen book choice)
      → Leads book (settling_rows book choice (numbers_taken book choice) mark) (settle book (is_chosen book choice)))
    where
      abbrev new : Book
      new = settle book (is_chosen book g.choice)

      abbrev later : List Account
      later = map (after_orders orders) core.accounts

      abbrev rows : List RowChange
      rows = settling orders mark core.accounts later

      is_mark : mark ≡ mark_of book (chosen book g.choice)
      unfolding mark_of
      is_mark =
          made ∙ (λ i. record {
            number = length book.marks + 1;
            date = unwrap_or (sym dated i) 0;
            count = as_many count numbers book orders g is.sound i;
            value = pos ((ap (sum_by (λ (o : Order). o.amount)) g.taken ∙ value book g.choice is.sound) i);
          })

      any : is_empty (chosen book g.choice) ≡ false
      any = some_chosen count numbers book orders g is.sound some

      gained : (code : List ℕ) → int_sum_by (gain code) orders ≡ int_sum_by (gain code) (chosen book g.choice)
      gained code = ap (int_sum_by (gain code)) g.taken ∙ gains book g.choice code is.sound

      left : (a : Account) → a.balance ≡ balance book (code_of a)
          → (after_orders orders a).balance ≡ balance new (code_of a)
      unfolding balance_after
      left a e = (λ i. e i +ℤ gained (code_of a) i) ∙ sym (leaving book g.choice (code_of a))

      all_left : (xs : List Account) → AreBalanced book xs → AreBalanced new (map (after_orders orders) xs)
      all_left [] h = tt
      all_left (x ∷ xs) h = (left x h.0, all_left xs h.1)

      balanced : AreBalanced new later
      balanced = all_left core.accounts (balanced_core book core is)

      same : map code_of later ≡ map code_of core.accounts
      same = codes_after_orders orders core.accounts

      codes : codes_of new ≡ map code_of core.accounts
      codes = codes_settled book (is_chosen book g.choice) ∙ sym (codes_in_core book core is)

      balances_are : moved_between core.accounts later ≡ balance_rows book g.choice
      unfolding balance_rows
      balances_are =
          moved_are book new core.accounts later (subst (AllByRecursion (Known book core.accounts)) (sym same)
          (all_known book core.accounts core.accounts (all_found core.accounts (in_order book core is))
          (balanced_core book core is))) balanced
          ∙ (λ i. map (λ code. SetBalance code (leaving book g.choice code i))
          (filter (λ code. not (int_eq (balance book code) (leaving book g.choice code i)))
          ((same ∙ codes_in_core book core is) i)))

      states_are_taken : map (λ (o : Order). SetState o.number (Settled mark.number)) orders
          ≡ state_rows (Settled mark.number) (numbers_taken book g.choice)
      states_are_taken =
          states_are (Settled mark.number) orders
          ∙ ap (λ os. state_rows (Settled mark.number) (map (λ (o : Order). o.number) os)) g.taken
          ∙ ap (state_rows (Settled mark.number)) (sym (numbers book g.choice is.sound))

      leads : Leads book rows new
      leads = subst (λ changes. Leads book changes new) (λ i. sym states_are_taken i
          ++ AddMark mark ∷ sym balances_are i)
          (leading book g.choice mark is.sound any is_mark)

      pub settlement_is : IsSettlement book core orders mark later
      settlement_is =
          let adding = none_settling mark core.accounts later orders in
          record {
            prepared = record {
              book = new;
              step = steps book g.choice mark is.sound g.greatest any is_mark;
              leads = leads;
              added = starting new rows rows adding;
              in_range = λ _. tt;
              balanced = subst (AreBalanced new) (same_accounts (held_in book core) core rows refl)
                  (balanced_after (held_in book core) rows new adding
                  (balanced_core book core is) codes leads.balances);
              repeated = λ k e. absurd (cc);
              nothing = λ e. absurd (cc);
            };
            balanced = balanced;
            same = same;
          }
