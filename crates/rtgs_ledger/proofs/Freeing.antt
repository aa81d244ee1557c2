-- Where rows give nobody who has a queue what it could pay with, nothing may settle after them that could not before.
use Rattle.std.proofs.Common.{◌≡◌, ℕ, ◌≤◌, ℤ, pos, neg_ℤ, ◌≤ℤ◌, Bool, true, false, cond, ◌&&◌}
use Rattle.std.proofs.Common.{if◌then◌else◌, List, [], ◌∷◌, ◌++◌, map, find, take, Option, Some, None}
use Rattle.std.proofs.Common.{option_map, unwrap_or, ◌⊎◌, inl, inr, refl, sym, ap, subst, ◌∙◌, arith}
use Rattle.std.proofs.lemmas.Int.{ints}
use Rattle.std.proofs.lemmas.List.{append-nil}
use Rattle.std.proofs.lemmas.List.Elements.{filter-append}
use Rattle.std.specs.List.{AllByRecursion}
use Rattle.std.specs.Ordering.{int_eq}
use Rattle.std.specs.Str.{bytes_eq}
use Rattle.std.specs.Cmp.Lexicographic.{bytes_decides}
use Rattle.rtgs_book.specs.declared.book.Book.{Book}
use Rattle.rtgs_book.specs.declared.change.RowChange.{RowChange}
use Rattle.rtgs_book.specs.declared.change.RowChange.TheVariants.{AddParticipant, AddPosting, AddOrder, AddMark}
use Rattle.rtgs_book.specs.declared.change.RowChange.TheVariants.{SetCredit, SetBalance, SetState, EnterQueue, SetDay}
use Rattle.rtgs_book.specs.declared.day.Day.{Day}
use Rattle.rtgs_book.specs.declared.order.Order.{Order}
use Rattle.rtgs_book.specs.declared.participant.Participant.{Participant}
use Rattle.rtgs_book.specs.declared.phase.Phase.{Phase}
use Rattle.rtgs_book.specs.Balance.{balance, floor, floor_at}
use Rattle.rtgs_book.specs.Books.{is_closed, is_empty, is_queued}
use Rattle.rtgs_book.specs.Changes.{Leads, balance_set, changed, or_else, with_row}
use Rattle.rtgs_book.specs.Commands.{with_credit}
use Rattle.rtgs_book.specs.Lookup.{codes_of, credit_of, has_code, participant_of}
use Rattle.rtgs_book.specs.Queue.{queue, queued_among}
use Rattle.rtgs_laws.specs.Quiet.{FreesNothing, GainsNothing, brings, queued_to, value_of}
use Rattle.rtgs_ledger.specs.Following.{AddsNoParticipant, day_after}
use Rattle.rtgs_ledger.specs.Freeing.{GivesNothing, IsShort}
use Rattle.rtgs_ledger.proofs.Following.{CreditLeavesAccounts, accounts_stay, day_changed}
use Rattle.rtgs_lists.proofs.Lists.{all_weaker}
use Rattle.rtgs_lists.proofs.Numbers.{same_from_int_eq}
use Rattle.rtgs_lists.proofs.Sums.{int_sum_by-append}

-- ---- rows that give nothing

add_none : (book : Book) (rows : List RowChange) → AllByRecursion (GivesNothing book) rows
    → AllByRecursion AddsNoParticipant rows
add_none book [] h = tt
add_none book (AddParticipant p ∷ rows) h = absurd h.0
add_none book (AddPosting p ∷ rows) h = (tt, add_none book rows h.1)
add_none book (AddOrder o ∷ rows) h = (tt, add_none book rows h.1)
add_none book (AddMark m ∷ rows) h = (tt, add_none book rows h.1)
add_none book (SetCredit code credit ∷ rows) h = (tt, add_none book rows h.1)
add_none book (SetBalance code b ∷ rows) h = (tt, add_none book rows h.1)
add_none book (SetState number state ∷ rows) h = absurd h.0
add_none book (EnterQueue number date ∷ rows) h = absurd h.0
add_none book (SetDay day ∷ rows) h = absurd h.0

set_no_day : (book : Book) (rows : List RowChange) → AllByRecursion (GivesNothing book) rows
    → (day : Day) → day_after day rows ≡ day
set_no_day book [] h day = refl
set_no_day book (AddParticipant p ∷ rows) h day = absurd h.0
set_no_day book (AddPosting p ∷ rows) h day = set_no_day book rows h.1 day
set_no_day book (AddOrder o ∷ rows) h day = set_no_day book rows h.1 day
set_no_day book (AddMark m ∷ rows) h day = set_no_day book rows h.1 day
set_no_day book (SetCredit code credit ∷ rows) h day = set_no_day book rows h.1 day
set_no_day book (SetBalance code b ∷ rows) h day = set_no_day book rows h.1 day
set_no_day book (SetState number state ∷ rows) h day = absurd h.0
set_no_day book (EnterQueue number date ∷ rows) h day = absurd h.0
set_no_day book (SetDay later ∷ rows) h day = absurd h.0

-- what is made of the queued orders alone stays
module _ {X : Type 0} (of : List Order → X)
    (of_queued : (os : List Order) (o : Order) → is_queued o ≡ false → of (os ++ o ∷ []) ≡ of os) where
  queues_stay : (book : Book) (rows : List RowChange) (mid : Book) → AllByRecursion (GivesNothing book) rows
      → of (changed mid rows).orders ≡ of mid.orders
  unfolding with_credit
  queues_stay book [] mid h = refl
  queues_stay book (AddParticipant p ∷ rows) mid h = absurd h.0
  queues_stay book (AddPosting p ∷ rows) mid h = queues_stay book rows (with_row mid (AddPosting p)) h.1
  queues_stay book (AddOrder o ∷ rows) mid h = queues_stay book rows (with_row mid (AddOrder o)) h.1
      ∙ of_queued mid.orders o h.0
  queues_stay book (AddMark m ∷ rows) mid h = queues_stay book rows (with_row mid (AddMark m)) h.1
  queues_stay book (SetCredit code credit ∷ rows) mid h =
      queues_stay book rows (with_row mid (SetCredit code credit)) h.1
  queues_stay book (SetBalance code b ∷ rows) mid h = queues_stay book rows mid h.1
  queues_stay book (SetState number state ∷ rows) mid h = absurd h.0
  queues_stay book (EnterQueue number date ∷ rows) mid h = absurd h.0
  queues_stay book (SetDay day ∷ rows) mid h = absurd h.0

pub one_unqueued : (code : List ℕ) (os : List Order) (o : Order) → is_queued o ≡ false
    → queued_among (os ++ o ∷ []) code ≡ queued_among os code
one_unqueued code os o e =
    filter-append (λ x. is_queued x && bytes_eq x.sender code) os (o ∷ [])
    ∙ rw e (append-nil (queued_among os code))

brings_none : (code : List ℕ) (os : List Order) (o : Order) → is_queued o ≡ false
    → queued_to (os ++ o ∷ []) code ≡ queued_to os code
brings_none code os o e =
    let sum = int_sum_by-append (brings code) os (o ∷ []) in
    let none : brings code o ≡ pos 0 = rw e refl in
    omega (arith, ints)

-- ---- credit limits

abbrev credit_in : List ℕ → List Participant → ℕ
credit_in code ps = unwrap_or (option_map (λ (p : Participant). p.credit) (find (has_code code) ps)) 0

limit_falls : (code other : List ℕ) (credit most : ℕ) → (bytes_eq other code ≡ true → credit ≤ most)
    → (ps : List Participant) → credit_in code ps ≤ most
    → credit_in code (map (λ p. if has_code other p then record p { credit = credit } else p) ps) ≤ most
limit_falls code other credit most less [] le = le
limit_falls code other credit most less (p ∷ ps) le = by (has_code other p) refl (has_code code p) refl le
    (limit_falls code other credit most less ps)
  where
    by : (a : Bool) → has_code other p ≡ a → (b : Bool) → has_code code p ≡ b
        → unwrap_or (option_map (λ (q : Participant). q.credit) (cond b (Some p) (find (has_code code) ps))) 0 ≤ most
        → (credit_in code ps ≤ most
        → credit_in code (map (λ q. if has_code other q then record q { credit = credit } else q) ps) ≤ most)
        → credit_in code (cond a (record p { credit = credit }) p
        ∷ map (λ q. if has_code other q then record q { credit = credit } else q) ps) ≤ most
    by true e true f le rest = rw f (less (ap (λ c. bytes_eq c code) (sym ((bytes_decides p.code other).0 e)) ∙ f))
    by true e false f le rest = rw f (rest le)
    by false e true f le rest = rw f le
    by false e false f le rest = rw f (rest le)

credit_falls : (book : Book) (code : List ℕ) → is_empty (queue book code) ≡ false → (rows : List RowChange)
    → (mid : Book) → AllByRecursion (GivesNothing book) rows → credit_of mid code ≤ credit_of book code
    → credit_of (changed mid rows) code ≤ credit_of book code
unfolding with_credit credit_of participant_of
credit_falls book code some [] mid h le = le
credit_falls book code some (AddParticipant p ∷ rows) mid h le = absurd h.0
credit_falls book code some (AddPosting p ∷ rows) mid h le =
    credit_falls book code some rows (with_row mid (AddPosting p)) h.1 le
credit_falls book code some (AddOrder o ∷ rows) mid h le =
    credit_falls book code some rows (with_row mid (AddOrder o)) h.1 le
credit_falls book code some (AddMark m ∷ rows) mid h le =
    credit_falls book code some rows (with_row mid (AddMark m)) h.1 le
credit_falls book code some (SetCredit other credit ∷ rows) mid h le =
    credit_falls book code some rows (with_row mid (SetCredit other credit)) h.1
    (limit_falls code other credit (credit_of book code) (λ e.
    let same = (bytes_decides other code).0 e in
    subst (λ c. credit ≤ credit_of book c) same (h.0 (ap (λ c. is_empty (queue book c)) same ∙ some)))
    mid.participants le)
credit_falls book code some (SetBalance other b ∷ rows) mid h le = credit_falls book code some rows mid h.1 le
credit_falls book code some (SetState number state ∷ rows) mid h le = absurd h.0
credit_falls book code some (EnterQueue number date ∷ rows) mid h le = absurd h.0
credit_falls book code some (SetDay day ∷ rows) mid h le = absurd h.0

floor_rises : (phase : Phase) (more less : ℕ) → less ≤ more → floor_at phase more ≤ℤ floor_at phase less
floor_rises phase more less le = by (is_closed phase)
  where
    by : (b : Bool) → (if b then pos 0 else neg_ℤ (pos more)) ≤ℤ (if b then pos 0 else neg_ℤ (pos less))
    by true = omega (arith, ints)
    by false = omega (arith, ints)

-- ---- balances

-- the balance that is set is that of a row, which gives nothing
balance_given : (book : Book) (code : List ℕ) (money : ℤ) (rows : List RowChange)
    → AllByRecursion (GivesNothing book) rows → balance_set code rows ≡ Some money
    → GivesNothing book (SetBalance code money)
balance_given book code money [] h e = absurd (let f : None ≡ Some money = e in cc)
balance_given book code money (AddParticipant p ∷ rows) h e = absurd h.0
balance_given book code money (AddPosting p ∷ rows) h e = balance_given book code money rows h.1 e
balance_given book code money (AddOrder o ∷ rows) h e = balance_given book code money rows h.1 e
balance_given book code money (AddMark m ∷ rows) h e = balance_given book code money rows h.1 e
balance_given book code money (SetCredit other credit ∷ rows) h e = balance_given book code money rows h.1 e
balance_given book code money (SetBalance other b ∷ rows) h e =
    by (balance_set code rows) refl (bytes_eq other code) refl e (balance_given book code money rows h.1)
  where
    by : (o : Option ℤ) → balance_set code rows ≡ o → (t : Bool) → bytes_eq other code ≡ t
        → or_else o (if t then Some b else None) ≡ Some money
        → (balance_set code rows ≡ Some money → GivesNothing book (SetBalance code money))
        → GivesNothing book (SetBalance code money)
    by (Some z) f t g e rest = rest (f ∙ e)
    by None f true g e rest =
        let same : b ≡ money = cc in
        subst (λ c. GivesNothing book (SetBalance c money)) ((bytes_decides other code).0 g)
        (subst (λ m. GivesNothing book (SetBalance other m)) same h.0)
    by None f false g e rest = absurd (let k : None ≡ Some money = e in cc)
balance_given book code money (SetState number state ∷ rows) h e = absurd h.0
balance_given book code money (EnterQueue number date ∷ rows) h e = absurd h.0
balance_given book code money (SetDay day ∷ rows) h e = absurd h.0

-- ---- rows of which each gives nothing

module _ (leaves : CreditLeavesAccounts) (old new : Book) (rows : List RowChange) (leads : Leads old rows new)
    (h : AllByRecursion (GivesNothing old) rows) where
  same_queue : (code : List ℕ) → queue new code ≡ queue old code
  unfolding queue
  same_queue code = ap (λ (b : Book). queued_among b.orders code) (sym leads.book)
      ∙ queues_stay (λ os. queued_among os code) (one_unqueued code) old rows old h

  same_brought : (code : List ℕ) → queued_to new.orders code ≡ queued_to old.orders code
  same_brought code = ap (λ (b : Book). queued_to b.orders code) (sym leads.book)
      ∙ queues_stay (λ os. queued_to os code) (brings_none code) old rows old h

  same_day : new.day ≡ old.day
  same_day = ap (λ (b : Book). b.day) (sym leads.book) ∙ day_changed rows old ∙ set_no_day old rows h old.day

  higher_floor : (code : List ℕ) → is_empty (queue old code) ≡ false → floor old code ≤ℤ floor new code
  unfolding floor
  higher_floor code some = subst (λ (d : Day). floor old code ≤ℤ floor_at d.phase (credit_of new code)) (sym same_day)
      (floor_rises old.day.phase (credit_of old code) (credit_of new code)
      (subst (λ (b : Book). credit_of b code ≤ credit_of old code) leads.book
      (credit_falls old code some rows old h (omega arith))))

  gain_at : (code : List ℕ)
      → balance_set code rows ≡ (if int_eq (balance old code) (balance new code) then None else Some (balance new code))
      → is_empty (queue new code) ≡ false → GainsNothing old new code
  gain_at code set some = by (int_eq (balance old code) (balance new code)) refl set
    where
      some_old : is_empty (queue old code) ≡ false
      some_old = ap is_empty (sym (same_queue code)) ∙ some

      given : floor old code ≤ℤ floor new code → queued_to new.orders code ≡ queued_to old.orders code
          → value_of (take 1 (queue new code)) ≡ value_of (take 1 (queue old code))
          → (balance new code ≤ℤ balance old code)
          ⊎ IsShort old code (balance new code) (value_of (take 1 (queue old code))) → GainsNothing old new code
      given higher brought first (inl le) = inl (omega (arith, ints))
      given higher brought first (inr short) = inr (omega (arith, ints))

      by : (b : Bool) → int_eq (balance old code) (balance new code) ≡ b
          → balance_set code rows ≡ (if b then None else Some (balance new code)) → GainsNothing old new code
      by true e set =
          let same = same_from_int_eq (balance old code) (balance new code) e in
          let higher = higher_floor code some_old in
          inl (omega (arith, ints))
      by false e set =
          let higher = higher_floor code some_old in
          let brought = same_brought code in
          let first = ap (λ (os : List Order). value_of (take 1 os)) (same_queue code) in
          given higher brought first (balance_given old code (balance new code) rows h set some_old)

  pub rows_free_nothing : FreesNothing old new
  rows_free_nothing = record {
    day_stays = same_day;
    accounts_stay = ap codes_of (sym leads.book) ∙ accounts_stay leaves rows old (add_none old rows h);
    queues = λ code. inl ([], sym (same_queue code) ∙ sym (append-nil (queue new code)));
    gains = all_weaker (λ code. balance_set code rows
        ≡ (if int_eq (balance old code) (balance new code) then None else Some (balance new code)))
        (λ code. is_empty (queue new code) ≡ false → GainsNothing old new code) gain_at (codes_of new) leads.balances;
  }
