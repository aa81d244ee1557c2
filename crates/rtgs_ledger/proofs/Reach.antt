-- A row that queues an order out of reach, and one that takes the last of a queue out: nothing may settle after them
-- that could not before.
use Rattle.std.proofs.Common.{◌≡◌, ℕ, ◌+◌, ◌-◌, ◌≤◌, ◌<◌, pos, ◌+ℤ◌, Bool, true, false, not, cond, ◌&&◌}
use Rattle.std.proofs.Common.{if◌then◌else◌, List, [], ◌∷◌, ◌++◌, map, filter, find, length, take, get_or, Some, None}
use Rattle.std.proofs.Common.{inl, inr, refl, sym, ap, subst, ◌∙◌, true≢false, arith}
use Rattle.std.proofs.lemmas.Bool.Decides.{nat_tests}
use Rattle.std.proofs.lemmas.Int.{ints}
use Rattle.std.proofs.lemmas.List.{append-nil, nil_from_length, take_all, take_more}
use Rattle.std.proofs.lemmas.List.Elements.{filter-append}
use Rattle.std.specs.List.{AllByRecursion}
use Rattle.std.specs.Ordering.{int_eq}
use Rattle.std.specs.Str.{bytes_eq}
use Rattle.std.specs.Cmp.Lexicographic.{bytes_decides}
use Rattle.rtgs_records.specs.accounts.Accounts.{is_of}
use Rattle.rtgs_book.specs.declared.account.Account.{Account}
use Rattle.rtgs_book.specs.declared.book.Book.{Book}
use Rattle.rtgs_book.specs.declared.change.RowChange.TheVariants.{AddOrder, SetState}
use Rattle.rtgs_book.specs.declared.order.Order.{Order}
use Rattle.rtgs_book.specs.declared.order_state.OrderState.{OrderState}
use Rattle.rtgs_book.specs.declared.order_state.OrderState.TheVariants.{Queued, Held, Settled, Withdrawn, Rejected}
use Rattle.rtgs_book.specs.Balance.{balance, floor, gain}
use Rattle.rtgs_book.specs.Books.{is_empty, is_queued, is_queued_state, is_settled, is_settled_state, is_waiting}
use Rattle.rtgs_book.specs.Books.{is_waiting_state}
use Rattle.rtgs_book.specs.Changes.{Leads, SetsBalances, balance_set}
use Rattle.rtgs_book.specs.Commands.{has_number, with_state}
use Rattle.rtgs_book.specs.Lookup.{codes_of, credit_of, is_participant, participant_of}
use Rattle.rtgs_book.specs.Queue.{queue, queued_among, queued_numbers}
use Rattle.rtgs_book.specs.Settle.{altered, in_state}
use Rattle.rtgs_book.specs.Soundness.{IsSound, OrdersAreNumbered, has_parties}
use Rattle.rtgs_book.specs.declared.cores.cores.Core.{Core}
use Rattle.rtgs_book.specs.cores.Cores.{IsCoreOf, core_of}
use Rattle.rtgs_laws.specs.Quiet.{AreOutOfReach, FreesNothing, GainsNothing, KeepsQueue, brings, queued_to, value_of}
use Rattle.rtgs_ledger.specs.Freeing.{IsLast, IsShort}
use Rattle.rtgs_ledger.proofs.Balances.{balance-with_order}
use Rattle.rtgs_ledger.proofs.Following.{all_parts}
use Rattle.rtgs_ledger.proofs.Kept.{participant_at}
use Rattle.rtgs_ledger.proofs.Reading.{numbers_are, queue_is}
use Rattle.rtgs_ledger.proofs.Whole.{IsKept, Whole, book_of, held_of}
use Rattle.rtgs_ledger.proofs.Withdrawing.{alone_in_number}
use Rattle.rtgs_lists.proofs.Bools.{and_right}
use Rattle.rtgs_lists.proofs.Codes.{bytes_eq_comm}
use Rattle.rtgs_lists.proofs.Filters.{filter_all}
use Rattle.rtgs_lists.proofs.Finds.{all_found}
use Rattle.rtgs_lists.proofs.Lists.{all_filter, all_of, all_weaker}
use Rattle.rtgs_lists.proofs.Numbers.{same_from_int_eq}
use Rattle.rtgs_lists.proofs.Sums.{int_sum_by-append}
use Rattle.rtgs_records.specs.queues.Laws.{NumbersLeadToOrders, QueuesAreOfTheWaiting, QueuesRise}
use Rattle.rtgs_records.specs.queues.Orders.{AreRising}

all_last : {X : Type 0} (P : X → Type 0) (xs : List X) (x : X) → AllByRecursion P (xs ++ x ∷ []) → P x
all_last P [] x h = h.0
all_last P (y ∷ ys) x h = all_last P ys x h.1

queued_unsettled : (state : OrderState) → is_queued_state state ≡ true → is_settled_state state ≡ false
queued_unsettled Queued e = refl
queued_unsettled Held e = refl
queued_unsettled (Settled mark) e = absurd (true≢false (sym e))
queued_unsettled Withdrawn e = refl
queued_unsettled Rejected e = refl

stays_unqueued : (state : OrderState) → is_waiting_state state ≡ false → is_queued_state state ≡ false
stays_unqueued Queued e = absurd (true≢false e)
stays_unqueued Held e = refl
stays_unqueued (Settled mark) e = refl
stays_unqueued Withdrawn e = refl
stays_unqueued Rejected e = refl

-- orders that do not wait bring nothing
pub brought_by_waiting : (code : List ℕ) (os : List Order)
    → queued_to (filter is_waiting os) code ≡ queued_to os code
brought_by_waiting code [] = refl
brought_by_waiting code (o ∷ os) = by (is_waiting o) refl (brought_by_waiting code os)
  where
    by : (b : Bool) → is_waiting o ≡ b → queued_to (filter is_waiting os) code ≡ queued_to os code
        → queued_to (cond b (o ∷ filter is_waiting os) (filter is_waiting os)) code ≡ queued_to (o ∷ os) code
    by true e rest = ap (λ z. brings code o +ℤ z) rest
    by false e rest =
        let none : brings code o ≡ pos 0 = rw (stays_unqueued o.state e) refl in
        omega (arith, ints)

-- ---- queues and limits of a ledger's book

no_numbers : (os : List Order) → map (λ (o : Order). o.number) os ≡ [] → os ≡ []
no_numbers [] e = refl
no_numbers (o ∷ os) e = absurd (cc)

pub queue_is_empty : QueuesAreOfTheWaiting → (book : Book) (os : List Order) (code numbers : List ℕ)
    → os ≡ filter is_waiting book.orders → numbers ≡ queued_numbers os code → length numbers ≡ 0
    → is_empty (queue book code) ≡ true
queue_is_empty law book os code numbers is listed few =
    let none = no_numbers (queued_among os code) (sym listed ∙ nil_from_length numbers few) in
    ap is_empty (sym (queue_is law book os code is) ∙ none)

-- a list ends with what stands at its last place
pub ends_with : (ns : List ℕ) (n : ℕ) → 0 < length ns → get_or ns (length ns - 1) 0 ≡ n
    → (first : List ℕ) × (ns ≡ first ++ n ∷ [])
ends_with ns n some is =
    let before : length ns - 1 < length ns = omega arith in
    let all : length ns - 1 + 1 ≡ length ns = omega arith in (
      take (length ns - 1) ns,
      sym (take_all (length ns) ns (omega arith)) ∙ ap (λ m. take m ns) (sym all)
          ∙ take_more ns (length ns - 1) 0 before ∙ ap (λ m. take (length ns - 1) ns ++ m ∷ []) is,
    )

-- a list of one element
pub only_one : {X : Type 0} (xs : List X) (x : X) → length xs ≡ 1 → x ≡ get_or xs 0 x → xs ≡ x ∷ []
only_one [] x one is = absurd (omega (arith, one))
only_one (y ∷ ys) x one is = λ i. sym is i ∷ nil_from_length ys (omega (arith, one)) i

pub waiting_in_core : (book : Book) (core : Core) → IsCoreOf book core → core.waiting ≡ filter is_waiting book.orders
unfolding core_of
waiting_in_core book core is = ap (λ (c : Core). c.waiting) is.is

pub credit_at : (r : Whole) → IsKept (held_of r) → (code : List ℕ) (a : Account)
    → find (is_of code) r.accounts.accounts ≡ Some a → credit_of (book_of r) code ≡ a.participant.credit
unfolding credit_of
credit_at r kept code a e = rw (participant_at r kept code a e) refl

-- ---- one order more is queued

module _ (old : Book) (o : Order) (queued : is_queued o ≡ true) where
  abbrev with_order : Book
  with_order = record old { orders = old.orders ++ o ∷ [] }

  one_queue : (code : List ℕ) → queue with_order code
      ≡ queue old code ++ cond (bytes_eq o.sender code) (o ∷ []) []
  unfolding queue
  one_queue code = filter-append (λ (x : Order). is_queued x && bytes_eq x.sender code) old.orders (o ∷ [])
      ∙ rw queued refl

  same_balance : (code : List ℕ) → balance with_order code ≡ balance old code
  same_balance code =
      let sum = balance-with_order old o old.marks code in
      let none : (if is_settled o then gain code o else pos 0) ≡ pos 0 =
      rw (queued_unsettled o.state queued) refl in
      omega (arith, ints)

  same_floor : (code : List ℕ) → floor with_order code ≡ floor old code
  unfolding floor credit_of participant_of
  same_floor code = refl

  module _ (sound : IsSound with_order)
      (short : IsShort old o.sender (balance old o.sender) (value_of (queue old o.sender) +ℤ pos o.amount)) where
    parties : (is_participant with_order o.sender ≡ true) × (is_participant with_order o.receiver ≡ true)
        × (not (bytes_eq o.sender o.receiver) ≡ true)
    parties = all_parts (is_participant with_order o.sender) (is_participant with_order o.receiver)
        (not (bytes_eq o.sender o.receiver))
        (all_last (λ x. has_parties with_order x ≡ true) old.orders o sound.parties.0)

    brings_none : brings o.sender o ≡ pos 0
    brings_none = rw (bytes_eq_comm o.receiver o.sender, apart (bytes_eq o.sender o.receiver) parties.2, queued) refl
      where
        apart : (b : Bool) → not b ≡ true → b ≡ false
        apart false e = refl
        apart true e = absurd (true≢false (sym e))

    own_queue : queue with_order o.sender ≡ queue old o.sender ++ o ∷ []
    own_queue = one_queue o.sender
        ∙ ap (λ b. queue old o.sender ++ cond b (o ∷ []) []) ((bytes_decides o.sender o.sender).1 refl)

    unpaid : AreOutOfReach with_order o.sender (queue with_order o.sender)
    unpaid =
        let money = same_balance o.sender in
        let least = same_floor o.sender in
        let brought = int_sum_by-append (brings o.sender) old.orders (o ∷ []) in
        let none = brings_none in
        let paid = ap value_of own_queue in
        let both = int_sum_by-append (λ (x : Order). pos x.amount) (queue old o.sender) (o ∷ []) in
        omega (arith, ints)

    keeps : (code : List ℕ) → KeepsQueue old with_order code
    keeps code = by (bytes_eq o.sender code) refl
      where
        by : (b : Bool) → bytes_eq o.sender code ≡ b → KeepsQueue old with_order code
        by true e = subst (KeepsQueue old with_order) ((bytes_decides o.sender code).0 e) (inr (record {
          newest = (o, own_queue);
          known = parties.0;
          unpaid = unpaid;
        }))
        by false e = inl (
          [],
          sym (one_queue code ∙ ap (λ b. queue old code ++ cond b (o ∷ []) []) e ∙ append-nil (queue old code))
              ∙ sym (append-nil (queue with_order code)),
        )

    with_order_frees_nothing : FreesNothing old with_order
    unfolding codes_of
    with_order_frees_nothing = record {
      day_stays = refl;
      accounts_stay = refl;
      queues = keeps;
      gains = all_of (λ code. is_empty (queue with_order code) ≡ false → GainsNothing old with_order code)
          (λ code some.
          let money = same_balance code in let least = same_floor code in inl (omega (arith, ints)))
          (codes_of with_order);
    }

pub order_frees_nothing : (old new : Book) (o : Order) → is_queued o ≡ true → IsSound new
    → IsShort old o.sender (balance old o.sender) (value_of (queue old o.sender) +ℤ pos o.amount)
    → Leads old (AddOrder o ∷ []) new → FreesNothing old new
order_frees_nothing old new o queued sound short leads = subst (FreesNothing old) leads.book
    (with_order_frees_nothing old o queued (subst IsSound (sym leads.book) sound) short)

-- ---- the last of a queue leaves it

-- what passes a test is altered so that it passes no more
left_over : (p is_in : Order → Bool) (f : Order → Order) → ((o : Order) → p (f o) ≡ false) → (os : List Order)
    → filter p (map (altered is_in f) os) ≡ filter (λ o. not (is_in o)) (filter p os)
left_over p is_in f never [] = refl
left_over p is_in f never (o ∷ os) = by (is_in o) refl (p o) refl (left_over p is_in f never os)
  where
    by : (a : Bool) → is_in o ≡ a → (b : Bool) → p o ≡ b
        → filter p (map (altered is_in f) os) ≡ filter (λ x. not (is_in x)) (filter p os)
        → filter p (cond a (f o) o ∷ map (altered is_in f) os)
        ≡ filter (λ x. not (is_in x)) (cond b (o ∷ filter p os) (filter p os))
    by true e true g rest = rw (never o, e) rest
    by true e false g rest = rw (never o) rest
    by false e true g rest = rw (g, e) (ap (λ xs. o ∷ xs) rest)
    by false e false g rest = rw g rest

some_numbers : (number : ℕ) (first : List ℕ) → [] ≡ first ++ number ∷ [] → ⊥
some_numbers number [] e = absurd (cc)
some_numbers number (n ∷ first) e = absurd (cc)

before_later : (number : ℕ) (first : List ℕ) (o : Order) (os : List Order)
    → map (λ (x : Order). x.number) os ≡ first ++ number ∷ []
    → AllByRecursion (λ (x : Order). o.number < x.number) os
    → AllByRecursion (λ (x : Order). x.number ≤ number) os → o.number ≤ number
before_later number first o [] e above below = absurd (some_numbers number first e)
before_later number first o (x ∷ xs) e above below = let lt = above.0 in let le = below.0 in omega arith

-- of rising numbers none is above the last
none_above : (number : ℕ) (first : List ℕ) (os : List Order) → AreRising os
    → map (λ (o : Order). o.number) os ≡ first ++ number ∷ [] → AllByRecursion (λ (o : Order). o.number ≤ number) os
none_above number first [] rise e = tt
none_above number [] (o ∷ os) rise e =
    let head : o.number ≡ number = cc in
    let rest : map (λ (x : Order). x.number) os ≡ [] = cc in
    rw (no_numbers os rest) (omega (arith, head), tt)
none_above number (n ∷ first) (o ∷ os) rise e =
    let rest : map (λ (x : Order). x.number) os ≡ first ++ number ∷ [] = cc in
    let later = none_above number first os rise.1 rest in
    (before_later number first o os rest rise.0 later, later)

none_after : (number : ℕ) (o : Order) (xs : List Order) → o.number ≡ number
    → AllByRecursion (λ (x : Order). o.number < x.number) xs → AllByRecursion (λ (x : Order). x.number ≤ number) xs
    → xs ≡ []
none_after number o [] e above below = refl
none_after number o (x ∷ xs) e above below = absurd (let lt = above.0 in let le = below.0 in omega arith)

pub same_number : (number : ℕ) (o : Order) → has_number number o ≡ true → o.number ≡ number
same_number number o e = grind (arith, nat_tests)

-- of rising numbers, none above this one, at most the last is left out
all_but_last : (number : ℕ) (os : List Order) → AreRising os → AllByRecursion (λ (o : Order). o.number ≤ number) os
    → (rest : List Order) × (os ≡ filter (λ o. not (has_number number o)) os ++ rest)
all_but_last number [] rise below = ([], refl)
all_but_last number (o ∷ os) rise below = by (has_number number o) refl (all_but_last number os rise.1 below.1)
  where
    by : (b : Bool) → has_number number o ≡ b
        → (rest : List Order) × (os ≡ filter (λ x. not (has_number number x)) os ++ rest)
        → (rest : List Order) × (o ∷ os ≡ cond (not b) (o ∷ filter (λ x. not (has_number number x)) os)
        (filter (λ x. not (has_number number x)) os) ++ rest)
    by true e part =
        let none = none_after number o os (same_number number o e) rise.0 below.1 in
        (o ∷ [], rw none refl)
    by false e part = (part.0, ap (λ xs. o ∷ xs) part.1)

find_passes : (p : Order → Bool) (os : List Order) (o : Order) → find p os ≡ Some o → p o ≡ true
find_passes p [] o e = absurd (let f : None ≡ Some o = e in cc)
find_passes p (x ∷ xs) o e = by (p x) refl e (find_passes p xs o)
  where
    by : (b : Bool) → p x ≡ b → cond b (Some x) (find p xs) ≡ Some o → (find p xs ≡ Some o → p o ≡ true) → p o ≡ true
    by true f g rest = let same : x ≡ o = cc in ap p (sym same) ∙ f
    by false f g rest = rest g

all_passing : (P : Order → Type 0) (p : Order → Bool) (os : List Order) → AllByRecursion (λ o. p o ≡ true → P o) os
    → AllByRecursion P (filter p os)
all_passing P p [] h = tt
all_passing P p (o ∷ os) h = by (p o) refl (all_passing P p os h.1)
  where
    by : (b : Bool) → p o ≡ b → AllByRecursion P (filter p os)
        → AllByRecursion P (cond b (o ∷ filter p os) (filter p os))
    by true e rest = (h.0 e, rest)
    by false e rest = rest

module _ (old : Book) (number : ℕ) (state : OrderState) (out : is_waiting_state state ≡ false) where
  abbrev left : Book
  left = with_state old (has_number number) state

  left_queue : (code : List ℕ) → queue left code ≡ filter (λ o. not (has_number number o)) (queue old code)
  unfolding queue with_state
  left_queue code = left_over (λ x. is_queued x && bytes_eq x.sender code) (has_number number) (in_state state)
      (λ o. rw (stays_unqueued state out) refl) old.orders

  left_floor : (code : List ℕ) → floor left code ≡ floor old code
  unfolding floor credit_of participant_of with_state
  left_floor code = refl

  left_day : left.day ≡ old.day
  unfolding with_state
  left_day = refl

  left_accounts : codes_of left ≡ codes_of old
  unfolding codes_of with_state
  left_accounts = refl

  module _ (lead : NumbersLeadToOrders) (law : QueuesAreOfTheWaiting) (rise : QueuesRise)
      (numbered : OrdersAreNumbered old) (waiting : List Order) (is : waiting ≡ filter is_waiting old.orders)
      (last : IsLast waiting number) where
    -- it is the only order with its number
    alone : AllByRecursion (λ (x : Order). has_number number x ≡ true → x ≡ last.order) old.orders
    alone =
        let all = subst (AllByRecursion (λ (x : Order). find (has_number x.number) old.orders ≡ Some x)) (sym is)
        (all_filter (λ (x : Order). find (has_number x.number) old.orders ≡ Some x) is_waiting old.orders
        (lead old numbered)) in
        let its = all_found (λ (x : Order). find (has_number x.number) old.orders ≡ Some x) (has_number number) waiting
        last.order all last.found in
        let passes = find_passes (has_number number) waiting last.order last.found in
        let same = same_number number last.order passes in
        subst (λ n. AllByRecursion (λ (x : Order). has_number n x ≡ true → x ≡ last.order) old.orders) same
        (alone_in_number lead old numbered (has_number last.order.number) last.order its)

    others_stay : (code : List ℕ) → bytes_eq last.order.sender code ≡ false
        → filter (λ o. not (has_number number o)) (queue old code) ≡ queue old code
    unfolding queue
    others_stay code apart = filter_all (λ o. not (has_number number o)) (queued_among old.orders code)
        (all_passing (λ o. not (has_number number o) ≡ true) (λ x. is_queued x && bytes_eq x.sender code) old.orders
        (all_weaker (λ x. has_number number x ≡ true → x ≡ last.order)
        (λ x. (is_queued x && bytes_eq x.sender code) ≡ true → not (has_number number x) ≡ true)
        (λ x only passes. other x only (and_right (is_queued x) _ passes)) old.orders alone))
      where
        other : (x : Order) → (has_number number x ≡ true → x ≡ last.order) → bytes_eq x.sender code ≡ true
            → not (has_number number x) ≡ true
        other x only mine = by (has_number number x) refl
          where
            by : (b : Bool) → has_number number x ≡ b → not b ≡ true
            by false e = refl
            by true e = absurd (true≢false (sym mine
                ∙ ap (λ (o : Order). bytes_eq o.sender code) (only e) ∙ apart))

    beginning : (code : List ℕ) → (rest : List Order) × (queue old code ≡ queue left code ++ rest)
    unfolding queue
    beginning code = by (bytes_eq last.order.sender code) refl
      where
        by : (b : Bool) → bytes_eq last.order.sender code ≡ b
            → (rest : List Order) × (queue old code ≡ queue left code ++ rest)
        by true e =
            let same = (bytes_decides last.order.sender code).0 e in
            let numbers : map (λ (o : Order). o.number) (queue old code) ≡ last.last.0 ++ number ∷ [] =
            sym (numbers_are law old.orders waiting code is) ∙ ap (queued_numbers waiting) (sym same) ∙ last.last.1 in
            let rising = rise old code numbered in
            let part = all_but_last number (queue old code) rising
            (none_above number last.last.0 (queue old code) rising numbers) in
            (part.0, part.1 ∙ ap (λ q. q ++ part.0) (sym (left_queue code)))
        by false e = (
          [],
          sym (others_stay code e) ∙ sym (left_queue code) ∙ sym (append-nil (queue left code)),
        )

    still : (code : List ℕ) → balance_set code (SetState number state ∷ [])
        ≡ (if int_eq (balance old code) (balance left code) then None else Some (balance left code))
        → is_empty (queue left code) ≡ false → GainsNothing old left code
    still code set some = by (int_eq (balance old code) (balance left code)) refl set
      where
        by : (b : Bool) → int_eq (balance old code) (balance left code) ≡ b
            → None ≡ (if b then None else Some (balance left code)) → GainsNothing old left code
        by true e set =
            let same = same_from_int_eq (balance old code) (balance left code) e in
            let least = left_floor code in
            inl (omega (arith, ints))
        by false e set = absurd (let f : None ≡ Some (balance left code) = set in cc)

    left_frees_nothing : SetsBalances old (SetState number state ∷ []) left → FreesNothing old left
    left_frees_nothing balances = record {
      day_stays = left_day;
      accounts_stay = left_accounts;
      queues = λ code. inl (beginning code);
      gains = all_weaker (λ code. balance_set code (SetState number state ∷ [])
          ≡ (if int_eq (balance old code) (balance left code) then None else Some (balance left code)))
          (λ code. is_empty (queue left code) ≡ false → GainsNothing old left code) still (codes_of left) balances;
    }

    pub last_frees_nothing : (new : Book) → Leads old (SetState number state ∷ []) new → FreesNothing old new
    last_frees_nothing new leads = subst (FreesNothing old) leads.book
        (left_frees_nothing (subst (SetsBalances old (SetState number state ∷ [])) (sym leads.book) leads.balances))
