-- What the resolver is given of the accounts.
use Rattle.std.proofs.Common.{◌≡◌, ℕ, List, [], ◌∷◌, ◌++◌, map, find, Some, Less, nat_cmp, refl, sym, ap, ◌∙◌, subst}
use Rattle.std.proofs.Common.{take, length, length-append, suc, ◌<◌, ◌≤◌, ◌+◌, ◌*◌, get_or, true}
use Rattle.std.proofs.Common.{arith}
use Rattle.std.proofs.lemmas.List.{append-nil, length-map, length-take, get_or-map}
use Rattle.std.specs.List.{AllByRecursion, position_or_len, flat_map}
use Rattle.std.specs.Str.{bytes_eq}
use Rattle.std.specs.List.Sorted.{IsStrictlySortedBy}
use Rattle.std.specs.Cmp.Lexicographic.{slice_cmp, bytes_decides}
use Rattle.rtgs_book.specs.declared.book.Book.{Book}
use Rattle.rtgs_book.specs.Balance.{balance}
use Rattle.rtgs_book.specs.Lookup.{codes_of}
use Rattle.rtgs_book.specs.Soundness.{IsSound}
use Rattle.rtgs_gridlock.specs.declared.positions.Position.{Position}
use Rattle.rtgs_choices.specs.ByIndex.{code_at, index_of, position_of, positions_of, payment_of, payments_of, queues_of}
use Rattle.rtgs_choices.specs.ByIndex.{by_code}
use Rattle.rtgs_choices.specs.Settling.{orders_taken}
use Rattle.rtgs_book.specs.declared.order.Order.{Order}
use Rattle.rtgs_book.specs.Choice.{Choice, IsGreatest}
use Rattle.rtgs_book.specs.Queue.{queue, waiting, queued_among}
use Rattle.rtgs_book.specs.declared.order_state.OrderState.{OrderState}
use Rattle.rtgs_book.specs.declared.order_state.OrderState.TheVariants.{Queued, Held, Settled, Withdrawn, Rejected}
use Rattle.rtgs_book.specs.declared.participant.Participant.{Participant}
use Rattle.rtgs_book.specs.Books.{is_queued, is_queued_state, is_waiting, is_waiting_state}
use Rattle.rtgs_records.specs.accounts.Accounts.{participant_in}
use Rattle.std.specs.Str.{bytes_eq}
use Rattle.std.proofs.Common.{◌&&◌, Bool, true, false}
use Rattle.rtgs_lists.proofs.Filters.{filter_shorter}
use Rattle.rtgs_lists.proofs.Lists.{all_weaker}
use Rattle.rtgs_book.specs.declared.account.Account.{Account}
use Rattle.rtgs_book.specs.declared.limits.TheConstants.{LONGEST_QUEUE, MOST_PARTICIPANTS, MOST_QUEUED}
use Rattle.rtgs_records.specs.accounts.Accounts.{code_of, is_of, CodesRiseStrictly}
use Rattle.rtgs_ledger.specs.Choosing.{position_at, taken_from, positions_in, queues_in}
use Rattle.rtgs_ledger.proofs.Kept.{codes-participants, floor_at as floor_is}
use Rattle.rtgs_book.specs.cores.Following.{AreBalanced}
use Rattle.rtgs_book.specs.cores.Cores.{IsCoreOf}
use Rattle.rtgs_gridlock.specs.declared.queues.Payment.{Payment}
use Rattle.rtgs_gridlock.specs.Choices.{AreFloored, AreInRange, payment_count}
use Rattle.rtgs_records.specs.declared.records.Records.{Records}
use Rattle.rtgs_records.specs.Held as seen
use Rattle.rtgs_records.specs.Records.{held_of as seen_of}
use Rattle.rtgs_ledger.specs.Resolving.{AreGreatest, CanResolve}
use Rattle.rtgs_records.specs.queues.Laws.{QueuesAreOfTheWaiting}
use Rattle.rtgs_lists.proofs.Codes.{later_differs}
use Rattle.rtgs_ledger.proofs.Loading.{in_order}
use Rattle.rtgs_ledger.proofs.Reading.{queue_is}
use Rattle.rtgs_ledger.proofs.Whole.{IsKept, Whole, book_of, held_of, is_of_book, whole}

-- what was done is the whole where nothing is left
pub all_done : {X : Type 0} (done rest whole : List X) → rest ≡ [] → done ++ rest ≡ whole → done ≡ whole
all_done done rest whole e h = sym (append-nil done) ∙ ap (λ r. done ++ r) (sym e) ∙ h

abbrev position_in : Book → Account → Position
position_in book = position_at book.day.phase

apart_from : (x : Account) (xs ys : List Account) → AllByRecursion (λ c. slice_cmp nat_cmp (code_of x) c ≡ Less)
    (map code_of ys) → AllByRecursion (λ a. find (is_of (code_of a)) xs ≡ Some a) ys
    → AllByRecursion (λ a. find (is_of (code_of a)) (x ∷ xs) ≡ Some a) ys
apart_from x xs [] less h = tt
apart_from x xs (y ∷ ys) less h = (
  rw (later_differs (code_of x) (code_of y) less.0) h.0,
  apart_from x xs ys less.1
      h.1,
)

-- each account is found by its code
pub all_found : (xs : List Account) → CodesRiseStrictly xs
    → AllByRecursion (λ a. find (is_of (code_of a)) xs ≡ Some a) xs
unfolding IsStrictlySortedBy
all_found [] rise = tt
all_found (x ∷ xs) rise = (
  rw ((bytes_decides (code_of x) (code_of x)).1 refl) refl,
  apart_from x xs xs rise.0
      (all_found xs rise.1),
)

module _ (r : Whole) (kept : IsKept (held_of r)) where
  position_is : (a : Account) → find (is_of (code_of a)) r.accounts.accounts ≡ Some a
      → a.balance ≡ balance (book_of r) (code_of a) → position_in (book_of r) a ≡ position_of (book_of r) (code_of a)
  position_is a found e = λ i. record { balance = e i; floor = sym (floor_is r kept (code_of a) a found) i }

  each_position : (xs : List Account) → AllByRecursion (λ a. find (is_of (code_of a)) r.accounts.accounts ≡ Some a) xs
      → AreBalanced (book_of r) xs → map (position_in (book_of r)) xs ≡ map (position_of (book_of r)) (map code_of xs)
  each_position [] h e = refl
  each_position (x ∷ xs) h e = λ i. position_is x h.0 e.0 i ∷ each_position xs h.1 e.1 i

  pub positions_are : CodesRiseStrictly r.accounts.accounts → map (position_in (book_of r)) r.accounts.accounts
      ≡ positions_of (book_of r)
  unfolding positions_of codes_of
  positions_are rise = each_position r.accounts.accounts (all_found r.accounts.accounts rise) kept.balanced
      ∙ ap (map (position_of (book_of r))) (codes-participants r.accounts.accounts)

map-map : {X Y Z : Type 0} (g : Y → Z) (f : X → Y) (xs : List X) → map (λ x. g (f x)) xs ≡ map g (map f xs)
map-map g f [] = refl
map-map g f (x ∷ xs) = ap (λ ys. g (f x) ∷ ys) (map-map g f xs)

pub index_is : (r : Whole) (code : List ℕ) → position_or_len (bytes_eq code) (map code_of r.accounts.accounts)
    ≡ index_of (book_of r) code
unfolding index_of codes_of
index_is r code = ap (position_or_len (bytes_eq code)) (codes-participants r.accounts.accounts)

-- the queues of a core are those of its book
pub queues_are : (r : Whole) (queued : List Order) → ((code : List ℕ) → queued_among queued code ≡ queue
    (book_of r) code)
    → map (λ a. map (λ (o : Order). record {
      receiver = position_or_len (bytes_eq o.receiver) (map code_of r.accounts.accounts);
      amount = o.amount;
    }) (queued_among queued (code_of a))) r.accounts.accounts ≡ queues_of (book_of r)
unfolding queues_of codes_of index_of
queues_are r queued same =
    each r.accounts.accounts
    ∙ map-map (payments_of (book_of r)) code_of r.accounts.accounts
    ∙ ap (map (payments_of (book_of r))) (codes-participants r.accounts.accounts)
  where
    one : (o : Order) → record {
      receiver = position_or_len (bytes_eq o.receiver) (map code_of r.accounts.accounts);
      amount = o.amount;
    } ≡ payment_of (book_of r) o
    one o = λ i. record { receiver = index_is r o.receiver i; amount = o.amount }

    all : (os : List Order) → map (λ (o : Order). record {
      receiver = position_or_len (bytes_eq o.receiver) (map code_of r.accounts.accounts);
      amount = o.amount;
    }) os ≡ map (payment_of (book_of r)) os
    all [] = refl
    all (o ∷ os) = λ i. one o i ∷ all os i

    each : (xs : List Account) → map (λ a. map (λ (o : Order). record {
      receiver = position_or_len (bytes_eq o.receiver) (map code_of r.accounts.accounts);
      amount = o.amount;
    }) (queued_among queued (code_of a))) xs ≡ map (λ a. payments_of (book_of r) (code_of a)) xs
    each [] = refl
    each (x ∷ xs) = λ i. (all (queued_among queued (code_of x)) ∙ ap (map (payment_of (book_of r))) (same
        (code_of x))) i
        ∷ each xs i

-- ---- the beginnings of queues

-- as many codes as accounts
pub count_is : (r : Whole) → length (codes_of (book_of r)) ≡ length r.accounts.accounts
unfolding codes_of
count_is r = ap length (sym (codes-participants r.accounts.accounts)) ∙ length-map r.accounts.accounts code_of

pub code_at_is : (r : Whole) (i : ℕ) (d : Account) → i < length r.accounts.accounts
    → code_at (book_of r) i ≡ code_of (get_or r.accounts.accounts i d)
unfolding codes_of
code_at_is r i d less = ap (λ codes. get_or codes i []) (sym (codes-participants r.accounts.accounts))
    ∙ get_or-map code_of r.accounts.accounts i d [] less

-- the lengths take what the choice takes that they mean
taken_each : (book : Book) (choice : Choice) (lengths : ℕ → ℕ) (queued : List Order) (i : ℕ) (xs : List Account)
    → ((code : List ℕ) → queued_among queued code ≡ queue book code)
    → ((k : ℕ) (d : Account) → k < length xs → choice (code_of (get_or xs k d)) ≡ lengths (i + k))
    → taken_from lengths queued i xs ≡ flat_map (λ code. take (choice code) (queue book code)) (map code_of xs)
taken_each book choice lengths queued i [] same agree = refl
taken_each book choice lengths queued i (x ∷ xs) same agree =
    let first : lengths i ≡ choice (code_of x) = ap lengths (omega arith) ∙ sym (agree 0 x (omega arith)) in
    (λ k. take (first k) (same (code_of x) k) ++ taken_each book choice lengths queued (i + 1) xs same
    (λ j d lt. agree (suc j) d (omega arith) ∙ ap lengths (omega arith)) k)

pub taken_is : (r : Whole) (choice : Choice) (lengths : ℕ → ℕ) (queued : List Order)
    → ((code : List ℕ) → queued_among queued code ≡ queue (book_of r) code)
    → ((k : ℕ) (d : Account) → k < length r.accounts.accounts
    → choice (code_of (get_or r.accounts.accounts k d)) ≡ lengths k)
    → taken_from lengths queued 0 r.accounts.accounts ≡ orders_taken (book_of r) choice
unfolding orders_taken codes_of
taken_is r choice lengths queued same agree = taken_each (book_of r) choice lengths queued 0 r.accounts.accounts same
    (λ k d lt. agree k d lt ∙ ap lengths (omega arith))
    ∙ ap (flat_map (λ code. take (choice code) (queue (book_of r) code))) (codes-participants r.accounts.accounts)

-- so they are few
taken_few : (book : Book) (lengths : ℕ → ℕ) (queued : List Order) (i : ℕ) (xs : List Account)
    → ((code : List ℕ) → queued_among queued code ≡ queue book code)
    → AllByRecursion (λ code. length (queue book code) ≤ LONGEST_QUEUE) (map code_of xs)
    → length (taken_from lengths queued i xs) ≤ length xs * LONGEST_QUEUE
taken_few book lengths queued i [] same short = omega arith
taken_few book lengths queued i (x ∷ xs) same short =
    let long = length-append (take (lengths i) (queued_among queued (code_of x))) (taken_from lengths queued
    (i + 1) xs) in
    let part = length-take (lengths i) (queued_among queued (code_of x)) in
    let its : length (queued_among queued (code_of x)) ≡ length (queue book (code_of x)) = ap length (same
    (code_of x)) in
    let first = short.0 in
    let rest = taken_few book lengths queued (i + 1) xs same short.1 in
    omega (arith, long, part, its, first, rest)

pub queued_waits : (s : OrderState) → is_queued_state s ≡ true → is_waiting_state s ≡ true
queued_waits Queued e = refl
queued_waits Held e = refl
queued_waits (Settled mark) e = absurd (cc)
queued_waits Withdrawn e = absurd (cc)
queued_waits Rejected e = absurd (cc)

-- a queue is no longer than the orders that wait
short_queue : (book : Book) (code : List ℕ) → length (waiting book code) ≤ LONGEST_QUEUE
    → length (queue book code) ≤ LONGEST_QUEUE
unfolding queue waiting
short_queue book code few =
    let le = filter_shorter (λ o. is_queued o && bytes_eq o.sender code) (λ o. is_waiting o && bytes_eq o.sender code)
    (λ o e. wider (is_queued o) (bytes_eq o.sender code) (is_waiting o) (queued_waits o.state) e) book.orders in
    omega (arith, le, few)
  where
    wider : (a b c : Bool) → (a ≡ true → c ≡ true) → (a && b) ≡ true → (c && b) ≡ true
    wider true b c f e = rw (f refl) e
    wider false b c f e = absurd (cc)

pub few_taken : (r : Whole) (lengths : ℕ → ℕ) (queued : List Order) → IsSound (book_of r)
    → ((code : List ℕ) → queued_among queued code ≡ queue (book_of r) code)
    → length (taken_from lengths queued 0 r.accounts.accounts) ≤ MOST_QUEUED
unfolding codes_of
few_taken r lengths queued sound same =
    let short = subst (AllByRecursion (λ code. length (queue (book_of r) code) ≤ LONGEST_QUEUE))
    (sym (codes-participants r.accounts.accounts))
    (all_weaker (λ code. length (waiting (book_of r) code) ≤ LONGEST_QUEUE)
    (λ code. length (queue (book_of r) code) ≤ LONGEST_QUEUE) (λ code few. short_queue (book_of r) code few)
    (map (λ (p : Participant). p.code) (map participant_in r.accounts.accounts)) sound.queues.short) in
    let few : length (codes_of (book_of r)) ≤ MOST_PARTICIPANTS = sound.codes_rise.1 in
    let count = count_is r in
    let all = taken_few (book_of r) lengths queued 0 r.accounts.accounts same short in
    omega (arith, few, count, all)

-- records that contracts see so
abbrev pub records_of : seen.Held → Records
records_of held = record {
  accounts = record { accounts = held.core.accounts; room = held.room.participants };
  orders = record {
    orders = held.core.waiting;
    tidy = true;
    next = held.core.next_order;
    room = held.room.orders;
    awaited = held.room.awaited;
    holds = held.room.holds;
  };
  day = held.core.day;
  next_posting = held.core.next_posting;
  next_mark = held.core.next_mark;
}

-- ---- what the resolver is given of a ledger that has the core of a book

module _ (book : Book) (r : Records) (held : seen.Held) (view : seen_of r ≡ held) (is : IsCoreOf book held.core)
    (law : QueuesAreOfTheWaiting) where
  queues_same : (code : List ℕ) → queued_among r.orders.orders code ≡ queue (book_of (whole book r)) code
  queues_same code = let of = is_of_book book r held view is in
      queue_is law (book_of (whole book r)) r.orders.orders code of.waiting

  pub positions_given : positions_in held.core ≡ positions_of book
  positions_given =
      let of = is_of_book book r held view is in
      ap (λ (h : seen.Held). positions_in h.core) (sym view)
      ∙ positions_are (whole book r) of.kept (subst CodesRiseStrictly (sym of.accounts) (in_order book held.core is))
      ∙ ap positions_of of.same

  pub queues_given : queues_in held.core ≡ queues_of book
  queues_given =
      let of = is_of_book book r held view is in
      ap (λ (h : seen.Held). queues_in h.core) (sym view)
      ∙ queues_are (whole book r) r.orders.orders queues_same
      ∙ ap queues_of of.same

  pub greatest_taken : (lengths : ℕ → ℕ) → ((b : Book) (lengths : ℕ → ℕ) (i : ℕ) → IsSound b
      → i < length (codes_of b) → by_code b lengths (code_at b i) ≡ lengths i) → IsGreatest book (by_code book lengths)
      → (orders : List Order) → orders ≡ taken_from lengths held.core.waiting 0 held.core.accounts
      → AreGreatest book orders
  greatest_taken lengths agreed greatest orders e =
      let of = is_of_book book r held view is in
      let choice = by_code book lengths in
      let agree : (k : ℕ) (d : Account) → k < length r.accounts.accounts
      → choice (code_of (get_or r.accounts.accounts k d)) ≡ lengths k = λ k d lt.
      ap choice (sym (code_at_is (whole book r) k d lt) ∙ ap (λ (b : Book). code_at b k) of.same)
      ∙ agreed book lengths k is.sound (subst (λ n. k < n) (sym (count_is (whole book r))
      ∙ ap (λ (b : Book). length (codes_of b)) of.same) lt) in
      let here : orders ≡ taken_from lengths r.orders.orders 0 r.accounts.accounts = e
      ∙ ap (λ (h : seen.Held). taken_from lengths h.core.waiting 0 h.core.accounts) (sym view) in
      record {
        choice = choice;
        greatest = greatest;
        taken = here ∙ taken_is (whole book r) choice lengths r.orders.orders queues_same agree
            ∙ ap (λ (b : Book). orders_taken b choice) of.same;
        few = subst (λ (os : List Order). length os ≤ MOST_QUEUED) (sym here)
            (few_taken (whole book r) lengths r.orders.orders of.kept.sound queues_same);
      }

-- the resolver can be given what a sound book has
pub resolvable : (book : Book) (positions : List Position) (queues : List (List Payment))
    → positions ≡ positions_of book → queues ≡ queues_of book → length (positions_of book) ≡ length (codes_of book)
    → length (queues_of book) ≡ length (codes_of book) → AreFloored (positions_of book) → AreInRange (queues_of book)
    → payment_count (queues_of book) ≤ MOST_QUEUED → CanResolve positions queues
resolvable book positions queues p q many long floored receivers few = record {
  floored = subst AreFloored (sym p) floored;
  same = ap length p ∙ many ∙ sym long ∙ ap length (sym q);
  receivers = subst AreInRange (sym q) receivers;
  few = subst (λ (qs : List (List Payment)). payment_count qs ≤ MOST_QUEUED) (sym q) few;
}
