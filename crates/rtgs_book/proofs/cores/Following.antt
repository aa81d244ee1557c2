-- The core of a book, row by row.
use Rattle.std.proofs.Common.{◌≡◌, ℕ, ◌+◌, ℤ, pos, Bool, true, false, cond, if◌then◌else◌, not, List, [], ◌∷◌, ◌++◌}
use Rattle.std.proofs.Common.{map, filter, length, refl, sym, ap, subst, ◌∙◌, length-append, true≢false}
use Rattle.std.proofs.lemmas.List.{map-append, length-map}
use Rattle.std.specs.List.{AllByRecursion}
use Rattle.rtgs_book.specs.declared.account.Account.{Account}
use Rattle.rtgs_book.specs.declared.book.Book.{Book}
use Rattle.rtgs_book.specs.declared.order.Order.{Order}
use Rattle.rtgs_book.specs.declared.order_state.OrderState.{OrderState}
use Rattle.rtgs_book.specs.declared.participant.Participant.{Participant}
use Rattle.rtgs_book.specs.declared.change.RowChange.{RowChange}
use Rattle.rtgs_book.specs.declared.change.RowChange.TheVariants.{AddParticipant, AddPosting, AddOrder, AddMark}
use Rattle.rtgs_book.specs.declared.change.RowChange.TheVariants.{SetCredit}
use Rattle.rtgs_book.specs.declared.change.RowChange.TheVariants.{SetBalance, SetState, EnterQueue, SetDay}
use Rattle.rtgs_book.specs.Books.{is_held, is_held_state, is_waiting, is_waiting_state}
use Rattle.rtgs_book.specs.declared.order_state.OrderState.TheVariants as state
use Rattle.rtgs_book.specs.Changes.{changed, with_row}
use Rattle.rtgs_book.specs.Commands.{is_before, has_number, is_held_with, entered, let_in}
use Rattle.rtgs_book.specs.Commands.{with_participant, with_credit, with_state}
use Rattle.rtgs_book.specs.Lookup.{has_code}
use Rattle.rtgs_book.specs.Ranges.{Fits}
use Rattle.rtgs_book.specs.Settle.{altered, restated}
use Rattle.rtgs_book.specs.Soundness.{IsSound}
use Rattle.rtgs_book.specs.declared.cores.cores.Core.{Core}
use Rattle.rtgs_book.specs.cores.Cores.{account_of, core_of, IsCoreOf}
use Rattle.rtgs_book.specs.cores.Following.{participant_in, code_of, is_of, with_account, with_balance, with_limit}
use Rattle.rtgs_book.specs.cores.Following.{limited}
use Rattle.rtgs_book.specs.cores.Following.{AreBalanced, core_after_row, core_after, WaitsNoMore}
use Rattle.rtgs_lists.proofs.Bools.{and_left}
use Rattle.rtgs_lists.proofs.Filters.{map-filter}

-- the core agrees with the book in all but balances
record Agrees (book : Book) (core : Core) : Type 0 where
  pub participants : map participant_in core.accounts ≡ book.participants
  pub waiting : core.waiting ≡ filter is_waiting book.orders
  pub day : core.day ≡ book.day
  pub postings : core.next_posting ≡ length book.postings + 1
  pub orders : core.next_order ≡ length book.orders + 1
  pub marks : core.next_mark ≡ length book.marks + 1

-- ---- lists

filter-append : {X : Type 0} (p : X → Bool) (xs ys : List X) → filter p (xs ++ ys) ≡ filter p xs ++ filter p ys
filter-append p [] ys = refl
filter-append p (x ∷ xs) ys = by (p x) (filter-append p xs ys)
  where
    by : (b : Bool) → filter p (xs ++ ys) ≡ filter p xs ++ filter p ys
        → cond b (x ∷ filter p (xs ++ ys)) (filter p (xs ++ ys)) ≡ cond b (x ∷ filter p xs) (filter p xs) ++ filter p ys
    by true e = ap (λ zs. x ∷ zs) e
    by false e = e

longer : {X : Type 0} (xs : List X) (x : X) (n : ℕ) → n ≡ length xs + 1 → n + 1 ≡ length (xs ++ x ∷ []) + 1
longer xs x n e = ap (λ k. k + 1) (e ∙ sym (length-append xs (x ∷ [])))

-- ---- participants

put_in : (new : Account) (xs : List Account) → map participant_in (with_account new xs)
    ≡ filter (λ p. is_before p.code (code_of new)) (map participant_in xs) ++ participant_in new
    ∷ filter (λ p. not (is_before p.code (code_of new))) (map participant_in xs)
put_in new xs = map-append participant_in (filter (λ a. is_before (code_of a) (code_of new)) xs)
    (new ∷ filter (λ a. not (is_before (code_of a) (code_of new))) xs)
    ∙ (λ i. map-filter participant_in (λ (p : Participant). is_before p.code (code_of new)) xs i ++ participant_in new
    ∷ map-filter participant_in (λ (p : Participant). not (is_before p.code (code_of new))) xs i)

limited_one : (code : List ℕ) (credit : ℕ) (a : Account) → participant_in (limited code credit a)
    ≡ (if has_code code (participant_in a) then record (participant_in a) { credit = credit } else participant_in a)
limited_one code credit a = by (is_of code a)
  where
    by : (b : Bool) → participant_in (cond b (record a { participant = record a.participant { credit = credit } }) a)
        ≡ cond b (record (participant_in a) { credit = credit }) (participant_in a)
    by true = refl
    by false = refl

limited_all : (code : List ℕ) (credit : ℕ) (xs : List Account) → map participant_in (with_limit code credit xs)
    ≡ map (λ (p : Participant). if has_code code p then record p { credit = credit } else p) (map participant_in xs)
limited_all code credit [] = refl
limited_all code credit (x ∷ xs) = λ i. limited_one code credit x i ∷ limited_all code credit xs i

rebalanced_all : (code : List ℕ) (z : ℤ) (xs : List Account) → map participant_in (with_balance code z xs)
    ≡ map participant_in xs
rebalanced_all code z [] = refl
rebalanced_all code z (x ∷ xs) = λ i. by (is_of code x) i ∷ rebalanced_all code z xs i
  where
    by : (b : Bool) → participant_in (cond b (record x { balance = z }) x) ≡ participant_in x
    by true = refl
    by false = refl

-- ---- orders that wait

waiting_rest : (number : ℕ) (state : OrderState) → is_waiting_state state ≡ false → (os : List Order)
    → filter is_waiting (map (restated (has_number number) state) os)
    ≡ filter (λ o. not (has_number number o)) (filter is_waiting os)
waiting_rest number state settled [] = refl
waiting_rest number state settled (o ∷ os) = by (has_number number o) (is_waiting o) refl refl
    (waiting_rest number state settled os)
  where
    by : (a b : Bool) → has_number number o ≡ a → is_waiting o ≡ b
        → filter is_waiting (map (restated (has_number number) state) os)
        ≡ filter (λ o. not (has_number number o)) (filter is_waiting os)
        → filter is_waiting (cond a (record o { state = state }) o ∷ map (restated (has_number number) state) os)
        ≡ filter (λ o. not (has_number number o)) (cond b (o ∷ filter is_waiting os) (filter is_waiting os))
    by true true e f rest = rw (settled, e) rest
    by true false e f rest = rw settled rest
    by false true e f rest = rw (f, e) (ap (λ ys. o ∷ ys) rest)
    by false false e f rest = rw f rest

waiting_one : (o : Order) (os waiting : List Order) → waiting ≡ filter is_waiting os
    → (if is_waiting o then waiting ++ o ∷ [] else waiting) ≡ filter is_waiting (os ++ o ∷ [])
waiting_one o os waiting e = by (is_waiting o) refl ∙ sym (filter-append is_waiting os (o ∷ []))
  where
    by : (b : Bool) → is_waiting o ≡ b → cond (is_waiting o) (waiting ++ o ∷ []) waiting
        ≡ filter is_waiting os ++ filter is_waiting (o ∷ [])
    by true f = rw f (ap (λ ys. ys ++ o ∷ []) e)
    by false f = rw f (e ∙ sym (append_nothing (filter is_waiting os)))
      where
        append_nothing : (xs : List Order) → xs ++ [] ≡ xs
        append_nothing [] = refl
        append_nothing (x ∷ xs) = ap (λ ys. x ∷ ys) (append_nothing xs)

-- an order that enters its queue was held, and so waits before and after
held_waits : (o : Order) → is_held o ≡ true → is_waiting o ≡ true
held_waits o e = by o.state e
  where
    by : (s : OrderState) → is_held_state s ≡ true → is_waiting_state s ≡ true
    by state.Held e = refl
    by state.Queued e = absurd (true≢false (sym e))
    by (state.Settled mark) e = absurd (true≢false (sym e))
    by state.Withdrawn e = absurd (true≢false (sym e))
    by state.Rejected e = absurd (true≢false (sym e))

waiting_entered : (number date : ℕ) (os : List Order)
    → filter is_waiting (map (altered (is_held_with number) (entered date)) os)
    ≡ map (altered (is_held_with number) (entered date)) (filter is_waiting os)
waiting_entered number date [] = refl
waiting_entered number date (o ∷ os) = by (is_held_with number o) refl (is_waiting o) refl
    (waiting_entered number date os)
  where
    f : Order → Order
    f = altered (is_held_with number) (entered date)

    by : (h : Bool) → is_held_with number o ≡ h → (w : Bool) → is_waiting o ≡ w
        → filter is_waiting (map f os) ≡ map f (filter is_waiting os)
        → filter is_waiting (cond h (entered date o) o ∷ map f os)
        ≡ map f (cond w (o ∷ filter is_waiting os) (filter is_waiting os))
    by true e true g rest = rw e (ap (λ ys. entered date o ∷ ys) rest)
    by true e false g rest = absurd (true≢false (sym (held_waits o (and_left (is_held o) _ e)) ∙ g))
    by false e true g rest = rw (g, e) (ap (λ ys. o ∷ ys) rest)
    by false e false g rest = rw g rest

-- ---- a row, and all rows

one_row : (book : Book) (core : Core) (row : RowChange) → WaitsNoMore row → Agrees book core
    → Agrees (with_row book row) (core_after_row core row)
unfolding with_participant with_credit with_state let_in
one_row book core (AddParticipant p) none a = record {
  participants = put_in (record { participant = p; balance = pos 0 }) core.accounts
      ∙ (λ i. filter (λ (q : Participant). is_before q.code p.code) (a.participants i) ++ p
      ∷ filter (λ (q : Participant). not (is_before q.code p.code)) (a.participants i));
  waiting = a.waiting;
  day = a.day;
  postings = a.postings;
  orders = a.orders;
  marks = a.marks;
}
one_row book core (AddPosting p) none a = record {
  participants = a.participants;
  waiting = a.waiting;
  day = a.day;
  postings = longer book.postings p core.next_posting a.postings;
  orders = a.orders;
  marks = a.marks;
}
one_row book core (AddOrder o) none a = record {
  participants = a.participants;
  waiting = waiting_one o book.orders core.waiting a.waiting;
  day = a.day;
  postings = a.postings;
  orders = longer book.orders o core.next_order a.orders;
  marks = a.marks;
}
one_row book core (AddMark m) none a = record {
  participants = a.participants;
  waiting = a.waiting;
  day = a.day;
  postings = a.postings;
  orders = a.orders;
  marks = longer book.marks m core.next_mark a.marks;
}
one_row book core (SetCredit code credit) none a = record {
  participants = limited_all code credit core.accounts
      ∙ ap (map (λ (p : Participant). if has_code code p then record p { credit = credit } else p)) a.participants;
  waiting = a.waiting;
  day = a.day;
  postings = a.postings;
  orders = a.orders;
  marks = a.marks;
}
one_row book core (SetBalance code z) none a = record {
  participants = rebalanced_all code z core.accounts ∙ a.participants;
  waiting = a.waiting;
  day = a.day;
  postings = a.postings;
  orders = a.orders;
  marks = a.marks;
}
one_row book core (SetState number state) none a = record {
  participants = a.participants;
  waiting = ap (filter (λ (o : Order). not (has_number number o))) a.waiting
      ∙ sym (waiting_rest number state none book.orders);
  day = a.day;
  postings = a.postings;
  orders = a.orders ∙ ap (λ n. n + 1) (sym (length-map book.orders (restated (has_number number) state)));
  marks = a.marks;
}
one_row book core (EnterQueue number date) none a = record {
  participants = a.participants;
  waiting = ap (map (altered (is_held_with number) (entered date))) a.waiting
      ∙ sym (waiting_entered number date book.orders);
  day = a.day;
  postings = a.postings;
  orders = a.orders ∙ ap (λ n. n + 1) (sym (length-map book.orders (altered (is_held_with number) (entered date))));
  marks = a.marks;
}
one_row book core (SetDay day) none a = record {
  participants = a.participants;
  waiting = a.waiting;
  day = refl;
  postings = a.postings;
  orders = a.orders;
  marks = a.marks;
}

all_rows : (book : Book) (core : Core) (rows : List RowChange) → AllByRecursion WaitsNoMore rows → Agrees book core
    → Agrees (changed book rows) (core_after core rows)
all_rows book core [] none a = a
all_rows book core (row ∷ rows) none a =
    all_rows (with_row book row) (core_after_row core row) rows none.1 (one_row book core row none.0 a)

-- ---- and the balances

own_participants : (book : Book) (ps : List Participant) → map participant_in (map (account_of book) ps) ≡ ps
own_participants book [] = refl
own_participants book (p ∷ ps) = ap (λ qs. p ∷ qs) (own_participants book ps)

agrees : (book : Book) (core : Core) → core ≡ core_of book → Agrees book core
unfolding core_of
agrees book core is = subst (Agrees book) (sym is) (record {
  participants = own_participants book book.participants;
  waiting = refl;
  day = refl;
  postings = refl;
  orders = refl;
  marks = refl;
})

are_accounts : (book : Book) (xs : List Account) → AreBalanced book xs
    → xs ≡ map (account_of book) (map participant_in xs)
are_accounts book [] h = refl
are_accounts book (x ∷ xs) h = λ i. record { participant = x.participant; balance = h.0 i }
    ∷ are_accounts book xs h.1 i

is_core : (book : Book) (core : Core) → Agrees book core → AreBalanced book core.accounts → core ≡ core_of book
unfolding core_of
is_core book core a balanced = λ i. record {
  accounts = (are_accounts book core.accounts balanced ∙ ap (map (account_of book)) a.participants) i;
  waiting = a.waiting i;
  day = a.day i;
  next_posting = a.postings i;
  next_order = a.orders i;
  next_mark = a.marks i;
}

pub follows : (old new : Book) (core : Core) (rows : List RowChange) → IsCoreOf old core → changed old rows ≡ new
    → IsSound new → Fits new → AllByRecursion WaitsNoMore rows → AreBalanced new (core_after core rows).accounts
    → IsCoreOf new (core_after core rows)
follows old new core rows was leads sound fits none balanced = record {
  sound = sound;
  fits = fits;
  is = is_core new (core_after core rows) (subst (λ book. Agrees book (core_after core rows)) leads
      (all_rows old core rows none (agrees old core was.is))) balanced;
}
