-- What a participant reads is of its own rows.
use Rattle.std.proofs.Common.{◌≡◌, ℕ, pos, ◌+ℤ◌, Bool, true, false, ◌&&◌, ◌||◌, cond, List, [], ◌∷◌, filter}
use Rattle.std.proofs.Common.{Some, refl, sym, ap, ◌∙◌}
use Rattle.std.proofs.Math.IntN.{+ℤ_idl}
use Rattle.std.specs.List.{find}
use Rattle.std.specs.Str.{bytes_eq}
use Rattle.rtgs_book.specs.Balance.{balance, floor, gain}
use Rattle.rtgs_book.specs.Books.{is_held, is_queued, is_settled}
use Rattle.rtgs_book.specs.Choice.{Choice}
use Rattle.rtgs_book.specs.IntSum.{int_sum_by}
use Rattle.rtgs_book.specs.Lookup.{credit_of, order_named, participant_of, is_order_named}
use Rattle.rtgs_book.specs.Queue.{queue}
use Rattle.rtgs_book.specs.declared.book.Book.{Book}
use Rattle.rtgs_book.specs.declared.order.Order.{Order}
use Rattle.rtgs_desk.specs.Readings.{account_answer, by_date, held, held_answer, queue_answer, order_answer}
use Rattle.rtgs_desk.specs.Readings.{waiting_answer}
use Rattle.rtgs_http_bodies.specs.desks.Written.{statement_wanted}
use Rattle.rtgs_http_requests.specs.Access.{IsReadingOf}
use Rattle.rtgs_book.specs.declared.reading.Reading.{Reading}
use Rattle.rtgs_book.specs.declared.reading.Reading.TheVariants as reading
use Rattle.rtgs_statements.specs.Records.{is_posting_of, is_order_of, is_posted_on, is_ordered_on}
use Rattle.rtgs_http_server.specs.reply_laws.Own.{AgreeFor, concerns, is_posted_to}
use Rattle.rtgs_http_server.specs.exchange.ReplyMessages.{reading_message}
use Rattle.rtgs_lists.proofs.Bools.{and_left, and_right, or_left_false, or_right_false}

or_left : (a b : Bool) → a ≡ true → (a || b) ≡ true
or_left true b e = refl
or_left false b e = absurd (cc)

and_false : (a b : Bool) → a ≡ true → (a && b) ≡ false → b ≡ false
and_false true b e h = h
and_false false b e h = absurd (cc)

-- what is taken of a list is taken of those that it can be of
within : {A : Type 0} (p q : A → Bool) → ((x : A) → p x ≡ true → q x ≡ true) → (xs : List A)
    → filter p xs ≡ filter p (filter q xs)
within p q implied [] = refl
within p q implied (x ∷ xs) = by (p x) refl (q x) refl (within p q implied xs)
  where
    by : (a : Bool) → p x ≡ a → (b : Bool) → q x ≡ b → filter p xs ≡ filter p (filter q xs)
        → cond a (x ∷ filter p xs) (filter p xs) ≡ filter p (cond b (x ∷ filter q xs) (filter q xs))
    by true e true f r = rw e (ap (λ l. x ∷ l) r)
    by true e false f r = let yes = implied x e in absurd (cc)
    by false e true f r = rw e r
    by false e false f r = r

find_within : {A : Type 0} (p q : A → Bool) → ((x : A) → p x ≡ true → q x ≡ true) → (xs : List A)
    → find p xs ≡ find p (filter q xs)
find_within p q implied [] = refl
find_within p q implied (x ∷ xs) = by (p x) refl (q x) refl (find_within p q implied xs)
  where
    by : (a : Bool) → p x ≡ a → (b : Bool) → q x ≡ b → find p xs ≡ find p (filter q xs)
        → cond a (Some x) (find p xs) ≡ find p (cond b (x ∷ filter q xs) (filter q xs))
    by true e true f r = rw e refl
    by true e false f r = let yes = implied x e in absurd (cc)
    by false e true f r = rw e r
    by false e false f r = r

taken_alike : {A : Type 0} (p q : A → Bool) → ((x : A) → p x ≡ true → q x ≡ true) → (xs ys : List A)
    → filter q xs ≡ filter q ys → filter p xs ≡ filter p ys
taken_alike p q implied xs ys same = within p q implied xs ∙ ap (filter p) same ∙ sym (within p q implied ys)

found_alike : {A : Type 0} (p q : A → Bool) → ((x : A) → p x ≡ true → q x ≡ true) → (xs ys : List A)
    → filter q xs ≡ filter q ys → find p xs ≡ find p ys
found_alike p q implied xs ys same = find_within p q implied xs ∙ ap (find p) same ∙ sym (find_within p q implied ys)

-- an order that does not concern a participant moves nothing of its
unmoved : (code : List ℕ) (order : Order) → is_settled order ≡ true → concerns code order ≡ false
    → gain code order ≡ pos 0
unfolding gain
unmoved code order settled other =
    let sender = or_left_false (bytes_eq order.sender code) (is_settled order && bytes_eq order.receiver code) other in
    let rest = or_right_false (bytes_eq order.sender code) (is_settled order && bytes_eq order.receiver code) other in
    let receiver = and_false (is_settled order) (bytes_eq order.receiver code) settled rest in
    rw (sender, receiver) refl

-- what a participant gained, it gained by orders that concern it
gained : (code : List ℕ) (orders : List Order)
    → int_sum_by (gain code) (filter is_settled orders)
    ≡ int_sum_by (gain code) (filter is_settled (filter (concerns code) orders))
gained code [] = refl
gained code (order ∷ orders) = by (is_settled order) refl (concerns code order) refl (gained code orders)
  where
    by : (a : Bool) → is_settled order ≡ a → (b : Bool) → concerns code order ≡ b
        → int_sum_by (gain code) (filter is_settled orders)
        ≡ int_sum_by (gain code) (filter is_settled (filter (concerns code) orders))
        → int_sum_by (gain code) (cond a (order ∷ filter is_settled orders) (filter is_settled orders))
        ≡ int_sum_by (gain code) (filter is_settled (cond b (order ∷ filter (concerns code) orders)
        (filter (concerns code) orders)))
    by true e true f r = rw e (ap (λ z. gain code order +ℤ z) r)
    by true e false f r =
        ap (λ z. z +ℤ int_sum_by (gain code) (filter is_settled orders)) (unmoved code order e f)
        ∙ +ℤ_idl (int_sum_by (gain code) (filter is_settled orders)) ∙ r
    by false e true f r = rw e r
    by false e false f r = r

balance_alike : (one other : Book) (code : List ℕ) → AgreeFor code one other → balance one code ≡ balance other code
unfolding balance
balance_alike one other code agree =
    let gains : int_sum_by (gain code) (filter is_settled one.orders)
    ≡ int_sum_by (gain code) (filter is_settled other.orders) =
    gained code one.orders ∙ ap (λ os. int_sum_by (gain code) (filter is_settled os)) agree.orders
    ∙ sym (gained code other.orders) in
    rw (agree.postings, gains) refl

own_order : (code : List ℕ) (order : Order) → bytes_eq order.sender code ≡ true → concerns code order ≡ true
own_order code order e = or_left (bytes_eq order.sender code) (is_settled order && bytes_eq order.receiver code) e

queue_alike : (one other : Book) (code : List ℕ) → AgreeFor code one other → queue one code ≡ queue other code
unfolding queue
queue_alike one other code agree =
    taken_alike (λ order. is_queued order && bytes_eq order.sender code) (concerns code)
    (λ order e. own_order code order (and_right (is_queued order) (bytes_eq order.sender code) e)) one.orders
    other.orders agree.orders

named_alike : (one other : Book) (code reference : List ℕ) → AgreeFor code one other
    → order_named one code reference ≡ order_named other code reference
unfolding order_named
named_alike one other code reference agree =
    found_alike (is_order_named code reference) (concerns code)
    (λ order e. own_order code order (and_left (bytes_eq order.sender code) (bytes_eq order.reference reference) e))
    one.orders other.orders agree.orders

order_alike : (one other : Book) (code reference : List ℕ) → AgreeFor code one other
    → order_answer one code reference ≡ order_answer other code reference
order_alike one other code reference agree = rw (agree.participant, named_alike one other code reference agree) refl

account_alike : (one other : Book) (code : List ℕ) → AgreeFor code one other
    → account_answer one code ≡ account_answer other code
unfolding participant_of balance queue
account_alike one other code agree =
    rw (agree.participant, balance_alike one other code agree, agree.day, queue_alike one other code agree) refl

queue_read_alike : (one other : Book) (code : List ℕ) → AgreeFor code one other
    → queue_answer one code ≡ queue_answer other code
queue_read_alike one other code agree = rw (agree.participant, queue_alike one other code agree) refl

held_alike : (one other : Book) (code : List ℕ) → AgreeFor code one other → held one code ≡ held other code
unfolding held
held_alike one other code agree =
    ap by_date (taken_alike (λ order. is_held order && bytes_eq order.sender code) (concerns code)
    (λ order e. own_order code order (and_right (is_held order) (bytes_eq order.sender code) e)) one.orders
    other.orders agree.orders)

held_read_alike : (one other : Book) (code : List ℕ) → AgreeFor code one other
    → held_answer one code ≡ held_answer other code
held_read_alike one other code agree = rw (agree.participant, held_alike one other code agree) refl

floor_alike : (one other : Book) (code : List ℕ) → AgreeFor code one other → floor one code ≡ floor other code
unfolding floor credit_of participant_of
floor_alike one other code agree = rw (agree.day, agree.participant) refl

waiting_alike : (one other : Book) (code : List ℕ) → AgreeFor code one other
    → waiting_answer one code ≡ waiting_answer other code
waiting_alike one other code agree = rw (
  agree.participant,
  balance_alike one other code agree,
  floor_alike one other code agree,
  queue_alike one other code agree,
  held_alike one other code agree,
) refl

statement_alike : (one other : Book) (code : List ℕ) (date : ℕ) → AgreeFor code one other
    → statement_wanted one code date ≡ statement_wanted other code date
statement_alike one other code date agree =
    let postings = taken_alike (is_posting_of code date) (is_posted_to code)
    (λ posting e. and_right (is_posted_on date posting) (is_posted_to code posting) e) one.postings other.postings
    agree.postings in
    let orders = taken_alike (is_order_of code date) (concerns code)
    (λ order e. and_right (is_ordered_on date order) (concerns code order) e) one.orders other.orders agree.orders in
    rw (agree.participant, postings, orders) refl

pub own_rows : (one other : Book) (first second : Choice) (code : List ℕ) (read : Reading) → IsReadingOf code read
    → AgreeFor code one other → reading_message one first read ≡ reading_message other second read
own_rows one other first second code (reading.Order sender reference) is agree =
    rw (is, order_alike one other code reference agree) refl
own_rows one other first second code (reading.Account owner) is agree = rw (is, account_alike one other code agree) refl
own_rows one other first second code reading.Accounts is agree = absurd is
own_rows one other first second code (reading.Queue owner) is agree =
    rw (is, queue_read_alike one other code agree) refl
own_rows one other first second code (reading.Held owner) is agree = rw (is, held_read_alike one other code agree) refl
own_rows one other first second code (reading.Waiting owner) is agree = rw (is, waiting_alike one other code agree) refl
own_rows one other first second code reading.Queues is agree = absurd is
own_rows one other first second code reading.Status is agree = absurd is
own_rows one other first second code (reading.Statement owner date) is agree =
    rw (is, statement_alike one other code date agree) refl
own_rows one other first second code (reading.Report date) is agree = absurd is
own_rows one other first second code (reading.Orders date) is agree = absurd is
own_rows one other first second code (reading.Marks date) is agree = absurd is
