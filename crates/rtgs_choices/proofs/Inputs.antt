-- What the resolver is given of a book.
use Rattle.std.proofs.Common.{◌≡◌, ℕ, zero, suc, ◌<◌, ◌≤ℤ◌, ◌==◌, Bool, true, false, not, ◌&&◌, ◌||◌, List, [], ◌∷◌}
use Rattle.std.proofs.Common.{filter, length, get_or, IsTrue, refl, sym, ap, ◌∙◌, subst, true≢false, arith}
use Rattle.std.proofs.lemmas.List.{length-map, get_or-map}
use Rattle.std.proofs.lemmas.List.Elements.{All-from_recursion, All-map}
use Rattle.std.specs.List.{AllByRecursion, All, list_any}
use Rattle.std.specs.Str.{bytes_eq}
use Rattle.std.specs.Cmp.Lexicographic.{bytes_decides}
use Rattle.rtgs_book.specs.declared.book.Book.{Book}
use Rattle.rtgs_book.specs.declared.order.Order.{Order}
use Rattle.rtgs_book.specs.Books.{is_queued}
use Rattle.rtgs_book.specs.Lookup.{codes_of, is_participant}
use Rattle.rtgs_book.specs.Balance.{balance, floor}
use Rattle.rtgs_book.specs.Queue.{queue}
use Rattle.rtgs_book.specs.Soundness.{IsSound, has_parties}
use Rattle.rtgs_gridlock.specs.declared.positions.Position.{Position}
use Rattle.rtgs_gridlock.specs.declared.queues.Payment.{Payment}
use Rattle.rtgs_gridlock.specs.Choices.{queue_of, AreFloored, AreInRange}
use Rattle.rtgs_gridlock.specs.Choices as resolver
use Rattle.rtgs_choices.specs.ByIndex.{code_at, index_of, position_of, positions_of, payment_of, payments_of, queues_of}
use Rattle.rtgs_choices.specs.ByIndex.{by_code}
use Rattle.rtgs_choices.proofs.Indexes.{index_in-lt, code_at_index, index_of_code_at, has_index}
use Rattle.rtgs_lists.proofs.Bools.{and_right_false}
use Rattle.rtgs_lists.proofs.Lists.{all_filter, all_weaker}

pub length-positions : (book : Book) → length (positions_of book) ≡ length (codes_of book)
unfolding positions_of
length-positions book = length-map (codes_of book) (position_of book)

pub length-queues : (book : Book) → length (queues_of book) ≡ length (codes_of book)
unfolding queues_of
length-queues book = length-map (codes_of book) (payments_of book)

pub position_at : (book : Book) (p : ℕ) → p < length (codes_of book)
    → resolver.position_of (positions_of book) p ≡ position_of book (code_at book p)
unfolding positions_of
position_at book p less = get_or-map (position_of book) (codes_of book) p [] _ less

pub queue_at : (book : Book) (p : ℕ) → p < length (codes_of book)
    → queue_of (queues_of book) p ≡ payments_of book (code_at book p)
unfolding queues_of
queue_at book p less = get_or-map (payments_of book) (codes_of book) p [] [] less

-- ---- indexes

pub index_of-lt : (book : Book) (code : List ℕ) → is_participant book code ≡ true
    → index_of book code < length (codes_of book)
unfolding is_participant index_of
index_of-lt book code e = index_in-lt (codes_of book) code e

pub code_at-index_of : (book : Book) (code : List ℕ) → is_participant book code ≡ true
    → code ≡ code_at book (index_of book code)
unfolding index_of
code_at-index_of book code e = code_at_index (codes_of book) code (index_of-lt book code e)

pub is_at : (book : Book) (code : List ℕ) (p : ℕ) → IsSound book → p < length (codes_of book)
    → (index_of book code == p) ≡ bytes_eq code (code_at book p)
unfolding index_of
is_at book code p sound less = has_index (codes_of book) code p sound.codes_rise.0 less

pub index_of-code_at : (book : Book) (p : ℕ) → IsSound book → p < length (codes_of book)
    → index_of book (code_at book p) ≡ p
unfolding index_of
index_of-code_at book p sound less = index_of_code_at (codes_of book) p sound.codes_rise.0 less

pub in_codes : (codes : List (List ℕ)) (p : ℕ) → p < length codes → list_any (bytes_eq (get_or codes p [])) codes ≡ true
in_codes [] p less = absurd (omega arith)
in_codes (c ∷ codes) zero less = rw ((bytes_decides c c).1 refl) refl
in_codes (c ∷ codes) (suc p) less = by (bytes_eq (get_or codes p []) c) (in_codes codes p (omega arith))
  where
    by : (b : Bool) → list_any (bytes_eq (get_or codes p [])) codes ≡ true
        → (b || list_any (bytes_eq (get_or codes p [])) codes) ≡ true
    by true e = refl
    by false e = e

pub code_at-participant : (book : Book) (p : ℕ) → p < length (codes_of book)
    → is_participant book (code_at book p) ≡ true
unfolding is_participant
code_at-participant book p less = in_codes (codes_of book) p less

pub by_code-at : (book : Book) (lengths : ℕ → ℕ) (p : ℕ) → IsSound book → p < length (codes_of book)
    → by_code book lengths (code_at book p) ≡ lengths p
unfolding by_code
by_code-at book lengths p sound less = rw (code_at-participant book p less)
    (ap lengths (index_of-code_at book p sound less))

-- ---- the parties of orders

-- both parties have an index
abbrev pub HasIndexes : Book → Order → Type 0
HasIndexes book o = (index_of book o.sender < length (codes_of book))
    × (index_of book o.receiver < length (codes_of book))

both_parties : (a b c : Bool) → (a && b && c) ≡ true → (a ≡ true) × (b ≡ true)
both_parties true true c e = (refl, refl)
both_parties true false c e = absurd (true≢false (sym e))
both_parties false b c e = absurd (true≢false (sym e))

indexes_of : (book : Book) (o : Order) → IsTrue (has_parties book o) → HasIndexes book o
indexes_of book o e =
    let both = both_parties (is_participant book o.sender) (is_participant book o.receiver)
    (not (bytes_eq o.sender o.receiver)) e in
    (index_of-lt book o.sender both.0, index_of-lt book o.receiver both.1)

pub parties_have_indexes : (book : Book) → IsSound book → AllByRecursion (HasIndexes book) book.orders
parties_have_indexes book sound = all_weaker (λ o. IsTrue (has_parties book o)) (HasIndexes book) (indexes_of book)
    book.orders sound.parties.0

filter_none : {X : Type 0} (p : X → Bool) (xs : List X) → AllByRecursion (λ x. p x ≡ false) xs
    → length (filter p xs) ≡ 0
filter_none p [] h = refl
filter_none p (x ∷ xs) h = rw h.0 (filter_none p xs h.1)

not_sender : (book : Book) (code : List ℕ) (o : Order) → is_participant book code ≡ false → IsTrue (has_parties book o)
    → bytes_eq o.sender code ≡ false
not_sender book code o stranger e = by (bytes_eq o.sender code) refl
  where
    by : (t : Bool) → bytes_eq o.sender code ≡ t → t ≡ false
    by true f = absurd (
        let same : o.sender ≡ code = (bytes_decides o.sender code).0 f in
        let known : is_participant book o.sender ≡ true = (both_parties (is_participant book o.sender)
        (is_participant book o.receiver) (not (bytes_eq o.sender o.receiver)) e).0 in
        true≢false (sym known ∙ ap (is_participant book) same ∙ stranger))
    by false f = refl

-- who is no participant queues nothing
pub no_queue : (book : Book) (code : List ℕ) → IsSound book → is_participant book code ≡ false
    → length (queue book code) ≡ 0
unfolding queue
no_queue book code sound stranger =
    filter_none _ book.orders
    (all_weaker (λ o. IsTrue (has_parties book o)) (λ (o : Order). (is_queued o && bytes_eq o.sender code) ≡ false)
    (λ o e. and_right_false (is_queued o) (bytes_eq o.sender code) (not_sender book code o stranger e)) book.orders
    sound.parties.0)

-- ---- the resolver's conditions

pub floored : (book : Book) → IsSound book → AreFloored (positions_of book)
unfolding positions_of
floored book sound = All-map (λ (position : Position). position.floor ≤ℤ position.balance) (position_of book)
    (codes_of book) (All-from_recursion (λ code. floor book code ≤ℤ balance book code) (codes_of book) sound.floors)

-- a payment's receiver has an index below this
abbrev IsTo : ℕ → Payment → Type 0
IsTo n payment = payment.receiver < n

receivers : (book : Book) (code : List ℕ) → IsSound book → All (IsTo (length (codes_of book))) (payments_of book code)
unfolding queue
receivers book code sound =
    All-map (IsTo (length (codes_of book))) (payment_of book) (queue book code)
    (All-from_recursion (λ o. IsTo (length (codes_of book)) (payment_of book o)) (queue book code)
    (all_filter (λ (o : Order). IsTo (length (codes_of book)) (payment_of book o)) _ book.orders
    (all_weaker (HasIndexes book) (λ (o : Order). IsTo (length (codes_of book)) (payment_of book o))
    (λ o h. omega arith) book.orders (parties_have_indexes book sound))))

all_queues : (book : Book) → IsSound book → All (λ queue. All (IsTo (length (codes_of book))) queue) (queues_of book)
unfolding queues_of
all_queues book sound = All-map (λ queue. All (IsTo (length (codes_of book))) queue) (payments_of book) (codes_of book)
    (λ k d less. receivers book (get_or (codes_of book) k d) sound)

pub in_range : (book : Book) → IsSound book → AreInRange (queues_of book)
in_range book sound = subst (λ (n : ℕ). All (λ queue. All (IsTo n) queue) (queues_of book)) (sym (length-queues book))
    (all_queues book sound)
