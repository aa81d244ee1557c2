-- What the sums of all participants come to, and which records they leave out.
use Rattle.std.proofs.Common.{◌≡◌, ℕ, ℤ, pos, ◌+ℤ◌, ◌-ℤ◌, Bool, true, false, cond, ◌||◌, ◌&&◌, List, [], ◌∷◌, filter}
use Rattle.std.proofs.Common.{nat_cmp, IsTrue, refl, sym, ap, ◌∙◌, arith}
use Rattle.std.proofs.lemmas.Int.{ints}
use Rattle.std.specs.List.{AllByRecursion, list_any}
use Rattle.std.specs.List.Sorted.{IsStrictlySortedBy}
use Rattle.std.specs.Str.{bytes_eq}
use Rattle.std.specs.Cmp.Lexicographic.{slice_cmp}
use Rattle.rtgs_book.specs.declared.book.Book.{Book}
use Rattle.rtgs_book.specs.declared.order.Order.{Order}
use Rattle.rtgs_book.specs.declared.posting.Posting.{Posting}
use Rattle.rtgs_book.specs.Books.{is_settled}
use Rattle.rtgs_book.specs.IntSum.{int_sum_by}
use Rattle.rtgs_book.specs.Lookup.{codes_of, is_participant}
use Rattle.rtgs_book.specs.Soundness.{CodesRise, PartiesAreKnown, has_parties}
use Rattle.rtgs_statements.specs.declared.party.Party.{Party}
use Rattle.rtgs_statements.specs.declared.party.Party.TheVariants.{Sender, Receiver}
use Rattle.rtgs_statements.specs.Records.{is_posted_on, is_ordered_on, is_posting_of, is_order_of}
use Rattle.rtgs_statements.specs.Records.{postings_on_statement, orders_on_statement, postings_on, orders_on}
use Rattle.rtgs_statements.specs.Sums.{cents_of, amount_of, party_code, posted, sent, received, settled_for, sums_of}
use Rattle.rtgs_statements.specs.Sums.{net}
use Rattle.rtgs_statements.proofs.Terms.{sum-cons}
use Rattle.rtgs_lists.proofs.Sums.{int_sum_by-both, int_sum_by-same, int_sum_by-less, sum_at_code}

-- ---- a sum over all codes

nothing : {X : Type 0} (xs : List X) → int_sum_by (λ x. pos 0) xs ≡ pos 0
nothing [] = refl
nothing (x ∷ xs) = let h = nothing xs in omega (arith, ints)

module _ {X : Type 0} (f : X → ℤ) (p : X → Bool) (code_in : X → List ℕ) (codes : List (List ℕ))
    (rise : IsStrictlySortedBy (slice_cmp nat_cmp) codes) where
  abbrev counts : List ℕ → X → Bool
  counts code x = p x && bytes_eq (code_in x) code

  one_term : (b : Bool) (x : X) → list_any (bytes_eq (code_in x)) codes ≡ true
      → int_sum_by (λ code. cond (b && bytes_eq (code_in x) code) (f x) (pos 0)) codes ≡ cond b (f x) (pos 0)
  one_term true x has = sum_at_code (code_in x) (f x) codes rise has
  one_term false x has = nothing codes

  -- what is summed under each code is together what is summed
  pub all_codes : (xs : List X) → AllByRecursion (λ x. list_any (bytes_eq (code_in x)) codes ≡ true) xs
      → int_sum_by (λ code. int_sum_by f (filter (counts code) xs)) codes ≡ int_sum_by f (filter p xs)
  all_codes [] h = nothing codes
  all_codes (x ∷ xs) h =
      let split = int_sum_by-same (λ code. int_sum_by f (filter (counts code) (x ∷ xs)))
      (λ code. cond (counts code x) (f x) (pos 0) +ℤ int_sum_by f (filter (counts code) xs))
      (λ code. sum-cons f (counts code) x xs) codes in
      let apart = int_sum_by-both (λ code. cond (counts code x) (f x) (pos 0)) (λ code. int_sum_by f (filter (counts
      code) xs))
      codes in
      let here = one_term (p x) x h.0 in
      let rest = all_codes xs h.1 in
      let whole = sum-cons f p x xs in
      omega (arith, ints)

-- ---- the parties of a book's records

all_left : {X : Type 0} (P Q : X → Type 0) (p : X → Bool) → ((x : X) → P x → Q x) → (xs : List X) → AllByRecursion P xs
    → AllByRecursion Q (filter p xs)
all_left P Q p weaker [] h = tt
all_left P Q p weaker (x ∷ xs) h = by (p x) (all_left P Q p weaker xs h.1)
  where
    by : (b : Bool) → AllByRecursion Q (filter p xs) → AllByRecursion Q (cond b (x ∷ filter p xs) (filter p xs))
    by true rest = (weaker x h.0, rest)
    by false rest = rest

first : (a b c : Bool) → IsTrue (a && b && c) → a ≡ true
first true b c h = refl
first false b c h = absurd (grind arith)

second : (a b c : Bool) → IsTrue (a && b && c) → b ≡ true
second true true c h = refl
second true false c h = absurd (grind arith)
second false b c h = absurd (grind arith)

party_known : (book : Book) (party : Party) (order : Order) → IsTrue (has_parties book order)
    → list_any (bytes_eq (party_code party order)) (codes_of book) ≡ true
unfolding is_participant
party_known book Sender order h = first _ _ _ h
party_known book Receiver order h = second _ _ _ h

settled_of_all : (book : Book) (date : ℕ) (party : Party) → CodesRise book → PartiesAreKnown book
    → int_sum_by (λ code. settled_for party code (orders_on date book.orders)) (codes_of book)
    ≡ int_sum_by amount_of (filter is_settled (orders_on date book.orders))
settled_of_all book date party rise known =
    all_codes amount_of is_settled (party_code party) (codes_of book) rise.0 (orders_on date book.orders)
    (all_left _ _ (is_ordered_on date) (λ order h. party_known book party order h) book.orders known.0)

pub sent_as_received : (book : Book) (date : ℕ) → CodesRise book → PartiesAreKnown book
    → int_sum_by (λ code. sent code (orders_on date book.orders)) (codes_of book)
    ≡ int_sum_by (λ code. received code (orders_on date book.orders)) (codes_of book)
sent_as_received book date rise known = settled_of_all book date Sender rise known
    ∙ sym (settled_of_all book date Receiver rise known)

kept : {X : Type 0} (xs : List X) → filter (λ x. true) xs ≡ xs
kept [] = refl
kept (x ∷ xs) = ap (λ t. x ∷ t) (kept xs)

posted_of_all : (book : Book) (date : ℕ) → CodesRise book → PartiesAreKnown book
    → int_sum_by (λ code. posted code (postings_on date book.postings)) (codes_of book)
    ≡ int_sum_by cents_of (postings_on date book.postings)
unfolding is_participant
posted_of_all book date rise known =
    all_codes cents_of (λ posting. true) (λ (posting : Posting). posting.code) (codes_of book) rise.0
    (postings_on date book.postings) (all_left _ _ (is_posted_on date) (λ posting h. h) book.postings known.1)
    ∙ ap (int_sum_by cents_of) (kept (postings_on date book.postings))

pub net_as_posted : (book : Book) (date : ℕ) → CodesRise book → PartiesAreKnown book
    → int_sum_by (λ code. net (sums_of code (postings_on date book.postings) (orders_on date book.orders)))
    (codes_of book) ≡ int_sum_by cents_of (postings_on date book.postings)
net_as_posted book date rise known =
    let one = int_sum_by-both (λ code. posted code (postings_on date book.postings) -ℤ sent code (orders_on date
    book.orders))
    (λ code. received code (orders_on date book.orders)) (codes_of book) in
    let two = int_sum_by-less (λ code. posted code (postings_on date book.postings))
    (λ code. sent code (orders_on date book.orders)) (codes_of book) in
    let same = sent_as_received book date rise known in
    let all = posted_of_all book date rise known in
    omega (arith, ints)

-- ---- a statement's records

-- a test after another
again : {X : Type 0} (p q : X → Bool) (xs : List X) → filter p (filter q xs) ≡ filter (λ x. q x && p x) xs
again p q [] = refl
again p q (x ∷ xs) = by (q x) (again p q xs)
  where
    by : (b : Bool) → filter p (filter q xs) ≡ filter (λ x. q x && p x) xs
        → filter p (cond b (x ∷ filter q xs) (filter q xs)) ≡ cond (b && p x) (x ∷ filter (λ x. q x && p x) xs)
        (filter (λ x. q x && p x) xs)
    by true rest = ap (λ t. cond (p x) (x ∷ t) t) rest
    by false rest = rest

alike : {X : Type 0} (p q : X → Bool) → ((x : X) → p x ≡ q x) → (xs : List X) → filter p xs ≡ filter q xs
alike p q same xs = ap (λ t. filter t xs) (λ i x. same x i)

posting_alike : (a b : Bool) → ((a && b) && b) ≡ (a && b)
posting_alike true true = refl
posting_alike true false = refl
posting_alike false b = refl

sender_alike : (date sender settled receiver : Bool) → ((date && (sender || (settled && receiver))) &&
    (settled && sender)) ≡ (date && (settled && sender))
sender_alike true true settled receiver = refl
sender_alike true false true receiver = grind arith
sender_alike true false false receiver = refl
sender_alike false sender settled receiver = refl

receiver_alike : (date sender settled receiver : Bool) → ((date && (sender || (settled && receiver))) &&
    (settled && receiver)) ≡ (date && (settled && receiver))
receiver_alike true true settled receiver = refl
receiver_alike true false true true = refl
receiver_alike true false true false = refl
receiver_alike true false false receiver = refl
receiver_alike false sender settled receiver = refl

pub agree : (code : List ℕ) (date : ℕ) (postings : List Posting) (orders : List Order)
    → sums_of code (postings_on_statement code date postings) (orders_on_statement code date orders)
    ≡ sums_of code (postings_on date postings) (orders_on date orders)
agree code date postings orders =
    let p = again (λ (posting : Posting). bytes_eq posting.code code) (is_posting_of code date) postings
    ∙ alike _ _ (λ (posting : Posting). posting_alike (is_posted_on date posting) (bytes_eq posting.code code)) postings
    ∙ sym (again (λ (posting : Posting). bytes_eq posting.code code) (is_posted_on date) postings) in
    let s = again (λ (order : Order). is_settled order && bytes_eq order.sender code) (is_order_of code date) orders
    ∙ alike _ _ (λ (order : Order). sender_alike (is_ordered_on date order) (bytes_eq order.sender code)
    (is_settled order) (bytes_eq order.receiver code)) orders
    ∙ sym (again (λ (order : Order). is_settled order && bytes_eq order.sender code) (is_ordered_on date) orders) in
    let r = again (λ (order : Order). is_settled order && bytes_eq order.receiver code) (is_order_of code date) orders
    ∙ alike _ _ (λ (order : Order). receiver_alike (is_ordered_on date order) (bytes_eq order.sender code)
    (is_settled order) (bytes_eq order.receiver code)) orders
    ∙ sym (again (λ (order : Order). is_settled order && bytes_eq order.receiver code) (is_ordered_on date) orders) in
    λ i. record {
      posted = int_sum_by cents_of (p i);
      sent = int_sum_by amount_of (s i);
      received = int_sum_by amount_of (r i);
    }
