-- How balances move, and the rows that set them.
use Rattle.std.proofs.Common.{◌≡◌, ℕ, ℤ, pos, ◌+ℤ◌, Bool, true, false, cond, ◌&&◌, if◌then◌else◌, List, [], ◌∷◌, ◌++◌}
use Rattle.std.proofs.Common.{filter, map, find, not, Option, Some, refl, sym, ap, ◌∙◌, true≢false, arith}
use Rattle.std.proofs.lemmas.Int.{ints}
use Rattle.std.proofs.lemmas.List.Elements.{filter-append}
use Rattle.std.specs.List.{list_any, AllByRecursion}
use Rattle.std.specs.Str.{bytes_eq}
use Rattle.std.specs.Ordering.{int_eq}
use Rattle.std.specs.Cmp.Lexicographic.{bytes_decides}
use Rattle.rtgs_book.specs.declared.book.Book.{Book}
use Rattle.rtgs_book.specs.declared.posting.Posting.{Posting}
use Rattle.rtgs_book.specs.declared.order.Order.{Order}
use Rattle.rtgs_book.specs.declared.mark.Mark.{Mark}
use Rattle.rtgs_book.specs.Books.{is_settled}
use Rattle.rtgs_book.specs.Balance.{balance, gain}
use Rattle.rtgs_book.specs.Lookup.{codes_of, is_participant}
use Rattle.rtgs_book.specs.IntSum.{int_sum_by}
use Rattle.rtgs_book.specs.Soundness.{has_parties, PartiesAreKnown}
use Rattle.rtgs_book.specs.declared.account.Account.{Account}
use Rattle.rtgs_book.specs.declared.change.RowChange.TheVariants.{SetBalance}
use Rattle.rtgs_book.specs.cores.Following.{AreBalanced}
use Rattle.rtgs_records.specs.accounts.Accounts.{code_of, is_of, rebalanced, with_balance}
use Rattle.rtgs_ledger.specs.Resolving.{is_still, has_moved, moved_between}
use Rattle.rtgs_lists.proofs.Codes.{bytes_eq_comm}
use Rattle.rtgs_lists.proofs.Lists.{all_weaker}
use Rattle.rtgs_lists.proofs.Sums.{int_sum_by-append}
use Rattle.rtgs_lists.proofs.Bools.{first_of_three}
use Rattle.rtgs_lists.proofs.Numbers.{same_from_int_eq}

-- ---- numbers

pub other_int : (x y : ℤ) → (x ≡ y → ⊥) → int_eq x y ≡ false
other_int x y apart = by (int_eq x y) refl
  where
    by : (b : Bool) → int_eq x y ≡ b → b ≡ false
    by false e = refl
    by true e = absurd (apart (same_from_int_eq x y e))

-- ---- running balances

-- f, with b at the code
abbrev pub moved : List ℕ → ℤ → (List ℕ → ℤ) → List ℕ → ℤ
moved code b f c = if bytes_eq code c then b else f c

one_moved : (code : List ℕ) (b : ℤ) (f : List ℕ → ℤ) (x : Account) → x.balance ≡ f (code_of x)
    → (rebalanced code b x).balance ≡ moved code b f (code_of (rebalanced code b x))
one_moved code b f x e = by (is_of code x) refl
  where
    by : (t : Bool) → is_of code x ≡ t → (cond t (record x { balance = b }) x).balance
        ≡ moved code b f (code_of (cond t (record x { balance = b }) x))
    by true g = rw (bytes_eq_comm code (code_of x), g) refl
    by false g = rw (bytes_eq_comm code (code_of x), g) e

pub all_moved : (code : List ℕ) (b : ℤ) (f : List ℕ → ℤ) (xs : List Account)
    → AllByRecursion (λ a. a.balance ≡ f (code_of a)) xs → AllByRecursion (λ a. a.balance ≡ moved code b f (code_of a))
    (with_balance code b xs)
all_moved code b f [] h = tt
all_moved code b f (x ∷ xs) h = (one_moved code b f x h.0, all_moved code b f xs h.1)

pub all_same : (f g : List ℕ → ℤ) → ((c : List ℕ) → f c ≡ g c) → (xs : List Account)
    → AllByRecursion (λ a. a.balance ≡ f (code_of a)) xs → AllByRecursion (λ a. a.balance ≡ g (code_of a)) xs
all_same f g same xs = all_weaker (λ a. a.balance ≡ f (code_of a)) (λ a. a.balance ≡ g (code_of a))
    (λ a e. e ∙ same (code_of a)) xs

-- ---- balances of a book with one record more

one_more : (posting : Posting) (all gains : ℤ) (b : Bool) → (all +ℤ int_sum_by (λ (p : Posting). p.cents)
    (cond b (posting ∷ []) [])) +ℤ gains ≡ (all +ℤ gains) +ℤ cond b posting.cents (pos 0)
one_more posting all gains true = omega (arith, ints)
one_more posting all gains false = omega (arith, ints)

pub balance-with_posting : (book : Book) (posting : Posting) (code : List ℕ)
    → balance (record book { postings = book.postings ++ posting ∷ [] }) code
    ≡ balance book code +ℤ (if bytes_eq posting.code code then posting.cents else pos 0)
unfolding balance
balance-with_posting book posting code =
    rw (filter-append (λ (p : Posting). bytes_eq p.code code) book.postings (posting ∷ []), int_sum_by-append)
    (one_more posting _ _ (bytes_eq posting.code code))

one_order : (f : Order → ℤ) (o : Order) (all gains : ℤ) (b : Bool)
    → all +ℤ (gains +ℤ int_sum_by f (cond b (o ∷ []) [])) ≡ (all +ℤ gains) +ℤ cond b (f o) (pos 0)
one_order f o all gains true = omega (arith, ints)
one_order f o all gains false = omega (arith, ints)

pub balance-with_order : (book : Book) (o : Order) (marks : List Mark) (code : List ℕ)
    → balance (record book { orders = book.orders ++ o ∷ []; marks = marks }) code
    ≡ balance book code +ℤ (if is_settled o then gain code o else pos 0)
unfolding balance
balance-with_order book o marks code =
    rw (filter-append is_settled book.orders (o ∷ []), int_sum_by-append) (one_order (gain code) o _ _ (is_settled o))

-- ---- a code that no participant has

apart_from : (c code : List ℕ) (codes : List (List ℕ)) → list_any (bytes_eq code) codes ≡ false
    → list_any (bytes_eq c) codes ≡ true → bytes_eq c code ≡ false
apart_from c code codes none some = by (bytes_eq c code) refl
  where
    by : (b : Bool) → bytes_eq c code ≡ b → b ≡ false
    by true e = absurd (true≢false (sym some ∙ ap (λ x. list_any (bytes_eq x) codes) ((bytes_decides c code).0 e)
        ∙ none))
    by false e = refl

no_postings : (code : List ℕ) (ps : List Posting) → AllByRecursion (λ (p : Posting). bytes_eq p.code code ≡ false) ps
    → filter (λ (p : Posting). bytes_eq p.code code) ps ≡ []
no_postings code [] h = refl
no_postings code (p ∷ ps) h = rw (h.0, no_postings code ps h.1) refl

no_gains : (code : List ℕ) (os : List Order) → AllByRecursion
    (λ (o : Order). (bytes_eq o.sender code ≡ false) × (bytes_eq o.receiver code ≡ false)) os
    → int_sum_by (gain code) (filter is_settled os) ≡ pos 0
unfolding gain
no_gains code [] h = refl
no_gains code (o ∷ os) h = by (is_settled o) (no_gains code os h.1)
  where
    by : (b : Bool) → int_sum_by (gain code) (filter is_settled os) ≡ pos 0
        → int_sum_by (gain code) (cond b (o ∷ filter is_settled os) (filter is_settled os)) ≡ pos 0
    by true rest = rw (h.0.0, h.0.1) (omega (arith, ints))
    by false rest = rest

second_true : (a b c : Bool) → (a && b && c) ≡ true → b ≡ true
second_true true true c e = refl
second_true true false c e = e
second_true false b c e = absurd (true≢false (sym e))

pub balance_unknown : (book : Book) (code : List ℕ) → PartiesAreKnown book → is_participant book code ≡ false
    → balance book code ≡ pos 0
unfolding balance is_participant
balance_unknown book code parties none =
    let postings = no_postings code book.postings (all_weaker (λ (p : Posting). list_any (bytes_eq p.code) (codes_of
    book)
    ≡ true) (λ (p : Posting). bytes_eq p.code code ≡ false) (λ p e. apart_from p.code code (codes_of book) none e)
    book.postings parties.1) in
    let orders = no_gains code book.orders (all_weaker (λ o. has_parties book o ≡ true)
    (λ (o : Order). (bytes_eq o.sender code ≡ false) × (bytes_eq o.receiver code ≡ false))
    (λ o e. (
      apart_from o.sender code (codes_of book) none (first_of_three _ _ _ e),
      apart_from o.receiver code
          (codes_of book) none (second_true _ _ _ e),
    )) book.orders parties.0) in
    rw (postings, orders) refl

-- ---- the balances that are not what they were

abbrev pub Known : Book → List Account → List ℕ → Type 0
Known old before code = (a : Account) × (find (is_of code) before ≡ Some a) × (a.balance ≡ balance old code)

pub all_known : (old : Book) (before xs : List Account)
    → AllByRecursion (λ a. find (is_of (code_of a)) before ≡ Some a) xs → AreBalanced old xs
    → AllByRecursion (Known old before) (map code_of xs)
all_known old before [] h k = tt
all_known old before (x ∷ xs) h k = ((x, h.0, k.0), all_known old before xs h.1 k.1)

turned : (before : List Account) (o : Option Account) (x : Account) (a : Account) (z w : ℤ) → o ≡ Some a → a.balance ≡ z
    → x.balance ≡ w → not (is_still x.balance o) ≡ not (int_eq z w)
turned before o x a z w e f g = rw (e, f, g) refl

pub moved_are : (old new : Book) (before xs : List Account) → AllByRecursion (Known old before) (map code_of xs)
    → AreBalanced new xs → moved_between before xs
    ≡ map (λ code. SetBalance code (balance new code))
    (filter (λ code. not (int_eq (balance old code) (balance new code))) (map code_of xs))
moved_are old new before [] h k = refl
moved_are old new before (x ∷ xs) h k =
    by (has_moved before x) (not (int_eq (balance old (code_of x)) (balance new (code_of x))))
    (turned before (find (is_of (code_of x)) before) x h.0.0 (balance old (code_of x)) (balance new (code_of x))
    h.0.1 h.0.2 k.0) (moved_are old new before xs h.1 k.1)
  where
    by : (s t : Bool) → s ≡ t → moved_between before xs ≡ map (λ code. SetBalance code (balance new code))
        (filter (λ code. not (int_eq (balance old code) (balance new code))) (map code_of xs))
        → map (λ (a : Account). SetBalance (code_of a) a.balance)
        (cond s (x ∷ filter (has_moved before) xs) (filter (has_moved before) xs))
        ≡ map (λ code. SetBalance code (balance new code))
        (cond t (code_of x ∷ filter (λ code. not (int_eq (balance old code) (balance new code))) (map code_of xs))
        (filter (λ code. not (int_eq (balance old code) (balance new code))) (map code_of xs)))
    by true true e rest = λ i. SetBalance (code_of x) (k.0 i) ∷ rest i
    by false false e rest = rest
    by true false e rest = absurd (true≢false e)
    by false true e rest = absurd (true≢false (sym e))
