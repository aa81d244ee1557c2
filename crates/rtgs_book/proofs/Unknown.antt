-- A code that is no participant's has nothing.
use Rattle.std.proofs.Common.{◌≡◌, ℕ, pos, Bool, true, false, cond, List, [], ◌∷◌, filter, refl, ◌∙◌, arith}
use Rattle.std.proofs.lemmas.Int.{ints}
use Rattle.std.specs.List.{AllByRecursion, list_any}
use Rattle.std.specs.Str.{bytes_eq}
use Rattle.rtgs_book.specs.Books.{Book, Posting, Order, is_settled}
use Rattle.rtgs_book.specs.Lookup.{codes_of, is_participant}
use Rattle.rtgs_book.specs.IntSum.{int_sum_by}
use Rattle.rtgs_book.specs.Balance.{balance, gain}
use Rattle.rtgs_book.specs.Soundness.{has_parties, IsSound}
use Rattle.rtgs_lists.proofs.Bools.{and_left, and_right}
use Rattle.rtgs_lists.proofs.Codes.{apart_from, bytes_eq_comm}
use Rattle.rtgs_lists.proofs.Finds.{none_any}
use Rattle.rtgs_lists.proofs.Lists.{all_weaker}

no_postings : (code : List ℕ) (ps : List Posting) → AllByRecursion (λ (p : Posting). bytes_eq p.code code ≡ false) ps
    → filter (λ (p : Posting). bytes_eq p.code code) ps ≡ []
no_postings code [] h = refl
no_postings code (p ∷ ps) h = rw (h.0, no_postings code ps h.1) refl

no_gains : (code : List ℕ) (os : List Order) → AllByRecursion
    (λ (o : Order). (bytes_eq o.sender code ≡ false) × (bytes_eq o.receiver code ≡ false)) os
    → int_sum_by (gain code) (filter is_settled os) ≡ pos 0
unfolding gain
no_gains code [] h = refl
no_gains code (o ∷ os) h = by (is_settled o) (no_gains code os h.1)
  where
    by : (b : Bool) → int_sum_by (gain code) (filter is_settled os) ≡ pos 0
        → int_sum_by (gain code) (cond b (o ∷ filter is_settled os) (filter is_settled os)) ≡ pos 0
    by true rest = rw (h.0.0, h.0.1) (omega (arith, ints))
    by false rest = rest

pub balance_of_unknown : (book : Book) (code : List ℕ) → IsSound book → is_participant book code ≡ false
    → balance book code ≡ pos 0
unfolding balance is_participant
balance_of_unknown book code h unknown =
    let unused : AllByRecursion (λ c. bytes_eq c code ≡ false) (codes_of book) =
    all_weaker (λ c. bytes_eq code c ≡ false) (λ c. bytes_eq c code ≡ false) (λ c e. bytes_eq_comm c code ∙ e)
    (codes_of book) (none_any (bytes_eq code) (codes_of book) unknown) in
    let parties : AllByRecursion (λ (o : Order). (bytes_eq o.sender code ≡ false) × (bytes_eq o.receiver code ≡ false))
    book.orders = all_weaker (λ o. has_parties book o ≡ true)
    (λ (o : Order). (bytes_eq o.sender code ≡ false) × (bytes_eq o.receiver code ≡ false))
    (λ o e. (
      apart_from o.sender code (codes_of book) unused (and_left _ _ (and_left _ _ e)),
      apart_from o.receiver code (codes_of book) unused (and_right _ _ (and_left _ _ e)),
    )) book.orders h.parties.0 in
    let postings = no_postings code book.postings (all_weaker
    (λ (p : Posting). list_any (bytes_eq p.code) (codes_of book) ≡ true) (λ (p : Posting). bytes_eq p.code code ≡ false)
    (λ p e. apart_from p.code code (codes_of book) unused e) book.postings h.parties.1) in
    rw (postings, no_gains code book.orders parties) refl
