-- What a set of the participants' codes says of orders and postings.
use Rattle.std.proofs.Common.{◌≡◌, ℕ, Bool, true, false, not, ◌&&◌, List, [], ◌∷◌, nat_cmp, IsTrue, ◌↔◌, refl, sym, ap}
use Rattle.std.proofs.Common.{◌∙◌, true≢false}
use Rattle.std.specs.BTreeSet.{BTreeSet, contains, IsFromIterResult}
use Rattle.std.specs.Cmp.Lexicographic.{slice_cmp}
use Rattle.std.specs.List.{AllByRecursion, list_any, list_all}
use Rattle.std.specs.Str.{bytes_eq}
use Rattle.rtgs_book.specs.declared.book.Book.{Book}
use Rattle.rtgs_book.specs.declared.order.Order.{Order}
use Rattle.rtgs_book.specs.declared.posting.Posting.{Posting}
use Rattle.rtgs_book.specs.Lookup.{codes_of, is_participant}
use Rattle.rtgs_book.specs.Soundness.{has_parties, PartiesAreKnown}
use Rattle.rtgs_soundness.proofs.Names.{same_text}
use Rattle.rtgs_lists.proofs.Bools.{and_left, and_right}

-- a test of each element, and the fact for each
pub all_pass : {X : Type 0} (p : X → Bool) (xs : List X) → (list_all p xs ≡ true) ↔ AllByRecursion (λ x. IsTrue (p x))
    xs
all_pass p [] = (λ e. tt, λ h. refl)
all_pass p (x ∷ xs) =
    let rest = all_pass p xs in (
      λ e. (and_left (p x) (list_all p xs) e, rest.0 (and_right (p x) (list_all p xs) e)),
      λ h. rw (h.0, rest.1 h.1)
          refl,
    )

-- the same of a test that answers alike
pub all_pass_as : {X : Type 0} (p q : X → Bool) (xs : List X) (b : Bool) → b ≡ list_all p xs → ((x : X) → p x ≡ q x)
    → (b ≡ true) ↔ AllByRecursion (λ x. IsTrue (q x)) xs
all_pass_as p q xs b is same =
    let whole : b ≡ list_all q xs = is ∙ ap (λ t. list_all t xs) (λ i x. same x i) in
    rw whole (all_pass q xs)

pub both_true : (a b : Bool) {P Q : Type 0} → (a ≡ true) ↔ P → (b ≡ true) ↔ Q → ((a && b) ≡ true) ↔ (P × Q)
both_true true b h k = (λ e. (h.0 refl, k.0 e), λ x. k.1 x.1)
both_true false b h k = (λ e. absurd (true≢false (sym e)), λ x. absurd (true≢false (sym (h.1 x.0))))

pub knows : (book : Book) (codes : List (List ℕ)) (set : BTreeSet (List ℕ)) → codes ≡ codes_of book
    → IsFromIterResult (slice_cmp nat_cmp) codes set → (code : List ℕ)
    → contains (slice_cmp nat_cmp) set code ≡ is_participant book code
unfolding is_participant
knows book codes set same h code = h.0 code ∙ (λ i. list_any (same_text i code) (same i))

pub parties_of : (book : Book) (codes : List (List ℕ)) (set : BTreeSet (List ℕ)) (b : Bool) → codes ≡ codes_of book
    → IsFromIterResult (slice_cmp nat_cmp) codes set
    → b ≡ (list_all (λ (o : Order). contains (slice_cmp nat_cmp) set o.sender && contains (slice_cmp nat_cmp) set
    o.receiver && not (bytes_eq o.sender o.receiver)) book.orders && list_all
    (λ (p : Posting). contains (slice_cmp nat_cmp) set p.code) book.postings)
    → (b ≡ true) ↔ PartiesAreKnown book
parties_of book codes set b same h is =
    rw is
    (both_true _ _
    (all_pass_as _ (has_parties book) book.orders _ refl (λ o i. knows book codes set same h o.sender i && knows book
    codes set same h o.receiver i && not (bytes_eq o.sender o.receiver)))
    (all_pass_as _ (λ (p : Posting). is_participant book p.code) book.postings _ refl
    (λ p. knows book codes set same h p.code)))
