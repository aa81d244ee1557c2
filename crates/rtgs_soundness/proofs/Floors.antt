-- The floors of participants, and what was issued.
use Rattle.std.proofs.Common.{◌≡◌, ℕ, ◌≤ℤ◌, Bool, true, List, [], ◌∷◌, map, find, option_map, unwrap_or, Less, nat_cmp}
use Rattle.std.proofs.Common.{◌↔◌, refl, sym, subst}
use Rattle.std.specs.Cmp.Lexicographic.{slice_cmp, bytes_decides}
use Rattle.std.specs.List.{AllByRecursion}
use Rattle.std.specs.List.Sorted.{IsStrictlySortedBy}
use Rattle.rtgs_book.specs.declared.book.Book.{Book}
use Rattle.rtgs_book.specs.declared.participant.Participant.{Participant}
use Rattle.rtgs_book.specs.Lookup.{has_code, participant_of, credit_of, codes_of}
use Rattle.rtgs_book.specs.Balance.{balance, floor, floor_at}
use Rattle.rtgs_book.specs.Soundness.{CodesRise, FloorsHold}
use Rattle.rtgs_lists.proofs.Codes.{later_differs}
use Rattle.rtgs_lists.proofs.Lists.{all_both, all_map, all_unmap}

-- the credit of the first participant with this code
abbrev limit : List ℕ → List Participant → ℕ
limit code ps = unwrap_or (option_map (λ (p : Participant). p.credit) (find (has_code code) ps)) 0

-- where codes rise, each participant's limit is its own credit
own_credit : (ps : List Participant) → IsStrictlySortedBy (slice_cmp nat_cmp) (map (λ (p : Participant). p.code) ps)
    → AllByRecursion (λ (p : Participant). limit p.code ps ≡ p.credit) ps
unfolding IsStrictlySortedBy
own_credit [] h = tt
own_credit (p ∷ ps) h = (
  rw ((bytes_decides p.code p.code).1 refl) refl,
  all_both (λ (q : Participant). slice_cmp nat_cmp p.code q.code ≡ Less)
      (λ (q : Participant). limit q.code ps ≡ q.credit) (λ (q : Participant). limit q.code (p ∷ ps) ≡ q.credit)
      (λ q less own. rw (later_differs p.code q.code less) own) ps
      (all_unmap (λ c. slice_cmp nat_cmp p.code c ≡ Less) (λ (q : Participant). q.code) ps h.0) (own_credit ps h.1),
)

pub floors_of : (book : Book) → CodesRise book → (b : Bool) → (b ≡ true) ↔ AllByRecursion
    (λ (p : Participant). floor_at book.day.phase p.credit ≤ℤ balance book p.code) book.participants
    → (b ≡ true) ↔ FloorsHold book
unfolding codes_of floor credit_of participant_of
floors_of book codes b h =
    let own = own_credit book.participants codes.0 in (
      λ e. all_map (λ code. floor book code ≤ℤ balance book code) (λ (p : Participant). p.code) book.participants
          (all_both (λ (p : Participant). limit p.code book.participants ≡ p.credit)
          (λ (p : Participant). floor_at book.day.phase p.credit ≤ℤ balance book p.code)
          (λ (p : Participant). floor book p.code ≤ℤ balance book p.code)
          (λ p is covered. subst (λ n. floor_at book.day.phase n ≤ℤ balance book p.code) (sym is) covered)
          book.participants own (h.0 e)),
      λ floors. h.1 (all_both (λ (p : Participant). limit p.code book.participants ≡ p.credit)
          (λ (p : Participant). floor book p.code ≤ℤ balance book p.code)
          (λ (p : Participant). floor_at book.day.phase p.credit ≤ℤ balance book p.code)
          (λ p is holds. subst (λ n. floor_at book.day.phase n ≤ℤ balance book p.code) is holds) book.participants own
          (all_unmap (λ code. floor book code ≤ℤ balance book code) (λ (p : Participant). p.code) book.participants
          floors)),
    )
