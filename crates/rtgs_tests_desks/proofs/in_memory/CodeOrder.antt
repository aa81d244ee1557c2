-- Participants in code order, and one put in at its place.
use Rattle.std.proofs.Common.{◌≡◌, ℕ, zero, suc, ◌<◌, Bool, true, false, cond, not, List, [], ◌∷◌, ◌++◌, map}
use Rattle.std.proofs.Common.{filter, length, get_or, nat_cmp, Ordering, Less, Equal, Greater, is_lt, refl, sym, ap}
use Rattle.std.proofs.Common.{◌∙◌, subst, true≢false, arith}
use Rattle.std.specs.List.{AllByRecursion}
use Rattle.std.specs.List.Sorted.{IsStrictlySortedBy, IsPartitionedBy}
use Rattle.std.specs.Ordering.{ordering_reverse}
use Rattle.std.specs.Cmp.Lexicographic.{slice_cmp, nat_list_cmp_total}
use Rattle.std.specs.FinMap.{nat_cmp-IsAntisymmetric, slice_cmp-IsAntisymmetric}
use Rattle.rtgs_book.specs.declared.participant.Participant.{Participant}
use Rattle.rtgs_book.specs.Commands.{is_before}
use Rattle.rtgs_tests_desks.specs.in_memory.Memory.{AreInCodeOrder}
use Rattle.rtgs_lists.proofs.Codes.{is_less, not_before}
use Rattle.rtgs_lists.proofs.Filters.{all_put_in, filter_nothing, put_in}
use Rattle.rtgs_lists.proofs.Places.{filter_others}

-- what comes no later than a code before c is itself before c
earlier_before : (z y c : List ℕ) → is_before z y ≡ false → is_before z c ≡ true → is_before y c ≡ true
earlier_before z y c e before = by (slice_cmp nat_cmp z y) refl e
  where
    by : (o : Ordering) → slice_cmp nat_cmp z y ≡ o → is_lt o ≡ false → is_before y c ≡ true
    by Less f e = absurd (true≢false e)
    by Equal f e = subst (λ w. is_before w c ≡ true) (slice_cmp-IsAntisymmetric nat_cmp-IsAntisymmetric z y f) before
    by Greater f e = ap is_lt (nat_list_cmp_total.trans y z c (nat_list_cmp_total.antisymm y z ∙ ap ordering_reverse f)
        (is_less z c before))

-- what comes no earlier than a code not before c is not before c
later_not_before : (z y c : List ℕ) → is_before z y ≡ false → is_before y c ≡ false → is_before z c ≡ false
later_not_before z y c e not_before = by (is_before z c) refl
  where
    by : (b : Bool) → is_before z c ≡ b → is_before z c ≡ false
    by false f = f
    by true f = absurd (true≢false (sym (earlier_before z y c e f) ∙ not_before))

all_later : (y c : List ℕ) (ps : List Participant) → is_before y c ≡ false
    → AllByRecursion (λ (q : Participant). is_before q.code y ≡ false) ps
    → AllByRecursion (λ (q : Participant). is_before q.code c ≡ false) ps
all_later y c [] e h = tt
all_later y c (p ∷ ps) e h = (later_not_before p.code y c h.0 e, all_later y c ps e h.1)

pub order_put_in : (new : Participant) (ps : List Participant) → AreInCodeOrder ps
    → AreInCodeOrder (put_in (λ p. is_before p.code new.code) new ps)
order_put_in new [] h = (tt, tt)
order_put_in new (p ∷ ps) h = by (is_before p.code new.code) refl (order_put_in new ps h.1)
  where
    by : (b : Bool) → is_before p.code new.code ≡ b → AreInCodeOrder (put_in (λ p. is_before p.code new.code) new ps)
        → AreInCodeOrder (cond b (p ∷ filter (λ p. is_before p.code new.code) ps)
        (filter (λ p. is_before p.code new.code) ps) ++ new
        ∷ cond (not b) (p ∷ filter (λ p. not (is_before p.code new.code)) ps)
        (filter (λ p. not (is_before p.code new.code)) ps))
    by true e rest = (
      all_put_in (λ (q : Participant). is_before q.code p.code ≡ false) (λ q. is_before q.code new.code)
          new ps h.0 (not_before p.code new.code (is_less p.code new.code e)),
      rest,
    )
    by false e rest =
        let none : AllByRecursion (λ (q : Participant). is_before q.code new.code ≡ false) ps =
        all_later p.code new.code ps e h.0 in
        rw (
          filter_nothing (λ (q : Participant). is_before q.code new.code) ps none,
          filter_others
              (λ (q : Participant). is_before q.code new.code) ps none,
        ) ((e, none), h)

-- the codes of a sound book rise
pub order_of_codes : (ps : List Participant) → IsStrictlySortedBy (slice_cmp nat_cmp)
    (map (λ (p : Participant). p.code) ps) → AreInCodeOrder ps
unfolding IsStrictlySortedBy
order_of_codes [] h = tt
order_of_codes (p ∷ ps) h = (after ps h.0, order_of_codes ps h.1)
  where
    after : (qs : List Participant) → AllByRecursion (λ code. slice_cmp nat_cmp p.code code ≡ Less)
        (map (λ (p : Participant). p.code) qs) → AllByRecursion (λ (q : Participant). is_before q.code p.code ≡ false)
        qs
    after [] k = tt
    after (q ∷ qs) k = (not_before p.code q.code k.0, after qs k.1)

-- codes alone matter
pub order_map : (f : Participant → Participant) → ((p : Participant) → (f p).code ≡ p.code) → (ps : List Participant)
    → AreInCodeOrder ps → AreInCodeOrder (map f ps)
order_map f same [] h = tt
order_map f same (p ∷ ps) h = (each ps h.0, order_map f same ps h.1)
  where
    each : (qs : List Participant) → AllByRecursion (λ (q : Participant). is_before q.code p.code ≡ false) qs
        → AllByRecursion (λ (q : Participant). is_before q.code (f p).code ≡ false) (map f qs)
    each [] k = tt
    each (q ∷ qs) k = (
      ap (is_before (f q).code) (same p) ∙ ap (λ code. is_before code p.code) (same q)
          ∙ k.0,
      each qs k.1,
    )

-- ---- by places

at : {X : Type 0} (P : X → Type 0) (xs : List X) (k : ℕ) (d : X) → AllByRecursion P xs → k < length xs
    → P (get_or xs k d)
at P [] k d h within = absurd (omega arith)
at P (x ∷ xs) zero d h within = h.0
at P (x ∷ xs) (suc k) d h within = at P xs k d h.1 (omega arith)

pub partitioned : (code : List ℕ) (ps : List Participant) → AreInCodeOrder ps
    → IsPartitionedBy (λ p. is_before p.code code) ps
partitioned code [] h i j d le within before = absurd (omega arith)
partitioned code (p ∷ ps) h zero zero d le within before = before
partitioned code (p ∷ ps) h zero (suc j) d le within before =
    earlier_before (get_or ps j d).code p.code code (at (λ (q : Participant). is_before q.code p.code ≡ false) ps j d
    h.0 (omega arith)) before
partitioned code (p ∷ ps) h (suc i) zero d le within before = absurd (omega arith)
partitioned code (p ∷ ps) h (suc i) (suc j) d le within before =
    partitioned code ps h.1 i j d (omega arith) (omega arith) before
