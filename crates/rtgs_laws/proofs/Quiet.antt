-- Where nobody with a queue gains anything, each feasible choice was feasible before.
use Rattle.std.proofs.Common.{◌≡◌, ℕ, zero, suc, ◌≤◌, ◌<◌, ℤ, pos, ◌+ℤ◌, ◌-ℤ◌, ◌≤ℤ◌, nat_le, nat_lt, Bool, true}
use Rattle.std.proofs.Common.{false, cond, ◌&&◌, ◌||◌, inl, inr}
use Rattle.std.proofs.Common.{List, [], ◌∷◌, ◌++◌, filter, length, length-append, take, refl, sym, ap, ◌∙◌, subst}
use Rattle.std.proofs.Common.{true≢false, arith}
use Rattle.std.proofs.lemmas.Int.{ints}
use Rattle.std.proofs.lemmas.Bool.Decides.{nat_tests}
use Rattle.std.proofs.lemmas.List.{take_all}
use Rattle.std.specs.List.{AllByRecursion, list_any}
use Rattle.std.specs.Str.{bytes_eq}
use Rattle.std.specs.Cmp.Lexicographic.{bytes_decides}
use Rattle.rtgs_book.specs.declared.book.Book.{Book}
use Rattle.rtgs_book.specs.declared.order.Order.{Order}
use Rattle.rtgs_book.specs.Books.{is_automatic, is_empty, is_queued}
use Rattle.rtgs_book.specs.Balance.{balance, floor, gain}
use Rattle.rtgs_book.specs.Calm.{IsCalm}
use Rattle.rtgs_book.specs.Choice.{Choice, is_chosen, chosen, balance_after, IsFeasible}
use Rattle.rtgs_book.specs.IntSum.{int_sum_by}
use Rattle.rtgs_book.specs.Lookup.{codes_of, is_participant}
use Rattle.rtgs_book.specs.Queue.{queue, orders_before}
use Rattle.rtgs_book.specs.Soundness.{IsSound}
use Rattle.rtgs_laws.specs.Quiet.{AreOutOfReach, FreesNothing, GainsNothing, KeepsQueue, queued_to, value_of}
use Rattle.rtgs_laws.proofs.Calm.{ChosenAreBeginnings, by_queues, calm_from}
use Rattle.rtgs_laws.proofs.Steps.{GreatestExists}
use Rattle.rtgs_laws.proofs.Sums.{sent_by}
use Rattle.rtgs_lists.proofs.Lists.{all_both}
use Rattle.rtgs_lists.proofs.Bools.{and_left, and_right}
use Rattle.rtgs_lists.proofs.Numbers.{lt_zero}
use Rattle.rtgs_lists.proofs.Sums.{int_sum_by-same}

take_left : {X : Type 0} (n : ℕ) (xs ys : List X) → n ≤ length xs → take n (xs ++ ys) ≡ take n xs
take_left zero xs ys le = refl
take_left (suc n) [] ys le = absurd (omega arith)
take_left (suc n) (x ∷ xs) ys le = ap (λ zs. x ∷ zs) (take_left n xs ys (omega arith))

gain_of_others : (code : List ℕ) (o : Order) → bytes_eq o.sender code ≡ false → pos 0 ≤ℤ gain code o
unfolding gain
gain_of_others code o e = by (bytes_eq o.receiver code) (bytes_eq o.sender code) e
  where
    by : (r s : Bool) → s ≡ false → pos 0 ≤ℤ (cond r (pos o.amount) (pos 0) -ℤ cond s (pos o.amount) (pos 0))
    by r true f = absurd (true≢false f)
    by true false f = omega (arith, ints)
    by false false f = omega (arith, ints)

-- who sends nothing loses nothing by what is chosen
no_loss : (book : Book) (choice : Choice) (code : List ℕ) → choice code ≡ 0 → (os : List Order)
    → pos 0 ≤ℤ int_sum_by (gain code) (filter (is_chosen book choice) os)
unfolding is_chosen
no_loss book choice code none [] = omega (arith, ints)
no_loss book choice code none (o ∷ os) = by (is_chosen book choice o) refl (no_loss book choice code none os)
  where
    another : is_chosen book choice o ≡ true → bytes_eq o.sender code ≡ false
    another e = so (bytes_eq o.sender code) refl
      where
        so : (b : Bool) → bytes_eq o.sender code ≡ b → b ≡ false
        so false f = refl
        so true f = absurd (true≢false (sym (and_right (is_queued o) _ e)
            ∙ ap (λ c. nat_lt (orders_before book o) (choice c)) ((bytes_decides o.sender code).0 f)
            ∙ ap (nat_lt (orders_before book o)) none ∙ lt_zero (orders_before book o)))

    by : (b : Bool) → is_chosen book choice o ≡ b
        → pos 0 ≤ℤ int_sum_by (gain code) (filter (is_chosen book choice) os)
        → pos 0 ≤ℤ int_sum_by (gain code) (cond b (o ∷ filter (is_chosen book choice) os)
        (filter (is_chosen book choice) os))
    by true e rest = let own = gain_of_others code o (another e) in omega (arith, ints)
    by false e rest = rest

at_of : (P : List ℕ → Type 0) (code : List ℕ) (codes : List (List ℕ)) → list_any (bytes_eq code) codes ≡ true
    → AllByRecursion P codes → P code
at_of P code [] e h = absurd (true≢false (sym e))
at_of P code (c ∷ codes) e h = by (bytes_eq code c) refl e (λ k. at_of P code codes k h.1)
  where
    by : (b : Bool) → bytes_eq code c ≡ b → (b || list_any (bytes_eq code) codes) ≡ true
        → (list_any (bytes_eq code) codes ≡ true → P code) → P code
    by true f k rest = subst P (sym ((bytes_decides code c).0 f)) h.0
    by false f k rest = rest k

-- ---- who cannot pay so much of its queue

-- what an account gains by some of the queued orders, and what it pays for them
gain_at_most : (code : List ℕ) (p : Order → Bool) → ((o : Order) → p o ≡ true → is_queued o ≡ true)
    → (os : List Order) → (int_sum_by (gain code) (filter p os) +ℤ value_of (sent_by code (filter p os)))
    ≤ℤ queued_to os code
unfolding gain
gain_at_most code p queued [] = omega (arith, ints)
gain_at_most code p queued (o ∷ os) = by (p o) refl (gain_at_most code p queued os)
  where
    taken : (q r s : Bool) (xs : List Order) (g n : ℤ) → q ≡ true → (g +ℤ value_of xs) ≤ℤ n
        → (((cond r (pos o.amount) (pos 0) -ℤ cond s (pos o.amount) (pos 0)) +ℤ g)
        +ℤ value_of (cond s (o ∷ xs) xs)) ≤ℤ (cond (q && r) (pos o.amount) (pos 0) +ℤ n)
    taken true true true xs g n e le = omega (arith, ints)
    taken true true false xs g n e le = omega (arith, ints)
    taken true false true xs g n e le = omega (arith, ints)
    taken true false false xs g n e le = omega (arith, ints)
    taken false r s xs g n e le = absurd (true≢false (sym e))

    left : (b : Bool) (z n : ℤ) → z ≤ℤ n → z ≤ℤ (cond b (pos o.amount) (pos 0) +ℤ n)
    left true z n le = omega (arith, ints)
    left false z n le = omega (arith, ints)

    by : (b : Bool) → p o ≡ b
        → (int_sum_by (gain code) (filter p os) +ℤ value_of (sent_by code (filter p os))) ≤ℤ queued_to os code
        → (int_sum_by (gain code) (cond b (o ∷ filter p os) (filter p os))
        +ℤ value_of (sent_by code (cond b (o ∷ filter p os) (filter p os)))) ≤ℤ queued_to (o ∷ os) code
    by true e le = taken (is_queued o) (bytes_eq o.receiver code) (bytes_eq o.sender code) (sent_by code (filter p os))
        (int_sum_by (gain code) (filter p os)) (queued_to os code) (queued o e) le
    by false e le = left (is_queued o && bytes_eq o.receiver code)
        (int_sum_by (gain code) (filter p os) +ℤ value_of (sent_by code (filter p os))) (queued_to os code) le

some_value : (xs : List Order) → pos 0 ≤ℤ value_of xs
some_value [] = omega (arith, ints)
some_value (x ∷ xs) = let rest = some_value xs in omega (arith, ints)

value_of_part : (k n : ℕ) (xs : List Order) → k ≤ n → value_of (take k xs) ≤ℤ value_of (take n xs)
value_of_part zero n xs le = some_value (take n xs)
value_of_part (suc k) zero xs le = absurd (omega arith)
value_of_part (suc k) (suc n) [] le = omega (arith, ints)
value_of_part (suc k) (suc n) (x ∷ xs) le = let rest = value_of_part k n xs (omega arith) in omega (arith, ints)

module _ (beginnings : ChosenAreBeginnings) (book : Book) (sound : IsSound book) (choice : Choice) where
  -- whose first orders stay out of reach has fewer of them chosen
  fewer_than : (code : List ℕ) (k : ℕ) → floor book code ≤ℤ balance_after book choice code
      → AreOutOfReach book code (take k (queue book code)) → choice code < k
  unfolding balance_after chosen is_chosen
  fewer_than code k covered out = by (nat_le k (choice code)) refl
    where
      by : (b : Bool) → nat_le k (choice code) ≡ b → choice code < k
      by false e = grind (arith, nat_tests)
      by true e =
          let le : k ≤ choice code = grind (arith, nat_tests) in
          let less = value_of_part k (choice code) (queue book code) le in
          let paid = ap value_of (beginnings book choice code sound.orders_numbered) in
          let most = gain_at_most code (is_chosen book choice) (λ o h. and_left (is_queued o) _ h) book.orders in
          absurd (omega (arith, ints))

-- ---- changes after which no choice is feasible that was not before

module _ (beginnings : ChosenAreBeginnings) (old new : Book) (sound : IsSound old) (sound_new : IsSound new)
    (frees : FreesNothing old new) where
  module _ (choice : Choice) (f : IsFeasible new choice) where
    covered_there : (code : List ℕ) → is_participant new code ≡ true
        → floor new code ≤ℤ balance_after new choice code
    unfolding is_participant
    covered_there code known =
        at_of (λ c. floor new c ≤ℤ balance_after new choice c) code (codes_of new) known f.covered

    -- what is chosen of a queue was at its beginning before
    starts : (code : List ℕ) → (choice code ≤ length (queue old code))
        × (take (choice code) (queue old code) ≡ take (choice code) (queue new code))
    starts code = by (frees.queues code)
      where
        by : KeepsQueue old new code → (choice code ≤ length (queue old code))
            × (take (choice code) (queue old code) ≡ take (choice code) (queue new code))
        by (inl part) =
            let le = f.within code in
            let long = ap length part.1 ∙ length-append (queue new code) part.0 in (
              omega arith,
              ap (take (choice code)) part.1 ∙ take_left (choice code) (queue new code) part.0 le,
            )
        by (inr behind) =
            let long = ap length behind.newest.1 ∙ length-append (queue old code) (behind.newest.0 ∷ []) in
            let less = fewer_than beginnings new sound_new choice code (length (queue new code))
            (covered_there code behind.known)
            (subst (AreOutOfReach new code) (sym (take_all (length (queue new code)) (queue new code) (omega arith)))
            behind.unpaid) in
            let le : choice code ≤ length (queue old code) = omega (arith, less, long) in (
              le,
              sym (ap (take (choice code)) behind.newest.1
                  ∙ take_left (choice code) (queue old code) (behind.newest.0 ∷ []) le),
            )

    sums : (g : Order → ℤ) → int_sum_by g (chosen old choice) ≡ int_sum_by g (chosen new choice)
    sums g =
        by_queues beginnings old choice g sound
        ∙ int_sum_by-same _ _ (λ code. ap (int_sum_by g) (starts code).1) (codes_of old)
        ∙ ap (int_sum_by (λ code. int_sum_by g (take (choice code) (queue new code)))) (sym frees.accounts_stay)
        ∙ sym (by_queues beginnings new choice g sound_new)

    covered_at : (code : List ℕ) → floor old code ≤ℤ balance old code
        → ((is_empty (queue new code) ≡ false → GainsNothing old new code)
        × (floor new code ≤ℤ balance_after new choice code))
        → floor old code ≤ℤ balance_after old choice code
    unfolding balance_after chosen
    covered_at code before after = by (is_empty (queue new code)) refl
      where
        none : (xs : List Order) → is_empty xs ≡ true → choice code ≤ length xs → choice code ≡ 0
        none [] e le = omega arith
        none (x ∷ xs) e le = absurd (true≢false (sym e))

        idle : choice code ≡ 0
            → floor old code ≤ℤ (balance old code +ℤ int_sum_by (gain code) (filter (is_chosen old choice) old.orders))
        idle e = let gained = no_loss old choice code e old.orders in omega (arith, ints)

        gaining : GainsNothing old new code
            → floor old code ≤ℤ (balance old code +ℤ int_sum_by (gain code) (filter (is_chosen old choice) old.orders))
        gaining (inl room) =
            let same = sums (gain code) in
            let covered = after.1 in
            omega (arith, ints)
        gaining (inr out) =
            idle (let less = fewer_than beginnings new sound_new choice code 1 after.1 out in omega arith)

        by : (b : Bool) → is_empty (queue new code) ≡ b
            → floor old code ≤ℤ (balance old code +ℤ int_sum_by (gain code) (filter (is_chosen old choice) old.orders))
        by true e = idle (none (queue new code) e (f.within code))
        by false e = gaining (after.0 e)

    feasible : IsFeasible old choice
    feasible = record {
      within = λ code. (starts code).0;
      covered = all_both (λ code. floor old code ≤ℤ balance old code)
          (λ code. (is_empty (queue new code) ≡ false → GainsNothing old new code)
          × (floor new code ≤ℤ balance_after new choice code))
          (λ code. floor old code ≤ℤ balance_after old choice code) covered_at (codes_of old) sound.floors
          (subst (AllByRecursion (λ code. (is_empty (queue new code) ≡ false → GainsNothing old new code)
          × (floor new code ≤ℤ balance_after new choice code))) frees.accounts_stay
          (all_both (λ code. is_empty (queue new code) ≡ false → GainsNothing old new code)
          (λ code. floor new code ≤ℤ balance_after new choice code)
          (λ code. (is_empty (queue new code) ≡ false → GainsNothing old new code)
          × (floor new code ≤ℤ balance_after new choice code)) (λ code x y. (x, y)) (codes_of new) frees.gains
          f.covered));
    }

pub quiet_calm : ChosenAreBeginnings → GreatestExists → (old new : Book) → IsSound old → IsSound new
    → FreesNothing old new → IsCalm old → IsCalm new
quiet_calm beginnings exists old new sound sound_new frees calm =
    calm_from beginnings exists old new sound (subst (λ day. is_automatic day ≡ true) frees.day_stays)
    (feasible beginnings old new sound sound_new frees) calm
