-- What loops over numbers and dates come to.
use Rattle.std.proofs.Common.{◌≡◌, ℕ, suc, ◌+◌, ◌≤◌, ◌<◌, ◌==◌, Bool, true, false, not, ◌&&◌, nat_le, List, [], ◌∷◌}
use Rattle.std.proofs.Common.{map, filter, cond, length, drop, get_or, ◌↔◌, refl, sym, ap, ◌∙◌, true≢false, add-one}
use Rattle.std.proofs.Common.{drop-cons, arith}
use Rattle.std.proofs.lemmas.Bool.Decides.{nat_tests}
use Rattle.std.proofs.lemmas.List.{length-map}
use Rattle.std.proofs.Math.ListN.{drop_of_length-le}
use Rattle.std.specs.List.{AllByRecursion, range_with_len, list_all}
use Rattle.rtgs_money.specs.Date.{is_weekend}
use Rattle.rtgs_book.specs.declared.limits.TheConstants.{LARGEST_NUMBER}
use Rattle.rtgs_book.specs.Soundness.{AreNumbered, AreWeekdays, NeverFall}
use Rattle.rtgs_lists.proofs.Bools.{and_left, and_right}
use Rattle.rtgs_lists.proofs.Lists.{all_weaker}

-- the next element, and those after it
pub next_of : {X : Type 0} (xs : List X) (i : ℕ) (x : X) → i < length xs → x ≡ get_or xs i x
    → drop i xs ≡ x ∷ drop (i + 1) xs
next_of xs i x less is = rw (add-one i) (drop-cons xs i x less ∙ (λ k. sym is k ∷ drop (suc i) xs))

-- the numbers are n, n + 1 and so on
abbrev pub counts_from : ℕ → List ℕ → Bool
counts_from n [] = true
counts_from n (k ∷ ks) = (k == n) && counts_from (n + 1) ks

pub counted : (n : ℕ) (ks : List ℕ) → counts_from n ks ≡ true → ks ≡ range_with_len n (length ks)
counted n [] e = refl
counted n (k ∷ ks) e =
    let here : (k == n) ≡ true = and_left (k == n) (counts_from (n + 1) ks) e in
    let same : k ≡ n = grind (arith, nat_tests) in
    let rest = counted (n + 1) ks (and_right (k == n) (counts_from (n + 1) ks) e) in
    λ i. same i ∷ rest i

pub counts : (n : ℕ) (ks : List ℕ) → ks ≡ range_with_len n (length ks) → counts_from n ks ≡ true
counts n [] e = refl
counts n (k ∷ ks) e =
    let head : k ≡ n = cc in
    let rest : ks ≡ range_with_len (n + 1) (length ks) = cc in
    let same : (k == n) ≡ true = grind (arith, nat_tests) in
    rw (same, counts (n + 1) ks rest) refl

-- the dates do not fall from the latest one on, and the last is not passed
abbrev pub rises_from : ℕ → ℕ → List ℕ → Bool
rises_from latest last [] = nat_le latest last
rises_from latest last (d ∷ ds) = nat_le latest d && rises_from d last ds

pub risen : (latest last : ℕ) (ds : List ℕ) → rises_from latest last ds ≡ true
    → (latest ≤ last) × AllByRecursion (λ d. latest ≤ d) ds × NeverFall last ds
risen latest last [] e = (grind (arith, nat_tests), tt, tt)
risen latest last (d ∷ ds) e =
    let here : nat_le latest d ≡ true = and_left (nat_le latest d) (rises_from d last ds) e in
    let le : latest ≤ d = grind (arith, nat_tests) in
    let rest = risen d last ds (and_right (nat_le latest d) (rises_from d last ds) e) in
    let room = rest.0 in (
      omega arith,
      (le, all_weaker (λ x. d ≤ x) (λ x. latest ≤ x) (λ x h. omega arith) ds rest.1),
      (rest.1, rest.0, rest.2),
    )

pub rises : (latest last : ℕ) (ds : List ℕ) → latest ≤ last → AllByRecursion (λ d. latest ≤ d) ds → NeverFall last ds
    → rises_from latest last ds ≡ true
rises latest last [] room above h = grind (arith, nat_tests)
rises latest last (d ∷ ds) room above h =
    let le : latest ≤ d = above.0 in
    let here : nat_le latest d ≡ true = grind (arith, nat_tests) in
    rw (here, rises d last ds h.1 h.0 h.2) refl

any_date : (ds : List ℕ) → AllByRecursion (λ d. 0 ≤ d) ds
any_date [] = tt
any_date (d ∷ ds) = (omega arith, any_date ds)

pub rises_is : (last : ℕ) (ds : List ℕ) → (rises_from 0 last ds ≡ true) ↔ NeverFall last ds
rises_is last ds = (λ e. (risen 0 last ds e).2, λ h. rises 0 last ds (omega arith) (any_date ds) h)

module _ {X : Type 0} (number : X → ℕ) (xs : List X) where
  -- what is left decides whether all are numbered
  abbrev pub Counted : ℕ → Type 0
  Counted i = counts_from (1 + i) (map number (drop i xs)) ≡ counts_from 1 (map number xs)

  one_more : (i : ℕ) (x : X) → i < length xs → x ≡ get_or xs i x
      → counts_from (1 + i) (map number (drop i xs)) ≡ ((number x == 1 + i) && counts_from (1 + i + 1)
      (map number (drop (i + 1) xs)))
  one_more i x less is = ap (λ ys. counts_from (1 + i) (map number ys)) (next_of xs i x less is)

  pub count_more : (i : ℕ) (x : X) → Counted i → i < length xs → x ≡ get_or xs i x → number x ≡ i + 1 → Counted (i + 1)
  count_more i x h less is e =
      let same : (number x == 1 + i) ≡ true = grind (arith, nat_tests) in
      let next : 1 + (i + 1) ≡ 1 + i + 1 = omega arith in
      rw next (sym (one_more i x less is ∙ rw same refl) ∙ h)

  pub miscounted : (i : ℕ) (x : X) → Counted i → i < length xs → x ≡ get_or xs i x → (number x ≡ i + 1 → ⊥)
      → AreNumbered (map number xs) → ⊥
  miscounted i x h less is ne numbered =
      let differ : (number x == 1 + i) ≡ false = grind (arith, nat_tests) in
      true≢false (sym (counts 1 (map number xs) numbered.0) ∙ sym h ∙ one_more i x less is ∙ rw differ refl)

  pub counted_all : (i : ℕ) → length xs ≤ i → Counted i → (nat_le (length xs) LARGEST_NUMBER ≡ true) ↔ AreNumbered
      (map number xs)
  counted_all i past h =
      let whole : counts_from 1 (map number xs) ≡ true = sym h
      ∙ ap (λ ys. counts_from (1 + i) (map number ys)) (drop_of_length-le xs past) in
      let long : length (map number xs) ≡ length xs = length-map xs number in
      (λ e. (counted 1 (map number xs) whole, grind (arith, nat_tests)), λ n. let few = n.1 in grind (arith, nat_tests))

module _ {X : Type 0} (date : X → ℕ) (xs : List X) (last : ℕ) where
  -- what is left decides whether the dates rise
  abbrev pub Rising : ℕ → ℕ → Type 0
  Rising latest i = rises_from latest last (map date (drop i xs)) ≡ rises_from 0 last (map date xs)

  next_date : (latest i : ℕ) (x : X) → i < length xs → x ≡ get_or xs i x
      → rises_from latest last (map date (drop i xs)) ≡ (nat_le latest (date x) && rises_from (date x) last
      (map date (drop (i + 1) xs)))
  next_date latest i x less is = ap (λ ys. rises_from latest last (map date ys)) (next_of xs i x less is)

  pub rise_more : (latest i d : ℕ) (x : X) → Rising latest i → i < length xs → x ≡ get_or xs i x → d ≡ date x
      → latest ≤ d → Rising d (i + 1)
  rise_more latest i d x h less is same le =
      let up : nat_le latest (date x) ≡ true = grind (arith, nat_tests) in
      rw same (sym (next_date latest i x less is ∙ rw up refl) ∙ h)

  pub fallen : (latest i d : ℕ) (x : X) → Rising latest i → i < length xs → x ≡ get_or xs i x → d ≡ date x → d < latest
      → NeverFall last (map date xs) → ⊥
  fallen latest i d x h less is same lt rising =
      let down : nat_le latest (date x) ≡ false = grind (arith, nat_tests) in
      true≢false (sym ((rises_is last (map date xs)).1 rising) ∙ sym h ∙ next_date latest i x less is ∙ rw down refl)

  pub risen_all : (latest i : ℕ) → length xs ≤ i → Rising latest i
      → (nat_le latest last ≡ true) ↔ NeverFall last (map date xs)
  risen_all latest i past h =
      let whole : nat_le latest last ≡ rises_from 0 last (map date xs) =
      sym (ap (λ ys. rises_from latest last (map date ys)) (drop_of_length-le xs past)) ∙ h in
      rw whole (rises_is last (map date xs))

module _ {X : Type 0} (date : X → ℕ) (p : X → Bool) (xs : List X) (last : ℕ) where
  -- what is left decides whether the dates of those that pass the test rise
  abbrev pub RisingIn : ℕ → ℕ → Type 0
  RisingIn latest i = rises_from latest last (map date (filter p (drop i xs)))
      ≡ rises_from 0 last (map date (filter p xs))

  next_in : (latest i : ℕ) (x : X) → i < length xs → x ≡ get_or xs i x
      → rises_from latest last (map date (filter p (drop i xs))) ≡ rises_from latest last
      (map date (cond (p x) (x ∷ filter p (drop (i + 1) xs)) (filter p (drop (i + 1) xs))))
  next_in latest i x less is = ap (λ ys. rises_from latest last (map date (filter p ys))) (next_of xs i x less is)

  pub rise_more_in : (latest i d : ℕ) (x : X) → RisingIn latest i → i < length xs → x ≡ get_or xs i x
      → d ≡ cond (p x) (date x) latest → latest ≤ d → RisingIn d (i + 1)
  rise_more_in latest i d x h less is same le = by (p x) same (next_in latest i x less is)
    where
      by : (b : Bool) → d ≡ cond b (date x) latest → rises_from latest last (map date (filter p (drop i xs)))
          ≡ rises_from latest last (map date (cond b (x ∷ filter p (drop (i + 1) xs)) (filter p (drop (i + 1) xs))))
          → RisingIn d (i + 1)
      by true same next =
          let up : nat_le latest (date x) ≡ true = grind (arith, nat_tests) in
          rw same (sym (next ∙ rw up refl) ∙ h)
      by false same next = rw same (sym next ∙ h)

  pub fallen_in : (latest i d : ℕ) (x : X) → RisingIn latest i → i < length xs → x ≡ get_or xs i x
      → d ≡ cond (p x) (date x) latest → d < latest → NeverFall last (map date (filter p xs)) → ⊥
  fallen_in latest i d x h less is same lt rising = by (p x) same (next_in latest i x less is)
    where
      by : (b : Bool) → d ≡ cond b (date x) latest → rises_from latest last (map date (filter p (drop i xs)))
          ≡ rises_from latest last (map date (cond b (x ∷ filter p (drop (i + 1) xs)) (filter p (drop (i + 1) xs))))
          → ⊥
      by true same next =
          let down : nat_le latest (date x) ≡ false = grind (arith, nat_tests) in
          true≢false (sym ((rises_is last (map date (filter p xs))).1 rising) ∙ sym h ∙ next ∙ rw down refl)
      by false same next = omega arith

  pub risen_all_in : (latest i : ℕ) → length xs ≤ i → RisingIn latest i
      → (nat_le latest last ≡ true) ↔ NeverFall last (map date (filter p xs))
  risen_all_in latest i past h =
      let whole : nat_le latest last ≡ rises_from 0 last (map date (filter p xs)) =
      sym (ap (λ ys. rises_from latest last (map date (filter p ys))) (drop_of_length-le xs past)) ∙ h in
      rw whole (rises_is last (map date (filter p xs)))

not_true : (b : Bool) → not b ≡ true → b ≡ false
not_true true e = absurd (true≢false (sym e))
not_true false e = refl

-- a test of each date
pub weekdays : {X : Type 0} (date : X → ℕ) (xs : List X) → (list_all (λ x. not (is_weekend (date x))) xs ≡ true) ↔
    AreWeekdays (map date xs)
weekdays date xs = (there xs, back xs)
  where
    there : (ys : List _) → list_all (λ x. not (is_weekend (date x))) ys ≡ true → AreWeekdays (map date ys)
    there [] e = tt
    there (y ∷ ys) e = (not_true _ (and_left _ _ e), there ys (and_right _ _ e))

    back : (ys : List _) → AreWeekdays (map date ys) → list_all (λ x. not (is_weekend (date x))) ys ≡ true
    back [] h = refl
    back (y ∷ ys) h = rw (h.0, back ys h.1) refl
