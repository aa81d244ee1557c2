-- Accounts in code order: what a search finds, and what a write at its place does.
use Rattle.std.proofs.Common.{◌≡◌, ℕ, zero, suc, ◌<◌, ◌≤◌, Bool, true, false, not, cond, if◌then◌else◌, List, [], ◌∷◌}
use Rattle.std.proofs.Common.{◌++◌, map, filter, length, get_or, set, take, drop, find, Some, None, Result, Ok, Err}
use Rattle.std.proofs.Common.{IfOk, IfErr, Less, Equal, Greater, is_lt, nat_cmp, refl, sym, ap, ◌∙◌, subst, inl, inr}
use Rattle.std.proofs.Common.{add-one, arith}
use Rattle.std.proofs.lemmas.List.Sorted.{searchable_from_sorted}
use Rattle.std.proofs.lemmas.List.{map-append, length-map}
use Rattle.std.specs.List.{AllByRecursion, IsDistinct, insert, list_any}
use Rattle.std.specs.List.Sorted.{IsStrictlySortedBy, IsSearchInRange, IsBinarySearchResult}
use Rattle.std.specs.Ordering.{ordering_reverse}
use Rattle.std.specs.Str.{bytes_eq}
use Rattle.std.specs.Cmp.Lexicographic.{slice_cmp, bytes_decides, nat_list_cmp_total}
use Rattle.rtgs_book.specs.Commands.{is_before}
use Rattle.rtgs_book.specs.Lookup.{has_code}
use Rattle.std.specs.FinMap.{nat_cmp-IsAntisymmetric, slice_cmp-IsAntisymmetric}
use Rattle.std.proofs.lemmas.List.Elements.{recursion_from_All}
use Rattle.std.proofs.lemmas.Bool.{cases_lt}
use Rattle.rtgs_book.specs.declared.account.Account.{Account}
use Rattle.rtgs_book.specs.declared.limits.TheConstants.{MOST_PARTICIPANTS}
use Rattle.rtgs_records.specs.accounts.Accounts.{code_of, key_of, has_key, is_of, CodesRiseStrictly, AreOfABook}
use Rattle.rtgs_records.specs.accounts.Accounts.{with_account}
use Rattle.rtgs_records.specs.accounts.Accounts.{IsAt, IsGapFor}
use Rattle.rtgs_lists.proofs.Bools.{or_left_false, or_right_false}
use Rattle.rtgs_lists.proofs.Codes.{bytes_eq_comm, not_before, sorted_put_in, later_differs}
use Rattle.rtgs_lists.proofs.Filters.{map-filter}
use Rattle.rtgs_lists.proofs.Finds.{find_nothing}
use Rattle.rtgs_lists.proofs.Lists.{map_same}

-- a code that comes before another is another
apart_from_more : (a b : List ℕ) → slice_cmp nat_cmp a b ≡ Greater → bytes_eq a b ≡ false
apart_from_more a b more = by (bytes_eq a b) refl
  where
    by : (t : Bool) → bytes_eq a b ≡ t → t ≡ false
    by false e = refl
    by true e =
        let same : a ≡ b = (bytes_decides a b).0 e in
        let here : slice_cmp nat_cmp a a ≡ Greater = subst (λ c. slice_cmp nat_cmp a c ≡ Greater) (sym same) more in
        let there : slice_cmp nat_cmp a a ≡ Less = nat_list_cmp_total.antisymm a a ∙ ap ordering_reverse here in
        cc

pub equal_codes : (a b : List ℕ) → a ≡ b → bytes_eq a b ≡ true
equal_codes a b e = (bytes_decides a b).1 e

-- what holds of each code holds of the code at an index
pub at_index : (P : List ℕ → Type 0) (xs : List Account) → AllByRecursion P (map code_of xs) → (i : ℕ) (d : Account)
    → i < length xs → P (code_of (get_or xs i d))
at_index P [] h i d lt = absurd (omega arith)
at_index P (x ∷ xs) h zero d lt = h.0
at_index P (x ∷ xs) h (suc i) d lt = at_index P xs h.1 i d (omega arith)

adjacent : (xs : List Account) → CodesRiseStrictly xs → (k : ℕ) (d : Account) → suc k < length xs
    → slice_cmp nat_cmp (code_of (get_or xs k d)) (code_of (get_or xs (suc k) d)) ≡ Less
unfolding IsStrictlySortedBy
adjacent [] rise k d lt = absurd (omega arith)
adjacent (x ∷ xs) rise zero d lt = at_index (λ c. slice_cmp nat_cmp (code_of x) c ≡ Less) xs rise.0 0 d (omega arith)
adjacent (x ∷ xs) rise (suc k) d lt = adjacent xs rise.1 k d (omega arith)

-- an account by its index, and by its code
pub find_at : (code : List ℕ) (xs : List Account) → CodesRiseStrictly xs → (i : ℕ) → IsAt code xs i → (d : Account)
    → find (is_of code) xs ≡ Some (get_or xs i d)
unfolding IsStrictlySortedBy
find_at code [] rise i at d = absurd (let h = at.in_range in omega arith)
find_at code (x ∷ xs) rise zero at d = rw (equal_codes (code_of x) code (at.has_code d)) refl
find_at code (x ∷ xs) rise (suc i) at d =
    let within : i < length xs = let h = at.in_range in omega arith in
    let rest : IsAt code xs i = record { in_range = within; has_code = λ d. at.has_code d } in
    let less : slice_cmp nat_cmp (code_of x) code ≡ Less = subst (λ c. slice_cmp nat_cmp (code_of x) c ≡ Less)
    (at.has_code d) (at_index (λ c. slice_cmp nat_cmp (code_of x) c ≡ Less) xs rise.0 i d within) in
    rw (later_differs (code_of x) code less) (find_at code xs rise.1 i rest d)

-- a code that has a gap is not there
pub find_in_gap : (code : List ℕ) (xs : List Account) (i : ℕ) → IsGapFor code xs i → find (is_of code) xs ≡ None
find_in_gap code xs i gap = find_nothing (is_of code) xs gap.apart

-- a search ends at the account with the code, or at the gap for it
pub searched : (xs : List Account) → CodesRiseStrictly xs → (code : List ℕ) (r : Result ℕ ℕ)
    → IsSearchInRange r (length xs) → IsBinarySearchResult (λ a. slice_cmp nat_cmp (code_of a) code) xs r
    → record { found : IfOk r (IsAt code xs); absent : IfErr r (IsGapFor code xs) }
searched xs rise code (Ok at) in_range equal = record {
  found = record {
    in_range = in_range;
    has_code = λ d. same_code (code_of (get_or xs at d)) code (equal d);
  };
  absent = tt;
}
  where
    same_code : (a b : List ℕ) → slice_cmp nat_cmp a b ≡ Equal → a ≡ b
    same_code a b e = slice_cmp-IsAntisymmetric nat_cmp-IsAntisymmetric a b e
searched xs rise code (Err at) in_range parted =
    let parts = parted (searchable_from_sorted nat_list_cmp_total code_of xs code
    (λ k d low high. rw add-one (not_before (code_of (get_or xs k d)) (code_of (get_or xs (suc k) d))
    (adjacent xs rise k d (omega arith))))) in
    record {
      found = tt;
      absent = record {
        in_range = in_range;
        before = λ k d lt. ap is_lt (parts.0 k d (omega arith) lt);
        after = λ k d le lt. ap is_lt (parts.1 k d le lt);
        apart = recursion_from_All (λ a. is_of code a ≡ false) xs
            (λ k d lt. apart_at k d lt (parts.0 k d (omega arith)) (λ le. parts.1 k d le lt));
      };
    }
  where
    apart_at : (k : ℕ) (d : Account) → k < length xs → (k < at
        → slice_cmp nat_cmp (code_of (get_or xs k d)) code ≡ Less)
        → (at ≤ k → slice_cmp nat_cmp (code_of (get_or xs k d)) code ≡ Greater) → is_of code (get_or xs k d) ≡ false
    apart_at k d lt less more = elim (cases_lt k at) [
      | inl below ↦ later_differs (code_of (get_or xs k d)) code
          (less below)
      | inr above ↦ apart_from_more (code_of (get_or xs k d)) code (more above)
    ]

-- ---- an account added

parts_at : (p : Account → Bool) (xs : List Account) (i : ℕ) → i ≤ length xs
    → ((k : ℕ) (d : Account) → k < i → p (get_or xs k d) ≡ true)
    → ((k : ℕ) (d : Account) → i ≤ k → k < length xs → p (get_or xs k d) ≡ false)
    → (take i xs ≡ filter p xs) × (drop i xs ≡ filter (λ a. not (p a)) xs)
parts_at p [] zero le pass fail = (refl, refl)
parts_at p [] (suc i) le pass fail = absurd (omega arith)
parts_at p (x ∷ xs) zero le pass fail =
    let rest = parts_at p xs zero (omega arith) (λ k d lt. absurd (omega arith))
    (λ k d low lt. fail (suc k) d (omega arith) (omega arith)) in
    rw (fail 0 x (omega arith) (omega arith)) (rest.0, ap (λ ys. x ∷ ys) rest.1)
parts_at p (x ∷ xs) (suc i) le pass fail =
    let rest = parts_at p xs i (omega arith) (λ k d lt. pass (suc k) d (omega arith))
    (λ k d low lt. fail (suc k) d (omega arith) (omega arith)) in
    rw (pass 0 x (omega arith)) (ap (λ ys. x ∷ ys) rest.0, rest.1)

pub inserted : (new : Account) (xs : List Account) (i : ℕ) → IsGapFor (code_of new) xs i
    → insert xs i new ≡ with_account new xs
inserted new xs i gap =
    let parts = parts_at (λ a. is_before (code_of a) (code_of new)) xs i gap.in_range gap.before gap.after in
    rw (parts.0, parts.1) refl

pub code_of-with_account : (new : Account) (xs : List Account)
    → map code_of (with_account new xs) ≡ filter (λ c. is_before c (code_of new)) (map code_of xs) ++ code_of new
    ∷ filter (λ c. not (is_before c (code_of new))) (map code_of xs)
code_of-with_account new xs =
    rw (
      map-append code_of (filter (λ a. is_before (code_of a) (code_of new)) xs)
          (new ∷ filter (λ a. not (is_before (code_of a) (code_of new))) xs),
      map-filter code_of (λ c. is_before c (code_of new)) xs,
      map-filter code_of (λ c. not (is_before c (code_of new))) xs,
    ) refl

all_codes : (P : List ℕ → Type 0) (xs : List Account) → AllByRecursion (λ a. P (code_of a)) xs
    → AllByRecursion P (map code_of xs)
all_codes P [] h = tt
all_codes P (x ∷ xs) h = (h.0, all_codes P xs h.1)

pub ordered_with_account : (new : Account) (xs : List Account) → CodesRiseStrictly xs
    → AllByRecursion (λ a. is_of (code_of new) a ≡ false) xs → CodesRiseStrictly (with_account new xs)
ordered_with_account new xs rise apart =
    rw (code_of-with_account new xs) (sorted_put_in (code_of new) (map code_of xs) rise
    (all_codes (λ c. bytes_eq c (code_of new) ≡ false) xs apart))

-- ---- the account with a code changed, its code as it was

abbrev pub altered : (Account → Account) → List ℕ → Account → Account
altered f code a = if is_of code a then f a else a

module _ (f : Account → Account) (keeps : (a : Account) → code_of (f a) ≡ code_of a) (code : List ℕ) where
  untouched : (xs : List Account) → AllByRecursion (λ a. is_of code a ≡ false) xs → map (altered f code) xs ≡ xs
  untouched [] h = refl
  untouched (x ∷ xs) h = rw h.0 (ap (λ ys. x ∷ ys) (untouched xs h.1))

  pub altered_in_gap : (xs : List Account) (i : ℕ) → IsGapFor code xs i → map (altered f code) xs ≡ xs
  altered_in_gap xs i gap = untouched xs gap.apart

  later_apart : (c : List ℕ) → c ≡ code → (xs : List Account)
      → AllByRecursion (λ d. slice_cmp nat_cmp c d ≡ Less) (map code_of xs)
      → AllByRecursion (λ a. is_of code a ≡ false) xs
  later_apart c e [] h = tt
  later_apart c e (x ∷ xs) h = (
    bytes_eq_comm (code_of x) code
        ∙ subst (λ d. bytes_eq d (code_of x) ≡ false) e (later_differs c (code_of x) h.0),
    later_apart c e xs h.1,
  )

  pub altered_at : (xs : List Account) → CodesRiseStrictly xs → (i : ℕ) → IsAt code xs i → (d : Account)
      → set xs i (f (get_or xs i d)) ≡ map (altered f code) xs
  unfolding IsStrictlySortedBy
  altered_at [] rise i at d = absurd (let h = at.in_range in omega arith)
  altered_at (x ∷ xs) rise zero at d = rw (
    equal_codes (code_of x) code (at.has_code d),
    untouched xs
        (later_apart (code_of x) (at.has_code d) xs rise.0),
  ) refl
  altered_at (x ∷ xs) rise (suc i) at d =
      let within : i < length xs = let h = at.in_range in omega arith in
      let rest : IsAt code xs i = record { in_range = within; has_code = λ d. at.has_code d } in
      let less : slice_cmp nat_cmp (code_of x) code ≡ Less =
      subst (λ c. slice_cmp nat_cmp (code_of x) c ≡ Less) (at.has_code d)
      (at_index (λ c. slice_cmp nat_cmp (code_of x) c ≡ Less) xs rise.0 i d within) in
      rw (later_differs (code_of x) code less) (ap (λ ys. x ∷ ys) (altered_at xs rise.1 i rest d))

  same_code : (a : Account) → code_of (altered f code a) ≡ code_of a
  same_code a = by (is_of code a)
    where
      by : (t : Bool) → code_of (cond t (f a) a) ≡ code_of a
      by true = keeps a
      by false = refl

  same_codes : (xs : List Account) → map code_of (map (altered f code) xs) ≡ map code_of xs
  same_codes [] = refl
  same_codes (x ∷ xs) = λ i. same_code x i ∷ same_codes xs i

  pub ordered_altered : (xs : List Account) → CodesRiseStrictly xs → CodesRiseStrictly (map (altered f code) xs)
  ordered_altered xs rise = rw (same_codes xs) rise

-- so they stay those of a book, where the key stays too
pub of_a_book_altered : (f : Account → Account) → ((a : Account) → code_of (f a) ≡ code_of a)
    → ((a : Account) → key_of (f a) ≡ key_of a) → (code : List ℕ) (xs : List Account) → AreOfABook xs
    → AreOfABook (map (altered f code) xs)
of_a_book_altered f codes keys code xs of = record {
  ordered = ordered_altered f codes code xs of.ordered;
  keys = subst (IsDistinct bytes_eq) (sym (map_same key_of (altered f code) same_key xs)) of.keys;
  few = subst (λ n. n ≤ MOST_PARTICIPANTS) (sym (length-map xs (altered f code))) of.few;
}
  where
    same_key : (a : Account) → key_of (altered f code a) ≡ key_of a
    same_key a = by (is_of code a)
      where
        by : (t : Bool) → key_of (cond t (f a) a) ≡ key_of a
        by true = keys a
        by false = refl

-- ---- a key put among others

all_inserted : (P : List ℕ → Type 0) (new : Account) (i : ℕ) (xs : List Account) → AllByRecursion P (map key_of xs)
    → P (key_of new) → AllByRecursion P (map key_of (insert xs i new))
all_inserted P new zero xs h k = (k, h)
all_inserted P new (suc i) [] h k = (k, tt)
all_inserted P new (suc i) (x ∷ xs) h k = (h.0, all_inserted P new i xs h.1 k)

keys_inserted : (new : Account) (i : ℕ) (xs : List Account) → IsDistinct bytes_eq (map key_of xs)
    → list_any (has_key (key_of new)) xs ≡ false → IsDistinct bytes_eq (map key_of (insert xs i new))
unfolding IsDistinct
keys_inserted new zero xs h free = (none xs free, h)
  where
    none : (xs : List Account) → list_any (has_key (key_of new)) xs ≡ false
        → AllByRecursion (λ k. bytes_eq (key_of new) k ≡ false) (map key_of xs)
    none [] e = tt
    none (x ∷ xs) e = (bytes_eq_comm (key_of new) (key_of x) ∙ or_left_false _ _ e, none xs (or_right_false _ _ e))
keys_inserted new (suc i) [] h free = (tt, tt)
keys_inserted new (suc i) (x ∷ xs) h free = (
  all_inserted (λ k. bytes_eq (key_of x) k ≡ false) new i xs h.0 (or_left_false _ _ free),
  keys_inserted new i xs h.1 (or_right_false _ _ free),
)

pub of_a_book_inserted : (new : Account) (xs : List Account) (i : ℕ) → AreOfABook xs → IsGapFor (code_of new) xs i
    → list_any (has_key (key_of new)) xs ≡ false → length xs < MOST_PARTICIPANTS → AreOfABook (insert xs i new)
of_a_book_inserted new xs i of gap free few = record {
  ordered = subst CodesRiseStrictly (sym (inserted new xs i gap)) (ordered_with_account new xs of.ordered gap.apart);
  keys = keys_inserted new i xs of.keys free;
  few = let long = length_inserted i xs gap.in_range in omega (arith, long, few);
}
  where
    length_inserted : (i : ℕ) (xs : List Account) → i ≤ length xs → length (insert xs i new) ≡ suc (length xs)
    length_inserted zero xs le = refl
    length_inserted (suc i) [] le = absurd (omega arith)
    length_inserted (suc i) (x ∷ xs) le = ap suc (length_inserted i xs (omega arith))
