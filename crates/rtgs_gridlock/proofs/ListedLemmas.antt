-- One index more or less in a list beside flags.
use Rattle.std.proofs.Common.{◌≡◌, ℕ, ◌+◌, ◌<◌, ◌≤◌, ◌==◌, Bool, true, false, cond, List, [], ◌∷◌, ◌++◌, length, get_or}
use Rattle.std.proofs.Common.{set, count_by, refl, sym, ap, ◌∙◌, subst, inl, inr, arith}
use Rattle.std.proofs.lemmas.List.{get_or-set_same, get_or-set_other, get_or_past, length-set, length-append}
use Rattle.std.proofs.lemmas.List.Sums.{sum_by_push, sum_by-set, count_by-le-length, get_or-le-sum_by}
use Rattle.std.proofs.lemmas.Bool.{cases_eq, cases_lt, cases_Bool, eq-eqb, ne_eqb, false≢true}
use Rattle.rtgs_gridlock.specs.Listed.{IsListed, on_count}

-- 1 where a flag is set, else 0
abbrev pub one_if : Bool → ℕ
one_if b = cond b 1 0

-- how often an index stands in a list
abbrev pub times : ℕ → List ℕ → ℕ
times p xs = count_by (λ index. index == p) xs

pub times_push_same : (p : ℕ) (xs : List ℕ) → times p (xs ++ p ∷ []) ≡ times p xs + 1
times_push_same p xs = sum_by_push (λ x. cond (x == p) 1 0) xs p
    ∙ ap (λ (b : Bool). times p xs + cond b 1 0) (eq-eqb p p refl)

pub times_push_other : (p x : ℕ) (xs : List ℕ) → (x ≡ p → ⊥) → times p (xs ++ x ∷ []) ≡ times p xs
times_push_other p x xs ne =
    let e = sum_by_push (λ x. cond (x == p) 1 0) xs x ∙ ap (λ (b : Bool). times p xs + cond b 1 0) (ne_eqb x p ne) in
    omega (arith, e)

-- to set a flag that is not set makes one more
pub on_count-set : (flags : List Bool) (i : ℕ) → i < length flags → get_or flags i false ≡ false
    → on_count (set flags i true) ≡ on_count flags + 1
on_count-set flags i within off =
    let e = sum_by-set one_if flags i true false within in
    let z : one_if (get_or flags i false) ≡ 0 = ap one_if off in
    omega (arith, e, z)

-- to clear a flag that is set makes one fewer
pub on_count-clear : (flags : List Bool) (i : ℕ) → i < length flags → get_or flags i false ≡ true
    → on_count (set flags i false) + 1 ≡ on_count flags
on_count-clear flags i within on =
    let e = sum_by-set one_if flags i false false within in
    let z : one_if (get_or flags i false) ≡ 1 = ap one_if on in
    omega (arith, e, z)

-- to set a flag makes at most one more
pub on_count-set-le : (flags : List Bool) (i : ℕ) → i < length flags → on_count (set flags i true) ≤ on_count flags + 1
on_count-set-le flags i within =
    omega (arith, sum_by-set one_if flags i true false within)

-- with no flag set, each is clear
pub none_is_on : (flags : List Bool) → on_count flags ≡ 0 → (p : ℕ) → get_or flags p false ≡ false
none_is_on flags none p =
    elim (cases_Bool (get_or flags p false)) [
      | inl on ↦
          elim (cases_lt p (length flags)) [
            | inl within ↦
                let e = get_or-le-sum_by one_if flags p false within in
                let z : one_if (get_or flags p false) ≡ 1 = ap one_if on in
                absurd (omega (arith, e, z, none))
            | inr past ↦ get_or_past flags p false past
          ]
      | inr off ↦ off
    ]

pub room_for_one : (stack : List ℕ) (flags : List Bool) (i : ℕ) → IsListed stack flags → i < length flags
    → get_or flags i false ≡ false → length stack < length flags
room_for_one stack flags i is within off =
    omega (
      arith,
      is.counted,
      on_count-set flags i within off,
      count_by-le-length (λ flag. flag) (set flags i true),
      length-set flags i true,
    )

-- what comes off the stack was on
pub popped_is_on : (rest : List ℕ) (flags : List Bool) (i : ℕ) → IsListed (rest ++ i ∷ []) flags
    → get_or flags i false ≡ true
popped_is_on rest flags i is =
    elim (cases_Bool (get_or flags i false)) [
      | inl on ↦ on
      | inr off ↦
          let none : times i (rest ++ i ∷ []) ≡ 0 = is.listed i ∙ ap one_if off in
          absurd (omega (arith, none, times_push_same i rest))
    ]

pub popped_is_within : (rest : List ℕ) (flags : List Bool) (i : ℕ) → IsListed (rest ++ i ∷ []) flags → i < length flags
popped_is_within rest flags i is =
    elim (cases_lt i (length flags)) [
      | inl within ↦ within
      | inr past ↦ absurd (false≢true (sym (get_or_past flags i false past) ∙ popped_is_on rest flags i is))
    ]

pub IsListed-pop : (rest : List ℕ) (flags : List Bool) (i : ℕ) → IsListed (rest ++ i ∷ []) flags
    → IsListed rest (set flags i false)
IsListed-pop rest flags i is = record {
  counted = omega (arith, is.counted, on_count-clear flags i within on, length-append {A = ℕ} rest (i ∷ []));
  listed = each;
}
  where
    on : get_or flags i false ≡ true
    on = popped_is_on rest flags i is

    within : i < length flags
    within = popped_is_within rest flags i is

    each : (p : ℕ) → times p rest ≡ one_if (get_or (set flags i false) p false)
    each p =
        elim (cases_eq i p) [
          | inl e ↦ subst (λ (q : ℕ). times q rest ≡ one_if (get_or (set flags i false) q false)) e at_i
          | inr ne ↦ off_i p ne
        ]
      where
        at_i : times i rest ≡ one_if (get_or (set flags i false) i false)
        at_i =
            let clear : one_if (get_or (set flags i false) i false)
            ≡ 0 = ap one_if (get_or-set_same flags i false false within) in
            let was : times i (rest ++ i ∷ []) ≡ 1 = is.listed i ∙ ap one_if on in
            omega (arith, times_push_same i rest, clear, was)

        off_i : (q : ℕ) → (i ≡ q → ⊥) → times q rest ≡ one_if (get_or (set flags i false) q false)
        off_i q ne =
            let same : one_if (get_or (set flags i false) q false)
            ≡ one_if (get_or flags q false) = ap one_if (get_or-set_other flags i q false false (λ e. ne (sym e)))
            in
            omega (arith, times_push_other q i rest ne, same, is.listed q)

-- one more of the first indexes is on
pub filled_more : (before after : List Bool) (i : ℕ) → i < length before → after ≡ set before i true
    → ((p : ℕ) → p < i → get_or before p false ≡ true) → ((p : ℕ) → get_or before p false ≡ true → p < i)
    → on_count before ≤ i → (length after ≡ length before) × ((p : ℕ) → p < i + 1 → get_or after p false ≡ true)
    × ((p : ℕ) → get_or after p false ≡ true → p < i + 1) × (on_count after ≤ i + 1)
filled_more before after i within e all only few =
    subst (λ (xs : List Bool). (length xs ≡ length before) × ((p : ℕ) → p < i + 1 → get_or xs p false ≡ true)
    × ((p : ℕ) → get_or xs p false ≡ true → p < i + 1) × (on_count xs ≤ i + 1)) (sym e)
    (length-set before i true, each, back, omega (arith, few, on_count-set-le before i within))
  where
    each : (p : ℕ) → p < i + 1 → get_or (set before i true) p false ≡ true
    each p b =
        elim (cases_eq p i) [
          | inl at ↦ subst (λ (q : ℕ). get_or (set before i true) q false ≡ true) (sym at)
              (get_or-set_same before i true false within)
          | inr ne ↦ get_or-set_other before i p true false ne ∙ all p (omega arith)
        ]

    back : (p : ℕ) → get_or (set before i true) p false ≡ true → p < i + 1
    back p on =
        elim (cases_eq p i) [
          | inl at ↦ omega arith
          | inr ne ↦ let was = only p (sym (get_or-set_other before i p true false ne) ∙ on) in omega (arith, was)
        ]

-- two more indexes are at most two more
pub on_count-two : (steps : ℕ) (flags one two : List Bool) (s r : ℕ) → s < length flags → r < length flags
    → one ≡ set flags s true → two ≡ set one r true → steps + on_count two ≤ steps + on_count flags + 2
on_count-two steps flags one two s r a b d e =
    let first = on_count-set-le flags s a in
    let second = on_count-set-le one r (omega (arith, b, ap length d, length-set flags s true)) in
    omega (arith, first, second, ap on_count d, ap on_count e)
