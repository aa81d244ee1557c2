-- Orders and their due dates, which are put together.
use Rattle.std.proofs.Common.{◌≡◌, ◌≢◌, inl, inr, ℕ, ◌+◌, ◌<◌, ◌≤◌, pos, true, false, List, [], ◌∷◌, ◌++◌, map, take}
use Rattle.std.proofs.Common.{drop, length, get_or, Option, Some, None, append-nil, refl, sym, ap, ap₂, subst, subst₂}
use Rattle.std.proofs.Common.{◌∙◌, take_all, arith}
use Rattle.std.proofs.Math.ListN.{set}
use Rattle.std.proofs.lemmas.List.{take_more_set, drop-set-lt, drop_more, drop_all, append_assoc}
use Rattle.std.proofs.lemmas.Grind.{drop_more_same}
use Rattle.std.proofs.lemmas.Cmp.{int_cmp_total, tied_itself}
use Rattle.std.specs.List.{AllByRecursion}
use Rattle.std.specs.Ordering.{int_cmp}
use Rattle.std.specs.declared.cmp.Ordering.{Ordering}
use Rattle.std.specs.declared.cmp.Ordering.TheVariants.{Less, Equal}
use Rattle.rtgs_book.specs.declared.order.Order.{Order}
use Rattle.rtgs_book.specs.Books.{is_held}
use Rattle.rtgs_rows.specs.Content.{Rise}
use Rattle.rtgs_rows.specs.Dues.{without_due, forward_for, forwards_of, IsHeldByDue}
use Rattle.rtgs_rows.specs.Fitting.{FitsDate, FitsUndated, FitsOrder, FitsForward}
use Rattle.rtgs_rows.specs.declared.forward.Forward.{Forward}
use Rattle.rtgs_sql_loading.specs.Joining.{IsNotNext, Takes, TakesNone, AreJoined}

-- ---- there is one way to do so

takes_once : (undated : Order) (forwards : List Forward) (o p : Order) (left more : List Forward)
    → Takes undated forwards o left → Takes undated forwards p more → (o ≡ p) × (left ≡ more)
takes_once undated forwards o p left more (inl (one, is, same)) (inl (other, are, alike)) =
    let both : ◌≡◌ {A = List Forward} (record { number = undated.number; due = one } ∷ left)
    (record { number = undated.number; due = other } ∷ more) = sym is ∙ are in
    let head : ◌≡◌ {A = Forward} (record { number = undated.number; due = one })
    (record { number = undated.number; due = other }) = cc in
    let due : one ≡ other = ap (λ (f : Forward). f.due) head in
    let rest : left ≡ more = cc in
    (same ∙ ap (λ (d : ℕ). record undated { due = Some d }) due ∙ sym alike, rest)
takes_once undated forwards o p left more (inl (one, is, same)) (inr (plain, apart, stays, alike)) =
    absurd (subst (IsNotNext undated.number) is apart refl)
takes_once undated forwards o p left more (inr (plain, apart, stays, alike)) (inl (one, is, same)) =
    absurd (subst (IsNotNext undated.number) is apart refl)
takes_once undated forwards o p left more (inr (plain, apart, stays, alike)) (inr (_, _, stay, same)) =
    (alike ∙ sym same, stays ∙ sym stay)

pub joined_once : (undated_orders : List Order) (forwards : List Forward) (one other : List Order)
    → AreJoined undated_orders forwards one → AreJoined undated_orders forwards other → one ≡ other
joined_once [] forwards one other x y = x.1 ∙ sym y.1
joined_once (p ∷ undated_orders) forwards [] other x y = absurd x
joined_once (p ∷ undated_orders) forwards (o ∷ one) [] x y = absurd y
joined_once (p ∷ undated_orders) forwards (o ∷ one) (q ∷ other) x y =
    let same = takes_once p forwards o q x.0 y.0 x.1 y.1 in
    ap₂ ◌∷◌ same.0
    (joined_once undated_orders y.0 one other (subst (λ left. AreJoined undated_orders left one) same.1 x.2) y.2)

-- what is joined once more comes of what was joined
pub joined_before : (undated : Order) (undated_orders : List Order) (before : List Forward) (order : Order)
    (after : List Forward) (all : List Order) → Takes undated before order after
    → AreJoined (undated ∷ undated_orders) before all → (rest : List Order) × AreJoined undated_orders after rest
joined_before undated undated_orders before order after [] takes joined = absurd joined
joined_before undated undated_orders before order after (o ∷ rest) takes joined = (
  rest,
  subst (λ left. AreJoined undated_orders left rest)
      (takes_once undated before o order joined.0 after joined.1 takes).1 joined.2,
)

pub none_taken : (undated : Order) (undated_orders : List Order) (before : List Forward) (all : List Order)
    → TakesNone undated before → AreJoined (undated ∷ undated_orders) before all → ⊥
none_taken undated undated_orders before [] none joined = joined
none_taken undated undated_orders before (o ∷ rest) none joined = wrong joined.1
  where
    wrong : Takes undated before o joined.0 → ⊥
    wrong (inl (due, is, same)) = subst (IsNotNext undated.number) is none.1 refl
    wrong (inr (plain, apart, stays, same)) =
        let clash : ◌≡◌ true false = sym none.0 ∙ plain in absurd cc

-- ---- what is joined was taken apart

pub taken_apart : (undated_orders : List Order) (forwards : List Forward) (orders : List Order)
    → AreJoined undated_orders forwards orders → AllByRecursion (λ (p : Order). p.due ≡ None) undated_orders
    → (map without_due orders ≡ undated_orders) × (forwards_of orders ≡ forwards)
taken_apart [] forwards orders joined plain =
    (ap (map without_due) joined.1, ap forwards_of joined.1 ∙ sym joined.0)
taken_apart (p ∷ undated_orders) forwards [] joined plain = absurd joined
taken_apart (p ∷ undated_orders) forwards (o ∷ orders) joined plain =
    by joined.1 (taken_apart undated_orders joined.0 orders joined.2 plain.1)
  where
    none : without_due p ≡ p
    none = λ i. record p { due = sym plain.0 i }

    by : Takes p forwards o joined.0 → (map without_due orders ≡ undated_orders) × (forwards_of orders ≡ joined.0)
        → (map without_due (o ∷ orders) ≡ p ∷ undated_orders) × (forwards_of (o ∷ orders) ≡ forwards)
    by (inl (due, is, same)) rest = (
      ap₂ ◌∷◌ (ap without_due same ∙ none) rest.0,
      (λ i. forward_for (same i).number (same i).due ++ rest.1 i) ∙ sym is,
    )
    by (inr (free, apart, stays, same)) rest = (
      ap₂ ◌∷◌ (ap without_due same ∙ none) rest.0,
      (λ i. forward_for (same i).number (same i).due ++ rest.1 i)
          ∙ ap (λ (due : Option ℕ). forward_for p.number due ++ joined.0) plain.0 ∙ stays,
    )

-- and its values are in their forms
pub joined_fit : (undated_orders : List Order) (forwards : List Forward) (orders : List Order)
    → AreJoined undated_orders forwards orders
    → AllByRecursion (λ (p : Order). FitsUndated p × (p.due ≡ None)) undated_orders
    → AllByRecursion FitsForward forwards
    → AllByRecursion FitsOrder orders
joined_fit [] forwards orders joined plain dated = subst (AllByRecursion FitsOrder) (sym joined.1) tt
joined_fit (p ∷ undated_orders) forwards [] joined plain dated = absurd joined
joined_fit (p ∷ undated_orders) forwards (o ∷ orders) joined plain dated =
    by joined.1 (joined_fit undated_orders joined.0 orders joined.2 plain.1)
  where
    by : Takes p forwards o joined.0 → (AllByRecursion FitsForward joined.0 → AllByRecursion FitsOrder orders)
        → AllByRecursion FitsOrder (o ∷ orders)
    by (inl (due, is, same)) more =
        let it = plain.0.0 in
        let dates = subst (AllByRecursion FitsForward) is dated in (
          subst FitsOrder (sym same) (record {
            undated = record {
              sender = it.sender;
              reference = it.reference;
              receiver = it.receiver;
              amount = it.amount;
              date = it.date;
            };
            due = dates.0.due;
          }),
          more dates.1,
        )
    by (inr (free, apart, stays, same)) more = (
      subst FitsOrder (sym same) (record { undated = plain.0.0; due = subst FitsDate (sym plain.0.1) tt }),
      more (subst (AllByRecursion FitsForward) (sym stays) dated),
    )

-- and none of them is held without a due date
pub joined_held : (undated_orders : List Order) (forwards : List Forward) (orders : List Order)
    → AreJoined undated_orders forwards orders → AllByRecursion IsHeldByDue orders
joined_held [] forwards orders joined = subst (AllByRecursion IsHeldByDue) (sym joined.1) tt
joined_held (p ∷ undated_orders) forwards [] joined = absurd joined
joined_held (p ∷ undated_orders) forwards (o ∷ orders) joined =
    (by joined.1, joined_held undated_orders joined.0 orders joined.2)
  where
    by : Takes p forwards o joined.0 → IsHeldByDue o
    by (inl (due, is, same)) none =
        let clash : ◌≡◌ {A = Option ℕ} (Some due) None = sym (ap (λ (it : Order). it.due) same) ∙ none in absurd cc
    by (inr (free, apart, stays, same)) none = ap is_held same ∙ free

-- ---- orders in the order of their numbers are joined

not_next : (number : ℕ) (os : List Order)
    → AllByRecursion (λ (o : Order). int_cmp (pos number) (pos o.number) ≡ Less) os → IsNotNext number (forwards_of os)
not_next number [] above = tt
not_next number (o ∷ os) above = by o.due (not_next number os above.1)
  where
    by : (due : Option ℕ) → IsNotNext number (forwards_of os)
        → IsNotNext number (forward_for o.number due ++ forwards_of os)
    by None rest = rest
    by (Some due) rest = λ same.
        let low : int_cmp (pos number) (pos number) ≡ Less =
        subst (λ n. int_cmp (pos number) (pos n) ≡ Less) same above.0 in
        let clash : ◌≡◌ {A = Ordering} Less Equal = sym low ∙ tied_itself int_cmp_total (pos number) in absurd cc

pub orders_joined : (os : List Order) → Rise (λ (o : Order). pos o.number) os → AllByRecursion IsHeldByDue os
    → AreJoined (map without_due os) (forwards_of os) os
orders_joined [] rise held = (refl, refl)
orders_joined (o ∷ os) rise held = (forwards_of os, by o.due refl, orders_joined os rise.1 held.1)
  where
    by : (due : Option ℕ) → o.due ≡ due → Takes (without_due o) (forwards_of (o ∷ os)) o (forwards_of os)
    by None none = inr (
      held.0 none,
      subst (λ (due : Option ℕ). IsNotNext o.number (forward_for o.number due ++ forwards_of os)) (sym none)
          (not_next o.number os rise.0),
      ap (λ (due : Option ℕ). forward_for o.number due ++ forwards_of os) (sym none),
      λ i. record o { due = none i },
    )
    by (Some due) some = inl (
      due,
      ap (λ (d : Option ℕ). forward_for o.number d ++ forwards_of os) some,
      λ i. record o { due = some i },
    )

-- ---- one after another

joined_after : (undated : Order) (before : List Forward) (order : Order) (after : List Forward)
    → Takes undated before order after → (undated_orders rest : List Order) → AreJoined undated_orders after rest
    → AreJoined (undated ∷ undated_orders) before (order ∷ rest)
joined_after undated before order after takes undated_orders rest joined = (after, takes, joined)

-- the first N orders have their due dates, of which those up to this place are taken
pub record Halfway (undated_orders : List Order) (forwards : List Forward) (i place : ℕ) (orders : List Order)
    : Type 0 where
  pub within : place ≤ length forwards
  pub left : drop i orders ≡ drop i undated_orders
  pub on : (rest : List Order) → AreJoined (drop i undated_orders) (drop place forwards) rest
      → AreJoined undated_orders forwards (take i orders ++ rest)
  pub back : (all : List Order) → AreJoined undated_orders forwards all
      → (rest : List Order) × AreJoined (drop i undated_orders) (drop place forwards) rest

pub begun : (undated_orders : List Order) (forwards : List Forward) → Halfway undated_orders forwards 0 0 undated_orders
begun undated_orders forwards = record {
  within = omega arith;
  left = refl;
  on = λ rest joined. joined;
  back = λ all joined. (all, joined);
}

module _ (undated_orders : List Order) (forwards : List Forward) (i place : ℕ) (orders : List Order)
    (half : Halfway undated_orders forwards i place orders) (undated : Order) (low : i < length orders)
    (is : undated ≡ get_or orders i undated) where
  split : drop i undated_orders ≡ undated ∷ drop (i + 1) undated_orders
  split = sym half.left ∙ drop_more orders i undated low ∙ ap (λ (p : Order). p ∷ drop (i + 1) orders) (sym is)
      ∙ ap (λ (rest : List Order). undated ∷ rest) (drop_more_same orders undated_orders i half.left)

  pub one_more : (order : Order) (next : ℕ) → next ≤ length forwards
      → Takes undated (drop place forwards) order (drop next forwards) → (changed : List Order)
      → changed ≡ set orders i order → Halfway undated_orders forwards (i + 1) next changed
  one_more order next within takes changed now = record {
    within = within;
    left = ap (drop (i + 1)) now ∙ drop-set-lt (i + 1) orders i order (omega arith)
        ∙ drop_more_same orders undated_orders i half.left;
    on = λ rest joined.
        let more : AreJoined (drop i undated_orders) (drop place forwards) (order ∷ rest) =
        subst (λ (ps : List Order). AreJoined ps (drop place forwards) (order ∷ rest)) (sym split)
        (joined_after undated (drop place forwards) order (drop next forwards) takes (drop (i + 1) undated_orders) rest
        joined) in
        subst (AreJoined undated_orders forwards) (sym (ap (λ (os : List Order). take (i + 1) os ++ rest) now
        ∙ ap (λ (os : List Order). os ++ rest) (take_more_set orders i order low)
        ∙ append_assoc (take i orders) (order ∷ []) rest)) (half.on (order ∷ rest) more);
    back = λ all joined.
        let before = half.back all joined in
        joined_before undated (drop (i + 1) undated_orders) (drop place forwards) order (drop next forwards) before.0
        takes
        (subst (λ (ps : List Order). AreJoined ps (drop place forwards) before.0) split before.1);
  }

  pub lacking : TakesNone undated (drop place forwards) → (all : List Order) → ¬ AreJoined undated_orders forwards all
  lacking none all joined =
      let before = half.back all joined in
      none_taken undated (drop (i + 1) undated_orders) (drop place forwards) before.0 none
      (subst (λ (ps : List Order). AreJoined ps (drop place forwards) before.0) split before.1)

module _ (undated_orders : List Order) (forwards : List Forward) (i place : ℕ) (orders : List Order)
    (half : Halfway undated_orders forwards i place orders) (end : length orders ≤ i) where
  none_left : drop i undated_orders ≡ []
  none_left = sym half.left ∙ drop_all i orders end

  pub all_joined : place ≡ length forwards → AreJoined undated_orders forwards orders
  all_joined last =
      let taken : drop place forwards ≡ [] = drop_all place forwards (omega (arith, last)) in
      let rest : AreJoined (drop i undated_orders) (drop place forwards) [] =
      subst₂ (λ (ps : List Order) (fs : List Forward). AreJoined ps fs []) (sym none_left) (sym taken) (refl, refl) in
      subst (AreJoined undated_orders forwards) (append-nil (take i orders) ∙ take_all i orders end) (half.on [] rest)

  pub left_over : place ≢ length forwards → (all : List Order) → ¬ AreJoined undated_orders forwards all
  left_over other all joined =
      let rest = half.back all joined in
      let ended : AreJoined [] (drop place forwards) rest.0 =
      subst (λ (ps : List Order). AreJoined ps (drop place forwards) rest.0) none_left rest.1 in
      let within = half.within in
      some place forwards (omega (arith, other, within)) ended.0
    where
      some : (n : ℕ) (fs : List Forward) → n < length fs → drop n fs ≡ [] → ⊥
      some n [] low none = absurd (omega (arith, low))
      some n (f ∷ fs) low none =
          let more : ◌≡◌ {A = List Forward} (get_or (f ∷ fs) n f ∷ drop (n + 1) (f ∷ fs)) [] =
          sym (drop_more (f ∷ fs) n f low) ∙ none in
          absurd cc
