-- No order is settled under a mark that is dated before its due date.
use Rattle.std.proofs.Common.{◌≡◌, inl, inr, ℕ, ◌+◌, ◌≤◌, ◌==◌, Bool, true, false, ◌&&◌, List, [], ◌∷◌, map}
use Rattle.std.proofs.Common.{length, Option, Some, None, refl, sym, ap, ◌∙◌, subst, true≢false, eqb-true, arith}
use Rattle.std.proofs.lemmas.Bool.{cases_Bool, and_parts}
use Rattle.std.proofs.lemmas.Bool.Decides.{nat_tests}
use Rattle.std.proofs.lemmas.List.{length-map}
use Rattle.std.specs.List.{AllByRecursion, list_any, range_with_len}
use Rattle.rtgs_book.specs.Books.{Book, Order, OrderState, Mark, Queued, Held, Settled, Withdrawn, Rejected}
use Rattle.rtgs_book.specs.Laws.{SettlesInTime, NothingSettlesEarly}
use Rattle.rtgs_book.specs.Procedure.{Has}
use Rattle.rtgs_book.specs.Settle.{today}
use Rattle.rtgs_book.specs.Soundness.{HasMark, FitsDue, IsSound, is_state_under}
use Rattle.rtgs_lists.proofs.Lists.{all_both}
use Rattle.rtgs_lists.proofs.Numbers.{not_below}

abbrev is_dated : ℕ → ℕ → Mark → Bool
is_dated number date m = (m.number == number) && (m.date == date)

-- none of these marks has so low a number
none_dated : (number date : ℕ) (marks : List Mark) → AllByRecursion (λ (m : Mark). number + 1 ≤ m.number) marks
    → list_any (is_dated number date) marks ≡ false
none_dated number date [] above = refl
none_dated number date (m ∷ marks) above =
    let other : (m.number == number) ≡ false = (let low = above.0 in grind (arith, nat_tests)) in
    rw (other, none_dated number date marks above.1) refl

all_has : {X : Type 0} (P : X → Type 0) (xs : List X) (x : X) → AllByRecursion P xs → Has xs x → P x
all_has P [] x all there = absurd there
all_has P (y ∷ ys) x all (inl same) = subst P same all.0
all_has P (y ∷ ys) x all (inr later) = all_has P ys x all.1 later

-- the mark with a number has the date that one of the marks with this number has
dated : (number date first : ℕ) (marks : List Mark)
    → map (λ (m : Mark). m.number) marks ≡ range_with_len first (length marks)
    → list_any (is_dated number date) marks ≡ true → (mark : Mark) → Has marks mark → mark.number ≡ number
    → mark.date ≡ date
dated number date first [] is any mark there same = absurd there
dated number date first (m ∷ marks) is any mark there same =
    let head : m.number ≡ first = cc in
    let rest : map (λ (m : Mark). m.number) marks ≡ range_with_len (first + 1) (length marks) = cc in
    let above = not_below (λ (m : Mark). m.number) (first + 1) marks rest in
    elim (cases_Bool (is_dated number date m)) [
      | inl here ↦
          let both = and_parts (m.number == number) (m.date == date) here in
          let number_is : m.number ≡ number = eqb-true m.number number both.0 in
          let date_is : m.date ≡ date = eqb-true m.date date both.1 in
          by_here number_is date_is head above there
      | inr other ↦
          let later : list_any (is_dated number date) marks ≡ true = rw other at any in
          by_later (dated number date (first + 1) marks rest later mark) head above later there
    ]
  where
    by_here : m.number ≡ number → m.date ≡ date → m.number ≡ first
        → AllByRecursion (λ (x : Mark). first + 1 ≤ x.number) marks → Has (m ∷ marks) mark → mark.date ≡ date
    by_here number_is date_is head above (inl same_mark) = subst (λ (x : Mark). x.date ≡ date) same_mark date_is
    by_here number_is date_is head above (inr in_rest) =
        let low = all_has (λ (x : Mark). first + 1 ≤ x.number) marks mark above in_rest in
        absurd (omega (arith, low, head, number_is, same))

    by_later : (Has marks mark → mark.number ≡ number → mark.date ≡ date) → m.number ≡ first
        → AllByRecursion (λ (x : Mark). first + 1 ≤ x.number) marks → list_any (is_dated number date) marks ≡ true
        → Has (m ∷ marks) mark → mark.date ≡ date
    by_later again head above later (inl same_mark) =
        let low : m.number ≡ number = ap (λ (x : Mark). x.number) same_mark ∙ same in
        let none = none_dated number date marks
        (subst (λ n. AllByRecursion (λ (x : Mark). n + 1 ≤ x.number) marks) (sym head ∙ low) above) in
        absurd (true≢false (sym later ∙ none))
    by_later again head above later (inr in_rest) = again in_rest same

in_time : (today : ℕ) (marks : List Mark) → map (λ (m : Mark). m.number) marks ≡ range_with_len 1 (length marks)
    → (o : Order) → HasMark marks o.date o.state → FitsDue today o.due o.date o.state → SettlesInTime marks o
in_time today marks numbered o has fits due mark is there under = by o.state o.due has fits is under
  where
    by : (state : OrderState) (named : Option ℕ) → HasMark marks o.date state → FitsDue today named o.date state
        → named ≡ Some due → is_state_under mark.number state ≡ true → due ≤ mark.date
    by (Settled number) None has fits is under = absurd cc
    by (Settled number) (Some other) has fits is under =
        let same : other ≡ due = cc in
        let date = dated number o.date 1 marks numbered has mark there (sym (eqb-true number mark.number under)) in
        let early = fits.1 in
        omega (arith, same, date, early)
    by Queued named has fits is under = absurd (true≢false (sym under))
    by Held named has fits is under = absurd (true≢false (sym under))
    by Withdrawn named has fits is under = absurd (true≢false (sym under))
    by Rejected named has fits is under = absurd (true≢false (sym under))

pub nothing_early : (book : Book) → IsSound book → NothingSettlesEarly book
nothing_early book h =
    let numbered = h.marks_numbered.0
    ∙ ap (range_with_len 1) (length-map book.marks (λ (m : Mark). m.number)) in
    all_both (λ (o : Order). HasMark book.marks o.date o.state)
    (λ (o : Order). FitsDue (today book) o.due o.date o.state) (SettlesInTime book.marks)
    (in_time (today book) book.marks numbered) book.orders h.marks.0 h.dates.dues
