-- The parts of a business date, and its weekday as jiff has it.
use Rattle.std.proofs.Common.{◌≡◌, ◌≤◌, ◌<◌, ◌^◌, get_or, ℕ, ℤ, ◌/◌, ◌%◌, pos, true, false, nat_le, ◌⊎◌, ⊎_elim, refl}
use Rattle.std.proofs.Common.{sym, ap, ◌∙◌, arith}
use Rattle.std.proofs.lemmas.Bool.Decides.{nat_tests}
use Rattle.jiff_core.specs.Calendar.{days_in_month}
use Rattle.jiff_core.specs.Date.{weekday_of}
use Rattle.jiff_core.specs.Weekday.{monday_zero}
use Rattle.jiff_core.specs.declared.civil.weekday.Weekday.{Weekday}
use Rattle.jiff_core.specs.declared.civil.weekday.Weekday.TheVariants.{Monday, Tuesday, Wednesday, Thursday, Friday}
use Rattle.jiff_core.specs.declared.civil.weekday.Weekday.TheVariants.{Saturday, Sunday}
use Rattle.jiff_core.specs.declared.civil.date.Date.{Date}
use Rattle.rtgs_money.specs.Date.{date_text, is_weekend}

pub short-month : (year : ℤ) (month : ℕ) → days_in_month year month ≤ 31
short-month year month = grind (arith, nat_tests)

pub is_weekend-civil : (n : ℕ) (date : Date) → date.year ≡ pos (n / 10000) → date.month ≡ n / 100 % 100
    → date.day ≡ n % 100 → is_weekend n ≡ nat_le 5 (weekday_of date)
unfolding is_weekend
is_weekend-civil n date y m d = rw (y, m, d) refl

pub is_weekend-weekday : (n : ℕ) (date : Date) (w : Weekday) → date.year ≡ pos (n / 10000) → date.month ≡ n / 100 % 100
    → date.day ≡ n % 100 → monday_zero w ≡ weekday_of date → is_weekend n ≡ nat_le 5 (monday_zero w)
is_weekend-weekday n date w y m d is = is_weekend-civil n date y m d ∙ ap (λ k. nat_le 5 k) (sym is)

pub late_in_week : (w : Weekday) → (w ≡ Saturday) ⊎ (w ≡ Sunday) → nat_le 5 (monday_zero w) ≡ true
late_in_week w h = ⊎_elim (λ e. ap (λ v. nat_le 5 (monday_zero v)) e) (λ e. ap (λ v. nat_le 5 (monday_zero v)) e) h

pub early_in_week : (w : Weekday) → (w ≡ Saturday → ⊥) → (w ≡ Sunday → ⊥) → nat_le 5 (monday_zero w) ≡ false
early_in_week Monday a b = refl
early_in_week Tuesday a b = refl
early_in_week Wednesday a b = refl
early_in_week Thursday a b = refl
early_in_week Friday a b = refl
early_in_week Saturday a b = absurd (a refl)
early_in_week Sunday a b = absurd (b refl)

-- a date's text tells the date
pub date_text-injective : (a b : ℕ) → a < 10 ^ 8 → b < 10 ^ 8 → date_text a ≡ date_text b → a ≡ b
unfolding date_text
date_text-injective a b low high same =
    omega (
      arith,
      ap (λ t. get_or t 0 0) same,
      ap (λ t. get_or t 1 0) same,
      ap (λ t. get_or t 2 0) same,
      ap
          (λ t. get_or t 3 0) same,
      ap (λ t. get_or t 5 0) same,
      ap (λ t. get_or t 6 0) same,
      ap (λ t. get_or t 8 0) same,
      ap (λ t. get_or t 9 0) same,
    )
