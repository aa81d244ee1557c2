-- Business dates by their number YYYYMMDD, which rises from day to day.
use Rattle.std.specs.Prelude.{ℕ, ◌/◌, ◌%◌, ◌≤◌, pos, Bool, nat_le, List, ◌∷◌, ◌++◌}
use Rattle.jiff_core.specs.Calendar.{days_in_month, days_from_civil, weekday_number}
use Rattle.rtgs_money.specs.declared.date.TheConstants.BusinessDate as business
use Rattle.rtgs_money.specs.Digits.{digits}

-- the calendar has this day, in the years that the desk serves
pub record IsBusinessDay (year month day : ℕ) : Type 0 where
  pub from_year : business.FIRST_YEAR ≤ year
  pub to_year : year ≤ business.LAST_YEAR
  pub from_month : 1 ≤ month
  pub to_month : month ≤ 12
  pub from_day : 1 ≤ day
  pub to_day : day ≤ days_in_month (pos year) month

-- the number is that of such a day
abbrev pub IsBusinessDate : ℕ → Type 0
IsBusinessDate date = IsBusinessDay (date / 10000) (date / 100 % 100) (date % 100)

-- Monday is 0 and Sunday 6
abbrev pub weekday : ℕ → ℕ
weekday date = weekday_number (days_from_civil (pos (date / 10000)) (date / 100 % 100) (date % 100))

-- Saturday or Sunday
unfoldable pub is_weekend : ℕ → Bool
is_weekend date = nat_le 5 (weekday date)

-- YYYY-MM-DD
unfoldable pub date_text : ℕ → List ℕ
date_text date = digits 4 (date / 10000) ++ 45 ∷ digits 2 (date / 100 % 100) ++ 45 ∷ digits 2 (date % 100)
