use Rattle.std.proofs.Common.{◌≡◌, ◌/◌, ◌%◌, pos, sym, ap, ◌∙◌, arith}
use Rattle.std.proofs.lemmas.Int.{ints}
use Rattle.rtgs_money.specs.Date.{is_weekend}
use Rattle.rtgs_money.proofs.Dates.{is_weekend-weekday, late_in_week, early_in_week, short-month}
use Rattle.rtgs_money.proofs.date.BusinessDate.is_weekend.Goals as goal

pub returns-in-Saturday : goal.returns-in-Saturday
returns-in-Saturday c =
    let e = c.date.ensures in
    let short = short-month (pos (c.self.inside.number / 10000)) (c.self.inside.number / 100 % 100) in
    let y : c.date.result.year ≡ pos (c.self.inside.number / 10000) = omega (arith, ints) in
    let m : c.date.result.month ≡ c.self.inside.number / 100 % 100 = omega (arith, ints) in
    let d : c.date.result.day ≡ c.self.inside.number % 100 = omega (arith, ints) in
    sym (ap is_weekend (sym c.self.view_is) ∙ is_weekend-weekday _ c.date.result c.weekday-weekday.result y m d
    c.weekday-weekday.ensures ∙ late_in_week c.weekday-weekday.result c.in-Saturday.is)

pub returns-in_default : goal.returns-in_default
returns-in_default c =
    let e = c.date.ensures in
    let short = short-month (pos (c.self.inside.number / 10000)) (c.self.inside.number / 100 % 100) in
    let y : c.date.result.year ≡ pos (c.self.inside.number / 10000) = omega (arith, ints) in
    let m : c.date.result.month ≡ c.self.inside.number / 100 % 100 = omega (arith, ints) in
    let d : c.date.result.day ≡ c.self.inside.number % 100 = omega (arith, ints) in
    sym (ap is_weekend (sym c.self.view_is) ∙ is_weekend-weekday _ c.date.result c.weekday-weekday.result y m d
    c.weekday-weekday.ensures ∙ early_in_week c.weekday-weekday.result c.in_default.not-Saturday
    c.in_default.not-Sunday)
