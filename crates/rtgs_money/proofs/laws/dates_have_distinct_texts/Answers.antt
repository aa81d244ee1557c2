use Rattle.std.proofs.Common.{arith, ◌≤◌, ◌/◌}
use Rattle.rtgs_money.proofs.Dates.{date_text-injective}
use Rattle.rtgs_money.proofs.laws.dates_have_distinct_texts.Goals as goal

pub returns : goal.returns
returns c one other x y same =
    let low : one / 10000 ≤ 2999 = x.to_year in
    let high : other / 10000 ≤ 2999 = y.to_year in
    date_text-injective one other (omega (arith, low)) (omega (arith, high)) same
