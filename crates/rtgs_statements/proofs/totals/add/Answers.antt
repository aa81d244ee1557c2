use Rattle.std.proofs.Common.{arith}
use Rattle.std.proofs.lemmas.Int.{ints}
use Rattle.rtgs_statements.proofs.Terms.{added}
use Rattle.rtgs_statements.proofs.totals.add.Goals as goal

pub returns : goal.returns
returns c =
    let small = c.requires.totals c.args.code in
    let low = small.0 in let high = small.1 in
    let by_low = c.requires.cents.0 in let by_high = c.requires.cents.1 in
    added c.args.totals.now c.insert.new.self c.args.code c.args.cents _ (omega (arith, ints))
    c.in_ok-insert.ensures.updates.0
