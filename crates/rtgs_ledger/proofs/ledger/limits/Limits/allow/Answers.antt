use Rattle.std.proofs.Common.{◌≡◌, ℤ, pos, ◌<ℤ◌, IfSome, subst, to_z, of_z, arith}
use Rattle.std.specs.Int.{w128}
use Rattle.std.proofs.lemmas.Int.{ints}
use Rattle.rtgs_ledger.proofs.ledger.limits.Limits.allow.Goals as goal

pub returns : goal.returns
returns c = λ below.
    let l = c.args.lowering.now in
    let fits : to_z w128 (of_z w128 c.args.headroom) ≡ c.args.headroom = omega (arith, ints, c.requires) in (
      omega (
        arith,
        ints,
        c.exceeds.ensures below,
        c.with_fall.ensures.value,
        c.with_fall.ensures.low,
        c.with_fall.ensures.high,
      ),
      subst (λ (z : ℤ). IfSome l.begins (λ s. s ≡ c.args.index → z <ℤ pos l.cents)) fits
          (c.lacks_the_first.ensures c.if-not-lacks_the_first.false),
    )
