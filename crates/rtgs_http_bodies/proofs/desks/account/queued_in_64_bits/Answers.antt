use Rattle.std.proofs.Common.{◌≡◌, ◌∙◌, sym, subst, arith, rules}
use Rattle.std.specs.Int.{w64, w128}
use Rattle.std.specs.Prelude.{FitsSigned}
use Rattle.std.proofs.lemmas.Int.{ints, to_z-of_z}
use Rattle.rtgs_http_bodies.proofs.desks.account.queued_in_64_bits.Goals as goal

pub returns : goal.returns
returns c fits =
    let cents : c.cents.result ≡ c.args.reading.now.queued_value = search rules in
    let small : FitsSigned w64 c.cents.result = subst (FitsSigned w64) (sym cents) fits in
    let passed = to_z-of_z w128 c.cents.result (omega (arith, ints, small)) in
    let same = c.in_64_bits.ensures (subst (FitsSigned w64) (sym passed) small) ∙ passed ∙ cents in
    to_z-of_z w64 c.in_64_bits.result (subst (FitsSigned w64) (sym same) fits) ∙ same
