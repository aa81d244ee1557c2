use Rattle.std.proofs.Common.{rules, ◌≡◌, pos, ◌∷◌, ◌-ℤ◌, to_z, of_z, w64, Ok, sym, ap, ◌∙◌, arith}
use Rattle.std.proofs.lemmas.Fmt.{signed_decimal_injective}
use Rattle.std.specs.Fmt.{signed_decimal}
use Rattle.rtgs_money.proofs.Debits.{below_zero}
use Rattle.rtgs_money.proofs.posting_amount.PostingAmount.read_debit.Goals.{then-cents-eq0-via-then-cents-eq0}
use Rattle.rtgs_money.proofs.posting_amount.PostingAmount.read_debit.Goals.{then-cents-eq0-via-else-cents-eq0+then-cents-gt-MAX}
use Rattle.rtgs_money.proofs.posting_amount.PostingAmount.read_debit.Goals as goal

pub returns-in_default-clause-found : goal.returns-in_default-clause-found
returns-in_default-clause-found c posting is e =
    let debit = below_zero c.args.bytes.now posting is e in
    let found = c.read_decimal.ensures.found debit.0 (omega (arith, debit.2)) debit.3 in
    absurd (c.in_default.not-Some debit.0 found)

pub returns-then-cents-eq0-clause-found : goal.returns-then-cents-eq0-clause-found
returns-then-cents-eq0-clause-found c posting is e =
    let debit = below_zero c.args.bytes.now posting is e in
    let found = c.read_decimal.ensures.found debit.0 (omega (arith, debit.2)) debit.3 in
    let same : c.in-Some.cents ≡ debit.0 = cc in
    elim c.then-cents-eq0.branch [
      | then-cents-eq0-via-then-cents-eq0 w ↦ absurd (omega (arith, same, debit.1, w.if-cents-eq0))
      | then-cents-eq0-via-else-cents-eq0+then-cents-gt-MAX w ↦ absurd (omega (arith, same, debit.2, w.if-cents-gt-MAX))
    ]

-- what is answered spells the same text
pub returns-clause-found : goal.returns-clause-found
returns-clause-found c posting is e =
    let made : 45 ∷ c.args.bytes.now ≡ signed_decimal (to_z w64 (of_z w64 (pos 0 -ℤ to_z w64 c.in-Some.cents))) =
    search rules in
    ap (λ z. Ok z) (signed_decimal_injective _ posting (search rules) (search rules) (sym made ∙ e))
