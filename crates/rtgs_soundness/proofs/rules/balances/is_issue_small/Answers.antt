use Rattle.std.proofs.Common.{◌≡◌, ◌+ℤ◌, to_z, of_z, sym, ap, ◌∙◌, arith}
use Rattle.std.proofs.lemmas.Int.{ints}
use Rattle.std.specs.Int.{w128}
use Rattle.rtgs_book.specs.declared.posting.Posting.{Posting}
use Rattle.rtgs_soundness.proofs.Totals.{cents_are, fits_wide, wide, int_sum_more}
use Rattle.rtgs_soundness.proofs.rules.balances.is_issue_small.Goals as goal

pub overflow_add-issued : goal.overflow_add-issued
overflow_add-issued c =
    let is = cents_are c.posting-item.result.cents c.cents.result c.from-issued.result c.from-issued.ensures
    c.cents.ensures.value c.cents.ensures.in_range in
    let small = is.0.0 in let large = is.0.1 in
    let low = c.loop-posting.invariant.within.0 in let high = c.loop-posting.invariant.within.1 in
    let few = c.requires in
    rw (c.loop-posting.issued-is, is.1) (fits_wide (c.loop-posting.issued +ℤ c.posting-item.result.cents)
    (omega (arith, ints), omega (arith, ints)))

pub loop-posting-preserved : goal.loop-posting-preserved
loop-posting-preserved c =
    let is = cents_are c.posting-item.result.cents c.cents.result c.from-issued.result c.from-issued.ensures
    c.cents.ensures.value c.cents.ensures.in_range in
    let small = is.0.0 in let large = is.0.1 in
    let low = c.loop-posting.invariant.within.0 in let high = c.loop-posting.invariant.within.1 in
    let few = c.requires in
    let sum : to_z w128 (of_z w128 (to_z w128 c.loop-posting.issued-bits +ℤ to_z w128 (of_z w128 c.from-issued.result)))
    ≡ c.loop-posting.issued +ℤ c.posting-item.result.cents =
    rw (c.loop-posting.issued-is, is.1) (wide (c.loop-posting.issued +ℤ c.posting-item.result.cents)
    (omega (arith, ints), omega (arith, ints))) in
    record {
      sum = sum ∙ ap (λ z. z +ℤ c.posting-item.result.cents)
          (sym c.loop-posting.issued-is ∙ c.loop-posting.invariant.sum)
          ∙ sym (int_sum_more (λ (p : Posting). p.cents) c.args.postings.now c.loop-posting.posting-index
          c.posting-item.result c.loop-posting-test.true c.posting-item.is);
      within = (omega (arith, ints), omega (arith, ints));
    }
