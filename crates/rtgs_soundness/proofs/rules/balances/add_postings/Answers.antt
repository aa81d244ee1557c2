use Rattle.std.proofs.Common.{◌+◌, ◌*◌, ◌+ℤ◌, ap, nat_cmp, arith}
use Rattle.std.proofs.lemmas.Int.{ints}
use Rattle.std.specs.Cmp.Lexicographic.{slice_cmp}
use Rattle.std.specs.Str.{bytes_eq}
use Rattle.rtgs_money.specs.declared.posting_amount.TheConstants.PostingAmount as PostingAmount
use Rattle.rtgs_money.specs.Amounts.{IsPostingAmount}
use Rattle.rtgs_book.specs.declared.posting.Posting.{Posting}
use Rattle.rtgs_soundness.proofs.Totals.{cents_are, fits_wide, within_added, texts_added, sum_first, sum_more, sum_all}
use Rattle.rtgs_soundness.proofs.Totals.{totals_same, all_more}
use Rattle.rtgs_soundness.proofs.rules.balances.add_postings.Goals as goal

pub add-requires : goal.add-requires
add-requires c = λ total e.
    let is = cents_are c.posting-item.result.cents c.cents.result c.from.result c.from.ensures c.cents.ensures.value
    c.cents.ensures.in_range in
    let small = is.0.0 in let large = is.0.1 in
    let r = c.loop-posting.invariant.within c.posting-item.result.code total e in
    let low = r.0 in let high = r.1 in
    let few = c.requires.few in
    rw is.1 (fits_wide (total +ℤ c.posting-item.result.cents) (omega (arith, ints), omega (arith, ints)))

pub loop-posting-preserved : goal.loop-posting-preserved
loop-posting-preserved c =
    let is = cents_are c.posting-item.result.cents c.cents.result c.from.result c.from.ensures c.cents.ensures.value
    c.cents.ensures.in_range in
    record {
      sums = λ codes sum_of holds.
          totals_same (slice_cmp nat_cmp) codes _ (λ code. sum_of code +ℤ sum_first
          (λ (p : Posting). bytes_eq p.code code) (λ (p : Posting). p.cents) c.args.postings.now
          (c.loop-posting.posting-index + 1)) c.add.new.totals
          (λ code. let more = sum_more (λ (p : Posting). bytes_eq p.code code) (λ (p : Posting). p.cents)
          c.args.postings.now c.loop-posting.posting-index c.posting-item.result c.loop-posting-test.true
          c.posting-item.is in omega (arith, ints))
          (texts_added codes (λ code. sum_of code +ℤ sum_first (λ (p : Posting). bytes_eq p.code code)
          (λ (p : Posting). p.cents) c.args.postings.now c.loop-posting.posting-index) c.loop-posting.totals
          c.add.new.totals c.posting-item.result.code c.posting-item.result.cents _ is.1
          (c.loop-posting.invariant.sums codes sum_of holds) c.add.ensures);
      within = λ key total e.
          let r = within_added (slice_cmp nat_cmp) (c.loop-posting.posting-index * PostingAmount.MAX) PostingAmount.MAX
          c.loop-posting.totals c.add.new.totals c.posting-item.result.code c.posting-item.result.cents is.0
          c.loop-posting.invariant.within (rw is.1 at c.add.ensures) key total e in
          let low = r.0 in let high = r.1 in
          (omega (arith, ints), omega (arith, ints));
      cents = all_more (λ (p : Posting). IsPostingAmount p.cents) c.args.postings.now c.loop-posting.posting-index
          c.posting-item.result c.loop-posting-test.true c.posting-item.is c.loop-posting.invariant.cents
          (c.cents.ensures.not_zero, c.cents.ensures.in_range);
    }

pub returns-clause-sums : goal.returns-clause-sums
returns-clause-sums c = λ codes sum_of holds.
    totals_same (slice_cmp nat_cmp) codes _ _ c.loop-posting.totals
    (λ code. ap (λ z. sum_of code +ℤ z) (sum_all (λ (p : Posting). bytes_eq p.code code) (λ (p : Posting). p.cents)
    c.args.postings.now c.loop-posting.posting-index c.loop-posting-test.false))
    (c.loop-posting.invariant.sums codes sum_of holds)

pub returns-clause-within : goal.returns-clause-within
returns-clause-within c = λ key total e.
    let r = c.loop-posting.invariant.within key total e in
    let low = r.0 in let high = r.1 in
    let few = c.requires.few in
    let end = c.loop-posting.auto.posting-index-end in
    (omega (arith, ints), omega (arith, ints))
