use Rattle.std.proofs.Common.{◌≡◌, ◌<◌, ◌+◌, ◌*◌, pos, Option, Some, None, rules, refl, sym, ap, ◌∙◌, arith}
use Rattle.std.proofs.lemmas.Int.{ints}
use Rattle.rtgs_money.specs.declared.posting_amount.TheConstants.PostingAmount as PostingAmount
use Rattle.rtgs_book.specs.declared.posting.Posting.{Posting}
use Rattle.rtgs_book.specs.cores.Nexts.{posting_after}
use Rattle.rtgs_statements.specs.Rows.{is_to}
use Rattle.rtgs_statements.specs.Sums.{posted, sum_at}
use Rattle.rtgs_statements.proofs.Leaving.{no_fault, nothing_read, read_more}
use Rattle.rtgs_statements.proofs.Terms.{Within, step-sum, step-within, wider}
use Rattle.rtgs_statements.proofs.RecordsOfDate.{postings_begin, postings_end, posted_split}
use Rattle.rtgs_statements.proofs.records_of_date.posted_on.Goals as goal

none_else : (o : Option Posting) → ((p : Posting) → o ≡ Some p → ⊥) → o ≡ None
none_else None not = refl
none_else (Some p) not = absurd (not p refl)

pub loop-next-init : goal.loop-next-init
loop-next-init g c = record {
  fits = omega arith;
  within = λ code. let none : sum_at c.new-totals.result code ≡ pos 0 = search rules in (
    omega (arith, ints),
    omega (arith, ints),
  );
  read = nothing_read g.S.Source.holds g.S.Source.leaves g.S.Source.is_honest g.S.Source.has_failed c.args.source.now
      (g.met.S.Source.left c.args.source.now);
  sums = λ honest book held code.
      let none : sum_at c.new-totals.result code ≡ pos 0 = search rules in
      let begin = ap (posted code) (postings_begin c.args.date book (c.reads_a_sound_book.ensures book held)) in
      omega (arith, ints);
}

pub loop-next-preserved : goal.loop-next-preserved
loop-next-preserved g c =
    let inv = c.loop-next.invariant in
    let next = c.in-Some.posting in
    let small : Within PostingAmount.MAX next.cents = (omega (arith, ints), omega (arith, ints)) in
    let up : c.loop-next.last < next.number = search rules in
    let fits = inv.fits in
    record {
      fits = search rules;
      within = λ code.
          wider (c.loop-next.last * PostingAmount.MAX + PostingAmount.MAX) _ _ (omega arith)
          (step-within _ PostingAmount.MAX _ _ _ next.cents (is_to code next) small (omega (arith, ints))
          (c.in_ok-add.ensures code) (inv.within code));
      read = read_more g.S.Source.holds g.S.Source.leaves g.S.Source.is_honest g.S.Source.has_failed c.args.source.now
          c.loop-next.source c.later_posting.new.source None inv.read c.in-Ok.ensures.read;
      sums = λ honest book held code.
          let back = c.later_posting.ensures.read.honest honest in
          let now = inv.read.held back book held no_fault in
          let numbers = (c.records_are_listed.ensures.postings book (c.reads_a_sound_book.ensures book held)).numbers in
          let is : posting_after book c.args.date c.loop-next.last ≡ Some next =
          sym (c.in-Ok.ensures.found honest book now) ∙ c.in-Some.is in
          step-sum _ _ _ _ _ _ next.cents (is_to code next) (omega (arith, ints)) (c.in_ok-add.ensures code)
          (posted_split code c.args.date c.loop-next.last book next numbers is) (inv.sums back book held code);
    }

pub returns-in_default-clause-sums : goal.returns-in_default-clause-sums
returns-in_default-clause-sums g c honest book held code =
    let inv = c.loop-next.invariant in
    let back = c.later_posting.ensures.read.honest honest in
    let now = inv.read.held back book held no_fault in
    let over = ap (posted code) (postings_end c.args.date c.loop-next.last book
    (sym (c.in-Ok.ensures.found honest book now) ∙ none_else c.in-Ok.next c.in_default.not-Some)) in
    let before = inv.sums back book held code in
    omega (arith, ints)
