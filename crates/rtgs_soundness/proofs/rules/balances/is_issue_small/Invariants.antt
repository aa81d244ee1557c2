use Rattle.std.proofs.Common.{◌≡◌, ◌*◌, take}
use Rattle.rtgs_money.specs.declared.posting_amount.TheConstants.PostingAmount as PostingAmount
use Rattle.rtgs_book.specs.declared.posting.Posting.{Posting}
use Rattle.rtgs_book.specs.IntSum.{int_sum_by}
use Rattle.rtgs_book.specs.Totals.{Within}
use Rattle.rtgs_soundness.proofs.rules.balances.is_issue_small.Given as goal

abbrev pub invariant-loop-posting : goal.invariant-loop-posting
invariant-loop-posting l = record {
  sum : l.issued ≡ int_sum_by (λ (p : Posting). p.cents) (take l.posting-index l.postings);
  within : Within (l.posting-index * PostingAmount.MAX) l.issued;
}
