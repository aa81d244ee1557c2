use Rattle.std.proofs.Common.{ℕ, List, ℤ, ◌*◌, ◌+ℤ◌, take, nat_cmp}
use Rattle.std.specs.Cmp.Lexicographic.{slice_cmp}
use Rattle.std.specs.List.{AllByRecursion}
use Rattle.std.specs.Str.{bytes_eq}
use Rattle.rtgs_money.specs.declared.posting_amount.TheConstants.PostingAmount as PostingAmount
use Rattle.rtgs_money.specs.Amounts.{IsPostingAmount}
use Rattle.rtgs_book.specs.declared.posting.Posting.{Posting}
use Rattle.rtgs_book.specs.Totals.{Totals, AreWithin}
use Rattle.rtgs_soundness.proofs.Totals.{sum_first}
use Rattle.rtgs_soundness.proofs.rules.balances.add_postings.Given as goal

abbrev pub invariant-loop-posting : goal.invariant-loop-posting
invariant-loop-posting l = record {
  sums : (codes : List (List ℕ)) (sum_of : List ℕ → ℤ) → Totals (slice_cmp nat_cmp) codes sum_of l.fn.totals →
      Totals (slice_cmp nat_cmp) codes (λ code. sum_of code +ℤ sum_first (λ (p : Posting). bytes_eq p.code code)
      (λ (p : Posting). p.cents) l.postings l.posting-index) l.totals;
  within : AreWithin (slice_cmp nat_cmp) (l.posting-index * PostingAmount.MAX) l.totals;
  cents : AllByRecursion (λ (p : Posting). IsPostingAmount p.cents) (take l.posting-index l.postings);
}
