use Rattle.std.proofs.Common.{◌≡◌, ℤ, pos, ◌+ℤ◌, map, ap, subst, ◌∙◌, nat_cmp, filter, arith}
use Rattle.std.proofs.lemmas.Int.{ints}
use Rattle.std.specs.Cmp.Lexicographic.{slice_cmp}
use Rattle.std.specs.Str.{bytes_eq}
use Rattle.rtgs_book.specs.declared.participant.Participant.{Participant}
use Rattle.rtgs_book.specs.declared.posting.Posting.{Posting}
use Rattle.rtgs_book.specs.Books.{is_settled}
use Rattle.rtgs_book.specs.IntSum.{int_sum_by}
use Rattle.rtgs_book.specs.Lookup.{codes_of}
use Rattle.rtgs_book.specs.Totals.{Totals}
use Rattle.rtgs_book.specs.Balance.{balance, gain}
use Rattle.rtgs_soundness.proofs.Totals.{total_at, totals_same}
use Rattle.rtgs_soundness.proofs.rules.balances.balances.Goals as goal

from_nothing : (a b : ℤ) → pos 0 +ℤ a +ℤ b ≡ a +ℤ b
from_nothing a b = omega (arith, ints)

pub add_postings-requires-clause-small : goal.add_postings-requires-clause-small
add_postings-requires-clause-small c = λ key total e.
    let zero = total_at (slice_cmp nat_cmp) c.in_ok-codes_of.field-0.items (λ code. pos 0) c.in_ok-totals.totals key
    total c.in_ok-totals.ensures e in
    (omega (arith, ints), omega (arith, ints))

pub returns-clause-sums : goal.returns-clause-sums
unfolding codes_of balance
returns-clause-sums c =
    let codes : c.in_ok-codes_of.field-0.items ≡ codes_of c.args.book.now = c.in_ok-codes_of.ensures
    ∙ ap (λ ps. map (λ (p : Participant). p.code) ps) c.as_slice.ensures in
    let postings = c.add_postings.ensures.sums c.in_ok-codes_of.field-0.items (λ code. pos 0) c.in_ok-totals.ensures in
    let orders = c.add_orders.ensures.sums c.in_ok-codes_of.field-0.items _ postings in
    subst (λ codes. Totals (slice_cmp nat_cmp) codes (balance c.args.book.now) c.add_orders.new.totals) codes
    (totals_same (slice_cmp nat_cmp) c.in_ok-codes_of.field-0.items _ (balance c.args.book.now) c.add_orders.new.totals
    (λ code. from_nothing (int_sum_by (λ (p : Posting). p.cents)
    (filter (λ (p : Posting). bytes_eq p.code code) c.as_slice-2.result.now))
    (int_sum_by (gain code) (filter is_settled c.as_slice-3.result.now))
    ∙ (λ i. int_sum_by (λ (p : Posting). p.cents) (filter (λ (p : Posting). bytes_eq p.code code)
    (c.as_slice-2.ensures i)) +ℤ int_sum_by (gain code) (filter is_settled (c.as_slice-3.ensures i))))
    orders)
