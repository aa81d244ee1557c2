use Rattle.std.proofs.Common.{◌≡◌, ℤ, pos, ◌+ℤ◌, ◌&&◌, map, length, ap, subst, ◌∙◌, nat_cmp, filter, arith}
use Rattle.std.proofs.lemmas.Int.{ints}
use Rattle.std.specs.Cmp.Lexicographic.{slice_cmp}
use Rattle.std.specs.Str.{bytes_eq}
use Rattle.rtgs_book.specs.declared.participant.Participant.{Participant}
use Rattle.rtgs_book.specs.declared.order.Order.{Order}
use Rattle.rtgs_book.specs.Books.{is_waiting}
use Rattle.rtgs_book.specs.IntSum.{int_sum_by}
use Rattle.rtgs_book.specs.Lookup.{codes_of}
use Rattle.rtgs_book.specs.Queue.{waiting}
use Rattle.rtgs_book.specs.Totals.{Totals}
use Rattle.rtgs_soundness.proofs.Totals.{total_at, totals_same, count_is_sum}
use Rattle.rtgs_soundness.proofs.rules.queues.waiting_lengths.Goals as goal

pub count_waiting-requires-clause-small : goal.count_waiting-requires-clause-small
count_waiting-requires-clause-small c = λ key total e.
    let zero = total_at (slice_cmp nat_cmp) c.in_ok-codes_of.field-0.items (λ code. pos 0) c.in_ok-lengths.lengths key
    total c.in_ok-lengths.ensures e in
    (omega (arith, ints), omega (arith, ints))

from_nothing : (a : ℤ) → pos 0 +ℤ a ≡ a
from_nothing a = omega (arith, ints)

pub returns : goal.returns
unfolding codes_of waiting
returns c =
    let codes : c.in_ok-codes_of.field-0.items ≡ codes_of c.args.book.now = c.in_ok-codes_of.ensures
    ∙ ap (λ ps. map (λ (p : Participant). p.code) ps) c.as_slice.ensures in
    subst (λ codes. Totals (slice_cmp nat_cmp) codes (λ code. pos (length (waiting c.args.book.now code)))
    c.count_waiting.new.lengths) codes
    (totals_same (slice_cmp nat_cmp) c.in_ok-codes_of.field-0.items _
    (λ code. pos (length (waiting c.args.book.now code))) c.count_waiting.new.lengths
    (λ code. from_nothing (int_sum_by (λ (o : Order). pos 1)
    (filter (λ (o : Order). is_waiting o && bytes_eq o.sender code) c.as_slice-2.result.now))
    ∙ ap (λ os. int_sum_by (λ (o : Order). pos 1) (filter (λ (o : Order). is_waiting o && bytes_eq o.sender code)
    os)) c.as_slice-2.ensures ∙ count_is_sum (waiting c.args.book.now code))
    (c.count_waiting.ensures c.in_ok-codes_of.field-0.items (λ code. pos 0) c.in_ok-lengths.ensures))
