use Rattle.std.proofs.Common.{◌∙◌, ◌+◌, ◌≤◌, filter, ap, sym, subst}
use Rattle.std.proofs.lemmas.List.{length-map}
use Rattle.rtgs_book.specs.declared.mark.Mark.{Mark}
use Rattle.rtgs_book.specs.declared.order.Order.{Order}
use Rattle.rtgs_book.specs.declared.posting.Posting.{Posting}
use Rattle.rtgs_book.specs.declared.limits.TheConstants.{LARGEST_NUMBER}
use Rattle.rtgs_book.specs.cores.Cores.{core_of}
use Rattle.rtgs_book.specs.Books.{is_waiting}
use Rattle.rtgs_soundness.proofs.cores.core_of.Goals as goal

pub number_after-requires : goal.number_after-requires
number_after-requires c = subst (λ n. n ≤ LARGEST_NUMBER)
    (length-map c.args.book.now.postings (λ (p : Posting). p.number) ∙ sym c.len.ensures)
    c.requires.sound.postings_numbered.1

pub number_after-requires-2 : goal.number_after-requires-2
number_after-requires-2 c = subst (λ n. n ≤ LARGEST_NUMBER)
    (length-map c.args.book.now.orders (λ (o : Order). o.number) ∙ sym c.len-2.ensures)
    c.requires.sound.orders_numbered.1

pub number_after-requires-3 : goal.number_after-requires-3
number_after-requires-3 c = subst (λ n. n ≤ LARGEST_NUMBER)
    (length-map c.args.book.now.marks (λ (m : Mark). m.number) ∙ sym c.len-3.ensures)
    c.requires.sound.marks_numbered.1

pub returns : goal.returns
unfolding core_of
returns c = λ i. record {
  accounts = (c.from_vec.ensures ∙ c.in_ok-accounts_of.ensures) i;
  waiting = (c.from_vec-2.ensures ∙ c.in_ok-waiting_of.ensures ∙ ap (λ orders. filter is_waiting orders)
      c.as_slice.ensures) i;
  day = c.args.book.now.day;
  next_posting = (c.number_after.ensures ∙ ap (λ n. n + 1) c.len.ensures) i;
  next_order = (c.number_after-2.ensures ∙ ap (λ n. n + 1) c.len-2.ensures) i;
  next_mark = (c.number_after-3.ensures ∙ ap (λ n. n + 1) c.len-3.ensures) i;
}
