use Rattle.std.proofs.Common.{◌+◌, ◌<◌, ◌==◌, cond, length, refl, sym, ap, ◌∙◌, rules}
use Rattle.rtgs_book.specs.Soundness.{is_state_under}
use Rattle.rtgs_soundness.specs.Tallies.{tally_of_mark, with_amount}
use Rattle.rtgs_soundness.proofs.Marks.{tally_pushed, tally_kept, within_wider}
use Rattle.rtgs_soundness.proofs.rules.marks.add_order.Goals as goal

pub returns-in-Settled-clause-sums : goal.returns-in-Settled-clause-sums
returns-in-Settled-clause-sums c = λ earlier are place within.
    let less : place < length c.args.tallies.now = search rules in
    let amount = c.args.order.now.amount in
    c.add_under.ensures.added place less
    ∙ ap (λ t. cond (c.in-Settled.mark == place + 1) (with_amount amount t) t) (are place less)
    ∙ ap (λ s. cond (is_state_under (place + 1) s) (with_amount amount (tally_of_mark earlier (place + 1)))
    (tally_of_mark earlier (place + 1))) (sym c.in-Settled.is)
    ∙ sym (tally_pushed earlier c.args.order.now (place + 1))

pub returns-in_default : goal.returns-in_default
returns-in_default c = record {
  length = refl;
  sums = λ earlier are place within.
      are place within ∙ sym (tally_kept earlier c.args.order.now (place + 1) c.in_default.not-Settled);
  within = λ bound h k d less. within_wider bound _ (h k d less);
}
