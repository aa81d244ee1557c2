use Rattle.std.proofs.Common.{◌+◌, ◌-◌, ◌<◌, length, subst, sym, rules}
use Rattle.std.proofs.lemmas.List.Elements.{All-set}
use Rattle.rtgs_money.specs.declared.amount.TheConstants.Amount as Amount
use Rattle.rtgs_soundness.specs.Tallies.{IsTallyWithin}
use Rattle.rtgs_soundness.proofs.Marks.{within_wider, within_more}
use Rattle.rtgs_soundness.proofs.rules.marks.add_under.Goals as goal

pub returns-then-contains-clause-within : goal.returns-then-contains-clause-within
returns-then-contains-clause-within c = λ bound h.
    let within : c.args.mark - 1 < length c.args.tallies.now = search rules in
    All-set (IsTallyWithin (bound + Amount.MAX)) c.args.tallies.now (c.args.mark - 1) c.add.new.self
    (subst (IsTallyWithin (bound + Amount.MAX)) (sym c.add.ensures.added)
    (within_more bound c.args.amount _ c.add.ensures.in_range (h (c.args.mark - 1) _ within)))
    (λ k d less. within_wider bound _ (h k d less))
