use Rattle.std.proofs.Common.{sym, subst, Some}
use Rattle.rtgs_book.specs.declared.refusal.Refusal.{Refusal}
use Rattle.rtgs_desk.specs.LookUps.{LooksUp}
use Rattle.rtgs_desk.proofs.HoldingLemmas.{kept_inside}
use Rattle.rtgs_desk.proofs.LookUpLemmas.{failed_before, looked_up, not_looked_up, reads}
use Rattle.rtgs_desk.proofs.desk.source.DeskSource.next_mark.Goals as goal

pub returns-then-self-clause-read : goal.returns-then-self-clause-read
returns-then-self-clause-read g c = reads g.K.Keeper _ _ _ (failed_before g.K.Keeper g.met.K.Keeper.still
    c.self.inside.keeper
    c.self.inside.ledger.core
    c.args.self.now c.self.inside.failed c.self.view_is c.self.invariant c.if-self.true)

pub returns-in-Ok-clause-read : goal.returns-in-Ok-clause-read
returns-in-Ok-clause-read g c = reads g.K.Keeper _ _ _ (looked_up g.K.Keeper g.met.K.Keeper.still
    c.self.inside.keeper c.next_mark.new.self c.self.inside.ledger.core c.args.self.now c.self.inside.failed
    c.next_mark.result
    c.self.view_is c.self.invariant c.if-self.false
    (record { reads = c.next_mark.ensures.reads; kinds = c.next_mark.ensures.kinds })
    c.in-Ok.next c.in-Ok.is)

pub returns-in-Ok-clause-found : goal.returns-in-Ok-clause-found
returns-in-Ok-clause-found g c honest book held = c.in-Ok.ensures.found honest book
    (kept_inside g.K.Keeper c.self.inside.keeper c.self.inside.ledger.core c.args.self.now book c.self.view_is held)

pub returns-in-Err-clause-read : goal.returns-in-Err-clause-read
returns-in-Err-clause-read g c = reads g.K.Keeper _ _ _ (subst
    (λ (r : Refusal). LooksUp g.K.Keeper c.args.self.now
    (record { keeper = c.next_mark.new.self; core = c.self.inside.ledger.core }) (Some r)) (sym
    c.refused.ensures.refusal)
    (not_looked_up g.K.Keeper g.met.K.Keeper.still
    c.self.inside.keeper c.next_mark.new.self c.self.inside.ledger.core c.args.self.now c.self.inside.failed
    c.next_mark.result
    c.self.view_is c.self.invariant c.if-self.false
    (record { reads = c.next_mark.ensures.reads; kinds = c.next_mark.ensures.kinds })
    c.in-Err.fault c.in-Err.is))
