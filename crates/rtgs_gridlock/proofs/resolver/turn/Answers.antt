use Rattle.std.proofs.Common.{subst, arith, rules}
use Rattle.std.proofs.lemmas.Bool.{false≢true}
use Rattle.rtgs_gridlock.specs.declared.queues.Payment.{Payment}
use Rattle.rtgs_gridlock.specs.Fundings.{HasEnough}
use Rattle.rtgs_gridlock.specs.Workspaces.{IsUntested}
use Rattle.rtgs_gridlock.specs.Resolving.{IsResolving}
use Rattle.rtgs_gridlock.proofs.Resolving.{IsTesting-tested, IsResolving-taken, steps_taken, CanTakeBack-short}
use Rattle.rtgs_gridlock.proofs.resolver.turn.Goals as goal

pub take_back-payment-requires-clause-payment : goal.take_back-payment-requires-clause-payment
take_back-payment-requires-clause-payment c =
    let short : HasEnough c.covered.new.self.fundings.list c.in-Some.index
    → ⊥ = λ enough. false≢true (c.if-not-covered.ensures.answer.1 enough) in
    let testing = IsTesting-tested c.requires.resolving.0 c.args.queues.now c.in-Some.index c.args.workspace.now
    c.next_untested.new.self c.covered.new.self c.requires.resolving.1 c.in-Some.ensures.same c.in-Some.ensures.taken
    c.covered.ensures.tested in
    CanTakeBack-short c.requires.resolving.0 c.args.queues.now c.in-Some.index c.covered.new.self c.requires.receivers
    testing short

pub returns-then-not-covered-clause-resolving : goal.returns-then-not-covered-clause-resolving
returns-then-not-covered-clause-resolving c = λ positions is.
    let short : HasEnough c.covered.new.self.fundings.list c.in-Some.index
    → ⊥ = λ enough. false≢true (c.if-not-covered.ensures.answer.1 enough) in
    let testing = IsTesting-tested positions c.args.queues.now c.in-Some.index c.args.workspace.now
    c.next_untested.new.self c.covered.new.self is c.in-Some.ensures.same c.in-Some.ensures.taken
    c.covered.ensures.tested in
    let listed = c.list_parties.ensures.listed in
    let receiver = subst (λ (x : Payment). IsUntested c.list_parties.new.self x.receiver)
    c.take_back-payment.ensures.payment listed.receiver_waits in
    let turned : IsResolving positions c.args.queues.now c.list_parties.new.self =
    IsResolving-taken positions c.args.queues.now c.in-Some.index c.covered.new.self c.take_back-payment.new.self
    c.list_parties.new.self testing short c.take_back-payment.ensures.taken_back c.list_parties.ensures.same
    listed.sender_waits receiver listed.others_wait c.list_parties.ensures.inside in
    search rules

pub returns-then-not-covered-clause-fewer : goal.returns-then-not-covered-clause-fewer
returns-then-not-covered-clause-fewer c = λ _.
    let spent = steps_taken c.args.queues.now c.in-Some.index c.args.workspace.now c.next_untested.new.self
    c.covered.new.self c.take_back-payment.new.self c.list_parties.new.self
    (c.requires.resolving.1.inside c.in-Some.index c.in-Some.ensures.taken.1) c.in-Some.ensures.same
    c.in-Some.ensures.taken c.covered.ensures.tested c.take_back-payment.ensures.taken_back
    c.list_parties.ensures.same c.list_parties.ensures.steps in
    omega (arith, spent)

pub returns-then-not-covered-clause-steps : goal.returns-then-not-covered-clause-steps
returns-then-not-covered-clause-steps c =
    let spent = steps_taken c.args.queues.now c.in-Some.index c.args.workspace.now c.next_untested.new.self
    c.covered.new.self c.take_back-payment.new.self c.list_parties.new.self
    (c.requires.resolving.1.inside c.in-Some.index c.in-Some.ensures.taken.1) c.in-Some.ensures.same
    c.in-Some.ensures.taken c.covered.ensures.tested c.take_back-payment.ensures.taken_back
    c.list_parties.ensures.same c.list_parties.ensures.steps in
    omega (
      arith,
      spent,
      c.in-Some.ensures.same.steps,
      c.covered.ensures.tested.steps.most,
      c.take_back-payment.ensures.taken_back.steps.most,
      c.list_parties.ensures.same.steps,
    )
