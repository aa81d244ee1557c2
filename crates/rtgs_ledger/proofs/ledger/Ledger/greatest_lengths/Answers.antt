use Rattle.std.proofs.Common.{◌∙◌, ap, sym, subst, length, slice_index, arith}
use Rattle.std.proofs.lemmas.Bool.Decides.{nat_tests}
use Rattle.rtgs_book.specs.Choice.{IsGreatest}
use Rattle.rtgs_choices.specs.ByIndex.{by_code}
use Rattle.rtgs_gridlock.specs.Workspaces.{lengths_of}
use Rattle.rtgs_ledger.proofs.Inputs.{positions_given, queues_given, resolvable}
use Rattle.rtgs_ledger.proofs.ledger.Ledger.greatest_lengths.Goals as goal

pub returns-then-not-can_resolve-clause-length : goal.returns-then-not-can_resolve-clause-length
returns-then-not-can_resolve-clause-length c book is =
    let positions = c.in_ok-positions.ensures
    ∙ positions_given book c.self.inside.records c.args.self.now c.self.view_is
    is c.queues_are_of_the_waiting.ensures in
    let queues = c.in_ok-queues.ensures ∙ queues_given book c.self.inside.records c.args.self.now c.self.view_is is
    c.queues_are_of_the_waiting.ensures in
    let law = c.conditions_hold.ensures in
    let can = c.can_resolve.ensures.1 (resolvable book c.in_ok-positions.positions c.in_ok-queues.queues positions
    queues
    (law.positions book) (law.queues book) (law.floored book is.sound) (law.receivers book is.sound)
    (law.payments book is.sound)) in
    let test = c.if-not-can_resolve.true in
    absurd (grind (arith, nat_tests, can, test))

pub returns-then-not-can_resolve-clause-greatest : goal.returns-then-not-can_resolve-clause-greatest
returns-then-not-can_resolve-clause-greatest c book is =
    let positions = c.in_ok-positions.ensures
    ∙ positions_given book c.self.inside.records c.args.self.now c.self.view_is
    is c.queues_are_of_the_waiting.ensures in
    let queues = c.in_ok-queues.ensures ∙ queues_given book c.self.inside.records c.args.self.now c.self.view_is is
    c.queues_are_of_the_waiting.ensures in
    let law = c.conditions_hold.ensures in
    let can = c.can_resolve.ensures.1 (resolvable book c.in_ok-positions.positions c.in_ok-queues.queues positions
    queues
    (law.positions book) (law.queues book) (law.floored book is.sound) (law.receivers book is.sound)
    (law.payments book is.sound)) in
    let test = c.if-not-can_resolve.true in
    absurd (grind (arith, nat_tests, can, test))

pub returns-clause-length : goal.returns-clause-length
returns-clause-length c book is =
    let queues = c.in_ok-queues.ensures ∙ queues_given book c.self.inside.records c.args.self.now c.self.view_is is
    c.queues_are_of_the_waiting.ensures in
    ap length (c.in_ok-from_slice.ensures.items ∙ c.lengths.ensures) ∙ c.greatest.ensures.length ∙ ap length queues
    ∙ c.conditions_hold.ensures.queues book

pub returns-clause-greatest : goal.returns-clause-greatest
returns-clause-greatest c book is =
    let positions = c.in_ok-positions.ensures
    ∙ positions_given book c.self.inside.records c.args.self.now c.self.view_is
    is c.queues_are_of_the_waiting.ensures in
    let queues = c.in_ok-queues.ensures ∙ queues_given book c.self.inside.records c.args.self.now c.self.view_is is
    c.queues_are_of_the_waiting.ensures in
    let found = c.greatest_means_greatest.ensures book (slice_index (lengths_of c.greatest.new.workspace)) is.sound
    (rw (positions, queues) at c.greatest.ensures.greatest) in
    subst (λ lengths. IsGreatest book (by_code book (slice_index lengths)))
    (sym (c.in_ok-from_slice.ensures.items ∙ c.lengths.ensures)) found
