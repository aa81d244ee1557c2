use Rattle.std.proofs.Common.{◌≡◌, ◌∙◌, sym, ap, arith}
use Rattle.std.specs.Str.{bytes_eq}
use Rattle.rtgs_book.specs.declared.participant.Participant.{Participant}
use Rattle.std.proofs.lemmas.List.Edits.{map_over_more}
use Rattle.std.proofs.lemmas.Grind.{common_steps}
use Rattle.rtgs_tests_desks.proofs.in_memory.Credits.{credited, set_hit, set_miss}
use Rattle.rtgs_tests_desks.proofs.in_memory.memory_keeper.set_credit.Goals as goal
use Rattle.rtgs_tests_desks.proofs.in_memory.memory_keeper.set_credit.Goals.{then-eq, else-eq}

pub loop-participant-preserved : goal.loop-participant-preserved
loop-participant-preserved c =
    let code = c.args.code.now in
    let credit = c.args.credit in
    let ps = c.loop-participant.participants in
    let i = c.loop-participant.participant-index in
    let p = c.participant-item.result in
    let more = map_over_more (credited code credit) c.args.participants.now ps i p c.loop-participant-test.true
    c.loop-participant.invariant c.participant-item.is in
    let same : c.eq.result ≡ bytes_eq p.code code = c.eq.ensures
    ∙ ap (λ (q : Participant). bytes_eq q.code code) (sym c.participant-item.is) in
    elim c.if-eq.branch [
      | then-eq w ↦ w.participants-is ∙ set_hit code credit ps i p (sym same ∙ w.if-eq.true) c.participant-item.is
          ∙ more
      | else-eq w ↦ w.participants-is ∙ set_miss code credit ps i p (sym same ∙ w.if-eq.false) c.participant-item.is
          ∙ more
    ]

pub returns : goal.returns
returns c = let i = c.loop-participant.invariant in grind (arith, common_steps)
