use Rattle.rtgs_keeper_trials.proofs.tests.stored_desk.session.Goals as goal

pub returns-clause-found : goal.returns-clause-found
returns-clause-found g c clean book held =
    let stopped = c.in_ok-next.ensures.honest clean in
    let next = c.in_ok-next.ensures.found clean in
    let left = c.in_ok-replies.ensures.left stopped book held next.0 next.1 in
    (left.found, next.2 left.found (left.content, left.holds, left.records), left.session)
