use Rattle.rtgs_promises.proofs.requests.serve_and_stop.Goals as goal

pub returns-in-Ok-clause-found : goal.returns-in-Ok-clause-found
returns-in-Ok-clause-found g c clean start held =
    let stopped = c.in-Ok.ensures.honest clean in
    let next = c.in-Ok.ensures.found clean in
    let came = c.serve-served.ensures.comes stopped start held next.0 next.1 in
    let holds = next.2 came.0 (came.1.content, came.1.rows, came.1.records) in
    (came.0, holds, c.tables_are_exactly_the_book.ensures came.0 holds, came.2)

pub returns-in-Err-clause-lost : goal.returns-in-Err-clause-lost
returns-in-Err-clause-lost g c clean start held trees may =
    let left = c.in-Err.ensures.lost clean in
    c.serve-served.ensures.comes left.0 start held trees (left.1 trees may)
