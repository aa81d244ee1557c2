use Rattle.std.proofs.Common.{Err, ap}
use Rattle.rtgs_book.specs.Lookup.{participant_of, order_named}
use Rattle.rtgs_http_bodies.specs.Readings.{order_data}
use Rattle.rtgs_http_bodies.proofs.desks.Writing.{refused_order}
use Rattle.rtgs_http_bodies.proofs.desks.readings.order_line.Goals as goal

pub returns-in-Err-clause-answered : goal.returns-in-Err-clause-answered
returns-in-Err-clause-answered g c honest book held =
    refused_order (λ text. text.items) order_data (participant_of book c.args.sender.now)
    (order_named book c.args.sender.now c.args.reference.now) c.in-Err.refusal
    (c.in-Err.ensures.answered honest book held)
    (λ is. (c.in-Err.ensures.faults.fault (ap Err is)).1)
