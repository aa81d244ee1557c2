use Rattle.rtgs_promises.proofs.Determined.{in_memory_is_sound}
use Rattle.rtgs_promises.proofs.desks.opens_a_sound_book_or_names_a_fault.Goals as goal

pub returns-in-Ok-clause-sound : goal.returns-in-Ok-clause-sound
returns-in-Ok-clause-sound g c clean is_open =
    let shown = (c.in-Ok.ensures.opened clean is_open).shown in
    (shown.0, shown.1, in_memory_is_sound c.in-Ok.desk shown.0 shown.1, shown.2)

pub returns-in-Ok-clause-held : goal.returns-in-Ok-clause-held
returns-in-Ok-clause-held g c clean is_open book tables =
    let held = (c.in-Ok.ensures.opened clean is_open).held book tables in
    (held, c.holds_a_sound_book.ensures.calm book held)

pub returns-in-Err-clause-accepted : goal.returns-in-Err-clause-accepted
returns-in-Err-clause-accepted g c clean is_open book tables =
    (c.in-Err.ensures.refused clean is_open).cause book tables

pub returns-in-Err-clause-restless : goal.returns-in-Err-clause-restless
returns-in-Err-clause-restless g c clean is_open book tables =
    (c.in-Err.ensures.refused clean is_open).restless book tables
