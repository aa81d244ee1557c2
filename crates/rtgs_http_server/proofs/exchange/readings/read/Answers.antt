use Rattle.rtgs_http_server.proofs.exchange.readings.read.Goals as goal

pub returns-clause-reads : goal.returns-clause-reads
returns-clause-reads g c honest book held =
    let sound = (c.holds_a_sound_book.ensures.sound book held).sound in
    let greatest = c.greatest_exists.ensures book sound.floors in
    let read = c.read_by_choice.ensures.reads honest book greatest.0 held greatest.1 in
    (read.0, greatest.0, greatest.1, read.1)
