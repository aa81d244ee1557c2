use Rattle.rtgs_promises.proofs.books.what_is_sent_twice_acts_once.Goals as goal

pub returns-clause-known : goal.returns-clause-known
returns-clause-known c old new command reply sound once accepted step commands replies later run =
    c.acted_is_repeated.ensures old new later command reply commands replies sound once accepted step run
