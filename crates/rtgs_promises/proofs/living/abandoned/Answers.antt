use Rattle.rtgs_promises.proofs.living.abandoned.Goals as goal

pub returns-clause-tables : goal.returns-clause-tables
returns-clause-tables g c clean book held trees left =
    c.tables_are_exactly_the_book.ensures book held trees ((c.store_of.ensures clean).1 trees left)

pub returns-clause-honest : goal.returns-clause-honest
returns-clause-honest g c clean = (c.store_of.ensures clean).0
