use Rattle.rtgs_ledger.specs.Keys.{code_under}
use Rattle.rtgs_promises.proofs.requests.a_book_and_an_input_have_one_reply.Goals as goal

pub returns-clause-asked : goal.returns-clause-asked
returns-clause-asked g c operator input old one other sent again first second some same =
    c.answers_are_determined.ensures operator (code_under old) input first.answer second.answer first.asks second.asks
    some same
