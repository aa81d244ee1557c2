use Rattle.rtgs_tests_desks.proofs.failing_keeper.what_holds_a_book_is_whole.Goals as goal

pub returns : goal.returns
returns g c book held = (g.met.K.Keeper.still c.args.keeper.now).whole book held
