use Rattle.std.proofs.Common.{refl, sym, true≢false}
use Rattle.std.specs.Prelude.{List, [], ◌∷◌}
use Rattle.rtgs_book.specs.Books.{new_book}
use Rattle.rtgs_book.specs.Calm.{IsCalm}
use Rattle.rtgs_book.specs.Session.{Session, IsLife}
use Rattle.rtgs_keeper_trials.proofs.tests.stored_desk.lived_twice.Goals as goal

-- no day of it is automatic
new_is_calm : IsCalm new_book
new_is_calm automatic = absurd (true≢false (sym automatic))

pub returns : goal.returns
returns g c clean blank =
    let one = c.in_ok-replies.ensures (c.in_ok-others.ensures.honest clean) blank in
    let two = c.in_ok-others.ensures.found clean one.0 one.1 in
    let sessions : List Session = record {
      start = new_book;
      commands = c.args.commands.now;
      replies = c.in_ok-replies.replies.items;
      found = one.0;
    } ∷ record {
      start = one.0;
      commands = c.args.more.now;
      replies = c.in_ok-others.others.items;
      found = two.0;
    } ∷ [] in
    let life : IsLife new_book sessions two.0 = (refl, one.2, (refl, two.2, refl)) in
    let run = c.life_is_a_run.ensures.run new_book two.0 sessions life in
    let stands = c.life_is_a_run.ensures.stands new_book two.0 sessions c.new_book_is_sound.ensures life in
    let calm = c.life_is_a_run.ensures.calm new_book two.0 sessions c.new_book_is_sound.ensures new_is_calm life in (
      two.0,
      two.1,
      record {
        middle = one.0;
        sessions = sessions;
        are = refl;
        life = life;
        all = run.0;
        heard = run.1;
        lived = run.2;
        run = run.3;
        sound = stands.0;
        stands = stands.1;
        calm = (calm.0.0, calm.1);
      },
    )
