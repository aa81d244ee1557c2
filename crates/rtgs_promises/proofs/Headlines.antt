-- Sessions one after another are the headline, by the laws of the definitions.
use Rattle.std.proofs.Common.{◌≡◌, List, map}
use Rattle.std.specs.List.{AllByRecursion}
use Rattle.rtgs_book.specs.declared.book.Book.{Book}
use Rattle.rtgs_book.specs.declared.command.Command.{Command}
use Rattle.rtgs_book.specs.Calm.{IsCalm}
use Rattle.rtgs_book.specs.Laws.{NothingSettlesEarly}
use Rattle.rtgs_book.specs.Outcome.{Reply}
use Rattle.rtgs_book.specs.Run.{Run}
use Rattle.rtgs_book.specs.Session.{Session, IsLife}
use Rattle.rtgs_book.specs.Soundness.{IsSound}
use Rattle.rtgs_laws.specs.repeats.Lives.{AreLived}
use Rattle.rtgs_promises.specs.Headline.{EachResolves, IsHeadline}
use Rattle.rtgs_promises.proofs.Final.{LifeStands, keep_final}

-- the laws that it rests on, as the calls of laws promise them
pub record Laws : Type 0 where
  pub run : (book found : Book) (sessions : List Session) → IsLife book sessions found
      → (commands : List Command) × (replies : List Reply) × AreLived sessions commands replies
      × Run book commands replies found
  pub stands : LifeStands
  pub calm : (book found : Book) (sessions : List Session) → IsSound book → IsCalm book
      → IsLife book sessions found → AllByRecursion (λ (s : Session). IsCalm s.found) sessions × IsCalm found
  pub resolutions : (start last : Book) (commands : List Command) (replies : List Reply)
      → Run start commands replies last → EachResolves start commands replies last
  pub in_time : (book : Book) → IsSound book → NothingSettlesEarly book

-- sessions with these commands and replies
pub record AreLife (start : Book) (given : List (List Command)) (said : List (List Reply)) (found : Book)
    : Type 0 where
  pub sessions : List Session
  pub commands : map (λ (s : Session). s.commands) sessions ≡ given
  pub replies : map (λ (s : Session). s.replies) sessions ≡ said
  pub life : IsLife start sessions found

pub headline : Laws → (start found : Book) (given : List (List Command)) (said : List (List Reply)) → IsSound start
    → IsCalm start → AreLife start given said found → IsHeadline start given said found
headline laws start found given said sound calm it =
    let run = laws.run start found it.sessions it.life in
    let last = laws.stands start found it.sessions sound it.life in
    record {
      sessions = it.sessions;
      commands = it.commands;
      replies = it.replies;
      life = it.life;
      all = run.0;
      heard = run.1;
      lived = run.2;
      run = run.3;
      resolutions = laws.resolutions start found run.0 run.1 run.3;
      calm = laws.calm start found it.sessions sound calm it.life;
      final = keep_final laws.stands start found it.sessions sound it.life;
      stands = last.1;
      in_time = laws.in_time found last.0;
      sound = last.0;
    }
