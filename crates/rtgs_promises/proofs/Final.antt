-- What was final in a book of a life is so in each later one.
use Rattle.std.proofs.Common.{◌≡◌, ◌∙◌, List, [], ◌∷◌, ◌++◌, map, refl, sym}
use Rattle.std.specs.List.{AllByRecursion}
use Rattle.rtgs_book.specs.declared.book.Book.{Book}
use Rattle.rtgs_book.specs.Laws.{KeepsWhatIsFinal}
use Rattle.rtgs_book.specs.Session.{Session, IsSession, IsLife}
use Rattle.rtgs_book.specs.Soundness.{IsSound}
use Rattle.rtgs_promises.specs.Headline.{KeepFinal}

pub life_more : (start mid found : Book) (sessions : List Session) (s : Session) → IsLife start sessions mid
    → s.start ≡ mid → IsSession s → s.found ≡ found → IsLife start (sessions ++ s ∷ []) found
life_more start mid found [] s life begins is ends = (begins ∙ life, is, sym ends)
life_more start mid found (one ∷ more) s life begins is ends =
    (life.0, life.1, life_more one.found mid found more s life.2 begins is ends)

-- the law of a whole life
abbrev pub LifeStands : Type 0
LifeStands = (book found : Book) (sessions : List Session) → IsSound book → IsLife book sessions found
    → IsSound found × KeepsWhatIsFinal book found

-- after the sessions before these, each of these leaves what was final in the first book of all
stands_in : LifeStands → (start mid found : Book) (before sessions : List Session) → IsSound start
    → IsLife start before mid → IsLife mid sessions found
    → AllByRecursion (KeepsWhatIsFinal start) (map (λ (s : Session). s.found) sessions)
stands_in law start mid found before [] sound so life = tt
stands_in law start mid found before (s ∷ later) sound so life =
    let longer = life_more start mid s.found before s so life.0 life.1 refl in (
      (law start s.found (before ++ s ∷ []) sound longer).1,
      stands_in law start s.found found (before ++ s ∷ []) later sound longer life.2,
    )

pub keep_final : LifeStands → (start found : Book) (sessions : List Session) → IsSound start
    → IsLife start sessions found → KeepFinal (start ∷ map (λ (s : Session). s.found) sessions)
keep_final law start found [] sound life = (tt, tt)
keep_final law start found (s ∷ later) sound life = (
  stands_in law start start found [] (s ∷ later) sound refl life,
  keep_final law s.found found later (law start s.found (s ∷ []) sound (life.0, life.1, refl)).0 life.2,
)
