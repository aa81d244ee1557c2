-- Sessions one after another.
use Rattle.std.proofs.Common.{◌≡◌, ◌∙◌, ℕ, ◌≤◌, List, [], ◌∷◌, ◌++◌, length, map, take, refl, sym, ap, subst}
use Rattle.std.proofs.lemmas.List.{length-map, map-append, take_all, take-map}
use Rattle.sqlite.specs.Tree.{Trees}
use Rattle.rtgs_book.specs.declared.book.Book.{Book}
use Rattle.rtgs_book.specs.declared.command.Command.{Command}
use Rattle.rtgs_book.specs.Calm.{IsCalm}
use Rattle.rtgs_book.specs.Outcome.{Reply}
use Rattle.rtgs_book.specs.Session.{Session, IsSession, IsLife}
use Rattle.rtgs_book.specs.Soundness.{IsSound}
use Rattle.rtgs_promises.specs.Headline.{AreExactly, EndsEarly, IsForced}
use Rattle.rtgs_promises.specs.declared.sessions.NoSession.{NoSession}
use Rattle.rtgs_promises.proofs.Final.{life_more}
use Rattle.rtgs_promises.proofs.Headlines.{AreLife, Laws, headline}

-- ---- a life

pub no_life : (start : Book) → AreLife start [] [] start
no_life start = record {
  sessions = [];
  commands = refl;
  replies = refl;
  life = refl;
}

are_life_more : (start mid found : Book) (given : List (List Command)) (said : List (List Reply))
    (commands : List Command) (replies : List Reply) → AreLife start given said mid
    → IsSession (record { start = mid; commands = commands; replies = replies; found = found })
    → AreLife start (given ++ commands ∷ []) (said ++ replies ∷ []) found
are_life_more start mid found given said commands replies so is =
    let s : Session = record { start = mid; commands = commands; replies = replies; found = found } in
    record {
      sessions = so.sessions ++ s ∷ [];
      commands = map-append (λ (s : Session). s.commands) so.sessions (s ∷ [])
          ∙ ap (λ done. done ++ commands ∷ []) so.commands;
      replies = map-append (λ (s : Session). s.replies) so.sessions (s ∷ [])
          ∙ ap (λ done. done ++ replies ∷ []) so.replies;
      life = life_more start mid found so.sessions s so.life refl is refl;
    }

-- one session more, of those that were given and those that have replies
pub one_more : {V W : Type 0} (f : V → List Command) (r : W → List Reply) (start mid found : Book)
    (before given : List V) (was said : List W) (v : V) (w : W) (commands : List Command) → commands ≡ f v
    → given ≡ before ++ v ∷ [] → said ≡ was ++ w ∷ [] → AreLife start (map f before) (map r was) mid
    → IsSession (record { start = mid; commands = commands; replies = r w; found = found })
    → AreLife start (map f given) (map r said) found
one_more f r start mid found before given was said v w commands same is was_said so session =
    let one = subst (λ cs. IsSession (record { start = mid; commands = cs; replies = r w; found = found })) same
    session in
    let life = are_life_more start mid found (map f before) (map r was) (f v) (r w) so one in
    subst (λ a. AreLife start a (map r said) found) (sym (ap (map f) is ∙ map-append f before (v ∷ [])))
    (subst (λ b. AreLife start (map f before ++ f v ∷ []) b found)
    (sym (ap (map r) was_said ∙ map-append r was (w ∷ []))) life)

-- as many of all that are given as have replies
pub as_counted : {V W : Type 0} (f : V → List Command) (r : W → List Reply) (start found : Book) (all : List V)
    (said : List W) (n : ℕ) → length said ≡ n → AreLife start (map f (take n all)) (map r said) found
    → AreLife start (take (length (map r said)) (map f all)) (map r said) found
as_counted f r start found all said n counted life = subst (λ a. AreLife start a (map r said) found)
    (sym (take-map f n all) ∙ ap (λ k. take k (map f all)) (sym counted ∙ sym (length-map said r))) life

pub all_given : {V : Type 0} (f : V → List Command) (n : ℕ) (xs : List V) → length xs ≤ n
    → map f (take n xs) ≡ map f xs
all_given f n xs long = ap (map f) (take_all n xs long)

-- ---- what was begun over these tables, whose book was calm, has led to a book that is held now

pub record SoFar (HonestFirst Honest : Type 0) (HeldFirst Held : Book → Type 0) (given : List (List Command))
    (said : List (List Reply)) : Type 0 where
  pub honest : Honest → HonestFirst
  pub calm : Honest → (start : Book) → HeldFirst start → IsCalm start
  pub lived : Honest → (start : Book) → HeldFirst start → (found : Book) × Held found × AreLife start given said found

pub at_first : (First Now : Type 0) (HeldFirst Held : Book → Type 0) → (Now → First)
    → (Now → (start : Book) → HeldFirst start → Held start × IsCalm start) → SoFar First Now HeldFirst Held [] []
at_first First Now HeldFirst Held back held = record {
  honest = back;
  calm = λ h start first. (held h start first).1;
  lived = λ h start first. (start, (held h start first).0, no_life start);
}

-- ---- sessions that ended early

pub ends_early : Laws → (start : Book) (given : List (List Command)) (said : List (List Reply)) (cause : NoSession)
    (may_leave : Trees → Type 0) → IsSound start → IsCalm start → IsForced cause
    → ((trees : Trees) → may_leave trees
    → (found : Book) × AreExactly found trees × AreLife start (take (length said) given) said found)
    → EndsEarly start given said cause may_leave
ends_early laws start given said cause may_leave sound calm forced left = record {
  left = λ trees may.
      let it = left trees may in
      (it.0, it.1, headline laws start it.0 (take (length said) given) said sound calm it.2);
  forced = forced;
}
