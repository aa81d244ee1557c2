-- What a resolution does, by the definition of its step.
use Rattle.std.proofs.Common.{◌≡◌, ◌∙◌, Bool, true, false, cond, List, [], ◌∷◌, ◌++◌, length, refl, sym, ap, subst}
use Rattle.std.proofs.Common.{arith, true≢false}
use Rattle.rtgs_book.specs.declared.book.Book.{Book}
use Rattle.rtgs_book.specs.declared.command.Command.{Command}
use Rattle.rtgs_book.specs.declared.command.Command.TheVariants.{Resolve}
use Rattle.rtgs_book.specs.Books.{is_closed, is_empty}
use Rattle.rtgs_book.specs.Choice.{Choice, is_chosen, chosen}
use Rattle.rtgs_book.specs.Commands.{resolve}
use Rattle.rtgs_book.specs.Outcome.{Outcome, Reply, first_of}
use Rattle.rtgs_book.specs.Run.{Run}
use Rattle.rtgs_book.specs.Settle.{settle}
use Rattle.rtgs_book.specs.Step.{Gives, Ends, Step, is_followed}
use Rattle.rtgs_promises.specs.Headline.{Settles, Resolves, EachResolves}

-- also where nothing is chosen
settled : (book : Book) (choice : Choice) (b : Bool) → is_empty (chosen book choice) ≡ b → (one other : Outcome)
    → one.book ≡ book → other.book ≡ settle book (is_chosen book choice)
    → (cond b one other).book ≡ settle book (is_chosen book choice)
unfolding settle chosen
settled book choice true e one other f g = rw e f
settled book choice false e one other f g = g

open_settles : (book : Book) (choice : Choice) → is_closed book.day.phase ≡ false
    → (resolve book choice).book ≡ settle book (is_chosen book choice)
unfolding resolve first_of
open_settles book choice e = rw e (settled book choice (is_empty (chosen book choice)) refl _ _ refl refl)

closed_stays : (book : Book) (choice : Choice) → is_closed book.day.phase ≡ true → (resolve book choice).book ≡ book
unfolding resolve first_of
closed_stays book choice e = rw e refl

-- what a resolution gives
settles : (old : Book) (own : Outcome) → Gives old Resolve own → Settles old own.book
settles old own s = record {
  choice = s.0;
  greatest = s.1;
  all = λ e. ap (λ (o : Outcome). o.book) s.2 ∙ open_settles old s.0 e;
  closed = λ e. ap (λ (o : Outcome). o.book) s.2 ∙ closed_stays old s.0 e;
}

-- one that was asked for is followed by nothing
by_asking : (old new : Book) (reply : Reply) → Step old Resolve reply new → Settles old new
by_asking old new reply s = subst (Settles old) (sym s.2.1) (settles old s.0 s.1)

by_following : (b : Bool) (own : Outcome) (reply : Reply) (new : Book) → Ends b own reply new → b ≡ true
    → Settles own.book new
by_following true own reply new ends e = settles own.book (record { reply = ends.0; book = new }) ends.1
by_following false own reply new ends e = absurd (true≢false (sym e))

pub resolves : (old new : Book) (command : Command) (reply : Reply) → Step old command reply new
    → Resolves old command reply new
resolves old new command reply s = record {
  step = s;
  asked = λ is. by_asking old new reply (subst (λ (it : Command). Step old it reply new) is s);
  followed = λ e. by_following (is_followed command s.0) s.0 reply new s.2 e;
}

at : (start last : Book) (command : Command) (before after : List Command) (heard more : List Reply) (reply : Reply)
    → length heard ≡ length before → Run start (before ++ command ∷ after) (heard ++ reply ∷ more) last
    → (old new : Book) × Run start before heard old × Resolves old command reply new × Run new after more last
at start last command [] after [] more reply long r = (start, r.0, refl, resolves start r.0 command reply r.1, r.2)
at start last command [] after (h ∷ heard) more reply long r = absurd (omega (arith, long))
at start last command (c ∷ before) after [] more reply long r = absurd (omega (arith, long))
at start last command (c ∷ before) after (h ∷ heard) more reply long r =
    let rest = at r.0 last command before after heard more reply (omega (arith, long)) r.2 in
    (rest.0, rest.1, (r.0, r.1, rest.2), rest.3, rest.4)

pub each_resolves : (start last : Book) (commands : List Command) (replies : List Reply)
    → Run start commands replies last → EachResolves start commands replies last
each_resolves start last commands replies run command before after heard more reply is said long =
    at start last command before after heard more reply long
    (subst (λ r. Run start (before ++ command ∷ after) r last) said
    (subst (λ c. Run start c replies last) is run))
