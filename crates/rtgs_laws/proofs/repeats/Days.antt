-- The day's commands where they come again at once.
use Rattle.std.proofs.Common.{◌≡◌, ℕ, Bool, true, false, ◌&&◌, List, [], ◌∷◌, filter, length, Option, Ok, Some}
use Rattle.std.proofs.Common.{refl, sym, ap, ◌∙◌, subst, true≢false}
use Rattle.std.proofs.lemmas.Bool.{not-false, and_from}
use Rattle.rtgs_book.specs.declared.book.Book.{Book}
use Rattle.rtgs_book.specs.declared.command.Command.{Command}
use Rattle.rtgs_book.specs.declared.day.Day.{Day}
use Rattle.rtgs_book.specs.declared.new_day.NewDay.{NewDay}
use Rattle.rtgs_book.specs.declared.phase.Phase.TheVariants.{Open}
use Rattle.rtgs_book.specs.declared.command.Command.TheVariants.{OpenDay, Resolve, CutOff, CloseDay}
use Rattle.rtgs_book.specs.declared.answer.Answer.TheVariants.{Closed, Nothing}
use Rattle.rtgs_book.specs.Books.{is_closed, is_empty, is_open, is_queued}
use Rattle.rtgs_book.specs.Choice.{Choice, chosen, is_chosen, IsGreatest}
use Rattle.rtgs_book.specs.Commands.{is_automatic_as, is_date, opened_day, resolve}
use Rattle.rtgs_book.specs.Commands.{repeated, open_day, cut_off, close_day}
use Rattle.rtgs_book.specs.Outcome.{OwnReply, Outcome, Reply, alone, first_of, is_done}
use Rattle.rtgs_book.specs.Run.{is_accepted}
use Rattle.rtgs_book.specs.Soundness.{FloorsHold}
use Rattle.rtgs_book.specs.Step.{OwnStep, Ends, Step, is_followed}
use Rattle.rtgs_laws.proofs.repeats.Following.{quietly, own_accepted}
use Rattle.rtgs_laws.proofs.repeats.Kept.{by_settling}
use Rattle.rtgs_laws.proofs.repeats.Passing.{passed_step, first_holds, after_tests, choose_book}
use Rattle.rtgs_lists.proofs.Numbers.{eq_self}

abbrev pub OneGreatest : Type 0
OneGreatest = (book : Book) (one other : Choice) → IsGreatest book one → IsGreatest book other → one ≡ other

abbrev pub SomeGreatest : Type 0
SomeGreatest = (book : Book) → FloorsHold book → (choice : Choice) × IsGreatest book choice

pub nothing_in : {X : Type 0} (xs : List X) → is_empty xs ≡ true → xs ≡ []
nothing_in [] e = refl
nothing_in (x ∷ xs) e = absurd (true≢false (sym e))

-- ---- closing

abbrev rejected_by : OwnReply → ℕ
rejected_by (Ok (Closed count)) = count
rejected_by reply = 0

pub closed_empty : OneGreatest → (old new : Book) (date count : ℕ) (choice : Choice)
    → OwnStep old (CloseDay date) (Ok (Closed count)) new → IsGreatest old choice → chosen old choice ≡ []
unfolding close_day
closed_empty law old new date count choice s greatest =
    let p = passed_step old new (Ok (Closed count)) _ _ (refl, (refl, (refl, (refl, (refl, tt))))) refl s.2 in
    let none_chosen = not-false _ p.0.1.1.1.0 in
    ap (chosen old) (law old choice s.0 greatest s.1) ∙ nothing_in _ none_chosen

pub closed_count : (old new : Book) (date count : ℕ) → OwnStep old (CloseDay date) (Ok (Closed count)) new
    → count ≡ length (filter is_queued old.orders)
unfolding close_day
closed_count old new date count s =
    let p = passed_step old new (Ok (Closed count)) _ _ (refl, (refl, (refl, (refl, (refl, tt))))) refl s.2 in
    ap (λ (o : Outcome). rejected_by o.reply) p.1

-- ---- the day that was opened, and what a resolution leaves of it

is_automatic_as_said : (date : Option ℕ) (automatic : Bool) → is_automatic_as automatic (record {
  date = date;
  phase = Open;
  automatic = automatic;
}) ≡ true
is_automatic_as_said date true = refl
is_automatic_as_said date false = refl

own_opened : (old new : Book) (reply : OwnReply) (new_day : NewDay) → is_done reply ≡ true
    → OwnStep old (OpenDay new_day) reply new → new.day ≡ opened_day new_day
unfolding open_day
own_opened old new reply new_day accepted s =
    let p = passed_step old new reply _ _ (refl, (refl, (refl, (refl, tt)))) accepted s in
    ap (λ (o : Outcome). o.book.day) p.1

opened_test : (new : Book) (new_day : NewDay) (day : Day) → day ≡ opened_day new_day
    → (is_open day.phase && is_date day.date new_day.date && is_automatic_as new_day.automatic day) ≡ true
opened_test new new_day day e =
    subst (λ (d : Day). (is_open d.phase && is_date d.date new_day.date && is_automatic_as new_day.automatic d) ≡ true)
    (sym e) (and_from _ _ (eq_self new_day.date) (is_automatic_as_said (Some new_day.date) new_day.automatic))

still_opened : (new : Book) (new_day : NewDay) → new.day ≡ opened_day new_day
    → OwnStep new (OpenDay new_day) repeated new
unfolding open_day
still_opened new new_day e = sym (first_holds _ _ _ _ _ (opened_test new new_day new.day e))

-- a resolution leaves the day and the participants
abbrev Leaves : Book → Book → Type 0
Leaves old new = (new.day ≡ old.day) × (new.participants ≡ old.participants)

resolution_leaves : (old new : Book) (reply : OwnReply) → OwnStep old Resolve reply new → Leaves old new
unfolding resolve
resolution_leaves old new reply s = subst (λ (o : Outcome). Leaves old o.book) (sym s.2)
    (after_tests (Leaves old) old _ _ (refl, refl) (λ _. choose_book (Leaves old) (is_empty (chosen old s.0)) _ _
    (refl, refl) (by_settling (Leaves old) old (is_chosen old s.0) (refl, refl) (λ marks. (refl, refl)))))

ends_leave : (b : Bool) (new : Book) (own : Outcome) (reply : Reply) → Ends b own reply new → Leaves own.book new
ends_leave false new own reply e = ((λ i. (e.1 i).day), (λ i. (e.1 i).participants))
ends_leave true new own reply e = resolution_leaves own.book new e.0 e.1

pub left_so : (old new : Book) (command : Command) (reply : Reply) → (s : Step old command reply new)
    → Leaves s.0.book new
left_so old new command reply s = ends_leave (is_followed command s.0) new s.0 reply s.2

pub opened_again : (old new : Book) (reply : Reply) (new_day : NewDay) → is_accepted reply ≡ true
    → Step old (OpenDay new_day) reply new → Step new (OpenDay new_day) (alone repeated) new
opened_again old new reply new_day accepted s =
    let left = left_so old new (OpenDay new_day) reply s in
    quietly new (OpenDay new_day) repeated refl (still_opened new new_day (left.0
    ∙ own_opened old s.0.book s.0.reply new_day (own_accepted old new (OpenDay new_day) reply s accepted) s.1))

-- ---- the same command of the day again

module _ (old new : Book) (reply : OwnReply) (date : ℕ) (accepted : is_done reply ≡ true) where
  pub cut_off_again : OwnStep old (CutOff date) reply new → OwnStep new (CutOff date) repeated new
  unfolding cut_off
  cut_off_again s =
      let p = passed_step old new reply _ _ (refl, (refl, (refl, tt))) accepted s in
      let book = ap (λ (o : Outcome). o.book) p.1 in
      subst (λ book. OwnStep book (CutOff date) repeated book) (sym book)
      (sym (first_holds _ _ _ _ _ (not-false _ p.0.1.1.0)))

  pub closed_again : SomeGreatest → FloorsHold new → OwnStep old (CloseDay date) reply new
      → OwnStep new (CloseDay date) repeated new
  unfolding close_day
  closed_again law floors s =
      let p = passed_step old new reply _ _ (refl, (refl, (refl, (refl, (refl, tt))))) accepted s.2 in
      let book = ap (λ (o : Outcome). o.book) p.1 in
      subst (λ book. FloorsHold book → OwnStep book (CloseDay date) repeated book) (sym book)
      (λ holds. let g = law _ holds in (g.0, g.1, sym (first_holds _ _ _ _ _ (not-false _ p.0.1.1.0)))) floors

-- ---- a resolution that finds nothing

pub nothing_more : (book : Book) (choice : Choice) → is_closed book.day.phase ≡ false
    → is_empty (chosen book choice) ≡ true → record { reply = Ok Nothing; book = book } ≡ resolve book choice
unfolding resolve first_of
nothing_more book choice e f = rw (e, f) refl
