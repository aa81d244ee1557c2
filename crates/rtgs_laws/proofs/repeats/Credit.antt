-- A credit limit where it is set again.
use Rattle.std.proofs.Common.{◌≡◌, ℕ, ℤ, pos, neg_ℤ, ◌≤ℤ◌, int_lt, Bool, true, false, cond, not, ◌&&◌, ◌||◌, List, []}
use Rattle.std.proofs.Common.{◌∷◌, map, find, Ok, unwrap_or, refl, sym, ap, ◌∙◌, subst, true≢false, arith}
use Rattle.std.proofs.Common.{if◌then◌else◌}
use Rattle.std.proofs.lemmas.Bool.{not-false, and_from}
use Rattle.std.proofs.lemmas.Int.{ints}
use Rattle.std.specs.List.{AllByRecursion, list_any}
use Rattle.std.specs.Option.{option_map}
use Rattle.std.specs.Str.{bytes_eq}
use Rattle.std.specs.Cmp.Lexicographic.{bytes_decides}
use Rattle.rtgs_book.specs.declared.book.Book.{Book}
use Rattle.rtgs_book.specs.declared.participant.Participant.{Participant}
use Rattle.rtgs_book.specs.declared.command.Command.{Command}
use Rattle.rtgs_book.specs.declared.command.Command.TheVariants.{SetCredit}
use Rattle.rtgs_book.specs.declared.answer.Answer.TheVariants.{CreditSet, Nothing}
use Rattle.rtgs_book.specs.Balance.{balance, floor}
use Rattle.rtgs_book.specs.Books.{is_automatic, is_closed}
use Rattle.rtgs_book.specs.Calm.{IsCalm}
use Rattle.rtgs_book.specs.Commands.{set_credit, with_credit}
use Rattle.rtgs_book.specs.Lookup.{has_code, codes_of, is_participant, credit_of, participant_of}
use Rattle.rtgs_book.specs.Outcome.{OwnReply, Reply, Outcome, alone, first_of, is_done}
use Rattle.rtgs_book.specs.Run.{is_accepted}
use Rattle.rtgs_book.specs.Soundness.{FloorsHold, IsSound}
use Rattle.rtgs_book.specs.Step.{OwnStep, Ends, Step, is_followed}
use Rattle.rtgs_laws.proofs.repeats.Acted.{same_participant}
use Rattle.rtgs_laws.proofs.repeats.Days.{SomeGreatest, left_so, nothing_more}
use Rattle.rtgs_laws.proofs.repeats.Following.{own_accepted}
use Rattle.rtgs_laws.proofs.repeats.Passing.{passed_step}
use Rattle.rtgs_lists.proofs.Codes.{bytes_eq_comm}

-- ---- a book with these participants has the limit

set_twice : (code : List ℕ) (credit : ℕ) (ps : List Participant)
    → map (λ (p : Participant). cond (has_code code p) (record p { credit = credit }) p)
    (map (λ (p : Participant). cond (has_code code p) (record p { credit = credit }) p) ps)
    ≡ map (λ (p : Participant). cond (has_code code p) (record p { credit = credit }) p) ps
set_twice code credit [] = refl
set_twice code credit (p ∷ ps) = (λ i. by (has_code code p) refl i ∷ set_twice code credit ps i)
  where
    by : (b : Bool) → has_code code p ≡ b → cond (has_code code (cond b (record p { credit = credit }) p))
        (record (cond b (record p { credit = credit }) p) { credit = credit }) (cond b (record p { credit = credit }) p)
        ≡ cond b (record p { credit = credit }) p
    by true e = rw e refl
    by false e = rw e refl

same_codes : (code : List ℕ) (credit : ℕ) (ps : List Participant)
    → map (λ (p : Participant). p.code) (map (λ (p : Participant). cond (has_code code p) (record p { credit = credit })
    p) ps) ≡ map (λ (p : Participant). p.code) ps
same_codes code credit [] = refl
same_codes code credit (p ∷ ps) = (λ i. by (has_code code p) i ∷ same_codes code credit ps i)
  where
    by : (b : Bool) → (cond b (record p { credit = credit }) p).code ≡ p.code
    by true = refl
    by false = refl

still_participant : (book : Book) (code : List ℕ) (credit : ℕ)
    → is_participant (with_credit book code credit) code ≡ is_participant book code
unfolding is_participant codes_of with_credit
still_participant book code credit i = list_any (bytes_eq code) (same_codes code credit book.participants i)

stays_set : (old new : Book) (code : List ℕ) (credit : ℕ)
    → new.participants ≡ (with_credit old code credit).participants → with_credit new code credit ≡ new
unfolding with_credit
stays_set old new code credit same i = record new {
  participants =
      (ap (map (λ (p : Participant). cond (has_code code p) (record p { credit = credit }) p)) same
      ∙ set_twice code credit old.participants ∙ sym same) i;
}

limit_there : (code : List ℕ) (credit : ℕ) (ps : List Participant)
    → list_any (bytes_eq code) (map (λ (p : Participant). p.code) ps) ≡ true
    → unwrap_or (option_map (λ (p : Participant). p.credit) (find (has_code code)
    (map (λ (p : Participant). cond (has_code code p) (record p { credit = credit }) p) ps))) 0 ≡ credit
limit_there code credit [] known = absurd (true≢false (sym known))
limit_there code credit (p ∷ ps) known = by (has_code code p) refl (limit_there code credit ps)
  where
    by : (b : Bool) → has_code code p ≡ b → (list_any (bytes_eq code) (map (λ (p : Participant). p.code) ps) ≡ true
        → unwrap_or (option_map (λ (p : Participant). p.credit) (find (has_code code)
        (map (λ (p : Participant). cond (has_code code p) (record p { credit = credit }) p) ps))) 0 ≡ credit)
        → unwrap_or (option_map (λ (p : Participant). p.credit) (find (has_code code)
        (cond b (record p { credit = credit }) p
        ∷ map (λ (p : Participant). cond (has_code code p) (record p { credit = credit }) p) ps))) 0 ≡ credit
    by true e rest = rw e refl
    by false e rest = rw e (rest (rw (bytes_eq_comm code p.code, e) at known))

credit_there : (old new : Book) (code : List ℕ) (credit : ℕ)
    → new.participants ≡ (with_credit old code credit).participants → is_participant old code ≡ true
    → credit_of new code ≡ credit
unfolding with_credit credit_of participant_of is_participant codes_of
credit_there old new code credit same known =
    ap (λ (ps : List Participant). unwrap_or (option_map (λ (p : Participant). p.credit) (find (has_code code) ps)) 0)
    same ∙ limit_there code credit old.participants known

-- ---- its balance covers the limit, since no balance is below its floor

floor_there : (book : Book) (code : List ℕ) → FloorsHold book → is_participant book code ≡ true
    → floor book code ≤ℤ balance book code
unfolding is_participant
floor_there book code floors known = by (codes_of book) floors known
  where
    by : (codes : List (List ℕ)) → AllByRecursion (λ c. floor book c ≤ℤ balance book c) codes
        → list_any (bytes_eq code) codes ≡ true → floor book code ≤ℤ balance book code
    by [] h e = absurd (true≢false (sym e))
    by (c ∷ codes) h e = at (bytes_eq code c) refl e (by codes h.1)
      where
        at : (b : Bool) → bytes_eq code c ≡ b → (b || list_any (bytes_eq code) codes) ≡ true
            → (list_any (bytes_eq code) codes ≡ true → floor book code ≤ℤ balance book code)
            → floor book code ≤ℤ balance book code
        at true same k rest = subst (λ x. floor book x ≤ℤ balance book x) (sym ((bytes_decides code c).0 same)) h.0
        at false same k rest = rest k

never_less : (a b : ℤ) → b ≤ℤ a → int_lt a b ≡ false
never_less a b le = by (int_lt a b) refl
  where
    by : (t : Bool) → int_lt a b ≡ t → t ≡ false
    by false e = refl
    by true e = absurd (grind (arith, ints))

covered : (book : Book) (code : List ℕ) (credit : ℕ) → floor book code ≤ℤ balance book code
    → credit_of book code ≡ credit
    → (not (is_closed book.day.phase) && int_lt (balance book code) (neg_ℤ (pos credit))) ≡ false
unfolding floor
covered book code credit le is = by (is_closed book.day.phase) (credit_of book code) is le
  where
    by : (b : Bool) (limit : ℕ) → limit ≡ credit → (if b then pos 0 else neg_ℤ (pos limit)) ≤ℤ balance book code
        → (not b && int_lt (balance book code) (neg_ℤ (pos credit))) ≡ false
    by true limit e h = refl
    by false limit e h = never_less (balance book code) (neg_ℤ (pos credit))
        (subst (λ n. neg_ℤ (pos n) ≤ℤ balance book code) e h)

-- ---- so it is set again

set_there : (book : Book) (code : List ℕ) (credit : ℕ) → is_participant book code ≡ true
    → (not (is_closed book.day.phase) && int_lt (balance book code) (neg_ℤ (pos credit))) ≡ false
    → with_credit book code credit ≡ book → OwnStep book (SetCredit code credit) (Ok CreditSet) book
unfolding set_credit first_of
set_there book code credit known cover has =
    rw (known, cover) (λ i. record { reply = Ok CreditSet; book = sym has i })

was_set : (old new : Book) (reply : OwnReply) (code : List ℕ) (credit : ℕ) → is_done reply ≡ true
    → OwnStep old (SetCredit code credit) reply new
    → (is_participant old code ≡ true) × (new ≡ with_credit old code credit)
unfolding set_credit
was_set old new reply code credit accepted s =
    let p = passed_step old new reply _ _ (refl, (refl, tt)) accepted s in
    (not-false _ p.0.0, ap (λ (o : Outcome). o.book) p.1)

-- ---- and nothing more follows it, since the book is calm

abbrev pub FollowedBooksAreCalm : Type 0
FollowedBooksAreCalm = (old new : Book) (command : Command) (reply : Reply) → IsSound old
    → (s : Step old command reply new) → is_followed command s.0 ≡ true → IsCalm new

opened_when : (a closed : Bool) → (a && not closed) ≡ true → closed ≡ false
opened_when a false e = refl
opened_when true true e = absurd (true≢false (sym e))
opened_when false true e = absurd (true≢false (sym e))

calmly : SomeGreatest → (book : Book) (code : List ℕ) (credit : ℕ) → FloorsHold book
    → OwnStep book (SetCredit code credit) (Ok CreditSet) book → IsCalm book
    → Step book (SetCredit code credit) (alone (Ok CreditSet)) book
calmly exists book code credit floors s calm =
    (record { reply = Ok CreditSet; book = book }, s, by (is_automatic book.day) refl)
  where
    by : (b : Bool) → is_automatic book.day ≡ b
        → Ends b (record { reply = Ok CreditSet; book = book }) (alone (Ok CreditSet)) book
    by false e = (refl, refl)
    by true e =
        let g = exists book floors in (
          Ok Nothing,
          (
            g.0,
            g.1,
            nothing_more book g.0 (opened_when book.day.automatic (is_closed book.day.phase) e) (calm e g.0 g.1),
          ),
          refl,
        )

pub set_again : SomeGreatest → FollowedBooksAreCalm → (old new : Book) (reply : Reply) (code : List ℕ) (credit : ℕ)
    → IsSound old → IsSound new → is_accepted reply ≡ true → Step old (SetCredit code credit) reply new
    → Step new (SetCredit code credit) (alone (Ok CreditSet)) new
set_again exists calms old new reply code credit sound_old sound accepted s =
    let done = own_accepted old new (SetCredit code credit) reply s accepted in
    let set = was_set old s.0.book s.0.reply code credit done s.1 in
    let left = left_so old new (SetCredit code credit) reply s in
    let same = left.1 ∙ ap (λ (b : Book). b.participants) set.1 in
    let known : is_participant new code ≡ true =
    same_participant (with_credit old code credit) new code same ∙ still_participant old code credit ∙ set.0 in
    calmly exists new code credit sound.floors
    (set_there new code credit known
    (covered new code credit (floor_there new code sound.floors known) (credit_there old new code credit same set.0))
    (stays_set old new code credit same))
    (λ automatic. calms old new (SetCredit code credit) reply sound_old s
    (and_from (is_done s.0.reply) (is_automatic s.0.book.day) done
    ((λ i. is_automatic (sym left.0 i)) ∙ automatic)) automatic)
