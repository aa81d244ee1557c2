-- What the desk says of one account, and of all in order.
use Rattle.std.proofs.Common.{◌≡◌, ◌∙◌, ◌≤◌, ◌+◌, ◌++◌, ◌∷◌, [], ℕ, Bool, true, false, cond, List, length, map, take}
use Rattle.std.proofs.Common.{find, nat_cmp, Less, Option, Some, None, Ok, option_map, refl, sym, ap, subst, inl, inr}
use Rattle.std.proofs.Common.{arith}
use Rattle.std.proofs.lemmas.List.{length-map, take_more, take_all}
use Rattle.std.proofs.lemmas.Option.{same_Some, slice_get-map, slice_get_within, slice_get_cases, get_or_from_slice_get}
use Rattle.std.specs.Cmp.Lexicographic.{slice_cmp, bytes_decides}
use Rattle.std.specs.List.{AllByRecursion}
use Rattle.std.specs.List.Sorted.{IsStrictlySortedBy}
use Rattle.std.specs.Prelude.{IfSome, slice_get}
use Rattle.std.specs.Str.{bytes_eq}
use Rattle.rtgs_lists.proofs.Codes.{bytes_eq_self, later_differs}
use Rattle.rtgs_lists.proofs.Lists.{all_get}
use Rattle.rtgs_book.specs.declared.account.Account.{Account}
use Rattle.rtgs_book.specs.declared.book.Book.{Book}
use Rattle.rtgs_book.specs.declared.participant.Participant.{Participant}
use Rattle.rtgs_book.specs.declared.limits.TheConstants.{MOST_PARTICIPANTS}
use Rattle.rtgs_book.specs.Balance.{balance}
use Rattle.rtgs_book.specs.Lookup.{codes_of, has_code, participant_of}
use Rattle.rtgs_book.specs.Soundness.{IsSound}
use Rattle.rtgs_book.specs.cores.Cores.{account_of}
use Rattle.rtgs_book.specs.cores.Following as following
use Rattle.rtgs_desk.specs.Readings.{Tells, if_known, account_known, account_answer, reading_of, readings_of}
use Rattle.rtgs_book.specs.declared.account_reading.AccountReading.{AccountReading}

-- ---- codes

found_has_code : (code : List ℕ) (ps : List Participant) (p : Participant) → find (has_code code) ps ≡ Some p
    → p.code ≡ code
found_has_code code [] p e = absurd (cc)
found_has_code code (q ∷ qs) p e = by (bytes_eq q.code code) refl e (found_has_code code qs p)
  where
    by : (b : Bool) → bytes_eq q.code code ≡ b → cond b (Some q) (find (has_code code) qs) ≡ Some p
        → (find (has_code code) qs ≡ Some p → p.code ≡ code) → p.code ≡ code
    by true same e rest = let is : q ≡ p = cc in
        subst (λ (r : Participant). r.code ≡ code) is ((bytes_decides q.code code).0 same)
    by false other e rest = rest e

-- who is known by a code has that code
pub known_has_code : (book : Book) (code : List ℕ) (p : Participant) → participant_of book code ≡ Some p
    → p.code ≡ code
unfolding participant_of
known_has_code book code p e = found_has_code code book.participants p e

found_later : (p : Participant) (all qs : List Participant)
    → AllByRecursion (λ code. slice_cmp nat_cmp p.code code ≡ Less) (map (λ (q : Participant). q.code) qs)
    → AllByRecursion (λ (q : Participant). find (has_code q.code) all ≡ Some q) qs
    → AllByRecursion (λ (q : Participant). find (has_code q.code) (p ∷ all) ≡ Some q) qs
found_later p all [] less h = tt
found_later p all (q ∷ qs) less h = (rw (later_differs p.code q.code less.0) h.0, found_later p all qs less.1 h.1)

all_found : (ps : List Participant) → IsStrictlySortedBy (slice_cmp nat_cmp) (map (λ (p : Participant). p.code) ps)
    → AllByRecursion (λ (p : Participant). find (has_code p.code) ps ≡ Some p) ps
unfolding IsStrictlySortedBy
all_found [] rise = tt
all_found (p ∷ ps) rise = (rw (bytes_eq_self p.code) refl, found_later p ps ps rise.0 (all_found ps rise.1))

-- the participant at a place is known by its code
known_at : (book : Book) (i : ℕ) (p : Participant) → IsSound book → slice_get book.participants i ≡ Some p
    → participant_of book p.code ≡ Some p
unfolding participant_of codes_of
known_at book i p sound there =
    all_get (λ (q : Participant). find (has_code q.code) book.participants ≡ Some q) book.participants i p
    (slice_get_within book.participants i p there) (sym (get_or_from_slice_get book.participants i p p there))
    (all_found book.participants sound.codes_rise.0)

few_participants : (book : Book) → IsSound book → length book.participants ≤ MOST_PARTICIPANTS
unfolding codes_of
few_participants book sound =
    omega (arith, length-map book.participants (λ (p : Participant). p.code), sound.codes_rise.1)

-- ---- the account at a place

pub account_at : (book : Book) (i : ℕ) (code : List ℕ) (found : Option Account) → IsSound book
    → slice_get (codes_of book) i ≡ Some code → option_map following.participant_in found ≡ participant_of book code
    → IfSome found (λ (a : Account). a.balance ≡ balance book code)
    → found ≡ option_map (account_of book) (slice_get book.participants i)
unfolding codes_of
account_at book i code found sound there is balanced = by (slice_get book.participants i) refl
    (sym (slice_get-map (λ (p : Participant). p.code) book.participants i) ∙ there)
  where
    at : (p : Participant) → p.code ≡ code → (o : Option Account)
        → option_map following.participant_in o ≡ Some p → IfSome o (λ (a : Account). a.balance ≡ balance book code)
        → o ≡ Some (account_of book p)
    at p coded None e b = absurd (cc)
    at p coded (Some a) e b =
        λ j. Some (record { participant = same_Some _ _ e j; balance = (b ∙ ap (balance book) (sym coded)) j })

    by : (o : Option Participant) → slice_get book.participants i ≡ o
        → option_map (λ (p : Participant). p.code) o ≡ Some code → found ≡ option_map (account_of book) o
    by None e coded = absurd (cc)
    by (Some p) e coded =
        let same : p.code ≡ code = same_Some _ _ coded in
        at p same found (is ∙ ap (participant_of book) (sym same) ∙ known_at book i p sound e) balanced

pub no_account_at : (book : Book) (i : ℕ) → slice_get (codes_of book) i ≡ None
    → None ≡ option_map (account_of book) (slice_get book.participants i)
unfolding codes_of
no_account_at book i none = by (slice_get book.participants i)
    (sym (slice_get-map (λ (p : Participant). p.code) book.participants i) ∙ none)
  where
    by : (o : Option Participant) → option_map (λ (p : Participant). p.code) o ≡ None
        → None ≡ option_map (account_of book) o
    by None e = refl
    by (Some p) e = absurd (cc)

-- ---- what is answered of an account

-- this is answered of an account whose balance is the participant's
abbrev pub IsAnswered : Book → Account → AccountReading → Type 0
IsAnswered book a reading = a.balance ≡ balance book a.participant.code
    → reading ≡ reading_of book a.participant.code a.participant

-- of one that is known
pub answered_known : (book : Book) (code : List ℕ) (a : Account) (reading : AccountReading)
    → account_known book code ≡ Ok a → IsAnswered book a reading
    → Tells {X = AccountReading} {Y = AccountReading} (λ reading. reading) (account_answer book code) (Ok reading)
answered_known book code a reading known answered = by (participant_of book code) refl known
  where
    by : (found : Option Participant) → participant_of book code ≡ found
        → if_known {X = Account} found (λ p. Ok (record { participant = p; balance = balance book code })) ≡ Ok a
        → Tells {X = AccountReading} {Y = AccountReading} (λ reading. reading)
        (if_known {X = AccountReading} found (λ p. Ok (reading_of book code p))) (Ok reading)
    by None e k = absurd (cc)
    by (Some p) e k =
        let same : a ≡ record { participant = p; balance = balance book code } = cc in
        let coded : p.code ≡ code = known_has_code book code p e in
        let is : reading ≡ reading_of book p.code p =
        subst (λ (b : Account). IsAnswered book b reading) same answered (ap (balance book) (sym coded)) in
        is ∙ ap (λ c. reading_of book c p) coded

-- of the next one
pub answered_more : (book : Book) (done more : List AccountReading) (i : ℕ) (a : Account) (reading : AccountReading)
    → Some a ≡ option_map (account_of book) (slice_get book.participants i) → IsAnswered book a reading
    → done ≡ take i (readings_of book) → more ≡ done ++ reading ∷ [] → more ≡ take (i + 1) (readings_of book)
answered_more book done more i a reading there answered before pushed = by (slice_get book.participants i) refl there
  where
    by : (o : Option Participant) → slice_get book.participants i ≡ o → Some a ≡ option_map (account_of book) o
        → more ≡ take (i + 1) (readings_of book)
    by None e k = absurd (cc)
    by (Some p) e k =
        let is : reading ≡ reading_of book p.code p =
        subst (λ (b : Account). IsAnswered book b reading) (same_Some _ _ k) answered refl in
        let next : slice_get (readings_of book) i ≡ Some (reading_of book p.code p) =
        slice_get-map (λ (q : Participant). reading_of book q.code q) book.participants i
        ∙ ap (option_map (λ (q : Participant). reading_of book q.code q)) e in
        pushed ∙ (λ j. before j ++ is j ∷ [])
        ∙ ap (λ r. take i (readings_of book) ++ r ∷ [])
        (sym (get_or_from_slice_get (readings_of book) i _ (reading_of book p.code p) next))
        ∙ sym (take_more (readings_of book) i (reading_of book p.code p)
        (slice_get_within (readings_of book) i _ next))

all_answered : (book : Book) (done : List AccountReading) (i : ℕ) → done ≡ take i (readings_of book)
    → length book.participants ≤ i → done ≡ readings_of book
all_answered book done i before past = before
    ∙ take_all i (readings_of book)
    (omega (arith, past, length-map book.participants (λ (q : Participant). reading_of book q.code q)))

-- where no account is left, all were answered
pub answered_to_the_last : (book : Book) (done : List AccountReading) (i : ℕ) → done ≡ take i (readings_of book)
    → None ≡ option_map (account_of book) (slice_get book.participants i) → done ≡ readings_of book
answered_to_the_last book done i before none =
    all_answered book done i before (elim (slice_get_cases book.participants i).1 [
      | inl some ↦ absurd (let e = none ∙ ap (option_map (account_of book)) some.2 in cc)
      | inr over ↦ over.0
    ])

-- no book has more than this many
pub answered_up_to_the_most : (book : Book) (done : List AccountReading) (i : ℕ) → IsSound book
    → done ≡ take i (readings_of book) → MOST_PARTICIPANTS ≤ i → done ≡ readings_of book
answered_up_to_the_most book done i sound before most =
    all_answered book done i before (omega (arith, most, few_participants book sound))
