-- Tests in their order: what an accepted command has passed, and where a command changes nothing.
use Rattle.std.proofs.Common.{◌≡◌, Bool, true, false, cond, ◌||◌, List, [], ◌∷◌, ◌++◌, refl, sym, ◌∙◌, subst}
use Rattle.std.proofs.Common.{true≢false}
use Rattle.std.specs.List.{AllByRecursion, list_any}
use Rattle.rtgs_book.specs.declared.book.Book.{Book}
use Rattle.rtgs_book.specs.Outcome.{OwnReply, Outcome, first_of, is_done}

abbrev pub NoneHolds : List (Bool × OwnReply) → Type 0
NoneHolds rows = AllByRecursion (λ (row : Bool × OwnReply). row.0 ≡ false) rows

-- no test's reply accepts the command
abbrev pub NoneAccepts : List (Bool × OwnReply) → Type 0
NoneAccepts rows = AllByRecursion (λ (row : Bool × OwnReply). is_done row.1 ≡ false) rows

-- an accepted command has passed all tests, and does what it is for
pub passed : (book : Book) (rows : List (Bool × OwnReply)) (outcome : Outcome) → NoneAccepts rows
    → is_done (first_of book rows outcome).reply ≡ true → NoneHolds rows × (first_of book rows outcome ≡ outcome)
unfolding first_of
passed book [] outcome h e = (tt, refl)
passed book (row ∷ rows) outcome h e = by row.0 refl e (passed book rows outcome h.1)
  where
    by : (b : Bool) → row.0 ≡ b → is_done (cond b (record { reply = row.1; book = book })
        (first_of book rows outcome)).reply ≡ true
        → (is_done (first_of book rows outcome).reply ≡ true
        → NoneHolds rows × (first_of book rows outcome ≡ outcome))
        → ((row.0 ≡ false) × NoneHolds rows) × (cond b (record { reply = row.1; book = book })
        (first_of book rows outcome) ≡ outcome)
    by true f k rest = absurd (true≢false (sym k ∙ h.0))
    by false f k rest = let r = rest k in ((f, r.0), r.1)

-- the same of a step
pub passed_step : (old new : Book) (reply : OwnReply) (rows : List (Bool × OwnReply)) (outcome : Outcome)
    → NoneAccepts rows → is_done reply ≡ true → record { reply = reply; book = new } ≡ first_of old rows outcome
    → NoneHolds rows × (record { reply = reply; book = new } ≡ outcome)
passed_step old new reply rows outcome h e s =
    let p = passed old rows outcome h (subst (λ (o : Outcome). is_done o.reply ≡ true) s e) in
    (p.0, s ∙ p.1)

-- what holds of the book and, past all tests, of the book after the command, holds of the book after it
pub after_tests : (P : Book → Type 0) (book : Book) (rows : List (Bool × OwnReply)) (outcome : Outcome) → P book
    → (NoneHolds rows → P outcome.book) → P (first_of book rows outcome).book
unfolding first_of
after_tests P book [] outcome h k = k tt
after_tests P book (row ∷ rows) outcome h k = by row.0 refl (λ none. after_tests P book rows outcome h
    (λ rest. k (none, rest)))
  where
    by : (b : Bool) → row.0 ≡ b → (row.0 ≡ false → P (first_of book rows outcome).book)
        → P (cond b (record { reply = row.1; book = book }) (first_of book rows outcome)).book
    by true e rest = h
    by false e rest = rest e

-- where a test holds, nothing changes
pub some_holds : (book : Book) (rows : List (Bool × OwnReply)) (outcome : Outcome)
    → list_any (λ (row : Bool × OwnReply). row.0) rows ≡ true → (first_of book rows outcome).book ≡ book
unfolding first_of
some_holds book [] outcome e = absurd (true≢false (sym e))
some_holds book (row ∷ rows) outcome e = by row.0 e (some_holds book rows outcome)
  where
    by : (b : Bool) → (b || list_any (λ (row : Bool × OwnReply). row.0) rows) ≡ true
        → (list_any (λ (row : Bool × OwnReply). row.0) rows ≡ true → (first_of book rows outcome).book ≡ book)
        → (cond b (record { reply = row.1; book = book }) (first_of book rows outcome)).book ≡ book
    by true k rest = refl
    by false k rest = rest k

pub none_holds : (book : Book) (rows : List (Bool × OwnReply)) (outcome : Outcome)
    → list_any (λ (row : Bool × OwnReply). row.0) rows ≡ false → first_of book rows outcome ≡ outcome
unfolding first_of
none_holds book [] outcome e = refl
none_holds book (row ∷ rows) outcome e = by row.0 e (none_holds book rows outcome)
  where
    by : (b : Bool) → (b || list_any (λ (row : Bool × OwnReply). row.0) rows) ≡ false
        → (list_any (λ (row : Bool × OwnReply). row.0) rows ≡ false → first_of book rows outcome ≡ outcome)
        → cond b (record { reply = row.1; book = book }) (first_of book rows outcome) ≡ outcome
    by true k rest = absurd (true≢false k)
    by false k rest = rest k

pub choose : (P : Outcome → Type 0) (b : Bool) (x y : Outcome) → P x → P y → P (cond b x y)
choose P true x y h k = h
choose P false x y h k = k

pub choose_book : (P : Book → Type 0) (b : Bool) (x y : Outcome) → P x.book → P y.book → P (cond b x y).book
choose_book P true x y h k = h
choose_book P false x y h k = k

pub first_holds : (book : Book) (b : Bool) (reply : OwnReply) (rows : List (Bool × OwnReply)) (outcome : Outcome)
    → b ≡ true → first_of book ((b, reply) ∷ rows) outcome ≡ record { reply = reply; book = book }
unfolding first_of
first_holds book b reply rows outcome e = rw e refl

pub second_holds : (book : Book) (a b : Bool) (one reply : OwnReply) (rows : List (Bool × OwnReply)) (outcome : Outcome)
    → a ≡ false → b ≡ true → first_of book ((a, one) ∷ (b, reply) ∷ rows) outcome ≡ record {
      reply = reply;
      book = book;
    }
unfolding first_of
second_holds book a b one reply rows outcome e f = rw (e, f) refl

pub third_holds : (book : Book) (a b c : Bool) (one two reply : OwnReply) (rows : List (Bool × OwnReply))
    (outcome : Outcome) → a ≡ false → b ≡ false → c ≡ true
    → first_of book ((a, one) ∷ (b, two) ∷ (c, reply) ∷ rows) outcome
    ≡ record { reply = reply; book = book }
unfolding first_of
third_holds book a b c one two reply rows outcome e f g = rw (e, f, g) refl

-- and no reply there accepts the command
pub some_refuses : (book : Book) (rows : List (Bool × OwnReply)) (outcome : Outcome) → NoneAccepts rows
    → list_any (λ (row : Bool × OwnReply). row.0) rows ≡ true → is_done (first_of book rows outcome).reply ≡ false
unfolding first_of
some_refuses book [] outcome h e = absurd (true≢false (sym e))
some_refuses book (row ∷ rows) outcome h e = by row.0 e (some_refuses book rows outcome h.1)
  where
    by : (b : Bool) → (b || list_any (λ (row : Bool × OwnReply). row.0) rows) ≡ true
        → (list_any (λ (row : Bool × OwnReply). row.0) rows ≡ true
        → is_done (first_of book rows outcome).reply ≡ false)
        → is_done (cond b (record { reply = row.1; book = book }) (first_of book rows outcome)).reply ≡ false
    by true k rest = h.0
    by false k rest = rest k

-- where the last test alone holds, its reply is the answer
pub last_holds : (book : Book) (rows : List (Bool × OwnReply)) (b : Bool) (reply : OwnReply) (outcome : Outcome)
    → list_any (λ (row : Bool × OwnReply). row.0) rows ≡ false → b ≡ true
    → first_of book (rows ++ (b, reply) ∷ []) outcome ≡ record { reply = reply; book = book }
unfolding first_of
last_holds book [] b reply outcome e f = rw f refl
last_holds book (row ∷ rows) b reply outcome e f = by row.0 e (λ k. last_holds book rows b reply outcome k f)
  where
    by : (c : Bool) → (c || list_any (λ (row : Bool × OwnReply). row.0) rows) ≡ false
        → (list_any (λ (row : Bool × OwnReply). row.0) rows ≡ false
        → first_of book (rows ++ (b, reply) ∷ []) outcome ≡ record { reply = reply; book = book })
        → cond c (record { reply = row.1; book = book }) (first_of book (rows ++ (b, reply) ∷ []) outcome)
        ≡ record { reply = reply; book = book }
    by true k rest = absurd (true≢false k)
    by false k rest = rest k
