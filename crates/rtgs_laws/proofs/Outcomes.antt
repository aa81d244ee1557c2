-- What tests in order come to.
use Rattle.std.proofs.Common.{◌≡◌, Bool, true, false, cond, ◌⊎◌, List, [], ◌∷◌, refl, sym, subst, inl, inr, ⊎_elim}
use Rattle.std.specs.List.{AllByRecursion}
use Rattle.rtgs_book.specs.declared.book.Book.{Book}
use Rattle.rtgs_book.specs.Outcome.{OwnReply, Outcome, first_of}
use Rattle.rtgs_book.specs.Soundness.{IsSound}

abbrev pub NoneHolds : List (Bool × OwnReply) → Type 0
NoneHolds rows = AllByRecursion (λ (row : Bool × OwnReply). row.0 ≡ false) rows

-- either nothing changes, or no test holds and the command does what it is for
pub first_of_cases : (book : Book) (rows : List (Bool × OwnReply)) (outcome : Outcome)
    → ((first_of book rows outcome).book ≡ book) ⊎ (NoneHolds rows × (first_of book rows outcome ≡ outcome))
unfolding first_of
first_of_cases book [] outcome = inr (tt, refl)
first_of_cases book (row ∷ rows) outcome = by row.0 refl (first_of_cases book rows outcome)
  where
    by : (b : Bool) → row.0 ≡ b → ((first_of book rows outcome).book ≡ book)
        ⊎ (NoneHolds rows × (first_of book rows outcome ≡ outcome))
        → ((cond b (record { reply = row.1; book = book }) (first_of book rows outcome)).book ≡ book)
        ⊎ (((row.0 ≡ false) × NoneHolds rows) × (cond b (record { reply = row.1; book = book })
        (first_of book rows outcome) ≡ outcome))
    by true e rest = inl refl
    by false e rest = ⊎_elim (λ same. inl same) (λ h. inr ((e, h.0), h.1)) rest

-- soundness is kept where what the command is for keeps it
pub sound_first_of : (book : Book) (rows : List (Bool × OwnReply)) (outcome : Outcome) → IsSound book
    → (NoneHolds rows → IsSound outcome.book) → IsSound (first_of book rows outcome).book
sound_first_of book rows outcome h keeps =
    ⊎_elim
    (λ same. subst IsSound (sym same) h)
    (λ passed. subst (λ (o : Outcome). IsSound o.book) (sym passed.1) (keeps passed.0))
    (first_of_cases book rows outcome)
