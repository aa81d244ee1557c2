-- A book of participants alone is sound.
use Rattle.std.proofs.Common.{◌≡◌, ◌≤◌, Bool, true, false, List, [], ◌∷◌, map, length, refl, ap, arith, ℕ, pos, ◌≤ℤ◌}
use Rattle.std.proofs.lemmas.Int.{ints}
use Rattle.std.proofs.lemmas.List.{length-map}
use Rattle.std.specs.List.{IsDistinct}
use Rattle.rtgs_book.specs.declared.account.Account.{Account}
use Rattle.rtgs_book.specs.declared.limits.TheConstants.{LONGEST_QUEUE}
use Rattle.rtgs_book.specs.declared.participant.Participant.{Participant}
use Rattle.rtgs_book.specs.Balance.{balance, floor, total}
use Rattle.rtgs_book.specs.IntSum.{int_sum_by}
use Rattle.rtgs_book.specs.Lookup.{codes_of}
use Rattle.rtgs_book.specs.Queue.{waiting}
use Rattle.rtgs_book.specs.Soundness.{IsSound}
use Rattle.rtgs_records.specs.accounts.Accounts.{AreOfABook, participant_in, code_of, key_of}
use Rattle.rtgs_ledger.specs.Alone.{book_of_participants}
use Rattle.rtgs_lists.proofs.Lists.{all_of}

codes_are : (xs : List Account) → map (λ (p : Participant). p.code) (map participant_in xs) ≡ map code_of xs
codes_are [] = refl
codes_are (x ∷ xs) = ap (λ cs. code_of x ∷ cs) (codes_are xs)

keys_are : (xs : List Account) → map (λ (p : Participant). p.key) (map participant_in xs) ≡ map key_of xs
keys_are [] = refl
keys_are (x ∷ xs) = ap (λ ks. key_of x ∷ ks) (keys_are xs)

nothing : (ps : List Participant) (codes : List (List ℕ)) → int_sum_by (balance (book_of_participants ps)) codes ≡ pos 0
unfolding balance
nothing ps [] = refl
nothing ps (c ∷ codes) = let rest = nothing ps codes in omega (arith, ints, rest)

pub sound_alone : (xs : List Account) → AreOfABook xs → IsSound (book_of_participants (map participant_in xs))
unfolding codes_of balance floor total waiting IsDistinct
sound_alone xs of = record {
  orders_numbered = (refl, omega arith);
  postings_numbered = (refl, omega arith);
  marks_numbered = (refl, omega arith);
  codes_rise = rw (codes_are xs) (of.ordered, rw (length-map xs code_of) of.few);
  keys_distinct = rw (keys_are xs) of.keys;
  order_references = tt;
  posting_references = tt;
  parties = (tt, tt);
  marks = (tt, tt);
  queues = record {
    closed = λ _. refl;
    short = all_of (λ code. length (waiting (book_of_participants (map participant_in xs)) code) ≤ LONGEST_QUEUE) (λ
        code.
        omega arith)
        (codes_of (book_of_participants (map participant_in xs)));
    of_the_day = tt;
  };
  dates = record {
    dated = λ e. absurd (let clash : ◌≡◌ {A = Bool} true false = e in cc);
    weekday = λ e. absurd (let clash : ◌≡◌ {A = Bool} false true = e in cc);
    order_weekdays = tt;
    mark_weekdays = tt;
    orders = tt;
    dues = tt;
    marks = tt;
    postings = tt;
  };
  floors = all_of (λ code. floor (book_of_participants (map participant_in xs)) code ≤ℤ balance (book_of_participants
      (map participant_in xs))
      code)
      (λ code. omega (arith, ints)) (codes_of (book_of_participants (map participant_in xs)));
  total_fits = let none = nothing (map participant_in xs) (codes_of (book_of_participants (map participant_in xs)))
      in omega (arith, ints, none);
  automatic_fits = λ _. refl;
}
