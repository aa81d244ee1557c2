-- Keys of accounts and of participants.
use Rattle.std.proofs.Common.{◌≡◌, ℕ, Bool, true, false, cond, List, [], ◌∷◌, map, find, Some, refl}
use Rattle.std.specs.Option.{option_map}
use Rattle.rtgs_book.specs.declared.account.Account.{Account}
use Rattle.rtgs_records.specs.accounts.Accounts.{has_key, code_of, participant_in}
use Rattle.rtgs_ledger.specs.Keys.{is_key_of}
use Rattle.rtgs_book.specs.declared.participant.Participant.{Participant}

pub code_of-bearer : (key : List ℕ) (xs : List Account)
    → option_map (λ (p : Participant). p.code) (find (is_key_of key) (map participant_in xs))
    ≡ option_map code_of (find (has_key key) xs)
code_of-bearer key [] = refl
code_of-bearer key (x ∷ xs) = by (has_key key x) (code_of-bearer key xs)
  where
    by : (b : Bool) → option_map (λ (p : Participant). p.code) (find (is_key_of key) (map participant_in xs))
        ≡ option_map code_of (find (has_key key) xs)
        → option_map (λ (p : Participant). p.code) (cond b (Some (participant_in x))
        (find (is_key_of key) (map participant_in xs))) ≡ option_map code_of (cond b (Some x) (find (has_key key) xs))
    by true e = refl
    by false e = e
