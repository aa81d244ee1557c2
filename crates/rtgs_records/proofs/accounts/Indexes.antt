-- The index of a code among accounts in code order.
use Rattle.std.proofs.Common.{◌≡◌, ℕ, zero, suc, ◌<◌, false, List, [], ◌∷◌, map, length, Less, nat_cmp, refl, sym, ◌∙◌}
use Rattle.std.proofs.Common.{subst, arith}
use Rattle.std.specs.List.{AllByRecursion, position_or_len}
use Rattle.std.specs.List.Sorted.{IsStrictlySortedBy}
use Rattle.std.specs.Str.{bytes_eq}
use Rattle.std.specs.Cmp.Lexicographic.{slice_cmp}
use Rattle.rtgs_book.specs.declared.account.Account.{Account}
use Rattle.rtgs_records.specs.accounts.Accounts.{code_of, is_of, CodesRiseStrictly, IsAt}
use Rattle.rtgs_records.proofs.accounts.AccountLemmas.{at_index, equal_codes}
use Rattle.rtgs_lists.proofs.Codes.{bytes_eq_comm, later_differs}

pub position_at : (code : List ℕ) (xs : List Account) → CodesRiseStrictly xs → (i : ℕ) → IsAt code xs i
    → position_or_len (bytes_eq code) (map code_of xs) ≡ i
unfolding IsStrictlySortedBy
position_at code [] rise i at = absurd (let h = at.in_range in omega arith)
position_at code (x ∷ xs) rise zero at = rw (equal_codes code (code_of x) (sym (at.has_code x))) refl
position_at code (x ∷ xs) rise (suc i) at =
    let within : i < length xs = let h = at.in_range in omega arith in
    let rest : IsAt code xs i = record { in_range = within; has_code = λ d. at.has_code d } in
    let less : slice_cmp nat_cmp (code_of x) code ≡ Less = subst (λ c. slice_cmp nat_cmp (code_of x) c ≡ Less)
    (at.has_code x) (at_index (λ c. slice_cmp nat_cmp (code_of x) c ≡ Less) xs rise.0 i x within) in
    let there : position_or_len (bytes_eq code) (map code_of xs) ≡ i = position_at code xs rise.1 i rest in
    rw (bytes_eq_comm code (code_of x) ∙ later_differs (code_of x) code less) (omega arith)

pub position_nowhere : (code : List ℕ) (xs : List Account) → AllByRecursion (λ a. is_of code a ≡ false) xs
    → position_or_len (bytes_eq code) (map code_of xs) ≡ length xs
position_nowhere code [] h = refl
position_nowhere code (x ∷ xs) h =
    let rest = position_nowhere code xs h.1 in
    rw (bytes_eq_comm code (code_of x) ∙ h.0) (omega arith)
