-- Requests one after another.
use Rattle.std.proofs.Common.{◌≡◌, ◌≤◌, true, false, Bool, if◌then◌else◌, List, [], ◌∷◌, ◌++◌, length}
use Rattle.std.proofs.Common.{Some, None, arith}
use Rattle.rtgs_book.specs.declared.command.Command.{Command}
use Rattle.rtgs_book.specs.Outcome.{Reply}
use Rattle.rtgs_book.specs.Session.{is_store_fault, open_command}

-- where no command is open in one list and none in another, none is in both together
pub none_open : (commands more : List Command) (replies others : List Reply) → length replies ≤ length commands
    → open_command commands replies ≡ None → open_command more others ≡ None
    → open_command (commands ++ more) (replies ++ others) ≡ None
none_open [] more [] others short none next = next
none_open [] more (r ∷ replies) others short none next = absurd (omega arith)
none_open (c ∷ commands) more [] others short none next = absurd (cc)
none_open (c ∷ commands) more (r ∷ replies) others short none next =
    by (is_store_fault r) (λ e. none_open commands more replies others (omega arith) e next) none
  where
    by : (b : Bool)
        → (open_command commands replies ≡ None → open_command (commands ++ more) (replies ++ others) ≡ None)
        → (if b then Some c else open_command commands replies) ≡ None
        → (if b then Some c else open_command (commands ++ more) (replies ++ others)) ≡ None
    by true later none = absurd (cc)
    by false later none = later none
