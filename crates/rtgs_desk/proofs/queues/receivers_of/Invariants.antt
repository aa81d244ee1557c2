use Rattle.std.proofs.Common.{◌≡◌, take}
use Rattle.std.specs.List.{flat_map}
use Rattle.rtgs_book.specs.declared.account.Account.{Account}
use Rattle.rtgs_book.specs.cores.Following.{code_of}
use Rattle.rtgs_desk.specs.Payments.{paid_in}
use Rattle.rtgs_desk.specs.Queues.{receiver_of}
use Rattle.rtgs_desk.proofs.queues.receivers_of.Given as goal

-- those of the first accounts
abbrev pub invariant-loop-account : goal.invariant-loop-account
invariant-loop-account l = record {
  first : l.receivers.items ≡ flat_map (λ (a : Account). receiver_of (code_of a) (paid_in l.payments (code_of a)))
      (take l.account-index l.account-items);
}
