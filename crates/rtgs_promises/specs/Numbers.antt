-- What refusals are known by outside.
use Rattle.std.specs.Prelude.{◌≡◌, ℕ, None, Some}
use Rattle.rtgs_refusals.specs.declared.refusal_kind.RefusalKind.{RefusalKind}
use Rattle.rtgs_refusals.specs.Table.{entry_of}

-- the refusal has this number, and its reply over HTTP has this status
abbrev pub IsReplied : RefusalKind → ℕ → ℕ → Type 0
IsReplied kind number status = ((entry_of kind).number ≡ number) × ((entry_of kind).http_status ≡ Some status)

-- the refusal has this number, and no request over HTTP meets it
abbrev pub IsUnreplied : RefusalKind → ℕ → Type 0
IsUnreplied kind number = ((entry_of kind).number ≡ number) × ((entry_of kind).http_status ≡ None)
