-- What each refusal of a text is known by.
use Rattle.rtgs_refusals.specs.declared.refusal_kind.RefusalKind.{RefusalKind}
use Rattle.rtgs_refusals.specs.declared.refusal_kind.RefusalKind.TheVariants as kind
use Rattle.rtgs_money.specs.declared.lexical.Lexical.{Lexical}
use Rattle.rtgs_money.specs.declared.lexical.Lexical.TheVariants.{BadCode, BadReference, BadAmount, BadName, BadKey}
use Rattle.rtgs_money.specs.declared.lexical.Lexical.TheVariants.{BadDate}

abbrev pub lexical_kind_of : Lexical → RefusalKind
lexical_kind_of BadCode = kind.BadCode
lexical_kind_of BadReference = kind.BadReference
lexical_kind_of BadAmount = kind.BadAmount
lexical_kind_of BadName = kind.BadName
lexical_kind_of BadKey = kind.BadKey
lexical_kind_of BadDate = kind.BadDate
