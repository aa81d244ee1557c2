-- What a parse by the desk's command line meets.
use Rattle.std.proofs.Common.{◌≡◌, ◌∙◌, ◌⊎◌, ◌&&◌, inl, inr, ap, refl, subst, map, codes}
use Rattle.std.proofs.Common.{Bool, true, false, not, Option, Some, None, is_some, option_map}
use Rattle.std.specs.Prelude.{IfSome}
use Rattle.std.specs.List.{Any}
use Rattle.clap.specs.Words.{App, IsParsedFrom, MeetsSubcommandOf, Shape, Text, app_of}
use Rattle.clap.specs.declared.builder.command.Command.{Command}
use Rattle.clap.specs.declared.builder.command.Command.TheViews.{out-Command}
use Rattle.clap.specs.declared.parser.matches.ArgMatches.{ArgMatches}
use Rattle.rtgs_cli_arguments.specs.CommandLine.{IsLine, MeetsOne, desk, names}

-- a command of which that is plain takes no subcommand but its own
closed : (a b rest : Bool) → (a && (not b && rest)) ≡ true → b ≡ true → ⊥
closed false b rest plain is_open = let bad : false ≡ true = plain in cc
closed true true rest plain is_open = let bad : false ≡ true = plain in cc
closed true false rest plain is_open = let bad : false ≡ true = is_open in cc

named : {A : Type 0} (f : A → Text) (P : Text → Type 0) (met : Option A) → is_some met ≡ true
    → IfSome (option_map f met) P → (name : Text) × (option_map f met ≡ Some name) × P name
named f P None used holds = let bad : false ≡ true = used in cc
named f P (Some x) used holds = (f x, refl, holds)

-- a parse by the desk's command line meets one of its subcommands, or `help`
pub meets_one : (command : Command) (found : ArgMatches) → IsLine desk command → IsParsedFrom command found
    → MeetsSubcommandOf command found → MeetsOne found
meets_one command found is parsed meets =
    let used = (parsed.parsed (parsed.from.globals ∙ is.1)).checked.subcommand
    (parsed.from.needs_subcommand ∙ ap (λ (a : App). a.top.subcommand_required) is.0) in
    let met = named _ _ _ used meets in
    (met.0, met.1, one met.0 met.2)
  where
    one : (name : Text) → Any (λ x. x ≡ name) (map (λ (s : Shape). s.name) (app_of command).subs)
        ⊎ ((name ≡ codes "help") ⊎ ((out-Command command).allow_external_subcommands ≡ true))
        → Any (λ known. known ≡ name) names ⊎ (name ≡ codes "help")
    one name (inl own) = inl (subst (λ (a : App). Any (λ x. x ≡ name) (map (λ (s : Shape). s.name) a.subs)) is.0 own)
    one name (inr (inl help)) = inr help
    one name (inr (inr any)) = absurd (closed _ _ _ (ap (λ (a : App). a.top.is_plain) is.0) any)
