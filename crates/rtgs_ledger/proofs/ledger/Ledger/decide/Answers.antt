use Rattle.std.proofs.Common.{◌≡◌, ◌∙◌, ◌&&◌, Ok, sym, ap, subst, inl}
use Rattle.std.specs.Prelude.{IfOk}
use Rattle.std.proofs.lemmas.Result.{IfErr-weaker, err_from_is_err_and}
use Rattle.rtgs_book.specs.declared.refusal.Refusal.TheVariants.{OutOfMemory}
use Rattle.rtgs_book.specs.declared.day.Day.{Day}
use Rattle.rtgs_book.specs.Books.{is_automatic}
use Rattle.rtgs_book.specs.Outcome.{is_done}
use Rattle.rtgs_book.specs.Step.{may_free}
use Rattle.rtgs_book.specs.declared.cores.cores.Core.{Core}
use Rattle.rtgs_book.specs.cores.Cores.{IsCoreOf}
use Rattle.rtgs_records.specs.Held.{Held}
use Rattle.rtgs_ledger.specs.Following.{day_after}
use Rattle.rtgs_ledger.specs.Kept.{IsCommandRefused, IsPrepared, IsPreparedByItself}
use Rattle.rtgs_ledger.proofs.Following.{all_parts, day_left, prepared_alone, prepared_calm, refused_alone}
use Rattle.rtgs_ledger.proofs.Rooms.{covers_itself, none_again}
use Rattle.rtgs_ledger.proofs.ledger.Ledger.decide.Goals as goal

pub returns-then-not-is_followed-clause-prepared : goal.returns-then-not-is_followed-clause-prepared
returns-then-not-is_followed-clause-prepared c book is calm found =
    let p = c.in_ok-own.ensures.prepared book is found in
    prepared_alone book c.args.self.now.core c.args.command.now c.in_ok-own.own c.in_ok-own.change p
    (ap (λ (d : Day). may_free c.args.command.now && is_done (Ok c.in_ok-own.own) && is_automatic d)
    (day_left book p.book c.args.self.now.core c.in_ok-own.change is p.leads)
    ∙ sym c.is_followed.ensures ∙ c.if-not-is_followed.true)

pub returns-in_err-own-clause-refused : goal.returns-in_err-own-clause-refused
returns-in_err-own-clause-refused c book is calm found =
    let passed_on = err_from_is_err_and c.from_residual.result c.from_residual.ensures.1 in
    rw (passed_on.1, passed_on.2) (refused_alone book c.args.command.now _ (c.in_err-own.ensures.refused book is found))

-- nothing can settle after the command
pub returns-then-stays_calm-clause-prepared : goal.returns-then-stays_calm-clause-prepared
returns-then-stays_calm-clause-prepared c book is calm found =
    let p = c.in_ok-own.ensures.prepared book is found in
    let change = c.in_ok-own.change in
    let k = all_parts (may_free c.args.command.now) (is_done (Ok c.in_ok-own.own))
    (is_automatic (day_after c.args.self.now.core.day change)) (sym c.is_followed.ensures ∙ c.if-not-is_followed.false)
    in
    let sound = c.own_step_keeps_soundness.ensures book p.book c.args.command.now (Ok c.in_ok-own.own) is.sound p.step
    in
    let fits = c.own_step_keeps_ranges.ensures book p.book c.args.command.now (Ok c.in_ok-own.own) c.judge.ensures
    is.fits p.step in
    let after = c.cores_follow_changes.ensures book p.book c.args.self.now.core change is p.leads sound fits
    (none_again change _ (c.in_ok-own.ensures.made _ (covers_itself _))) p.balanced in
    prepared_calm book c.args.self.now.core c.args.command.now c.in_ok-own.own change is p k.0
    c.in_ok-own.ensures.answered.0 k.1 k.2 c.greatest_exists.ensures sound
    (c.stays_calm.ensures.calm book p.book is p.leads after c.if-stays_calm.true calm)

pub returns-clause-prepared : goal.returns-clause-prepared
returns-clause-prepared c book is calm found =
    let core = ap (λ (h : Held). h.core) c.stays_calm.ensures.same in
    let p = c.in_ok-own.ensures.prepared book is found in
    subst (λ (k : Core). IfOk c.decide_following.result
    (λ (answer, change). IsPrepared book k c.args.command.now answer change)) core
    (c.decide_following.ensures.prepared book (subst (IsCoreOf book) (sym core) is) calm
    (subst (λ (k : Core). IsPreparedByItself book k c.args.command.now c.in_ok-own.own c.in_ok-own.change) (sym core)
    p))

-- what follows lacks memory after a command that would act
pub returns-clause-refused : goal.returns-clause-refused
returns-clause-refused c book is calm found =
    let core = ap (λ (h : Held). h.core) c.stays_calm.ensures.same in
    let p = c.in_ok-own.ensures.prepared book is found in
    let acted = (all_parts (may_free c.args.command.now) (is_done (Ok c.in_ok-own.own))
    (is_automatic (day_after c.args.self.now.core.day c.in_ok-own.change))
    (sym c.is_followed.ensures ∙ c.if-not-is_followed.false)).1 in
    IfErr-weaker c.decide_following.result (λ refusal. refusal ≡ OutOfMemory)
    (IsCommandRefused book c.args.command.now) (λ refusal e. inl (e, λ _. (c.in_ok-own.own, p.book, p.step, acted)))
    (c.decide_following.ensures.refused book (subst (IsCoreOf book) (sym core) is)
    (subst (λ (k : Core). IsPreparedByItself book k c.args.command.now c.in_ok-own.own c.in_ok-own.change) (sym core)
    p))
