-- What a keeper's look-up leaves of the desk.
use Rattle.std.proofs.Common.{◌≡◌, ◌≢◌, ◌⊎◌, true, false, Bool, Option, Some, None, Result, Ok, Err, refl, sym, ap, ◌∙◌}
use Rattle.std.proofs.Common.{subst, inl, inr, ⊎_elim, true≢false}
use Rattle.std.specs.Prelude.{IfSome}
use Rattle.rtgs_book.specs.declared.fault.Fault.{Fault}
use Rattle.rtgs_book.specs.declared.fault.Fault.TheVariants as faults
use Rattle.rtgs_book.specs.declared.refusal.Refusal.{Refusal}
use Rattle.rtgs_book.specs.declared.refusal.Refusal.TheVariants.{OutOfMemory, StoreFault, Failed}
use Rattle.rtgs_book.specs.declared.rule.Rule.{Rule}
use Rattle.rtgs_book.specs.declared.cores.cores.Core.{Core}
use Rattle.rtgs_book.specs.cores.Cores.{IsCoreOf}
use Rattle.rtgs_keeper.specs.Calls.{OnlyReads}
use Rattle.rtgs_keeper.specs.declared.keeper.Keeper.{Ghosts}
use Rattle.rtgs_statements.specs.Reads.{LeavesRead}
use Rattle.rtgs_desk.specs.Holding.{Holds, IsLeft, KeepsAsBefore}
use Rattle.rtgs_desk.specs.Leaving.{StandStill}
use Rattle.rtgs_desk.specs.LookUps.{LooksUp, refusal_of}
use Rattle.rtgs_desk.specs.Seen.{Seen}
use Rattle.rtgs_desk.proofs.HoldingLemmas.{in_memory, holding, works_held, keeps_held, calm_held}

-- what a keeper ensures of a look-up with this result
pub record Looks {K : Type 0} (g : Ghosts K) (X : Type 0) (old new : K) (result : Result X Fault) : Type 0 where
  pub reads : OnlyReads g.content g.leaves g.is_honest g.is_whole g.leaves_no_more g.has_failed old new result
  pub kinds : (result ≢ Err faults.NotADeskFile) × ((rule : Rule) → result ≢ Err (faults.Inconsistent rule))

untouched : {K : Type 0} (g : Ghosts K) → StandStill g → (keeper : K) → KeepsAsBefore g keeper keeper
untouched g still keeper = record {
  kept = λ book kept. kept;
  stops = λ book left. left;
  untouched = (still keeper).unmoved;
}

-- a desk that has failed looks nothing up
pub failed_before : {K : Type 0} (g : Ghosts K) → StandStill g → (keeper : K) (core : Core) (desk : Seen K) (failed :
    Bool)
    → record { keeper = keeper; core = core } ≡ desk → failed ≡ g.has_failed keeper → failed ≡ true
    → LooksUp g desk desk (Some Failed)
failed_before {K} g still keeper core desk failed view says fails =
    let gone : g.has_failed desk.keeper ≡ true = ap (λ (s : Seen K). g.has_failed s.keeper) (sym view) ∙ sym says ∙
    fails in
    record {
      core = refl;
      honest = λ h. h;
      kept = λ honest book held no. held;
      left = λ honest book held. absurd (let works = works_held g desk book held in cc);
      keeper = λ honest no. untouched g still desk.keeper;
      fault = λ e. absurd (cc);
      only_fault = λ no. refl;
      failed = λ e. (refl, refl);
      kinds = λ e. absurd (cc);
    }

pub looks_at_nothing : {K : Type 0} (g : Ghosts K) → StandStill g → (keeper : K) (core : Core) (desk : Seen K)
    (failed : Bool) → record { keeper = keeper; core = core } ≡ desk → failed ≡ g.has_failed keeper → failed ≡ false
    → LooksUp g desk desk None
looks_at_nothing {K} g still keeper core desk failed view says working =
    let works : g.has_failed desk.keeper ≡ false = ap (λ (s : Seen K). g.has_failed s.keeper) (sym view) ∙ sym says
    ∙ working in
    record {
      core = refl;
      honest = λ h. h;
      kept = λ honest book held no. held;
      left = λ honest book held. record {
        after_a_crash = λ found left. (still desk.keeper).settled book found (keeps_held g desk book held) left;
        whole_after_a_crash = (still desk.keeper).whole book (keeps_held g desk book held);
      };
      keeper = λ honest no. untouched g still desk.keeper;
      fault = λ e. absurd (cc);
      only_fault = λ no. refl;
      failed = λ e. absurd (cc);
      kinds = λ e. tt;
    }

-- the keeper did not fail in the look-up
looked : {K : Type 0} (g : Ghosts K) → StandStill g → (X : Type 0) (old new : Seen K) (result : Result X Fault)
    (ended : Option Refusal) → Looks g X old.keeper new.keeper result → new.core ≡ old.core
    → g.has_failed old.keeper ≡ false → result ≢ Err faults.StoreFault → (ended ≡ None) ⊎ (ended ≡ Some OutOfMemory)
    → LooksUp g old new ended
looked g still X old new result ended looks core works quiet ends = record {
  core = core;
  honest = looks.reads.honest;
  kept = λ honest book held no. holding g new book (looks.reads.only_fault quiet ∙ works)
      (looks.reads.same honest book (keeps_held g old book held) quiet)
      (subst (IsCoreOf book) (sym core) (in_memory g old book held)) (calm_held g old book held);
  left = λ honest book held. record {
    after_a_crash = λ found left. (still old.keeper).settled book found (keeps_held g old book held)
        (looks.reads.stops honest found left);
    whole_after_a_crash = looks.reads.whole honest ((still old.keeper).whole book (keeps_held g old book held));
  };
  keeper = λ honest no. record {
    kept = λ book kept. looks.reads.same honest book kept quiet;
    stops = λ book left. looks.reads.stops honest book left;
    untouched = looks.reads.untouched honest;
  };
  fault = λ e. absurd (⊎_elim (λ f. let no : ⊥ = cc in no) (λ f. let no : ⊥ = cc in no) ends);
  only_fault = λ no. looks.reads.only_fault quiet;
  failed = λ e. absurd (cc);
  kinds = λ e. ⊎_elim (λ f. subst (λ o. IfSome o (λ refusal. (refusal ≡ OutOfMemory) ⊎ (refusal ≡ StoreFault))) (sym
      f) tt)
      (λ f. subst (λ o. IfSome o (λ refusal. (refusal ≡ OutOfMemory) ⊎ (refusal ≡ StoreFault))) (sym f) (inl refl))
      ends;
}

module _ {K : Type 0} (g : Ghosts K) (still : StandStill g) {X : Type 0} (keeper new : K) (core : Core) (old : Seen K)
    (failed : Bool) (result : Result X Fault) (view : record { keeper = keeper; core = core } ≡ old)
    (says : failed ≡ g.has_failed keeper) (working : failed ≡ false) (looks : Looks g X keeper new result) where
  abbrev before : Seen K
  before = record { keeper = keeper; core = core }

  abbrev after : Seen K
  after = record { keeper = new; core = core }

  seen : (ended : Option Refusal) → LooksUp g before after ended → LooksUp g old after ended
  seen ended looks = subst (λ (s : Seen K). LooksUp g s after ended) view looks

  -- it gave what was asked for
  pub looked_up : (x : X) → result ≡ Ok x → LooksUp g old (record { keeper = new; core = core }) None
  looked_up x e = seen None
      (looked g still X before after result None looks refl (sym says ∙ working) (λ f. cc) (inl refl))

  failing : result ≡ Err faults.StoreFault → LooksUp g before after (Some StoreFault)
  failing e = record {
    core = refl;
    honest = looks.reads.honest;
    kept = λ honest book held no. absurd (no refl);
    left = λ honest book held. record {
      after_a_crash = λ found left. (still keeper).settled book found (keeps_held g before book held)
          (looks.reads.stops honest found left);
      whole_after_a_crash = looks.reads.whole honest ((still keeper).whole book (keeps_held g before book held));
    };
    keeper = λ honest no. absurd (no refl);
    fault = λ f. (sym says ∙ working, looks.reads.fault e);
    only_fault = λ no. absurd (no refl);
    failed = λ f. absurd (true≢false (sym f ∙ sym says ∙ working));
    kinds = λ f. inr refl;
  }

  pub not_looked_up : (met : Fault) → result ≡ Err met
      → LooksUp g old (record { keeper = new; core = core }) (Some (refusal_of met))
  not_looked_up faults.OutOfMemory e = seen (Some OutOfMemory)
      (looked g still X before after result (Some OutOfMemory) looks refl (sym says ∙ working) (λ f. cc) (inr refl))
  not_looked_up faults.StoreFault e = seen (Some StoreFault) (failing e)
  not_looked_up faults.NotADeskFile e = absurd (looks.kinds.0 e)
  not_looked_up (faults.Inconsistent rule) e = absurd (looks.kinds.1 rule e)

-- only a desk that had failed answers that it had
had_failed : {K : Type 0} (g : Ghosts K) (old new : Seen K) (ended : Option Refusal) → LooksUp g old new ended
    → ended ≡ Some Failed → g.has_failed old.keeper ≡ true
had_failed g old new ended looked is = by (g.has_failed old.keeper) refl
  where
    by : (b : Bool) → g.has_failed old.keeper ≡ b → g.has_failed old.keeper ≡ true
    by true failed = failed
    by false works = absurd (⊎_elim (λ e. let no : ⊥ = cc in no) (λ e. let no : ⊥ = cc in no)
        (subst (λ o. IfSome o (λ refusal. (refusal ≡ OutOfMemory) ⊎ (refusal ≡ StoreFault))) is (looked.kinds works)))

-- what a text asks of a read
pub reads : {K : Type 0} (g : Ghosts K) (old new : Seen K) (ended : Option Refusal) → LooksUp g old new ended
    → LeavesRead (λ (desk : Seen K). Holds g desk) (λ (desk : Seen K). IsLeft g desk)
    (λ (desk : Seen K). g.is_honest desk.keeper) (λ (desk : Seen K). g.has_failed desk.keeper) old new ended
reads g old new ended looked = record {
  honest = looked.honest;
  held = looked.kept;
  left = looked.left;
  fault = looked.fault;
  only_fault = looked.only_fault;
  failed = λ failed. (looked.failed failed).1;
  only_failed = had_failed g old new ended looked;
  kinds = looked.kinds;
  failed_kinds = λ failed. subst (λ o. IfSome o (λ refusal. (refusal ≡ OutOfMemory) ⊎ (refusal ≡ Failed)))
      (sym (looked.failed failed).0) (inr refl);
}
