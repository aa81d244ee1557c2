-- Sessions one after another are a run.
use Rattle.std.proofs.Common.{◌≡◌, List, [], ◌∷◌, ◌++◌, length, Option, Some, None, refl, sym, subst, inl, inr, ⊎_elim}
use Rattle.std.specs.List.{AllByRecursion}
use Rattle.rtgs_book.specs.declared.book.Book.{Book}
use Rattle.rtgs_book.specs.declared.command.Command.{Command}
use Rattle.rtgs_book.specs.Calm.{IsCalm}
use Rattle.rtgs_book.specs.Outcome.{Reply}
use Rattle.rtgs_book.specs.Run.{Run}
use Rattle.rtgs_book.specs.Session.{Session, IsSession, IsLife, MayFind, answered, answers, open_command}
use Rattle.rtgs_book.specs.Soundness.{IsSound}
use Rattle.rtgs_book.specs.Step.{Step}
use Rattle.rtgs_laws.specs.repeats.Lives.{MayAct, AreLived}
use Rattle.rtgs_laws.proofs.repeats.Runs.{StepKeepsSoundness}

pub run_joined : (old mid new : Book) (first rest : List Command) (one two : List Reply) → Run old first one mid
    → Run mid rest two new → Run old (first ++ rest) (one ++ two) new
run_joined old mid new [] rest [] two r k = subst (λ b. Run b rest two new) r k
run_joined old mid new [] rest (reply ∷ one) two r k = absurd r
run_joined old mid new (command ∷ first) rest [] two r k = absurd r
run_joined old mid new (command ∷ first) rest (reply ∷ one) two r k =
    (r.0, r.1, run_joined r.0 mid new first rest one two r.2 k)

-- what is found is what the open command led to, if it acted
found_by : (last found : Book) (one : Option Command) → MayFind last one found
    → (acted : List Command) × (unheard : List Reply) × MayAct one acted × (length unheard ≡ length acted)
    × Run last acted unheard found
found_by last found None h = ([], [], refl, refl, h)
found_by last found (Some command) h =
    ⊎_elim
    (λ same. ([], [], inl refl, refl, same))
    (λ step. (command ∷ [], step.0 ∷ [], inr refl, refl, (found, step.1, refl))) h

pub lived : (book found : Book) (sessions : List Session) → IsLife book sessions found
    → (commands : List Command) × (replies : List Reply) × AreLived sessions commands replies
    × Run book commands replies found
lived book found [] h = ([], [], (refl, refl), h)
lived book found (s ∷ later) h =
    let one = found_by h.1.last s.found (open_command s.commands s.replies) h.1.found in
    let rest = lived s.found found later h.2 in
    let from_start = run_joined s.start h.1.last found (answered s.commands s.replies) (one.0 ++ rest.0)
    (answers s.replies) (one.1 ++ rest.1) h.1.run
    (run_joined h.1.last s.found found one.0 rest.0 one.1 rest.1 one.4 rest.3) in (
      answered s.commands s.replies ++ (one.0 ++ rest.0),
      answers s.replies ++ (one.1 ++ rest.1),
      (one.0, rest.0, one.1, rest.1, one.2, one.3, refl, refl, rest.2),
      subst (λ b. Run b (answered s.commands s.replies ++ (one.0 ++ rest.0)) (answers s.replies ++ (one.1 ++ rest.1))
          found) h.0 from_start,
    )

-- ---- calm

abbrev pub StepKeepsCalm : Type 0
StepKeepsCalm = (old new : Book) (command : Command) (reply : Reply) → IsSound old → IsCalm old
    → Step old command reply new → IsCalm new

abbrev pub RunKeepsSoundness : Type 0
RunKeepsSoundness = (old new : Book) (commands : List Command) (replies : List Reply) → IsSound old
    → Run old commands replies new → IsSound new

abbrev pub RunKeepsCalm : Type 0
RunKeepsCalm = (old new : Book) (commands : List Command) (replies : List Reply) → IsSound old → IsCalm old
    → Run old commands replies new → IsCalm new

-- what is found is calm, whether the open command acted or not
may_calm : StepKeepsCalm → (last found : Book) (one : Option Command) → IsSound last → IsCalm last
    → MayFind last one found → IsCalm found
may_calm calms last found None sound calm h = subst IsCalm (sym h) calm
may_calm calms last found (Some command) sound calm h =
    ⊎_elim (λ same. subst IsCalm (sym same) calm) (λ step. calms last found command step.0 sound calm step.1) h

pub found_calm : StepKeepsCalm → RunKeepsSoundness → RunKeepsCalm → (s : Session) → IsSound s.start → IsCalm s.start
    → IsSession s → IsCalm s.found
found_calm calms sounds runs s sound calm h =
    may_calm calms h.last s.found (open_command s.commands s.replies)
    (sounds s.start h.last (answered s.commands s.replies) (answers s.replies) sound h.run)
    (runs s.start h.last (answered s.commands s.replies) (answers s.replies) sound calm h.run) h.found

may_sound : StepKeepsSoundness → (last found : Book) (one : Option Command) → IsSound last → MayFind last one found
    → IsSound found
may_sound law last found None sound h = subst IsSound (sym h) sound
may_sound law last found (Some command) sound h =
    ⊎_elim (λ same. subst IsSound (sym same) sound) (λ step. law last found command step.0 sound step.1) h

pub lived_calm : StepKeepsSoundness → StepKeepsCalm → RunKeepsSoundness → RunKeepsCalm → (book found : Book)
    (sessions : List Session) → IsSound book → IsCalm book → IsLife book sessions found
    → AllByRecursion (λ (s : Session). IsCalm s.found) sessions × IsCalm found
lived_calm law calms sounds runs book found [] sound calm h = (tt, subst IsCalm (sym h) calm)
lived_calm law calms sounds runs book found (s ∷ later) sound calm h =
    let sound_start = subst IsSound (sym h.0) sound in
    let calm_here = found_calm calms sounds runs s sound_start (subst IsCalm (sym h.0) calm) h.1 in
    let sound_last = sounds s.start h.1.last (answered s.commands s.replies) (answers s.replies) sound_start h.1.run in
    let sound_here = may_sound law h.1.last s.found (open_command s.commands s.replies) sound_last h.1.found in
    let rest = lived_calm law calms sounds runs s.found found later sound_here calm_here h.2 in
    ((calm_here, rest.0), rest.1)
