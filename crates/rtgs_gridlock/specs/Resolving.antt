-- A resolution between two turns.
use Rattle.std.specs.Prelude.{List, length, ◌≡◌, ℕ, ◌<◌, ◌≤ℤ◌}
use Rattle.rtgs_gridlock.specs.declared.queues.Payment.{Payment}
use Rattle.rtgs_gridlock.specs.declared.positions.Position.{Position}
use Rattle.rtgs_gridlock.specs.declared.workspace.Workspace.{Workspace}
use Rattle.rtgs_gridlock.specs.Choices.{position_of, IsWithin}
use Rattle.rtgs_gridlock.specs.Fundings.{HasEnough, AreFundings}
use Rattle.rtgs_gridlock.specs.Slack.{IsCeiling, risen}
use Rattle.rtgs_gridlock.specs.Workspaces.{participants_of, choice_of, slack_at, IsUntested}

-- The present choice takes queue beginnings and is above all feasible choices, also above those of
-- positions that are higher by less than the slacks. The fundings are those that it gives, and who
-- was tested since has enough.
pub record IsResolving (positions : List Position) (queues : List (List Payment)) (workspace : Workspace) : Type 0 where
  pub participants : participants_of workspace ≡ length queues
  pub floored : (p : ℕ) → p < length queues → (position_of positions p).floor ≤ℤ (position_of positions p).balance
  pub within : IsWithin queues (choice_of workspace)
  pub slack : (p : ℕ) → p < length queues → 0 < slack_at workspace p
  pub ceiling : IsCeiling queues (choice_of workspace) (risen positions (slack_at workspace))
  pub fundings : AreFundings positions queues (choice_of workspace) workspace.fundings.list
  pub inside : (p : ℕ) → IsUntested workspace p → p < length queues
  pub tested : (p : ℕ) → p < length queues → (IsUntested workspace p → ⊥) → HasEnough workspace.fundings.list p
