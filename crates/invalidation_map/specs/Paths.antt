-- Where paths lead.
use Rattle.std.specs.Prelude.{◌≡◌, ℕ, List}
use Rattle.std.specs.List.{list_any}
use Rattle.scene_model.specs.Element.{Element}
use Rattle.edit_model.specs.Dependencies.{Step, leads, reaches}
use Rattle.scene_model.specs.Numbers.{is_in}
use Rattle.invalidation_map.specs.EditMembers.{BothHaveRoom}
use Rattle.invalidation_map.specs.Members.{Members}
use Rattle.invalidation_map.specs.Steps.{AreElements}

-- the elements to which one of others leads by a step
pub record AreStepped (doc : List Element) (step : Step) (from new : List ℕ) : Type 0 where
  pub each : (x : ℕ) → is_in x new ≡ list_any (λ y. leads doc step y x) from

-- the elements to which one of others leads by a path
pub record AreReached (doc : List Element) (path : List Step) (from new : List ℕ) : Type 0 where
  pub each : (x : ℕ) → is_in x new ≡ list_any (λ y. reaches doc path y x) from

-- a set has those to which a step leads, in place of what it had
pub record TakesStep (doc : List Element) (step : Step) (from : List ℕ) (old new : Members) : Type 0 where
  pub stepped : AreStepped doc step from new.items
  pub elements : AreElements doc new.items
  pub room : new.room ≡ old.room

-- a set has those to which a path leads from what it had; it and the one beside it have the room that both had
pub record WalksPath (doc : List Element) (path : List Step) (from next led beside : Members) : Type 0 where
  pub reached : AreReached doc path from.items led.items
  pub elements : AreElements doc led.items
  pub room : (room : ℕ) → BothHaveRoom room from next → BothHaveRoom room led beside
