-- What a declaration that applies to an element stands for.
use Rattle.std.specs.Prelude.{ℕ, ◌+◌, ◌==◌, List, [], ◌∷◌, Bool, true, false}
use Rattle.std.specs.List.{list_any}
use Rattle.base_model.specs.Origin.{origin_rank}
use Rattle.sheet_model.specs.Declared as said
use Rattle.sheet_model.specs.Declared.{longhand, custom}
use Rattle.cascade_model.specs.Key as model
use Rattle.layer_order.specs.View.{origin_of}
use Rattle.property_table.specs.View.{property_of}
use Rattle.shorthands.specs.View.{given_of, taker_of, declared_as, declared_of, declared_longhands, offset_of}
use Rattle.shorthands.specs.declared.declared.Declared.{Declared}
use Rattle.shorthands.specs.declared.declared.Target.{Target}
use Rattle.shorthands.specs.declared.declared.Target.TheVariants.{Longhand, Shorthand, Custom}
use Rattle.cascade_core.specs.declared.matched.CascadePriority.{CascadePriority}
use Rattle.cascade_core.specs.declared.matched.LentMatched.{LentMatched}
use Rattle.cascade_core.specs.declared.held.HeldDeclaration.{HeldDeclaration}
use Rattle.cascade_core.specs.declared.held.HeldDeclaration.TheVariants.{Lent, Owned}
use Rattle.cascade_core.specs.declared.held.Matched.{Matched}
use Rattle.cascade_core.specs.Rollback as rollback
use Rattle.cascade_core.specs.declared.level.Level.{Level}
use Rattle.cascade_core.specs.declared.rollback.RollbackBound.{RollbackBound}
use Rattle.cascade_core.specs.declared.rollback.RollbackBound.TheVariants.{Unbounded, BelowOrigin, BelowLevel}

-- a declaration of a longhand or a custom property, as it applies with this priority, at this place of its sheet's text
abbrev pub applied : CascadePriority → ℕ → said.Declared → model.Matched
applied priority index declared = record {
  target = declared.target;
  given = declared.given;
  origin = origin_of priority.origin;
  important = declared.important;
  attached = priority.attached;
  layer = priority.layer;
  specificity = priority.specificity;
  sheet = priority.sheet;
  position = priority.position;
  index = index;
}

abbrev pub all_applied : CascadePriority → ℕ → List said.Declared → List model.Matched
all_applied priority index [] = []
all_applied priority index (declared ∷ others) =
    applied priority index declared ∷ all_applied priority (index + 1) others

-- one for each longhand that it sets, and one for a custom property
abbrev pub lent_of : LentMatched → List model.Matched
lent_of d = all_applied d.priority d.priority.index (declared_of d.declared.now)

-- the declaration that is held
abbrev pub held_of : HeldDeclaration → Declared
held_of (Lent declared) = declared.now
held_of (Owned declared) = declared

-- those of a declaration that is held
abbrev pub matched_of : Matched → List model.Matched
matched_of d = all_applied d.priority d.priority.index (declared_of (held_of d.declared))

-- the declared value of each of them
abbrev pub given_in : Declared → said.Given
given_in declared = given_of (taker_of declared.target) declared.given

-- that of a target
abbrev pub for_target : said.Target → ℕ → LentMatched → model.Matched
for_target target index d = applied d.priority index (declared_as d.declared.now target)

-- that of a property
abbrev pub entry_of : ℕ → LentMatched → model.Matched
entry_of property d = for_target (longhand property) (d.priority.index + offset_of d.declared.now property) d

-- what all of them have in common, and the name of a custom property
abbrev pub name_seen : Target → said.Target
name_seen (Longhand id) = longhand (property_of id)
name_seen (Shorthand short) = longhand 0
name_seen (Custom name) = custom name

abbrev pub matched_placed : ℕ → LentMatched → model.Matched
matched_placed index d = for_target (name_seen d.declared.now.target) index d

abbrev pub head_of : LentMatched → model.Matched
head_of d = matched_placed d.priority.index d

-- whether a property is among those that it sets
abbrev pub is_among : ℕ → LentMatched → Bool
is_among property d = list_any (λ other. other == property) (declared_longhands d.declared.now)

abbrev pub is_custom_target : Target → Bool
is_custom_target (Longhand id) = false
is_custom_target (Shorthand short) = false
is_custom_target (Custom name) = true

abbrev pub is_of_custom : LentMatched → Bool
is_of_custom d = is_custom_target d.declared.now.target

abbrev pub level_seen : Level → rollback.Level
level_seen level = record {
  rank = origin_rank (origin_of level.origin);
  attached = level.attached;
  layer = level.layer;
}

abbrev pub bound_seen : RollbackBound → rollback.Bound
bound_seen Unbounded = rollback.unbounded
bound_seen (BelowOrigin origin) = rollback.below_origin (origin_rank (origin_of origin))
bound_seen (BelowLevel level) = rollback.below_level (level_seen level)
