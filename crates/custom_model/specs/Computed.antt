-- The computed values of an element's custom properties (css-variables-1, sections 2 and 3).
use Rattle.std.specs.Prelude.{ℕ, zero, suc, List, [], ◌∷◌, if◌then◌else◌, Option, Some, None}
use Rattle.std.specs.FinMap as map
use Rattle.base_model.specs.Options.{◌>>=◌}
use Rattle.base_model.specs.Text.{Characters}
use Rattle.syntax_model.specs.TokenKinds.{is_ident}
use Rattle.syntax_model.specs.Wide.{Wide, initial, wide_named}
use Rattle.custom_model.specs.Value.{CustomValue, CustomValues}
use Rattle.custom_model.specs.Expand.{Lookup, expansion}
use Rattle.custom_model.specs.Cycles.{DeclaredValues, is_cyclic}

-- the CSS-wide keyword that a value is
abbrev pub wide_of : CustomValue → Option Wide
wide_of (token ∷ []) = if is_ident token.kind then wide_named token.name else None
wide_of tokens = None

-- A keyword that arises by expansion (css-cascade-5, section 7.3): `initial` is the guaranteed-invalid value, and each
-- other one takes what is inherited.
abbrev pub by_keyword : Option CustomValue → CustomValue → Option Wide → Option CustomValue
by_keyword inherited tokens None = Some tokens
by_keyword inherited tokens (Some initial) = None
by_keyword inherited tokens (Some word) = inherited

abbrev pub after_keyword : Option CustomValue → CustomValue → Option CustomValue
after_keyword inherited tokens = by_keyword inherited tokens (wide_of tokens)

-- the value of a name, by what it is declared to be and by the values of the names that this refers to
abbrev pub computed_by
    : DeclaredValues → CustomValues → Lookup → Characters → Option (Option CustomValue) → Option CustomValue
computed_by declared inherited values name None = map.get inherited name
computed_by declared inherited values name (Some None) = None
computed_by declared inherited values name (Some (Some tokens)) =
    if is_cyclic declared name then None
    else (do
      result ← expansion values tokens
      after_keyword (map.get inherited name) result)

-- the same with what it is declared to be looked up
abbrev pub computed_over : DeclaredValues → CustomValues → Lookup → Lookup
computed_over declared inherited values name =
    computed_by declared inherited values name (map.get declared name)

-- in so many steps at most
abbrev pub computed_within : ℕ → DeclaredValues → CustomValues → Lookup
computed_within zero declared inherited name = None
computed_within (suc most) declared inherited name =
    computed_over declared inherited (computed_within most declared inherited) name

-- The computed value of a name. Off the cycles there are no more names on a walk than are declared, and one beyond.
unfoldable pub computed : DeclaredValues → CustomValues → Lookup
computed declared inherited name = computed_within (suc (map.len declared)) declared inherited name

abbrev pub with_value : Characters → Option CustomValue → CustomValues → CustomValues
with_value name None values = map.remove values name
with_value name (Some value) values = map.insert values name value

abbrev pub with_all : Lookup → List Characters → CustomValues → CustomValues
with_all value [] values = values
with_all value (name ∷ names) values = with_value name (value name) (with_all value names values)

-- what is inherited, and in the place of it what is declared
unfoldable pub resolved : DeclaredValues → CustomValues → CustomValues
resolved declared inherited = with_all (computed declared inherited) (map.keys declared) inherited
