-- What is kept of computed styles.
use Rattle.std.specs.Prelude.{◌≡◌, ◌<◌, ℕ, ℤ, Bool, false, if◌then◌else◌, List, length, Option, Some, None, option_map, slice_get}
use Rattle.std.specs.FinMap as finmap
use Rattle.std.specs.List.{All}
use Rattle.std.specs.Str.{chars}
use Rattle.std.specs.String.{string_bytes}
use Rattle.base_model.specs.Text.{Characters}
use Rattle.value_model.specs.Style.{Style, inherited_part}
use Rattle.sheet_model.specs.Sources.{Sources}
use Rattle.cascade_model.specs.Cascade.{cascaded}
use Rattle.cascade_model.specs.Custom.{custom_values}
use Rattle.cascade_model.specs.Key.{Matched}
use Rattle.takes_model.specs.Takes.{takes}
use Rattle.style_value.specs.Parts.{part_at}
use Rattle.element_styler.specs.MatchedRules.{declared_by}
use Rattle.element_styler.specs.declared.matched_rules.MatchedRule.{MatchedRule}
use Rattle.element_styler.specs.declared.cache.Over.{Over}
use Rattle.element_styler.specs.declared.cache.Over.TheVariants.{Part, Parent}
use Rattle.element_styler.specs.declared.cache.Known.{Known}
use Rattle.element_styler.specs.declared.cache.Known.TheVariants.{Style as KnownStyle}
use Rattle.element_styler.specs.declared.cache.StyleKey.{StyleKey}
use Rattle.element_styler.specs.declared.cache.Entry.{Entry}
use Rattle.element_styler.specs.declared.cache.Pair.{Pair}
use Rattle.element_styler.specs.declared.cache.MatchedRulesCache.{MatchedRulesCache}
use Rattle.element_styler.specs.declared.styler.ComputedStyle.{ComputedStyle}

-- What a style is known for: parents, the rules that match, and the text of the `style` attribute, if there is one.
pub record KnownFor : Type 0 where
  pub over : Over
  pub rules : List MatchedRule
  pub text : Option Characters

-- so a key that is lent says
abbrev pub lent_key : StyleKey → KnownFor
lent_key key = record { over = key.over; rules = key.matched.now; text = option_map (λ t. chars t.now) key.text }

-- and the one of an entry
abbrev pub kept_text : Entry → Option Characters
kept_text entry = if entry.has_text then Some (chars (string_bytes entry.text)) else None

abbrev pub kept_key : Entry → KnownFor
kept_key entry = record { over = entry.over; rules = entry.matched.items; text = kept_text entry }

-- a parent has this style: each one with a part, or one alone
abbrev pub IsOver : List Style → Over → Style → Type 0
IsOver all (Part number) over = part_at all number ≡ Some (inherited_part over)
IsOver all (Parent number) over = slice_get all number ≡ Some over

-- where the number of either stands
abbrev pub number_of : Over → ℕ
number_of (Part number) = number
number_of (Parent number) = number

-- A style is that over the style of each such parent, by its number among all.
pub record IsRight (sources : Sources) (rem : ℤ) (all : List Style) (key : KnownFor) (own : ℕ) : Type 0 where
  pub there : number_of key.over < length all
  pub own_is : (over : Style) → IsOver all key.over over
      → slice_get all own ≡ Some (cascaded false over rem (declared_by sources key.rules key.text))

-- so is what is known, if it is a style; whether the element takes claims nothing
abbrev pub IsKnown : Sources → ℤ → List Style → KnownFor → Known → Type 0
IsKnown sources size table key known =
    (style : ℕ) → known ≡ KnownStyle style → IsRight sources size table key style

abbrev pub HasRight : Sources → ℤ → List Style → Entry → Type 0
HasRight sources size table entry = IsKnown sources size table (kept_key entry) entry.known

-- and of both entries of a slot
pub record HaveRight (sources : Sources) (size : ℤ) (table : List Style) (pair : Pair) : Type 0 where
  pub newer : HasRight sources size table pair.newer
  pub older : HasRight sources size table pair.older

abbrev pub AllRight : Sources → ℤ → List Style → MatchedRulesCache → Type 0
AllRight sources size table cache = All (HaveRight sources size table) cache.pairs.items

-- an element that these declarations apply to takes of a parent with this style
abbrev pub takes_of : Style → List Matched → Bool
takes_of over ds = takes (finmap.get (custom_values over.custom ds)) ds

-- This was computed over that style for these declarations, and is in the table.
pub record IsComputed (size : ℤ) (table : List Style) (over : Style) (ds : List Matched) (computed : ComputedStyle)
    : Type 0 where
  pub style : slice_get table computed.style ≡ Some (cascaded false over size ds)
  pub takes : computed.takes ≡ takes_of over ds
