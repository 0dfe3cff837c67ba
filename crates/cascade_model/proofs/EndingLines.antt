-- What declarations come to stands within a line, where what each of them gives does.
use Rattle.std.proofs.Common.{◌≡◌, ℕ, zero, suc, Bool, List, length, filter, map, Option, Some, None, IfSome, nat_lt, refl}
use Rattle.std.specs.List.{AllByRecursion}
use Rattle.std.specs.Option.{option_map_or}
use Rattle.std.specs.Ordering.{is_lt}
use Rattle.base_model.specs.Origin.{origin_rank}
use Rattle.base_model.proofs.Lists.{found_holds}
use Rattle.scene_model.proofs.Lists.{each-filter}
use Rattle.syntax_model.specs.Wide.{Wide, inherit, initial, unset, revert, revert_layer}
use Rattle.custom_model.specs.Value.{CustomValue, unplaced}
use Rattle.custom_model.specs.Expand.{Lookup, expansion}
use Rattle.custom_model.specs.Computed.{wide_of}
use Rattle.custom_model.proofs.WritableLemmas.{Writable}
use Rattle.sheet_model.specs.Declared.{Given, wide, exactly, referring, holding}
use Rattle.sheet_model.specs.Shorthands.{PropertyName, value_for}
use Rattle.sheet_model.proofs.LineLemmas.{IsLineGiven, value_for_within}
use Rattle.value_model.specs.Value.{Value}
use Rattle.value_model.proofs.LineLemmas.{IsLineValue}
use Rattle.cascade_model.specs.Key.{Matched, level_cmp}
use Rattle.cascade_model.specs.Winner.{is_greatest, greatest_of}
use Rattle.cascade_model.specs.Ending.{Ending, inherits, initially, unsets, ends_at, Meaning, keyword, value, meaning_of, custom_meaning, value_or_unset, expanded_meaning, referring_meaning, of_lower_origin, of_lower_level, ending_on, ending_by, ending_within, ending_of}

abbrev pub IsLineMatched : Matched → Type 0
IsLineMatched d = IsLineGiven d.given

abbrev pub AreLineMatched : List Matched → Type 0
AreLineMatched ds = AllByRecursion IsLineMatched ds

pub kept_matched : (p : Matched → Bool) (ds : List Matched) → AreLineMatched ds → AreLineMatched (filter p ds)
kept_matched p ds h = each-filter IsLineMatched IsLineMatched p (λ d _ k. k) ds h

-- what holds of each value that a declaration means holds of what the declarations come to
module _ {A : Type 0} (P : A → Type 0) where
  abbrev pub MeaningHolds : Meaning A → Type 0
  MeaningHolds (keyword word) = Unit
  MeaningHolds (value given) = P given

  abbrev pub EndingHolds : Ending A → Type 0
  EndingHolds inherits = Unit
  EndingHolds initially = Unit
  EndingHolds unsets = Unit
  EndingHolds (ends_at given) = P given

  module _ (means : Given → Meaning A) (each : (given : Given) → IsLineGiven given → MeaningHolds (means given)) where
    abbrev HoldsOf : (List Matched → Ending A) → Type 0
    HoldsOf again = (ds : List Matched) → AreLineMatched ds → EndingHolds (again ds)

    on_holds : (again : List Matched → Ending A) → HoldsOf again → (ds : List Matched) (w : Matched) (meaning : Meaning A) → AreLineMatched ds → MeaningHolds meaning → EndingHolds (ending_on again ds w meaning)
    on_holds again holds ds w (keyword inherit) all h = tt
    on_holds again holds ds w (keyword initial) all h = tt
    on_holds again holds ds w (keyword unset) all h = tt
    on_holds again holds ds w (keyword revert) all h =
        holds (of_lower_origin w ds) (kept_matched (λ d. nat_lt (origin_rank d.origin) (origin_rank w.origin)) ds all)
    on_holds again holds ds w (keyword revert_layer) all h =
        holds (of_lower_level w ds) (kept_matched (λ d. is_lt (level_cmp d w)) ds all)
    on_holds again holds ds w (value given) all h = h

    by_holds : (again : List Matched → Ending A) → HoldsOf again → HoldsOf (ending_by again means)
    by_holds again holds ds all = by (greatest_of ds) refl where
      by : (o : Option Matched) → greatest_of ds ≡ o → EndingHolds (option_map_or (λ w. ending_on again ds w (means w.given)) o unsets)
      by None found = tt
      by (Some w) found =
          on_holds again holds ds w (means w.given) all (each w.given (found_holds IsLineMatched (is_greatest ds) ds w all found))

    within_holds : (rounds : ℕ) → HoldsOf (ending_within rounds means)
    within_holds zero ds all = tt
    within_holds (suc rounds) ds all = by_holds (ending_within rounds means) (within_holds rounds) ds all

    pub ending_holds : (ds : List Matched) → AreLineMatched ds → EndingHolds (ending_of means ds)
    unfolding ending_of
    ending_holds ds all = within_holds (length ds) ds all

-- what a declaration means for a property of the table, and for a custom property

or_unset_within : (o : Option Value) → IfSome o IsLineValue → MeaningHolds IsLineValue (value_or_unset o)
or_unset_within None h = tt
or_unset_within (Some given) h = h

expanded_within : (id : ℕ) (property_name : PropertyName) (tokens : CustomValue) (o : Option Wide) → MeaningHolds IsLineValue (expanded_meaning id property_name tokens o)
expanded_within id property_name tokens (Some word) = tt
expanded_within id property_name tokens None =
    or_unset_within (value_for property_name id (map unplaced tokens)) (value_for_within property_name id (map unplaced tokens))

referring_within : (id : ℕ) (property_name : PropertyName) (o : Option CustomValue) → MeaningHolds IsLineValue (referring_meaning id property_name o)
referring_within id property_name None = tt
referring_within id property_name (Some tokens) = expanded_within id property_name tokens (wide_of tokens)

pub meaning_within : (custom : Lookup) (id : ℕ) (given : Given) → IsLineGiven given → MeaningHolds IsLineValue (meaning_of custom id given)
meaning_within custom id (wide word) h = tt
meaning_within custom id (exactly given) h = h
meaning_within custom id (referring property_name tokens) h = referring_within id property_name (expansion custom tokens)
meaning_within custom id (holding tokens) h = tt

pub custom_meaning_within : (given : Given) → IsLineGiven given → MeaningHolds Writable (custom_meaning given)
custom_meaning_within (wide word) h = tt
custom_meaning_within (exactly given) h = tt
custom_meaning_within (referring property_name tokens) h = tt
custom_meaning_within (holding tokens) h = h
