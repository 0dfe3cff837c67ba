-- Attributes, from the slots of their object.
use Rattle.std.proofs.Common.{◌≡◌, ℕ, ◌<◌, ◌≤◌, nat_le, List, [], ◌∷◌, Bool, true, false, cond, Option, Some, None, Ok, Err, refl, ap, ap₂, ◌∙◌, arith}
use Rattle.std.specs.Prelude.{is_some}
use Rattle.std.specs.Option.{option_or}
use Rattle.std.specs.FinMap as finmap
use Rattle.std.specs.Str.{chars}
use Rattle.std.proofs.lemmas.Bool.Decides.{nat_tests}
use Rattle.serde_json.specs.Data.{Data, object, Members, no_members, member}
use Rattle.serde_json.specs.Find.{as_object, as_str}
use Rattle.base_model.specs.Limits.{attribute_limit}
use Rattle.stylo_base.specs.declared.refusal.Kind.TheVariants.{Attributes as AttributesKind}
use Rattle.scene_model.specs.Element.{Characters, Attributes}
use Rattle.job_json.specs.Checked.{Checked, ◌>>=◌, map_ok, wanted, below, escaped, at_member}
use Rattle.job_json.specs.Words.{pair_from}
use Rattle.job_json.specs.Shape.{pairs_in}
use Rattle.job_json.specs.Limits.{Passed, within, count_of, value_past, values_past, attrs_past}
use Rattle.job_json.specs.Parts.{attrs_read}
use Rattle.job_json.specs.Slots.{Pair, slots_of, said_by, passed_by, first_bad_key}
use Rattle.job_json.specs.Kept.{slots_read}

abbrev Pairs : Type 0
Pairs = List (Characters × Characters)

abbrev pub map_of : Pairs → Attributes
map_of ps = finmap.from_entries ps

pub pairs_in-slots : (ms : Members) → pairs_in ms ≡ said_by (slots_of ms)
pairs_in-slots no_members = refl
pairs_in-slots (member key value rest) = ap (λ c. at_member key (wanted (pair_from key (as_str value))) >>= (λ p. c >>= (λ ps. Ok (p ∷ ps)))) (pairs_in-slots rest)

pub values_past-slots : (ms : Members) → values_past ms ≡ passed_by (slots_of ms)
values_past-slots no_members = refl
values_past-slots (member key value rest) = ap (option_or (value_past (as_str value))) (values_past-slots rest)

past_few : (b : Bool) (rest : Option Passed) → b ≡ true → option_or (cond b None (Some (AttributesKind, attribute_limit))) rest ≡ rest
past_few true rest e = refl
past_few false rest e = absurd (cc)

past_many : (b : Bool) (rest : Option Passed) → b ≡ false → option_or (cond b None (Some (AttributesKind, attribute_limit))) rest ≡ Some (AttributesKind, attribute_limit)
past_many false rest e = refl
past_many true rest e = absurd (cc)

as_maps : (c : Checked Pairs) (p : Option Passed) → ((c >>= (λ ps. Ok (map_of ps))) >>= (λ a. Ok (within p a))) ≡ map_ok (map_ok map_of) (c >>= (λ ps. Ok (within p ps)))
as_maps (Err path) p = refl
as_maps (Ok ps) None = refl
as_maps (Ok ps) (Some passed) = refl

module _ (ms : Members) where
  read_by : (p : Option Passed) → attrs_past (Some ms) ≡ p → attrs_read (Some (object ms)) ≡ map_ok (map_ok map_of) (said_by (slots_of ms) >>= (λ ps. Ok (within p ps)))
  read_by p is = as_maps (pairs_in ms) (attrs_past (Some ms)) ∙ ap₂ (λ c q. map_ok (map_ok map_of) (c >>= (λ ps. Ok (within q ps)))) (pairs_in-slots ms) is

  pub attrs_few : count_of ms ≤ attribute_limit → attrs_read (Some (object ms)) ≡ map_ok (map_ok map_of) (slots_read (slots_of ms))
  attrs_few fits =
      let few : nat_le (count_of ms) attribute_limit ≡ true = grind (arith, nat_tests) in
      read_by (passed_by (slots_of ms)) (past_few (nat_le (count_of ms) attribute_limit) (values_past ms) few ∙ values_past-slots ms)

  attrs_many : attribute_limit < count_of ms → attrs_read (Some (object ms)) ≡ map_ok (map_ok map_of) (said_by (slots_of ms) >>= (λ ps. Ok (Err (AttributesKind, attribute_limit))))
  attrs_many past_it =
      let many : nat_le (count_of ms) attribute_limit ≡ false = grind (arith, nat_tests) in
      read_by (Some (AttributesKind, attribute_limit)) (past_many (nat_le (count_of ms) attribute_limit) (values_past ms) many)

pub as_within : (passed : Option Passed) (ps : Pairs) → map_ok map_of (within passed ps) ≡ within passed (map_of ps)
as_within None ps = refl
as_within (Some p) ps = refl

-- ---- the first key that is no attribute

abbrev said_with : Option (Characters × Characters) → Pair → Checked Pairs → Checked Pairs
said_with first pair rest = at_member pair.0 (wanted first) >>= (λ p. rest >>= (λ ps. Ok (p ∷ ps)))

good_first : (first : Option (Characters × Characters)) (pair : Pair) (pairs : List Pair) → (first_bad_key pairs ≡ None → (said : Pairs) × (said_by pairs ≡ Ok said))
    → cond (is_some first) (first_bad_key pairs) (Some pair.0) ≡ None → (said : Pairs) × (said_with first pair (said_by pairs) ≡ Ok said)
good_first None pair pairs rest e = absurd (cc)
good_first (Some p) pair pairs rest e = let more = rest e in (p ∷ more.0, ap (said_with (Some p) pair) more.1)

all_said : (pairs : List Pair) → first_bad_key pairs ≡ None → (said : Pairs) × (said_by pairs ≡ Ok said)
all_said [] e = ([], refl)
all_said (pair ∷ pairs) e = good_first (pair_from pair.0 pair.1) pair pairs (all_said pairs) e

bad_first : (first : Option (Characters × Characters)) (pair : Pair) (pairs : List Pair) (key : List ℕ) → (first_bad_key pairs ≡ Some key → said_by pairs ≡ Err (below (escaped (chars key)) []))
    → cond (is_some first) (first_bad_key pairs) (Some pair.0) ≡ Some key → said_with first pair (said_by pairs) ≡ Err (below (escaped (chars key)) [])
bad_first None pair pairs key rest e = let same : pair.0 ≡ key = cc in ap (λ k. Err (below (escaped (chars k)) [])) same
bad_first (Some p) pair pairs key rest e = ap (said_with (Some p) pair) (rest e)

bad_said : (pairs : List Pair) (key : List ℕ) → first_bad_key pairs ≡ Some key → said_by pairs ≡ Err (below (escaped (chars key)) [])
bad_said [] key e = absurd (cc)
bad_said (pair ∷ pairs) key e = bad_first (pair_from pair.0 pair.1) pair pairs key (bad_said pairs key) e

pub many_right : (ms : Members) → attribute_limit < count_of ms → first_bad_key (slots_of ms) ≡ None → attrs_read (Some (object ms)) ≡ Ok (Err (AttributesKind, attribute_limit))
many_right ms past_it e =
    let said = all_said (slots_of ms) e in
    attrs_many ms past_it ∙ ap (λ c. map_ok (map_ok map_of) (c >>= (λ ps. Ok (Err (AttributesKind, attribute_limit))))) said.1

pub many_bad : (ms : Members) (key : List ℕ) → attribute_limit < count_of ms → first_bad_key (slots_of ms) ≡ Some key → attrs_read (Some (object ms)) ≡ Err (below (escaped (chars key)) [])
many_bad ms key past_it e = attrs_many ms past_it ∙ ap (λ c. map_ok (map_ok map_of) (c >>= (λ ps. Ok (Err (AttributesKind, attribute_limit))))) (bad_said (slots_of ms) key e)

-- ---- no object

no_attrs_at : (o : Option Members) (p : Option Passed) → o ≡ None → ((wanted o >>= (λ ms. pairs_in ms >>= (λ ps. Ok (map_of ps)))) >>= (λ a. Ok (within p a))) ≡ Err []
no_attrs_at None p e = refl
no_attrs_at (Some ms) p e = absurd (cc)

pub no_attrs : (d : Data) → as_object d ≡ None → attrs_read (Some d) ≡ Err []
no_attrs d e = no_attrs_at (as_object d) (attrs_past (as_object d)) e
