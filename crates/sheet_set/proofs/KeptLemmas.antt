-- What an entry stands for, and what is kept with one more.
use Rattle.std.proofs.Common.{◌≡◌, ◌⊎◌, ℕ, ◌+◌, ◌<◌, List, [], ◌∷◌, ◌++◌, map, flat_map, length, drop, get_or, true, false, Option, Some, None, refl, sym, ap, ◌∙◌, inl, inr, append-nil, append_assoc}
use Rattle.std.specs.Option.{option_to_list}
use Rattle.std.proofs.lemmas.Simd.{map-map}
use Rattle.std.proofs.lemmas.List.Concat.{flat_map-append}
use Rattle.std.proofs.iter.Yields.{fronts}
use Rattle.std.proofs.lemmas.Iterator.{zips}
use Rattle.std.proofs.lemmas.Slice.Zip.{Zip-so_far, either_empty_from_Zip}
use Rattle.std.specs.Iterator.{Yields}
use Rattle.std.specs.Iterator.Adapters.{zip_first, zip_second}
use Rattle.std.specs.Slice.Iter.{iter_rest}
use Rattle.std.specs.declared.iter.Zip.{Zip}
use Rattle.std.specs.declared.slice.Iter.{Iter}
use denote.Ref.{Bor}
use Rattle.syntax_model.specs.Token.{Token}
use Rattle.syntax_model.specs.Rules.{Declaration}
use Rattle.custom_model.specs.Value.{is_custom_name}
use Rattle.value_model.specs.Shorthand.{longhands_of}
use Rattle.sheet_model.specs.Shorthands.{longhands_named}
use Rattle.sheet_model.specs.Shorthands as shorthands
use Rattle.sheet_model.specs.Declared as model
use Rattle.sheet_model.specs.Declared.{longhand, longhands_declared, custom_declared, custom_given_in, declared_in, declared_with, property_name_in}
use Rattle.shorthands.specs.declared.property_name.PropertyName.{PropertyName}
use Rattle.shorthands.specs.declared.property_name.PropertyName.TheVariants.{Longhand, Shorthand}
use Rattle.shorthands.specs.declared.declared.Given.{Given}
use Rattle.shorthands.specs.View.{declared_of, given_of, short_of, property_name_of}
use Rattle.sheet_set.specs.Parts.{each_declared, part_declared, declared_for}
use Rattle.sheet_set.specs.View.{target_of}
use Rattle.sheet_set.proofs.Left.{item_at}

-- one entry more
pub one_kept : {A B : Type 0} (f : A → List B) (old new : List A) (item : A) → new ≡ old ++ item ∷ [] → flat_map f new ≡ flat_map f old ++ f item
one_kept f old new item is =
    ap (flat_map f) is ∙ (flat_map-append f old (item ∷ []) ∙ ap (λ l. flat_map f old ++ l) (append-nil (f item)))

-- and none
pub none_kept : {A B : Type 0} (f : A → List B) (old : List A) (declared : List B) → declared ≡ [] → flat_map f old ≡ flat_map f old ++ declared
none_kept f old declared none = sym (append-nil (flat_map f old)) ∙ ap (λ l. flat_map f old ++ l) (sym none)

-- an entry of a property or of a shorthand
pub name_entry : (declaration : Declaration) (property_name : PropertyName) (given : Given) → declared_of (record { target = target_of property_name; given = given; important = declaration.important }) ≡ map (λ property. declared_with declaration (longhand property) (given_of (property_name_of property_name) given)) (longhands_named (property_name_of property_name))
name_entry declaration (Longhand id) given = refl
name_entry declaration (Shorthand short) given = map-map _ _ (longhands_of (short_of short))

-- what a declaration declares, by what its name is
pub of_custom : (declaration : Declaration) → is_custom_name declaration.name ≡ true → declared_in declaration ≡ option_to_list (custom_declared declaration)
of_custom declaration is = rw is refl

pub of_none : (declaration : Declaration) → is_custom_name declaration.name ≡ false → property_name_in declaration.name ≡ None → declared_in declaration ≡ []
of_none declaration is none = rw is (rw none refl)

pub of_property_name : (declaration : Declaration) (property_name : shorthands.PropertyName) → is_custom_name declaration.name ≡ false → property_name_in declaration.name ≡ Some property_name → declared_in declaration ≡ declared_for declaration property_name
of_property_name declaration property_name is some = rw is (rw some refl)

-- one part more of those that are left
module _ (declaration : Declaration) {A B : Type 0} (f : A → ℕ) (g : B → List Token) (ids : List A) (parts : List B) where
  abbrev pub left_declared : ℕ → List model.Declared
  left_declared i = each_declared declaration (map f (drop i ids)) (map g (drop i parts))

  pub pair_at : (i : ℕ) (id : A) (part : B) → i < length ids → i < length parts → id ≡ get_or ids i id → part ≡ get_or parts i part → left_declared i ≡ part_declared declaration (f id) (g part) ++ left_declared (i + 1)
  pair_at i id part below_ids below_parts id_is part_is =
      ap (λ l. each_declared declaration (map f l) (map g (drop i parts))) (item_at ids i id below_ids id_is)
      ∙ ap (λ l. each_declared declaration (map f (id ∷ drop (i + 1) ids)) (map g l)) (item_at parts i part below_parts part_is)

  pub pair_added : (i : ℕ) (old new whole : List model.Declared) (id : A) (part : B) → i < length ids → i < length parts → id ≡ get_or ids i id → part ≡ get_or parts i part
      → new ≡ old ++ part_declared declaration (f id) (g part) → old ++ left_declared i ≡ whole → new ++ left_declared (i + 1) ≡ whole
  pair_added i old new whole id part below_ids below_parts id_is part_is added before =
      ap (λ l. l ++ left_declared (i + 1)) added
      ∙ (append_assoc old (part_declared declaration (f id) (g part)) (left_declared (i + 1))
      ∙ (ap (λ l. old ++ l) (sym (pair_at i id part below_ids below_parts id_is part_is)) ∙ before))

  no_parts : (ids : List ℕ) → each_declared declaration ids [] ≡ []
  no_parts [] = refl
  no_parts (id ∷ ids) = refl

  pub pairs_past : (i : ℕ) → (drop i ids ≡ []) ⊎ (drop i parts ≡ []) → left_declared i ≡ []
  pairs_past i (inl none) = ap (λ l. each_declared declaration (map f l) (map g (drop i parts))) none
  pairs_past i (inr none) = ap (λ l. each_declared declaration (map f (drop i ids)) (map g l)) none ∙ no_parts (map f (drop i ids))

-- where a loop over two lists at once ends, one of them is past
pub either_past : {A B : Type 0} (ks : List A) (vs : List B) (xs : List (Bor A × Bor B)) (s t u : Zip (Iter A) (Iter B)) (r : Option (Bor A × Bor B)) → iter_rest (zip_first s) ≡ ks → iter_rest (zip_second s) ≡ vs
    → Yields (zips fronts fronts) s xs t → r ≡ None → zips fronts fronts t r u → (drop (length xs) ks ≡ []) ⊎ (drop (length xs) vs ≡ [])
either_past ks vs xs s t u r first second yields none steps =
    let so_far = Zip-so_far xs s t yields in
    elim (either_empty_from_Zip t u r none steps) [
      | inl e ↦ inl (ap (drop (length xs)) (sym first) ∙ (sym so_far.0 ∙ e))
      | inr e ↦ inr (ap (drop (length xs)) (sym second) ∙ (sym so_far.1 ∙ e))
    ]
