-- The root is the first element, and `rem` stands for its font size.
use Rattle.std.proofs.Common.{◌≡◌, ℕ, ◌<◌, ◌≤◌, true, List, [], ◌∷◌, map, length, get_or, take, slice_get, Some, refl, sym, ap, ◌∙◌, arith}
use Rattle.std.proofs.lemmas.Option.{same_Some}
use Rattle.std.specs.Option.{option_map_or}
use Rattle.scene_model.specs.Element.{Element}
use Rattle.scene_model.specs.Lookups.{numbers}
use Rattle.scene_model.specs.Valid.{IsValid}
use Rattle.value_model.specs.Style.{Style, initial_size, initial_style}
use Rattle.sheet_model.specs.Sources.{Sources}
use Rattle.cascade_model.specs.Matching.{matching}
use Rattle.cascade_model.specs.Cascade.{cascaded}
use Rattle.cascade_model.specs.StyleOf.{root_of, root_size_at, root_size_of, style_of}
use Rattle.cascade_model.proofs.StyleAlong.{parent_of-root, style_of-root}
use Rattle.plain_style.specs.Known.{KnowsRoot}
use Rattle.element_styler.specs.declared.styler.RootStyle.{RootStyle}
use Rattle.element_styler.proofs.CacheLemmas.{kept_at}

-- the first of the numbers in tree order, if there is one
pub root_there : (doc : List Element) (order : List ℕ) (x : ℕ) → order ≡ numbers doc → 0 < length order → x ≡ get_or order 0 0 → root_of doc ≡ Some x
root_there [] order x is some first = absurd (omega (arith, some, ap length is))
root_there (element ∷ doc) order x is some first = ap Some (sym (first ∙ ap (λ l. get_or l 0 0) is))

-- where there is none, there is no style
pub no_styles : (doc : List Element) (order : List ℕ) (style : ℕ → Style) → order ≡ numbers doc → length order ≤ 0 → map style (numbers doc) ≡ []
no_styles [] order style is none = refl
no_styles (element ∷ doc) order style is none = absurd (omega (arith, none, ap length is))

-- the style of an element without a parent is known to be the root's
pub knows_root : (doc : List Element) (sources : Sources) (styles : List Style) (root : RootStyle) (first : ℕ) → IsValid doc → root_of doc ≡ Some first → slice_get styles root.style ≡ Some (cascaded true initial_style initial_size (matching doc sources first))
    → root.size ≡ root_size_at doc sources first → KnowsRoot doc sources styles root
unfolding root_size_of
knows_root doc sources styles root first valid there made sized = record {
  style = λ x is.
      let same : style_of doc sources first ≡ style_of doc sources x = ap (style_of doc sources) (same_Some _ _ (sym there ∙ is)) in
      made ∙ (ap Some (sym (style_of-root doc sources valid first (parent_of-root doc valid first there))) ∙ ap Some same);
  size = sized ∙ ap (λ o. option_map_or (root_size_at doc sources) o initial_size) (sym there);
}

-- and still is where the table has grown
pub knows_root_more : (doc : List Element) (sources : Sources) (table more : List Style) (root : RootStyle) → take (length table) more ≡ table → KnowsRoot doc sources table root → KnowsRoot doc sources more root
knows_root_more doc sources table more root kept knows = record {
  style = λ x is. kept_at table more root.style (style_of doc sources x) kept (knows.style x is);
  size = knows.size;
}
