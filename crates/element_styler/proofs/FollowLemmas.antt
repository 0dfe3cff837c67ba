-- For `Styler::child`: what an element is styled with still serves where its table has grown and its ancestors go with the document.
use Rattle.std.proofs.Common.{◌≡◌, ℕ, ℤ, ◌<◌, List, [], length, take, slice_get, Some, sym, subst}
use Rattle.base_model.proofs.Lists.{slice_get_some}
use Rattle.scene_model.specs.Ancestors.{ancestors}
use Rattle.scene_model.specs.Element.{Element}
use Rattle.value_model.specs.Style.{Style}
use Rattle.sheet_model.specs.Sources.{Sources}
use Rattle.cascade_model.specs.Key.{Matched}
use Rattle.ancestor_model.specs.Counts.{full}
use Rattle.ancestor_model.proofs.CountLemmas.{counts_any}
use Rattle.ancestor_filter.specs.Names.{StandsFor, slot}
use Rattle.ancestor_filter.specs.Paths.{IsRight, Pushed, nothing_pushed}
use Rattle.sheet_set.specs.View.{sources_seen}
use Rattle.element_styler.specs.Cache.{AllRight, IsComputed}
use Rattle.element_styler.specs.Fits.{Fits}
use Rattle.element_styler.specs.Follows.{Follows, IsAbove, Serves}
use Rattle.element_styler.specs.declared.above.Above.{Above}
use Rattle.element_styler.specs.declared.prepared.Inputs.{Inputs}
use Rattle.element_styler.specs.declared.prepared.Prepared.{Prepared}
use Rattle.element_styler.specs.declared.styler.ComputedStyle.{ComputedStyle}
use Rattle.element_styler.specs.declared.styler.Styler.{Styler}
use Rattle.element_styler.proofs.CacheLemmas.{all_right_more, kept_at}

-- nothing that is pushed goes with any document
pub follows-idle : (doc : List Element) (above : Above) → above.ancestors ≡ nothing_pushed full → Follows doc above
follows-idle doc above idle = subst (λ (pushed : Pushed). IsRight doc pushed) (sym idle) (tt, counts_any slot [])

-- and a filter that is saturated stands for any ancestors
pub above-idle : (doc : List Element) (x : ℕ) (above : Above) → above.ancestors ≡ nothing_pushed full → IsAbove doc x above
above-idle doc x above idle =
    subst (λ (pushed : Pushed). StandsFor doc (ancestors doc x) pushed.filter) (sym idle) (counts_any slot _)

-- what fits still does where the table alone has grown
pub fits_more : (sources : Sources) (size : ℤ) (prepared : Prepared) (was now : Styler) → take (length was.table) now.table ≡ was.table → now.cache ≡ was.cache → Fits sources size prepared was → Fits sources size prepared now
fits_more sources size prepared was now kept same fits = record {
  prepared_is = fits.prepared_is;
  cache = subst (AllRight sources size now.table) (sym same) (all_right_more sources size was.table now.table kept was.cache.pairs.items fits.cache);
}

-- neither the table nor what is kept has changed
pub serves-matched : (inputs : Inputs) (size : ℤ) (was now : Styler) → now.table ≡ was.table → now.cache ≡ was.cache → Follows inputs.doc.now.elements now.above
    → Fits (sources_seen inputs.sheets.now) size inputs.prepared.now was → Serves inputs size now
serves-matched inputs size was now table cache follows fits =
    let sources = sources_seen inputs.sheets.now in
    let before = subst (λ t. AllRight sources size t was.cache) (sym table) fits.cache in
    record { fits = record { prepared_is = fits.prepared_is; cache = subst (AllRight sources size now.table) (sym cache) before }; follows = follows }

-- the table has grown
pub serves-grown : (inputs : Inputs) (size : ℤ) (was now : Styler) → take (length was.table) now.table ≡ was.table → now.cache ≡ was.cache → Follows inputs.doc.now.elements now.above
    → Fits (sources_seen inputs.sheets.now) size inputs.prepared.now was → Serves inputs size now
serves-grown inputs size was now kept same follows fits = record {
  fits = fits_more (sources_seen inputs.sheets.now) size inputs.prepared.now was now kept same fits;
  follows = follows;
}

-- and what is kept of styles has, by what was computed
pub serves-kept : (inputs : Inputs) (size : ℤ) (was now last : Styler) (parent : ℕ) (ds : List Matched) (computed : ComputedStyle)
    → take (length was.table) now.table ≡ was.table → now.cache ≡ was.cache → last.table ≡ now.table → parent < length was.table
    → ((over : Style) → slice_get was.table parent ≡ Some over → IsComputed size now.table over ds computed)
    → ((over : Style) → slice_get now.table parent ≡ Some over → IsComputed size now.table over ds computed
    → AllRight (sources_seen inputs.sheets.now) size now.table now.cache → AllRight (sources_seen inputs.sheets.now) size now.table last.cache)
    → Follows inputs.doc.now.elements last.above → Fits (sources_seen inputs.sheets.now) size inputs.prepared.now was → Serves inputs size last
serves-kept inputs size was now last parent ds computed kept same table below made grown follows fits =
    let sources = sources_seen inputs.sheets.now in
    let (over, at) = slice_get_some was.table parent below in
    let before = fits_more sources size inputs.prepared.now was now kept same fits in
    let right = grown over (kept_at was.table now.table parent over kept at) (made over at) before.cache in
    record {
      fits = record { prepared_is = fits.prepared_is; cache = subst (λ l. AllRight sources size l last.cache) (sym table) right };
      follows = follows;
    }
