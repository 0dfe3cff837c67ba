-- What the limits of an element's attributes come to.
use Rattle.std.proofs.Common.{◌≡◌, ℕ, ◌+◌, ◌<◌, ◌≤◌, ◌==◌, Bool, true, false, cond, List, Option, Some, None, is_some, option_map, unwrap_or, refl, sym, ap, ◌∙◌, arith}
use Rattle.std.specs.FinMap as finmap
use Rattle.std.specs.Option.{option_or, option_and_then}
use Rattle.std.proofs.lemmas.Bool.{cond-true}
use Rattle.std.proofs.lemmas.Cmp.{nat_list_cmp_total}
use Rattle.base_model.specs.Limits.{attribute_limit, value_limit}
use Rattle.scene_model.specs.Element.{Element, Characters}
use Rattle.scene_model.specs.Lookups.{IsElement, attribute_of, attributes_of, element_at}
use Rattle.scene_model.specs.Document.{Document}
use Rattle.scene_model.proofs.Found.{is_element-at}
use Rattle.scene_model.proofs.Numbers.{same_number}
use Rattle.change_model.specs.InPlace.{with_attribute}
use Rattle.change_model.proofs.InPlace.{element_at-changed_at}
use Rattle.edit_model.proofs.LimitCases.{over as past_it, within as within_it}
use Rattle.edit_model.specs.Apply.{limit_past}
use Rattle.edit_model.specs.Edit.{set}
use Rattle.edit_model.specs.Refusal.{Refusal, attribute_count, value_bytes, limit, past, bytes_of}

-- how many attributes there are after one more, or another value of one
count_put : (o : Option Element) (name text : Characters) → is_some o ≡ true → finmap.len (unwrap_or (option_map (λ e. e.attrs) (option_map {T = Element} (λ e. record e { attrs = finmap.insert e.attrs name text }) o)) finmap.empty) ≡ cond (is_some (option_and_then (λ e. finmap.get e.attrs name) o)) (finmap.len (unwrap_or (option_map (λ e. e.attrs) o) finmap.empty)) (finmap.len (unwrap_or (option_map (λ e. e.attrs) o) finmap.empty) + 1)
count_put None name text h = absurd (cc)
count_put (Some e) name text h = finmap.len-insert nat_list_cmp_total e.attrs name text

count_after : (doc : List Element) (x : ℕ) (name text : Characters) → IsElement doc x → finmap.len (attributes_of (with_attribute x name text doc) x) ≡ cond (is_some (attribute_of doc x name)) (finmap.len (attributes_of doc x)) (finmap.len (attributes_of doc x) + 1)
count_after doc x name text there =
    ap (λ o. finmap.len (unwrap_or (option_map (λ e. e.attrs) o) finmap.empty))
    (element_at-changed_at x (λ e. record e { attrs = finmap.insert e.attrs name text }) (λ e. refl) doc x ∙ cond-true (x == x) _ _ (same_number x))
    ∙ count_put (element_at doc x) name text (sym (is_element-at doc x) ∙ there)

-- one attribute more, or another value of one, where so many are there
module _ (d : Document) (x : ℕ) (name text : Characters) (there : IsElement d.elements x) (count most : ℕ) (is_count : count ≡ finmap.len (attributes_of d.elements x)) (is_most : most ≡ cond (is_some (attribute_of d.elements x name)) 64 63) where
  abbrev after : ℕ
  after = finmap.len (attributes_of (with_attribute x name text d.elements) x)

  after_is : after ≡ cond (is_some (attribute_of d.elements x name)) count (count + 1)
  after_is = count_after d.elements x name text there ∙ ap (λ n. cond (is_some (attribute_of d.elements x name)) n (n + 1)) (sym is_count)

  over : most < count → attribute_limit < after
  over h = by (is_some (attribute_of d.elements x name)) after_is is_most
    where
      by : (b : Bool) → after ≡ cond b count (count + 1) → most ≡ cond b 64 63 → attribute_limit < after
      by true e f = omega (arith, e, f, h)
      by false e f = omega (arith, e, f, h)

  under : count ≤ most → after ≤ attribute_limit
  under h = by (is_some (attribute_of d.elements x name)) after_is is_most
    where
      by : (b : Bool) → after ≡ cond b count (count + 1) → most ≡ cond b 64 63 → after ≤ attribute_limit
      by true e f = omega (arith, e, f, h)
      by false e f = omega (arith, e, f, h)

  abbrev values : Option Refusal
  values = past value_bytes value_limit (bytes_of text)

  pub attributes_past : most < count → limit_past d (set x name text) ≡ Some (limit attribute_count attribute_limit)
  attributes_past h = ap (λ o. option_or o values) (past_it attribute_count attribute_limit after (over h))

  within_attributes : count ≤ most → limit_past d (set x name text) ≡ values
  within_attributes h = ap (λ o. option_or o values) (within_it attribute_count attribute_limit after (under h))

  pub value_past : count ≤ most → value_limit < bytes_of text → limit_past d (set x name text) ≡ Some (limit value_bytes value_limit)
  value_past h k = within_attributes h ∙ past_it value_bytes value_limit (bytes_of text) k

  pub none_past : count ≤ most → bytes_of text ≤ value_limit → limit_past d (set x name text) ≡ None
  none_past h k = within_attributes h ∙ within_it value_bytes value_limit (bytes_of text) k

-- whether the attribute is there, as it was looked up
pub most_found : {T : Type 0} (o : Option T) (f : T → Characters) (value : Option Characters) (b : Bool) → option_map f o ≡ value → is_some o ≡ b → (most : ℕ) → most ≡ cond b 64 63 → most ≡ cond (is_some value) 64 63
most_found None f value b e h most k = k ∙ (ap (λ c. cond c 64 63) (sym h) ∙ ap (λ v. cond (is_some v) 64 63) e)
most_found (Some t) f value b e h most k = k ∙ (ap (λ c. cond c 64 63) (sym h) ∙ ap (λ v. cond (is_some v) 64 63) e)
