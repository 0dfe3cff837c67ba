-- The style of an element is computed over its parent's.
use Rattle.std.proofs.Common.{◌≡◌, ℕ, ◌+◌, ℤ, length, [], ◌∷◌, sym, arith, List, Option, Some, None, Bool, true, false, not, cond, is_none, if◌then◌else◌, refl, ap, ◌∙◌}
use Rattle.std.proofs.lemmas.Bool.{eq-eqb, eqb-true}
use Rattle.std.proofs.lemmas.Option.{none-some, same_Some}
use Rattle.std.specs.List.{position_or_len}
use Rattle.std.specs.Option.{option_map_or}
use Rattle.scene_model.specs.Element.{Element}
use Rattle.scene_model.specs.Lookups.{IsElement, has_number, parent_of}
use Rattle.scene_model.specs.Ancestors.{position_of, up, ancestors}
use Rattle.scene_model.specs.Valid.{IsValid}
use Rattle.scene_model.proofs.Climbing.{ancestors-up}
use Rattle.value_model.specs.Table.{table}
use Rattle.value_model.specs.Style.{Style, initial_style, initial_size, font_size_of}
use Rattle.sheet_model.specs.Sources.{Sources}
use Rattle.cascade_model.specs.Matching.{matching}
use Rattle.cascade_model.specs.Cascade.{cascaded}
use Rattle.cascade_model.specs.StyleOf.{root_of, root_size_at, root_size_of, styled_over, style_along, style_of, parent_style}
use Rattle.cascade_model.proofs.ValuesLemmas.{length-cascaded}

along_up : (doc : List Element) (sources : Sources) (o : Option ℕ) → style_along doc sources (root_size_of doc sources) (up (ancestors doc) o) ≡ parent_style doc sources o
unfolding style_of
along_up doc sources None = refl
along_up doc sources (Some p) = refl

pub style_of-over : (doc : List Element) (sources : Sources) → IsValid doc → (x : ℕ) → style_of doc sources x ≡ styled_over doc sources (root_size_of doc sources) (parent_style doc sources (parent_of doc x)) x
unfolding style_of
style_of-over doc sources v x =
    let over : Style → Style = λ s. styled_over doc sources (root_size_of doc sources) s x in
    ap (λ l. over (style_along doc sources (root_size_of doc sources) l)) (ancestors-up doc v x)
    ∙ ap over (along_up doc sources (parent_of doc x))

-- the style over that of the parent, if there is one
abbrev over_parent : List Element → Sources → ℕ → Option ℕ → Style
over_parent doc sources x o =
    cascaded (is_none o) (parent_style doc sources o) (if is_none o then initial_size else root_size_of doc sources) (matching doc sources x)

pub style_of-child : (doc : List Element) (sources : Sources) → IsValid doc → (x p : ℕ) → parent_of doc x ≡ Some p → style_of doc sources x ≡ cascaded false (style_of doc sources p) (root_size_of doc sources) (matching doc sources x)
style_of-child doc sources v x p h = style_of-over doc sources v x ∙ ap (over_parent doc sources x) h

pub style_of-root : (doc : List Element) (sources : Sources) → IsValid doc → (x : ℕ) → parent_of doc x ≡ None → style_of doc sources x ≡ cascaded true initial_style initial_size (matching doc sources x)
style_of-root doc sources v x h = style_of-over doc sources v x ∙ ap (over_parent doc sources x) h

-- What `rem` stands for is the font size of the root, which is the first element and has no parent.

position_first : (element : Element) (doc : List Element) → position_of (element ∷ doc) element.number ≡ 0
position_first element doc = rw (eq-eqb element.number element.number refl) refl

no_parent : (doc : List Element) → IsValid doc → (x : ℕ) → position_of doc x ≡ 0 → (o : Option ℕ) → parent_of doc x ≡ o → parent_of doc x ≡ None
no_parent doc v x first None h = h
no_parent doc v x first (Some p) h = let before = (v.parents x p h).1 in absurd (omega (arith, before, first))

pub parent_of-root : (doc : List Element) → IsValid doc → (x : ℕ) → root_of doc ≡ Some x → parent_of doc x ≡ None
parent_of-root [] v x h = absurd (none-some x h)
parent_of-root (element ∷ doc) v x h =
    let is : element.number ≡ x = same_Some element.number x h in
    no_parent (element ∷ doc) v x (ap (position_of (element ∷ doc)) (sym is) ∙ position_first element doc) (parent_of (element ∷ doc) x) refl

-- the element at position 0 is the first
first_at : (b : Bool) (n : ℕ) (P : Type 0) → (b ≡ true → P) → cond (not b) (1 + n) 0 ≡ 0 → P
first_at true n P h e = h refl
first_at false n P h e = absurd (omega (arith, e))

pub position_zero : (doc : List Element) (x : ℕ) → IsElement doc x → position_of doc x ≡ 0 → root_of doc ≡ Some x
position_zero [] x is e = absurd (cc)
position_zero (element ∷ doc) x is e =
    first_at (has_number x element) (position_or_len (has_number x) doc) (root_of (element ∷ doc) ≡ Some x) (λ h. ap Some (eqb-true element.number x h)) e

-- an element without a parent is the root
pub root_of-first : (els : List Element) → IsValid els → (x : ℕ) → IsElement els x → parent_of els x ≡ None → root_of els ≡ Some x
root_of-first els v x there h = position_zero els x there (v.root x there h)

pub root_size_of-root : (doc : List Element) (sources : Sources) → IsValid doc → (x : ℕ) → root_of doc ≡ Some x → root_size_of doc sources ≡ font_size_of (style_of doc sources x).values
unfolding root_size_of
root_size_of-root doc sources v x h =
    ap (λ o. option_map_or (root_size_at doc sources) o initial_size) h
    ∙ ap (λ (s : Style). font_size_of s.values) (sym (style_of-root doc sources v x (parent_of-root doc v x h)))

-- each style has a value for each property

length-initial : length initial_style.values ≡ length table
unfolding table
length-initial = refl

length-along : (doc : List Element) (sources : Sources) (size : ℤ) (path : List ℕ) → length (style_along doc sources size path).values ≡ length table
length-along doc sources size [] = length-initial
length-along doc sources size (x ∷ above) =
    let is_root = is_none (parent_of doc x) in
    length-cascaded is_root (style_along doc sources size above) (if is_root then initial_size else size) (matching doc sources x) (length-along doc sources size above)

pub length-style_of : (doc : List Element) (sources : Sources) (x : ℕ) → length (style_of doc sources x).values ≡ length table
unfolding style_of
length-style_of doc sources x = length-along doc sources (root_size_of doc sources) (x ∷ ancestors doc x)
