-- For `StyleTable::append`: a style behind those of a table, and its numbers.
use Rattle.std.proofs.Common.{◌≡◌, ℕ, ◌<◌, ◌≤◌, List, [], ◌∷◌, ◌++◌, length, slice_get, Option, Some, None, option_map, unwrap_or, IfSome, ap, sym, ◌∙◌, ⊎_elim, arith, length-append}
use Rattle.std.specs.Arc.{arc_value}
use Rattle.std.proofs.lemmas.Bool.{cases_lt}
use Rattle.std.proofs.lemmas.List.{length-map, map-append}
use Rattle.std.proofs.lemmas.Option.{same_Some, slice_get_past, slice_get_within}
use Rattle.base_model.proofs.Lists.{get_push_below, get_push_last}
use Rattle.value_model.specs.Style.{Style}
use Rattle.style_value.specs.Parts.{HaveNumbers, styles_of}
use Rattle.style_value.specs.declared.table.TableStyle.{TableStyle}

-- what is at a number is there behind another style too
seen_more : {X : Type 0} (seen : Style → X) (styles : List Style) (last : Style) (number : ℕ) (x : X)
    → option_map seen (slice_get styles number) ≡ Some x → option_map seen (slice_get (styles ++ last ∷ []) number) ≡ Some x
seen_more seen styles last number x is =
    ⊎_elim
    (λ (lt : number < length styles). ap (option_map seen) (get_push_below styles number last lt) ∙ is)
    (λ (past : length styles ≤ number). absurd (none_there past))
    (cases_lt number (length styles))
  where
    none_there : length styles ≤ number → ⊥
    none_there past = cc (is, slice_get_past styles number past)

module _ (list : List TableStyle) (last : TableStyle) where
  abbrev style : Style
  style = arc_value last.style

  grown : styles_of (list ++ last ∷ []) ≡ styles_of list ++ style ∷ []
  grown = map-append (λ (one : TableStyle). arc_value one.style) list (last ∷ [])

  many : length (styles_of list) ≡ length list
  many = length-map list (λ (one : TableStyle). arc_value one.style)

  -- the last style has the number of how many there were
  pub last_there : (new : List TableStyle) (n : ℕ) → new ≡ list ++ last ∷ [] → n ≡ length list → slice_get (styles_of new) n ≡ Some style
  last_there new n is at =
      ap (λ l. slice_get (styles_of l) n) is
      ∙ (ap (λ l. slice_get l n) grown ∙ get_push_last (styles_of list) n style (at ∙ sym many))

  -- its number is one that was found, or its own
  module _ {X : Type 0} (seen : Style → X) (number_of : TableStyle → ℕ) where
    abbrev Tells : Option ℕ → Type 0
    Tells o = IfSome o (λ like. option_map seen (slice_get (styles_of list) like) ≡ Some (seen style))

    module _ (have : HaveNumbers seen number_of list) (found : Option ℕ) (tells : Tells found) (own : number_of last ≡ unwrap_or found (length list)) where
      of_last : (o : Option ℕ) → Tells o → option_map seen (slice_get (styles_of list ++ style ∷ []) (unwrap_or o (length list))) ≡ Some (seen style)
      of_last None h = ap (option_map seen) (get_push_last (styles_of list) (length list) style (sym many))
      of_last (Some like) h = seen_more seen (styles_of list) style like (seen style) h

      of_one : (number : ℕ) (one : TableStyle) → slice_get (list ++ last ∷ []) number ≡ Some one
          → option_map seen (slice_get (styles_of list ++ style ∷ []) (number_of one)) ≡ Some (seen (arc_value one.style))
      of_one number one at =
          ⊎_elim
          (λ (lt : number < length list).
          seen_more seen (styles_of list) style (number_of one) (seen (arc_value one.style)) (have number one (sym (get_push_below list number last lt) ∙ at)))
          (λ (past : length list ≤ number).
          let within : number < length (list ++ last ∷ []) = slice_get_within (list ++ last ∷ []) number one at in
          let there : number ≡ length list = omega (arith, length-append list (last ∷ [])) in
          let same : one ≡ last = same_Some _ _ (sym at ∙ get_push_last list number last there) in
          rw (same, own) (of_last found tells))
          (cases_lt number (length list))

      pub have_more : (new : List TableStyle) → new ≡ list ++ last ∷ [] → HaveNumbers seen number_of new
      have_more new is number one at =
          ap (λ l. option_map seen (slice_get (styles_of l) (number_of one))) is
          ∙ (ap (λ l. option_map seen (slice_get l (number_of one))) grown ∙ of_one number one (ap (λ l. slice_get l number) (sym is) ∙ at))
