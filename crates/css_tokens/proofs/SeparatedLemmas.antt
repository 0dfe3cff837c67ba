-- The parts of a list between its commas, and what each of them has to be, as they are read: those so far, before those
-- that are left.
use Rattle.std.proofs.Common.{◌≡◌, List, [], ◌∷◌, ◌++◌, map, Option, Some, None, option_map, option_and_then, sym, ap, refl, ◌∙◌, append_assoc, append-nil}
use Rattle.std.proofs.lemmas.List.{map-append}
use Rattle.base_model.specs.Lists.{every}
use Rattle.syntax_model.specs.Token.{Token}
use Rattle.syntax_model.specs.TokenKinds.{is_comma}
use Rattle.syntax_model.specs.Outside.{from_first, parts_between, up_to}
use Rattle.syntax_model.proofs.OutsideLemmas.{parts_after, parts_split}

-- the first part, and those after its comma
pub next_part : (tokens part left : List Token) → part ≡ up_to is_comma tokens → left ≡ from_first is_comma tokens
    → parts_between is_comma tokens ≡ part ∷ parts_after is_comma left
next_part tokens part left e f = parts_split is_comma tokens ∙ rw (e, f) refl

module _ {P B V : Type 0} (seen : V → B) (member : P → Option B) where
  -- those so far and those of the parts that are left are the whole
  abbrev pub AreSoFar : List V → List P → List P → Type 0
  AreSoFar list left whole =
      every (map member whole) ≡ option_map (λ rest. map seen list ++ rest) (every (map member left))

  pub none_so_far : (whole : List P) → AreSoFar [] whole whole
  none_so_far whole = itself (every (map member whole))
    where
      itself : (rest : Option (List B)) → rest ≡ option_map (λ rest. [] ++ rest) rest
      itself None = refl
      itself (Some rest) = refl

  -- the first of the parts that are left
  module _ (whole left old : List P) (part : P) (list : List V) (found : Option V)
      (h : AreSoFar list old whole) (next : old ≡ part ∷ left) (m : option_map seen found ≡ member part) where
    read : every (map member whole) ≡ option_map (λ rest. map seen list ++ rest) (every (option_map seen found ∷ map member left))
    read = h ∙ ap (λ parts. option_map (λ rest. map seen list ++ rest) (every (map member parts))) next
        ∙ ap (λ o. option_map (λ rest. map seen list ++ rest) (every (o ∷ map member left))) (sym m)

    pub no_member : found ≡ None → None ≡ every (map member whole)
    no_member none = sym (read ∙ ap (λ o. option_map (λ rest. map seen list ++ rest) (every (option_map seen o ∷ map member left))) none)

    pub one_more : (v : V) (new : List V) → found ≡ Some v → new ≡ list ++ v ∷ [] → AreSoFar new left whole
    one_more v new some pushed = read ∙ rw (some, pushed, map-append seen list (v ∷ [])) (added (every (map member left)))
      where
        added : (rest : Option (List B)) → option_map (λ rest. map seen list ++ rest) (option_and_then (λ xs. Some (seen v ∷ xs)) rest) ≡ option_map (λ rest. (map seen list ++ seen v ∷ []) ++ rest) rest
        added None = refl
        added (Some rest) = ap Some (sym (append_assoc (map seen list) (seen v ∷ []) rest))

  pub all_read : (whole left : List P) (list : List V) → AreSoFar list left whole → left ≡ [] → Some (map seen list) ≡ every (map member whole)
  all_read whole left list h end = sym (h ∙ rw end (ap Some (append-nil (map seen list))))
