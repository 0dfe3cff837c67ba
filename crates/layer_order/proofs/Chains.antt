-- Chains of links and the names that they stand for.
use Rattle.std.proofs.Common.{◌≡◌, ◌≢◌, ◌+◌, ◌<◌, [], ◌∷◌, ◌++◌, length, Bool, true, false, ◌&&◌, refl, sym, ap, ◌∙◌, arith}
use Rattle.std.proofs.lemmas.Bool.{false_from_ne_true}
use Rattle.std.proofs.lemmas.List.Sums.{fold-append}
use Rattle.layer_model.proofs.Names.{same_name-Decides, same_name-last, within-none}
use Rattle.layer_model.specs.Name.{Part, LayerName, same_part, same_name, part_limit}
use Rattle.layer_order.specs.Chain.{part_of}
use Rattle.layer_order.specs.Key.{key_of, key_after}
use Rattle.layer_order.specs.LinkView.{named_by, Keeps}
use Rattle.layer_order.specs.declared.name.NameLink.{NameLink}

-- the key of a name with one more part
pub key_of-within : (name : LayerName) (part : Part) → key_of (name ++ part ∷ []) ≡ key_after (key_of name) part
unfolding key_of
key_of-within name part = fold-append key_after 0 name (part ∷ [])

pub key_of-none : key_of [] ≡ 0
unfolding key_of
key_of-none = refl

-- names of two keys are two
pub false_from_keys : (a b : LayerName) → key_of a ≢ key_of b → false ≡ same_name a b
false_from_keys a b h = sym (false_from_ne_true (same_name a b) (λ e. h (ap key_of ((same_name-Decides a b).0 e))))

-- the link of a longer name
pub Keeps-within : (link : NameLink) (name : LayerName) (part : Part) → link.outer ≡ name → part_of link.part ≡ part → link.depth ≡ length name + 1 → length name < part_limit → link.key ≡ key_after (key_of name) part → Keeps link
Keeps-within link name part o p d few k =
    let e : named_by link ≡ name ++ part ∷ [] = ap (λ n. n ++ part_of link.part ∷ []) o ∙ ap (λ q. name ++ q ∷ []) p in
    let depth : link.depth ≡ length link.outer + 1 = d ∙ ap (λ (n : LayerName). length n + 1) (sym o) in
    record { depth = depth; few = omega arith; key = k ∙ (sym (key_of-within name part) ∙ ap key_of (sym e)) }

-- where the last parts are one, the names are one where the outer ones are
pub by_outer : (a b : LayerName) (p q : Part) (s r : Bool) → s ≡ same_part p q → s ≡ true → r ≡ same_name a b → r ≡ same_name (a ++ p ∷ []) (b ++ q ∷ [])
by_outer a b p q s r e t outer =
    outer ∙ sym (same_name-last a b p q ∙ ap (λ x. x && same_name a b) (sym e ∙ t))

pub by_part : (a b : LayerName) (p q : Part) (s : Bool) → s ≡ same_part p q → s ≡ false → s ≡ same_name (a ++ p ∷ []) (b ++ q ∷ [])
by_part a b p q s e f = f ∙ sym (same_name-last a b p q ∙ ap (λ x. x && same_name a b) (sym e ∙ f))

-- no name with a part is that without parts
pub longer_than_none : (a b name : LayerName) (part : Part) → name ++ part ∷ [] ≡ a → [] ≡ b → false ≡ same_name a b
longer_than_none a b name part e f = sym (ap (λ x. same_name x b) (sym e) ∙ (ap (same_name (name ++ part ∷ [])) (sym f) ∙ within-none name part))
