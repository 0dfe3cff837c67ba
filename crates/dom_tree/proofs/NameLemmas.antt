-- Names and their texts: what a text ties with, and what more names leave as it is.
use Rattle.std.proofs.Common.{◌≡◌, ℕ, ◌<◌, ◌==◌, false, List, [], length, get_or, Option, Some, None, unwrap_or, is_some, IfSome, slice_get, subst, sym, ap, ◌∙◌, refl, arith}
use Rattle.std.specs.Bool.{Decides}
use Rattle.std.specs.Cmp.Lexicographic.{slice_cmp}
use Rattle.std.specs.Ordering.{nat_cmp, is_eq, eq_by_cmp}
use Rattle.std.specs.Str.{bytes_eq}
use Rattle.std.proofs.lemmas.Bool.Decides.{nat_tests, same_from_decides}
use Rattle.std.proofs.lemmas.Bool.{eqb-true, eq-eqb}
use Rattle.std.proofs.lemmas.Cmp.{same_from_slice_cmp}
use Rattle.std.proofs.lemmas.Option.{slice_get-get_or, slice_get_within, unwrap_or-slice_get}
use Rattle.std.proofs.lemmas.Slice.Eq.{bytes_eq-Decides}
use Rattle.base_model.specs.Text.{same_text}
use Rattle.stylo_base.specs.NameList.{StandOnce, is_among}
use Rattle.scene_model.specs.Element.{Characters}
use Rattle.dom_tree.specs.Kept.{text_of, IsNameOf, KeepsTexts}

-- the text of a name that there is
pub text_at : (names : List Characters) (name : ℕ) → name < length names → slice_get names name ≡ Some (text_of names name)
text_at names name l = slice_get-get_or names name [] l ∙ ap Some (sym (unwrap_or-slice_get names name []))

pub text_is : (names : List Characters) (name : ℕ) (text : Characters) → slice_get names name ≡ Some text → text_of names name ≡ text
text_is names name text h = ap (λ o. unwrap_or o []) h

-- the text of a name among names that were lent
pub lent_text : (name : ℕ) {lent names : List Characters} {text : Characters} → lent ≡ names → slice_get lent name ≡ Some text → text ≡ text_of names name
lent_text name {text = text} e h = sym (text_is _ name text (sym (ap (λ n. slice_get n name) e) ∙ h))

-- two texts tie where they are equal
pub tied : (a b : Characters) → eq_by_cmp (slice_cmp nat_cmp) a b ≡ bytes_eq a b
tied a b =
    same_from_slice_cmp nat_cmp is_eq bytes_eq refl (λ _ _. refl) (λ _ _. refl) (λ x y xs ys o h. grind (arith, nat_tests)) a b _ refl

pub tied-Decides : (a b : Characters) → Decides (eq_by_cmp (slice_cmp nat_cmp) a b) (a ≡ b)
tied-Decides a b = let d = bytes_eq-Decides a b in (λ e. d.0 (sym (tied a b) ∙ e), λ e. tied a b ∙ d.1 e)

-- whichever is named first
pub tied_turned : (a b : Characters) → eq_by_cmp (slice_cmp nat_cmp) a b ≡ same_text b a
tied_turned a b =
    let same = bytes_eq-Decides b a in
    same_from_decides _ _ (tied-Decides a b) (λ e. sym (same.0 e), λ e. same.1 (sym e))

-- a text that got a name, by the name that it had
pub renamed : (from names : List Characters) (old new : ℕ) {text : Characters} → slice_get names new ≡ Some text → slice_get from old ≡ Some text → slice_get names new ≡ Some (text_of from old)
renamed from names old new {text} at was = at ∙ ap Some (sym (text_is from old text was))

-- two names of one text are one
pub same_name : (names : List Characters) (a b : ℕ) → StandOnce names → a < length names → b < length names → text_of names a ≡ text_of names b → a ≡ b
same_name names a b once l m e = once a b (text_of names b) (text_at names a l ∙ ap Some e) (text_at names b m)

-- names are equal where their texts are
pub same_names : (names : List Characters) (a b : ℕ) → StandOnce names → a < length names → b < length names → bytes_eq (text_of names a) (text_of names b) ≡ (a == b)
same_names names a b once l m =
    same_from_decides _ _ (bytes_eq-Decides (text_of names a) (text_of names b)) (λ e. ap (text_of names) (eqb-true a b e), λ e. eq-eqb a b (same_name names a b once l m e))

-- more names

pub below_more_names : (old new : List Characters) (name : ℕ) → KeepsTexts old new → name < length old → name < length new
below_more_names old new name kept l = slice_get_within new name (get_or old name []) (kept name l ∙ slice_get-get_or old name [] l)

pub KeepsTexts-more : (first old new : List Characters) → KeepsTexts first old → KeepsTexts old new → KeepsTexts first new
KeepsTexts-more first old new before after name l = after name (below_more_names first old name before l) ∙ before name l

pub text_kept : (old new : List Characters) (name : ℕ) → KeepsTexts old new → name < length old → text_of new name ≡ text_of old name
text_kept old new name kept l = ap (λ o. unwrap_or o []) (kept name l)

-- a name that was given before keeps its text
pub still_named : (old new : List Characters) (name : ℕ) {text : Characters} → slice_get old name ≡ Some text → KeepsTexts old new → slice_get new name ≡ Some text
still_named old new name {text} at kept = kept name (slice_get_within old name text at) ∙ at

-- what a look-up of a text found
module _ {names kept : List Characters} (text : Characters) (same : names ≡ kept) where
  pub found_name : (found : Option ℕ) → IfSome found (λ n. slice_get names n ≡ Some text) → is_some found ≡ is_among text names → IsNameOf kept text found
  found_name None h there = subst (λ n. is_among text n ≡ false) same (sym there)
  found_name (Some name) h there = subst (λ n. slice_get n name ≡ Some text) same h
