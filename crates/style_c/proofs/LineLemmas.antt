-- The lines of all elements, made one after another.
use Rattle.std.proofs.Common.{◌≡◌, ℕ, ◌+◌, ◌<◌, List, ◌++◌, ◌||◌, length, drop, get_or, true, false, encode_utf8_all, subst, refl, sym, ap, ◌∙◌, append_assoc}
use Rattle.std.specs.List.{AllByRecursion, list_any}
use Rattle.std.proofs.lemmas.Str.{encodes-append}
use Rattle.base_model.specs.Text.{Characters}
use Rattle.base_model.proofs.Lists.{each-drop}
use Rattle.scene_model.specs.Element.{Element}
use Rattle.scene_model.specs.Lookups.{IsElement, numbers}
use Rattle.scene_model.specs.Scene.{elements_of}
use Rattle.sheet_model.specs.Sources.{sources_of}
use Rattle.sheet_set.proofs.Left.{item_at}
use Rattle.session_model.specs.Standing.{Standing, is_open}
use Rattle.dom_tree.proofs.DepthLemmas.{get_any}
use Rattle.session_model.proofs.FlagLemmas.{each_number}
use Rattle.report_text.specs.Elements.{line_at, lines_bytes}
use Rattle.style_session.specs.Answers.{IsAnswer}
use Rattle.style_session.specs.declared.session.StyleAnswer.{StyleAnswer}
use Rattle.style_session.specs.declared.session.StyleAnswer.TheVariants.{Kept, Stale, NoNode}

-- the lines of the elements before an index are in the text, and none of these is stale
pub record IsReached (st : Standing) (items : List ℕ) (i : ℕ) (text : Characters) : Type 0 where
  pub lines : encode_utf8_all text ++ lines_bytes st.scene (drop i items) ≡ lines_bytes st.scene items
  pub settled : list_any (is_open st) (drop i items) ≡ list_any (is_open st) items

-- one line more
pub one_line : (st : Standing) (items : List ℕ) (i x : ℕ) (old new : Characters) → i < length items → x ≡ get_or items i x → is_open st x ≡ false
    → new ≡ old ++ line_at (elements_of st.scene) (sources_of st.scene.sheets) x → IsReached st items i old → IsReached st items (i + 1) new
one_line st items i x old new below is settled added reached =
    let here = item_at items i x below is in
    let line = line_at (elements_of st.scene) (sources_of st.scene.sheets) x in
    let rest = drop (i + 1) items in
    record {
      lines =
          ap (λ t. encode_utf8_all t ++ lines_bytes st.scene rest) added
          ∙ (ap (λ b. b ++ lines_bytes st.scene rest) (encodes-append old line)
          ∙ (append_assoc (encode_utf8_all old) (encode_utf8_all line) (lines_bytes st.scene rest)
          ∙ (ap (λ xs. encode_utf8_all old ++ lines_bytes st.scene xs) (sym here) ∙ reached.lines)));
      settled = ap (λ b. b || list_any (is_open st) rest) (sym settled) ∙ (ap (list_any (is_open st)) (sym here) ∙ reached.settled);
    }

-- one is stale
pub one_open : (st : Standing) (items : List ℕ) (i x : ℕ) (text : Characters) → i < length items → x ≡ get_or items i x → is_open st x ≡ true
    → IsReached st items i text → list_any (is_open st) items ≡ true
one_open st items i x text below is stale reached =
    sym reached.settled ∙ (ap (list_any (is_open st)) (item_at items i x below is) ∙ ap (λ b. b || list_any (is_open st) (drop (i + 1) items)) stale)

-- the number at an index is that of an element
pub is_number : (els : List Element) (items : List ℕ) (i : ℕ) → i < length items → items ≡ numbers els → IsElement els (get_or items i 0)
is_number els items i below order =
    let all = subst (AllByRecursion (IsElement els)) (sym order) (each_number els) in
    (subst (AllByRecursion (IsElement els)) (item_at items i (get_or items i 0) below (get_any items i below)) (each-drop (IsElement els) i items all)).0

-- an element whose style is not told is stale
pub not_kept : (st : Standing) (n : ℕ) (answer : StyleAnswer) → IsElement (elements_of st.scene) n → IsAnswer st n answer
    → ((style : _) → answer ≡ Kept style → ⊥) → is_open st n ≡ true
not_kept st n (Kept style) there is none = absurd (none style refl)
not_kept st n Stale there is none = is.1
not_kept st n NoNode there is none =
    let both : true ≡ false = sym there ∙ is in cc
