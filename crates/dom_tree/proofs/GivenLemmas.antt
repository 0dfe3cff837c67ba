-- A node once one of its attributes is given a value or taken away, and its label.
use Rattle.std.proofs.Common.{◌≡◌, ℕ, ◌<◌, Bool, true, false, cond, List, length, codes, Option, Some, None, IfSome, option_and_then, option_map, sym, ap, ◌∙◌, refl}
use Rattle.std.specs.FinMap as finmap
use Rattle.std.specs.Str.{IsUtf8, bytes_eq, chars}
use Rattle.std.proofs.lemmas.Bool.{cond-true, cond-false}
use Rattle.std.proofs.lemmas.Cmp.{nat_list_cmp_total}
use Rattle.std.proofs.lemmas.Slice.Eq.{bytes_eq-Decides}
use Rattle.base_model.specs.Text.{same_text}
use Rattle.stylo_base.proofs.TextLemmas.{chars-ascii, same_test}
use Rattle.scene_model.specs.Element.{Characters}
use Rattle.scene_model.specs.Nodes.{Node}
use Rattle.dom_tree.specs.declared.labels.Label.{Label}
use Rattle.dom_tree.specs.Classes.{list_of}
use Rattle.dom_tree.specs.Kept.{text_of, with_attr, without_attr}
use Rattle.dom_tree.specs.Labels.{IsGiven, IsLabel, class_words, id_text}
use Rattle.dom_tree.proofs.LabelLemmas.{class_name, id_name}
use Rattle.dom_tree.proofs.NameLemmas.{tied_turned}
use Rattle.dom_tree.proofs.Parts.{Lists}

-- the two edits of an attribute

pub IsGiven-with_attr : (name value : Characters) (node : Node) → IsGiven name (Some value) node (with_attr name value node)
IsGiven-with_attr name value node = record {
  given = λ other. finmap.get-insert nat_list_cmp_total node.attrs name value other ∙ ap (λ b. cond b (Some value) (finmap.get node.attrs other)) (tied_turned other name);
}

pub IsGiven-without_attr : (name : Characters) (node : Node) → IsGiven name None node (without_attr name node)
IsGiven-without_attr name node = record {
  given = λ other. finmap.get-remove nat_list_cmp_total node.attrs name other ∙ ap (λ b. cond b None (finmap.get node.attrs other)) (tied_turned other name);
}

-- its label

module _ {names : List Characters} {lists : Lists} {node after : Node} {label : Label} {name : Characters} {value : Option Characters} where
  module _ (is : IsLabel names lists node label) (given : IsGiven name value node after) where
    here : (text : Characters) → same_text name text ≡ true → finmap.get after.attrs text ≡ value
    here text e = given.given text ∙ cond-true (same_text name text) value (finmap.get node.attrs text) e

    there : (text : Characters) → same_text name text ≡ false → finmap.get after.attrs text ≡ finmap.get node.attrs text
    there text e = given.given text ∙ cond-false (same_text name text) value (finmap.get node.attrs text) e

    -- of another attribute the label says what it said
    same_id : same_text name id_name ≡ false → option_map (text_of names) label.id ≡ option_and_then id_text (finmap.get after.attrs id_name)
    same_id e = is.id ∙ ap (option_and_then id_text) (sym (there id_name e))

    same_class : same_text name class_name ≡ false → list_of lists label.classes ≡ class_words (finmap.get after.attrs class_name)
    same_class e = is.classes ∙ ap class_words (sym (there class_name e))

    pub id_given : {id : Option ℕ} → same_text name id_name ≡ true → option_map (text_of names) id ≡ option_and_then id_text value → IfSome id (λ n. n < length names)
        → IsLabel names lists after (record { id = id; classes = label.classes })
    id_given e told named =
        let no_class : same_text name class_name ≡ false =
        ap (λ t. same_text t class_name) ((bytes_eq-Decides name id_name).0 e ∙ chars-ascii (codes "id") refl) ∙ ap (same_text (codes "id")) (chars-ascii (codes "class") refl) in
        record { id = told ∙ ap (option_and_then id_text) (sym (here id_name e)); named = named; classes = same_class no_class; listed = is.listed }

    pub class_given : {longer : Lists} {classes : Option ℕ} → same_text name id_name ≡ false → same_text name class_name ≡ true → list_of longer classes ≡ class_words value
        → IfSome classes (λ k. k < length longer) → IsLabel names longer after (record { id = label.id; classes = classes })
    class_given no_id e told listed =
        record { id = same_id no_id; named = is.named; classes = told ∙ ap class_words (sym (here class_name e)); listed = listed }

    pub other_given : same_text name id_name ≡ false → same_text name class_name ≡ false → IsLabel names lists after label
    other_given no_id no_class = record { id = same_id no_id; named = is.named; classes = same_class no_class; listed = is.listed }

-- a name that was compared with another
pub compared : (name text : List ℕ) (answer b : Bool) → IsUtf8 name → IsUtf8 text → answer ≡ bytes_eq name text → answer ≡ b → same_text (chars name) (chars text) ≡ b
compared name text answer b u v e h = sym (same_test name text u v) ∙ (sym e ∙ h)

pub id_text-IsUtf8 : IsUtf8 (codes "id")
unfolding lib.Utf8.encode
id_text-IsUtf8 = (codes "id", (refl, refl))

pub class_text-IsUtf8 : IsUtf8 (codes "class")
unfolding lib.Utf8.encode
class_text-IsUtf8 = (codes "class", (refl, refl))
