-- The declarations that entries stand for, one entry after another.
use Rattle.std.proofs.Common.{◌≡◌, ℕ, ◌+◌, List, [], ◌∷◌, ◌++◌, length, refl, ap, sym, ◌∙◌, arith, false, true, append_assoc, append-nil}
use Rattle.std.specs.Prelude.{flat_map}
use Rattle.std.proofs.lemmas.Grind.{flat_map-append}
use Rattle.base_model.specs.Origin.{author}
use Rattle.base_model.specs.Specificity.{Specificity, nothing}
use Rattle.layer_model.specs.Name.{no_layer}
use Rattle.layer_model.specs.Order.{Layers, layer_rank}
use Rattle.layer_order.specs.View.{origin_of}
use Rattle.sheet_model.specs.Declared.{Declared}
use Rattle.sheet_model.specs.Sources.{PlacedRule}
use Rattle.cascade_model.specs.Key as model
use Rattle.cascade_model.specs.Matching.{all_attached, all_matched, attached, matched}
use Rattle.shorthands.specs.View.{declared_count, declared_of}
use Rattle.shorthands.specs.declared.declared.Declared.{Declared as Entry}
use Rattle.cascade_core.specs.View.{all_applied, applied, lent_of}
use Rattle.cascade_core.specs.declared.matched.CascadePriority.{CascadePriority}
use Rattle.cascade_core.specs.declared.matched.LentMatched.{LentMatched}
use Rattle.element_styler.specs.Attached.{attached_at}

-- those of a rule, and then more of it
pub all_matched-append : (layers : Layers) (rule : PlacedRule) (s : Specificity) (index : ℕ) (xs ys : List Declared) → all_matched layers rule s index (xs ++ ys) ≡ all_matched layers rule s index xs ++ all_matched layers rule s (index + length xs) ys
all_matched-append layers rule s index [] ys =
    let first : index ≡ index + length {A = Declared} [] = omega arith in ap (λ i. all_matched layers rule s i ys) first
all_matched-append layers rule s index (x ∷ xs) ys =
    let next : (index + 1) + length xs ≡ index + length (x ∷ xs) = omega arith in
    ap (λ l. matched layers rule s index x ∷ l) (all_matched-append layers rule s (index + 1) xs ys)
    ∙ ap (λ i. matched layers rule s index x ∷ (all_matched layers rule s (index + 1) xs ++ all_matched layers rule s i ys)) next

-- those of a `style` attribute
pub all_attached-append : (layers : Layers) (index : ℕ) (xs ys : List Declared) → all_attached layers index (xs ++ ys) ≡ all_attached layers index xs ++ all_attached layers (index + length xs) ys
all_attached-append layers index [] ys =
    let first : index ≡ index + length {A = Declared} [] = omega arith in ap (λ i. all_attached layers i ys) first
all_attached-append layers index (x ∷ xs) ys =
    let next : (index + 1) + length xs ≡ index + length (x ∷ xs) = omega arith in
    ap (λ l. attached layers index x ∷ l) (all_attached-append layers (index + 1) xs ys)
    ∙ ap (λ i. attached layers index x ∷ (all_attached layers (index + 1) xs ++ all_attached layers i ys)) next

-- an entry by a rule
pub record IsByRule (layers : Layers) (rule : PlacedRule) (s : Specificity) (d : CascadePriority) : Type 0 where
  pub origin : origin_of d.origin ≡ rule.origin
  pub detached : d.attached ≡ false
  pub layer : d.layer ≡ layer_rank layers rule.origin rule.layer
  pub specificity : d.specificity ≡ s
  pub sheet : d.sheet ≡ rule.sheet
  pub position : d.position ≡ rule.position

pub applied_by_rule : (layers : Layers) (rule : PlacedRule) (s : Specificity) (d : CascadePriority) (index : ℕ) (ds : List Declared) → IsByRule layers rule s d → all_applied d index ds ≡ all_matched layers rule s index ds
applied_by_rule layers rule s d index [] by = refl
applied_by_rule layers rule s d index (x ∷ ds) by =
    let head : applied d index x ≡ matched layers rule s index x = same_head layers rule s d index x by in
    let tail : all_applied d (index + 1) ds ≡ all_matched layers rule s (index + 1) ds = applied_by_rule layers rule s d (index + 1) ds by in cc
  where
    same_head : (layers : Layers) (rule : PlacedRule) (s : Specificity) (d : CascadePriority) (index : ℕ) (x : Declared) → IsByRule layers rule s d → applied d index x ≡ matched layers rule s index x
    same_head layers rule s d index x by = cc

-- an entry by a `style` attribute
pub record IsAttached (layers : Layers) (d : CascadePriority) : Type 0 where
  pub origin : origin_of d.origin ≡ author
  pub attached : d.attached ≡ true
  pub layer : d.layer ≡ layer_rank layers author no_layer
  pub specificity : d.specificity ≡ nothing
  pub sheet : d.sheet ≡ 0
  pub position : d.position ≡ 0

pub applied_attached : (layers : Layers) (d : CascadePriority) (index : ℕ) (ds : List Declared) → IsAttached layers d → all_applied d index ds ≡ all_attached layers index ds
applied_attached layers d index [] is = refl
applied_attached layers d index (x ∷ ds) is =
    let head : applied d index x ≡ attached layers index x = same_head layers d index x is in
    let tail : all_applied d (index + 1) ds ≡ all_attached layers (index + 1) ds = applied_attached layers d (index + 1) ds is in cc
  where
    same_head : (layers : Layers) (d : CascadePriority) (index : ℕ) (x : Declared) → IsAttached layers d → applied d index x ≡ attached layers index x
    same_head layers d index x is = cc

-- One entry more: what the entries so far stand for, and what is left, is the whole. `all` is either of the two above.
added_one : {A D : Type 0} (value : A → List model.Matched) (seen : D → List Declared) (all : ℕ → List Declared → List model.Matched) → ((index : ℕ) (xs ys : List Declared) → all index (xs ++ ys) ≡ all index xs ++ all (index + length xs) ys)
    → (old new : List A) (one : A) (d : D) (rest left : List D) (index next : ℕ) (whole : List model.Matched) → new ≡ old ++ one ∷ [] → value one ≡ all index (seen d) → next ≡ index + length (seen d) → rest ≡ d ∷ left
    → flat_map value old ++ all index (flat_map seen rest) ≡ whole → flat_map value new ++ all next (flat_map seen left) ≡ whole
added_one value seen all more old new one d rest left index next whole added is counted here before =
    let grown : flat_map value new ≡ flat_map value old ++ value one = ap (flat_map value) added ∙ (flat_map-append value old (one ∷ []) ∙ ap (λ l. flat_map value old ++ l) (append-nil (value one))) in
    ap (λ l. l ++ all next (flat_map seen left)) grown
    ∙ (append_assoc (flat_map value old) (value one) (all next (flat_map seen left))
    ∙ (ap (λ l. flat_map value old ++ (l ++ all next (flat_map seen left))) is
    ∙ (ap (λ i. flat_map value old ++ (all index (seen d) ++ all i (flat_map seen left))) counted
    ∙ (ap (λ l. flat_map value old ++ l) (sym (more index (seen d) (flat_map seen left)))
    ∙ (ap (λ l. flat_map value old ++ all index (flat_map seen l)) (sym here) ∙ before)))))

pub rule_added : (layers : Layers) (rule : PlacedRule) (s : Specificity) (old new : List LentMatched) (one : LentMatched) (d : Entry) (rest left : List Entry) (next : ℕ) (whole : List model.Matched) → new ≡ old ++ one ∷ [] → IsByRule layers rule s one.priority → one.declared.now ≡ d → next ≡ one.priority.index + declared_count d → rest ≡ d ∷ left
    → flat_map lent_of old ++ all_matched layers rule s one.priority.index (flat_map declared_of rest) ≡ whole → flat_map lent_of new ++ all_matched layers rule s next (flat_map declared_of left) ≡ whole
rule_added layers rule s old new one d rest left next whole added by is counted here before =
    added_one lent_of declared_of (all_matched layers rule s) (all_matched-append layers rule s) old new one d rest left one.priority.index next whole added (applied_by_rule layers rule s one.priority one.priority.index (declared_of one.declared.now) by ∙ ap (λ e. all_matched layers rule s one.priority.index (declared_of e)) is) counted here before

-- one of a `style` attribute, whether it is lent or owned
pub style_added : {A : Type 0} (value : A → List model.Matched) (layers : Layers) (rank : ℕ) (old new : List A) (one : A) (d : Entry) (rest left : List Entry)
    (index next : ℕ) (whole : List model.Matched) → rank ≡ layer_rank layers author no_layer → new ≡ old ++ one ∷ []
    → value one ≡ all_applied (attached_at rank index) index (declared_of d) → next ≡ index + declared_count d → rest ≡ d ∷ left
    → flat_map value old ++ all_attached layers index (flat_map declared_of rest) ≡ whole → flat_map value new ++ all_attached layers next (flat_map declared_of left) ≡ whole
style_added value layers rank old new one d rest left index next whole ranked added is counted here before =
    let placed : IsAttached layers (attached_at rank index) = record { origin = refl; attached = refl; layer = ranked; specificity = refl; sheet = refl; position = refl } in
    added_one value declared_of (all_attached layers) (all_attached-append layers) old new one d rest left index next whole added
    (is ∙ applied_attached layers (attached_at rank index) index (declared_of d) placed) counted here before

-- and where nothing is left
pub added_all : {A D : Type 0} (value : A → List model.Matched) (seen : D → List Declared) (all : ℕ → List Declared → List model.Matched) (items : List A) (left : List D) (index : ℕ) (whole : List model.Matched) → ((i : ℕ) → all i [] ≡ []) → left ≡ [] → flat_map value items ++ all index (flat_map seen left) ≡ whole → flat_map value items ≡ whole
added_all value seen all items left index whole nothing none before =
    sym (append-nil (flat_map value items))
    ∙ (ap (λ l. flat_map value items ++ l) (sym (nothing index))
    ∙ (ap (λ l. flat_map value items ++ all index (flat_map seen l)) (sym none) ∙ before))
