-- What JSON values say, computed.
use Rattle.std.specs.Prelude.{◌≡◌, ℕ, zero, suc, List, [], ◌∷◌, Bool, true, false, is_some, Option, Some, None, Ok, is_ok, pos, neg_ℤ, Float, replicate, codes}
use Rattle.std.specs.FinMap as finmap
use Rattle.std.specs.List.{list_all, list_any}
use Rattle.std.specs.Result.{result_err}
use Rattle.std.specs.Str.{chars}
use Rattle.std.specs.Fmt.{digits}
use Rattle.std.proofs.Common.{refl}
use Rattle.serde_json.specs.Data.{Data, null, boolean, number, string, array, object, unsigned, negative, float, Items, no_items, item, Members, no_members, member, put}
use Rattle.base_model.specs.Ascii.{delete}
use Rattle.scene_model.specs.Ancestors.{ancestors}
use Rattle.scene_model.specs.Nodes.{Node, scene_of, tree_order}
use Rattle.edit_model.proofs.LimitCases.{values-none}
use Rattle.layer_order.specs.declared.origin.Origin.TheVariants.{UserAgent, User}
use Rattle.layer_order.specs.declared.sheet_input.SheetInput.{SheetInput}
use Rattle.job_json.specs.Words.{is_name, no_states}
use Rattle.stylo_base.specs.declared.refusal.Kind.TheVariants.{Attributes, Depth, Sheets, Batches}
use Rattle.stylo_base.specs.declared.state.State.TheVariants.{Focus}
use Rattle.dom_edits.specs.declared.edits.DocEdit.TheVariants.{Insert, Remove, Move, Set, Unset, State}
use Rattle.dom_edits.specs.declared.edits.NewNodes.TheVariants.{Kept}
use Rattle.dom_edits.specs.declared.edits.SheetEdit.TheVariants.{Add, Remove as RemoveSheet, Replace, Enable}
use Rattle.dom_edits.specs.declared.edits.Edit.TheVariants.{Document, Sheets as OfSheets}
use Rattle.job_json.specs.Shape.{states_in, sheet_in, sheets_in}
use Rattle.job_json.specs.Edits.{batches_in}
use Rattle.job_json.specs.Limits.{nodes_past, texts_past, sheets_past, batches_past}
use Rattle.job_json.specs.JobOf.{job_in, verdict_on, job_if_good}

-- JSON values as they are read: of members with the same key the last stays

abbrev items : List Data → Items
items [] = no_items
items (value ∷ values) = item value (items values)

abbrev put_all : Members → List (List ℕ × Data) → Members
put_all found [] = found
put_all found (entry ∷ entries) = put_all (put entry.0 entry.1 found) entries

abbrev list : List Data → Data
list values = array (items values)

abbrev obj : List (List ℕ × Data) → Data
obj entries = object (put_all no_members entries)

abbrev n : ℕ → Data
n k = number (unsigned k)

abbrev text : List ℕ → Data
text t = string t

abbrev empty : Data
empty = text []

-- names

names : list_all is_name (codes "p" ∷ (195 ∷ 169 ∷ []) ∷ replicate 256 97 ∷ []) ≡ true
names = refl

no_names : list_any is_name ([] ∷ codes "a b" ∷ (97 ∷ delete ∷ []) ∷ replicate 257 97 ∷ []) ≡ false
no_names = refl

-- whole jobs

abbrev is_job : Data → Bool
is_job value = is_some (job_if_good (verdict_on value))

abbrev version : Data → List ℕ × Data
version value = (codes "version", value)

abbrev nodes : Data → List ℕ × Data
nodes value = (codes "nodes", value)

abbrev sheets : Data → List ℕ × Data
sheets value = (codes "sheets", value)

abbrev batches : Data → List ℕ × Data
batches value = (codes "batches", value)

abbrev more : Data → List ℕ × Data
more value = (codes "more", value)

abbrev tag : Data → List ℕ × Data
tag value = (codes "tag", value)

abbrev p : List ℕ × Data
p = tag (text (codes "p"))

abbrev alone : List ℕ × Data
alone = nodes (list (obj (p ∷ []) ∷ []))

abbrev good_jobs : List Data
good_jobs =
    obj (version (n 1) ∷ alone ∷ [])
    ∷ obj (alone ∷ version (n 1) ∷ sheets (list []) ∷ batches (list []) ∷ more null ∷ [])
    ∷ obj (version (n 2) ∷ nodes (n 7) ∷ version (n 1) ∷ alone ∷ [])
    ∷ obj (version (n 1) ∷ alone ∷ batches (list (list [] ∷ [])) ∷ [])
    ∷ []

jobs : list_all is_job good_jobs ≡ true
unfolding scene_of tree_order ancestors
jobs = refl

abbrev other_values : List Data
other_values =
    null
    ∷ list []
    ∷ obj []
    ∷ obj (alone ∷ [])
    ∷ obj (version (n 2) ∷ alone ∷ [])
    ∷ obj (version (text (codes "1")) ∷ alone ∷ [])
    ∷ obj (version (n 1) ∷ version (n 2) ∷ alone ∷ [])
    ∷ obj (version (n 1) ∷ [])
    ∷ obj (version (n 1) ∷ nodes (obj []) ∷ [])
    ∷ obj (version (n 1) ∷ alone ∷ sheets null ∷ [])
    ∷ obj (version (n 1) ∷ alone ∷ sheets (list (obj [] ∷ [])) ∷ [])
    ∷ obj (version (n 1) ∷ alone ∷ batches (obj []) ∷ [])
    ∷ []

others : list_any is_job other_values ≡ false
unfolding scene_of tree_order ancestors
others = refl

-- `1.0` is no whole number
no_float_version : (f : Float) → is_job (obj (version (number (float f)) ∷ alone ∷ [])) ≡ false
unfolding scene_of tree_order ancestors
no_float_version f = refl

-- nodes

abbrev are_nodes : List Data → Bool
are_nodes values = is_job (obj (version (n 1) ∷ nodes (list values) ∷ []))

abbrev parent : Data → List ℕ × Data
parent value = (codes "parent", value)

abbrev attrs : Data → List ℕ × Data
attrs value = (codes "attrs", value)

abbrev states : Data → List ℕ × Data
states value = (codes "states", value)

-- the first, and one more with this parent
abbrev two : Data → List Data
two value = obj (p ∷ []) ∷ obj (p ∷ parent value ∷ []) ∷ []

abbrev good_nodes : List (List Data)
good_nodes =
    (obj (tag empty ∷ p ∷ []) ∷ [])
    ∷ (obj (tag (text (195 ∷ 169 ∷ [])) ∷ more (list (n 1 ∷ obj [] ∷ [])) ∷ []) ∷ [])
    ∷ (obj (p ∷ attrs (obj []) ∷ states (list []) ∷ []) ∷ [])
    ∷ (obj (p ∷ attrs (obj ((codes "id", empty) ∷ [])) ∷ states (list (text (codes "focus") ∷ text (codes "focus") ∷ [])) ∷ []) ∷ [])
    ∷ two (n 0)
    ∷ []

node_lists : list_all are_nodes good_nodes ≡ true
unfolding scene_of tree_order ancestors
node_lists = refl

abbrev other_nodes : List (List Data)
other_nodes =
    []
    ∷ (obj [] ∷ [])
    ∷ (obj (tag empty ∷ []) ∷ [])
    ∷ (obj (p ∷ tag (n 7) ∷ []) ∷ [])
    ∷ (obj (tag (text (codes "a b")) ∷ []) ∷ [])
    ∷ (obj (tag (text (97 ∷ delete ∷ [])) ∷ []) ∷ [])
    ∷ (obj (p ∷ parent (n 0) ∷ []) ∷ [])
    ∷ (obj (p ∷ parent null ∷ []) ∷ [])
    ∷ (obj (p ∷ []) ∷ obj (p ∷ []) ∷ [])
    ∷ two (n 1)
    ∷ two (number (negative (neg_ℤ (pos 1))))
    ∷ two (text (codes "0"))
    ∷ (obj (p ∷ states (list (text (codes "visited") ∷ [])) ∷ []) ∷ [])
    ∷ (obj (p ∷ states (list (text (codes "hover") ∷ n 1 ∷ [])) ∷ []) ∷ [])
    ∷ (obj (p ∷ states null ∷ []) ∷ [])
    ∷ (obj (p ∷ attrs (list []) ∷ []) ∷ [])
    ∷ (obj (p ∷ attrs (obj ((codes "id", n 7) ∷ [])) ∷ []) ∷ [])
    ∷ (obj (p ∷ attrs (obj ((codes "a b", empty) ∷ [])) ∷ []) ∷ [])
    ∷ (obj (p ∷ attrs (obj (([], empty) ∷ [])) ∷ []) ∷ [])
    ∷ []

no_node_lists : list_any are_nodes other_nodes ≡ false
unfolding scene_of tree_order ancestors
no_node_lists = refl

-- nor `0.0`, `-0` and 2^64, which are read as floats
no_float_parent : (f : Float) → are_nodes (two (number (float f))) ≡ false
unfolding scene_of tree_order ancestors
no_float_parent f = refl

node_states : states_in (Some (list (text (codes "focus") ∷ text (codes "hover") ∷ text (codes "focus") ∷ []))) ≡ Ok (record { hover = true; active = false; focus = true })
node_states = refl

-- sheets

abbrev are_sheets : Data → Bool
are_sheets value = is_job (obj (version (n 1) ∷ alone ∷ sheets value ∷ []))

-- a sheet, however long its text
abbrev is_sheet : List (List ℕ × Data) → Bool
is_sheet entries = is_ok (sheet_in (obj entries))

abbrev origin : Data → List ℕ × Data
origin value = (codes "origin", value)

abbrev author : List ℕ × Data
author = origin (text (codes "author"))

abbrev ua : List ℕ × Data
ua = origin (text (codes "ua"))

abbrev user : List ℕ × Data
user = origin (text (codes "user"))

abbrev other : List ℕ × Data
other = origin (text (codes "other"))

abbrev enabled : Data → List ℕ × Data
enabled value = (codes "enabled", value)

abbrev css : Data → List ℕ × Data
css value = (codes "text", value)

abbrev rule : Data
rule = text (codes "p{}")

abbrev good_sheets : List (List (List ℕ × Data))
good_sheets =
    (author ∷ css empty ∷ [])
    ∷ (css rule ∷ enabled (boolean true) ∷ author ∷ [])
    ∷ (author ∷ css rule ∷ (codes "title", null) ∷ (codes "media", list (obj [] ∷ [])) ∷ [])
    ∷ (ua ∷ css empty ∷ [])
    ∷ (user ∷ css rule ∷ enabled (boolean false) ∷ [])
    ∷ (author ∷ enabled (boolean true) ∷ enabled (boolean false) ∷ css empty ∷ [])
    ∷ (other ∷ enabled null ∷ css (n 7) ∷ author ∷ enabled (boolean true) ∷ css rule ∷ [])
    ∷ []

sheet_members : list_all is_sheet good_sheets ≡ true
sheet_members = refl

no_sheets : is_job (obj (version (n 1) ∷ alone ∷ sheets (list (n 7 ∷ [])) ∷ sheets (list []) ∷ [])) ≡ true
unfolding scene_of tree_order ancestors
no_sheets = refl

abbrev one : Data
one = obj (author ∷ css empty ∷ [])

abbrev two_sheets : List Data
two_sheets = obj (ua ∷ css rule ∷ []) ∷ obj (enabled (boolean false) ∷ user ∷ css empty ∷ []) ∷ []

sheets_said : sheets_in (Some (list two_sheets)) ≡ Ok (record { origin = UserAgent; enabled = true; text = codes "p{}" } ∷ record { origin = User; enabled = false; text = [] } ∷ [])
unfolding chars
sheets_said = refl

two_lists : list_all are_sheets (list (obj (ua ∷ css empty ∷ []) ∷ obj (user ∷ enabled (boolean false) ∷ css empty ∷ []) ∷ []) ∷ list (one ∷ one ∷ one ∷ []) ∷ []) ≡ true
unfolding scene_of tree_order ancestors chars
two_lists = refl

abbrev other_lists : List Data
other_lists =
    null ∷ obj [] ∷ one ∷ list (null ∷ []) ∷ list (list [] ∷ []) ∷ list (rule ∷ []) ∷ list (one ∷ n 7 ∷ []) ∷ list (n 7 ∷ []) ∷ []

no_lists : list_any are_sheets other_lists ≡ false
unfolding scene_of tree_order ancestors
no_lists = refl

abbrev other_sheets : List (List (List ℕ × Data))
other_sheets =
    []
    ∷ (css empty ∷ [])
    ∷ (other ∷ css empty ∷ [])
    ∷ (origin (text (codes "Author")) ∷ css empty ∷ [])
    ∷ (origin (text (codes "UA")) ∷ css empty ∷ [])
    ∷ (origin (text (codes "user ")) ∷ css empty ∷ [])
    ∷ (origin empty ∷ css empty ∷ [])
    ∷ (origin null ∷ css empty ∷ [])
    ∷ (origin (n 2) ∷ css empty ∷ [])
    ∷ (author ∷ other ∷ css empty ∷ [])
    ∷ (author ∷ enabled null ∷ css empty ∷ [])
    ∷ (author ∷ enabled (n 1) ∷ css empty ∷ [])
    ∷ (author ∷ enabled (text (codes "true")) ∷ css empty ∷ [])
    ∷ (author ∷ enabled (boolean true) ∷ enabled null ∷ css empty ∷ [])
    ∷ (author ∷ [])
    ∷ (author ∷ css (n 7) ∷ [])
    ∷ (author ∷ css null ∷ [])
    ∷ (author ∷ css (list (rule ∷ [])) ∷ [])
    ∷ (author ∷ css rule ∷ css null ∷ [])
    ∷ []

no_sheet_members : list_any is_sheet other_sheets ≡ false
no_sheet_members = refl

-- ---- where a job is bad, and which limit it passes

abbrev bad_at : Data → Option (List ℕ)
bad_at value = result_err (job_in value)

abbrev at : List ℕ → Option (List ℕ)
at path = Some path

no_object : bad_at (list []) ≡ at []
no_object = refl

no_version : bad_at (obj (alone ∷ [])) ≡ at (codes "/version")
unfolding chars
no_version = refl

-- in reading order, whatever the order of the members
version_first : bad_at (obj (batches null ∷ sheets null ∷ nodes null ∷ version null ∷ [])) ≡ at (codes "/version")
unfolding chars
version_first = refl

nodes_next : bad_at (obj (batches null ∷ sheets null ∷ nodes (list []) ∷ version (n 1) ∷ [])) ≡ at (codes "/nodes")
unfolding chars
nodes_next = refl

sheets_next : bad_at (obj (batches null ∷ sheets null ∷ alone ∷ version (n 1) ∷ [])) ≡ at (codes "/sheets")
unfolding chars
sheets_next = refl

batches_last : bad_at (obj (batches (obj []) ∷ alone ∷ version (n 1) ∷ [])) ≡ at (codes "/batches")
unfolding chars
batches_last = refl

abbrev node_bad_at : List (List ℕ × Data) → Option (List ℕ)
node_bad_at entries = bad_at (obj (version (n 1) ∷ nodes (list (obj entries ∷ [])) ∷ []))

tag_first : node_bad_at (parent null ∷ attrs null ∷ states null ∷ []) ≡ at (codes "/nodes/0/tag")
unfolding chars digits
tag_first = refl

parent_next : node_bad_at (p ∷ parent null ∷ attrs null ∷ states null ∷ []) ≡ at (codes "/nodes/0/parent")
unfolding chars digits
parent_next = refl

attrs_next : node_bad_at (p ∷ attrs null ∷ states null ∷ []) ≡ at (codes "/nodes/0/attrs")
unfolding chars digits
attrs_next = refl

states_last : node_bad_at (p ∷ states (list (text (codes "hover") ∷ n 1 ∷ [])) ∷ []) ≡ at (codes "/nodes/0/states/1")
unfolding chars digits
states_last = refl

second_node : bad_at (obj (version (n 1) ∷ nodes (list (two (n 1))) ∷ [])) ≡ at (codes "/nodes/1/parent")
unfolding chars digits
second_node = refl

-- by the bytes of the keys, the name before its value
pair_bad_at : node_bad_at (p ∷ attrs (obj ((codes "b b", empty) ∷ (codes "Z", empty) ∷ (codes "b/~", n 1) ∷ [])) ∷ []) ≡ at (codes "/nodes/0/attrs/b b")
unfolding chars digits
pair_bad_at = refl

escaped_key : node_bad_at (p ∷ attrs (obj ((codes "a~/b", n 3) ∷ [])) ∷ []) ≡ at (codes "/nodes/0/attrs/a~0~1b")
unfolding chars digits
escaped_key = refl

abbrev sheets_bad_at : List Data → Option (List ℕ)
sheets_bad_at values = bad_at (obj (version (n 1) ∷ alone ∷ sheets (list values) ∷ []))

text_before_next : sheets_bad_at (obj (author ∷ []) ∷ n 3 ∷ []) ≡ at (codes "/sheets/0/text")
unfolding chars digits
text_before_next = refl

other_origin : sheets_bad_at (obj (other ∷ enabled null ∷ css (n 7) ∷ []) ∷ []) ≡ at (codes "/sheets/0/origin")
unfolding chars digits
other_origin = refl

enabled_next : sheets_bad_at (obj (ua ∷ enabled null ∷ css (n 7) ∷ []) ∷ []) ≡ at (codes "/sheets/0/enabled")
unfolding chars digits
enabled_next = refl

second_sheet : sheets_bad_at (obj (ua ∷ css rule ∷ enabled (boolean false) ∷ []) ∷ obj (user ∷ css (n 7) ∷ []) ∷ n 3 ∷ []) ≡ at (codes "/sheets/1/text")
unfolding chars digits
second_sheet = refl

no_bad_sheet : sheets_bad_at two_sheets ≡ None
unfolding chars
no_bad_sheet = refl

-- so many attributes
abbrev many : ℕ → Members
many zero = no_members
many (suc k) = member [] empty (many k)

abbrev with_many : ℕ → Data
with_many k = object (member (codes "attrs") (object (many k)) no_members)

-- node by node its attributes, and then its depth
attributes_first : nodes_past (item (with_many 65) no_items) (257 ∷ []) ≡ Some (Attributes, 64)
attributes_first = refl

depth_last : nodes_past (item (with_many 64) no_items) (257 ∷ []) ≡ Some (Depth, 256)
depth_last = refl

earlier_node : nodes_past (item (with_many 64) (item (with_many 65) no_items)) (257 ∷ 1 ∷ []) ≡ Some (Depth, 256)
earlier_node = refl

none_past : nodes_past (item (with_many 64) no_items) (256 ∷ []) ≡ None
none_past = refl

-- one sheet more than there may be is past that limit, however long the texts are
sheets_first : (sheet : SheetInput) → sheets_past (replicate 257 sheet) ≡ Some (Sheets, 256)
sheets_first sheet = refl

texts_last : (sheet : SheetInput) → sheets_past (replicate 256 sheet) ≡ texts_past (replicate 256 sheet)
texts_last sheet = refl

-- ---- batches

abbrev key : List ℕ → Data → List ℕ × Data
key word value = (word, value)

abbrev op : List ℕ → List ℕ × Data
op word = key (codes "op") (text word)

abbrev of_node : ℕ → List ℕ × Data
of_node k = key (codes "node") (n k)

abbrev class : List ℕ × Data
class = key (codes "name") (text (codes "class"))

abbrev value : Data → List ℕ × Data
value = key (codes "value")

abbrev state : Data → List ℕ × Data
state = key (codes "state")

abbrev on : Data → List ℕ × Data
on = key (codes "on")

abbrev set_b : Data
set_b = obj (op (codes "set") ∷ of_node 4 ∷ class ∷ value (text (codes "b")) ∷ [])

-- in another order, with members that no edit has, and the last of equal keys; the number is past those of elements
abbrev unset_far : Data
unset_far = obj (class ∷ of_node 1 ∷ more null ∷ key (codes "node") (n 4294967297) ∷ value null ∷ op (codes "set") ∷ op (codes "unset") ∷ [])

abbrev focus_off : Data
focus_off = obj (on (boolean true) ∷ on (boolean false) ∷ state (text (codes "focus")) ∷ of_node 0 ∷ op (codes "state") ∷ [])

batches_said : batches_in (Some (list (list (set_b ∷ unset_far ∷ []) ∷ list [] ∷ list (focus_off ∷ []) ∷ [])))
    ≡ Ok ((Document (Set 4 (codes "class") (codes "b")) ∷ Document (Unset 4294967297 (codes "class")) ∷ []) ∷ [] ∷ (Document (State 0 Focus false) ∷ []) ∷ [])
unfolding chars
batches_said = refl

abbrev batches_bad_at : List Data → Option (List ℕ)
batches_bad_at values = bad_at (obj (version (n 1) ∷ alone ∷ batches (list values) ∷ []))

abbrev edit_bad_at : List (List ℕ × Data) → Option (List ℕ)
edit_bad_at entries = batches_bad_at (list (obj entries ∷ []) ∷ [])

no_batch : batches_bad_at (list [] ∷ obj [] ∷ n 3 ∷ []) ≡ at (codes "/batches/1")
unfolding chars digits
no_batch = refl

no_edit : batches_bad_at (list (focus_off ∷ n 7 ∷ []) ∷ []) ≡ at (codes "/batches/0/1")
unfolding chars digits
no_edit = refl

op_first : edit_bad_at (key (codes "node") null ∷ []) ≡ at (codes "/batches/0/0/op")
unfolding chars digits
op_first = refl

-- a word that no edit has is bad before what comes after it
other_op : edit_bad_at (op (codes "Set") ∷ key (codes "node") null ∷ []) ≡ at (codes "/batches/0/0/op")
unfolding chars digits
other_op = refl

node_next : edit_bad_at (op (codes "set") ∷ key (codes "node") (text (codes "1")) ∷ value null ∷ []) ≡ at (codes "/batches/0/0/node")
unfolding chars digits
node_next = refl

no_float_node : (f : Float) → edit_bad_at (op (codes "unset") ∷ class ∷ key (codes "node") (number (float f)) ∷ []) ≡ at (codes "/batches/0/0/node")
unfolding chars digits
no_float_node f = refl

name_next : edit_bad_at (op (codes "set") ∷ of_node 1 ∷ key (codes "name") (text (codes "a b")) ∷ value null ∷ []) ≡ at (codes "/batches/0/0/name")
unfolding chars digits
name_next = refl

value_last : edit_bad_at (op (codes "set") ∷ of_node 1 ∷ class ∷ value (n 7) ∷ []) ≡ at (codes "/batches/0/0/value")
unfolding chars digits
value_last = refl

state_next : edit_bad_at (op (codes "state") ∷ of_node 1 ∷ state (text (codes "visited")) ∷ []) ≡ at (codes "/batches/0/0/state")
unfolding chars digits
state_next = refl

abbrev hover : Data → Data
hover flag = obj (op (codes "state") ∷ of_node 1 ∷ state (text (codes "hover")) ∷ on flag ∷ [])

on_last : batches_bad_at (list (hover (boolean true) ∷ set_b ∷ hover (n 1) ∷ []) ∷ null ∷ []) ≡ at (codes "/batches/0/2/on")
unfolding chars digits
on_last = refl

-- child lists

abbrev below : ℕ → List ℕ × Data
below k = parent (n k)

abbrev index : ℕ → List ℕ × Data
index k = key (codes "index") (n k)

abbrev insert : List ℕ × Data
insert = op (codes "insert")

abbrev bare : Option ℕ → Node
bare named = record { parent = named; tag = codes "p"; attrs = finmap.empty; states = no_states }

abbrev insert_two : Data
insert_two = obj (insert ∷ below 1 ∷ index 2 ∷ nodes (list (two (n 0))) ∷ [])

inserted : batches_in (Some (list (list (insert_two ∷ []) ∷ []))) ≡ Ok ((Document (Insert 1 2 (Kept (bare None ∷ bare (Some 0) ∷ []))) ∷ []) ∷ [])
unfolding chars
inserted = rw (finmap.len-empty, values-none) refl

-- what an edit does not have may hold anything
abbrev remove_it : Data
remove_it = obj (nodes (list []) ∷ parent null ∷ of_node 3 ∷ op (codes "remove") ∷ [])

abbrev move_it : Data
move_it = obj (index 4294967297 ∷ below 5 ∷ nodes null ∷ of_node 3 ∷ op (codes "move") ∷ [])

child_lists_said : batches_in (Some (list (list (remove_it ∷ move_it ∷ []) ∷ []))) ≡ Ok ((Document (Remove 3) ∷ Document (Move 3 5 4294967297) ∷ []) ∷ [])
child_lists_said = refl

parent_before_index : edit_bad_at (insert ∷ parent null ∷ key (codes "index") null ∷ nodes null ∷ []) ≡ at (codes "/batches/0/0/parent")
unfolding chars digits
parent_before_index = refl

index_before_nodes : edit_bad_at (insert ∷ below 1 ∷ key (codes "index") (text (codes "0")) ∷ nodes null ∷ []) ≡ at (codes "/batches/0/0/index")
unfolding chars digits
index_before_nodes = refl

no_new_nodes : edit_bad_at (insert ∷ below 1 ∷ index 0 ∷ []) ≡ at (codes "/batches/0/0/nodes")
unfolding chars digits
no_new_nodes = refl

empty_new_nodes : edit_bad_at (insert ∷ below 1 ∷ index 0 ∷ nodes (list []) ∷ []) ≡ at (codes "/batches/0/0/nodes")
unfolding chars digits
empty_new_nodes = refl

second_new_node : edit_bad_at (insert ∷ below 1 ∷ index 0 ∷ nodes (list (two (n 1))) ∷ []) ≡ at (codes "/batches/0/0/nodes/1/parent")
unfolding chars digits
second_new_node = refl

removed_node : edit_bad_at (op (codes "remove") ∷ key (codes "node") null ∷ []) ≡ at (codes "/batches/0/0/node")
unfolding chars digits
removed_node = refl

moved_node_first : edit_bad_at (op (codes "move") ∷ parent null ∷ key (codes "index") null ∷ []) ≡ at (codes "/batches/0/0/node")
unfolding chars digits
moved_node_first = refl

moved_parent_next : edit_bad_at (op (codes "move") ∷ of_node 2 ∷ key (codes "index") null ∷ []) ≡ at (codes "/batches/0/0/parent")
unfolding chars digits
moved_parent_next = refl

moved_index_last : edit_bad_at (op (codes "move") ∷ of_node 2 ∷ below 1 ∷ []) ≡ at (codes "/batches/0/0/index")
unfolding chars digits
moved_index_last = refl

-- sheets

abbrev of_sheet : ℕ → List ℕ × Data
of_sheet k = key (codes "sheet") (n k)

abbrev add : List ℕ × Data
add = op (codes "add_sheet")

abbrev replace : List ℕ × Data
replace = op (codes "replace_sheet")

abbrev enable : List ℕ × Data
enable = op (codes "enable_sheet")

-- one that says nothing of it is enabled; what an edit does not have may hold anything
abbrev add_on : Data
add_on = obj (css rule ∷ ua ∷ key (codes "sheet") null ∷ on null ∷ index 4294967297 ∷ add ∷ [])

abbrev add_off : Data
add_off = obj (add ∷ index 0 ∷ other ∷ user ∷ enabled null ∷ enabled (boolean false) ∷ css (n 7) ∷ css empty ∷ value null ∷ [])

added : batches_in (Some (list (list (add_on ∷ add_off ∷ []) ∷ []))) ≡ Ok ((OfSheets (Add 4294967297 UserAgent true (codes "p{}")) ∷ OfSheets (Add 0 User false []) ∷ []) ∷ [])
unfolding chars
added = refl

abbrev remove_sheet : Data
remove_sheet = obj (of_node 2 ∷ of_sheet 3 ∷ index 4 ∷ op (codes "remove_sheet") ∷ [])

abbrev replace_sheet : Data
replace_sheet = obj (replace ∷ css rule ∷ value (text (codes "b")) ∷ enabled null ∷ of_sheet 0 ∷ [])

abbrev enable_sheet : Data
enable_sheet = obj (enabled (boolean true) ∷ on (boolean false) ∷ css null ∷ of_sheet 1 ∷ enable ∷ [])

sheets_changed : batches_in (Some (list (list (remove_sheet ∷ replace_sheet ∷ enable_sheet ∷ []) ∷ []))) ≡ Ok ((OfSheets (RemoveSheet 3) ∷ OfSheets (Replace 0 (codes "p{}")) ∷ OfSheets (Enable 1 false) ∷ []) ∷ [])
unfolding chars
sheets_changed = refl

index_before_origin : edit_bad_at (add ∷ css null ∷ enabled null ∷ other ∷ []) ≡ at (codes "/batches/0/0/index")
unfolding chars digits
index_before_origin = refl

origin_before_enabled : edit_bad_at (add ∷ css null ∷ enabled null ∷ other ∷ index 0 ∷ []) ≡ at (codes "/batches/0/0/origin")
unfolding chars digits
origin_before_enabled = refl

enabled_before_text : edit_bad_at (add ∷ css null ∷ enabled null ∷ author ∷ index 0 ∷ []) ≡ at (codes "/batches/0/0/enabled")
unfolding chars digits
enabled_before_text = refl

added_text_last : edit_bad_at (add ∷ author ∷ index 0 ∷ value rule ∷ []) ≡ at (codes "/batches/0/0/text")
unfolding chars digits
added_text_last = refl

removed_sheet : edit_bad_at (op (codes "remove_sheet") ∷ of_node 2 ∷ []) ≡ at (codes "/batches/0/0/sheet")
unfolding chars digits
removed_sheet = refl

sheet_before_text : edit_bad_at (replace ∷ css null ∷ []) ≡ at (codes "/batches/0/0/sheet")
unfolding chars digits
sheet_before_text = refl

text_last : edit_bad_at (replace ∷ of_sheet 1 ∷ css null ∷ []) ≡ at (codes "/batches/0/0/text")
unfolding chars digits
text_last = refl

sheet_before_on : edit_bad_at (enable ∷ key (codes "sheet") (text (codes "1")) ∷ []) ≡ at (codes "/batches/0/0/sheet")
unfolding chars digits
sheet_before_on = refl

sheet_on_last : edit_bad_at (enable ∷ of_sheet 1 ∷ enabled (boolean true) ∷ []) ≡ at (codes "/batches/0/0/on")
unfolding chars digits
sheet_on_last = refl

-- one batch more than there may be, whatever is in them
batches_over : (batch : List ℕ) → batches_past (replicate 10_001 batch) ≡ Some (Batches, 10_000)
batches_over batch = refl

batches_within : (batch : List ℕ) → batches_past (replicate 10_000 batch) ≡ None
batches_within batch = refl
