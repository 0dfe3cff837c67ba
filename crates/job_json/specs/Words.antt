-- What single words, numbers and truth values of a job say. Texts come as their bytes in UTF-8.
use Rattle.std.specs.Prelude.{ℕ, ◌==◌, nat_lt, nat_le, ◌&&◌, Bool, true, false, not, if◌then◌else◌}
use Rattle.std.specs.Prelude.{List, length, Option, Some, None, option_map, codes}
use Rattle.std.specs.List.{list_all, fold}
use Rattle.std.specs.Str.{chars, bytes_eq}
use Rattle.serde_json.specs.Data.{Data, Items, no_items, item}
use Rattle.serde_json.specs.Find.{as_number, as_u64, as_bool, as_str}
use Rattle.base_model.specs.Ascii.{space, delete}
use Rattle.base_model.specs.Limits.{name_limit}
use Rattle.base_model.specs.Options.{◌>>=◌}
use Rattle.scene_model.specs.Element.{Characters, State, hover_state, active_state, focus_state, States}
use Rattle.change_model.specs.InPlace.{put_state}
use Rattle.layer_order.specs.declared.origin.Origin.{Origin}
use Rattle.layer_order.specs.declared.origin.Origin.TheVariants.{UserAgent, User, Author}

-- no character up to the space and no delete; the bytes of all others but ASCII are above that
abbrev pub is_visible : ℕ → Bool
is_visible byte = nat_lt space byte && not (byte == delete)

-- a name is not empty
abbrev pub is_name : List ℕ → Bool
is_name bytes = (nat_lt 0 (length bytes) && nat_le (length bytes) name_limit) && list_all is_visible bytes

-- a whole number from 0 to 2^64 minus 1
abbrev pub whole : Data → Option ℕ
whole value = as_number value >>= as_u64

-- a text that is a name
abbrev pub name_said : List ℕ → Option Characters
name_said bytes = if is_name bytes then Some (chars bytes) else None

abbrev pub name_of : Data → Option Characters
name_of value = as_str value >>= name_said

-- the number that is named, which may be none
abbrev pub named_parent : Option Data → Option (Option ℕ)
named_parent None = Some None
named_parent (Some value) = option_map (λ p. Some p) (whole value)

-- The first node has no parent, and each other one names an earlier node.
abbrev pub parent_at : ℕ → Option ℕ → Option (Option ℕ)
parent_at k None = if k == 0 then Some None else None
parent_at k (Some p) = if nat_lt p k then Some (Some p) else None

-- a key that is a name, with a text
abbrev pub pair_from : List ℕ → Option (List ℕ) → Option (Characters × Characters)
pair_from key text = if is_name key then option_map (λ t. (chars key, chars t)) text else None

abbrev pub state_named : List ℕ → Option State
state_named word =
    if bytes_eq word (codes "hover") then Some hover_state
    else if bytes_eq word (codes "active") then Some active_state
    else if bytes_eq word (codes "focus") then Some focus_state
    else None

abbrev pub no_states : States
no_states = record { hover = false; active = false; focus = false }

abbrev pub with_state : States → State → States
with_state states state = put_state state true states

-- a list may name a state more than once
abbrev pub all_states : List State → States
all_states named = fold with_state no_states named

abbrev pub is_one : Option ℕ → Bool
is_one None = false
is_one (Some n) = n == 1

-- a list with nothing in it
abbrev pub has_no_items : Option Items → Bool
has_no_items None = false
has_no_items (Some no_items) = true
has_no_items (Some (item value rest)) = false

-- the origin that a word names (css-cascade-5, section 6.2): `ua` is the user agent's
abbrev pub origin_named : List ℕ → Option Origin
origin_named word =
    if bytes_eq word (codes "ua") then Some UserAgent
    else if bytes_eq word (codes "user") then Some User
    else if bytes_eq word (codes "author") then Some Author
    else None

abbrev pub origin_from : Option Data → Option Origin
origin_from origin = do
  value ← origin
  word ← as_str value
  origin_named word

-- a sheet that says nothing of it is enabled
abbrev pub enabled_from : Option Data → Option Bool
enabled_from None = Some true
enabled_from (Some value) = as_bool value
