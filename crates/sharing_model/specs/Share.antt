-- Styles that are kept for the twins of their elements.
use Rattle.std.specs.Prelude.{◌≡◌, ℕ, zero, suc, nat_eq, nat_lt, List, [], map, find, Bool, not, ◌&&◌, if◌then◌else◌, Option, Some, None, refl}
use Rattle.std.specs.Coded.{Coded, code_by, coded×, coded_ℕ, coded_bool, coded_list}
use Rattle.std.specs.List.{AllByRecursion}
use Rattle.lru.specs.LruCache.{lru_cache, promoted, put_entries}
use Rattle.scene_model.specs.Element.{Element}
use Rattle.value_model.specs.Style.{Style, style_code}
use Rattle.sheet_model.specs.Sources.{Sources}
use Rattle.cascade_model.specs.StyleOf.{style_of}
use Rattle.sharing_model.specs.Siblings.{ask_for_siblings}
use Rattle.sharing_model.specs.Twin.{is_twin}

-- an element by its number, and a style
abbrev pub Entry : Type 0
Entry = ℕ × Style

-- how many entries there may be, whether they serve, and the entries, the last used first
pub record Share : Type 0 where
  pub size : ℕ
  pub serves : Bool
  pub entries : List Entry

-- how a proof tells two such values apart
abbrev pub share_code : Coded Share
share_code =
    code_by (ℕ × (Bool × List Entry)) (coded× coded_ℕ (coded× coded_bool (coded_list (coded× coded_ℕ style_code))))
    (λ s. (s.size, (s.serves, s.entries)))
    (λ p. record { size = p.0; serves = p.1.0; entries = p.1.1 })
    (λ _. refl)

-- whether an entry may be found at all
abbrev pub may_serve : Share → Bool
may_serve share = share.serves && nat_lt 0 share.size

-- the first entry that serves x
abbrev pub serving : List Element → ℕ → Share → Option Entry
serving doc x share = if share.serves then find (λ e. is_twin doc e.0 x) share.entries else None

-- this entry comes first
abbrev pub brought : Option Entry → List Entry → List Entry
brought None entries = entries
brought (Some e) entries = promoted (nat_eq e.0) entries

-- what is left once x looked for a style
abbrev pub found : List Element → ℕ → Share → Share
found doc x share = record share { entries = brought (serving doc x share) share.entries }

-- This entry is put first, in place of its element's own, or of the last where so many are there. Where there may be
-- none, none is kept.
abbrev pub put_within : ℕ → List Entry → Entry → List Entry
put_within zero entries e = []
put_within (suc n) entries e = put_entries nat_eq (lru_cache entries (suc n)) e.0 e.1

abbrev pub put_first : Entry → Share → Share
put_first e share = record share { entries = put_within share.size share.entries e }

-- whose entry takes the style of x: that of the twin whose entry serves it, else its own
abbrev pub holder : Option Entry → ℕ → ℕ
holder None x = x
holder (Some e) x = e.0

-- what is left once x gave its style
abbrev pub placed : List Element → ℕ → Style → Share → Share
placed doc x style share = put_first (holder (serving doc x share) x, style) share

-- no entry, and whether entries will serve
abbrev pub emptied : Bool → Share → Share
emptied serves share = record { size = share.size; serves = serves; entries = [] }

-- the entry is the style of its element
abbrev pub IsStyleOf : List Element → Sources → Entry → Type 0
IsStyleOf doc sources e = e.1 ≡ style_of doc sources e.0

-- it serves exactly where no selector asks for siblings, and each entry is the style of its element
pub record IsShareOf (doc : List Element) (sources : Sources) (share : Share) : Type 0 where
  pub serves : share.serves ≡ not (ask_for_siblings (map (λ rule. rule.selectors) sources.rules))
  pub entries : AllByRecursion (IsStyleOf doc sources) share.entries
