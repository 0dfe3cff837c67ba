-- What a document is made of.
use Rattle.std.specs.Prelude.{ℕ, List, Bool, Option, refl}
use Rattle.std.specs.Ordering.{nat_cmp}
use Rattle.std.specs.Cmp.Lexicographic.{slice_cmp}
use Rattle.std.specs.FinMap as map
use Rattle.std.specs.Coded.{Coded, code_by, coded×, coded_ℕ, coded_list, coded_option, coded_bool}
pub use Rattle.base_model.specs.State.{State, hover_state, active_state, focus_state}
pub use Rattle.base_model.specs.Text.{Characters}

-- a finite map from names to values: the order in which they were written makes no difference
abbrev pub Attributes : Type 0
Attributes = map.FinMap (slice_cmp nat_cmp) Characters

-- the state bits that a pseudo-class can ask for (selectors-4, section 9)
pub record States : Type 0 where
  pub hover : Bool
  pub active : Bool
  pub focus : Bool

abbrev pub has_state : States → State → Bool
has_state s hover_state = s.hover
has_state s active_state = s.active
has_state s focus_state = s.focus

-- An element of a document. Its parent is named by number, and the root has none.
pub record Element : Type 0 where
  pub number : ℕ
  pub parent : Option ℕ
  pub tag : Characters
  pub attrs : Attributes
  pub states : States

-- how a proof tells two such values apart

abbrev pub attributes_code : Coded Attributes
attributes_code = map.code (coded_list coded_ℕ) (coded_list coded_ℕ)

abbrev pub states_code : Coded States
states_code =
    code_by (Bool × (Bool × Bool)) (coded× coded_bool (coded× coded_bool coded_bool))
    (λ s. (s.hover, (s.active, s.focus)))
    (λ p. record { hover = p.0; active = p.1.0; focus = p.1.1 })
    (λ _. refl)

abbrev pub element_code : Coded Element
element_code =
    code_by (ℕ × (Option ℕ × (Characters × (Attributes × States))))
    (coded× coded_ℕ
    (coded× (coded_option coded_ℕ) (coded× (coded_list coded_ℕ) (coded× attributes_code states_code))))
    (λ e. (e.number, (e.parent, (e.tag, (e.attrs, e.states)))))
    (λ p. record { number = p.0; parent = p.1.0; tag = p.1.1.0; attrs = p.1.1.1.0; states = p.1.1.1.1 })
    (λ _. refl)

abbrev pub elements_code : Coded (List Element)
elements_code = coded_list element_code
