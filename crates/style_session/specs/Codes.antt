-- How a proof tells two standings apart.
use Rattle.std.specs.Prelude.{◌≡◌, ℕ, zero, suc, List, Bool, refl}
use Rattle.std.specs.Coded.{Coded, code_by, coded×, coded_ℕ, coded_bool, coded_list}
use Rattle.base_model.specs.Text.{Characters}
use Rattle.base_model.specs.Origin.{Origin, user_agent, user, author, origin_rank}
use Rattle.base_model.specs.Sheet.{Sheet}
use Rattle.scene_model.specs.Document.{Document, document_code}
use Rattle.scene_model.specs.Scene.{Scene}
use Rattle.value_model.specs.Style.{Style, style_code}
use Rattle.session_model.specs.Standing.{Standing}

abbrev pub origin_told : ℕ → Origin
origin_told zero = user_agent
origin_told (suc zero) = user
origin_told (suc (suc n)) = author

abbrev pub told_rank : (origin : Origin) → origin_told (origin_rank origin) ≡ origin
told_rank user_agent = refl
told_rank user = refl
told_rank author = refl

abbrev pub origin_code : Coded Origin
origin_code = code_by ℕ coded_ℕ origin_rank origin_told told_rank

abbrev pub sheet_code : Coded Sheet
sheet_code =
    code_by (ℕ × (Origin × (Bool × (Characters × ℕ))))
    (coded× coded_ℕ (coded× origin_code (coded× coded_bool (coded× (coded_list coded_ℕ) coded_ℕ))))
    (λ s. (s.number, (s.origin, (s.enabled, (s.text, s.edition)))))
    (λ p. record {
      number = p.0;
      origin = p.1.0;
      enabled = p.1.1.0;
      text = p.1.1.1.0;
      edition = p.1.1.1.1;
    })
    (λ _. refl)

abbrev pub scene_code : Coded Scene
scene_code =
    code_by (Document × (List Sheet × ℕ)) (coded× document_code (coded× (coded_list sheet_code) coded_ℕ))
    (λ s. (s.document, (s.sheets, s.last_sheet)))
    (λ p. record { document = p.0; sheets = p.1.0; last_sheet = p.1.1 })
    (λ _. refl)

abbrev pub standing_code : Coded Standing
standing_code =
    code_by (Scene × (List ℕ × (List ℕ × (List (ℕ × Style) × List ℕ))))
    (coded× scene_code
    (coded× (coded_list coded_ℕ)
    (coded× (coded_list coded_ℕ) (coded× (coded_list (coded× coded_ℕ style_code)) (coded_list coded_ℕ)))))
    (λ s. (s.scene, (s.marked, (s.fresh, (s.kept, s.recent)))))
    (λ p. record { scene = p.0; marked = p.1.0; fresh = p.1.1.0; kept = p.1.1.1.0; recent = p.1.1.1.1 })
    (λ _. refl)
