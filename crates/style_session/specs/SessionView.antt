-- What a session stands for.
use Rattle.std.specs.Prelude.{ℕ, List, filter, length, map}
use Rattle.scene_model.specs.Document.{Document, document_of}
use Rattle.scene_model.specs.Nodes.{Node}
use Rattle.scene_model.specs.Lookups.{numbers}
use Rattle.scene_model.specs.Numbers.{is_in}
use Rattle.scene_model.specs.Scene.{Scene}
use Rattle.layer_order.specs.View.{sheets_of}
use Rattle.layer_order.specs.declared.sheet_input.SheetInput.{SheetInput}
use Rattle.sheet_set.specs.View.{kept_seen}
use Rattle.sheet_set.specs.declared.sheets.Sheets.{Sheets}
use Rattle.session_model.specs.Standing.{Standing}
use Rattle.session_model.specs.Walk.{placed_styles}
use Rattle.style_session.specs.KeptView.{KeptView, style_at}
use Rattle.style_session.specs.PendingView.{PendingMembers, is_fresh_in}

-- the scene of a document and its sheets
abbrev pub scene_seen : Document → Sheets → Scene
scene_seen document sheets =
    record {
      document = document;
      sheets = map kept_seen sheets.sheets.items;
      last_sheet = sheets.last;
    }

-- the scene of these nodes and sheets: the sheets are numbered from 1, so their count is the last number that was given
abbrev pub scene_from : List Node → List SheetInput → Scene
scene_from nodes sheets =
    record { document = document_of nodes; sheets = sheets_of sheets; last_sheet = length sheets }

-- the elements that have a number of the list, in tree order
abbrev pub elements_in : Document → List ℕ → List ℕ
elements_in document list = filter (λ x. is_in x list) (numbers document.elements)

-- A document and its sheets, what edits have marked and made fresh, and the styles that are kept by number, with the
-- elements that the last restyle cascaded.
abbrev pub standing_seen : Document → Sheets → PendingMembers → KeptView → Standing
standing_seen document sheets pending kept =
    record {
      scene = scene_seen document sheets;
      marked = elements_in document pending.marked;
      fresh = filter (is_fresh_in pending) (numbers document.elements);
      kept = placed_styles (style_at kept) document;
      recent = kept.recent;
    }
