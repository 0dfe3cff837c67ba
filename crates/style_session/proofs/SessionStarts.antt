-- For `Session::of_parts`: the start of a session.
use Rattle.std.proofs.Common.{◌≡◌, ℕ, zero, suc, ◌<◌, nat_eq, List, [], length, false, None, refl, sym, subst, ◌∙◌, arith}
use Rattle.std.specs.List.{IsDistinct}
use Rattle.std.proofs.lemmas.Bool.{false_from_ne_true}
use Rattle.scene_model.specs.Document.{Document}
use Rattle.scene_model.specs.Lookups.{is_element}
use Rattle.change_model.specs.Sound.{IsSound}
use Rattle.sheet_model.specs.Sources.{Sources}
use Rattle.layer_order.specs.View.{sheets_of}
use Rattle.layer_order.specs.declared.sheet_input.SheetInput.{SheetInput}
use Rattle.sheet_set.specs.View.{listed_seen, sources_seen}
use Rattle.sheet_set.specs.declared.sheets.Sheets.{Sheets}
use Rattle.session_model.specs.Standing.{started}
use Rattle.session_model.specs.StandingInvariant.{AllKeep}
use Rattle.session_model.proofs.KeepsLemmas.{keep-started}
use Rattle.style_session.specs.KeptView.{KeptView, no_styles, style_at}
use Rattle.style_session.specs.PendingView.{PendingMembers, all_pending, is_fresh_in}
use Rattle.style_session.specs.SessionView.{scene_seen, standing_seen}
use Rattle.style_session.specs.Sessions.{AreReady, IsSession}
use Rattle.style_session.specs.declared.content.Content.{Content}
use Rattle.style_session.specs.declared.derived.Derived.{Derived}
use Rattle.style_session.proofs.SessionLemmas.{started-with}

-- a number above the last one that was given is that of no element
pub no-element : (d : Document) → IsSound d → (x : ℕ) → d.last < x → is_element d.elements x ≡ false
no-element d sound x above =
    false_from_ne_true (is_element d.elements x) (λ there. let (low, high) = sound.given x there in omega (arith, above, high))

-- at the start nothing is kept, and all elements are fresh

none_kept : (x : ℕ) → style_at no_styles x ≡ None
none_kept zero = refl
none_kept (suc x) = refl

started_seen : (document : Document) (sheets : Sheets) → standing_seen document sheets all_pending no_styles ≡ started (scene_seen document sheets)
started_seen document sheets =
    started-with (scene_seen document sheets) [] (is_fresh_in all_pending) (style_at no_styles) [] refl (λ x. refl) none_kept refl

pub none_twice : (xs : List ℕ) → xs ≡ [] → IsDistinct nat_eq xs
unfolding IsDistinct
none_twice xs e = subst (IsDistinct nat_eq) (sym e) tt

begun : (content : Content) (derived : Derived) → IsSound content.doc → ((sources : Sources) → AreReady sources derived)
    → IsSession content all_pending no_styles derived
begun content derived sound ready = record {
  sound = sound;
  ready = ready (sources_seen content.sheets);
  marks_given = λ x above. refl;
  gone_given = λ x above. refl;
  absent = λ x _ _. none_kept x;
  keeps = subst AllKeep (sym (started_seen content.doc content.sheets)) (keep-started (scene_seen content.doc content.sheets));
  once = none_twice [] refl;
}

module _ (content : Content) (pending : PendingMembers) (kept : KeptView) (p : pending ≡ all_pending) (k : kept ≡ no_styles) where
  pub started-seen : standing_seen content.doc content.sheets pending kept ≡ started (scene_seen content.doc content.sheets)
  started-seen =
      (λ i. standing_seen content.doc content.sheets (p i) (k i)) ∙ started_seen content.doc content.sheets

  pub session-started : (derived : Derived) → IsSound content.doc → ((sources : Sources) → AreReady sources derived) → IsSession content pending kept derived
  session-started derived sound ready =
      subst (λ q. IsSession content q kept derived) (sym p)
      (subst (λ q. IsSession content all_pending q derived) (sym k) (begun content derived sound ready))

pub scene-started : (document : Document) (sheets : Sheets) (now : Document) (inputs : List SheetInput) → document ≡ now
    → listed_seen sheets ≡ record { listed = sheets_of inputs; last = length inputs }
    → scene_seen document sheets ≡ record { document = now; sheets = sheets_of inputs; last_sheet = length inputs }
scene-started document sheets now inputs d s =
    λ i. record { document = d i; sheets = (s i).listed; last_sheet = (s i).last }
