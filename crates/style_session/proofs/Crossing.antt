-- For `Session`: that the parts of sheets and of sessions may cross threads, each by itself, since one search through all
-- of them would be too long.
use denote.Param.Send.{IsSend, IsSync, sendable, view_send}
use denote.Param.SendFields.{FieldsHave, as_row_send, declared_send}
use Rattle.std.proofs.Crossing.{crosses}
use Rattle.std.proofs.MapsCrossing.{crosses as maps}
use Rattle.stylo_base.specs.contracts.text.Text as Text
use Rattle.layer_order.specs.contracts.layers.Layers as Layers
use Rattle.layer_order.specs.contracts.name.LayerName as LayerName
use Rattle.layer_order.proofs.name.LayerName.TheLaws.TheKnot as name
use Rattle.layer_order.proofs.origin.Origin.TheSendSync as origin
use Rattle.selector_types.specs.contracts.selector.Selector as Selector
use Rattle.selector_types.proofs.complex.Test.TheLaws.TheKnot as complex
use Rattle.shorthands.proofs.declared.Declared.TheSendSync as declared
use Rattle.sheet_set.specs.contracts.kept_sheet.KeptSheet as KeptSheet
use Rattle.sheet_set.specs.contracts.sheet_rule.RuleBody as RuleBody
use Rattle.sheet_set.specs.contracts.sheet_rule.SheetRule as SheetRule
use Rattle.sheet_set.specs.contracts.sheets.Sheets as Sheets
use Rattle.dom_tree.specs.contracts.doc.Doc as Doc
use Rattle.css_tokens.proofs.token_kind.TokenKind.TheSendSync as token_kind
use Rattle.css_tokens.specs.contracts.custom.value.CustomValue as CustomValue
use Rattle.css_tokens.specs.contracts.custom.map.CustomMap as CustomMap
use Rattle.style_value.specs.contracts.style.Style as Style
use Rattle.style_value.specs.contracts.value_columns.ValueColumns as ValueColumns
use Rattle.style_value.specs.contracts.custom.Custom as Custom
use Rattle.element_styler.specs.contracts.prepared.Prepared as Prepared
use Rattle.invalidation_map.specs.contracts.edit_sets.EditSets as EditSets
use Rattle.invalidation_map.specs.contracts.element_set.ElementSet as ElementSet
use Rattle.invalidation_map.specs.contracts.rows.InvalidationMap as InvalidationMap
use Rattle.style_session.specs.contracts.content.Content as Content
use Rattle.style_session.specs.contracts.derived.Derived as Derived
use Rattle.style_session.specs.contracts.derived.StyleCache as StyleCache
use Rattle.style_session.specs.contracts.kept_styles.KeptStyles as KeptStyles
use Rattle.style_session.specs.contracts.pending.Pending as Pending
use Rattle.style_session.specs.contracts.session.Session as Session
use Rattle.style_session.specs.contracts.session.Session.TheInside as Inside
use Rattle.style_session.proofs.derived.StyleCache.TheSendSync as cache

pub text_send : IsSend Text.the_row
text_send = search (sendable, crosses) depth 40 fits 20000

-- a selector holds selectors

pub selector_send : IsSend Selector.the_row
selector_send = search (complex.send-Complex, sendable, crosses, maps) depth 40 fits 20000

pub selector_sync : IsSync Selector.the_row
selector_sync = search (complex.sync-Complex, sendable, crosses, maps) depth 40 fits 20000

-- the name of a layer shares the name that it is in: so a thread that gets one shares it with others

pub name_send : IsSend LayerName.the_row
name_send =
    name.both_send-LayerName
    (λ h s y. search (sendable, crosses) depth 20) (search sendable) (search sendable) (search (sendable, crosses, maps) depth 40)
    (λ h s y. search (sendable, crosses) depth 20) (search sendable) (search sendable) (search (sendable, crosses, maps) depth 40)

pub name_sync : IsSync LayerName.the_row
name_sync =
    name.both_sync-LayerName
    (λ h s y. search (sendable, crosses) depth 20) (search sendable) (search sendable) (search (sendable, crosses, maps) depth 40)
    (λ h s y. search (sendable, crosses) depth 20) (search sendable) (search sendable) (search (sendable, crosses, maps) depth 40)

pub layers_send : IsSend Layers.the_row
layers_send = search (name_send, sendable, crosses) depth 60 fits 20000

pub layers_sync : IsSync Layers.the_row
layers_sync = search (name_sync, sendable, crosses) depth 60 fits 20000

pub body_send : IsSend RuleBody.the_row
body_send = search (name_send, declared.the_field_send, sendable, crosses) depth 40 fits 20000

pub body_sync : IsSync RuleBody.the_row
body_sync = search (name_sync, declared.the_field_sync, sendable, crosses) depth 40 fits 20000

pub rule_send : IsSend SheetRule.the_row
rule_send = search (body_send, sendable, crosses) depth 40 fits 20000

pub rule_sync : IsSync SheetRule.the_row
rule_sync = search (body_sync, sendable, crosses) depth 40 fits 20000

pub kept_send : IsSend KeptSheet.the_row
kept_send = search (rule_send, name_send, selector_send, origin.the_field_send, sendable, crosses) depth 40 fits 20000

pub kept_sync : IsSync KeptSheet.the_row
kept_sync = search (rule_sync, name_sync, selector_sync, origin.the_field_sync, sendable, crosses) depth 40 fits 20000

-- The parts of a session, one by one: its fields, and what these are made of.

pub sheets_send : IsSend Sheets.the_row
sheets_send = search (kept_send, rule_send, layers_send, selector_send, sendable, crosses) depth 40 fits 20000

pub doc_send : IsSend Doc.the_row
doc_send = search (sendable, crosses, maps) depth 40 fits 20000

pub prepared_send : IsSend Prepared.the_row
prepared_send = search (sendable, crosses, maps) depth 40 fits 20000

pub columns_send : IsSend ValueColumns.the_row
columns_send = search (sendable, crosses) depth 40 fits 20000

pub columns_sync : IsSync ValueColumns.the_row
columns_sync = search (sendable, crosses) depth 40 fits 20000

pub value_send : IsSend CustomValue.the_row
value_send = search (token_kind.the_field_send, sendable, crosses) depth 40 fits 20000

pub value_sync : IsSync CustomValue.the_row
value_sync = search (token_kind.the_field_sync, sendable, crosses) depth 40 fits 20000

pub map_send : IsSend CustomMap.the_row
map_send = search (value_send, value_sync, sendable, crosses) depth 40 fits 20000

pub map_sync : IsSync CustomMap.the_row
map_sync = search (value_send, value_sync, sendable, crosses) depth 40 fits 20000

pub custom_send : IsSend Custom.the_row
custom_send = search (map_send, sendable, crosses) depth 40 fits 20000

pub custom_sync : IsSync Custom.the_row
custom_sync = search (map_sync, sendable, crosses) depth 40 fits 20000

pub style_send : IsSend Style.the_row
style_send = search (columns_send, custom_send, sendable, crosses) depth 40 fits 20000

pub style_sync : IsSync Style.the_row
style_sync = search (columns_sync, custom_sync, sendable, crosses) depth 40 fits 20000

pub cache_send : IsSend StyleCache.the_row
cache_send = search (cache.the_field_send, sendable) depth 20

pub set_send : IsSend ElementSet.the_row
set_send = search (sendable, crosses) depth 40 fits 20000

pub sets_send : IsSend EditSets.the_row
sets_send = search (set_send, sendable, crosses) depth 40 fits 20000

pub rows_send : IsSend InvalidationMap.the_row
rows_send = search (text_send, sendable, crosses) depth 60 fits 20000

-- and the four parts

pub content_send : IsSend Content.the_row
content_send =
    let parts : FieldsHave IsSend Content.the_type.parts = (search (doc_send, sendable) depth 20, (search (sheets_send, sendable) depth 20, tt)) in
    declared_send Content.the_type parts

pub pending_send : IsSend Pending.the_row
pending_send = search (sets_send, sendable, crosses) depth 40 fits 20000

pub kept_styles_send : IsSend KeptStyles.the_row
kept_styles_send = search (style_send, style_sync, sendable, crosses) depth 60 fits 20000

pub derived_send : IsSend Derived.the_row
derived_send =
    let parts : FieldsHave IsSend Derived.the_type.parts = (
      search (prepared_send, as_row_send, sendable, crosses) depth 40,
      (search (rows_send, as_row_send, sendable, crosses) depth 40, (search (cache_send, sendable) depth 20, tt)),
    ) in
    declared_send Derived.the_type parts

pub inside_send : IsSend Inside.the_row
inside_send =
    let parts : FieldsHave IsSend Inside.the_type.parts = (
      search (content_send, sendable) depth 20,
      (search (pending_send, sendable) depth 20, (search (kept_styles_send, sendable) depth 20, (search (derived_send, sendable) depth 20, tt))),
    ) in
    declared_send Inside.the_type parts

pub session_send : IsSend Session.the_row
session_send = search (inside_send, view_send, sendable) depth 20
