-- For `GatheredRows::push_row`: what is appended to the paths and keys that rows share leaves what rows stand for as it was.
use Rattle.std.proofs.Common.{◌≡◌, ℕ, Bool, true, false, cond, suc, ◌+◌, ◌-◌, ◌<◌, ◌≤◌, List, [], ◌∷◌, ◌++◌, length, map, take, get_or, Some, option_map, refl, sym, ap, ◌∙◌, subst, arith}
use Rattle.std.specs.List.{slice_get}
use Rattle.std.proofs.Math.Seq.{take-append_seam}
use Rattle.std.proofs.lemmas.List.{get_or-map, get_or-take, length-append, length-map, length-take, map-append}
use Rattle.std.proofs.lemmas.List.Elements.{All-push, All-weaker}
use Rattle.std.proofs.lemmas.Option.{get_or_from_slice_get, slice_get-map, slice_get_within}
use Rattle.selector_model.specs.Key.{Key, any_key}
use Rattle.edit_model.specs.Dependencies.{Step}
use Rattle.dom_edits.specs.TouchView.{touch_seen}
use Rattle.invalidation_map.specs.declared.shared.DependencyRow.{DependencyRow}
use Rattle.invalidation_map.specs.declared.shared.Shared.{Shared}
use Rattle.invalidation_map.specs.Rows.{Row}
use Rattle.invalidation_map.specs.Shared.{ArePlaced, EndsWith, IsFront, KeepsShared, StandsAt, keys_in, paths_in}
use Rattle.invalidation_map.specs.SharedRows.{AreWithin, IsAlone, IsWithin, row_seen, rows_seen}

-- lists that grow at the end

front_at : {X : Type 0} (old new : List X) → IsFront old new → (i : ℕ) (d : X) → i < length old → get_or new i d ≡ get_or old i d
front_at old new front i d l = sym (get_or-take (length old) new i d l) ∙ ap (λ list. get_or list i d) front

front_length : {X : Type 0} (old new : List X) → IsFront old new → length old ≤ length new
front_length old new front = omega (arith, ap length front, length-take (length old) new)

last_pushed : {X : Type 0} (xs : List X) (x : X) → slice_get (xs ++ x ∷ []) (length xs) ≡ Some x
last_pushed [] x = refl
last_pushed (y ∷ xs) x = last_pushed xs x

module _ {X Y : Type 0} (f : X → Y) (xs : List X) (x : X) where
  pub front_pushed : IsFront (map f xs) (map f (xs ++ x ∷ []))
  front_pushed =
      ap (take (length (map f xs))) (map-append f xs (x ∷ [])) ∙ take-append_seam (map f xs) (map f (x ∷ []))

  -- the last of a list, as something else sees it
  pub ends_seen : slice_get xs (length xs - 1) ≡ Some x → EndsWith (map f xs) (f x)
  ends_seen h =
      ap (λ n. slice_get (map f xs) (n - 1)) (length-map xs f)
      ∙ (slice_get-map f xs (length xs - 1) ∙ ap (option_map f) h)

pub ends_pushed : {X Y : Type 0} (f : X → Y) (xs : List X) (x : X) → EndsWith (map f (xs ++ x ∷ [])) (f x)
ends_pushed f xs x =
    let longer : length (xs ++ x ∷ []) - 1 ≡ length xs = omega (arith, length-append xs (x ∷ [])) in
    ends_seen f (xs ++ x ∷ []) x (ap (slice_get (xs ++ x ∷ [])) longer ∙ last_pushed xs x)

-- what stands in a list, as something else sees it
pub seen_at : {X Y : Type 0} (f : X → Y) (xs : List X) (i : ℕ) (x : X) (d : Y) → i < length (map f xs) → x ≡ get_or xs i x → f x ≡ get_or (map f xs) i d
seen_at f xs i x d l is = ap f is ∙ sym (get_or-map f xs i x d (omega (arith, l, length-map xs f)))

pub ends_some : {X : Type 0} (list : List X) (x : X) → EndsWith list x → 0 < length list
ends_some list x h = omega (arith, slice_get_within list (length list - 1) x h)

pub ends_at : {X : Type 0} (list : List X) (x : X) (place : ℕ) → EndsWith list x → place + 1 ≡ length list → StandsAt list place x
ends_at list x place h e =
    let same : place ≡ length list - 1 = omega (arith, e) in
    ap (slice_get list) same ∙ h

-- rows

module _ (old new : Shared) (kept : KeepsShared old new) where
  row_kept : (row : DependencyRow) → IsWithin old row → row_seen new row ≡ row_seen old row
  row_kept row within =
      ap {B = Row} (λ path. record { touch = touch_seen row.touch; path = path; key = get_or (keys_in new) row.key any_key })
      (front_at (paths_in old) (paths_in new) kept.paths row.path [] within.path)
      ∙ ap {B = Row} (λ key. record { touch = touch_seen row.touch; path = get_or (paths_in old) row.path []; key = key })
      (front_at (keys_in old) (keys_in new) kept.keys row.key any_key within.key)

  within_kept : (row : DependencyRow) → IsWithin old row → IsWithin new row
  within_kept row within = record {
    path = omega (arith, within.path, front_length (paths_in old) (paths_in new) kept.paths);
    key = omega (arith, within.key, front_length (keys_in old) (keys_in new) kept.keys);
    alone = λ e. subst IsAlone (sym (row_kept row within)) (within.alone e);
  }

  rows_kept : (rows : List DependencyRow) → AreWithin old rows → rows_seen new rows ≡ rows_seen old rows
  rows_kept [] within = refl
  rows_kept (row ∷ rows) within =
      ap (λ r. r ∷ rows_seen new rows) (row_kept row (within 0 row (omega arith)))
      ∙ ap (λ list. row_seen old row ∷ list) (rows_kept rows (λ k d l. within (suc k) d (omega arith)))

  pub all_within : (rows : List DependencyRow) → AreWithin old rows → AreWithin new rows
  all_within rows within = All-weaker (IsWithin old) (IsWithin new) within_kept rows within

  -- one row more
  module _ (rows : List DependencyRow) (within : AreWithin old rows) (row : DependencyRow) (path : List Step) (key : Key) (placed : ArePlaced new path key (row.path, row.key)) where
    row_is : row_seen new row ≡ record { touch = touch_seen row.touch; path = path; key = key }
    row_is =
        ap {B = Row} (λ path. record { touch = touch_seen row.touch; path = path; key = get_or (keys_in new) row.key any_key }) (get_or_from_slice_get (paths_in new) row.path path [] placed.of_path)
        ∙ ap {B = Row} (λ key. record { touch = touch_seen row.touch; path = path; key = key }) (get_or_from_slice_get (keys_in new) row.key key any_key placed.of_key)

    within_pushed : (row.alone ≡ true → IsAlone (record { touch = touch_seen row.touch; path = path; key = key })) → AreWithin new (rows ++ row ∷ [])
    within_pushed alone =
        All-push (IsWithin new) rows row (all_within rows within)
        (record {
          path = slice_get_within (paths_in new) row.path path placed.of_path;
          key = slice_get_within (keys_in new) row.key key placed.of_key;
          alone = λ e. subst IsAlone (sym row_is) (alone e);
        })

    -- or not, where there is no memory for it
    pub within_tried : (pushed : Bool) → (row.alone ≡ true → IsAlone (record { touch = touch_seen row.touch; path = path; key = key })) → AreWithin new (cond pushed (rows ++ row ∷ []) rows)
    within_tried true alone = within_pushed alone
    within_tried false alone = all_within rows within

    pub rows_pushed : rows_seen new (rows ++ row ∷ []) ≡ rows_seen old rows ++ record { touch = touch_seen row.touch; path = path; key = key } ∷ []
    rows_pushed =
        map-append (row_seen new) rows (row ∷ [])
        ∙ (ap (λ list. list ++ row_seen new row ∷ []) (rows_kept rows within)
        ∙ ap (λ r. rows_seen old rows ++ r ∷ []) row_is)
