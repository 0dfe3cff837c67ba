-- For `Session::restyle_alone`: restyles of a session.
use Rattle.std.proofs.Common.{◌≡◌, ℕ, ◌<◌, ◌==◌, nat_eq, List, [], ◌∷◌, map, filter, find, length, Bool, true, false, cond, not, ◌&&◌, ◌||◌}
use Rattle.std.proofs.Common.{Option, None, Some, option_map, refl, sym, ap, subst, ◌∙◌}
use Rattle.std.specs.List.{AllByRecursion, IsDistinct, count_by}
use Rattle.std.specs.Prelude.{is_some}
use Rattle.std.specs.Option.{option_or}
use Rattle.std.proofs.lemmas.Bool.{eqb-true, false≢true}
use Rattle.std.proofs.lemmas.List.{length-map}
use Rattle.std.proofs.lemmas.List.Sums.{length-filter}
use Rattle.base_model.proofs.Lists.{each_weaker}
use Rattle.scene_model.specs.Element.{Element}
use Rattle.scene_model.specs.Lookups.{IsElement, is_element}
use Rattle.scene_model.specs.Numbers.{is_in}
use Rattle.scene_model.specs.Scene.{Scene}
use Rattle.scene_model.proofs.Lists.{filter-map}
use Rattle.invalidation_map.specs.Steps.{HasRoom}
use Rattle.sheet_model.specs.Sources.{Sources}
use Rattle.sheet_set.specs.View.{sources_seen}
use Rattle.element_styler.specs.Fits.{Fits}
use Rattle.element_styler.specs.Prepared.{IsPrepared}
use Rattle.element_styler.specs.declared.prepared.Prepared.{Prepared}
use Rattle.session_model.specs.Standing.{Standing, kept_at, restyled}
use Rattle.session_model.specs.StandingInvariant.{IsReached, by_restyle}
use Rattle.session_model.specs.Walk as walk
use Rattle.session_model.specs.Walk.{result_at, results}
use Rattle.style_session.specs.Answers.{counts_of, styled_seen}
use Rattle.style_session.specs.FirstWalking.{AreAll}
use Rattle.style_session.specs.KeptView.{Commits, DropsGone, HasPlaces, KeptView, style_at}
use Rattle.style_session.specs.PendingView.{PendingMembers, are_settled, is_fresh_in, none_pending}
use Rattle.style_session.specs.SessionView.{scene_seen, standing_seen}
use Rattle.style_session.specs.Sessions.{AreReady, CanStyle, IsSession}
use Rattle.style_session.specs.declared.content.Content.{Content}
use Rattle.style_session.specs.declared.counts.Counts.{Counts}
use Rattle.style_session.specs.declared.derived.Derived.{Derived}
use Rattle.style_session.specs.declared.derived.StyleCache.{StyleCache}
use Rattle.style_session.specs.declared.styled.Styled.{Styled}
use Rattle.style_session.proofs.SessionLemmas.{first-cascaded, first-matched, first-with, found-cascaded, found-elements, found-matched, found-once}
use Rattle.style_session.proofs.SessionLemmas.{idle-cascaded, idle-matched, idle-with, keeps-restyled, number_of, others-restyled, restyled-with}
use Rattle.style_session.proofs.SessionParts.{settled-marks, settled-fresh}
use Rattle.style_session.proofs.SessionStarts.{none_twice}

abbrev counted : ℕ → ℕ → Counts
counted matched cascaded = record { matched = matched; cascaded = cascaded }

same_counts : (a b c d : ℕ) → a ≡ b → c ≡ d → counted a c ≡ counted b d
same_counts a b c d e f = λ i. counted (e i) (f i)

-- styles of numbers that no element has any more are dropped

module _ (doc : List Element) (gone : List ℕ) (before now : KeptView) (dropped : DropsGone doc gone before now) where
  -- an element keeps its style
  dropped_there : (x : ℕ) → IsElement doc x → style_at now x ≡ style_at before x
  dropped_there x there =
      dropped.styles x
      ∙ (ap (λ b. cond (is_in x gone && not b) None (style_at before x)) there ∙ ap (λ b. cond b None (style_at before x)) (none (is_in x gone)))
    where
      none : (b : Bool) → (b && false) ≡ false
      none true = refl
      none false = refl

  -- and of another number nothing is left, where nothing was kept but of these
  dropped_absent : (x : ℕ) → is_element doc x ≡ false → (is_in x gone ≡ false → style_at before x ≡ None) → style_at now x ≡ None
  dropped_absent x out absent =
      dropped.styles x ∙ (ap (λ b. cond (is_in x gone && not b) None (style_at before x)) out ∙ by (is_in x gone) refl)
    where
      by : (b : Bool) → is_in x gone ≡ b → cond (b && true) None (style_at before x) ≡ None
      by true e = refl
      by false e = absent e

-- of a number that no element has nothing is handed on
no_result : (doc : List Element) (x : ℕ) → is_element doc x ≡ false → (found : List walk.Styled)
    → AllByRecursion (λ one. IsElement doc (number_of one)) found → result_at found x ≡ None
no_result doc x none [] h = refl
no_result doc x none (one ∷ found) h = by (one.number == x) refl (no_result doc x none found h.1)
  where
    by : (b : Bool) → (one.number == x) ≡ b → result_at found x ≡ None → result_at (one ∷ found) x ≡ None
    by true e rest = absurd (false≢true (sym none ∙ (ap (is_element doc) (sym (eqb-true one.number x e)) ∙ h.0)))
    by false e rest =
        ap (λ b. option_map (λ (s : walk.Styled). s.style) (cond b (Some one) (find (λ (s : walk.Styled). s.number == x) found))) e ∙ rest

-- what a list holds of what it is seen as
each_seen : {X Y : Type 0} (P : Y → Type 0) (f : X → Y) (xs : List X) → AllByRecursion P (map f xs) → AllByRecursion (λ x. P (f x)) xs
each_seen P f [] h = tt
each_seen P f (x ∷ xs) h = (h.0, each_seen P f xs h.1)

-- of what a session is made of

module _ (content : Content) (pending : PendingMembers) (kept : KeptView) (derived : Derived) (was : IsSession content pending kept derived) where
  abbrev doc : List Element
  doc = content.doc.elements

  abbrev scene : Scene
  scene = scene_seen content.doc content.sheets

  abbrev st : Standing
  st = standing_seen content.doc content.sheets pending kept

  abbrev behind : ℕ → KeptView → Standing
  behind room now = standing_seen content.doc content.sheets (none_pending room) now

  -- what a restyle leaves, once each element has its style
  module _ (room : ℕ) (now : KeptView) (done : behind room now ≡ restyled st) where
    session_anew : (known : Derived) → AreReady (sources_seen content.sheets) known → ((x : ℕ) → is_element doc x ≡ false → style_at now x ≡ None)
        → IsDistinct nat_eq now.recent → IsSession content (none_pending room) now known
    session_anew known ready absent once = record {
      sound = was.sound;
      ready = ready;
      marks_given = λ x above. refl;
      gone_given = λ x above. refl;
      absent = λ x out _. absent x out;
      keeps = keeps-restyled st (behind room now) was.sound done;
      once = once;
    }

  -- with nothing marked or fresh
  module _ (settled : are_settled pending ≡ true) where
    none_marked : pending.marked ≡ []
    none_marked = settled-marks pending settled

    none_fresh : (x : ℕ) → is_fresh_in pending x ≡ false
    none_fresh = settled-fresh pending settled

    pub idle-counts : counted 0 0 ≡ counts_of st
    idle-counts =
        same_counts _ _ _ _
        (sym (idle-matched scene pending.marked (is_fresh_in pending) (style_at kept) kept.recent none_marked none_fresh was.sound was.keeps))
        (sym (idle-cascaded scene pending.marked (is_fresh_in pending) (style_at kept) kept.recent none_marked none_fresh was.sound was.keeps))

    module _ (room : ℕ) (gone : List ℕ) (mid now : KeptView) (same : gone ≡ pending.gone) (emptied : mid ≡ record kept { recent = [] })
        (dropped : DropsGone doc gone mid now) where
      none_recent : now.recent ≡ []
      none_recent = dropped.recent ∙ ap (λ (k : KeptView). k.recent) emptied

      pub idle-seen : behind room now ≡ restyled st
      idle-seen =
          idle-with scene pending.marked (is_fresh_in pending) (style_at kept) kept.recent none_marked none_fresh was.sound was.keeps [] (is_fresh_in (none_pending room)) refl
          (λ x. refl) (style_at now) now.recent
          (λ x there. dropped_there doc gone mid now dropped x there ∙ ap (λ (k : KeptView). style_at k x) emptied) none_recent

      pub session-idle : IsSession content (none_pending room) now derived
      session-idle =
          session_anew room now idle-seen derived was.ready
          (λ x out. dropped_absent doc gone mid now dropped x out
          (λ here. ap (λ (k : KeptView). style_at k x) emptied ∙ was.absent x out (ap (is_in x) (sym same) ∙ here)))
          (none_twice now.recent none_recent)

  -- the first one
  module _ (all : pending.all_fresh ≡ true) (made : KeptView) (is : AreAll scene made) where
    all_fresh : (x : ℕ) → is_fresh_in pending x ≡ true
    all_fresh x = ap (λ b. b || is_in x pending.fresh) all

    pub first-counts : (n : ℕ) → n ≡ length made.recent → counted n n ≡ counts_of st
    first-counts n e =
        same_counts _ _ _ _
        (e ∙ (ap length is.order ∙ first-matched scene pending.marked (is_fresh_in pending) (style_at kept) kept.recent all_fresh))
        (e ∙ (ap length is.order ∙ first-cascaded scene pending.marked (is_fresh_in pending) (style_at kept) kept.recent all_fresh))

    pub first-seen : (room : ℕ) → behind room made ≡ restyled st
    first-seen room =
        first-with scene pending.marked (is_fresh_in pending) (style_at kept) kept.recent all_fresh [] (is_fresh_in (none_pending room)) refl (λ x. refl)
        (style_at made) made.recent is.styles is.order

    pub session-first : (room : ℕ) (known : Derived) → AreReady (sources_seen content.sheets) known → IsSession content (none_pending room) made known
    session-first room known ready =
        session_anew room made (first-seen room) known ready is.absent (subst (IsDistinct nat_eq) (sym is.order) was.sound.valid.distinct)

  -- a later one, once its walk has handed a list on
  module _ (styled : List Styled) (found : map styled_seen styled ≡ results st) where
    abbrev seen : List walk.Styled
    seen = map styled_seen styled

    elements : AllByRecursion (λ one. IsElement doc (number_of one)) seen
    elements =
        found-elements scene pending.marked (is_fresh_in pending) (style_at kept) kept.recent was.sound was.keeps seen found

    pub styled-within : (places : ℕ) → HasRoom doc places → AllByRecursion (λ (one : Styled). one.number < places) styled
    styled-within places room =
        each_weaker (λ (one : Styled). IsElement doc one.number) (λ (one : Styled). one.number < places) (λ one there. room one.number there) styled
        (each_seen (λ one. IsElement doc (number_of one)) styled_seen styled elements)

    pub later-counts : counted (count_by (λ (one : Styled). one.matched) styled) (length styled) ≡ counts_of st
    later-counts =
        let matched = found-matched scene pending.marked (is_fresh_in pending) (style_at kept) kept.recent was.sound was.keeps seen found in
        let all = found-cascaded scene pending.marked (is_fresh_in pending) (style_at kept) kept.recent was.sound was.keeps seen found in
        let pass = λ (one : walk.Styled). one.matched in
        same_counts _ _ _ _
        (sym (length-filter (λ (one : Styled). one.matched) styled)
        ∙ (sym (ap length (filter-map pass styled_seen styled) ∙ length-map (filter (λ (one : Styled). one.matched) styled) styled_seen)
        ∙ matched))
        (sym (length-map styled styled_seen) ∙ all)

    module _ (places room : ℕ) (gone : List ℕ) (wide put now : KeptView) (same : gone ≡ pending.gone) (has : HasPlaces places kept wide) (commits : Commits seen wide put)
        (dropped : DropsGone doc gone put now) where
      placed : (x : ℕ) → style_at put x ≡ option_or (result_at seen x) (style_at kept x)
      placed x = commits.styles x ∙ ap (option_or (result_at seen x)) (has.styles x)

      recent_is : now.recent ≡ map number_of seen
      recent_is = dropped.recent ∙ commits.recent

      pub later-seen : behind room now ≡ restyled st
      later-seen =
          restyled-with scene pending.marked (is_fresh_in pending) (style_at kept) kept.recent was.sound was.keeps seen found [] (is_fresh_in (none_pending room)) refl
          (λ x. refl) (style_at now) now.recent (λ x there. dropped_there doc gone put now dropped x there ∙ placed x) recent_is

      absent_later : (x : ℕ) → is_element doc x ≡ false → style_at now x ≡ None
      absent_later x out =
          dropped_absent doc gone put now dropped x out
          (λ here. placed x
          ∙ (ap (λ o. option_or o (style_at kept x)) (no_result doc x out seen elements) ∙ was.absent x out (ap (is_in x) (sym same) ∙ here)))

      pub session-later : (known : Derived) → AreReady (sources_seen content.sheets) known → IsSession content (none_pending room) now known
      session-later known ready =
          session_anew room now later-seen known ready absent_later
          (subst (IsDistinct nat_eq) (sym recent_is) (found-once scene pending.marked (is_fresh_in pending) (style_at kept) kept.recent was.sound was.keeps seen found))

  -- behind a restyle, where what is pending was cleared
  module _ (room : ℕ) (after : PendingMembers) (cleared : after ≡ none_pending room) (now : KeptView) where
    pub session-cleared : (known : Derived) → IsSession content (none_pending room) now known → IsSession content after now known
    session-cleared known = subst (λ p. IsSession content p now known) (sym cleared)

    module _ (done : behind room now ≡ restyled st) (old : Standing) (view : st ≡ old) where
      abbrev later : Standing
      later = standing_seen content.doc content.sheets after now

      done_now : later ≡ restyled st
      done_now = ap (λ p. standing_seen content.doc content.sheets p now) cleared ∙ done

      pub restyled-now : later ≡ restyled old
      restyled-now = done_now ∙ ap restyled view

      pub others-now : (x : ℕ) → IsElement doc x → is_in x now.recent ≡ false → kept_at later x ≡ kept_at old x
      others-now x there h = others-restyled st later was.sound was.keeps done_now x there h ∙ ap (λ s. kept_at s x) view

      pub reached-now : IsReached old → IsReached later
      reached-now reached = subst IsReached (sym restyled-now) (by_restyle old reached)

  -- where memory runs out before styles are kept, only what is made of the sheets is another
  pub session-known : (now : KeptView) (known : Derived) → now ≡ kept → AreReady (sources_seen content.sheets) known → IsSession content pending now known
  session-known now known same ready =
      subst (λ k. IsSession content pending k known) (sym same)
      (record {
        sound = was.sound;
        ready = ready;
        marks_given = was.marks_given;
        gone_given = was.gone_given;
        absent = was.absent;
        keeps = was.keeps;
        once = was.once;
      })

-- what is ready fits, and what the styler knows may be another

pub ready-fits : (sources : Sources) (derived : Derived) (it : Prepared) → derived.prepared ≡ Some it → AreReady sources derived
    → Fits sources derived.cache.size it derived.cache.styler
ready-fits sources derived it is ready = subst (λ (o : Option Prepared). CanStyle sources o derived.cache) is ready.styles

pub ready-known : (sources : Sources) (derived : Derived) (it : Prepared) (cache : StyleCache) → derived.prepared ≡ Some it → AreReady sources derived
    → Fits sources cache.size it cache.styler → AreReady sources (record derived { cache = cache })
ready-known sources derived it cache is ready fits = record {
  styles = subst (λ (o : Option Prepared). CanStyle sources o cache) (sym is) fits;
  map = ready.map;
}

-- where nothing was ready, whatever is made ready fits
pub none-ready : (sources : Sources) (prepared : Option Prepared) (it : Prepared) (cache : StyleCache) → is_some prepared ≡ false → IsPrepared sources it
    → CanStyle sources prepared cache → Fits sources cache.size it cache.styler
none-ready sources None it cache none fits ready = ready sources it fits
none-ready sources (Some other) it cache none fits ready = absurd (false≢true (sym none))
