-- What a value expands to can be written, where it and the values that it refers to can.
use Rattle.std.proofs.Common.{◌≡◌, ℕ, zero, suc, [], ◌∷◌, ◌++◌, length, Bool, true, false, cond, Option, Some, None, option_map, IfSome, refl, sym, ap, ◌∙◌, subst}
use Rattle.std.specs.Prelude.{nat_le}
use Rattle.std.specs.Option.{option_or}
use Rattle.std.specs.FinMap as finmap
use Rattle.std.proofs.lemmas.Bool.{false≢true}
use Rattle.std.proofs.lemmas.Option.{none-some, same_Some, cond_some, option_and_then_some}
use Rattle.base_model.specs.Options.{◌>>=◌}
use Rattle.base_model.specs.Text.{Characters}
use Rattle.syntax_model.specs.TokenKinds.{is_white}
use Rattle.syntax_model.specs.Wide.{Wide, initial}
use Rattle.syntax_model.specs.Written.{is_string, is_url_function}
use Rattle.custom_model.specs.Value.{CustomValue, CustomValues, unplaced, normal}
use Rattle.custom_model.specs.Parts.{Parts, done, plain, reference, with_fallback, parts}
use Rattle.custom_model.specs.Expand.{Lookup, token_limit, joined, expand, expanded, expansion}
use Rattle.custom_model.specs.Cycles.{DeclaredValues, is_cyclic}
use Rattle.custom_model.specs.Computed.{wide_of, by_keyword, after_keyword, computed_by, computed_within, computed, resolved}
use Rattle.custom_model.proofs.KeptLemmas.{first_is, Kept, kept_writable, kept_normal, kept-append, writable_normal}
use Rattle.custom_model.proofs.PartsLemmas.{KeptParts, starts_string, parts_kept}
use Rattle.custom_model.proofs.ResolvedLemmas.{resolved-get}
use Rattle.custom_model.proofs.WritableLemmas.{Writable}

-- each value can be written
abbrev pub AllWritable : Lookup → Type 0
AllWritable values = (name : Characters) (value : CustomValue) → values name ≡ Some value → Writable value

-- what holds of a value, if there is one
some_holds : (P : CustomValue → Type 0) (o : Option CustomValue) → ((value : CustomValue) → o ≡ Some value → P value) → IfSome o P
some_holds P None h = tt
some_holds P (Some value) h = h value refl

holds_some : (P : CustomValue → Type 0) (o : Option CustomValue) (value : CustomValue) → IfSome o P → o ≡ Some value → P value
holds_some P None value h e = absurd (none-some value e)
holds_some P (Some v) value h e = subst P (same_Some v value e) h

joined_holds : (P Q R : CustomValue → Type 0) (before behind : Option CustomValue) → ((front back : CustomValue) → P front → Q back → R (front ++ back)) → IfSome before P → IfSome behind Q → IfSome (joined before behind) R
joined_holds P Q R None behind w h k = tt
joined_holds P Q R (Some front) None w h k = tt
joined_holds P Q R (Some front) (Some back) w h k = w front back h k

or_holds : (P : CustomValue → Type 0) (first other : Option CustomValue) → IfSome first P → IfSome other P → IfSome (option_or first other) P
or_holds P None other h k = k
or_holds P (Some value) other h k = h

normal_holds : (o : Option CustomValue) → IfSome o Kept → IfSome (option_map normal o) Kept
normal_holds None h = tt
normal_holds (Some value) h = kept_normal value h

abbrev Begins : CustomValue → Type 0
Begins tokens = first_is is_string tokens ≡ true

module _ (values : Lookup) (kept : (name : Characters) → IfSome (values name) Kept) where
  -- what begins with a string does so expanded
  expand_begins : (read : Parts) → starts_string read ≡ true → IfSome (expand values read) Begins
  expand_begins done h = absurd (false≢true h)
  expand_begins (reference name rest) h = absurd (false≢true h)
  expand_begins (with_fallback name fallback rest) h = absurd (false≢true h)
  expand_begins (plain token rest) h = by (expand values rest) (is_white token.kind) refl (expand_begins rest) h where
    by : (o : Option CustomValue) (b : Bool) → is_white token.kind ≡ b → (starts_string rest ≡ true → IfSome o Begins) → cond b (starts_string rest) (is_string token.kind) ≡ true → IfSome (joined (Some (token ∷ [])) o) Begins
    by None b e later h = tt
    by (Some out) true e later h = ap (λ b. cond b (first_is is_string out) (is_string token.kind)) e ∙ later h
    by (Some out) false e later h = ap (λ b. cond b (first_is is_string out) (is_string token.kind)) e ∙ h

  expand_kept : (read : Parts) → KeptParts read → IfSome (expand values read) Kept
  expand_kept done h = (tt, tt)
  expand_kept (plain token rest) h = by (expand values rest) (λ u. expand_begins rest (h.1 u)) (expand_kept rest h.2) where
    by : (o : Option CustomValue) → (is_url_function (unplaced token) ≡ true → IfSome o Begins) → IfSome o Kept → IfSome (joined (Some (token ∷ [])) o) Kept
    by None url k = tt
    by (Some out) url k = ((h.0, k.0), (url, k.1))
  expand_kept (reference name rest) h =
      joined_holds Kept Kept Kept (values name) (expand values rest) kept-append (kept name) (expand_kept rest h)
  expand_kept (with_fallback name fallback rest) h =
      joined_holds Kept Kept Kept (option_or (values name) (option_map normal (expand values fallback))) (expand values rest) kept-append
      (or_holds Kept (values name) _ (kept name) (normal_holds (expand values fallback) (expand_kept fallback h.0)))
      (expand_kept rest h.1)

-- what a value expands to can be written, where it and all values that it may refer to can
pub expansion_writable : (values : Lookup) → AllWritable values → (tokens result : CustomValue) → Writable tokens → expansion values tokens ≡ Some result → Writable result
unfolding expansion
expansion_writable values all tokens result h e =
    let kept : (name : Characters) → IfSome (values name) Kept = λ name. some_holds Kept (values name) (λ v is. kept_writable v (all name v is)) in
    option_and_then_some (expanded values) (parts tokens) result e (λ read is made.
    option_and_then_some _ (expand values read) result made (λ out from within.
    let k = holds_some Kept (expand values read) out (expand_kept values kept read (parts_kept tokens read is (kept_writable tokens h))) from in
    subst Writable (cond_some (nat_le (length (normal out)) token_limit) (normal out) result within).1 (writable_normal out k)))

-- the same of a keyword that arises: what is inherited can be written too
after_keyword_writable : (inherited : Option CustomValue) (tokens value : CustomValue) → ((other : CustomValue) → inherited ≡ Some other → Writable other) → Writable tokens → after_keyword inherited tokens ≡ Some value → Writable value
after_keyword_writable inherited tokens value all h e = by (wide_of tokens) e where
  by : (o : Option Wide) → by_keyword inherited tokens o ≡ Some value → Writable value
  by None e = subst Writable (same_Some tokens value e) h
  by (Some initial) e = absurd (none-some value e)
  by (Some word) e = all value e

module _ (declared : DeclaredValues) (inherited : CustomValues) (each : (name : Characters) (value : CustomValue) → finmap.get declared name ≡ Some (Some value) → Writable value) (kept : AllWritable (finmap.get inherited)) where
  computed_by_writable : (values : Lookup) → AllWritable values → (name : Characters) (value : CustomValue) (o : Option (Option CustomValue)) → finmap.get declared name ≡ o → computed_by declared inherited values name o ≡ Some value → Writable value
  computed_by_writable values all name value None is e = kept name value e
  computed_by_writable values all name value (Some None) is e = absurd (none-some value e)
  computed_by_writable values all name value (Some (Some tokens)) is e = by (is_cyclic declared name) e where
    by : (b : Bool) → cond b None (expansion values tokens >>= after_keyword (finmap.get inherited name)) ≡ Some value → Writable value
    by true e = absurd (none-some value e)
    by false e =
        option_and_then_some (after_keyword (finmap.get inherited name)) (expansion values tokens) value e (λ out from made.
        after_keyword_writable (finmap.get inherited name) out value (kept name) (expansion_writable values all tokens out (each name tokens is) from) made)

  computed_within_writable : (most : ℕ) → AllWritable (computed_within most declared inherited)
  computed_within_writable zero name value e = absurd (none-some value e)
  computed_within_writable (suc most) name value e =
      computed_by_writable (computed_within most declared inherited) (computed_within_writable most) name value (finmap.get declared name) refl e

  -- what is computed can be written, where what is declared and inherited can
  pub computed_writable : AllWritable (computed declared inherited)
  unfolding computed
  computed_writable = computed_within_writable (suc (finmap.len declared))

  pub resolved_writable : AllWritable (finmap.get (resolved declared inherited))
  resolved_writable name value e = computed_writable name value (sym (resolved-get declared inherited name) ∙ e)
