-- What is put between the two ends of a fallback is its expansion in normal form.
use Rattle.std.proofs.Common.{◌≡◌, List, [], ◌∷◌, ◌++◌, Bool, true, false, Option, Some, None, refl, sym, ◌∙◌}
use Rattle.std.specs.Prelude.{option_map}
use Rattle.base_model.specs.Options.{◌>>=◌}
use Rattle.syntax_model.specs.Token.{Token, Said}
use Rattle.syntax_model.specs.TokenKinds.{is_white}
use Rattle.custom_model.specs.Value.{normal, spaced}
use Rattle.custom_properties.specs.Output.{ExpansionOutput, output_at, beyond, output_placed, output_placed_all, begun, ended}
use Rattle.custom_properties.proofs.Chains.{assoc-bind, ap-bind}

pub placed-append : (a b : List Said) (f : ExpansionOutput)
    → output_placed_all (a ++ b) f ≡ (output_placed_all a f >>= (λ next. output_placed_all b next))
placed-append [] b f = refl
placed-append (t ∷ ts) b f =
    ap-bind (output_placed t f) _ _ (λ next. placed-append ts b next) ∙ sym (assoc-bind (output_placed t f) _ _)

abbrev pub finished : Bool → ExpansionOutput → Option ExpansionOutput
finished had_begun f = Some (ended had_begun f)

after-put : (tokens : Option (List Token)) (ts : List Said) (end : ExpansionOutput → Option ExpansionOutput) (g : ExpansionOutput → Option ExpansionOutput)
    → ((list : List Token) → (output_placed_all ts (beyond list) >>= end) ≡ g (beyond list))
    → ((option_map beyond tokens >>= (λ f. output_placed_all ts f)) >>= end) ≡ (option_map beyond tokens >>= g)
after-put None ts end g e = refl
after-put (Some list) ts end g e = e list

-- once a token is put of the fallback
abbrev IsSpaced : Bool → List Said → Type 0
IsSpaced had_begun ts =
    (is_spaced : Bool) (list : List Token)
    → (output_placed_all ts (output_at list is_spaced true) >>= finished had_begun)
    ≡ output_placed_all (spaced is_spaced ts) (beyond list)

spaced-step : (had_begun : Bool) (t : Said) (ts : List Said) (white : Bool) → is_white t.kind ≡ white
    → IsSpaced had_begun ts → IsSpaced had_begun (t ∷ ts)
spaced-step had_begun t ts true e on is_spaced list = rw e (on true list)
spaced-step had_begun t ts false e on false list = rw e (rw e (after-put _ ts _ _ (on false)))
spaced-step had_begun t ts false e on true list = rw e (rw e (after-put _ ts _ _ (on false)))

put-spaced : (had_begun : Bool) (ts : List Said) → IsSpaced had_begun ts
put-spaced had_begun [] is_spaced list = refl
put-spaced had_begun (t ∷ ts) is_spaced list =
    spaced-step had_begun t ts _ refl (put-spaced had_begun ts) is_spaced list

-- from its beginning
abbrev IsNormal : List Said → Type 0
IsNormal ts = (f : ExpansionOutput) → (output_placed_all ts (begun f) >>= finished f.has_begun) ≡ output_placed_all (normal ts) f

normal-step : (t : Said) (ts : List Said) (white : Bool) → is_white t.kind ≡ white → IsNormal ts → IsNormal (t ∷ ts)
normal-step t ts true e on f = rw e (on f)
normal-step t ts false e on f = rw e (rw e (after-put _ ts _ _ (put-spaced f.has_begun ts false)))

pub put-normal : (ts : List Said) → IsNormal ts
put-normal [] f = refl
put-normal (t ∷ ts) f = normal-step t ts _ refl (put-normal ts) f
