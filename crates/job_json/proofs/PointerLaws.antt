-- The characters of a key in a pointer, one more at a time.
use Rattle.std.proofs.Common.{◌≡◌, ℕ, ◌+◌, ◌<◌, ◌∷◌, ◌++◌, length, drop, get_or, append_assoc, append-nil, sym, ap, ◌∙◌, arith}
use Rattle.std.proofs.lemmas.List.{drop_all, drop_more}
use Rattle.scene_model.specs.Element.{Characters}
use Rattle.job_json.specs.Checked.{escaped, escaped_one}

pub escaped_more : (cs text new all : Characters) (n c : ℕ) → (n < length cs) × (c ≡ get_or cs n c)
    → new ≡ text ++ escaped_one c → text ++ escaped (drop n cs) ≡ all → new ++ escaped (drop (n + 1) cs) ≡ all
escaped_more cs text new all n c turn e before =
    let rest = drop (n + 1) cs in
    let next : drop n cs ≡ c ∷ rest = drop_more cs n c turn.0 ∙ ap (λ d. d ∷ rest) (sym turn.1) in
    ap (λ xs. xs ++ escaped rest) e ∙ (append_assoc text (escaped_one c) (escaped rest) ∙ (ap (λ xs. text ++ escaped xs) (sym next) ∙ before))

pub escaped_all : (cs text all : Characters) (n : ℕ) → n ≡ length cs → text ++ escaped (drop n cs) ≡ all → text ≡ all
escaped_all cs text all n e before = sym (append-nil text) ∙ (ap (λ xs. text ++ escaped xs) (sym (drop_all n cs (omega arith))) ∙ before)
