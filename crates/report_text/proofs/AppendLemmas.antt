-- One text appended to another.
use Rattle.std.proofs.Common.{◌≡◌, ◌≤◌, [], ◌++◌, length, take, Result, Ok, Err, OnOk, OnErr, refl, sym, ap, ◌∙◌, append_assoc, arith}
use Rattle.std.specs.Io.{StartsWith}
use Rattle.std.proofs.lemmas.List.{length-take, take-take, take_all, take_at}
use Rattle.base_model.specs.Text.{Characters}

-- first a text, and then all that comes after it
pub before : (old middle new first rest : Characters) → middle ≡ old ++ first → new ≡ middle ++ rest → new ≡ old ++ (first ++ rest)
before old middle new first rest one more = more ∙ (ap (λ text. text ++ rest) one ∙ append_assoc old first rest)

-- what is appended to nothing
pub alone : (old new text : Characters) → old ≡ [] → new ≡ old ++ text → new ≡ text
alone old new text empty more = more ∙ ap (λ start. start ++ text) empty

-- a text begins with what it was before something was appended

pub starts-same : (old new : Characters) → new ≡ old → StartsWith new old
starts-same old new same = ap (take (length old)) same ∙ take_all (length old) old (omega arith)

pub starts-more : (old new more : Characters) → new ≡ old ++ more → StartsWith new old
starts-more old new more is = ap (take (length old)) is ∙ take_at old more (length old) refl

pub starts-on : (old middle new : Characters) → StartsWith middle old → StartsWith new middle → StartsWith new old
starts-on old middle new first then =
    let long : length old ≤ length middle = omega (arith, ap length first, length-take (length old) middle) in
    sym (take-take (length old) (length middle) new long) ∙ (ap (take (length old)) then ∙ first)

pub starts-pushed : {T E : Type 0} (result : Result T E) (old new more : Characters) → OnOk result (new ≡ old ++ more) → OnErr result (new ≡ old) → StartsWith new old
starts-pushed (Ok x) old new more is _ = starts-more old new more is
starts-pushed (Err e) old new more _ same = starts-same old new same
