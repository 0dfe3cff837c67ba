-- Forms in a text: how many characters a form takes there, and what these say.
use Rattle.std.proofs.Common.{◌≡◌, ◌≢◌, ℕ, ◌+◌, ◌<◌, ◌≤◌, Bool, true, false, [], ◌∷◌, ◌++◌, length, take, drop, refl, sym, ap, ◌∙◌, arith}
use Rattle.std.proofs.Common.{inl, inr, subst, append_assoc, length-append, length-drop, take-append-drop}
use Rattle.std.specs.Prelude.{option_to_list}
use Rattle.std.specs.List.{prefix_len}
use Rattle.std.proofs.Math.Numerals.{one-add}
use Rattle.std.proofs.Math.Seq.{take-add}
use Rattle.std.proofs.lemmas.Bool.{cond_both, cond-true, cond-false}
use Rattle.std.proofs.lemmas.List.{drop_at, drop-drop, length-take-le, take_at}
use Rattle.base_model.specs.Text.{Characters}
use Rattle.syntax_model.specs.Letters.{begins}
use Rattle.syntax_model.specs.TextUnits.{Run, TextUnit, len_of, one_if, run_of, said_of, then_run}
use Rattle.syntax_model.specs.Reading.{Either, Form, IsCharacter, IsNothing, IsOne, IsOptional, IsRun, IsSpan, IsText, IsUnits, Says, SaysBy, Then, ThenBy, run_end, run_unit}
use Rattle.syntax_model.proofs.TextUnitLemmas.{Fits, prefix_inside, run_any, run_inside, run_of_more, run_of_none}

-- so many characters of the text, and no other number, are of the form
pub record Takes (form : Form) (text : Characters) (n : ℕ) : Type 0 where
  pub fits : form (take n text) (drop n text)
  pub inside : n ≤ length text
  pub only : (piece rest : Characters) → form piece rest → text ≡ piece ++ rest → n ≡ length piece

-- the same number by another name
pub takes_as : {form : Form} {text : Characters} {n m : ℕ} → n ≡ m → Takes form text n → Takes form text m
takes_as same takes = rw (← same) takes

pub takes_nothing : (text : Characters) → Takes IsNothing text 0
takes_nothing text = record { fits = refl; inside = omega arith; only = λ piece rest is e. sym (ap length is) }

pub takes_text : (word rest : Characters) → Takes (IsText word) (word ++ rest) (length word)
takes_text word rest = record {
  fits = take_at word rest (length word) refl;
  inside = omega (arith, length-append word rest);
  only = λ piece rest same e. sym (ap length same);
}

pub takes_one : (p : ℕ → Bool) (text : Characters) → begins p text ≡ true → Takes (IsOne p) text 1
takes_one p [] e = cc
takes_one p (c ∷ cs) e = record { fits = (c, refl, e); inside = omega arith; only = λ piece rest is same. sym (ap length is.1) }

-- a span
span_of : (p : ℕ → Bool) (cs : Characters) → IsSpan p (take (prefix_len p cs) cs) (drop (prefix_len p cs) cs)
span_of p [] = record { all = tt; stops = refl }
span_of p (c ∷ cs) = cond_both (p c) (1 + prefix_len p cs) 0 (λ n. IsSpan p (take n (c ∷ cs)) (drop n (c ∷ cs)))
    (λ passes. rw one-add record { all = (passes, (span_of p cs).all); stops = (span_of p cs).stops })
    (λ fails. record { all = tt; stops = fails })

span_length : (p : ℕ → Bool) (piece rest : Characters) → IsSpan p piece rest → prefix_len p (piece ++ rest) ≡ length piece
span_length p [] [] span = refl
span_length p [] (c ∷ rest) span = cond-false (p c) _ _ span.stops
span_length p (c ∷ cs) rest span =
    cond-true (p c) _ _ span.all.0 ∙ omega (arith, span_length p cs rest (record { all = span.all.1; stops = span.stops }))

pub takes_span : (p : ℕ → Bool) (text : Characters) → Takes (IsSpan p) text (prefix_len p text)
takes_span p text = record {
  fits = span_of p text;
  inside = prefix_inside p text;
  only = λ piece rest span e. ap (prefix_len p) e ∙ span_length p piece rest span;
}

-- a form, and another after it
then_joined : {F G : Form} {text piece rest : Characters} (is : Then F G piece rest)
    → text ≡ piece ++ rest → text ≡ is.before ++ (is.after ++ rest)
then_joined {rest = rest} is e = e ∙ (ap (λ xs. xs ++ rest) is.joined ∙ append_assoc is.before is.after rest)

then_left : {F G : Form} {text piece rest : Characters} {n : ℕ} → Takes F text n → (is : Then F G piece rest)
    → text ≡ piece ++ rest → drop n text ≡ is.after ++ rest
then_left {rest = rest} {n = n} first is e =
    let one : n ≡ length is.before = first.only is.before (is.after ++ rest) is.first (then_joined is e) in
    ap (drop n) (then_joined is e) ∙ drop_at is.before (is.after ++ rest) n (sym one)

pub takes_then : {F G : Form} {text : Characters} {n m : ℕ} → Takes F text n → Takes G (drop n text) m → Takes (Then F G) text (n + m)
takes_then {text = text} {n = n} {m = m} first second = record {
  fits = record {
    before = take n text;
    after = take m (drop n text);
    joined = take-add n m text;
    first = rw (← drop-drop m n text, take-append-drop m (drop n text)) first.fits;
    second = rw (← drop-drop m n text) second.fits;
  };
  inside = omega (arith, first.inside, second.inside, length-drop n text);
  only = λ piece rest is e.
      let one : n ≡ length is.before = first.only is.before (is.after ++ rest) is.first (then_joined is e) in
      let two : m ≡ length is.after = second.only is.after rest is.second (then_left first is e) in
      omega (arith, one, two, ap length is.joined, length-append is.before is.after);
}

-- the one or the other
module _ (test : Characters → Bool) (F G : Form) {text : Characters} where
  either_yes : {piece rest : Characters} → test text ≡ true → Either test F G piece rest → text ≡ piece ++ rest → F piece rest
  either_yes passes (inl one) e = one.1
  either_yes passes (inr two) e = absurd (let other : test text ≡ false = ap test e ∙ two.0 in cc)

  either_no : {piece rest : Characters} → test text ≡ false → Either test F G piece rest → text ≡ piece ++ rest → G piece rest
  either_no fails (inl one) e = absurd (let other : test text ≡ true = ap test e ∙ one.0 in cc)
  either_no fails (inr two) e = two.1

module _ (test : Characters → Bool) {F G : Form} {text : Characters} {n : ℕ} where
  pub takes_yes : test text ≡ true → Takes F text n → Takes (Either test F G) text n
  takes_yes passes takes = record {
    fits = inl (ap test (take-append-drop n text) ∙ passes, takes.fits);
    inside = takes.inside;
    only = λ piece rest is e. takes.only piece rest (either_yes test F G passes is e) e;
  }

  pub takes_no : test text ≡ false → Takes G text n → Takes (Either test F G) text n
  takes_no fails takes = record {
    fits = inr (ap test (take-append-drop n text) ∙ fails, takes.fits);
    inside = takes.inside;
    only = λ piece rest is e. takes.only piece rest (either_no test F G fails is e) e;
  }

pub takes_optional : (p : ℕ → Bool) (text : Characters) → Takes (IsOptional p) text (one_if p text)
takes_optional p text = cond_both (begins p text) 1 0 (Takes (IsOptional p) text)
    (λ e. takes_yes (begins p) e (takes_one p text e)) (λ e. takes_no (begins p) e (takes_nothing text))

some_length : (xs : Characters) → xs ≢ [] → 0 < length xs
some_length [] some = absurd (some refl)
some_length (x ∷ xs) some = omega arith

module _ (unit : Characters → TextUnit) (fits : Fits unit) where
  -- a unit in a text, and a run after it
  run_before : (first : Characters) {text more rest said : Characters} → text ≡ first ++ (more ++ rest) → 0 < (unit text).taken → (unit text).taken ≡ length first
      → IsRun unit said more rest → IsRun unit (option_to_list (unit text).said ++ said) (first ++ more) rest
  run_before first {more = more} {rest = rest} {said = said} is some size run =
      rw is (run_unit first more rest said (λ e. absurd (omega (arith, some, size, ap length e))) (rw (← is) size) run)

  -- the units that a text begins with are a run
  run_fits : (text : Characters) → IsRun unit (said_of unit text) (take (len_of unit text) text) (drop (len_of unit text) text)
  run_fits = run_any unit fits (λ text run. IsRun unit run.said (take run.taken text) (drop run.taken text)) (λ text none. run_end text none)
      (λ text more some run.
      let size : ℕ = (unit text).taken in
      let past : Characters = drop size text in
      let whole : text ≡ take size text ++ (take more.taken past ++ drop more.taken past) = rw (take-append-drop more.taken past, take-append-drop size text) refl in
      rw (take-add size more.taken text, ← drop-drop more.taken size text)
      (run_before (take size text) whole some (sym (length-take-le size text (fits text))) run))

  -- a run is all the units that the text begins with
  run_only : {said piece rest : Characters} → IsRun unit said piece rest → run_of unit (piece ++ rest) ≡ record { taken = length piece; said = said }
  run_only (run_end rest none) = run_of_none unit rest none
  run_only (run_unit first more rest said some size run) =
      let text : Characters = first ++ (more ++ rest) in
      let now : run_of unit text ≡ then_run (unit text) (run_of unit (drop (unit text).taken text)) = run_of_more unit fits text (rw size (some_length first some)) in
      rw (append_assoc first more rest, now, drop_at first (more ++ rest) _ (sym size), run_only run, size, length-append first more) refl

  -- after which no unit begins
  run_stops : {said piece rest : Characters} → IsRun unit said piece rest → (unit rest).taken ≡ 0
  run_stops (run_end rest none) = none
  run_stops (run_unit first more rest said some size run) = run_stops run

  pub ends_run : (text : Characters) → (unit (drop (len_of unit text) text)).taken ≡ 0
  ends_run text = run_stops (run_fits text)

-- So many characters of the text, and no other number, are of a form that says something, and they say this alone.
pub record Tells {X : Type 0} (F : X → Form) (text : Characters) (x : X) (n : ℕ) : Type 0 where
  pub takes : Takes (F x) text n
  pub only : (y : X) (piece rest : Characters) → F y piece rest → text ≡ piece ++ rest → y ≡ x

-- whatever they are said to say
pub tells_size : {X : Type 0} {F : X → Form} {text : Characters} {x : X} {n : ℕ} → Tells F text x n
    → (y : X) (piece rest : Characters) → F y piece rest → text ≡ piece ++ rest → n ≡ length piece
tells_size {F = F} tells y piece rest is e =
    tells.takes.only piece rest (subst (λ z. F z piece rest) (tells.only y piece rest is e) is) e

pub tells_run : (unit : Characters → TextUnit) → Fits unit → (text : Characters) → Tells (IsRun unit) text (said_of unit text) (len_of unit text)
tells_run unit fits text = record {
  takes = record {
    fits = run_fits unit fits text;
    inside = run_inside unit fits text;
    only = λ piece rest run e. ap (len_of unit) e ∙ ap (λ (r : Run). r.taken) (run_only unit fits run);
  };
  only = λ said piece rest run e. sym (ap (said_of unit) e ∙ ap (λ (r : Run). r.said) (run_only unit fits run));
}

pub takes_units : (unit : Characters → TextUnit) → Fits unit → (text : Characters) → Takes (IsUnits unit) text (len_of unit text)
takes_units unit fits text = let run = tells_run unit fits text in record {
  fits = (said_of unit text, run.takes.fits);
  inside = run.takes.inside;
  only = λ piece rest is e. tells_size run is.0 piece rest is.1 e;
}

pub tells_character : (c : ℕ) (cs : Characters) → Tells IsCharacter (c ∷ cs) c 1
tells_character c cs = record {
  takes = takes_text (c ∷ []) cs;
  only = λ d piece rest is e. let all : c ∷ cs ≡ d ∷ rest = e ∙ ap (λ xs. xs ++ rest) is in cc;
}

pub tells_says : {X : Type 0} (x : X) {F : Form} {text : Characters} {n : ℕ} → Takes F text n → Tells (Says x F) text x n
tells_says x takes = record {
  takes = record { fits = (refl, takes.fits); inside = takes.inside; only = λ piece rest is e. takes.only piece rest is.1 e };
  only = λ y piece rest is e. is.0;
}

pub tells_by : {X Y : Type 0} (meaning : X → Y) {F : X → Form} {text : Characters} {x : X} {n : ℕ}
    → Tells F text x n → Tells (SaysBy meaning F) text (meaning x) n
tells_by meaning {x = x} tells = record {
  takes = record {
    fits = (x, (refl, tells.takes.fits));
    inside = tells.takes.inside;
    only = λ piece rest is e. tells_size tells is.0 piece rest is.1.1 e;
  };
  only = λ y piece rest is e. is.1.0 ∙ ap meaning (tells.only is.0 piece rest is.1.1 e);
}

pub tells_then : {X : Type 0} {F : Form} {G : X → Form} {text : Characters} {x : X} {n m : ℕ}
    → Takes F text n → Tells G (drop n text) x m → Tells (λ y. Then F (G y)) text x (n + m)
tells_then first second = record {
  takes = takes_then first second.takes;
  only = λ y piece rest is e. second.only y is.after rest is.second (then_left first is e);
}

-- a form that says something, and then one that this asks for
module _ {X Y : Type 0} {F : X → Form} (G : X → Y → Form) {text : Characters} {x : X} {y : Y} {n m : ℕ} where
  pub tells_then_by : Tells F text x n → Tells (G x) (drop n text) y m → Tells (λ z. ThenBy F (λ w. G w z)) text y (n + m)
  tells_then_by first second = record {
    takes = record {
      fits = (x, both.fits);
      inside = both.inside;
      only = λ piece rest is e. both.only piece rest (at_x y piece rest is e) e;
    };
    only = λ z piece rest is e. let there = at_x z piece rest is e in
        second.only z there.after rest there.second (then_left first.takes there e);
  }
    where
      both : Takes (Then (F x) (G x y)) text (n + m)
      both = takes_then first.takes second.takes

      at_x : (z : Y) (piece rest : Characters)
          → ThenBy F (λ w. G w z) piece rest → text ≡ piece ++ rest → Then (F x) (G x z) piece rest
      at_x z piece rest is e =
          let said : is.0 ≡ x = first.only is.0 is.1.before (is.1.after ++ rest) is.1.first (then_joined is.1 e) in
          subst (λ w. Then (F w) (G w z) piece rest) said is.1

module _ {X : Type 0} (test : Characters → Bool) {F G : X → Form} {text : Characters} {x : X} {n : ℕ} where
  pub tells_yes : test text ≡ true → Tells F text x n → Tells (λ y. Either test (F y) (G y)) text x n
  tells_yes passes tells = record {
    takes = takes_yes test passes tells.takes;
    only = λ y piece rest is e. tells.only y piece rest (either_yes test (F y) (G y) passes is e) e;
  }

  pub tells_no : test text ≡ false → Tells G text x n → Tells (λ y. Either test (F y) (G y)) text x n
  tells_no fails tells = record {
    takes = takes_no test fails tells.takes;
    only = λ y piece rest is e. tells.only y piece rest (either_no test (F y) (G y) fails is e) e;
  }
