use Rattle.std.proofs.Common.{arith, refl, sym, ap, ◌∙◌, ◌∷◌, ◌++◌, [], drop}
use Rattle.css_tokens.proofs.TokenizerLemmas.{first_left}
use Rattle.css_tokens.proofs.token_reader.TokenReader.append.Goals as goal

pub simple-requires : goal.simple-requires
simple-requires c = record { fits = omega (arith, (first_left _ _ _ _ _ c.as_slice.ensures.value c.self.invariant c.split_at.ensures.back c.in-Some.ensures).inside) }

pub invariant_of-self : goal.invariant_of-self
invariant_of-self c = (first_left _ _ _ _ _ c.as_slice.ensures.value c.self.invariant c.split_at.ensures.back c.in-Some.ensures).inside

pub returns-in-Some-clause-first : goal.returns-in-Some-clause-first
returns-in-Some-clause-first c = record {
  token = _;
  first = sym c.self.view_is ∙ (first_left _ _ _ _ _ c.as_slice.ensures.value c.self.invariant c.split_at.ensures.back c.in-Some.ensures).first;
  last = c.in_ok-push.ensures.items ∙ ap (λ t. c.args.list.now.items ++ t ∷ []) c.simple.ensures;
  same_kind = refl;
}

pub returns-in-Some-clause-rest : goal.returns-in-Some-clause-rest
returns-in-Some-clause-rest c = sym (ap (drop 1) (returns-in-Some-clause-first c).first)

pub invariant_of-self-in-Some-plain_ident : goal.invariant_of-self-in-Some-plain_ident
invariant_of-self-in-Some-plain_ident c = (first_left _ _ _ _ _ c.as_slice.ensures.value c.self.invariant c.split_at.ensures.back c.in-Some-plain_ident.ensures).inside

pub returns-in-Some-plain_ident-clause-first : goal.returns-in-Some-plain_ident-clause-first
returns-in-Some-plain_ident-clause-first c = record {
  token = _;
  first = sym c.self.view_is ∙ (first_left _ _ _ _ _ c.as_slice.ensures.value c.self.invariant c.split_at.ensures.back c.in-Some-plain_ident.ensures).first;
  last = c.in_ok-push-2.ensures.items ∙ ap (λ t. c.args.list.now.items ++ t ∷ []) c.in_ok-ident.ensures;
  same_kind = refl;
}

pub returns-in-Some-plain_ident-clause-rest : goal.returns-in-Some-plain_ident-clause-rest
returns-in-Some-plain_ident-clause-rest c = sym (ap (drop 1) (returns-in-Some-plain_ident-clause-first c).first)
