use Rattle.std.proofs.Common.{◌≡◌, ◌++◌, ◌∷◌, [], List, map, option_map, false, ap, sym, subst, ◌∙◌}
use Rattle.std.specs.Option.{IfSome}
use Rattle.std.specs.Str.{chars}
use Rattle.std.proofs.lemmas.List.{map-append}
use Rattle.scene_model.specs.Element.{Characters}
use Rattle.stylo_base.specs.NameList.{is_among}
use Rattle.dom_tree.specs.Classes.{distinct_from}
use Rattle.dom_edits.specs.declared.word.Word.{Word}
use Rattle.dom_edits.specs.declared.word_set.WordSet.{WordSet}
use Rattle.dom_edits.specs.WordSets.{texts_of}
use Rattle.dom_edits.proofs.WordLemmas.{index_grown, map_twice, once_more}
use Rattle.dom_edits.proofs.word_set.WordSet.add.Goals as goal
use Rattle.dom_edits.proofs.word_set.WordSet.add.Goals.{then-len-eq-FEW+in_ok-index_of+in-None-1, then-len-eq-FEW+in_ok-index_of+in-Some-1, else-len-eq-FEW}

pub returns-clause-set : goal.returns-clause-set
returns-clause-set c =
    let t : List Characters = texts_of c.args.self.now in
    let word : Characters = chars c.args.word.text.now in
    let apart : is_among word t ≡ false = sym c.has.ensures ∙ c.if-has.false in
    let same : c.if-len-eq-FEW.self.words ≡ c.args.self.now.words = elim c.if-len-eq-FEW.branch [
      | then-len-eq-FEW+in_ok-index_of+in-None-1 w ↦ ap (λ (s : WordSet). s.words) w.self-is
      | then-len-eq-FEW+in_ok-index_of+in-Some-1 w ↦ ap (λ (s : WordSet). s.words) w.self-is
      | else-len-eq-FEW w ↦ ap (λ (s : WordSet). s.words) w.self-is
    ] in
    let indexed : IfSome (option_map (λ names. names.value) c.if-len-eq-FEW.self.index) (λ l. l ≡ t) = elim c.if-len-eq-FEW.branch [
      | then-len-eq-FEW+in_ok-index_of+in-None-1 w ↦ subst (λ (s : WordSet). IfSome (option_map (λ names. names.value) s.index) (λ l. l ≡ t)) (sym w.self-is)
          (w.in_ok-index_of.ensures ∙ (ap (λ l. distinct_from [] (map (λ word. chars word.text.now) l)) w.as_slice.ensures ∙ c.requires.once))
      | then-len-eq-FEW+in_ok-index_of+in-Some-1 w ↦ subst (λ (s : WordSet). IfSome (option_map (λ names. names.value) s.index) (λ l. l ≡ t)) (sym w.self-is)
          (w.in_ok-index_of.ensures ∙ (ap (λ l. distinct_from [] (map (λ word. chars word.text.now) l)) w.as_slice.ensures ∙ c.requires.once))
      | else-len-eq-FEW w ↦ subst (λ (s : WordSet). IfSome (option_map (λ names. names.value) s.index) (λ l. l ≡ t)) (sym w.self-is) c.requires.index
    ] in
    let items : c.push.new.self.items ≡ c.args.self.now.words.items ++ c.args.word ∷ [] = c.in_ok-push.ensures.ok ∙ ap (λ v. v.items ++ c.args.word ∷ []) same in
    let texts : map (λ word. chars word.text.now) c.push.new.self.items ≡ t ++ word ∷ [] = ap (map (λ word. chars word.text.now)) items ∙ map-append (λ (word : Word). chars word.text.now) c.args.self.now.words.items (c.args.word ∷ []) in
    record {
      once = ap (distinct_from []) texts ∙ (once_more t word c.requires.once apart ∙ sym texts);
      index = index_grown (option_map (λ names. names.value) c.if-len-eq-FEW.self.index) (option_map (λ names. names.value) c.name_in.new.index) t _ word apart texts (c.in_ok-name_in.ensures ∙ map_twice (λ names. names.value) word c.if-len-eq-FEW.self.index) indexed;
    }
