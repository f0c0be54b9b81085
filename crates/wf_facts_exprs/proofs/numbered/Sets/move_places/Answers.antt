use Rattle.std.proofs.Common.{◌≡◌, List, length, sym, ◌∙◌, subst, arith}
use Rattle.std.proofs.lemmas.List.{take_at}
use Rattle.wf_facts_exprs.specs.declared.sets.FactSet.{FactSet}
use Rattle.wf_facts_exprs.specs.NumberedSets.{words_at}
use Rattle.wf_facts_exprs.proofs.NumberedLemmas.{Leaves, Leaves-each}
use Rattle.wf_facts_exprs.proofs.numbered.Sets.move_places.Goals as goal

pub returns : goal.returns
returns c k =
    let long : length c.move_sets.new.sets ≡ c.self.inside.list.len = omega (arith, c.move_sets.auto.sets, c.as_mut_slice.ensures.len) in
    let P : List FactSet → Type 0 = λ sets. Leaves c.args.dropped.now.words c.args.n (words_at c.args.self.now k) (words_at sets k) in
    let Q : List FactSet → Type 0 = λ sets. Leaves c.args.dropped.now.words c.args.n (words_at sets k) (words_at c.move_sets.new.sets k) in
    subst P (sym (take_at c.move_sets.new.sets _ _ long)) (subst Q (c.as_mut_slice.ensures.value ∙ c.self.view_is)
    (Leaves-each c.args.dropped.now.words c.args.n c.as_mut_slice.result.now c.move_sets.new.sets c.requires.few c.move_sets.auto.sets c.move_sets.ensures k))
