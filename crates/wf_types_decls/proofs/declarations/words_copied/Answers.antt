use Rattle.std.proofs.Common.{◌≡◌, ◌∙◌, ◌++◌, [], sym, ap, drop, map, arith}
use Rattle.std.proofs.lemmas.List.{append-nil, drop_all}
use Rattle.wf_types_decls.proofs.DeclarationLemmas.{kept_next}
use Rattle.wf_types_decls.proofs.declarations.words_copied.Goals as goal

pub loop-word-preserved : goal.loop-word-preserved
loop-word-preserved c =
    let l = c.loop-word in kept_next c.args.words.now (λ w. w.now) l.word-index _ c.loop-word-test.true l.all c.in_ok-all.all (rw c.as_bytes.ensures.value at c.in_ok-all.ensures) ∙ l.invariant

pub returns : goal.returns
returns c =
    let l = c.loop-word in
    let over : drop l.word-index c.args.words.now ≡ [] = drop_all l.word-index c.args.words.now (omega (arith, c.loop-word-test.false)) in
    sym (append-nil l.all) ∙ sym (ap (λ ws. l.all ++ map (λ w. w.now) ws) over) ∙ l.invariant
