use Rattle.std.proofs.Common.{◌≡◌, ◌++◌, drop, map}
use Rattle.wf_types_decls.proofs.declarations.words_copied.Given as goal

abbrev pub invariant-loop-word : goal.invariant-loop-word
invariant-loop-word l = (l.all ++ map (λ w. w.now) (drop l.word-index l.words)) ≡ map (λ w. w.now) l.words
