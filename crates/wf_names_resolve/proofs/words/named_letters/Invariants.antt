use Rattle.wf_names_rules.specs.Declarations.{bytes_of}
use Rattle.wf_names_resolve.proofs.WordLemmas.{LettersMade}
use Rattle.wf_names_resolve.proofs.words.named_letters.Given as goal

abbrev pub invariant-loop-one : goal.invariant-loop-one
invariant-loop-one l = LettersMade (bytes_of l.parsed.texts) l.given l.one-index l.fn.nodes l.nodes l.made
