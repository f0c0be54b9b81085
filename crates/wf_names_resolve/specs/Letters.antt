-- What is given for the letters of an axiom, by the bytes of texts.
use Rattle.std.specs.Prelude.{ℕ, List, [], ◌∷◌}
use Rattle.wf_named.specs.NamedTree as tree
use Rattle.wf_named.specs.NamedTree.{LetterTrees}
use Rattle.wf_names_resolve.specs.Resolved.{NamedGiven, word_of}

abbrev pub letters_by : (bytes : ℕ → List ℕ) → List NamedGiven → LetterTrees
letters_by bytes [] = tree.no_letter
letters_by bytes (g ∷ gs) = tree.more_letters (word_of bytes g.name) g.value (letters_by bytes gs)
