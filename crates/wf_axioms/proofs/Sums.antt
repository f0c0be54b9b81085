-- What is no sum of two.
use Rattle.std.proofs.Common.{◌≡◌, true, false, None, refl}
use Rattle.wf_ast.specs.TypedTree.{NumTree, link, plus}
use Rattle.wf_facts_exprs.specs.Shapes.{is_plain}
use Rattle.wf_axioms.specs.Matching.{summands}

pub plain-apart : (t : NumTree) → is_plain t ≡ true → None ≡ summands t
plain-apart (link at sign plus bits false a b) h = absurd (cc (h))
plain-apart t h = refl
