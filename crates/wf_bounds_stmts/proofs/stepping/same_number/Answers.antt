use Rattle.std.proofs.Common.{◌∙◌}
use Rattle.wf_ast.specs.Same.{same}
use Rattle.wf_bounds_stmts.proofs.FastLemmas.{numeric_by}
use Rattle.wf_bounds_stmts.proofs.stepping.same_number.Goals as goal

pub returns : goal.returns
returns c =
    let a = numeric_by c.args.t.now c.args.a c.look_at.ensures c.requires.first in
    let b = numeric_by c.args.t.now c.args.b c.look_at-2.ensures c.requires.second in
    c.same.ensures ∙ (λ n. same (a n) (b n))
