use Rattle.std.proofs.Common.{refl, ◌+◌, ℕ, arith, ◌≡◌, subst}
use Rattle.std.proofs.lemmas.Option.{slice_get_read}
use Rattle.wf_ast.specs.ParsedParts.{ExprParts}
use Rattle.wf_ast.proofs.TreeLemmas.{expr_trees-node, exprs_parts}
use Rattle.wf_ast.proofs.package_nodes.PackageNodes.expr.Goals as goal

pub returns-clause-made : goal.returns-clause-made
returns-clause-made c =
    let nodes = c.self.inside.exprs.items in
    let found = slice_get_read nodes _ c.args.e.0 c.index.result.now refl (rw (← c.self.view_is) at c.requires) c.index.ensures in
    rw (← c.self.view_is) (expr_trees-node nodes c.self.invariant.exprs c.args.e.0 c.index.result.now found)

pub returns-clause-parts : goal.returns-clause-parts
returns-clause-parts c =
    let nodes = c.self.inside.exprs.items in
    let found = slice_get_read nodes _ c.args.e.0 c.index.result.now refl (rw (← c.self.view_is) at c.requires) c.index.ensures in
    let Q : ℕ → Type 0 = λ j. ExprParts j c.index.result.now.expr in
    let spot : 0 + c.args.e.0 ≡ c.args.e.0 = omega arith in
    subst Q spot (exprs_parts nodes 0 c.self.invariant.exprs c.args.e.0 c.index.result.now found)
