use Rattle.std.proofs.Common.{refl, ◌+◌, ℕ, arith, ◌≡◌, subst, length}
use Rattle.std.proofs.lemmas.Option.{slice_get_read}
use Rattle.wf_ast.specs.ParsedParts.{StmtParts}
use Rattle.wf_ast.proofs.TreeLemmas.{stmt_trees-node, stmts_parts}
use Rattle.wf_ast.proofs.package_nodes.PackageNodes.stmt.Goals as goal

pub returns-clause-made : goal.returns-clause-made
returns-clause-made c =
    let nodes = c.self.inside.stmts.items in
    let found = slice_get_read nodes _ c.args.s.0 c.index.result.now refl (rw (← c.self.view_is) at c.requires) c.index.ensures in
    rw (← c.self.view_is) (stmt_trees-node (length c.self.inside.exprs.items) c.self.inside.exprs.items nodes c.self.invariant.stmts c.args.s.0 c.index.result.now found)

pub returns-clause-parts : goal.returns-clause-parts
returns-clause-parts c =
    let nodes = c.self.inside.stmts.items in
    let found = slice_get_read nodes _ c.args.s.0 c.index.result.now refl (rw (← c.self.view_is) at c.requires) c.index.ensures in
    let Q : ℕ → Type 0 = λ j. StmtParts (length c.self.inside.exprs.items) j c.index.result.now.stmt in
    let spot : 0 + c.args.s.0 ≡ c.args.s.0 = omega arith in
    rw (← c.self.view_is) (subst Q spot (stmts_parts (length c.self.inside.exprs.items) nodes 0 c.self.invariant.stmts c.args.s.0 c.index.result.now found))
