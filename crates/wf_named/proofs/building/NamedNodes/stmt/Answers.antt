use Rattle.std.proofs.Common.{refl, ◌+◌, ℕ, arith, ◌≡◌, subst, length}
use Rattle.std.proofs.lemmas.Option.{slice_get_read}
use Rattle.wf_named.specs.NamedParts.{NamedStmtParts}
use Rattle.wf_named.proofs.StmtLemmas.{stmt_trees-node, stmts_parts}
use Rattle.wf_named.proofs.building.NamedNodes.stmt.Goals as goal

pub returns-clause-made : goal.returns-clause-made
returns-clause-made c =
    let nodes = c.self.inside.stmts.items in
    let texts = c.self.inside.texts in
    let exprs = c.self.inside.exprs.items in
    let found = slice_get_read nodes _ c.args.s.0 c.index.result.now refl (rw (← c.self.view_is) at c.requires) c.index.ensures in
    rw (← c.self.view_is) (stmt_trees-node (length texts) (length exprs) texts exprs nodes c.self.invariant.stmts c.args.s.0 c.index.result.now found)

pub returns-clause-parts : goal.returns-clause-parts
returns-clause-parts c =
    let nodes = c.self.inside.stmts.items in
    let texts = c.self.inside.texts in
    let exprs = c.self.inside.exprs.items in
    let found = slice_get_read nodes _ c.args.s.0 c.index.result.now refl (rw (← c.self.view_is) at c.requires) c.index.ensures in
    let Q : ℕ → Type 0 = λ j. NamedStmtParts (length texts) (length exprs) j c.index.result.now.stmt in
    let spot : 0 + c.args.s.0 ≡ c.args.s.0 = omega arith in
    rw (← c.self.view_is) (subst Q spot (stmts_parts (length texts) (length exprs) nodes 0 c.self.invariant.stmts c.args.s.0 c.index.result.now found))
