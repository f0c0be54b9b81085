use Rattle.std.proofs.Common.{◌≡◌, length, subst, arith}
use Rattle.wf_ast.specs.declared.numbers.StmtId.{StmtId}
use Rattle.wf_ast.specs.declared.typed_nodes.TypedNodes.{TypedNodes}
use Rattle.wf_ast.specs.TypedTree.{Block}
use Rattle.wf_ast.specs.TypedTrees.{tree_of, stmt_made, stmt_makers, onto}
use Rattle.wf_typed_stmts.specs.StmtGrowth.{with_stmts}
use Rattle.wf_typed_stmts.proofs.EntryLemmas.{stmts_alone}
use Rattle.wf_typed_stmts.proofs.PushLemmas.{pushed_grows, pushed_made, pushed_built}
use Rattle.wf_typed_stmts.proofs.building.BodyBuilding.push_stmt.Goals as goal

pub returns-clause-grows : goal.returns-clause-grows
returns-clause-grows c =
    rw (← c.self.view_is)
    (pushed_grows c.self.inside.building c.self.inside.stmts.items c.add_last.new.list.items c.args.node (rw (← c.self.view_is) at c.requires.built) (rw (← c.self.view_is) at c.requires.there) c.in_ok-add_last.ensures.items)

pub returns-clause-built : goal.returns-clause-built
returns-clause-built c =
    pushed_built c.self.inside.building c.self.inside.stmts.items c.add_last.new.list.items c.args.node (rw (← c.self.view_is) at c.requires.built) (rw (← c.self.view_is) at c.requires.there) c.in_ok-add_last.ensures.items
    (omega (arith, c.len-number.ensures, c.if-number-ge-NUMBERS.false))

pub returns-clause-made : goal.returns-clause-made
returns-clause-made c =
    let s : StmtId = record { 0 = c.len-number.result } in
    let new : TypedNodes = with_stmts c.self.inside.building c.add_last.new.list.items in
    let P : TypedNodes → Type 0 = λ p. (rest : Block) → onto (stmt_makers new) s rest ≡ stmt_made p (tree_of p) (onto (stmt_makers p)) (length p.stmts) c.args.node rest in
    subst P c.self.view_is
    (pushed_made c.self.inside.building c.self.inside.stmts.items c.add_last.new.list.items c.args.node (rw (← c.self.view_is) at c.requires.built) (rw (← c.self.view_is) at c.requires.there) c.in_ok-add_last.ensures.items s
    (omega (arith, c.len-number.ensures)))

pub returns-clause-entries : goal.returns-clause-entries
returns-clause-entries c = rw (← c.self.view_is) (stmts_alone (with_stmts c.self.inside.building c.self.inside.stmts.items) c.add_last.new.list.items)
