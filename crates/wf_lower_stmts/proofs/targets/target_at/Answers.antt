use Rattle.std.proofs.Common.{subst}
use Rattle.wf_ast.specs.declared.typed_code.Expr.TheVariants as exprs
use Rattle.wf_ast.specs.declared.types.Ty.{Ty}
use Rattle.wf_ast.specs.TypedTree.{local, field, arg}
use Rattle.wf_ast.specs.TypedTrees.{named, target_of, tree_of, place_of_node, signs_of_node, type_of_node, constant_of_node}
use Rattle.wf_lower_stmts.specs.BodyNodes.{AreAlike, target_in}
use Rattle.wf_lower_stmts.proofs.TargetLaws.{alike_made, chain_alike}
use Rattle.wf_lower_stmts.proofs.targets.target_at.Goals as goal

pub returns-in-Local-clause-is : goal.returns-in-Local-clause-is
returns-in-Local-clause-is c =
    let t = c.typed-t.result.now in
    let i = c.args.e.0 in
    let nodes = c.args.b.now.nodes in
    let P : Ty → Type 0 = λ ty. AreAlike (target_of (named (place_of_node t i) ty (local c.in-Local.x.0))) (target_in nodes c.variable_target.result) in
    alike_made t nodes c.args.e (tree_of t) (place_of_node t i) (signs_of_node t i) (type_of_node t i) (constant_of_node t i) c.expr-expr.result.now (exprs.Local c.in-Local.x) _
    c.typed-t.ensures.same c.expr-expr.ensures.made c.in-None.ensures c.in-Local.is (subst P c.type_of.ensures (c.variable_target.ensures.is nodes (place_of_node t i)))

pub returns-in-Field-clause-is : goal.returns-in-Field-clause-is
returns-in-Field-clause-is c =
    let t = c.typed-t.result.now in
    let i = c.args.e.0 in
    let nodes = c.args.b.now.nodes in
    let P : Ty → Type 0 = λ ty. AreAlike (target_of (named (place_of_node t i) ty (field c.in-Field.x.0))) (target_in nodes c.variable_target-in-Field.result) in
    alike_made t nodes c.args.e (tree_of t) (place_of_node t i) (signs_of_node t i) (type_of_node t i) (constant_of_node t i) c.expr-expr.result.now (exprs.Field c.in-Field.x) _
    c.typed-t.ensures.same c.expr-expr.ensures.made c.in-None.ensures c.in-Field.is (subst P c.type_of-in-Field.ensures (c.variable_target-in-Field.ensures.is nodes (place_of_node t i)))

pub returns-in-Arg-clause-is : goal.returns-in-Arg-clause-is
returns-in-Arg-clause-is c =
    let t = c.typed-t.result.now in
    let i = c.args.e.0 in
    let nodes = c.args.b.now.nodes in
    let P : Ty → Type 0 = λ ty. AreAlike (target_of (named (place_of_node t i) ty (arg c.in-Arg.x.0))) (target_in nodes c.variable_target-in-Arg.result) in
    alike_made t nodes c.args.e (tree_of t) (place_of_node t i) (signs_of_node t i) (type_of_node t i) (constant_of_node t i) c.expr-expr.result.now (exprs.Arg c.in-Arg.x) _
    c.typed-t.ensures.same c.expr-expr.ensures.made c.in-None.ensures c.in-Arg.is (subst P c.type_of-in-Arg.ensures (c.variable_target-in-Arg.ensures.is nodes (place_of_node t i)))

pub returns-in-Chain-clause-is : goal.returns-in-Chain-clause-is
returns-in-Chain-clause-is c =
    let t = c.typed-t.result.now in
    let i = c.args.e.0 in
    chain_alike t c.args.b.now.nodes c.args.e (tree_of t) (place_of_node t i) (signs_of_node t i) (type_of_node t i) (constant_of_node t i) c.expr-expr.result.now c.in-Chain.op c.in-Chain.parts
    c.typed-t.ensures.same c.expr-expr.ensures.made c.in-None.ensures c.in-Chain.is c.expr-expr.ensures.kinds
