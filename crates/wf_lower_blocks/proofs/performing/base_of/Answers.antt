use Rattle.std.proofs.Common.{◌≡◌, ◌&&◌, true, refl, rules}
use Rattle.wf_base.specs.declared.marks.Mark.TheVariants.{Pure}
use Rattle.wf_base.specs.BaseTable.{row_of}
use Rattle.wf_ast.specs.WellTyped.{same_mark}
use Rattle.wf_ast.specs.declared.typed_code.Expr.TheVariants as exprs
use Rattle.wf_ast.specs.TypedTree.{local, field, arg}
use Rattle.wf_ast.specs.TypedTrees.{operator_kind, type_of_node, place_of_node, signs_of_node, constant_of_node}
use Rattle.wf_ast.specs.TypedInvariant.{chain_fits, has_kind, is_expr, is_given, is_list}
use Rattle.wf_ast.proofs.Arena.{both_true}
use Rattle.wf_ast.proofs.ChainKinds.{no_slice_chain}
use Rattle.wf_exprs_nodes.proofs.KindLaws.{list_given}
use Rattle.wf_lower_blocks.proofs.WidthLaws.{base_before, base_slice, cut_bits, held_bits}
use Rattle.wf_lower_blocks.proofs.performing.base_of.Goals as goal

pub unreachable-requires-in-Chain : goal.unreachable-requires-in-Chain
unreachable-requires-in-Chain c =
    let nodes = c.args.t.now in
    let ty = type_of_node nodes c.args.e.0 in
    let f : chain_fits nodes (operator_kind c.in-Chain.op) c.in-Chain.parts ty ≡ true = search rules in
    no_slice_chain nodes ty (operator_kind c.in-Chain.op) c.in-Chain.parts (both_true (is_expr nodes c.args.e) (is_list ty) c.requires.node).1 f

pub unreachable-requires-in-Base : goal.unreachable-requires-in-Base
unreachable-requires-in-Base c =
    let nodes = c.args.t.now in
    let ty = type_of_node nodes c.args.e.0 in
    let k : (same_mark (row_of c.in-Base.sig).mark Pure && (has_kind (row_of c.in-Base.sig).on (type_of_node nodes c.in-Base.on.0) && is_given (row_of c.in-Base.sig).gives ty)) ≡ true = search rules in
    let g = (both_true (has_kind (row_of c.in-Base.sig).on (type_of_node nodes c.in-Base.on.0)) (is_given (row_of c.in-Base.sig).gives ty) (both_true (same_mark (row_of c.in-Base.sig).mark Pure) _ k).1).1 in
    list_given (row_of c.in-Base.sig).gives ty (both_true (is_expr nodes c.args.e) (is_list ty) c.requires.node).1 g

pub returns-in-Cut-clause-some : goal.returns-in-Cut-clause-some
returns-in-Cut-clause-some c =
    let t = c.args.t.now in
    let i = c.args.e.0 in
    let low = base_before i c.expr-expr.result.now c.in-Cut.base c.in-Cut.from c.in-Cut.to c.expr-expr.ensures.below c.in-Cut.is in (
      low,
      (
        base_slice t c.args.e c.in-Cut.base c.in-Cut.from c.in-Cut.to (type_of_node t i) (constant_of_node t i) c.expr-expr.result.now c.requires.node low c.in-None.ensures c.in-Cut.is c.expr-expr.ensures.kinds,
        cut_bits t c.args.e (place_of_node t i) (signs_of_node t i) (type_of_node t i) (constant_of_node t i) c.expr-expr.result.now c.expr-expr.ensures.made c.in-None.ensures c.in-Cut.base c.in-Cut.from c.in-Cut.to c.in-Cut.is,
      ),
    )

pub returns-in-Local-clause-none : goal.returns-in-Local-clause-none
returns-in-Local-clause-none c =
    let t = c.args.t.now in
    let i = c.args.e.0 in
    held_bits t c.args.e (place_of_node t i) (signs_of_node t i) (type_of_node t i) (constant_of_node t i) c.expr-expr.result.now c.expr-expr.ensures.made c.in-None.ensures
    (exprs.Local c.in-Local.field-0) (local c.in-Local.field-0.0) c.in-Local.is refl (both_true (is_expr t c.args.e) (is_list (type_of_node t i)) c.requires.node).1

pub returns-in-Field-clause-none : goal.returns-in-Field-clause-none
returns-in-Field-clause-none c =
    let t = c.args.t.now in
    let i = c.args.e.0 in
    held_bits t c.args.e (place_of_node t i) (signs_of_node t i) (type_of_node t i) (constant_of_node t i) c.expr-expr.result.now c.expr-expr.ensures.made c.in-None.ensures
    (exprs.Field c.in-Field.field-0) (field c.in-Field.field-0.0) c.in-Field.is refl (both_true (is_expr t c.args.e) (is_list (type_of_node t i)) c.requires.node).1

pub returns-in-Arg-clause-none : goal.returns-in-Arg-clause-none
returns-in-Arg-clause-none c =
    let t = c.args.t.now in
    let i = c.args.e.0 in
    held_bits t c.args.e (place_of_node t i) (signs_of_node t i) (type_of_node t i) (constant_of_node t i) c.expr-expr.result.now c.expr-expr.ensures.made c.in-None.ensures
    (exprs.Arg c.in-Arg.field-0) (arg c.in-Arg.field-0.0) c.in-Arg.is refl (both_true (is_expr t c.args.e) (is_list (type_of_node t i)) c.requires.node).1
