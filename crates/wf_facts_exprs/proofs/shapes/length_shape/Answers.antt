use Rattle.std.proofs.Common.{sym, ◌∙◌, refl, subst, ◌≡◌, true}
use Rattle.wf_ast.specs.declared.types.Ty.{Ty}
use Rattle.wf_ast.specs.TypedTrees.{tree_of, type_of_node, io_in, no_place}
use Rattle.wf_ast.specs.TypedTree.{asked, reader_length, writer_length}
use Rattle.wf_ast.specs.TypedInvariant.{is_list, is_tree_of}
use Rattle.wf_facts_exprs.specs.Claims.{length_in}
use Rattle.wf_facts_exprs.specs.Shapes.{Alike}
use Rattle.wf_facts_exprs.proofs.ShapeLemmas.{kind_seen, length_in-alike, unread_in-alike, room_in-alike}
use Rattle.wf_facts_exprs.proofs.shapes.length_shape.Goals as goal

pub returns-in-Slice-clause-alike : goal.returns-in-Slice-clause-alike
returns-in-Slice-clause-alike c =
    let P : Ty → Type 0 = λ ty. is_list ty ≡ true in
    length_in-alike c.args.t.now c.args.e (type_of_node c.args.t.now c.args.e.0) (tree_of c.args.t.now c.args.e) (subst P (sym c.in-Slice.is ∙ c.type_of.ensures) refl)
    (kind_seen c.args.t.now c.args.e c.expr-expr.result.now (record { tree = c.expr-expr.ensures.made; kinds = c.expr-expr.ensures.kinds; parts = c.expr-expr.ensures.parts }))

pub returns-in-Array-clause-alike : goal.returns-in-Array-clause-alike
returns-in-Array-clause-alike c =
    let P : Ty → Type 0 = λ ty. is_list ty ≡ true in
    length_in-alike c.args.t.now c.args.e (type_of_node c.args.t.now c.args.e.0) (tree_of c.args.t.now c.args.e) (subst P (sym c.in-Array.is ∙ c.type_of.ensures) refl)
    (kind_seen c.args.t.now c.args.e c.expr-expr.result.now (record { tree = c.expr-expr.ensures.made; kinds = c.expr-expr.ensures.kinds; parts = c.expr-expr.ensures.parts }))

pub returns-in-Reader-clause-alike : goal.returns-in-Reader-clause-alike
returns-in-Reader-clause-alike c =
    let e = sym c.in-Reader.is ∙ c.type_of.ensures in
    let P : Ty → Type 0 = λ ty. Alike (asked no_place reader_length (io_in (tree_of c.args.t.now c.args.e))) (length_in c.args.t.now c.args.e ty (tree_of c.args.t.now c.args.e)) in
    let Q : Ty → Type 0 = λ ty. is_tree_of ty (tree_of c.args.t.now c.args.e) ≡ true in
    subst P e (unread_in-alike c.args.t.now c.args.e (tree_of c.args.t.now c.args.e) (subst Q (sym e)
    (kind_seen c.args.t.now c.args.e c.expr-expr.result.now (record { tree = c.expr-expr.ensures.made; kinds = c.expr-expr.ensures.kinds; parts = c.expr-expr.ensures.parts }))))

pub returns-in-Writer-clause-alike : goal.returns-in-Writer-clause-alike
returns-in-Writer-clause-alike c =
    let e = sym c.in-Writer.is ∙ c.type_of.ensures in
    let P : Ty → Type 0 = λ ty. Alike (asked no_place writer_length (io_in (tree_of c.args.t.now c.args.e))) (length_in c.args.t.now c.args.e ty (tree_of c.args.t.now c.args.e)) in
    let Q : Ty → Type 0 = λ ty. is_tree_of ty (tree_of c.args.t.now c.args.e) ≡ true in
    subst P e (room_in-alike c.args.t.now c.args.e (tree_of c.args.t.now c.args.e) (subst Q (sym e)
    (kind_seen c.args.t.now c.args.e c.expr-expr.result.now (record { tree = c.expr-expr.ensures.made; kinds = c.expr-expr.ensures.kinds; parts = c.expr-expr.ensures.parts }))))
