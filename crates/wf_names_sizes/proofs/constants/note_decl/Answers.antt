use Rattle.std.proofs.Common.{◌≡◌, Some, ◌∷◌, [], ◌∙◌, sym, subst}
use Rattle.wf_ast.specs.declared.parsed.DeclNode.{DeclNode}
use Rattle.wf_ast.specs.ParsedTrees.{expr_trees, stmt_trees, expr_at, type_at, decl_made}
use Rattle.wf_names_rules.specs.Declarations.{Constant, constants_of, declared_in}
use Rattle.wf_names_rules.specs.ConstantValues.{Valued, constant_value, known_from}
use Rattle.wf_names_sizes.specs.ValuesBy.{Knows}
use Rattle.wf_names_sizes.proofs.ValueLemmas.{knows_more, on_ok}
use Rattle.wf_names_sizes.proofs.constants.note_decl.Goals as goal

pub returns-in-Const : goal.returns-in-Const
returns-in-Const c =
    let d = declared_in c.args.parsed.now in
    let es = expr_trees c.args.parsed.now.exprs in
    let ts = stmt_trees c.args.parsed.now.exprs c.args.parsed.now.stmts in
    let number = c.noted_value-value.result in
    on_ok c.note.result
    (
    λ grows known node h k.
    let same : c.decl-node.result.now ≡ node = (let both : Some c.decl-node.result.now ≡ Some node = sym c.decl-node.ensures.node ∙ h in cc both) in
    let P : DeclNode → Type 0 = λ n. Knows c.note.new.constants (known_from d known (constants_of (decl_made es ts n.public n.decl n.at ∷ []))) in
    let constant : Constant = record { name = c.in-Const.name; of = type_at es c.in-Const.of; value = expr_at es c.in-Const.value } in
    let k1 : Valued = record { name = c.in-Const.name; value = constant_value d known constant } in
    subst P same
    (
    rw c.in-Const.is
    (knows_more c.args.constants.now c.note.new.constants known k1 number grows (c.noted_value-value.ensures known c.in-Const.name k) k)
    )
    )
    c.note.ensures
