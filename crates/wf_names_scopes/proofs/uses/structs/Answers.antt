use Rattle.std.proofs.Common.{◌∙◌}
use Rattle.wf_ast.specs.ParsedTrees.{expr_trees, stmt_trees}
use Rattle.wf_names_scopes.proofs.UseLemmas.{structs_begun, structs_next}
use Rattle.wf_names_scopes.proofs.uses.structs.Goals as goal
use Rattle.wf_names_rules.specs.Declarations.{declared_in}

pub loop-number-init : goal.loop-number-init
loop-number-init c = (c.requires.constants, structs_begun c.args.whole.now.parsed.now c.args.seen.now.found)

pub loop-number-preserved : goal.loop-number-preserved
loop-number-preserved c =
    let step = structs_next (expr_trees c.args.whole.now.parsed.now.exprs) (stmt_trees c.args.whole.now.parsed.now.exprs c.args.whole.now.parsed.now.stmts) c.args.whole.now.parsed.now.decls c.loop-number.number c.decl.result.now c.decl.ensures.node
    (declared_in c.args.whole.now.parsed.now) c.loop-number.seen.found _ c.in_ok-struct_decl.ensures.found in
    (c.in_ok-struct_decl.ensures.constants, step ∙ c.loop-number.invariant.1)
