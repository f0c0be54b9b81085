use Rattle.wf_ast.specs.ParsedTrees.{expr_trees, stmt_trees}
use Rattle.wf_names_scopes.proofs.UseLemmas.{constants_begun, constants_next}
use Rattle.wf_names_scopes.proofs.uses.constants.Goals as goal
use Rattle.wf_names_rules.specs.Declarations.{declared_in}

pub loop-number-init : goal.loop-number-init
loop-number-init c = constants_begun c.args.whole.now.parsed.now c.args.seen.now.found c.args.scope.now c.requires.outside

pub loop-number-preserved : goal.loop-number-preserved
loop-number-preserved c =
    constants_next (expr_trees c.args.whole.now.parsed.now.exprs) (stmt_trees c.args.whole.now.parsed.now.exprs c.args.whole.now.parsed.now.stmts) c.args.whole.now.parsed.now.decls c.loop-number.number c.decl.result.now c.decl.ensures.node
    (declared_in c.args.whole.now.parsed.now) c.args.seen.now.found c.loop-number.seen.found _ c.loop-number.scope c.constant_decl.new.scope c.loop-number.invariant c.in_ok-constant_decl.ensures.found c.in_ok-constant_decl.ensures.constants
