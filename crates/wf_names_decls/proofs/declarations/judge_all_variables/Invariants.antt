use Rattle.std.proofs.Common.{◌≡◌, fold, drop}
use Rattle.wf_ast.specs.ParsedTrees.{expr_trees, stmt_trees, decls_made}
use Rattle.wf_names_rules.specs.Declarations.{methods_of}
use Rattle.wf_names_decls.specs.ConstantNames.{constant_by}
use Rattle.wf_names_decls.specs.DeclarationPass.{method_judged}
use Rattle.wf_names_decls.proofs.declarations.judge_all_variables.Given as goal

abbrev pub invariant-loop-number : goal.invariant-loop-number
invariant-loop-number l =
    fold (method_judged (constant_by l.constants.names.now l.constants.places.now) l.parsed.texts) l.found (methods_of (decls_made (expr_trees l.parsed.exprs) (stmt_trees l.parsed.exprs l.parsed.stmts) (drop l.number l.parsed.decls)))
    ≡ fold (method_judged (constant_by l.constants.names.now l.constants.places.now) l.parsed.texts) l.fn.found (methods_of (decls_made (expr_trees l.parsed.exprs) (stmt_trees l.parsed.exprs l.parsed.stmts) l.parsed.decls))
