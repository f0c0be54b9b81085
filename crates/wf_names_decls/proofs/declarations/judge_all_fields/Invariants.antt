use Rattle.std.proofs.Common.{◌≡◌, fold, drop}
use Rattle.wf_ast.specs.ParsedTrees.{expr_trees, stmt_trees, decls_made}
use Rattle.wf_names_rules.specs.Declarations.{structs_of}
use Rattle.wf_names_decls.specs.DeclarationPass.{struct_judged}
use Rattle.wf_names_decls.proofs.declarations.judge_all_fields.Given as goal

abbrev pub invariant-loop-number : goal.invariant-loop-number
invariant-loop-number l =
    fold (struct_judged l.parsed.texts) l.found (structs_of (decls_made (expr_trees l.parsed.exprs) (stmt_trees l.parsed.exprs l.parsed.stmts) (drop l.number l.parsed.decls)))
    ≡ fold (struct_judged l.parsed.texts) l.fn.found (structs_of (decls_made (expr_trees l.parsed.exprs) (stmt_trees l.parsed.exprs l.parsed.stmts) l.parsed.decls))
