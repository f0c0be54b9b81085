use Rattle.std.proofs.Common.{◌≡◌, ◌-◌, drop, length, flat_map}
use Rattle.wf_ast.specs.ParsedTrees.{expr_trees, stmt_trees, decls_made}
use Rattle.wf_names_rules.specs.Declarations.{structs_of, declared_in}
use Rattle.wf_names_rules.specs.Uses.{struct_sites}
use Rattle.wf_names_scopes.specs.Agreeing.{TellsConstants}
use Rattle.wf_names_scopes.specs.UsesFound.{sites_judged}
use Rattle.wf_names_scopes.proofs.uses.structs.Given as goal

abbrev pub invariant-loop-number : goal.invariant-loop-number
invariant-loop-number l =
    TellsConstants (declared_in l.whole.parsed.now) l.scope
    × (sites_judged (declared_in l.whole.parsed.now) l.seen.found (flat_map (struct_sites (declared_in l.whole.parsed.now)) (structs_of (decls_made (expr_trees l.whole.parsed.now.exprs) (stmt_trees l.whole.parsed.now.exprs l.whole.parsed.now.stmts) (drop l.number l.whole.parsed.now.decls))))
    ≡ sites_judged (declared_in l.whole.parsed.now) l.fn.seen.found (flat_map (struct_sites (declared_in l.whole.parsed.now)) (declared_in l.whole.parsed.now).structs))

abbrev pub decreases-loop-number : goal.decreases-loop-number
decreases-loop-number l = length l.whole.parsed.now.decls - l.number
