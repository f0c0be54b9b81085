use Rattle.std.proofs.Common.{◌≡◌, subst}
use Rattle.wf_text.specs.Precedence.{Decides}
use Rattle.wf_ast.specs.ParsedTrees.{decl_trees}
use Rattle.wf_named.specs.NamedParts.{named_package}
use Rattle.wf_names_rules.specs.NameRules.{Breaks}
use Rattle.wf_names_scopes.proofs.UseLemmas.{if_ok}
use Rattle.wf_names_resolve.specs.Package.{resolved_package}
use Rattle.wf_names.specs.Naming.{IsResolved}
use Rattle.wf_names.proofs.NamingLemmas.{tree-resolved}
use Rattle.wf_names.proofs.resolving.resolved_nodes.Goals as goal
use Rattle.wf_names_rules.specs.Declarations.{declared_in}

pub returns : goal.returns
returns c =
    let p = c.args.parsed.now in
    let order = c.args.found.order.items in
    let struct_order = c.args.found.struct_order.items in
    if_ok (λ nodes. named_package nodes ≡ resolved_package p.name p.texts (decl_trees p.exprs p.stmts p.decls) order struct_order) (IsResolved p) c.resolve_package.result
    (λ nodes made. tree-resolved p nodes order struct_order (subst (Decides (Breaks (declared_in p))) c.requires.kept c.requires.found.decides) c.requires.found.order c.requires.found.struct_order made)
    c.resolve_package.ensures
