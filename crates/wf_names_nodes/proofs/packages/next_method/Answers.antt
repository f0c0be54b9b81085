use Rattle.std.proofs.Common.{◌∙◌, [], ◌∷◌, length, slice_get, ap}
use Rattle.wf_ast.specs.ParsedTrees.{expr_trees, stmt_trees, fields_at, block_at}
use Rattle.wf_named.specs.NamedParts.{named_package}
use Rattle.wf_names_rules.specs.Declarations.{variables, locals_of, declared_in}
use Rattle.wf_names_scopes.specs.Growing.{scope_in}
use Rattle.wf_names_scopes.proofs.NextLemmas.{next-at}
use Rattle.wf_names_resolve.specs.Package.{resolved_method}
use Rattle.wf_names_resolve.proofs.Growth.{ok_still}
use Rattle.wf_names_nodes.specs.Declaring.{method_parsed, with_methods}
use Rattle.wf_names_nodes.proofs.PackageLemmas.{ok_equal_more}
use Rattle.wf_names_nodes.proofs.StandingLemmas.{standing_same}
use Rattle.wf_names_nodes.proofs.packages.next_method.Goals as goal

pub returns-clause-added : goal.returns-clause-added
returns-clause-added c =
    let d = declared_in c.args.parsed.now in
    let es = expr_trees c.args.parsed.now.exprs in
    let ts = stmt_trees c.args.parsed.now.exprs c.args.parsed.now.stmts in
    let args = variables (fields_at es c.args.method.args.now) in
    let locals = locals_of (block_at ts c.args.method.body.now) in
    let m = method_parsed es ts c.args.method.public c.args.method.owner c.args.method.name c.args.method.args.now c.args.method.gives.now c.args.method.body.now in
    let at = ap (λ ms. slice_get d.methods (length ms)) c.methods.ensures.all ∙ next-at d (length c.args.nodes.now.methods) m c.requires.next in
    let stands = standing_same d (scope_in d c.args.method.owner args locals) c.args.tables.now c.enter_method.new.scope c.requires.tables (c.enter_method.ensures d m c.requires.constants at) in
    ok_equal_more c.put_method.result _ _ _ (ap (λ k. with_methods (named_package c.args.nodes.now) (resolved_method k c.args.method.mark m ∷ [])) stands) c.put_method.ensures

pub returns-clause-known : goal.returns-clause-known
returns-clause-known c =
    let d = declared_in c.args.parsed.now in
    let es = expr_trees c.args.parsed.now.exprs in
    let ts = stmt_trees c.args.parsed.now.exprs c.args.parsed.now.stmts in
    let m = method_parsed es ts c.args.method.public c.args.method.owner c.args.method.name c.args.method.args.now c.args.method.gives.now c.args.method.body.now in
    let at = ap (λ ms. slice_get d.methods (length ms)) c.methods.ensures.all ∙ next-at d (length c.args.nodes.now.methods) m c.requires.next in
    ok_still c.put_method.result _ (c.enter_method.ensures d m c.requires.constants at).constants
