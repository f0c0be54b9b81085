use Rattle.std.proofs.Common.{[], ◌∷◌, ap}
use Rattle.wf_ast.specs.ParsedTrees.{expr_trees, fields_at}
use Rattle.wf_named.specs.NamedParts.{named_package}
use Rattle.wf_names_rules.specs.Declarations.{variables, declared_in}
use Rattle.wf_names_scopes.specs.Growing.{scope_in}
use Rattle.wf_names_resolve.specs.Package.{resolved_struct}
use Rattle.wf_names_resolve.proofs.Growth.{ok_still}
use Rattle.wf_names_nodes.specs.Declaring.{with_structs}
use Rattle.wf_names_nodes.proofs.PackageLemmas.{ok_equal_more}
use Rattle.wf_names_nodes.proofs.StandingLemmas.{standing_same}
use Rattle.wf_names_nodes.proofs.packages.next_struct.Goals as goal

pub returns-clause-added : goal.returns-clause-added
returns-clause-added c =
    let d = declared_in c.args.parsed.now in
    let fields = variables (fields_at (expr_trees c.args.parsed.now.exprs) c.args.structure.fields.now) in
    let h = c.enter_struct.ensures d c.requires.constants in
    let stands = standing_same d (scope_in d c.args.structure.name [] []) c.args.tables.now c.enter_struct.new.scope c.requires.tables h in
    ok_equal_more c.put_struct.result _ _ _ (ap (λ k. with_structs (named_package c.args.nodes.now) (resolved_struct k c.args.structure.public c.args.structure.name fields ∷ [])) stands) c.put_struct.ensures

pub returns-clause-known : goal.returns-clause-known
returns-clause-known c = ok_still c.put_struct.result _ (c.enter_struct.ensures (declared_in c.args.parsed.now) c.requires.constants).constants
