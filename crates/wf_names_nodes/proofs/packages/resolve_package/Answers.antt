use Rattle.std.proofs.Common.{◌∙◌, length, ap}
use Rattle.wf_named.specs.NamedTree.{NamedPackageTree}
use Rattle.wf_named.specs.NamedParts.{named_package}
use Rattle.wf_names_nodes.proofs.PackageLemmas.{package_made}
use Rattle.wf_names_nodes.proofs.packages.resolve_package.Goals as goal

pub all_decls-requires-clause-none : goal.all_decls-requires-clause-none
all_decls-requires-clause-none c = ap (λ p. length p.methods) c.in_ok-nodes.ensures

pub returns : goal.returns
returns c =
    let ordered : NamedPackageTree → NamedPackageTree = λ p. record p { struct_order = c.args.struct_order.items } in
    package_made c.args.parsed.now c.in_ok-nodes.nodes c.name.result.now c.args.order.items c.args.struct_order.items (named_package c.all_decls.new.nodes) (named_package c.set_struct_order.new.self) c.name.ensures
    c.in_ok-nodes.ensures c.in_ok-all_decls.ensures (c.set_struct_order.ensures.«package» ∙ ap ordered c.set_order.ensures.«package»)
