use Rattle.std.proofs.Common.{◌≡◌, ◌∙◌, ap, sym, subst, true}
use Rattle.wf_ast.specs.declared.typed_nodes.TypedNodes.{TypedNodes}
use Rattle.wf_ast.specs.TypedPackage.{package_of}
use Rattle.wf_ast.specs.TypedInvariant.{IsTyped}
use Rattle.wf_named.specs.NamedParts.{named_package}
use Rattle.wf_typed_tree.specs.Entries.{entries, package_entries}
use Rattle.wf_typed_stmts.proofs.RightLaws.{body_is_right}
use Rattle.wf_types.specs.Bodies.{has_numbers, without_bodies}
use Rattle.wf_types.proofs.LocalLemmas.{locals_are_right}
use Rattle.wf_types.proofs.PackageLaws.{package_same}
use Rattle.wf_types.proofs.TypedLaws.{nodes_typed}
use Rattle.wf_types.proofs.typing.typed.Goals as goal

pub whole_nodes-requires-clause-right : goal.whole_nodes-requires-clause-right
whole_nodes-requires-clause-right c = body_is_right (named_package c.args.named) c.requires.kept c.requires.names c.requires.grammar

pub whole_nodes-requires-clause-paths : goal.whole_nodes-requires-clause-paths
whole_nodes-requires-clause-paths c = locals_are_right (named_package c.args.named) c.requires.kept c.requires.names

pub new-requires : goal.new-requires
new-requires c =
    let numbered : has_numbers c.in_ok-nodes.nodes ≡ true = sym c.has_numbers.ensures ∙ c.if-has_numbers.true in
    nodes_typed c.args.named c.in_ok-nodes.nodes c.in_ok-nodes.ensures.whole c.requires.kept c.requires.names c.requires.grammar c.requires.placed numbered

pub returns-then-has_numbers-clause-tree : goal.returns-then-has_numbers-clause-tree
returns-then-has_numbers-clause-tree c = ap package_of c.new.ensures ∙ package_same c.args.named c.in_ok-nodes.nodes c.in_ok-nodes.ensures.whole.declared c.in_ok-nodes.ensures.whole.bodies

pub returns-then-has_numbers-clause-declared : goal.returns-then-has_numbers-clause-declared
returns-then-has_numbers-clause-declared c = ap without_bodies c.new.ensures ∙ c.in_ok-nodes.ensures.whole.declared

pub returns-then-has_numbers-clause-entries : goal.returns-then-has_numbers-clause-entries
unfolding package_entries
returns-then-has_numbers-clause-entries c = ap entries c.new.ensures ∙ c.in_ok-nodes.ensures.whole.entries

pub returns-then-has_numbers-clause-kept : goal.returns-then-has_numbers-clause-kept
returns-then-has_numbers-clause-kept c =
    let numbered : has_numbers c.in_ok-nodes.nodes ≡ true = sym c.has_numbers.ensures ∙ c.if-has_numbers.true in
    let P : TypedNodes → Type 0 = λ x. IsTyped x in
    subst P (sym c.new.ensures) (nodes_typed c.args.named c.in_ok-nodes.nodes c.in_ok-nodes.ensures.whole c.requires.kept c.requires.names c.requires.grammar c.requires.placed numbered)
