use Rattle.std.proofs.Common.{◌≡◌, ◌∙◌, true, ap, None, sym, subst}
use Rattle.wf_text.specs.Precedence.{Decides}
use Rattle.wf_ast.specs.StatementOrder.{stand_in_order}
use Rattle.wf_named.specs.NamedParts.{NamedParts, named_package}
use Rattle.wf_types_rules.specs.TypeRules.{Breaks}
use Rattle.wf_typed_tree.specs.ElaboratedPackage.{typed_package}
use Rattle.wf_typed_tree.specs.Entries.{package_entries}
use Rattle.wf_typed_tree.proofs.TypedOrder.{packages_keep_order}
use Rattle.wf_types.specs.DeclaredNodes.{declared_nodes}
use Rattle.wf_types.proofs.typing.type_check.Goals as goal

pub typed-requires-clause-placed : goal.typed-requires-clause-placed
typed-requires-clause-placed c =
    let P : NamedParts → Type 0 = λ n. stand_in_order (typed_package (named_package n)) ≡ true in
    subst P (sym c.into_nodes-nodes.ensures.same) (packages_keep_order (named_package c.args.named) c.into_nodes-nodes.ensures.rules.rises)

pub returns-in_ok-typed-in-None-clause-typed : goal.returns-in_ok-typed-in-None-clause-typed
returns-in_ok-typed-in-None-clause-typed c =
    let same = c.into_nodes-nodes.ensures.same in
    let made = c.in_ok-typed-in-None.ensures in
    let Kept : NamedParts → Type 0 = λ n. Decides (Breaks (named_package n)) None in
    record {
      kept = subst Kept same (rw c.in-None.is at c.in_ok-judged.ensures.decides);
      tree = made.tree ∙ ap (λ n. typed_package (named_package n)) same;
      declared = made.declared ∙ ap declared_nodes same;
      entries = made.entries ∙ ap (λ n. package_entries (named_package n)) same;
    }
