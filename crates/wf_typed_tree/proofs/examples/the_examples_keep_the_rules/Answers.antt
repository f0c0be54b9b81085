use Rattle.std.proofs.Common.{refl}
use Rattle.wf_text.specs.Precedence.{is_before}
use Rattle.wf_ast.specs.WellTyped.{well_typed}
use Rattle.wf_named.specs.WellNamed.{well_named}
use Rattle.wf_types_rules.specs.Parts.{sites}
use Rattle.wf_types_rules.specs.FirstBreak.{deciding}
use Rattle.wf_typed_tree.specs.ElaboratedPackage.{typed_package}
use Rattle.wf_typed_tree.proofs.examples.the_examples_keep_the_rules.Goals as goal

pub returns-clause-names : goal.returns-clause-names
unfolding well_named
returns-clause-names c = refl

pub returns-clause-base_names : goal.returns-clause-base_names
unfolding well_named
returns-clause-base_names c = refl

pub returns-clause-other_names : goal.returns-clause-other_names
unfolding well_named
returns-clause-other_names c = refl

pub returns-clause-grammar : goal.returns-clause-grammar
returns-clause-grammar c = refl

pub returns-clause-base_grammar : goal.returns-clause-base_grammar
returns-clause-base_grammar c = refl

pub returns-clause-other_grammar : goal.returns-clause-other_grammar
returns-clause-other_grammar c = refl

pub returns-clause-types : goal.returns-clause-types
unfolding deciding sites is_before
returns-clause-types c = refl

pub returns-clause-base_types : goal.returns-clause-base_types
unfolding deciding sites is_before
returns-clause-base_types c = refl

pub returns-clause-other_types : goal.returns-clause-other_types
unfolding deciding sites is_before
returns-clause-other_types c = refl

pub returns-clause-trees : goal.returns-clause-trees
unfolding typed_package well_typed
returns-clause-trees c = refl

pub returns-clause-base_trees : goal.returns-clause-base_trees
unfolding typed_package well_typed
returns-clause-base_trees c = refl

pub returns-clause-other_trees : goal.returns-clause-other_trees
unfolding typed_package well_typed
returns-clause-other_trees c = refl
