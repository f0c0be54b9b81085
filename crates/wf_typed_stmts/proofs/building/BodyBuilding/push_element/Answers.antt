use Rattle.wf_named.specs.NamedParts.{exprs_of}
use Rattle.wf_named.specs.NamedTree.{index}
use Rattle.wf_named.specs.NamedTrees.{expr_at}
use Rattle.wf_types_rules.specs.ExprTypes.{meaning}
use Rattle.wf_typed_tree.specs.ElaboratedExprs.{expr_tree}
use Rattle.wf_typed_tree.specs.Entries.{expr_entries}
use Rattle.wf_typed_stmts.proofs.EntryLemmas.{lifted_adds}
use Rattle.wf_typed_stmts.proofs.GrowthLemmas.{step_grows, step_begun, step_stands, ok_so, on_so}
use Rattle.wf_typed_stmts.proofs.building.BodyBuilding.push_element.Goals as goal

pub returns-clause-grows : goal.returns-clause-grows
returns-clause-grows c =
    let begun = rw (← c.self.view_is) at c.requires.begun in
    rw (← c.self.view_is)
    (on_so c.elaborate_element.result _ _ (λ g. step_grows c.self.inside.building c.elaborate_element.new.nodes c.self.inside.stmts.items g begun.stmts) c.elaborate_element.ensures.grows)

pub returns-clause-begun : goal.returns-clause-begun
returns-clause-begun c =
    let begun = rw (← c.self.view_is) at c.requires.begun in
    on_so c.elaborate_element.result _ _ (λ g. step_begun c.self.inside.building c.elaborate_element.new.nodes c.self.inside.stmts.items g c.args.here.now.nodes.now begun) c.elaborate_element.ensures.grows

pub returns-clause-stands : goal.returns-clause-stands
returns-clause-stands c =
    ok_so c.elaborate_element.result _ _ (λ r h. step_stands (expr_tree c.args.here.now.around.now (index c.args.base (expr_at (exprs_of c.args.here.now.nodes.now) c.args.index) c.args.at)) (meaning c.args.here.now.around.now (index c.args.base (expr_at (exprs_of c.args.here.now.nodes.now) c.args.index) c.args.at)) c.elaborate_element.new.nodes c.self.inside.stmts.items r.node h) c.elaborate_element.ensures.stands

pub returns-clause-entries : goal.returns-clause-entries
returns-clause-entries c =
    rw (← c.self.view_is)
    (on_so c.elaborate_element.result _ _ (λ g. lifted_adds c.self.inside.building c.elaborate_element.new.nodes c.self.inside.stmts.items (expr_entries c.args.here.now.around.now (index c.args.base (expr_at (exprs_of c.args.here.now.nodes.now) c.args.index) c.args.at)) g) c.elaborate_element.ensures.entries)
