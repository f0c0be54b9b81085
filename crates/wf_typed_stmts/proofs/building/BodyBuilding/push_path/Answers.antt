use Rattle.std.proofs.Common.{◌∷◌, []}
use Rattle.wf_types_rules.specs.Meanings.{variable}
use Rattle.wf_typed_tree.specs.ElaboratedExprs.{path_tree}
use Rattle.wf_typed_tree.specs.Entries.{path_entry}
use Rattle.wf_typed_stmts.proofs.EntryLemmas.{lifted_adds}
use Rattle.wf_typed_stmts.proofs.GrowthLemmas.{step_grows, step_begun, step_stands, ok_so, on_so}
use Rattle.wf_typed_stmts.proofs.building.BodyBuilding.push_path.Goals as goal

pub returns-clause-grows : goal.returns-clause-grows
returns-clause-grows c =
    let begun = rw (← c.self.view_is) at c.requires.begun in
    rw (← c.self.view_is)
    (on_so c.elaborate_path.result _ _ (λ g. step_grows c.self.inside.building c.elaborate_path.new.nodes c.self.inside.stmts.items g begun.stmts) c.elaborate_path.ensures.grows)

pub returns-clause-begun : goal.returns-clause-begun
returns-clause-begun c =
    let begun = rw (← c.self.view_is) at c.requires.begun in
    on_so c.elaborate_path.result _ _ (λ g. step_begun c.self.inside.building c.elaborate_path.new.nodes c.self.inside.stmts.items g c.args.here.now.nodes.now begun) c.elaborate_path.ensures.grows

pub returns-clause-stands : goal.returns-clause-stands
returns-clause-stands c =
    ok_so c.elaborate_path.result _ _ (λ r h. step_stands (path_tree c.args.here.now.around.now c.args.path) (variable c.args.here.now.around.now c.args.path.of) c.elaborate_path.new.nodes c.self.inside.stmts.items r.node h) c.elaborate_path.ensures.stands

pub returns-clause-entries : goal.returns-clause-entries
returns-clause-entries c =
    rw (← c.self.view_is)
    (on_so c.elaborate_path.result _ _ (λ g. lifted_adds c.self.inside.building c.elaborate_path.new.nodes c.self.inside.stmts.items (path_entry c.args.here.now.around.now c.args.path ∷ []) g) c.elaborate_path.ensures.entries)
