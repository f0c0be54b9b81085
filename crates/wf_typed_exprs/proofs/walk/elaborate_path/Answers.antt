use Rattle.wf_types_rules.specs.Meanings.{variable}
use Rattle.wf_typed_tree.specs.ElaboratedExprs.{path_tree}
use Rattle.wf_typed_exprs.specs.Nodes.{Makes}
use Rattle.wf_typed_exprs.proofs.FormLaws.{path-makes}
use Rattle.wf_typed_exprs.proofs.GrowthLemmas.{makes_stands}
use Rattle.wf_typed_exprs.proofs.walk.elaborate_path.Goals as goal

pub put-requires-clause-fits : goal.put-requires-clause-fits
put-requires-clause-fits c = rw c.path_node.ensures (path-makes c.args.here.now.around.now c.args.nodes.now c.args.path c.requires).fits

pub returns-clause-stands : goal.returns-clause-stands
returns-clause-stands c =
    let s = c.args.here.now.around.now in
    let p = c.args.path in
    let made : Makes p.at (path_tree s p) (variable s p.of) c.args.nodes.now c.path_node.result = rw c.path_node.ensures (path-makes s c.args.nodes.now p c.requires) in
    makes_stands p.at (path_tree s p) (variable s p.of) c.args.nodes.now c.put.new.nodes c.path_node.result c.in_ok-made.made.node made c.in_ok-made.ensures.stands

pub returns-clause-entries : goal.returns-clause-entries
returns-clause-entries c = rw c.path_node.ensures at c.in_ok-made.ensures.entries
