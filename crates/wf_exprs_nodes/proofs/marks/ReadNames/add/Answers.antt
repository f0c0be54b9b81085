use Rattle.wf_exprs_nodes.specs.Marks.{flags_of}
use Rattle.wf_exprs_nodes.proofs.MarkLaws.{marks_one}
use Rattle.wf_exprs_nodes.proofs.WalkLaws.{set_flag, up_to_set}
use Rattle.wf_exprs_nodes.proofs.marks.ReadNames.add.Goals as goal

pub invariant_of-self : goal.invariant_of-self
invariant_of-self c = up_to_set c.self.inside.walk c.args.name.0 c.self.inside.walks.items c.self.invariant

pub returns-clause-marks : goal.returns-clause-marks
returns-clause-marks c = λ names.
    rw (← c.self.view_is) (marks_one names c.args.name.0 (flags_of c.self.inside.walk c.self.inside.walks.items) _ (rw (← c.self.view_is) at c.requires) (set_flag c.self.inside.walk c.args.name.0 c.self.inside.walks.items))
