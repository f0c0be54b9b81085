use Rattle.std.proofs.Common.{ap, sym, ◌∙◌}
use Rattle.wf_text.specs.declared.categories.Category.TheVariants.{Suspension}
use Rattle.wf_ast.specs.Value.{same_category}
use Rattle.wf_lower_blocks.proofs.ReturnLaws.{suspension_is}
use Rattle.wf_lower_blocks.proofs.returning.is_suspension.Goals as goal

pub returns-in-Suspension : goal.returns-in-Suspension
returns-in-Suspension c = ap (same_category Suspension) (sym c.in-Suspension.is) ∙ suspension_is _ c.args.b.now.nodes c.args.n.0 _ _ c.typed.ensures.same c.status_text.ensures c.category.ensures

pub returns-in-Fine : goal.returns-in-Fine
returns-in-Fine c = ap (same_category Suspension) (sym c.in-Fine.is) ∙ suspension_is _ c.args.b.now.nodes c.args.n.0 _ _ c.typed.ensures.same c.status_text.ensures c.category.ensures

pub returns-in-Note : goal.returns-in-Note
returns-in-Note c = ap (same_category Suspension) (sym c.in-Note.is) ∙ suspension_is _ c.args.b.now.nodes c.args.n.0 _ _ c.typed.ensures.same c.status_text.ensures c.category.ensures

pub returns-in-Fault : goal.returns-in-Fault
returns-in-Fault c = ap (same_category Suspension) (sym c.in-Fault.is) ∙ suspension_is _ c.args.b.now.nodes c.args.n.0 _ _ c.typed.ensures.same c.status_text.ensures c.category.ensures
