use Rattle.std.proofs.Common.{◌∙◌, ◌||◌, ap, sym}
use Rattle.wf_lower_stmts.specs.BodyNodes.{stands_among, stands_at}
use Rattle.wf_lower.specs.Called.{calls}
use Rattle.wf_lower.specs.Flags.{is_set}
use Rattle.wf_lower.proofs.CallLaws.{body_called}
use Rattle.wf_lower.proofs.called.mark_body.Goals as goal

pub returns-clause-marks : goal.returns-clause-marks
returns-clause-marks c =
    let nodes = c.args.t.now in
    let before = c.args.called.now.items in
    λ n.
    c.mark_among.ensures.marks n ∙ ap (λ items. is_set before n || stands_among (stands_at nodes (calls n)) items) c.as_slice.ensures
    ∙ ap (λ b. is_set before n || b) (sym (body_called nodes c.requires.typed c.args.body.now c.requires.known n))
