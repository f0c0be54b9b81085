use Rattle.wf_exprs.proofs.Growing.{grows_on}
use Rattle.wf_lower_stmts.specs.BodyNodes.{form_in}
use Rattle.wf_lower.specs.Bodies.{bytes_locals, further_locals}
use Rattle.wf_lower.specs.Made.{resume_locals}
use Rattle.wf_lower.proofs.LocalLaws.{reads_between}
use Rattle.wf_lower.proofs.SharedLaws.{kept_names}
use Rattle.wf_lower.proofs.locals.add_further.Goals as goal

pub returns-clause-grows : goal.returns-clause-grows
returns-clause-grows c = grows_on (grows_on c.add_all_bytes.ensures.grows c.add_own.ensures.grows) c.add_resume.ensures.grows

pub returns-clause-made : goal.returns-clause-made
returns-clause-made c =
    let f = form_in c.args.b.now in
    reads_between c.args.read.now _ _ _ _ _ _ _ _ (bytes_locals f 0 f.method.args) further_locals (resume_locals f.method) c.add_resume.result c.add_all_bytes.ensures.grows
    c.in_ok-add_all_bytes.ensures.made c.in_ok-add_own.ensures.made c.add_resume.ensures.made

pub add_own-requires : goal.add_own-requires
add_own-requires c = kept_names _ c.add_all_bytes.ensures.grows c.requires

pub returns-in_err-add_own-clause-grows : goal.returns-in_err-add_own-clause-grows
returns-in_err-add_own-clause-grows c = grows_on c.add_all_bytes.ensures.grows c.add_own.ensures.grows
