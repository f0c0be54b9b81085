use Rattle.wf_lower.specs.Locals.{answer_locals, started_locals}
use Rattle.wf_lower.proofs.LocalLaws.{reads_then}
use Rattle.wf_lower.proofs.SharedLaws.{kept_names}
use Rattle.wf_exprs.proofs.Growing.{grows_on}
use Rattle.wf_lower.proofs.locals.add_own.Goals as goal

pub returns-clause-made : goal.returns-clause-made
returns-clause-made c = reads_then c.args.read.now _ _ _ _ _ _ answer_locals started_locals c.add_started.result c.add_answers.ensures.grows c.in_ok-add_answers.ensures.made c.add_started.ensures.made

pub add_started-requires : goal.add_started-requires
add_started-requires c = kept_names _ c.add_answers.ensures.grows c.requires

pub returns-clause-grows : goal.returns-clause-grows
returns-clause-grows c = grows_on c.add_answers.ensures.grows c.add_started.ensures.grows
