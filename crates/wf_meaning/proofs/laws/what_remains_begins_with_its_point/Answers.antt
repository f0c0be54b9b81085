use Rattle.wf_meaning.proofs.Points.{begins, remains}
use Rattle.wf_meaning.proofs.laws.what_remains_begins_with_its_point.Goals as goal

pub returns-clause-first : goal.returns-clause-first
returns-clause-first c body k items e = begins body k items e

pub returns-clause-each : goal.returns-clause-each
returns-clause-each c body i site e = remains body i site e
