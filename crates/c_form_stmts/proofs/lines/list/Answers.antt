use Rattle.c_form_stmts.proofs.LineLemmas.{put_has, told_ok}
use Rattle.c_form_stmts.proofs.lines.list.Goals as goal

pub returns-in_ok-put-in-Some-clause-listed : goal.returns-in_ok-put-in-Some-clause-listed
returns-in_ok-put-in-Some-clause-listed c = told_ok c.put_inner.result (put_has c.args.unit.now c.args.listed.now.items c.push.new.self.items c.args.at c.in_ok-push-in-Some.ensures.items c.requires.listed c.requires.at)
