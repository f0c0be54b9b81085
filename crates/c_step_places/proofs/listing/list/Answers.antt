use Rattle.c_step_places.proofs.PlaceLemmas.{put_has, told_ok}
use Rattle.c_step_places.proofs.listing.list.Goals as goal

pub returns-clause-listed : goal.returns-clause-listed
returns-clause-listed c = told_ok c.put_inner.result (put_has c.args.it.now.unit.now c.args.listed.now.items c.push.new.self.items c.args.at c.in_ok-push.ensures.items c.requires.listed c.requires.at)
