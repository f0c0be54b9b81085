use Rattle.std.proofs.Common.{subst}
use Rattle.c_step_hosts.specs.Spares.{AreIos}
use Rattle.c_step_hosts.proofs.Spared.{last_io}
use Rattle.c_step_hosts.proofs.ios.enter_io.Goals as goal

pub unset-object-requires : goal.unset-object-requires
unset-object-requires c = (last_io c.take_spare.new.spares.items c.take_spare.result (subst AreIos c.take_spare.ensures.spares c.requires.spare)).0

pub returns-clause-spare : goal.returns-clause-spare
returns-clause-spare c = (last_io c.take_spare.new.spares.items c.take_spare.result (subst AreIos c.take_spare.ensures.spares c.requires.spare)).1
