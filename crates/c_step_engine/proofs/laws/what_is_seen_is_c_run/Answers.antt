use Rattle.c_step_engine.proofs.SeenRuns.{engine_seen}
use Rattle.c_step_engine.proofs.laws.what_is_seen_is_c_run.Goals as goal

pub returns : goal.returns
returns c = λ items surface receivers actions ok. engine_seen items surface receivers actions ok
