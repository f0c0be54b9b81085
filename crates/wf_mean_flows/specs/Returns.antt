-- How statements by themselves end.
use Rattle.std.specs.Prelude.{Bool, None, if◌then◌else◌}
use Rattle.wf_mean_flows.specs.declared.flows.Flow.{Flow}
use Rattle.wf_mean_flows.specs.declared.flows.Flow.TheVariants.{Falls, Returns, Stuck}

abbrev pub falls_if : (went : Bool) → Flow
falls_if went = if went then Falls else Stuck

-- A coroutine doesn't return without a value.
abbrev pub returns_unless : (coroutine : Bool) → Flow
returns_unless coroutine = if coroutine then Stuck else Returns None
