-- What a host sees of its own buffers and byte arrays.
use Rattle.std.specs.Prelude.{map}
use Rattle.wf_base.specs.BaseOps.{seen_buffer}
use Rattle.wf_base.specs.HostRun.{Host}
use Rattle.wf_script_rules.specs.Report.{Sight}

abbrev pub sight_of : Host → Sight
sight_of host = record { buffers = map seen_buffer host.buffers; arrays = host.arrays }
