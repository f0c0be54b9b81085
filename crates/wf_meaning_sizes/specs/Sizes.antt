-- How large a host's buffers and byte arrays are.
use Rattle.std.specs.Prelude.{ℕ, List, map, length}
use Rattle.wf_base.specs.BaseOps.{capacity}
use Rattle.wf_base.specs.HostRun.{Host}

-- The capacity of each buffer, and the length of each byte array.
abbrev pub sizes : Host → List ℕ × List ℕ
sizes h = (map capacity h.buffers, map (λ array. length array) h.arrays)
