-- What a host's buffers and byte arrays are in the words of host actions.
use Rattle.wf_base.specs.HostRun.{Host}
use Rattle.wf_bufs.specs.declared.bufs.Bufs.{Bufs}

abbrev pub host_of : Bufs → Host
host_of bufs = record { buffers = bufs.bufs; arrays = bufs.arrays }
