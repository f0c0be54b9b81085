use Rattle.std.proofs.Common.{◌≡◌, ◌++◌, map, drop}
use Rattle.wf_text.specs.Surface.{Surface}
use Rattle.wf_bufs.specs.SurfaceViews.{receiver_of}
use Rattle.c_meaning.specs.CCall.{Program}
use Rattle.c_meaning.specs.CRun.{make_receivers}
use Rattle.c_step_objects.specs.Types.{IsTypes}
use Rattle.c_step_objects.proofs.receivers.add_receivers.Given as goal

abbrev pub invariant-loop-receiver : goal.invariant-loop-receiver
invariant-loop-receiver l = record {
  pointers : (p : Program) (surface : Surface) → IsTypes l.types p surface → l.pointers.items ++ (make_receivers p surface (map receiver_of (drop l.receiver-index l.receivers)) l.all.items).pointers ≡ (make_receivers p surface (map receiver_of l.receivers) l.fn.all.items).pointers;
  objects : (p : Program) (surface : Surface) → IsTypes l.types p surface → (make_receivers p surface (map receiver_of (drop l.receiver-index l.receivers)) l.all.items).memory ≡ (make_receivers p surface (map receiver_of l.receivers) l.fn.all.items).memory;
}
