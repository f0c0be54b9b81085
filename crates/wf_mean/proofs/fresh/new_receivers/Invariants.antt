use Rattle.std.proofs.Common.{◌≡◌, map, take}
use Rattle.wf_ast.specs.TypedPackage.{package_of}
use Rattle.wf_bufs.specs.SurfaceViews.{receiver_of}
use Rattle.wf_meaning.specs.SourceState.{fresh_state}
use Rattle.wf_mean.specs.Machines.{ReceiversKeepAll, receivers_seen}
use Rattle.wf_mean.proofs.fresh.new_receivers.Given as goal

-- The receivers so far are as they are declared, and new.
abbrev pub invariant-loop-i : goal.invariant-loop-i
invariant-loop-i l = record {
  declared : map (λ r. r.decl) l.all.items ≡ take l.i l.declared;
  fresh : receivers_seen (package_of l.t) l.all.items ≡ fresh_state (package_of l.t) (map receiver_of (take l.i l.declared));
  kept : ReceiversKeepAll l.t l.all.items;
}
