use Rattle.std.proofs.Common.{Some, None, sym, subst}
use Rattle.wf_bufs.specs.HostViews.{call_of}
use Rattle.c_step_tables.proofs.TableLaws.{struct_alike, method_alike}
use Rattle.c_step.specs.Machines.{loaded_of, HasEntry}
use Rattle.c_step.proofs.KnownLaws.{entry_found, no_entry}
use Rattle.c_step.proofs.known.Known.entry.Goals as goal

pub returns-in_err-it : goal.returns-in_err-it
returns-in_err-it c =
    let k = c.args.self.now in
    subst (HasEntry k (call_of c.args.what.now)) (sym c.from_residual.ensures)
    (no_entry k (call_of c.args.what.now) c.receiver.result c.receiver.ensures (struct_alike (loaded_of k).program k.surface.value k.structs.items c.receiver.result.of.0 None c.requires.known.structs c.in_err-it.ensures))

pub returns : goal.returns
returns c =
    let k = c.args.self.now in
    let p = (loaded_of k).program in
    entry_found k (call_of c.args.what.now) c.receiver.result c.receiver.ensures c.in_ok-it.it.now c.method.result
    (struct_alike p k.surface.value k.structs.items c.receiver.result.of.0 (Some c.in_ok-it.it.now) c.requires.known.structs c.in_ok-it.ensures)
    (λ of is. method_alike p k.surface.value of c.in_ok-it.it.now.methods.items c.args.what.now.method.0 c.method.result is.methods c.method.ensures)
