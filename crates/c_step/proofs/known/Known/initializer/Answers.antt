use Rattle.std.proofs.Common.{Some, None}
use Rattle.c_step_tables.proofs.TableLaws.{struct_alike}
use Rattle.c_step.specs.Machines.{loaded_of}
use Rattle.c_step.proofs.KnownLaws.{initializer_found, is_declared}
use Rattle.c_step.proofs.known.Known.initializer.Goals as goal

pub returns-in_err-it : goal.returns-in_err-it
returns-in_err-it c =
    let k = c.args.self.now in
    absurd (is_declared k c.args.receiver c.receiver.result c.receiver.ensures c.requires.known (struct_alike (loaded_of k).program k.surface.value k.structs.items c.receiver.result.of.0 None c.requires.known.structs c.in_err-it.ensures))

pub returns : goal.returns
returns c =
    let k = c.args.self.now in
    initializer_found k c.args.receiver c.receiver.result c.receiver.ensures c.in_ok-it.it.now (struct_alike (loaded_of k).program k.surface.value k.structs.items c.receiver.result.of.0 (Some c.in_ok-it.it.now) c.requires.known.structs c.in_ok-it.ensures)
