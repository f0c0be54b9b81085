use Rattle.std.proofs.Common.{sym, subst}
use Rattle.wf_bufs.specs.HostViews.{call_of}
use Rattle.c_step.specs.Machines.{IsCallee}
use Rattle.c_step.proofs.KnownLaws.{no_callee, no_function_there}
use Rattle.c_step.proofs.known.Known.callee.Goals as goal

pub returns-in_err-entry : goal.returns-in_err-entry
returns-in_err-entry c =
    subst (IsCallee c.args.self.now (call_of c.args.what.now) c.args.turns) (sym c.from_residual.ensures) (no_callee c.args.self.now (call_of c.args.what.now) c.args.turns c.in_err-entry.ensures)

pub returns-in_err-own : goal.returns-in_err-own
returns-in_err-own c =
    subst (IsCallee c.args.self.now (call_of c.args.what.now) c.args.turns) (sym c.from_residual-in_err-own.ensures)
    (no_function_there c.args.self.now (call_of c.args.what.now) c.args.turns c.in_ok-entry.entry c.in_ok-entry.ensures c.in_err-own.was)
