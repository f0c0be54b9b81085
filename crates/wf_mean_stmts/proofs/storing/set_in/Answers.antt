use Rattle.std.proofs.Common.{refl, arith}
use Rattle.wf_mean_exprs.specs.MachineState.{field_seen}
use Rattle.wf_mean_stmts.proofs.StoringLemmas.{set_to, past_updated}
use Rattle.wf_mean_stmts.proofs.storing.set_in.Goals as goal

pub returns-then-n-len : goal.returns-then-n-len
returns-then-n-len c = record { fields = set_to field_seen c.args.state.now.fields.items c.args.n c.args.v; life = refl; active = refl; kept = refl }

pub returns-else-n-len : goal.returns-else-n-len
returns-else-n-len c = record { fields = past_updated field_seen _ c.args.state.now.fields.items c.args.n (omega (arith, c.if-n-len.false, c.len.ensures)); life = refl; active = refl; kept = refl }
