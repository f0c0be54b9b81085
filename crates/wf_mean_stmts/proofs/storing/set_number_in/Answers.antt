use Rattle.std.proofs.Common.{refl, ap, ◌∙◌, arith}
use Rattle.std.specs.Prelude.{slice_set}
use Rattle.wf_meaning.specs.World.{change_held}
use Rattle.wf_mean_exprs.specs.MachineState.{field_seen}
use Rattle.wf_mean_stmts.proofs.StoringLemmas.{set_updated, past_updated}
use Rattle.wf_mean_stmts.proofs.storing.set_number_in.Goals as goal

pub returns-then-field-len : goal.returns-then-field-len
returns-then-field-len c =
    record {
      fields = set_updated field_seen _ c.args.state.now.fields.items c.args.field c.set_number_of.new.held c.index_mut.result.now (omega (arith, c.if-field-len.true, c.len.ensures))
          (c.set_number_of.ensures ∙ ap (λ x. change_held (λ xs. slice_set xs c.args.k c.args.n) (field_seen x)) c.index_mut.ensures.value);
      life = refl;
      active = refl;
      kept = refl;
    }

pub returns-else-field-len : goal.returns-else-field-len
returns-else-field-len c = record { fields = past_updated field_seen _ c.args.state.now.fields.items c.args.field (omega (arith, c.if-field-len.false, c.len.ensures)); life = refl; active = refl; kept = refl }
