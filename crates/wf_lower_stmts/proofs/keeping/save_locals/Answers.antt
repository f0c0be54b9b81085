use Rattle.std.proofs.Common.{◌-◌, ◌≡◌, arith}
use Rattle.c_text.specs.CNodes.{code_of}
use Rattle.wf_exprs.proofs.Growing.{grows_on}
use Rattle.wf_lower_stmts.specs.BodyNodes.{form_in, save_one}
use Rattle.wf_lower_stmts.proofs.SavedLaws.{all_saved, kept_known, local_step}
use Rattle.wf_lower_stmts.proofs.keeping.save_locals.Goals as goal

pub local_name-requires : goal.local_name-requires
local_name-requires c =
    let b = c.args.b.now in
    kept_known b.nodes b.method.locals c.saved-saved.result.now c.saved-saved.ensures (c.loop-left.left - 1) _ (omega (arith, c.loop-left-test.true, c.loop-left.invariant.within))

pub loop-left-preserved : goal.loop-left-preserved
loop-left-preserved c =
    let b = c.args.b.now in
    record {
      within = omega (arith, c.loop-left.invariant.within);
      grows = grows_on c.loop-left.invariant.grows c.save_local.ensures.grows;
      made = local_step (save_one (form_in b).method.name) b.nodes b.method.locals (code_of c.args.u.now c.args.rest.0) c.saved-saved.result.now c.loop-left.left (c.loop-left.left - 1) _ c.local_name.result.now
          (omega (arith, c.loop-left-test.true)) c.loop-left.invariant.within c.local_name.ensures.is c.loop-left.invariant.made c.in_ok-code.ensures.made;
    }

pub returns-clause-made : goal.returns-clause-made
returns-clause-made c =
    let b = c.args.b.now in
    let none : c.loop-left.left ≡ 0 = omega (arith, c.loop-left-test.false) in
    all_saved (form_in b).method.name (form_in b).method.locals c.saved-saved.result.now c.saved-saved.ensures (code_of c.args.u.now c.args.rest.0) c.loop-left.left none c.loop-left.invariant.made
