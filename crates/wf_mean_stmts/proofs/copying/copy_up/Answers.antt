use Rattle.std.proofs.Common.{◌≡◌, ◌∙◌, ap, arith, subst, ℕ}
use Rattle.wf_meaning.specs.World.{Vars, fits_store}
use Rattle.wf_mean_exprs.specs.MachineState.{span_seen, store_seen}
use Rattle.wf_mean_stmts.specs.Stages.{vars_on}
use Rattle.wf_mean_stmts.proofs.CopyLemmas.{CopiedUp, ends_up, goes_up, vars_are}
use Rattle.wf_mean_stmts.proofs.copying.copy_up.Goals as goal

pub loop-i-preserved : goal.loop-i-preserved
loop-i-preserved c =
    let nodes = c.args.t.now in
    let h = c.loop-i.invariant in
    record {
      copied = goes_up (store_seen c.args.to.store) (store_seen c.args.from.store) c.args.to.from c.args.from.from (span_seen c.args.from).count c.args.n (vars_on c.args.t.now c.args.stage.now).world (fits_store (store_seen c.args.to.store)) c.requires.from c.requires.fits c.loop-i.i c.loop-i-test.true (vars_on nodes c.loop-i.stage).world (vars_on nodes c.copy_one.new.stage).world c.requires.up h.copied
          (λ v e f. ap (λ (x : Vars). x.world) (c.copy_one.ensures.vars v e f));
      locals = c.copy_one.ensures.locals ∙ h.locals;
      shape = c.copy_one.ensures.shape ∙ h.shape;
      turns = c.copy_one.ensures.turns ∙ h.turns;
    }

pub returns-clause-vars : goal.returns-clause-vars
returns-clause-vars c =
    let nodes = c.args.t.now in
    let h = c.loop-i.invariant in
    let e : c.loop-i.i ≡ c.args.n = omega (arith, c.loop-i-test.false, c.loop-i.auto.i-end) in
    let P : ℕ → Type 0 = λ i. CopiedUp (store_seen c.args.to.store) (store_seen c.args.from.store) c.args.to.from c.args.from.from (span_seen c.args.from).count c.args.n (vars_on nodes c.args.stage.now).world i (vars_on nodes c.loop-i.stage).world in
    vars_are (vars_on nodes c.loop-i.stage) _ _ h.locals (ends_up (store_seen c.args.to.store) (store_seen c.args.from.store) c.args.to.from c.args.from.from (span_seen c.args.from).count c.args.n (vars_on c.args.t.now c.args.stage.now).world (fits_store (store_seen c.args.to.store)) c.requires.from c.requires.fits (vars_on nodes c.loop-i.stage).world (subst P e h.copied))
