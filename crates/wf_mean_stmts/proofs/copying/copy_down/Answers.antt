use Rattle.std.proofs.Common.{◌≡◌, ◌+◌, ◌-◌, ◌∙◌, refl, ap, arith, subst, ℕ}
use Rattle.wf_meaning.specs.World.{Vars, fits_store}
use Rattle.wf_mean_exprs.specs.MachineState.{span_seen, store_seen}
use Rattle.wf_mean_stmts.specs.Stages.{vars_on}
use Rattle.wf_mean_stmts.specs.Copies.{cells_on}
use Rattle.wf_mean_stmts.proofs.CopyLemmas.{CopiedDown, begins_down, elements_count, ends_down, goes_down, vars_are}
use Rattle.wf_mean_stmts.proofs.copying.copy_down.Goals as goal

pub loop-i-init : goal.loop-i-init
loop-i-init c = record { few = omega arith; copied = begins_down (store_seen c.args.to.store) (store_seen c.args.from.store) c.args.to.from c.args.from.from (span_seen c.args.from).count c.args.n (vars_on c.args.t.now c.args.stage.now).world (fits_store (store_seen c.args.to.store)) c.requires.from c.requires.fits; locals = refl; shape = refl; turns = refl }

pub copy_one-requires-clause-to : goal.copy_one-requires-clause-to
copy_one-requires-clause-to c = omega (arith, c.loop-i-test.true, c.loop-i.invariant.few, c.requires.to)

pub copy_one-requires-clause-from : goal.copy_one-requires-clause-from
copy_one-requires-clause-from c =
    omega (arith, c.loop-i-test.true, c.loop-i.invariant.few, c.requires.from, elements_count (span_seen c.args.from).count c.args.from.from (cells_on c.args.t.now c.args.stage.now c.args.from.store))

pub loop-i-preserved : goal.loop-i-preserved
loop-i-preserved c =
    let nodes = c.args.t.now in
    let h = c.loop-i.invariant in
    let i = c.loop-i.i - 1 in
    let e : c.loop-i.i ≡ i + 1 = omega (arith, c.loop-i-test.true) in
    let P : ℕ → Type 0 = λ i. CopiedDown (store_seen c.args.to.store) (store_seen c.args.from.store) c.args.to.from c.args.from.from (span_seen c.args.from).count c.args.n (vars_on nodes c.args.stage.now).world i (vars_on nodes c.loop-i.stage).world in
    record {
      few = omega (arith, h.few);
      copied = goes_down (store_seen c.args.to.store) (store_seen c.args.from.store) c.args.to.from c.args.from.from (span_seen c.args.from).count c.args.n (vars_on c.args.t.now c.args.stage.now).world (fits_store (store_seen c.args.to.store)) c.requires.from c.requires.fits i (omega (arith, c.loop-i-test.true, h.few)) (vars_on nodes c.loop-i.stage).world (vars_on nodes c.copy_one.new.stage).world c.requires.down (subst P e h.copied)
          (λ v e f. ap (λ (x : Vars). x.world) (c.copy_one.ensures.vars v e f));
      locals = c.copy_one.ensures.locals ∙ h.locals;
      shape = c.copy_one.ensures.shape ∙ h.shape;
      turns = c.copy_one.ensures.turns ∙ h.turns;
    }

pub returns-clause-vars : goal.returns-clause-vars
returns-clause-vars c =
    let nodes = c.args.t.now in
    let h = c.loop-i.invariant in
    let e : c.loop-i.i ≡ 0 = omega (arith, c.loop-i-test.false) in
    let P : ℕ → Type 0 = λ i. CopiedDown (store_seen c.args.to.store) (store_seen c.args.from.store) c.args.to.from c.args.from.from (span_seen c.args.from).count c.args.n (vars_on nodes c.args.stage.now).world i (vars_on nodes c.loop-i.stage).world in
    vars_are (vars_on nodes c.loop-i.stage) _ _ h.locals (ends_down (store_seen c.args.to.store) (store_seen c.args.from.store) c.args.to.from c.args.from.from (span_seen c.args.from).count c.args.n (vars_on c.args.t.now c.args.stage.now).world (fits_store (store_seen c.args.to.store)) c.requires.from c.requires.fits (vars_on nodes c.loop-i.stage).world (subst P e h.copied))
