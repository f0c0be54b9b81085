use Rattle.std.proofs.Common.{refl, arith, []}
use Rattle.wf_exprs.proofs.Growing.{grows_on, unchanged}
use Rattle.wf_exprs.specs.Scopes.{is_named}
use Rattle.wf_lower.proofs.Kept.{no_params, params_on}
use Rattle.wf_lower.proofs.PartLaws.{params_cons, params_walk}
use Rattle.wf_lower.proofs.Walks.{all_here, walk_end, walk_on}
use Rattle.wf_lower.proofs.declaring.add_args.Goals as goal

pub loop-i-init : goal.loop-i-init
loop-i-init c = record { grows = unchanged _ _ refl; added = []; adds = no_params _ (unchanged _ _ refl); left = refl }

pub add_arg-requires : goal.add_arg-requires
add_arg-requires c = all_here (is_named c.args.t.now) c.args.args.now c.loop-i.i _ c.loop-i-test.true c.requires

pub returns-in_err-add_arg-clause-grows : goal.returns-in_err-add_arg-clause-grows
returns-in_err-add_arg-clause-grows c = grows_on c.loop-i.invariant.grows c.add_arg.ensures.grows

pub loop-i-preserved : goal.loop-i-preserved
loop-i-preserved c =
    let inv = c.loop-i.invariant in
    record {
      grows = grows_on inv.grows c.add_arg.ensures.grows;
      added = _;
      adds = params_on _ _ inv.adds c.in_ok-add_arg.ensures.made;
      left = walk_on (params_walk c.args.t.now) (λ n. refl) (params_cons c.args.t.now) inv.added _ _ c.loop-i.i c.loop-i.i c.args.args.now _ c.loop-i-test.true refl inv.left;
    }

pub returns-clause-made : goal.returns-clause-made
returns-clause-made c =
    let inv = c.loop-i.invariant in
    let whole = walk_end (params_walk c.args.t.now) (λ n. refl) (params_cons c.args.t.now) inv.added _ c.loop-i.i c.loop-i.i c.args.args.now (omega (arith, c.loop-i-test.false)) inv.left in
    rw (← whole) inv.adds
