use Rattle.std.proofs.Common.{ap, refl, sym, arith, []}
use Rattle.c_text.proofs.Trees.{append_nil}
use Rattle.wf_exprs.proofs.Growing.{grows_on, unchanged}
use Rattle.wf_exprs.specs.Scopes.{is_named}
use Rattle.wf_lower.proofs.Kept.{locals_on, no_locals}
use Rattle.wf_lower.proofs.PartLaws.{locals_cons, locals_walk}
use Rattle.wf_lower.proofs.Walks.{all_here, walk_end, walk_on}
use Rattle.wf_lower.proofs.locals.add_all_locals.Goals as goal

pub loop-i-init : goal.loop-i-init
loop-i-init c = record { grows = unchanged _ _ refl; added = []; adds = no_locals _ (unchanged _ _ refl); left = ap (locals_walk c.args.b.now.nodes 0) c.locals-declared.ensures.is }

pub add_local-requires : goal.add_local-requires
add_local-requires c = all_here (is_named c.args.b.now.nodes) c.locals-declared.result.now c.loop-i.i _ c.loop-i-test.true c.locals-declared.ensures.named

pub returns-in_err-add_local-clause-grows : goal.returns-in_err-add_local-clause-grows
returns-in_err-add_local-clause-grows c = grows_on c.loop-i.invariant.grows c.add_local.ensures.grows

pub loop-i-preserved : goal.loop-i-preserved
loop-i-preserved c =
    let nodes = c.args.b.now.nodes in
    let inv = c.loop-i.invariant in
    record {
      grows = grows_on inv.grows c.add_local.ensures.grows;
      added = _;
      adds = locals_on _ _ inv.adds c.in_ok-add_local.ensures.made;
      left = walk_on (locals_walk nodes) (λ n. refl) (locals_cons nodes) inv.added _ _ c.loop-i.i c.loop-i.i c.locals-declared.result.now _ c.loop-i-test.true (sym (append_nil _)) inv.left;
    }

pub returns-clause-made : goal.returns-clause-made
returns-clause-made c =
    let nodes = c.args.b.now.nodes in
    let inv = c.loop-i.invariant in
    let whole = walk_end (locals_walk nodes) (λ n. refl) (locals_cons nodes) inv.added _ c.loop-i.i c.loop-i.i c.locals-declared.result.now (omega (arith, c.loop-i-test.false)) inv.left in
    rw (← whole) inv.adds
