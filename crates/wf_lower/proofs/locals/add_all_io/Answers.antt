use Rattle.std.proofs.Common.{ap, refl, arith, length, []}
use Rattle.wf_exprs.proofs.Growing.{grows_on, unchanged}
use Rattle.wf_lower_stmts.specs.BodyNodes.{form_in}
use Rattle.wf_lower.proofs.Kept.{locals_on, no_locals}
use Rattle.wf_lower.proofs.PartLaws.{io_cons, io_walk}
use Rattle.wf_lower.proofs.Walks.{walk_end, walk_on}
use Rattle.wf_lower.proofs.locals.add_all_io.Goals as goal

pub loop-i-init : goal.loop-i-init
loop-i-init c = record { grows = unchanged _ _ refl; added = []; adds = no_locals _ (unchanged _ _ refl); left = ap (io_walk (form_in c.args.b.now) c.args.b.now.nodes 0) c.arguments-args.ensures.is }

pub add_io-requires : goal.add_io-requires
add_io-requires c = let same = ap length c.arguments-args.ensures.is in omega (arith, same, c.loop-i-test.true)

pub returns-in_err-add_io-clause-grows : goal.returns-in_err-add_io-clause-grows
returns-in_err-add_io-clause-grows c = grows_on c.loop-i.invariant.grows c.add_io.ensures.grows

pub loop-i-preserved : goal.loop-i-preserved
loop-i-preserved c =
    let f = form_in c.args.b.now in
    let nodes = c.args.b.now.nodes in
    let inv = c.loop-i.invariant in
    record {
      grows = grows_on inv.grows c.add_io.ensures.grows;
      added = _;
      adds = locals_on _ _ inv.adds c.in_ok-add_io.ensures.made;
      left = walk_on (io_walk f nodes) (λ n. refl) (io_cons f nodes) inv.added _ _ c.loop-i.i c.loop-i.i c.arguments-args.result.now _ c.loop-i-test.true refl inv.left;
    }

pub returns-clause-made : goal.returns-clause-made
returns-clause-made c =
    let f = form_in c.args.b.now in
    let nodes = c.args.b.now.nodes in
    let inv = c.loop-i.invariant in
    let whole = walk_end (io_walk f nodes) (λ n. refl) (io_cons f nodes) inv.added _ c.loop-i.i c.loop-i.i c.arguments-args.result.now (omega (arith, c.loop-i-test.false)) inv.left in
    rw (← whole) inv.adds
