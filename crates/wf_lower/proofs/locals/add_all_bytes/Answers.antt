use Rattle.std.proofs.Common.{ap, refl, arith, length, List, [], subst}
use Rattle.c_text.specs.CTree.{LocalTree}
use Rattle.wf_exprs.proofs.Growing.{grows_on, unchanged}
use Rattle.wf_lower_stmts.specs.BodyNodes.{form_in}
use Rattle.wf_lower.specs.Made.{AddsRead}
use Rattle.wf_lower.proofs.Kept.{no_locals}
use Rattle.wf_lower.proofs.LocalLaws.{reads_on}
use Rattle.wf_lower.proofs.PartLaws.{bytes_cons, bytes_walk}
use Rattle.wf_lower.proofs.Walks.{walk_end, walk_on}
use Rattle.wf_lower.proofs.locals.add_all_bytes.Goals as goal

pub loop-i-init : goal.loop-i-init
loop-i-init c = record { grows = unchanged _ _ refl; added = []; adds = λ code reads. no_locals _ (unchanged _ _ refl); left = ap (bytes_walk (form_in c.args.b.now) c.args.b.now.nodes 0) c.arguments-args.ensures.is }

pub add_bytes-requires : goal.add_bytes-requires
add_bytes-requires c = let same = ap length c.arguments-args.ensures.is in omega (arith, same, c.loop-i-test.true)

pub returns-in_err-add_bytes-clause-grows : goal.returns-in_err-add_bytes-clause-grows
returns-in_err-add_bytes-clause-grows c = grows_on c.loop-i.invariant.grows c.add_bytes.ensures.grows

pub loop-i-preserved : goal.loop-i-preserved
loop-i-preserved c =
    let f = form_in c.args.b.now in
    let nodes = c.args.b.now.nodes in
    let inv = c.loop-i.invariant in
    record {
      grows = grows_on inv.grows c.add_bytes.ensures.grows;
      added = _;
      adds = reads_on c.args.read.now _ _ _ _ _ _ inv.added _ inv.grows inv.adds c.in_ok-add_bytes.ensures.made;
      left = walk_on (bytes_walk f nodes) (λ n. refl) (bytes_cons f nodes) inv.added _ _ c.loop-i.i c.loop-i.i c.arguments-args.result.now _ c.loop-i-test.true refl inv.left;
    }

pub returns-clause-made : goal.returns-clause-made
returns-clause-made c =
    let f = form_in c.args.b.now in
    let nodes = c.args.b.now.nodes in
    let inv = c.loop-i.invariant in
    let whole = walk_end (bytes_walk f nodes) (λ n. refl) (bytes_cons f nodes) inv.added _ c.loop-i.i c.loop-i.i c.arguments-args.result.now (omega (arith, c.loop-i-test.false)) inv.left in
    let P : List LocalTree → Type 0 = λ l. AddsRead c.args.read.now c.args.u.now c.loop-i.u c.args.locals.now c.loop-i.locals l in
    subst P whole inv.adds
