use Rattle.std.proofs.Common.{◌∙◌, ap, [], refl, arith}
use Rattle.wf_ast.specs.TypedPackage.{package_of}
use Rattle.wf_exprs.proofs.Growing.{grows_on, unchanged}
use Rattle.wf_lower.specs.Unit.{initialize_functions}
use Rattle.wf_lower.proofs.Functions.{functions_same, initialize_walk, struct_known, struct_order_is}
use Rattle.wf_lower.proofs.Kept.{functions_on, no_functions}
use Rattle.wf_lower.proofs.Walks.{walk_end, walk_on}
use Rattle.wf_lower.proofs.lowering.add_all_initialize.Goals as goal

pub loop-i-init : goal.loop-i-init
loop-i-init c = record { grows = unchanged _ _ refl; added = []; adds = no_functions _ (unchanged _ _ refl); left = refl }

pub add_initialize-requires-clause-known : goal.add_initialize-requires-clause-known
add_initialize-requires-clause-known c = struct_known c.args.p.now.t.now c.requires.typed c.struct_order-order.result.now c.loop-i.i _ c.struct_order-order.ensures c.loop-i-test.true

pub returns-in_err-add_initialize-clause-grows : goal.returns-in_err-add_initialize-clause-grows
returns-in_err-add_initialize-clause-grows c = grows_on c.loop-i.invariant.grows c.add_initialize.ensures.grows

pub loop-i-preserved : goal.loop-i-preserved
loop-i-preserved c =
    let p = package_of c.args.p.now.t.now in
    let inv = c.loop-i.invariant in
    record {
      grows = grows_on inv.grows c.add_initialize.ensures.grows;
      added = _;
      adds = functions_on inv.added _ inv.adds c.in_ok-add_initialize.ensures.made;
      left = walk_on (initialize_walk p) (λ n. refl) (λ n x xs. refl) inv.added _ _ c.loop-i.i c.loop-i.i c.struct_order-order.result.now _ c.loop-i-test.true refl inv.left;
    }

pub returns-clause-made : goal.returns-clause-made
returns-clause-made c =
    let p = package_of c.args.p.now.t.now in
    let inv = c.loop-i.invariant in
    let whole = walk_end (initialize_walk p) (λ n. refl) (λ n x xs. refl) inv.added _ c.loop-i.i c.loop-i.i c.struct_order-order.result.now (omega (arith, c.loop-i-test.false)) inv.left in
    functions_same _ _ _ _ (whole ∙ ap (initialize_functions p) (struct_order_is c.args.p.now.t.now c.struct_order-order.result.now c.struct_order-order.ensures)) inv.adds
