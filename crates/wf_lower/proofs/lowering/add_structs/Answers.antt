use Rattle.std.proofs.Common.{◌∙◌, ap, [], refl, arith}
use Rattle.wf_ast.specs.TypedPackage.{package_of}
use Rattle.wf_lower.specs.Unit.{struct_items}
use Rattle.wf_lower.proofs.Functions.{struct_known, struct_order_is, struct_walk}
use Rattle.wf_lower.proofs.Texts.{by_list, by_on, by_same}
use Rattle.wf_lower.proofs.Walks.{walk_end, walk_on}
use Rattle.wf_lower.proofs.lowering.add_structs.Goals as goal

pub loop-i-init : goal.loop-i-init
loop-i-init c = record { added = []; grows = by_same _; left = refl }

pub add_struct-requires-clause-known : goal.add_struct-requires-clause-known
add_struct-requires-clause-known c = struct_known c.args.p.now.t.now c.requires.ready.typed c.struct_order-order.result.now c.loop-i.i _ c.struct_order-order.ensures c.loop-i-test.true

pub loop-i-preserved : goal.loop-i-preserved
loop-i-preserved c =
    let p = package_of c.args.p.now.t.now in
    let inv = c.loop-i.invariant in
    record {
      added = _;
      grows = by_on inv.added _ inv.grows c.in_ok-add_struct.ensures;
      left = walk_on (struct_walk p) (λ n. refl) (λ n x xs. refl) inv.added _ _ c.loop-i.i c.loop-i.i c.struct_order-order.result.now _ c.loop-i-test.true refl inv.left;
    }

pub returns : goal.returns
returns c =
    let p = package_of c.args.p.now.t.now in
    let inv = c.loop-i.invariant in
    let whole = walk_end (struct_walk p) (λ n. refl) (λ n x xs. refl) inv.added _ c.loop-i.i c.loop-i.i c.struct_order-order.result.now (omega (arith, c.loop-i-test.false)) inv.left in
    by_list (whole ∙ ap (struct_items p) (struct_order_is c.args.p.now.t.now c.struct_order-order.result.now c.struct_order-order.ensures)) inv.grows
