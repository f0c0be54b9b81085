use Rattle.std.proofs.Common.{◌∙◌, ap, sym, [], refl, arith}
use Rattle.wf_ast.specs.TypedPackage.{package_of}
use Rattle.c_text.proofs.Trees.{append_nil}
use Rattle.wf_exprs.proofs.Growing.{grows_on}
use Rattle.wf_lower.specs.Unit.{method_functions}
use Rattle.wf_lower.proofs.Functions.{functions_same, method_cons, method_known, method_walk, order_is}
use Rattle.wf_lower.proofs.Kept.{functions_on, no_functions}
use Rattle.wf_lower.proofs.SharedLaws.{kept_shared}
use Rattle.wf_lower.proofs.Walks.{walk_end, walk_on}
use Rattle.wf_lower.proofs.lowering.add_methods.Goals as goal

pub loop-i-init : goal.loop-i-init
loop-i-init c = record { grows = c.put_shared.ensures.grows; shared = c.in_ok-shared.ensures.made; added = []; adds = no_functions _ c.put_shared.ensures.grows; left = refl }

pub add_method-requires-clause-known : goal.add_method-requires-clause-known
add_method-requires-clause-known c = method_known c.args.p.now.t.now c.requires.ready.typed c.order-order.result.now c.loop-i.i _ c.order-order.ensures c.loop-i-test.true

pub returns-in_err-add_method-clause-grows : goal.returns-in_err-add_method-clause-grows
returns-in_err-add_method-clause-grows c = grows_on c.loop-i.invariant.grows c.add_method.ensures.grows

pub loop-i-preserved : goal.loop-i-preserved
loop-i-preserved c =
    let p = package_of c.args.p.now.t.now in
    let inv = c.loop-i.invariant in
    record {
      grows = grows_on inv.grows c.add_method.ensures.grows;
      shared = kept_shared _ c.add_method.ensures.grows inv.shared;
      added = _;
      adds = functions_on inv.added _ inv.adds c.in_ok-add_method.ensures.made;
      left = walk_on (method_walk p) (λ n. refl) (method_cons p) inv.added _ _ c.loop-i.i c.loop-i.i c.order-order.result.now _ c.loop-i-test.true (sym (append_nil _)) inv.left;
    }

pub returns-clause-made : goal.returns-clause-made
returns-clause-made c =
    let p = package_of c.args.p.now.t.now in
    let inv = c.loop-i.invariant in
    let whole = walk_end (method_walk p) (λ n. refl) (method_cons p) inv.added _ c.loop-i.i c.loop-i.i c.order-order.result.now (omega (arith, c.loop-i-test.false)) inv.left in
    functions_same _ _ _ _ (whole ∙ ap (method_functions p) (order_is c.args.p.now.t.now c.order-order.result.now c.order-order.ensures)) inv.adds

pub add_method-requires-clause-shared : goal.add_method-requires-clause-shared
add_method-requires-clause-shared c = c.loop-i.invariant.shared
