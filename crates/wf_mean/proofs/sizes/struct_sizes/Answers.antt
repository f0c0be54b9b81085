use Rattle.std.proofs.Common.{◌∙◌, List, ℕ, suc, ap, arith, map}
use Rattle.wf_ast.specs.declared.declarations.Var.{Var}
use Rattle.wf_ast.specs.declared.types.Ty.{Ty}
use Rattle.wf_ast.specs.TypedPackage.{package_of}
use Rattle.wf_mean.specs.Sizes.{sizes_inside}
use Rattle.wf_mean.proofs.SizeLaws.{all-sized, next-known, none-sized, one-sized, order-known, structs-long}
use Rattle.wf_mean.proofs.sizes.struct_sizes.Goals as goal

pub loop-i-init : goal.loop-i-init
loop-i-init c =
    none-sized (package_of c.args.t.now) c.in_ok-sizes.sizes.items c.struct_order-order.result.now c.requires.typed.rules (order-known c.args.t.now c.struct_order-order.result.now c.struct_order-order.ensures)
    (omega (arith, c.in_ok-sizes.ensures.len, c.in_ok-sizes.sizes.ok, c.structs.ensures, structs-long c.args.t.now))

pub index_mut-requires : goal.index_mut-requires
index_mut-requires c =
    let known = next-known (package_of c.args.t.now) c.loop-i.sizes.items c.struct_order-order.result.now c.loop-i.i c.requires.typed.rules c.loop-i.invariant 0 c.loop-i-test.true in
    omega (arith, known, c.loop-i.invariant.long, c.loop-i.sizes.ok)

pub loop-i-preserved : goal.loop-i-preserved
loop-i-preserved c =
    one-sized (package_of c.args.t.now) c.loop-i.sizes.items c.struct_order-order.result.now c.loop-i.i c.requires.typed.rules c.loop-i.invariant 0 c.loop-i-test.true c.in_ok-sizes-2.field-0
    (c.in_ok-sizes-2.ensures ∙ ap (λ (sizes : List ℕ). suc (sizes_inside sizes (map (λ (x : Var). x.ty) c.fields_of.result.now))) c.deref.ensures.value ∙ ap (λ (tys : List Ty). suc (sizes_inside c.loop-i.sizes.items tys)) c.fields_of.ensures)

pub returns : goal.returns
returns c =
    all-sized (package_of c.args.t.now) c.loop-i.sizes.items c.struct_order-order.result.now c.loop-i.i c.requires.typed.rules (order-known c.args.t.now c.struct_order-order.result.now c.struct_order-order.ensures) (omega (arith, c.loop-i-test.false)) c.loop-i.invariant
