use Rattle.std.proofs.Common.{◌≡◌, ◌∙◌, List, [], ap, sym, subst, length, vec_len, arith}
use Rattle.std.specs.Vec.Iter.{into_iter_items}
use Rattle.c_text.specs.declared.nodes.CItem.{CItem}
use Rattle.wf_lower.specs.Made.{FitFunctions, item_trees}
use Rattle.wf_lower.proofs.Texts.{by_list, by_on, by_same, item_fits, items_fit, items_left, items_over}
use Rattle.wf_lower.proofs.lowering.add_functions.Goals as goal

pub loop-item-init : goal.loop-item-init
loop-item-init c =
    let made = c.into_iter-item-iterator.ensures.into_iter_gives in
    let long : vec_len c.args.functions ≡ length c.args.functions.items = omega arith in
    record {
      added = [];
      grows = by_same _;
      fit = subst (λ (l : List CItem). FitFunctions c.args.u.now l) (sym made.0) c.requires;
      left = ap (item_trees c.args.u.now) made.0;
      long = made.1 ∙ long ∙ ap length (sym made.0);
    }

pub put_item-requires : goal.put_item-requires
put_item-requires c =
    let inv = c.loop-item.invariant in
    item_fits c.loop-item.u c.args.u.now inv.added _ c.in-Some.item (into_iter_items c.loop-item.item-iterator) (into_iter_items c.next.new.self) c.in-Some.ensures.steps.0 inv.left inv.fit

pub loop-item-preserved : goal.loop-item-preserved
loop-item-preserved c =
    let inv = c.loop-item.invariant in
    let before = into_iter_items c.loop-item.item-iterator in
    let after = into_iter_items c.next.new.self in
    let steps = c.in-Some.ensures.steps in
    let shorter = ap length steps.0 in
    record {
      added = _;
      grows = by_on inv.added _ inv.grows c.in_ok-put_item.ensures;
      fit = items_fit c.loop-item.u c.put_item.new.u inv.added _ c.in-Some.item before after steps.0 inv.left inv.fit c.in_ok-put_item.ensures;
      left = items_left c.loop-item.u c.put_item.new.u inv.added _ c.in-Some.item before after steps.0 inv.left inv.fit c.in_ok-put_item.ensures;
      long = omega (arith, shorter, steps.1, inv.long);
    }

pub returns : goal.returns
returns c =
    let inv = c.loop-item.invariant in
    by_list (items_over c.loop-item.u inv.added _ (into_iter_items c.loop-item.item-iterator) (omega (arith, inv.long, c.in-None.ensures.steps.0)) inv.left) inv.grows
