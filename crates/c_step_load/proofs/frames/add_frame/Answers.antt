use Rattle.std.proofs.Common.{map, refl, ap, option_map, Some, ◌∙◌}
use Rattle.c_text.specs.CNodes.{bytes_at, type_in, param_tree, local_tree, expr_of, code_of, made_item}
use Rattle.c_step_load.proofs.ItemLemmas.{Its, frame_added, no_frame}
use Rattle.c_step_load.proofs.frames.add_frame.Goals as goal

pub returns-in_ok-push-in-Function : goal.returns-in_ok-push-in-Function
returns-in_ok-push-in-Function c =
    let n = c.args.unit.now in
    let type = option_map (type_in n.names) c.in-Function.result in
    let name = bytes_at n.names c.in-Function.name.0 in
    let params = map (param_tree n.names) c.in-Function.params in
    let locals = map (local_tree n.names (expr_of n)) c.in-Function.locals in
    let body = code_of n c.in-Function.body.0 in
    frame_added n c.in-Function.linkage type name params locals body c.args.whole c.args.i c.args.frames.now.items c.push.new.self.items c.in_ok-it-in-Function.it
    (c.item.ensures.tree ∙ ap (λ x. Some (made_item n x)) c.in-Function.is)
    (c.in_ok-it-in-Function.ensures n (Its n c.in-Function.linkage type name params locals body) (rw c.as_slice.ensures refl) (rw c.as_slice-in-Function.ensures refl))
    c.in_ok-push-in-Function.ensures.items

pub returns-in-Struct : goal.returns-in-Struct
returns-in-Struct c = no_frame c.args.unit.now c.args.whole c.args.i (made_item c.args.unit.now c.item.result.now) c.args.frames.now.items c.item.ensures.tree (rw c.in-Struct.is refl)

pub returns-in-Text : goal.returns-in-Text
returns-in-Text c = no_frame c.args.unit.now c.args.whole c.args.i (made_item c.args.unit.now c.item.result.now) c.args.frames.now.items c.item.ensures.tree (rw c.in-Text.is refl)
