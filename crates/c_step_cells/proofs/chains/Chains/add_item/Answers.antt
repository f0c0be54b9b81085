use Rattle.std.proofs.Common.{length, map, refl, sym, ap, subst, option_map, Some, ◌∙◌}
use Rattle.std.proofs.lemmas.List.{length-map}
use Rattle.c_text.specs.CNodes.{bytes_at, type_in, param_tree, local_tree, expr_of, code_of, made_item}
use Rattle.c_step_load.specs.Loading.{functions_before}
use Rattle.c_step_load.proofs.ItemLemmas.{Its, function_next, no_function}
use Rattle.c_step_cells.specs.Growing.{AreChains}
use Rattle.c_step_cells.proofs.ChainLemmas.{chains_more}
use Rattle.c_step_cells.proofs.chains.Chains.add_item.Goals as goal

pub returns-in_ok-add-in-Function : goal.returns-in_ok-add-in-Function
returns-in_ok-add-in-Function c = λ h.
    let n = c.args.unit.now in
    let type = option_map (type_in n.names) c.in-Function.result in
    let name = bytes_at n.names c.in-Function.name.0 in
    let params = map (param_tree n.names) c.in-Function.params in
    let locals = map (local_tree n.names (expr_of n)) c.in-Function.locals in
    let body = code_of n c.in-Function.body.0 in
    rw (function_next n c.in-Function.linkage type name params locals body c.args.i (c.item.ensures.tree ∙ ap (λ x. Some (made_item n x)) c.in-Function.is))
    (chains_more c.args.code.now (functions_before n c.args.i) (Its n c.in-Function.linkage type name params locals body) c.args.self.now c.add.new.self (length c.as_slice-params.result.now) (length c.as_slice-locals.result.now) h
    (ap length c.as_slice-params.ensures ∙ sym (length-map c.in-Function.params (param_tree n.names)))
    (ap length c.as_slice-locals.ensures ∙ sym (length-map c.in-Function.locals (local_tree n.names (expr_of n))))
    c.in_ok-add-in-Function.ensures.table c.in_ok-add-in-Function.ensures.most)

pub returns-in-Struct : goal.returns-in-Struct
returns-in-Struct c = λ h. subst (λ fs. AreChains c.args.code.now fs c.args.self.now) (sym (no_function c.args.unit.now c.args.i (made_item c.args.unit.now c.item.result.now) c.item.ensures.tree (rw c.in-Struct.is refl))) h

pub returns-in-Text : goal.returns-in-Text
returns-in-Text c = λ h. subst (λ fs. AreChains c.args.code.now fs c.args.self.now) (sym (no_function c.args.unit.now c.args.i (made_item c.args.unit.now c.item.result.now) c.item.ensures.tree (rw c.in-Text.is refl))) h
