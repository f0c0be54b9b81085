use Rattle.std.proofs.Common.{Some, ap, ◌∙◌, refl}
use Rattle.c_text.specs.CNodes.{bytes_at, made_item}
use Rattle.c_form_stmts.specs.declared.functions.Parts.{Parts}
use Rattle.c_step_load.specs.Loading.{nodes_in, functions_before, function_by, code_before}
use Rattle.c_step_load.proofs.PartLemmas.{own_by, item_is, function_here, item_built, as_many_before, no_more}
use Rattle.c_step_load.proofs.loading.Build.load_item.Goals as goal

pub load_function-requires-clause-own : goal.load_function-requires-clause-own
load_function-requires-clause-own c =
    let nodes = nodes_in c.args.known.now in
    let name = bytes_at nodes.names c.in-Function.name.0 in
    let parts : Parts = record { linkage = c.in-Function.linkage; result_type = c.in-Function.result; params = c.as_slice.result; locals = c.as_slice-in-Function.result; body = c.in-Function.body } in
    own_by nodes parts name c.requires.known.formed c.args.i (item_is nodes parts name c.args.i c.in-Function.params c.in-Function.locals c.as_slice.ensures c.as_slice-in-Function.ensures (c.item.ensures.tree ∙ ap (λ x. Some (made_item nodes x)) c.in-Function.is))

pub returns-in-Function : goal.returns-in-Function
returns-in-Function c =
    let nodes = nodes_in c.args.known.now in
    let name = bytes_at nodes.names c.in-Function.name.0 in
    let parts : Parts = record { linkage = c.in-Function.linkage; result_type = c.in-Function.result; params = c.as_slice.result; locals = c.as_slice-in-Function.result; body = c.in-Function.body } in
    let is = item_is nodes parts name c.args.i c.in-Function.params c.in-Function.locals c.as_slice.ensures c.as_slice-in-Function.ensures (c.item.ensures.tree ∙ ap (λ x. Some (made_item nodes x)) c.in-Function.is) in
    item_built nodes parts name c.args.i c.load_function.result c.load_function.new.self is
    (c.load_function.ensures (function_by nodes parts name) _ (functions_before nodes c.args.i) (code_before nodes c.args.i) (function_here nodes parts name c.args.i is) (as_many_before nodes c.args.i) c.requires.built)

pub returns-in-Struct : goal.returns-in-Struct
returns-in-Struct c = no_more (nodes_in c.args.known.now) c.args.i (made_item (nodes_in c.args.known.now) c.item.result.now) c.args.self.now c.item.ensures.tree (rw c.in-Struct.is refl) c.requires.built

pub returns-in-Text : goal.returns-in-Text
returns-in-Text c = no_more (nodes_in c.args.known.now) c.args.i (made_item (nodes_in c.args.known.now) c.item.result.now) c.args.self.now c.item.ensures.tree (rw c.in-Text.is refl) c.requires.built
