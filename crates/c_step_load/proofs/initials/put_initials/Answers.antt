use Rattle.std.proofs.Common.{◌≡◌, ◌<◌, ◌+◌, List, ◌∷◌, length, map, drop, get_or, ap}
use Rattle.pens.proofs.Progress.{unroll}
use Rattle.c_text.specs.CTree.{LocalTree}
use Rattle.c_text.specs.CNodes.{local_tree, expr_of}
use Rattle.c_text.proofs.Parts.{no_local, locals_here, locals_rest}
use Rattle.c_form.proofs.ItemLemmas.{drop_all}
use Rattle.c_step_load_stmts.specs.Bodies.{nodes_of, scope_of}
use Rattle.c_step_load.proofs.InitialLemmas.{text_more, initials_more, text_done, initials_done}
use Rattle.c_step_load.proofs.initials.put_initials.Goals as goal

pub put_initial-requires-clause-local : goal.put_initial-requires-clause-local
put_initial-requires-clause-local c = locals_here (nodes_of c.args.body.now) c.args.locals.now c.loop-local.local-index c.loop-local-test.true c.loop-local.invariant.has

pub loop-local-preserved : goal.loop-local-preserved
loop-local-preserved c =
    let nodes = nodes_of c.args.body.now in
    let scope = scope_of c.args.body.now in
    let within : c.loop-local.local-index < length c.args.locals.now = c.loop-local-test.true in
    let l : LocalTree = local_tree nodes.names (expr_of nodes) (get_or c.args.locals.now c.loop-local.local-index no_local) in
    let rest : List LocalTree = map (local_tree nodes.names (expr_of nodes)) (drop (c.loop-local.local-index + 1) c.args.locals.now) in
    let left : List LocalTree = map (local_tree nodes.names (expr_of nodes)) (drop c.loop-local.local-index c.args.locals.now) in
    let here : left ≡ l ∷ rest = ap (λ ls. map (local_tree nodes.names (expr_of nodes)) ls) (unroll c.args.locals.now c.loop-local.local-index no_local within) in
    record {
      has = locals_rest nodes c.args.locals.now c.loop-local.local-index within c.loop-local.invariant.has;
      text_so_far = text_more scope c.loop-local.text c.put_initial.new.text l rest left here c.in_ok-field.ensures.text _ c.loop-local.invariant.text_so_far;
      so_far = initials_more scope c.loop-local.text c.put_initial.new.text l rest left here c.in_ok-field.ensures.text c.loop-local.field c.in_ok-field.field c.loop-local.initials.items c.put_initial.new.initials.items _ c.in_ok-field.ensures.next c.in_ok-field.ensures.initials c.loop-local.invariant.so_far;
    }

pub returns-clause-text : goal.returns-clause-text
returns-clause-text c =
    let nodes = nodes_of c.args.body.now in
    text_done (scope_of c.args.body.now) c.loop-local.text _ (map (local_tree nodes.names (expr_of nodes)) (drop c.loop-local.local-index c.args.locals.now)) (ap (map (local_tree nodes.names (expr_of nodes))) (drop_all c.args.locals.now c.loop-local.local-index c.loop-local-test.false)) c.loop-local.invariant.text_so_far

pub returns-clause-initials : goal.returns-clause-initials
returns-clause-initials c =
    let nodes = nodes_of c.args.body.now in
    initials_done (scope_of c.args.body.now) c.loop-local.field (length c.loop-local.text.exprs) c.loop-local.initials.items _ (map (local_tree nodes.names (expr_of nodes)) (drop c.loop-local.local-index c.args.locals.now)) (ap (map (local_tree nodes.names (expr_of nodes))) (drop_all c.args.locals.now c.loop-local.local-index c.loop-local-test.false)) c.loop-local.invariant.so_far
