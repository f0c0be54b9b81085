use Rattle.std.proofs.Common.{◌≡◌, ◌++◌, List, length, map, sym, ap, ◌∙◌, subst}
use Rattle.c_text.specs.CTree.{LocalTree}
use Rattle.c_text.specs.CNodes.{local_tree, expr_of, code_of}
use Rattle.c_meaning.specs.CTypes.{CScope}
use Rattle.c_step_load_stmts.specs.Bodies.{nodes_of, with_exprs}
use Rattle.c_step_program.specs.Programs.{initial_exprs, initials_of}
use Rattle.c_step_load.proofs.CodeLemmas.{body_put, exprs_end}
use Rattle.c_step_load.proofs.loading.put_function.Goals as goal

pub returns-clause-text : goal.returns-clause-text
returns-clause-text c = λ names t.
    let nodes = nodes_of c.args.body.now in
    let locals : List LocalTree = map (local_tree nodes.names (expr_of nodes)) c.args.parts.locals.now in
    body_put names c.args.work.now.text c.lay_all.new.work.text c.put.new.text c.put_initials.new.text c.args.at.number c.args.at.next (code_of nodes c.args.parts.body.0) (initial_exprs names.scope locals)
    (c.in_ok-lay_all.ensures.text names t) c.in_ok-put.ensures
    (subst (λ (s : CScope). c.put_initials.new.text ≡ with_exprs c.put.new.text (initial_exprs s locals)) (sym t.scope) c.in_ok-put_initials.ensures.text)

pub returns-clause-initials : goal.returns-clause-initials
returns-clause-initials c = λ names t.
    let nodes = nodes_of c.args.body.now in
    let locals : List LocalTree = map (local_tree nodes.names (expr_of nodes)) c.args.parts.locals.now in
    let end = exprs_end names c.args.work.now.text c.lay_all.new.work.text c.put.new.text c.args.at.number c.args.at.next (code_of nodes c.args.parts.body.0) (c.in_ok-lay_all.ensures.text names t) c.in_ok-put.ensures in
    subst (λ (s : CScope). c.put_initials.new.initials.items ≡ c.args.initials.now.items ++ initials_of s (length c.args.parts.params.now) (length c.put.new.text.exprs) locals) (sym t.scope) c.in_ok-put_initials.ensures.initials
    ∙ ap (λ n. c.args.initials.now.items ++ initials_of names.scope (length c.args.parts.params.now) n locals) end

pub returns-clause-end : goal.returns-clause-end
returns-clause-end c = λ names t.
    c.exprs_end-end.ensures ∙ exprs_end names c.args.work.now.text c.lay_all.new.work.text c.put.new.text c.args.at.number c.args.at.next (code_of (nodes_of c.args.body.now) c.args.parts.body.0) (c.in_ok-lay_all.ensures.text names t) c.in_ok-put.ensures
