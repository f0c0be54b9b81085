use Rattle.std.proofs.Common.{map, refl, sym, subst}
use Rattle.wf_ast.specs.declared.typed_code.Callee.{Callee}
use Rattle.wf_ast.specs.TypedTree.{own, sub}
use Rattle.wf_ast.specs.TypedTrees.{call_made, optional_target, tree_of}
use Rattle.wf_facts_exprs.specs.Claims.{claims_in}
use Rattle.wf_bounds_stmts.specs.Outcomes.{Leaves}
use Rattle.wf_bounds_stmts.proofs.CallLemmas.{own_long, sub_long}
use Rattle.wf_bounds_stmts.proofs.calls.call.Goals as goal

pub call_method-requires-clause-all : goal.call_method-requires-clause-all
call_method-requires-clause-all c =
    own_long c.args.t.now c.args.call.at (optional_target (tree_of c.args.t.now) c.args.call.target) c.args.call.keep c.args.call.callee c.args.call.args.now c.requires.well c.in-Own.m c.in-Own.is

pub call_method-requires-in-Sub-clause-all : goal.call_method-requires-in-Sub-clause-all
call_method-requires-in-Sub-clause-all c =
    sub_long c.args.t.now c.args.call.at (optional_target (tree_of c.args.t.now) c.args.call.target) c.args.call.keep c.args.call.callee c.args.call.args.now c.requires.well c.in-Sub.field c.in-Sub.method c.in-Sub.is

pub returns-in-Own-clause-leaves : goal.returns-in-Own-clause-leaves
returns-in-Own-clause-leaves c =
    let t = c.args.t.now in
    let P : Callee → Type 0 = λ callee. Leaves t (claims_in t c.args.facts.now.list) (call_made t (tree_of t) c.args.call.at (optional_target (tree_of t) c.args.call.target) c.args.call.keep callee (map (tree_of t) c.args.call.args.now)) c.call_method.result c.call_method.new.facts in
    subst P (sym c.in-Own.is) (c.call_method.ensures.leaves (own c.in-Own.m.0) refl c.requires.typed.bodied)

pub returns-in-Sub-clause-leaves : goal.returns-in-Sub-clause-leaves
returns-in-Sub-clause-leaves c =
    let t = c.args.t.now in
    let P : Callee → Type 0 = λ callee. Leaves t (claims_in t c.args.facts.now.list) (call_made t (tree_of t) c.args.call.at (optional_target (tree_of t) c.args.call.target) c.args.call.keep callee (map (tree_of t) c.args.call.args.now)) c.call_method-in-Sub.result c.call_method-in-Sub.new.facts in
    subst P (sym c.in-Sub.is) (c.call_method-in-Sub.ensures.leaves (sub c.in-Sub.field.0 c.in-Sub.method.0) refl c.requires.typed.bodied)

pub returns-in-Base-clause-leaves : goal.returns-in-Base-clause-leaves
returns-in-Base-clause-leaves c =
    let t = c.args.t.now in
    let P : Callee → Type 0 = λ callee. Leaves t (claims_in t c.args.facts.now.list) (call_made t (tree_of t) c.args.call.at (optional_target (tree_of t) c.args.call.target) c.args.call.keep callee (map (tree_of t) c.args.call.args.now)) c.call_base.result c.call_base.new.facts in
    subst P (sym c.in-Base.is) c.call_base.ensures.leaves
