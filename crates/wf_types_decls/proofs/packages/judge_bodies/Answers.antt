use Rattle.std.proofs.Common.{◌≡◌, ◌∙◌, ◌<◌, ◌≤◌, [], sym, ap, drop, length, map, get_or, arith}
use Rattle.std.specs.List.{flat_map}
use Rattle.wf_named.specs.NamedParts.{named_package}
use Rattle.wf_named.specs.NamedTrees.{expr_trees, stmt_trees, method_made}
use Rattle.wf_types_decls.specs.Packages.{decided, body_sites}
use Rattle.wf_types_decls.proofs.DeclarationLemmas.{all_passed, sites_next, decided-none}
use Rattle.wf_types_decls.proofs.HeadLemmas.{heads_long, heads_at, body_decided}
use Rattle.wf_types_decls.proofs.packages.judge_bodies.Goals as goal

pub bounds-heads-number : goal.bounds-heads-number
bounds-heads-number c =
    let long = heads_long c.args.nodes.now c.args.heads.now c.requires.heads in
    let same = ap length c.methods-methods.ensures.all in
    omega (arith, long, same, c.loop-number-test.true)

pub round_body-inside-requires-clause-head : goal.round_body-inside-requires-clause-head
round_body-inside-requires-clause-head c =
    let n = c.args.nodes.now in
    let i = c.loop-number.number in
    let m = c.index-methods-number.result in
    let low : i < length n.methods = rw c.methods-methods.ensures.all at c.loop-number-test.true in
    let is : m ≡ get_or n.methods i m = rw c.methods-methods.ensures.all at c.index-methods-number.is in
    heads_at n c.args.heads.now c.requires.heads i m c.index-heads-number.result low is c.index-heads-number.is

pub loop-number-preserved : goal.loop-number-preserved
loop-number-preserved c =
    let n = c.args.nodes.now in
    let p = named_package n in
    let made = method_made n.texts (expr_trees n.exprs) (stmt_trees n.texts n.exprs n.stmts) in
    let l = c.loop-number in
    let m = c.index-methods-number.result in
    sites_next made c.methods-methods.result.now n.methods c.methods-methods.ensures.all l.number m m c.index-methods-number.is c.loop-number-test.true (body_sites p) l.found c.judge_body.new.found
    (body_decided p (made m) c.round_body-inside.result l.found c.judge_body.new.found c.round_body-inside.ensures c.in_ok-judge_body.ensures) ∙ l.invariant

pub returns : goal.returns
returns c =
    let n = c.args.nodes.now in
    let made = method_made n.texts (expr_trees n.exprs) (stmt_trees n.texts n.exprs n.stmts) in
    let l = c.loop-number in
    let past : length c.methods-methods.result.now ≤ l.number = omega (arith, c.loop-number-test.false) in
    let over : drop l.number n.methods ≡ [] = all_passed c.methods-methods.result.now n.methods l.number c.methods-methods.ensures.all past in
    sym (decided-none l.found) ∙ sym (ap (λ xs. decided l.found (flat_map (body_sites (named_package n)) (map made xs))) over) ∙ l.invariant
