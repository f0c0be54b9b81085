use Rattle.std.proofs.Common.{◌≡◌, ◌∙◌, ◌++◌, ◌∷◌, ◌<◌, ◌≤◌, [], sym, ap, drop, length, map, get_or, arith}
use Rattle.std.proofs.lemmas.List.{append-nil}
use Rattle.wf_named.specs.NamedParts.{named_package}
use Rattle.wf_named.specs.NamedTrees.{expr_trees, stmt_trees, method_made}
use Rattle.wf_types_rules.specs.DeclaredTypes.{method_type}
use Rattle.wf_types_decls.proofs.DeclarationLemmas.{all_passed, known_next}
use Rattle.wf_types_decls.proofs.HeadLemmas.{heads_long, heads_at, type_in_head}
use Rattle.wf_types_decls.proofs.heads.method_types.Goals as goal

pub bounds-heads-number : goal.bounds-heads-number
bounds-heads-number c =
    let long = heads_long c.args.nodes.now c.args.heads.now c.requires in
    let same = ap length c.methods-methods.ensures.all in
    omega (arith, long, same, c.loop-number-test.true)

pub loop-number-preserved : goal.loop-number-preserved
loop-number-preserved c =
    let n = c.args.nodes.now in
    let made = method_made n.texts (expr_trees n.exprs) (stmt_trees n.texts n.exprs n.stmts) in
    let l = c.loop-number in
    let m = c.index-methods-number.result in
    let low : l.number < length n.methods = rw c.methods-methods.ensures.all at c.loop-number-test.true in
    let is : m ≡ get_or n.methods l.number m = rw c.methods-methods.ensures.all at c.index-methods-number.is in
    let head = heads_at n c.args.heads.now c.requires l.number m c.index-heads-number.result low is c.index-heads-number.is in
    known_next made c.methods-methods.result.now n.methods c.methods-methods.ensures.all l.number m m c.index-methods-number.is c.loop-number-test.true (method_type (named_package n)) l.all c.push.new.self
    (c.in_ok-push.ensures.ok ∙ ap (λ t. l.all ++ t ∷ []) (type_in_head (named_package n) (made m) c.index-heads-number.result head c.in_ok-of.of c.in_ok-of.ensures)) ∙ l.invariant

pub returns : goal.returns
returns c =
    let n = c.args.nodes.now in
    let made = method_made n.texts (expr_trees n.exprs) (stmt_trees n.texts n.exprs n.stmts) in
    let l = c.loop-number in
    let past : length c.methods-methods.result.now ≤ l.number = omega (arith, c.loop-number-test.false) in
    let over : drop l.number n.methods ≡ [] = all_passed c.methods-methods.result.now n.methods l.number c.methods-methods.ensures.all past in
    sym (append-nil l.all) ∙ sym (ap (λ xs. l.all ++ map (method_type (named_package n)) (map made xs)) over) ∙ l.invariant
