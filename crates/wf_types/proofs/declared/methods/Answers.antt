use Rattle.std.proofs.Common.{◌≡◌, ◌∙◌, ◌∷◌, ◌++◌, ◌<◌, [], length, map, get_or, ap, arith}
use Rattle.std.proofs.lemmas.List.{length-map}
use Rattle.wf_named.specs.NamedParts.{named_package}
use Rattle.wf_named.specs.NamedTree.{VarTree}
use Rattle.wf_named.specs.NamedTrees.{expr_trees, var_made}
use Rattle.wf_types_rules.specs.declared.settings.Role.TheVariants as roles
use Rattle.wf_types_rules.specs.DeclaredTypes.{declared, for_types}
use Rattle.wf_types_decls.specs.declared.heads.Head.{Head}
use Rattle.wf_types_decls.proofs.HeadLemmas.{heads_long, heads_at}
use Rattle.wf_types.specs.DeclaredNodes.{method_with, declared_method}
use Rattle.wf_types.proofs.DeclaredLemmas.{made_next}
use Rattle.wf_types.proofs.declared.methods.Goals as goal

pub bounds-heads-number : goal.bounds-heads-number
bounds-heads-number c =
    let long = heads_long c.args.nodes.now c.args.heads.now c.requires in
    let same = ap length c.methods-of.ensures.all in
    omega (arith, long, same, c.loop-number-test.true)

pub method-requires-clause-args : goal.method-requires-clause-args
method-requires-clause-args c =
    let q = c.args.nodes.now in
    let i = c.loop-number.number in
    let m = c.index-of-number.result in
    let low : i < length q.methods = rw c.methods-of.ensures.all at c.loop-number-test.true in
    let is : m ≡ get_or q.methods i m = rw c.methods-of.ensures.all at c.index-of-number.is in
    let made = var_made q.texts (expr_trees q.exprs) in
    ap (λ (h : Head). length h.args) (heads_at q c.args.heads.now c.requires i m c.index-heads-number.result low is c.index-heads-number.is)
    ∙ length-map (map made m.args) (λ (x : VarTree). declared (for_types (named_package q)) roles.Arg x.of) ∙ length-map m.args made

pub method-requires-clause-locals : goal.method-requires-clause-locals
method-requires-clause-locals c =
    let q = c.args.nodes.now in
    let i = c.loop-number.number in
    let m = c.index-of-number.result in
    let low : i < length q.methods = rw c.methods-of.ensures.all at c.loop-number-test.true in
    let is : m ≡ get_or q.methods i m = rw c.methods-of.ensures.all at c.index-of-number.is in
    let made = var_made q.texts (expr_trees q.exprs) in
    ap (λ (h : Head). length h.locals) (heads_at q c.args.heads.now c.requires i m c.index-heads-number.result low is c.index-heads-number.is)
    ∙ length-map (map made m.locals) (λ (x : VarTree). declared (for_types (named_package q)) roles.Local x.of) ∙ length-map m.locals made

pub loop-number-preserved : goal.loop-number-preserved
loop-number-preserved c =
    let q = c.args.nodes.now in
    let i = c.loop-number.number in
    let m = c.index-of-number.result in
    let low : i < length q.methods = rw c.methods-of.ensures.all at c.loop-number-test.true in
    let is : m ≡ get_or q.methods i m = rw c.methods-of.ensures.all at c.index-of-number.is in
    let one : c.in_ok-one.one ≡ declared_method q m =
    c.in_ok-one.ensures
    ∙ ap (λ (h : Head). method_with m h.args h.locals h.gives) (heads_at q c.args.heads.now c.requires i m c.index-heads-number.result low is c.index-heads-number.is) in
    made_next (declared_method q) q.methods i m low is c.loop-number.all c.push.new.self (c.in_ok-push.ensures.ok ∙ ap (λ x. c.loop-number.all ++ x ∷ []) one) ∙ c.loop-number.invariant
