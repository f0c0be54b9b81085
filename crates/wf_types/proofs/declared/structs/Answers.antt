use Rattle.std.proofs.Common.{◌≡◌, ◌∙◌, ◌∷◌, ◌++◌, ◌<◌, [], length, map, get_or, ap, arith}
use Rattle.std.proofs.lemmas.List.{length-map}
use Rattle.wf_named.specs.NamedParts.{named_package}
use Rattle.wf_named.specs.NamedTree.{VarTree}
use Rattle.wf_named.specs.NamedTrees.{expr_trees, var_made}
use Rattle.wf_types_rules.specs.declared.settings.Role.TheVariants as roles
use Rattle.wf_types_rules.specs.DeclaredTypes.{declared, for_types}
use Rattle.wf_types.specs.DeclaredNodes.{struct_with, declared_struct}
use Rattle.wf_types.proofs.DeclaredLemmas.{made_next, fields_long, fields_at}
use Rattle.wf_types.proofs.declared.structs.Goals as goal

pub bounds-fields-number : goal.bounds-fields-number
bounds-fields-number c =
    let long = fields_long c.args.nodes.now c.args.fields.now c.requires in
    let same = ap length c.structs-of.ensures.all in
    omega (arith, long, same, c.loop-number-test.true)

pub structure-requires : goal.structure-requires
structure-requires c =
    let q = c.args.nodes.now in
    let i = c.loop-number.number in
    let s = c.index-of-number.result in
    let low : i < length q.structs = rw c.structs-of.ensures.all at c.loop-number-test.true in
    let is : s ≡ get_or q.structs i s = rw c.structs-of.ensures.all at c.index-of-number.is in
    let made = var_made q.texts (expr_trees q.exprs) in
    ap length (c.as_slice.ensures ∙ fields_at q c.args.fields.now c.requires i s c.index-fields-number.result low is c.index-fields-number.is)
    ∙ length-map (map made s.fields) (λ (x : VarTree). declared (for_types (named_package q)) roles.Field x.of) ∙ length-map s.fields made

pub loop-number-preserved : goal.loop-number-preserved
loop-number-preserved c =
    let q = c.args.nodes.now in
    let i = c.loop-number.number in
    let s = c.index-of-number.result in
    let low : i < length q.structs = rw c.structs-of.ensures.all at c.loop-number-test.true in
    let is : s ≡ get_or q.structs i s = rw c.structs-of.ensures.all at c.index-of-number.is in
    let one : c.in_ok-one.one ≡ declared_struct q s =
    c.in_ok-one.ensures ∙ ap (struct_with s) (c.as_slice.ensures ∙ fields_at q c.args.fields.now c.requires i s c.index-fields-number.result low is c.index-fields-number.is) in
    made_next (declared_struct q) q.structs i s low is c.loop-number.all c.push.new.self (c.in_ok-push.ensures.ok ∙ ap (λ x. c.loop-number.all ++ x ∷ []) one) ∙ c.loop-number.invariant
