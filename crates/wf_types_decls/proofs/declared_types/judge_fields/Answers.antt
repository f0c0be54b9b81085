use Rattle.std.proofs.Common.{◌≡◌, ◌∙◌, ◌++◌, ◌∷◌, ◌≤◌, [], sym, ap, drop, length, map, arith}
use Rattle.std.specs.List.{flat_map}
use Rattle.std.proofs.lemmas.List.{append-nil}
use Rattle.wf_named.specs.NamedTree.{VarTree, NamedStructTree}
use Rattle.wf_named.specs.NamedTrees.{expr_trees, struct_made}
use Rattle.wf_types_rules.specs.declared.settings.Role.TheVariants as roles
use Rattle.wf_types_rules.specs.DeclaredTypes.{declared}
use Rattle.wf_types_rules.specs.Parts.{variables_parts}
use Rattle.wf_types_exprs.specs.Judged.{judged}
use Rattle.wf_types_exprs.proofs.JudgedLaws.{judged-none}
use Rattle.wf_types_decls.proofs.DeclarationLemmas.{all_passed, parts_next, known_next}
use Rattle.wf_types_decls.proofs.declared_types.judge_fields.Goals as goal

pub loop-structure-preserved : goal.loop-structure-preserved
loop-structure-preserved c =
    let s = c.args.here.now.around.now in
    let made = struct_made c.args.here.now.nodes.now.texts (expr_trees c.args.here.now.nodes.now.exprs) in
    let items = c.structs-structure-items.result.now in
    let xs = c.args.here.now.nodes.now.structs in
    let l = c.loop-structure in
    let fields : _ ≡ map (λ (y : VarTree). declared s roles.Field y.of) (made c.structure-item.result).fields = rw c.as_slice.ensures at c.in_ok-fields.ensures.of in (
      parts_next made items xs c.structs-structure-items.ensures.all l.structure-index c.structure-item.result c.structure-item.result c.structure-item.is c.loop-structure-test.true s (λ (x : NamedStructTree). variables_parts roles.Field x.fields) l.found
          c.judge_variables.new.found (rw c.as_slice.ensures at c.in_ok-fields.ensures.found) ∙ l.invariant.0,
      known_next made items xs c.structs-structure-items.ensures.all l.structure-index c.structure-item.result c.structure-item.result c.structure-item.is c.loop-structure-test.true
          (λ (x : NamedStructTree). map (λ (y : VarTree). declared s roles.Field y.of) x.fields) l.all c.push.new.self (c.in_ok-push.ensures.ok ∙ ap (λ ts. l.all ++ ts ∷ []) fields) ∙ l.invariant.1,
    )

pub returns-clause-found : goal.returns-clause-found
returns-clause-found c =
    let made = struct_made c.args.here.now.nodes.now.texts (expr_trees c.args.here.now.nodes.now.exprs) in
    let l = c.loop-structure in
    let past : length c.structs-structure-items.result.now ≤ l.structure-index = omega (arith, c.loop-structure-test.false) in
    let over : drop l.structure-index c.args.here.now.nodes.now.structs ≡ [] = all_passed c.structs-structure-items.result.now c.args.here.now.nodes.now.structs l.structure-index c.structs-structure-items.ensures.all past in
    judged-none c.args.here.now.around.now l.found
    ∙ sym (ap (λ xs. judged c.args.here.now.around.now l.found (flat_map (λ (x : NamedStructTree). variables_parts roles.Field x.fields) (map made xs))) over) ∙ l.invariant.0

pub returns-clause-of : goal.returns-clause-of
returns-clause-of c =
    let made = struct_made c.args.here.now.nodes.now.texts (expr_trees c.args.here.now.nodes.now.exprs) in
    let l = c.loop-structure in
    let past : length c.structs-structure-items.result.now ≤ l.structure-index = omega (arith, c.loop-structure-test.false) in
    let over : drop l.structure-index c.args.here.now.nodes.now.structs ≡ [] = all_passed c.structs-structure-items.result.now c.args.here.now.nodes.now.structs l.structure-index c.structs-structure-items.ensures.all past in
    sym (append-nil l.all) ∙ sym (ap (λ xs. l.all ++ map (λ (x : NamedStructTree). map (λ (y : VarTree). declared c.args.here.now.around.now roles.Field y.of) x.fields) (map made xs)) over) ∙ l.invariant.1
