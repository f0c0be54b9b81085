use Rattle.std.proofs.Common.{◌≡◌, ◌++◌, drop, map}
use Rattle.std.specs.List.{flat_map}
use Rattle.wf_named.specs.NamedTree.{VarTree, NamedStructTree}
use Rattle.wf_named.specs.NamedTrees.{expr_trees, struct_made}
use Rattle.wf_types_rules.specs.declared.settings.Role.TheVariants as roles
use Rattle.wf_types_rules.specs.DeclaredTypes.{declared}
use Rattle.wf_types_rules.specs.Parts.{variables_parts}
use Rattle.wf_types_exprs.specs.Judged.{judged}
use Rattle.wf_types_decls.proofs.declared_types.judge_fields.Given as goal

abbrev pub invariant-loop-structure : goal.invariant-loop-structure
invariant-loop-structure l =
    let made = struct_made l.here.nodes.now.texts (expr_trees l.here.nodes.now.exprs) in
    (judged l.here.around.now l.found (flat_map (λ (x : NamedStructTree). variables_parts roles.Field x.fields) (map made (drop l.structure-index l.here.nodes.now.structs)))
    ≡ judged l.here.around.now l.fn.found (flat_map (λ (x : NamedStructTree). variables_parts roles.Field x.fields) (map made l.here.nodes.now.structs)))
    × ((l.all ++ map (λ (x : NamedStructTree). map (λ (y : VarTree). declared l.here.around.now roles.Field y.of) x.fields) (map made (drop l.structure-index l.here.nodes.now.structs)))
    ≡ map (λ (x : NamedStructTree). map (λ (y : VarTree). declared l.here.around.now roles.Field y.of) x.fields) (map made l.here.nodes.now.structs))
