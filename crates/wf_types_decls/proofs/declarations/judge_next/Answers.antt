use Rattle.std.proofs.Common.{◌∙◌, ◌≡◌, ◌++◌, ◌∷◌, [], List, Option}
use Rattle.std.proofs.lemmas.Result.{IfOk-weaker}
use Rattle.wf_named.specs.NamedTrees.{expr_trees, const_made}
use Rattle.wf_types_rules.specs.declared.meanings.Constant.{Constant}
use Rattle.wf_types_rules.specs.declared.settings.Setting.{Setting}
use Rattle.wf_types_rules.specs.DeclaredTypes.{among_constants, constant_made}
use Rattle.wf_types_decls.proofs.DeclarationLemmas.{constants_with}
use Rattle.wf_types_decls.proofs.declarations.judge_next.Goals as goal

pub returns-clause-around : goal.returns-clause-around
returns-clause-around c =
    let x = const_made c.args.nodes.now.texts (expr_trees c.args.nodes.now.exprs) c.args.constant.now in
    IfOk-weaker c.with_constant.result (λ (s : Setting). s ≡ record c.args.known { constants = c.args.known.constants ++ c.in_ok-of.of ∷ [] })
    (λ (s : Setting). (before : List (Option Constant)) → c.args.known ≡ among_constants before → s ≡ among_constants (before ++ constant_made before x ∷ []))
    (λ s e before k. constants_with before x c.args.known s c.in_ok-of.of e k (c.in_ok-of.ensures.of before (c.lent-around.ensures ∙ k))) c.with_constant.ensures
