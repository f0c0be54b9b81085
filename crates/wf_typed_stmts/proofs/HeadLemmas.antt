-- What stands before a loop's body.
use Rattle.std.proofs.Common.{◌≡◌, ◌∙◌, ap, Bool, List}
use Rattle.wf_text.specs.declared.place.Place.{Place}
use Rattle.wf_ast.specs.declared.numbers.ExprId.{ExprId}
use Rattle.wf_ast.specs.declared.parsed.Clause.{Clause}
use Rattle.wf_ast.specs.declared.typed_nodes.TypedNodes.{TypedNodes}
use Rattle.wf_ast.specs.TypedTree.{CondTree, Head}
use Rattle.wf_ast.specs.TypedTrees.{cond_in, tree_of}
use Rattle.wf_named.specs.NamedTree.{NamedExprTree, NamedClauseTrees, NamedBlockTree}
use Rattle.wf_types_rules.specs.declared.settings.Setting.{Setting}
use Rattle.wf_types_rules.specs.Judgements.{block_leaves, closing_brace}
use Rattle.wf_typed_tree.specs.ElaboratedExprs.{expr_tree}
use Rattle.wf_typed_tree.specs.ElaboratedStmts.{clause_trees}
use Rattle.wf_typed_stmts.specs.Parts.{HasTree, conditions_made, StandForClauses, StandsForHead}
use Rattle.wf_typed_stmts.specs.StmtGrowth.{GrowsExprs}
use Rattle.wf_typed_stmts.proofs.GrowthLemmas.{stmts_of_exprs, has_kept}

pub head_made_so : (s : Setting) (e : NamedExprTree) (clauses : NamedClauseTrees) (body : NamedBlockTree) (at : Place) (q r : TypedNodes) (cond : ExprId) (cs : List (Clause × ExprId)) (leaves : Bool)
    → HasTree (expr_tree s e) q cond → GrowsExprs q r → StandForClauses s clauses r cs → leaves ≡ block_leaves 0 body → at ≡ closing_brace body
    → StandsForHead s e clauses body at r (record { cond = cond; clauses = cs; has_break = leaves })
head_made_so s e clauses body at q r cond cs leaves h g k l c =
    let it = has_kept (expr_tree s e) q r cond (stmts_of_exprs q r g) h in
    let H : CondTree → List (Clause × CondTree) → Bool → Place → Head = λ a b left place. record { cond = a; clauses = b; is_left = left; close = place } in
    record {
      there = it.there;
      clauses_there = k.there;
      means =
          ap (λ t. H (cond_in t) (conditions_made (tree_of r) cs) leaves at) it.is ∙ ap (λ ts. H (cond_in (expr_tree s e)) ts leaves at) k.trees
          ∙ ap (λ b. H (cond_in (expr_tree s e)) (clause_trees s clauses) b at) l
          ∙ ap (λ b. H (cond_in (expr_tree s e)) (clause_trees s clauses) (block_leaves 0 body) b) c;
    }
