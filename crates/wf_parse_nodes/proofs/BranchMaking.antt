-- That what is made by the actions of branches is what the machine makes.
use Rattle.std.proofs.Common.{◌≡◌, ℕ, true, if◌then◌else◌, None, Some, List, [], ◌∷◌, refl, ap}
use Rattle.wf_ast.specs.ParsedTree.{ExprTree, StmtTree, DeclTree}
use Rattle.wf_ast.specs.ParsedTree as tree
use Rattle.wf_ast.specs.ParsedTrees.{expr_at, block_at}
use Rattle.wf_ast.proofs.TreeLemmas.{all_push}
use Rattle.wf_parse_grammar.specs.declared.symbols.Action.TheVariants as does
use Rattle.wf_parse_grammar.specs.Values as val
use Rattle.wf_parse_grammar.specs.Values.{Made, perform}
use Rattle.wf_parse_nodes.specs.declared.values.SemanticValue.{SemanticValue}
use Rattle.wf_parse_nodes.specs.declared.values.SemanticValue.TheVariants as vals
use Rattle.wf_parse_nodes.specs.Making.{making}
use Rattle.wf_parse_nodes.specs.Seen.{seen_values, ValuesBelow, ProductParts, made_with, seen_arm, seen_clause}
use Rattle.wf_parse_nodes.specs.Shapes.{fits, takes}
use Rattle.wf_parse_nodes.proofs.SeenLists.{added, clauses_seen, arms_seen, otherwise_seen}

module _ (es : List ExprTree) (ss : List StmtTree) (ds : List DeclTree) where
  pub add_arm-made : (vs : List SemanticValue) → (if fits (takes does.AddArm) vs then made_with es ss (making does.AddArm vs).product (seen_values es ss (making does.AddArm vs).vals) ds else record { vals = []; decls = ds }) ≡ perform does.AddArm (record { vals = seen_values es ss vs; decls = ds })
  add_arm-made (vals.Block body ∷ vals.Expr condition ∷ vals.Arms arms ∷ vs) = ap (λ x. let made : Made = record { vals = val.arms x ∷ seen_values es ss vs; decls = ds } in made) (added (seen_arm es ss) arms (record { condition = condition; body = body }))
  add_arm-made (vals.Block _ ∷ vals.Expr _ ∷ []) = refl
  add_arm-made (vals.Block _ ∷ vals.Expr _ ∷ v ∷ vs) = refl
  add_arm-made (vals.Block _ ∷ []) = refl
  add_arm-made (vals.Block _ ∷ v ∷ vs) = refl
  add_arm-made [] = refl
  add_arm-made (v ∷ vs) = refl

  pub some_else-made : (vs : List SemanticValue) → (if fits (takes does.SomeElse) vs then made_with es ss (making does.SomeElse vs).product (seen_values es ss (making does.SomeElse vs).vals) ds else record { vals = []; decls = ds }) ≡ perform does.SomeElse (record { vals = seen_values es ss vs; decls = ds })
  some_else-made (vals.Block body ∷ vs) = refl
  some_else-made [] = refl
  some_else-made (v ∷ vs) = refl

  pub if_stmt-made : (vs : List SemanticValue) → (if fits (takes does.IfStmt) vs then made_with es ss (making does.IfStmt vs).product (seen_values es ss (making does.IfStmt vs).vals) ds else record { vals = []; decls = ds }) ≡ perform does.IfStmt (record { vals = seen_values es ss vs; decls = ds })
  if_stmt-made (vals.Otherwise otherwise ∷ vals.Arms arms ∷ vals.Place at ∷ vs) = ap (λ x. let made : Made = record { vals = val.stmt (tree.branch x at) ∷ seen_values es ss vs; decls = ds } in made) (arms_seen es ss arms _ _ (otherwise_seen ss otherwise))
  if_stmt-made (vals.Otherwise _ ∷ vals.Arms _ ∷ []) = refl
  if_stmt-made (vals.Otherwise _ ∷ vals.Arms _ ∷ v ∷ vs) = refl
  if_stmt-made (vals.Otherwise _ ∷ []) = refl
  if_stmt-made (vals.Otherwise _ ∷ v ∷ vs) = refl
  if_stmt-made [] = refl
  if_stmt-made (v ∷ vs) = refl

  pub add_clause-made : (kind : _) (vs : List SemanticValue) → (if fits (takes (does.AddClause kind)) vs then made_with es ss (making (does.AddClause kind) vs).product (seen_values es ss (making (does.AddClause kind) vs).vals) ds else record { vals = []; decls = ds }) ≡ perform (does.AddClause kind) (record { vals = seen_values es ss vs; decls = ds })
  add_clause-made kind (vals.Expr condition ∷ vals.Place at ∷ vals.Clauses clauses ∷ vs) = ap (λ x. let made : Made = record { vals = val.clauses x ∷ seen_values es ss vs; decls = ds } in made) (added (seen_clause es) clauses (record { kind = kind; condition = condition; at = at }))
  add_clause-made kind (vals.Expr _ ∷ vals.Place _ ∷ []) = refl
  add_clause-made kind (vals.Expr _ ∷ vals.Place _ ∷ v ∷ vs) = refl
  add_clause-made kind (vals.Expr _ ∷ []) = refl
  add_clause-made kind (vals.Expr _ ∷ v ∷ vs) = refl
  add_clause-made kind [] = refl
  add_clause-made kind (v ∷ vs) = refl

  pub loop_stmt-made : (vs : List SemanticValue) → (if fits (takes does.LoopStmt) vs then made_with es ss (making does.LoopStmt vs).product (seen_values es ss (making does.LoopStmt vs).vals) ds else record { vals = []; decls = ds }) ≡ perform does.LoopStmt (record { vals = seen_values es ss vs; decls = ds })
  loop_stmt-made (vals.Block body ∷ vals.Clauses clauses ∷ vals.Expr condition ∷ vals.Place at ∷ vs) = ap (λ x. let made : Made = record { vals = val.stmt (tree.loop None (expr_at es condition) x (block_at ss body) at) ∷ seen_values es ss vs; decls = ds } in made) (clauses_seen es clauses)
  loop_stmt-made (vals.Block _ ∷ vals.Clauses _ ∷ vals.Expr _ ∷ []) = refl
  loop_stmt-made (vals.Block _ ∷ vals.Clauses _ ∷ vals.Expr _ ∷ v ∷ vs) = refl
  loop_stmt-made (vals.Block _ ∷ vals.Clauses _ ∷ []) = refl
  loop_stmt-made (vals.Block _ ∷ vals.Clauses _ ∷ v ∷ vs) = refl
  loop_stmt-made (vals.Block _ ∷ []) = refl
  loop_stmt-made (vals.Block _ ∷ v ∷ vs) = refl
  loop_stmt-made [] = refl
  loop_stmt-made (v ∷ vs) = refl

  pub labelled_stmt-made : (vs : List SemanticValue) → (if fits (takes does.LabelledStmt) vs then made_with es ss (making does.LabelledStmt vs).product (seen_values es ss (making does.LabelledStmt vs).vals) ds else record { vals = []; decls = ds }) ≡ perform does.LabelledStmt (record { vals = seen_values es ss vs; decls = ds })
  labelled_stmt-made (vals.Block body ∷ vals.Clauses clauses ∷ vals.Expr condition ∷ vals.Name label ∷ vals.Place at ∷ vs) = ap (λ x. let made : Made = record { vals = val.stmt (tree.loop (Some label) (expr_at es condition) x (block_at ss body) at) ∷ seen_values es ss vs; decls = ds } in made) (clauses_seen es clauses)
  labelled_stmt-made (vals.Block _ ∷ vals.Clauses _ ∷ vals.Expr _ ∷ vals.Name _ ∷ []) = refl
  labelled_stmt-made (vals.Block _ ∷ vals.Clauses _ ∷ vals.Expr _ ∷ vals.Name _ ∷ v ∷ vs) = refl
  labelled_stmt-made (vals.Block _ ∷ vals.Clauses _ ∷ vals.Expr _ ∷ []) = refl
  labelled_stmt-made (vals.Block _ ∷ vals.Clauses _ ∷ vals.Expr _ ∷ v ∷ vs) = refl
  labelled_stmt-made (vals.Block _ ∷ vals.Clauses _ ∷ []) = refl
  labelled_stmt-made (vals.Block _ ∷ vals.Clauses _ ∷ v ∷ vs) = refl
  labelled_stmt-made (vals.Block _ ∷ []) = refl
  labelled_stmt-made (vals.Block _ ∷ v ∷ vs) = refl
  labelled_stmt-made [] = refl
  labelled_stmt-made (v ∷ vs) = refl

  pub some_label-made : (vs : List SemanticValue) → (if fits (takes does.SomeLabel) vs then made_with es ss (making does.SomeLabel vs).product (seen_values es ss (making does.SomeLabel vs).vals) ds else record { vals = []; decls = ds }) ≡ perform does.SomeLabel (record { vals = seen_values es ss vs; decls = ds })
  some_label-made (vals.Name name ∷ vs) = refl
  some_label-made [] = refl
  some_label-made (v ∷ vs) = refl

  pub break_stmt-made : (vs : List SemanticValue) → (if fits (takes does.BreakStmt) vs then made_with es ss (making does.BreakStmt vs).product (seen_values es ss (making does.BreakStmt vs).vals) ds else record { vals = []; decls = ds }) ≡ perform does.BreakStmt (record { vals = seen_values es ss vs; decls = ds })
  break_stmt-made (vals.Label label ∷ vals.Place at ∷ vs) = refl
  break_stmt-made (vals.Label _ ∷ []) = refl
  break_stmt-made (vals.Label _ ∷ v ∷ vs) = refl
  break_stmt-made [] = refl
  break_stmt-made (v ∷ vs) = refl

  pub continue_stmt-made : (vs : List SemanticValue) → (if fits (takes does.ContinueStmt) vs then made_with es ss (making does.ContinueStmt vs).product (seen_values es ss (making does.ContinueStmt vs).vals) ds else record { vals = []; decls = ds }) ≡ perform does.ContinueStmt (record { vals = seen_values es ss vs; decls = ds })
  continue_stmt-made (vals.Label label ∷ vals.Place at ∷ vs) = refl
  continue_stmt-made (vals.Label _ ∷ []) = refl
  continue_stmt-made (vals.Label _ ∷ v ∷ vs) = refl
  continue_stmt-made [] = refl
  continue_stmt-made (v ∷ vs) = refl

module _ (e k : ℕ) where
  pub add_arm-below : (vs : List SemanticValue) → fits (takes does.AddArm) vs ≡ true → ValuesBelow e k vs → ProductParts e k (making does.AddArm vs).product × ValuesBelow e k (making does.AddArm vs).vals
  add_arm-below (vals.Block body ∷ vals.Expr condition ∷ vals.Arms arms ∷ vs) f h = (all_push _ arms _ h.1.1.0 (h.1.0, h.0), h.1.1.1)
  add_arm-below (vals.Block _ ∷ vals.Expr _ ∷ []) f h = absurd (cc f)
  add_arm-below (vals.Block _ ∷ vals.Expr _ ∷ v ∷ vs) f h = absurd (cc f)
  add_arm-below (vals.Block _ ∷ []) f h = absurd (cc f)
  add_arm-below (vals.Block _ ∷ v ∷ vs) f h = absurd (cc f)
  add_arm-below [] f h = absurd (cc f)
  add_arm-below (v ∷ vs) f h = absurd (cc f)

  pub some_else-below : (vs : List SemanticValue) → fits (takes does.SomeElse) vs ≡ true → ValuesBelow e k vs → ProductParts e k (making does.SomeElse vs).product × ValuesBelow e k (making does.SomeElse vs).vals
  some_else-below (vals.Block body ∷ vs) f h = (h.0, h.1)
  some_else-below [] f h = absurd (cc f)
  some_else-below (v ∷ vs) f h = absurd (cc f)

  pub if_stmt-below : (vs : List SemanticValue) → fits (takes does.IfStmt) vs ≡ true → ValuesBelow e k vs → ProductParts e k (making does.IfStmt vs).product × ValuesBelow e k (making does.IfStmt vs).vals
  if_stmt-below (vals.Otherwise otherwise ∷ vals.Arms arms ∷ vals.Place at ∷ vs) f h = ((h.1.0, h.0), h.1.1.1)
  if_stmt-below (vals.Otherwise _ ∷ vals.Arms _ ∷ []) f h = absurd (cc f)
  if_stmt-below (vals.Otherwise _ ∷ vals.Arms _ ∷ v ∷ vs) f h = absurd (cc f)
  if_stmt-below (vals.Otherwise _ ∷ []) f h = absurd (cc f)
  if_stmt-below (vals.Otherwise _ ∷ v ∷ vs) f h = absurd (cc f)
  if_stmt-below [] f h = absurd (cc f)
  if_stmt-below (v ∷ vs) f h = absurd (cc f)

  pub add_clause-below : (kind : _) (vs : List SemanticValue) → fits (takes (does.AddClause kind)) vs ≡ true → ValuesBelow e k vs → ProductParts e k (making (does.AddClause kind) vs).product × ValuesBelow e k (making (does.AddClause kind) vs).vals
  add_clause-below kind (vals.Expr condition ∷ vals.Place at ∷ vals.Clauses clauses ∷ vs) f h = (all_push _ clauses _ h.1.1.0 h.0, h.1.1.1)
  add_clause-below kind (vals.Expr _ ∷ vals.Place _ ∷ []) f h = absurd (cc f)
  add_clause-below kind (vals.Expr _ ∷ vals.Place _ ∷ v ∷ vs) f h = absurd (cc f)
  add_clause-below kind (vals.Expr _ ∷ []) f h = absurd (cc f)
  add_clause-below kind (vals.Expr _ ∷ v ∷ vs) f h = absurd (cc f)
  add_clause-below kind [] f h = absurd (cc f)
  add_clause-below kind (v ∷ vs) f h = absurd (cc f)

  pub loop_stmt-below : (vs : List SemanticValue) → fits (takes does.LoopStmt) vs ≡ true → ValuesBelow e k vs → ProductParts e k (making does.LoopStmt vs).product × ValuesBelow e k (making does.LoopStmt vs).vals
  loop_stmt-below (vals.Block body ∷ vals.Clauses clauses ∷ vals.Expr condition ∷ vals.Place at ∷ vs) f h = ((h.1.1.0, h.1.0, h.0), h.1.1.1.1)
  loop_stmt-below (vals.Block _ ∷ vals.Clauses _ ∷ vals.Expr _ ∷ []) f h = absurd (cc f)
  loop_stmt-below (vals.Block _ ∷ vals.Clauses _ ∷ vals.Expr _ ∷ v ∷ vs) f h = absurd (cc f)
  loop_stmt-below (vals.Block _ ∷ vals.Clauses _ ∷ []) f h = absurd (cc f)
  loop_stmt-below (vals.Block _ ∷ vals.Clauses _ ∷ v ∷ vs) f h = absurd (cc f)
  loop_stmt-below (vals.Block _ ∷ []) f h = absurd (cc f)
  loop_stmt-below (vals.Block _ ∷ v ∷ vs) f h = absurd (cc f)
  loop_stmt-below [] f h = absurd (cc f)
  loop_stmt-below (v ∷ vs) f h = absurd (cc f)

  pub labelled_stmt-below : (vs : List SemanticValue) → fits (takes does.LabelledStmt) vs ≡ true → ValuesBelow e k vs → ProductParts e k (making does.LabelledStmt vs).product × ValuesBelow e k (making does.LabelledStmt vs).vals
  labelled_stmt-below (vals.Block body ∷ vals.Clauses clauses ∷ vals.Expr condition ∷ vals.Name label ∷ vals.Place at ∷ vs) f h = ((h.1.1.0, h.1.0, h.0), h.1.1.1.1.1)
  labelled_stmt-below (vals.Block _ ∷ vals.Clauses _ ∷ vals.Expr _ ∷ vals.Name _ ∷ []) f h = absurd (cc f)
  labelled_stmt-below (vals.Block _ ∷ vals.Clauses _ ∷ vals.Expr _ ∷ vals.Name _ ∷ v ∷ vs) f h = absurd (cc f)
  labelled_stmt-below (vals.Block _ ∷ vals.Clauses _ ∷ vals.Expr _ ∷ []) f h = absurd (cc f)
  labelled_stmt-below (vals.Block _ ∷ vals.Clauses _ ∷ vals.Expr _ ∷ v ∷ vs) f h = absurd (cc f)
  labelled_stmt-below (vals.Block _ ∷ vals.Clauses _ ∷ []) f h = absurd (cc f)
  labelled_stmt-below (vals.Block _ ∷ vals.Clauses _ ∷ v ∷ vs) f h = absurd (cc f)
  labelled_stmt-below (vals.Block _ ∷ []) f h = absurd (cc f)
  labelled_stmt-below (vals.Block _ ∷ v ∷ vs) f h = absurd (cc f)
  labelled_stmt-below [] f h = absurd (cc f)
  labelled_stmt-below (v ∷ vs) f h = absurd (cc f)

  pub some_label-below : (vs : List SemanticValue) → fits (takes does.SomeLabel) vs ≡ true → ValuesBelow e k vs → ProductParts e k (making does.SomeLabel vs).product × ValuesBelow e k (making does.SomeLabel vs).vals
  some_label-below (vals.Name name ∷ vs) f h = (tt, h.1)
  some_label-below [] f h = absurd (cc f)
  some_label-below (v ∷ vs) f h = absurd (cc f)

  pub break_stmt-below : (vs : List SemanticValue) → fits (takes does.BreakStmt) vs ≡ true → ValuesBelow e k vs → ProductParts e k (making does.BreakStmt vs).product × ValuesBelow e k (making does.BreakStmt vs).vals
  break_stmt-below (vals.Label label ∷ vals.Place at ∷ vs) f h = (tt, h.1.1)
  break_stmt-below (vals.Label _ ∷ []) f h = absurd (cc f)
  break_stmt-below (vals.Label _ ∷ v ∷ vs) f h = absurd (cc f)
  break_stmt-below [] f h = absurd (cc f)
  break_stmt-below (v ∷ vs) f h = absurd (cc f)

  pub continue_stmt-below : (vs : List SemanticValue) → fits (takes does.ContinueStmt) vs ≡ true → ValuesBelow e k vs → ProductParts e k (making does.ContinueStmt vs).product × ValuesBelow e k (making does.ContinueStmt vs).vals
  continue_stmt-below (vals.Label label ∷ vals.Place at ∷ vs) f h = (tt, h.1.1)
  continue_stmt-below (vals.Label _ ∷ []) f h = absurd (cc f)
  continue_stmt-below (vals.Label _ ∷ v ∷ vs) f h = absurd (cc f)
  continue_stmt-below [] f h = absurd (cc f)
  continue_stmt-below (v ∷ vs) f h = absurd (cc f)
