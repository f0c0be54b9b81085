-- That what is made by the actions of statements is what the machine makes.
use Rattle.std.proofs.Common.{◌≡◌, ℕ, true, if◌then◌else◌, List, [], ◌∷◌, refl, ap}
use Rattle.wf_ast.specs.ParsedTree.{ExprTree, StmtTree, DeclTree}
use Rattle.wf_ast.specs.ParsedTree as tree
use Rattle.wf_ast.specs.ParsedTrees.{stmt_at}
use Rattle.wf_ast.proofs.TreeLemmas.{all_push}
use Rattle.wf_parse_grammar.specs.declared.symbols.Action.TheVariants as does
use Rattle.wf_parse_grammar.specs.Values as val
use Rattle.wf_parse_grammar.specs.Values.{Made, perform}
use Rattle.wf_parse_nodes.specs.declared.values.SemanticValue.{SemanticValue}
use Rattle.wf_parse_nodes.specs.declared.values.SemanticValue.TheVariants as vals
use Rattle.wf_parse_nodes.specs.Making.{making}
use Rattle.wf_parse_nodes.specs.Seen.{seen_values, ValuesBelow, ProductParts, made_with}
use Rattle.wf_parse_nodes.specs.Shapes.{fits, takes}
use Rattle.wf_parse_nodes.proofs.SeenLists.{added, given_seen, items_seen}

module _ (es : List ExprTree) (ss : List StmtTree) (ds : List DeclTree) where
  pub add_stmt-made : (vs : List SemanticValue) → (if fits (takes does.AddStmt) vs then made_with es ss (making does.AddStmt vs).product (seen_values es ss (making does.AddStmt vs).vals) ds else record { vals = []; decls = ds }) ≡ perform does.AddStmt (record { vals = seen_values es ss vs; decls = ds })
  add_stmt-made (vals.Stmt stmt ∷ vals.Items items ∷ vs) = ap (λ x. let made : Made = record { vals = val.items x ∷ seen_values es ss vs; decls = ds } in made) (added (stmt_at ss) items stmt)
  add_stmt-made (vals.Stmt _ ∷ []) = refl
  add_stmt-made (vals.Stmt _ ∷ v ∷ vs) = refl
  add_stmt-made [] = refl
  add_stmt-made (v ∷ vs) = refl

  pub close_block-made : (close : _) (vs : List SemanticValue) → (if fits (takes (does.CloseBlock close)) vs then made_with es ss (making (does.CloseBlock close) vs).product (seen_values es ss (making (does.CloseBlock close) vs).vals) ds else record { vals = []; decls = ds }) ≡ perform (does.CloseBlock close) (record { vals = seen_values es ss vs; decls = ds })
  close_block-made close (vals.Items items ∷ vs) = ap (λ x. let made : Made = record { vals = val.block x ∷ seen_values es ss vs; decls = ds } in made) (items_seen ss items close)
  close_block-made close [] = refl
  close_block-made close (v ∷ vs) = refl

  pub var_stmt-made : (vs : List SemanticValue) → (if fits (takes does.VarStmt) vs then made_with es ss (making does.VarStmt vs).product (seen_values es ss (making does.VarStmt vs).vals) ds else record { vals = []; decls = ds }) ≡ perform does.VarStmt (record { vals = seen_values es ss vs; decls = ds })
  var_stmt-made (vals.Type of ∷ vals.Name name ∷ vals.Place at ∷ vs) = refl
  var_stmt-made (vals.Type _ ∷ vals.Name _ ∷ []) = refl
  var_stmt-made (vals.Type _ ∷ vals.Name _ ∷ v ∷ vs) = refl
  var_stmt-made (vals.Type _ ∷ []) = refl
  var_stmt-made (vals.Type _ ∷ v ∷ vs) = refl
  var_stmt-made [] = refl
  var_stmt-made (v ∷ vs) = refl

  pub path_target-made : (vs : List SemanticValue) → (if fits (takes does.PathTarget) vs then made_with es ss (making does.PathTarget vs).product (seen_values es ss (making does.PathTarget vs).vals) ds else record { vals = []; decls = ds }) ≡ perform does.PathTarget (record { vals = seen_values es ss vs; decls = ds })
  path_target-made (vals.Path path ∷ vs) = refl
  path_target-made [] = refl
  path_target-made (v ∷ vs) = refl

  pub element_target-made : (vs : List SemanticValue) → (if fits (takes does.ElementTarget) vs then made_with es ss (making does.ElementTarget vs).product (seen_values es ss (making does.ElementTarget vs).vals) ds else record { vals = []; decls = ds }) ≡ perform does.ElementTarget (record { vals = seen_values es ss vs; decls = ds })
  element_target-made (vals.Expr index ∷ vals.Place at ∷ vals.Path base ∷ vs) = refl
  element_target-made (vals.Expr _ ∷ vals.Place _ ∷ []) = refl
  element_target-made (vals.Expr _ ∷ vals.Place _ ∷ v ∷ vs) = refl
  element_target-made (vals.Expr _ ∷ []) = refl
  element_target-made (vals.Expr _ ∷ v ∷ vs) = refl
  element_target-made [] = refl
  element_target-made (v ∷ vs) = refl

  pub assign_stmt-made : (vs : List SemanticValue) → (if fits (takes does.AssignStmt) vs then made_with es ss (making does.AssignStmt vs).product (seen_values es ss (making does.AssignStmt vs).vals) ds else record { vals = []; decls = ds }) ≡ perform does.AssignStmt (record { vals = seen_values es ss vs; decls = ds })
  assign_stmt-made (vals.Expr value ∷ vals.Sign sign ∷ vals.Target target ∷ vals.Place at ∷ vs) = refl
  assign_stmt-made (vals.Expr _ ∷ vals.Sign _ ∷ vals.Target _ ∷ []) = refl
  assign_stmt-made (vals.Expr _ ∷ vals.Sign _ ∷ vals.Target _ ∷ v ∷ vs) = refl
  assign_stmt-made (vals.Expr _ ∷ vals.Sign _ ∷ []) = refl
  assign_stmt-made (vals.Expr _ ∷ vals.Sign _ ∷ v ∷ vs) = refl
  assign_stmt-made (vals.Expr _ ∷ []) = refl
  assign_stmt-made (vals.Expr _ ∷ v ∷ vs) = refl
  assign_stmt-made [] = refl
  assign_stmt-made (v ∷ vs) = refl

  pub keep_stmt-made : (vs : List SemanticValue) → (if fits (takes does.KeepStmt) vs then made_with es ss (making does.KeepStmt vs).product (seen_values es ss (making does.KeepStmt vs).vals) ds else record { vals = []; decls = ds }) ≡ perform does.KeepStmt (record { vals = seen_values es ss vs; decls = ds })
  keep_stmt-made (vals.Call call ∷ vals.Target target ∷ vals.Place at ∷ vs) = refl
  keep_stmt-made (vals.Call _ ∷ vals.Target _ ∷ []) = refl
  keep_stmt-made (vals.Call _ ∷ vals.Target _ ∷ v ∷ vs) = refl
  keep_stmt-made (vals.Call _ ∷ []) = refl
  keep_stmt-made (vals.Call _ ∷ v ∷ vs) = refl
  keep_stmt-made [] = refl
  keep_stmt-made (v ∷ vs) = refl

  pub call_stmt-made : (vs : List SemanticValue) → (if fits (takes does.CallStmt) vs then made_with es ss (making does.CallStmt vs).product (seen_values es ss (making does.CallStmt vs).vals) ds else record { vals = []; decls = ds }) ≡ perform does.CallStmt (record { vals = seen_values es ss vs; decls = ds })
  call_stmt-made (vals.Call call ∷ vals.Place at ∷ vs) = refl
  call_stmt-made (vals.Call _ ∷ []) = refl
  call_stmt-made (vals.Call _ ∷ v ∷ vs) = refl
  call_stmt-made [] = refl
  call_stmt-made (v ∷ vs) = refl

  pub return_stmt-made : (vs : List SemanticValue) → (if fits (takes does.ReturnStmt) vs then made_with es ss (making does.ReturnStmt vs).product (seen_values es ss (making does.ReturnStmt vs).vals) ds else record { vals = []; decls = ds }) ≡ perform does.ReturnStmt (record { vals = seen_values es ss vs; decls = ds })
  return_stmt-made (vals.Part value ∷ vals.Place at ∷ vs) = refl
  return_stmt-made (vals.Part _ ∷ []) = refl
  return_stmt-made (vals.Part _ ∷ v ∷ vs) = refl
  return_stmt-made [] = refl
  return_stmt-made (v ∷ vs) = refl

  pub yield_stmt-made : (vs : List SemanticValue) → (if fits (takes does.YieldStmt) vs then made_with es ss (making does.YieldStmt vs).product (seen_values es ss (making does.YieldStmt vs).vals) ds else record { vals = []; decls = ds }) ≡ perform does.YieldStmt (record { vals = seen_values es ss vs; decls = ds })
  yield_stmt-made (vals.Expr value ∷ vals.Place at ∷ vs) = refl
  yield_stmt-made (vals.Expr _ ∷ []) = refl
  yield_stmt-made (vals.Expr _ ∷ v ∷ vs) = refl
  yield_stmt-made [] = refl
  yield_stmt-made (v ∷ vs) = refl

  pub some_via-made : (vs : List SemanticValue) → (if fits (takes does.SomeVia) vs then made_with es ss (making does.SomeVia vs).product (seen_values es ss (making does.SomeVia vs).vals) ds else record { vals = []; decls = ds }) ≡ perform does.SomeVia (record { vals = seen_values es ss vs; decls = ds })
  some_via-made (vals.Givens given ∷ vals.Name axiom_name ∷ vs) = ap (λ x. let made : Made = record { vals = val.via (tree.via axiom_name x) ∷ seen_values es ss vs; decls = ds } in made) (given_seen es given)
  some_via-made (vals.Givens _ ∷ []) = refl
  some_via-made (vals.Givens _ ∷ v ∷ vs) = refl
  some_via-made [] = refl
  some_via-made (v ∷ vs) = refl

  pub assert_stmt-made : (vs : List SemanticValue) → (if fits (takes does.AssertStmt) vs then made_with es ss (making does.AssertStmt vs).product (seen_values es ss (making does.AssertStmt vs).vals) ds else record { vals = []; decls = ds }) ≡ perform does.AssertStmt (record { vals = seen_values es ss vs; decls = ds })
  assert_stmt-made (vals.Via via ∷ vals.Expr goal ∷ vals.Place at ∷ vs) = refl
  assert_stmt-made (vals.Via _ ∷ vals.Expr _ ∷ []) = refl
  assert_stmt-made (vals.Via _ ∷ vals.Expr _ ∷ v ∷ vs) = refl
  assert_stmt-made (vals.Via _ ∷ []) = refl
  assert_stmt-made (vals.Via _ ∷ v ∷ vs) = refl
  assert_stmt-made [] = refl
  assert_stmt-made (v ∷ vs) = refl

module _ (e k : ℕ) where
  pub add_stmt-below : (vs : List SemanticValue) → fits (takes does.AddStmt) vs ≡ true → ValuesBelow e k vs → ProductParts e k (making does.AddStmt vs).product × ValuesBelow e k (making does.AddStmt vs).vals
  add_stmt-below (vals.Stmt stmt ∷ vals.Items items ∷ vs) f h = (all_push _ items _ h.1.0 h.0, h.1.1)
  add_stmt-below (vals.Stmt _ ∷ []) f h = absurd (cc f)
  add_stmt-below (vals.Stmt _ ∷ v ∷ vs) f h = absurd (cc f)
  add_stmt-below [] f h = absurd (cc f)
  add_stmt-below (v ∷ vs) f h = absurd (cc f)

  pub close_block-below : (close : _) (vs : List SemanticValue) → fits (takes (does.CloseBlock close)) vs ≡ true → ValuesBelow e k vs → ProductParts e k (making (does.CloseBlock close) vs).product × ValuesBelow e k (making (does.CloseBlock close) vs).vals
  close_block-below close (vals.Items items ∷ vs) f h = (h.0, h.1)
  close_block-below close [] f h = absurd (cc f)
  close_block-below close (v ∷ vs) f h = absurd (cc f)

  pub var_stmt-below : (vs : List SemanticValue) → fits (takes does.VarStmt) vs ≡ true → ValuesBelow e k vs → ProductParts e k (making does.VarStmt vs).product × ValuesBelow e k (making does.VarStmt vs).vals
  var_stmt-below (vals.Type of ∷ vals.Name name ∷ vals.Place at ∷ vs) f h = (h.0, h.1.1.1)
  var_stmt-below (vals.Type _ ∷ vals.Name _ ∷ []) f h = absurd (cc f)
  var_stmt-below (vals.Type _ ∷ vals.Name _ ∷ v ∷ vs) f h = absurd (cc f)
  var_stmt-below (vals.Type _ ∷ []) f h = absurd (cc f)
  var_stmt-below (vals.Type _ ∷ v ∷ vs) f h = absurd (cc f)
  var_stmt-below [] f h = absurd (cc f)
  var_stmt-below (v ∷ vs) f h = absurd (cc f)

  pub path_target-below : (vs : List SemanticValue) → fits (takes does.PathTarget) vs ≡ true → ValuesBelow e k vs → ProductParts e k (making does.PathTarget vs).product × ValuesBelow e k (making does.PathTarget vs).vals
  path_target-below (vals.Path path ∷ vs) f h = (tt, h.1)
  path_target-below [] f h = absurd (cc f)
  path_target-below (v ∷ vs) f h = absurd (cc f)

  pub element_target-below : (vs : List SemanticValue) → fits (takes does.ElementTarget) vs ≡ true → ValuesBelow e k vs → ProductParts e k (making does.ElementTarget vs).product × ValuesBelow e k (making does.ElementTarget vs).vals
  element_target-below (vals.Expr index ∷ vals.Place at ∷ vals.Path base ∷ vs) f h = (h.0, h.1.1.1)
  element_target-below (vals.Expr _ ∷ vals.Place _ ∷ []) f h = absurd (cc f)
  element_target-below (vals.Expr _ ∷ vals.Place _ ∷ v ∷ vs) f h = absurd (cc f)
  element_target-below (vals.Expr _ ∷ []) f h = absurd (cc f)
  element_target-below (vals.Expr _ ∷ v ∷ vs) f h = absurd (cc f)
  element_target-below [] f h = absurd (cc f)
  element_target-below (v ∷ vs) f h = absurd (cc f)

  pub assign_stmt-below : (vs : List SemanticValue) → fits (takes does.AssignStmt) vs ≡ true → ValuesBelow e k vs → ProductParts e k (making does.AssignStmt vs).product × ValuesBelow e k (making does.AssignStmt vs).vals
  assign_stmt-below (vals.Expr value ∷ vals.Sign sign ∷ vals.Target target ∷ vals.Place at ∷ vs) f h = ((h.1.1.0, h.0), h.1.1.1.1)
  assign_stmt-below (vals.Expr _ ∷ vals.Sign _ ∷ vals.Target _ ∷ []) f h = absurd (cc f)
  assign_stmt-below (vals.Expr _ ∷ vals.Sign _ ∷ vals.Target _ ∷ v ∷ vs) f h = absurd (cc f)
  assign_stmt-below (vals.Expr _ ∷ vals.Sign _ ∷ []) f h = absurd (cc f)
  assign_stmt-below (vals.Expr _ ∷ vals.Sign _ ∷ v ∷ vs) f h = absurd (cc f)
  assign_stmt-below (vals.Expr _ ∷ []) f h = absurd (cc f)
  assign_stmt-below (vals.Expr _ ∷ v ∷ vs) f h = absurd (cc f)
  assign_stmt-below [] f h = absurd (cc f)
  assign_stmt-below (v ∷ vs) f h = absurd (cc f)

  pub keep_stmt-below : (vs : List SemanticValue) → fits (takes does.KeepStmt) vs ≡ true → ValuesBelow e k vs → ProductParts e k (making does.KeepStmt vs).product × ValuesBelow e k (making does.KeepStmt vs).vals
  keep_stmt-below (vals.Call call ∷ vals.Target target ∷ vals.Place at ∷ vs) f h = ((h.1.0, h.0), h.1.1.1)
  keep_stmt-below (vals.Call _ ∷ vals.Target _ ∷ []) f h = absurd (cc f)
  keep_stmt-below (vals.Call _ ∷ vals.Target _ ∷ v ∷ vs) f h = absurd (cc f)
  keep_stmt-below (vals.Call _ ∷ []) f h = absurd (cc f)
  keep_stmt-below (vals.Call _ ∷ v ∷ vs) f h = absurd (cc f)
  keep_stmt-below [] f h = absurd (cc f)
  keep_stmt-below (v ∷ vs) f h = absurd (cc f)

  pub call_stmt-below : (vs : List SemanticValue) → fits (takes does.CallStmt) vs ≡ true → ValuesBelow e k vs → ProductParts e k (making does.CallStmt vs).product × ValuesBelow e k (making does.CallStmt vs).vals
  call_stmt-below (vals.Call call ∷ vals.Place at ∷ vs) f h = (h.0, h.1.1)
  call_stmt-below (vals.Call _ ∷ []) f h = absurd (cc f)
  call_stmt-below (vals.Call _ ∷ v ∷ vs) f h = absurd (cc f)
  call_stmt-below [] f h = absurd (cc f)
  call_stmt-below (v ∷ vs) f h = absurd (cc f)

  pub return_stmt-below : (vs : List SemanticValue) → fits (takes does.ReturnStmt) vs ≡ true → ValuesBelow e k vs → ProductParts e k (making does.ReturnStmt vs).product × ValuesBelow e k (making does.ReturnStmt vs).vals
  return_stmt-below (vals.Part value ∷ vals.Place at ∷ vs) f h = (h.0, h.1.1)
  return_stmt-below (vals.Part _ ∷ []) f h = absurd (cc f)
  return_stmt-below (vals.Part _ ∷ v ∷ vs) f h = absurd (cc f)
  return_stmt-below [] f h = absurd (cc f)
  return_stmt-below (v ∷ vs) f h = absurd (cc f)

  pub yield_stmt-below : (vs : List SemanticValue) → fits (takes does.YieldStmt) vs ≡ true → ValuesBelow e k vs → ProductParts e k (making does.YieldStmt vs).product × ValuesBelow e k (making does.YieldStmt vs).vals
  yield_stmt-below (vals.Expr value ∷ vals.Place at ∷ vs) f h = (h.0, h.1.1)
  yield_stmt-below (vals.Expr _ ∷ []) f h = absurd (cc f)
  yield_stmt-below (vals.Expr _ ∷ v ∷ vs) f h = absurd (cc f)
  yield_stmt-below [] f h = absurd (cc f)
  yield_stmt-below (v ∷ vs) f h = absurd (cc f)

  pub some_via-below : (vs : List SemanticValue) → fits (takes does.SomeVia) vs ≡ true → ValuesBelow e k vs → ProductParts e k (making does.SomeVia vs).product × ValuesBelow e k (making does.SomeVia vs).vals
  some_via-below (vals.Givens given ∷ vals.Name axiom_name ∷ vs) f h = (h.0, h.1.1)
  some_via-below (vals.Givens _ ∷ []) f h = absurd (cc f)
  some_via-below (vals.Givens _ ∷ v ∷ vs) f h = absurd (cc f)
  some_via-below [] f h = absurd (cc f)
  some_via-below (v ∷ vs) f h = absurd (cc f)

  pub assert_stmt-below : (vs : List SemanticValue) → fits (takes does.AssertStmt) vs ≡ true → ValuesBelow e k vs → ProductParts e k (making does.AssertStmt vs).product × ValuesBelow e k (making does.AssertStmt vs).vals
  assert_stmt-below (vals.Via via ∷ vals.Expr goal ∷ vals.Place at ∷ vs) f h = ((h.1.0, h.0), h.1.1.1)
  assert_stmt-below (vals.Via _ ∷ vals.Expr _ ∷ []) f h = absurd (cc f)
  assert_stmt-below (vals.Via _ ∷ vals.Expr _ ∷ v ∷ vs) f h = absurd (cc f)
  assert_stmt-below (vals.Via _ ∷ []) f h = absurd (cc f)
  assert_stmt-below (vals.Via _ ∷ v ∷ vs) f h = absurd (cc f)
  assert_stmt-below [] f h = absurd (cc f)
  assert_stmt-below (v ∷ vs) f h = absurd (cc f)
