-- That what is made by the actions of expressions is what the machine makes.
use Rattle.std.proofs.Common.{◌≡◌, ℕ, true, if◌then◌else◌, List, [], ◌∷◌, refl, ap}
use Rattle.wf_ast.specs.ParsedTree.{ExprTree, StmtTree, DeclTree}
use Rattle.wf_ast.specs.ParsedTree as tree
use Rattle.wf_ast.specs.ParsedTrees.{expr_at}
use Rattle.wf_ast.proofs.TreeLemmas.{all_push}
use Rattle.wf_parse_grammar.specs.declared.symbols.Action.TheVariants as does
use Rattle.wf_parse_grammar.specs.Values as val
use Rattle.wf_parse_grammar.specs.Values.{Made, perform}
use Rattle.wf_parse_nodes.specs.declared.values.SemanticValue.{SemanticValue}
use Rattle.wf_parse_nodes.specs.declared.values.SemanticValue.TheVariants as vals
use Rattle.wf_parse_nodes.specs.Making.{making}
use Rattle.wf_parse_nodes.specs.Seen.{seen_values, ValuesBelow, ProductParts, made_with, seen_link}
use Rattle.wf_parse_nodes.specs.Shapes.{fits, takes}
use Rattle.wf_parse_nodes.proofs.SeenLists.{added, links_seen}

module _ (es : List ExprTree) (ss : List StmtTree) (ds : List DeclTree) where
  pub base_status_expr-made : (vs : List SemanticValue) → (if fits (takes does.BaseStatusExpr) vs then made_with es ss (making does.BaseStatusExpr vs).product (seen_values es ss (making does.BaseStatusExpr vs).vals) ds else record { vals = []; decls = ds }) ≡ perform does.BaseStatusExpr (record { vals = seen_values es ss vs; decls = ds })
  base_status_expr-made (vals.Name text ∷ vals.Place at ∷ vs) = refl
  base_status_expr-made (vals.Name _ ∷ []) = refl
  base_status_expr-made (vals.Name _ ∷ v ∷ vs) = refl
  base_status_expr-made [] = refl
  base_status_expr-made (v ∷ vs) = refl

  pub path_expr-made : (vs : List SemanticValue) → (if fits (takes does.PathExpr) vs then made_with es ss (making does.PathExpr vs).product (seen_values es ss (making does.PathExpr vs).vals) ds else record { vals = []; decls = ds }) ≡ perform does.PathExpr (record { vals = seen_values es ss vs; decls = ds })
  path_expr-made (vals.Path path ∷ vs) = refl
  path_expr-made [] = refl
  path_expr-made (v ∷ vs) = refl

  pub index_expr-made : (vs : List SemanticValue) → (if fits (takes does.IndexExpr) vs then made_with es ss (making does.IndexExpr vs).product (seen_values es ss (making does.IndexExpr vs).vals) ds else record { vals = []; decls = ds }) ≡ perform does.IndexExpr (record { vals = seen_values es ss vs; decls = ds })
  index_expr-made (vals.Expr index ∷ vals.Place at ∷ vals.Path base ∷ vs) = refl
  index_expr-made (vals.Expr _ ∷ vals.Place _ ∷ []) = refl
  index_expr-made (vals.Expr _ ∷ vals.Place _ ∷ v ∷ vs) = refl
  index_expr-made (vals.Expr _ ∷ []) = refl
  index_expr-made (vals.Expr _ ∷ v ∷ vs) = refl
  index_expr-made [] = refl
  index_expr-made (v ∷ vs) = refl

  pub slice_expr-made : (vs : List SemanticValue) → (if fits (takes does.SliceExpr) vs then made_with es ss (making does.SliceExpr vs).product (seen_values es ss (making does.SliceExpr vs).vals) ds else record { vals = []; decls = ds }) ≡ perform does.SliceExpr (record { vals = seen_values es ss vs; decls = ds })
  slice_expr-made (vals.Part to ∷ vals.Part from ∷ vals.Place at ∷ vals.Path base ∷ vs) = refl
  slice_expr-made (vals.Part _ ∷ vals.Part _ ∷ vals.Place _ ∷ []) = refl
  slice_expr-made (vals.Part _ ∷ vals.Part _ ∷ vals.Place _ ∷ v ∷ vs) = refl
  slice_expr-made (vals.Part _ ∷ vals.Part _ ∷ []) = refl
  slice_expr-made (vals.Part _ ∷ vals.Part _ ∷ v ∷ vs) = refl
  slice_expr-made (vals.Part _ ∷ []) = refl
  slice_expr-made (vals.Part _ ∷ v ∷ vs) = refl
  slice_expr-made [] = refl
  slice_expr-made (v ∷ vs) = refl

  pub call_expr-made : (vs : List SemanticValue) → (if fits (takes does.CallExpr) vs then made_with es ss (making does.CallExpr vs).product (seen_values es ss (making does.CallExpr vs).vals) ds else record { vals = []; decls = ds }) ≡ perform does.CallExpr (record { vals = seen_values es ss vs; decls = ds })
  call_expr-made (vals.Call call ∷ vs) = refl
  call_expr-made [] = refl
  call_expr-made (v ∷ vs) = refl

  pub not_expr-made : (vs : List SemanticValue) → (if fits (takes does.NotExpr) vs then made_with es ss (making does.NotExpr vs).product (seen_values es ss (making does.NotExpr vs).vals) ds else record { vals = []; decls = ds }) ≡ perform does.NotExpr (record { vals = seen_values es ss vs; decls = ds })
  not_expr-made (vals.Expr of ∷ vals.Place at ∷ vs) = refl
  not_expr-made (vals.Expr _ ∷ []) = refl
  not_expr-made (vals.Expr _ ∷ v ∷ vs) = refl
  not_expr-made [] = refl
  not_expr-made (v ∷ vs) = refl

  pub convert_expr-made : (vs : List SemanticValue) → (if fits (takes does.ConvertExpr) vs then made_with es ss (making does.ConvertExpr vs).product (seen_values es ss (making does.ConvertExpr vs).vals) ds else record { vals = []; decls = ds }) ≡ perform does.ConvertExpr (record { vals = seen_values es ss vs; decls = ds })
  convert_expr-made (vals.Type to ∷ vals.Place at ∷ vals.Expr of ∷ vs) = refl
  convert_expr-made (vals.Type _ ∷ vals.Place _ ∷ []) = refl
  convert_expr-made (vals.Type _ ∷ vals.Place _ ∷ v ∷ vs) = refl
  convert_expr-made (vals.Type _ ∷ []) = refl
  convert_expr-made (vals.Type _ ∷ v ∷ vs) = refl
  convert_expr-made [] = refl
  convert_expr-made (v ∷ vs) = refl

  pub start_chain-made : (op : _) (at : _) (vs : List SemanticValue) → (if fits (takes (does.StartChain op at)) vs then made_with es ss (making (does.StartChain op at) vs).product (seen_values es ss (making (does.StartChain op at) vs).vals) ds else record { vals = []; decls = ds }) ≡ perform (does.StartChain op at) (record { vals = seen_values es ss vs; decls = ds })
  start_chain-made op at (vals.Expr first ∷ vs) = refl
  start_chain-made op at [] = refl
  start_chain-made op at (v ∷ vs) = refl

  pub add_link-made : (vs : List SemanticValue) → (if fits (takes does.AddLink) vs then made_with es ss (making does.AddLink vs).product (seen_values es ss (making does.AddLink vs).vals) ds else record { vals = []; decls = ds }) ≡ perform does.AddLink (record { vals = seen_values es ss vs; decls = ds })
  add_link-made (vals.Expr operand ∷ vals.Place sign ∷ vals.Chain chain ∷ vs) = ap (λ x. let made : Made = record { vals = val.chain chain.op (expr_at es chain.first) x chain.at ∷ seen_values es ss vs; decls = ds } in made) (added (seen_link es) chain.links (record { sign = sign; operand = operand }))
  add_link-made (vals.Expr _ ∷ vals.Place _ ∷ []) = refl
  add_link-made (vals.Expr _ ∷ vals.Place _ ∷ v ∷ vs) = refl
  add_link-made (vals.Expr _ ∷ []) = refl
  add_link-made (vals.Expr _ ∷ v ∷ vs) = refl
  add_link-made [] = refl
  add_link-made (v ∷ vs) = refl

  pub finish_chain-made : (vs : List SemanticValue) → (if fits (takes does.FinishChain) vs then made_with es ss (making does.FinishChain vs).product (seen_values es ss (making does.FinishChain vs).vals) ds else record { vals = []; decls = ds }) ≡ perform does.FinishChain (record { vals = seen_values es ss vs; decls = ds })
  finish_chain-made (vals.Chain chain ∷ vs) = ap (λ x. let made : Made = record { vals = val.expr (tree.chain chain.op (expr_at es chain.first) x chain.at) ∷ seen_values es ss vs; decls = ds } in made) (links_seen es chain.links)
  finish_chain-made [] = refl
  finish_chain-made (v ∷ vs) = refl

  pub some_part-made : (vs : List SemanticValue) → (if fits (takes does.SomePart) vs then made_with es ss (making does.SomePart vs).product (seen_values es ss (making does.SomePart vs).vals) ds else record { vals = []; decls = ds }) ≡ perform does.SomePart (record { vals = seen_values es ss vs; decls = ds })
  some_part-made (vals.Expr part ∷ vs) = refl
  some_part-made [] = refl
  some_part-made (v ∷ vs) = refl

module _ (e k : ℕ) where
  pub base_status_expr-below : (vs : List SemanticValue) → fits (takes does.BaseStatusExpr) vs ≡ true → ValuesBelow e k vs → ProductParts e k (making does.BaseStatusExpr vs).product × ValuesBelow e k (making does.BaseStatusExpr vs).vals
  base_status_expr-below (vals.Name text ∷ vals.Place at ∷ vs) f h = (tt, h.1.1)
  base_status_expr-below (vals.Name _ ∷ []) f h = absurd (cc f)
  base_status_expr-below (vals.Name _ ∷ v ∷ vs) f h = absurd (cc f)
  base_status_expr-below [] f h = absurd (cc f)
  base_status_expr-below (v ∷ vs) f h = absurd (cc f)

  pub path_expr-below : (vs : List SemanticValue) → fits (takes does.PathExpr) vs ≡ true → ValuesBelow e k vs → ProductParts e k (making does.PathExpr vs).product × ValuesBelow e k (making does.PathExpr vs).vals
  path_expr-below (vals.Path path ∷ vs) f h = (tt, h.1)
  path_expr-below [] f h = absurd (cc f)
  path_expr-below (v ∷ vs) f h = absurd (cc f)

  pub index_expr-below : (vs : List SemanticValue) → fits (takes does.IndexExpr) vs ≡ true → ValuesBelow e k vs → ProductParts e k (making does.IndexExpr vs).product × ValuesBelow e k (making does.IndexExpr vs).vals
  index_expr-below (vals.Expr index ∷ vals.Place at ∷ vals.Path base ∷ vs) f h = (h.0, h.1.1.1)
  index_expr-below (vals.Expr _ ∷ vals.Place _ ∷ []) f h = absurd (cc f)
  index_expr-below (vals.Expr _ ∷ vals.Place _ ∷ v ∷ vs) f h = absurd (cc f)
  index_expr-below (vals.Expr _ ∷ []) f h = absurd (cc f)
  index_expr-below (vals.Expr _ ∷ v ∷ vs) f h = absurd (cc f)
  index_expr-below [] f h = absurd (cc f)
  index_expr-below (v ∷ vs) f h = absurd (cc f)

  pub slice_expr-below : (vs : List SemanticValue) → fits (takes does.SliceExpr) vs ≡ true → ValuesBelow e k vs → ProductParts e k (making does.SliceExpr vs).product × ValuesBelow e k (making does.SliceExpr vs).vals
  slice_expr-below (vals.Part to ∷ vals.Part from ∷ vals.Place at ∷ vals.Path base ∷ vs) f h = ((h.1.0, h.0), h.1.1.1.1)
  slice_expr-below (vals.Part _ ∷ vals.Part _ ∷ vals.Place _ ∷ []) f h = absurd (cc f)
  slice_expr-below (vals.Part _ ∷ vals.Part _ ∷ vals.Place _ ∷ v ∷ vs) f h = absurd (cc f)
  slice_expr-below (vals.Part _ ∷ vals.Part _ ∷ []) f h = absurd (cc f)
  slice_expr-below (vals.Part _ ∷ vals.Part _ ∷ v ∷ vs) f h = absurd (cc f)
  slice_expr-below (vals.Part _ ∷ []) f h = absurd (cc f)
  slice_expr-below (vals.Part _ ∷ v ∷ vs) f h = absurd (cc f)
  slice_expr-below [] f h = absurd (cc f)
  slice_expr-below (v ∷ vs) f h = absurd (cc f)

  pub call_expr-below : (vs : List SemanticValue) → fits (takes does.CallExpr) vs ≡ true → ValuesBelow e k vs → ProductParts e k (making does.CallExpr vs).product × ValuesBelow e k (making does.CallExpr vs).vals
  call_expr-below (vals.Call call ∷ vs) f h = (h.0, h.1)
  call_expr-below [] f h = absurd (cc f)
  call_expr-below (v ∷ vs) f h = absurd (cc f)

  pub not_expr-below : (vs : List SemanticValue) → fits (takes does.NotExpr) vs ≡ true → ValuesBelow e k vs → ProductParts e k (making does.NotExpr vs).product × ValuesBelow e k (making does.NotExpr vs).vals
  not_expr-below (vals.Expr of ∷ vals.Place at ∷ vs) f h = (h.0, h.1.1)
  not_expr-below (vals.Expr _ ∷ []) f h = absurd (cc f)
  not_expr-below (vals.Expr _ ∷ v ∷ vs) f h = absurd (cc f)
  not_expr-below [] f h = absurd (cc f)
  not_expr-below (v ∷ vs) f h = absurd (cc f)

  pub convert_expr-below : (vs : List SemanticValue) → fits (takes does.ConvertExpr) vs ≡ true → ValuesBelow e k vs → ProductParts e k (making does.ConvertExpr vs).product × ValuesBelow e k (making does.ConvertExpr vs).vals
  convert_expr-below (vals.Type to ∷ vals.Place at ∷ vals.Expr of ∷ vs) f h = ((h.1.1.0, h.0), h.1.1.1)
  convert_expr-below (vals.Type _ ∷ vals.Place _ ∷ []) f h = absurd (cc f)
  convert_expr-below (vals.Type _ ∷ vals.Place _ ∷ v ∷ vs) f h = absurd (cc f)
  convert_expr-below (vals.Type _ ∷ []) f h = absurd (cc f)
  convert_expr-below (vals.Type _ ∷ v ∷ vs) f h = absurd (cc f)
  convert_expr-below [] f h = absurd (cc f)
  convert_expr-below (v ∷ vs) f h = absurd (cc f)

  pub start_chain-below : (op : _) (at : _) (vs : List SemanticValue) → fits (takes (does.StartChain op at)) vs ≡ true → ValuesBelow e k vs → ProductParts e k (making (does.StartChain op at) vs).product × ValuesBelow e k (making (does.StartChain op at) vs).vals
  start_chain-below op at (vals.Expr first ∷ vs) f h = ((h.0, tt), h.1)
  start_chain-below op at [] f h = absurd (cc f)
  start_chain-below op at (v ∷ vs) f h = absurd (cc f)

  pub add_link-below : (vs : List SemanticValue) → fits (takes does.AddLink) vs ≡ true → ValuesBelow e k vs → ProductParts e k (making does.AddLink vs).product × ValuesBelow e k (making does.AddLink vs).vals
  add_link-below (vals.Expr operand ∷ vals.Place sign ∷ vals.Chain chain ∷ vs) f h = ((h.1.1.0.0, all_push _ chain.links _ h.1.1.0.1 h.0), h.1.1.1)
  add_link-below (vals.Expr _ ∷ vals.Place _ ∷ []) f h = absurd (cc f)
  add_link-below (vals.Expr _ ∷ vals.Place _ ∷ v ∷ vs) f h = absurd (cc f)
  add_link-below (vals.Expr _ ∷ []) f h = absurd (cc f)
  add_link-below (vals.Expr _ ∷ v ∷ vs) f h = absurd (cc f)
  add_link-below [] f h = absurd (cc f)
  add_link-below (v ∷ vs) f h = absurd (cc f)

  pub finish_chain-below : (vs : List SemanticValue) → fits (takes does.FinishChain) vs ≡ true → ValuesBelow e k vs → ProductParts e k (making does.FinishChain vs).product × ValuesBelow e k (making does.FinishChain vs).vals
  finish_chain-below (vals.Chain chain ∷ vs) f h = (h.0, h.1)
  finish_chain-below [] f h = absurd (cc f)
  finish_chain-below (v ∷ vs) f h = absurd (cc f)

  pub some_part-below : (vs : List SemanticValue) → fits (takes does.SomePart) vs ≡ true → ValuesBelow e k vs → ProductParts e k (making does.SomePart vs).product × ValuesBelow e k (making does.SomePart vs).vals
  some_part-below (vals.Expr part ∷ vs) f h = (h.0, h.1)
  some_part-below [] f h = absurd (cc f)
  some_part-below (v ∷ vs) f h = absurd (cc f)
