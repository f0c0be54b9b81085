-- That what is made by the actions of declarations is what the machine makes.
use Rattle.std.proofs.Common.{◌≡◌, ℕ, true, if◌then◌else◌, List, [], ◌∷◌, ◌++◌, refl, ap}
use Rattle.wf_ast.specs.ParsedTree.{ExprTree, StmtTree, DeclTree}
use Rattle.wf_ast.specs.ParsedTree as tree
use Rattle.wf_ast.specs.ParsedTrees.{block_at, result_at}
use Rattle.wf_ast.proofs.TreeLemmas.{all_push}
use Rattle.wf_parse_grammar.specs.declared.symbols.Action.TheVariants as does
use Rattle.wf_parse_grammar.specs.Values as val
use Rattle.wf_parse_grammar.specs.Values.{Made, perform}
use Rattle.wf_parse_nodes.specs.declared.values.SemanticValue.{SemanticValue}
use Rattle.wf_parse_nodes.specs.declared.values.SemanticValue.TheVariants as vals
use Rattle.wf_parse_nodes.specs.Making.{making}
use Rattle.wf_parse_nodes.specs.Seen.{seen_values, ValuesBelow, ProductParts, made_with, seen_field}
use Rattle.wf_parse_nodes.specs.Shapes.{fits, takes}
use Rattle.wf_parse_nodes.proofs.SeenLists.{added, fields_seen}

module _ (es : List ExprTree) (ss : List StmtTree) (ds : List DeclTree) where
  pub add_field-made : (vs : List SemanticValue) → (if fits (takes does.AddField) vs then made_with es ss (making does.AddField vs).product (seen_values es ss (making does.AddField vs).vals) ds else record { vals = []; decls = ds }) ≡ perform does.AddField (record { vals = seen_values es ss vs; decls = ds })
  add_field-made (vals.Type of ∷ vals.Name name ∷ vals.Fields fields ∷ vs) = ap (λ x. let made : Made = record { vals = val.fields x ∷ seen_values es ss vs; decls = ds } in made) (added (seen_field es) fields (record { name = name; of = of }))
  add_field-made (vals.Type _ ∷ vals.Name _ ∷ []) = refl
  add_field-made (vals.Type _ ∷ vals.Name _ ∷ v ∷ vs) = refl
  add_field-made (vals.Type _ ∷ []) = refl
  add_field-made (vals.Type _ ∷ v ∷ vs) = refl
  add_field-made [] = refl
  add_field-made (v ∷ vs) = refl

  pub no_result-made : (vs : List SemanticValue) → (if fits (takes does.NoResult) vs then made_with es ss (making does.NoResult vs).product (seen_values es ss (making does.NoResult vs).vals) ds else record { vals = []; decls = ds }) ≡ perform does.NoResult (record { vals = seen_values es ss vs; decls = ds })
  no_result-made (vals.Prefixes prefixes ∷ vs) = refl
  no_result-made [] = refl
  no_result-made (v ∷ vs) = refl

  pub some_result-made : (vs : List SemanticValue) → (if fits (takes does.SomeResult) vs then made_with es ss (making does.SomeResult vs).product (seen_values es ss (making does.SomeResult vs).vals) ds else record { vals = []; decls = ds }) ≡ perform does.SomeResult (record { vals = seen_values es ss vs; decls = ds })
  some_result-made (vals.Type of ∷ vs) = refl
  some_result-made [] = refl
  some_result-made (v ∷ vs) = refl

  pub status_decl-made : (vs : List SemanticValue) → (if fits (takes does.StatusDecl) vs then made_with es ss (making does.StatusDecl vs).product (seen_values es ss (making does.StatusDecl vs).vals) ds else record { vals = []; decls = ds }) ≡ perform does.StatusDecl (record { vals = seen_values es ss vs; decls = ds })
  status_decl-made (vals.Name text ∷ vals.Place at ∷ vals.Public public ∷ vs) = refl
  status_decl-made (vals.Name _ ∷ vals.Place _ ∷ []) = refl
  status_decl-made (vals.Name _ ∷ vals.Place _ ∷ v ∷ vs) = refl
  status_decl-made (vals.Name _ ∷ []) = refl
  status_decl-made (vals.Name _ ∷ v ∷ vs) = refl
  status_decl-made [] = refl
  status_decl-made (v ∷ vs) = refl

  pub const_decl-made : (vs : List SemanticValue) → (if fits (takes does.ConstDecl) vs then made_with es ss (making does.ConstDecl vs).product (seen_values es ss (making does.ConstDecl vs).vals) ds else record { vals = []; decls = ds }) ≡ perform does.ConstDecl (record { vals = seen_values es ss vs; decls = ds })
  const_decl-made (vals.Expr value ∷ vals.Type of ∷ vals.Name name ∷ vals.Place at ∷ vals.Public public ∷ vs) = refl
  const_decl-made (vals.Expr _ ∷ vals.Type _ ∷ vals.Name _ ∷ vals.Place _ ∷ []) = refl
  const_decl-made (vals.Expr _ ∷ vals.Type _ ∷ vals.Name _ ∷ vals.Place _ ∷ v ∷ vs) = refl
  const_decl-made (vals.Expr _ ∷ vals.Type _ ∷ vals.Name _ ∷ []) = refl
  const_decl-made (vals.Expr _ ∷ vals.Type _ ∷ vals.Name _ ∷ v ∷ vs) = refl
  const_decl-made (vals.Expr _ ∷ vals.Type _ ∷ []) = refl
  const_decl-made (vals.Expr _ ∷ vals.Type _ ∷ v ∷ vs) = refl
  const_decl-made (vals.Expr _ ∷ []) = refl
  const_decl-made (vals.Expr _ ∷ v ∷ vs) = refl
  const_decl-made [] = refl
  const_decl-made (v ∷ vs) = refl

  pub struct_decl-made : (vs : List SemanticValue) → (if fits (takes does.StructDecl) vs then made_with es ss (making does.StructDecl vs).product (seen_values es ss (making does.StructDecl vs).vals) ds else record { vals = []; decls = ds }) ≡ perform does.StructDecl (record { vals = seen_values es ss vs; decls = ds })
  struct_decl-made (vals.Fields fields ∷ vals.Mark mark ∷ vals.Name name ∷ vals.Place at ∷ vals.Public public ∷ vs) = ap (λ x. let made : Made = record { vals = seen_values es ss vs; decls = ds ++ tree.structure public name mark x at ∷ [] } in made) (fields_seen es fields)
  struct_decl-made (vals.Fields _ ∷ vals.Mark _ ∷ vals.Name _ ∷ vals.Place _ ∷ []) = refl
  struct_decl-made (vals.Fields _ ∷ vals.Mark _ ∷ vals.Name _ ∷ vals.Place _ ∷ v ∷ vs) = refl
  struct_decl-made (vals.Fields _ ∷ vals.Mark _ ∷ vals.Name _ ∷ []) = refl
  struct_decl-made (vals.Fields _ ∷ vals.Mark _ ∷ vals.Name _ ∷ v ∷ vs) = refl
  struct_decl-made (vals.Fields _ ∷ vals.Mark _ ∷ []) = refl
  struct_decl-made (vals.Fields _ ∷ vals.Mark _ ∷ v ∷ vs) = refl
  struct_decl-made (vals.Fields _ ∷ []) = refl
  struct_decl-made (vals.Fields _ ∷ v ∷ vs) = refl
  struct_decl-made [] = refl
  struct_decl-made (v ∷ vs) = refl

  pub method_decl-made : (vs : List SemanticValue) → (if fits (takes does.MethodDecl) vs then made_with es ss (making does.MethodDecl vs).product (seen_values es ss (making does.MethodDecl vs).vals) ds else record { vals = []; decls = ds }) ≡ perform does.MethodDecl (record { vals = seen_values es ss vs; decls = ds })
  method_decl-made (vals.Block body ∷ vals.Result gives ∷ vals.Fields args ∷ vals.Mark mark ∷ vals.Name name ∷ vals.Name of ∷ vals.Place at ∷ vals.Public public ∷ vs) = ap (λ x. let made : Made = record { vals = seen_values es ss vs; decls = ds ++ tree.method public of name mark x (result_at es gives) (block_at ss body) at ∷ [] } in made) (fields_seen es args)
  method_decl-made (vals.Block _ ∷ vals.Result _ ∷ vals.Fields _ ∷ vals.Mark _ ∷ vals.Name _ ∷ vals.Name _ ∷ vals.Place _ ∷ []) = refl
  method_decl-made (vals.Block _ ∷ vals.Result _ ∷ vals.Fields _ ∷ vals.Mark _ ∷ vals.Name _ ∷ vals.Name _ ∷ vals.Place _ ∷ v ∷ vs) = refl
  method_decl-made (vals.Block _ ∷ vals.Result _ ∷ vals.Fields _ ∷ vals.Mark _ ∷ vals.Name _ ∷ vals.Name _ ∷ []) = refl
  method_decl-made (vals.Block _ ∷ vals.Result _ ∷ vals.Fields _ ∷ vals.Mark _ ∷ vals.Name _ ∷ vals.Name _ ∷ v ∷ vs) = refl
  method_decl-made (vals.Block _ ∷ vals.Result _ ∷ vals.Fields _ ∷ vals.Mark _ ∷ vals.Name _ ∷ []) = refl
  method_decl-made (vals.Block _ ∷ vals.Result _ ∷ vals.Fields _ ∷ vals.Mark _ ∷ vals.Name _ ∷ v ∷ vs) = refl
  method_decl-made (vals.Block _ ∷ vals.Result _ ∷ vals.Fields _ ∷ vals.Mark _ ∷ []) = refl
  method_decl-made (vals.Block _ ∷ vals.Result _ ∷ vals.Fields _ ∷ vals.Mark _ ∷ v ∷ vs) = refl
  method_decl-made (vals.Block _ ∷ vals.Result _ ∷ vals.Fields _ ∷ []) = refl
  method_decl-made (vals.Block _ ∷ vals.Result _ ∷ vals.Fields _ ∷ v ∷ vs) = refl
  method_decl-made (vals.Block _ ∷ vals.Result _ ∷ []) = refl
  method_decl-made (vals.Block _ ∷ vals.Result _ ∷ v ∷ vs) = refl
  method_decl-made (vals.Block _ ∷ []) = refl
  method_decl-made (vals.Block _ ∷ v ∷ vs) = refl
  method_decl-made [] = refl
  method_decl-made (v ∷ vs) = refl

module _ (e k : ℕ) where
  pub add_field-below : (vs : List SemanticValue) → fits (takes does.AddField) vs ≡ true → ValuesBelow e k vs → ProductParts e k (making does.AddField vs).product × ValuesBelow e k (making does.AddField vs).vals
  add_field-below (vals.Type of ∷ vals.Name name ∷ vals.Fields fields ∷ vs) f h = (all_push _ fields _ h.1.1.0 h.0, h.1.1.1)
  add_field-below (vals.Type _ ∷ vals.Name _ ∷ []) f h = absurd (cc f)
  add_field-below (vals.Type _ ∷ vals.Name _ ∷ v ∷ vs) f h = absurd (cc f)
  add_field-below (vals.Type _ ∷ []) f h = absurd (cc f)
  add_field-below (vals.Type _ ∷ v ∷ vs) f h = absurd (cc f)
  add_field-below [] f h = absurd (cc f)
  add_field-below (v ∷ vs) f h = absurd (cc f)

  pub no_result-below : (vs : List SemanticValue) → fits (takes does.NoResult) vs ≡ true → ValuesBelow e k vs → ProductParts e k (making does.NoResult vs).product × ValuesBelow e k (making does.NoResult vs).vals
  no_result-below (vals.Prefixes prefixes ∷ vs) f h = (tt, h.1)
  no_result-below [] f h = absurd (cc f)
  no_result-below (v ∷ vs) f h = absurd (cc f)

  pub some_result-below : (vs : List SemanticValue) → fits (takes does.SomeResult) vs ≡ true → ValuesBelow e k vs → ProductParts e k (making does.SomeResult vs).product × ValuesBelow e k (making does.SomeResult vs).vals
  some_result-below (vals.Type of ∷ vs) f h = (h.0, h.1)
  some_result-below [] f h = absurd (cc f)
  some_result-below (v ∷ vs) f h = absurd (cc f)

  pub status_decl-below : (vs : List SemanticValue) → fits (takes does.StatusDecl) vs ≡ true → ValuesBelow e k vs → ProductParts e k (making does.StatusDecl vs).product × ValuesBelow e k (making does.StatusDecl vs).vals
  status_decl-below (vals.Name text ∷ vals.Place at ∷ vals.Public public ∷ vs) f h = (tt, h.1.1.1)
  status_decl-below (vals.Name _ ∷ vals.Place _ ∷ []) f h = absurd (cc f)
  status_decl-below (vals.Name _ ∷ vals.Place _ ∷ v ∷ vs) f h = absurd (cc f)
  status_decl-below (vals.Name _ ∷ []) f h = absurd (cc f)
  status_decl-below (vals.Name _ ∷ v ∷ vs) f h = absurd (cc f)
  status_decl-below [] f h = absurd (cc f)
  status_decl-below (v ∷ vs) f h = absurd (cc f)

  pub const_decl-below : (vs : List SemanticValue) → fits (takes does.ConstDecl) vs ≡ true → ValuesBelow e k vs → ProductParts e k (making does.ConstDecl vs).product × ValuesBelow e k (making does.ConstDecl vs).vals
  const_decl-below (vals.Expr value ∷ vals.Type of ∷ vals.Name name ∷ vals.Place at ∷ vals.Public public ∷ vs) f h = ((h.1.0, h.0), h.1.1.1.1.1)
  const_decl-below (vals.Expr _ ∷ vals.Type _ ∷ vals.Name _ ∷ vals.Place _ ∷ []) f h = absurd (cc f)
  const_decl-below (vals.Expr _ ∷ vals.Type _ ∷ vals.Name _ ∷ vals.Place _ ∷ v ∷ vs) f h = absurd (cc f)
  const_decl-below (vals.Expr _ ∷ vals.Type _ ∷ vals.Name _ ∷ []) f h = absurd (cc f)
  const_decl-below (vals.Expr _ ∷ vals.Type _ ∷ vals.Name _ ∷ v ∷ vs) f h = absurd (cc f)
  const_decl-below (vals.Expr _ ∷ vals.Type _ ∷ []) f h = absurd (cc f)
  const_decl-below (vals.Expr _ ∷ vals.Type _ ∷ v ∷ vs) f h = absurd (cc f)
  const_decl-below (vals.Expr _ ∷ []) f h = absurd (cc f)
  const_decl-below (vals.Expr _ ∷ v ∷ vs) f h = absurd (cc f)
  const_decl-below [] f h = absurd (cc f)
  const_decl-below (v ∷ vs) f h = absurd (cc f)

  pub struct_decl-below : (vs : List SemanticValue) → fits (takes does.StructDecl) vs ≡ true → ValuesBelow e k vs → ProductParts e k (making does.StructDecl vs).product × ValuesBelow e k (making does.StructDecl vs).vals
  struct_decl-below (vals.Fields fields ∷ vals.Mark mark ∷ vals.Name name ∷ vals.Place at ∷ vals.Public public ∷ vs) f h = (h.0, h.1.1.1.1.1)
  struct_decl-below (vals.Fields _ ∷ vals.Mark _ ∷ vals.Name _ ∷ vals.Place _ ∷ []) f h = absurd (cc f)
  struct_decl-below (vals.Fields _ ∷ vals.Mark _ ∷ vals.Name _ ∷ vals.Place _ ∷ v ∷ vs) f h = absurd (cc f)
  struct_decl-below (vals.Fields _ ∷ vals.Mark _ ∷ vals.Name _ ∷ []) f h = absurd (cc f)
  struct_decl-below (vals.Fields _ ∷ vals.Mark _ ∷ vals.Name _ ∷ v ∷ vs) f h = absurd (cc f)
  struct_decl-below (vals.Fields _ ∷ vals.Mark _ ∷ []) f h = absurd (cc f)
  struct_decl-below (vals.Fields _ ∷ vals.Mark _ ∷ v ∷ vs) f h = absurd (cc f)
  struct_decl-below (vals.Fields _ ∷ []) f h = absurd (cc f)
  struct_decl-below (vals.Fields _ ∷ v ∷ vs) f h = absurd (cc f)
  struct_decl-below [] f h = absurd (cc f)
  struct_decl-below (v ∷ vs) f h = absurd (cc f)

  pub method_decl-below : (vs : List SemanticValue) → fits (takes does.MethodDecl) vs ≡ true → ValuesBelow e k vs → ProductParts e k (making does.MethodDecl vs).product × ValuesBelow e k (making does.MethodDecl vs).vals
  method_decl-below (vals.Block body ∷ vals.Result gives ∷ vals.Fields args ∷ vals.Mark mark ∷ vals.Name name ∷ vals.Name of ∷ vals.Place at ∷ vals.Public public ∷ vs) f h = ((h.1.1.0, h.1.0, h.0), h.1.1.1.1.1.1.1.1)
  method_decl-below (vals.Block _ ∷ vals.Result _ ∷ vals.Fields _ ∷ vals.Mark _ ∷ vals.Name _ ∷ vals.Name _ ∷ vals.Place _ ∷ []) f h = absurd (cc f)
  method_decl-below (vals.Block _ ∷ vals.Result _ ∷ vals.Fields _ ∷ vals.Mark _ ∷ vals.Name _ ∷ vals.Name _ ∷ vals.Place _ ∷ v ∷ vs) f h = absurd (cc f)
  method_decl-below (vals.Block _ ∷ vals.Result _ ∷ vals.Fields _ ∷ vals.Mark _ ∷ vals.Name _ ∷ vals.Name _ ∷ []) f h = absurd (cc f)
  method_decl-below (vals.Block _ ∷ vals.Result _ ∷ vals.Fields _ ∷ vals.Mark _ ∷ vals.Name _ ∷ vals.Name _ ∷ v ∷ vs) f h = absurd (cc f)
  method_decl-below (vals.Block _ ∷ vals.Result _ ∷ vals.Fields _ ∷ vals.Mark _ ∷ vals.Name _ ∷ []) f h = absurd (cc f)
  method_decl-below (vals.Block _ ∷ vals.Result _ ∷ vals.Fields _ ∷ vals.Mark _ ∷ vals.Name _ ∷ v ∷ vs) f h = absurd (cc f)
  method_decl-below (vals.Block _ ∷ vals.Result _ ∷ vals.Fields _ ∷ vals.Mark _ ∷ []) f h = absurd (cc f)
  method_decl-below (vals.Block _ ∷ vals.Result _ ∷ vals.Fields _ ∷ vals.Mark _ ∷ v ∷ vs) f h = absurd (cc f)
  method_decl-below (vals.Block _ ∷ vals.Result _ ∷ vals.Fields _ ∷ []) f h = absurd (cc f)
  method_decl-below (vals.Block _ ∷ vals.Result _ ∷ vals.Fields _ ∷ v ∷ vs) f h = absurd (cc f)
  method_decl-below (vals.Block _ ∷ vals.Result _ ∷ []) f h = absurd (cc f)
  method_decl-below (vals.Block _ ∷ vals.Result _ ∷ v ∷ vs) f h = absurd (cc f)
  method_decl-below (vals.Block _ ∷ []) f h = absurd (cc f)
  method_decl-below (vals.Block _ ∷ v ∷ vs) f h = absurd (cc f)
  method_decl-below [] f h = absurd (cc f)
  method_decl-below (v ∷ vs) f h = absurd (cc f)
