-- That what is made by the actions of paths is what the machine makes.
use Rattle.std.proofs.Common.{◌≡◌, ℕ, true, if◌then◌else◌, List, [], ◌∷◌, refl}
use Rattle.wf_ast.specs.ParsedTree.{ExprTree, StmtTree, DeclTree}
use Rattle.wf_parse_grammar.specs.declared.symbols.Action.TheVariants as does
use Rattle.wf_parse_grammar.specs.Values.{perform}
use Rattle.wf_parse_nodes.specs.declared.values.SemanticValue.{SemanticValue}
use Rattle.wf_parse_nodes.specs.declared.values.SemanticValue.TheVariants as vals
use Rattle.wf_parse_nodes.specs.Making.{making}
use Rattle.wf_parse_nodes.specs.Seen.{seen_values, ValuesBelow, ProductParts, made_with}
use Rattle.wf_parse_nodes.specs.Shapes.{fits, takes}

module _ (es : List ExprTree) (ss : List StmtTree) (ds : List DeclTree) where
  pub this_path-made : (vs : List SemanticValue) → (if fits (takes does.ThisPath) vs then made_with es ss (making does.ThisPath vs).product (seen_values es ss (making does.ThisPath vs).vals) ds else record { vals = []; decls = ds }) ≡ perform does.ThisPath (record { vals = seen_values es ss vs; decls = ds })
  this_path-made (vals.Name name ∷ vals.Place at ∷ vs) = refl
  this_path-made (vals.Name _ ∷ []) = refl
  this_path-made (vals.Name _ ∷ v ∷ vs) = refl
  this_path-made [] = refl
  this_path-made (v ∷ vs) = refl

  pub args_path-made : (vs : List SemanticValue) → (if fits (takes does.ArgsPath) vs then made_with es ss (making does.ArgsPath vs).product (seen_values es ss (making does.ArgsPath vs).vals) ds else record { vals = []; decls = ds }) ≡ perform does.ArgsPath (record { vals = seen_values es ss vs; decls = ds })
  args_path-made (vals.Name name ∷ vals.Place at ∷ vs) = refl
  args_path-made (vals.Name _ ∷ []) = refl
  args_path-made (vals.Name _ ∷ v ∷ vs) = refl
  args_path-made [] = refl
  args_path-made (v ∷ vs) = refl

  pub path_receiver-made : (vs : List SemanticValue) → (if fits (takes does.PathReceiver) vs then made_with es ss (making does.PathReceiver vs).product (seen_values es ss (making does.PathReceiver vs).vals) ds else record { vals = []; decls = ds }) ≡ perform does.PathReceiver (record { vals = seen_values es ss vs; decls = ds })
  path_receiver-made (vals.Path path ∷ vs) = refl
  path_receiver-made [] = refl
  path_receiver-made (v ∷ vs) = refl

  pub this_method-made : (vs : List SemanticValue) → (if fits (takes does.ThisMethod) vs then made_with es ss (making does.ThisMethod vs).product (seen_values es ss (making does.ThisMethod vs).vals) ds else record { vals = []; decls = ds }) ≡ perform does.ThisMethod (record { vals = seen_values es ss vs; decls = ds })
  this_method-made (vals.Name name ∷ vals.Place at ∷ vs) = refl
  this_method-made (vals.Name _ ∷ []) = refl
  this_method-made (vals.Name _ ∷ v ∷ vs) = refl
  this_method-made [] = refl
  this_method-made (v ∷ vs) = refl

module _ (e k : ℕ) where
  pub this_path-below : (vs : List SemanticValue) → fits (takes does.ThisPath) vs ≡ true → ValuesBelow e k vs → ProductParts e k (making does.ThisPath vs).product × ValuesBelow e k (making does.ThisPath vs).vals
  this_path-below (vals.Name name ∷ vals.Place at ∷ vs) f h = (tt, h.1.1)
  this_path-below (vals.Name _ ∷ []) f h = absurd (cc f)
  this_path-below (vals.Name _ ∷ v ∷ vs) f h = absurd (cc f)
  this_path-below [] f h = absurd (cc f)
  this_path-below (v ∷ vs) f h = absurd (cc f)

  pub args_path-below : (vs : List SemanticValue) → fits (takes does.ArgsPath) vs ≡ true → ValuesBelow e k vs → ProductParts e k (making does.ArgsPath vs).product × ValuesBelow e k (making does.ArgsPath vs).vals
  args_path-below (vals.Name name ∷ vals.Place at ∷ vs) f h = (tt, h.1.1)
  args_path-below (vals.Name _ ∷ []) f h = absurd (cc f)
  args_path-below (vals.Name _ ∷ v ∷ vs) f h = absurd (cc f)
  args_path-below [] f h = absurd (cc f)
  args_path-below (v ∷ vs) f h = absurd (cc f)

  pub path_receiver-below : (vs : List SemanticValue) → fits (takes does.PathReceiver) vs ≡ true → ValuesBelow e k vs → ProductParts e k (making does.PathReceiver vs).product × ValuesBelow e k (making does.PathReceiver vs).vals
  path_receiver-below (vals.Path path ∷ vs) f h = (tt, h.1)
  path_receiver-below [] f h = absurd (cc f)
  path_receiver-below (v ∷ vs) f h = absurd (cc f)

  pub this_method-below : (vs : List SemanticValue) → fits (takes does.ThisMethod) vs ≡ true → ValuesBelow e k vs → ProductParts e k (making does.ThisMethod vs).product × ValuesBelow e k (making does.ThisMethod vs).vals
  this_method-below (vals.Name name ∷ vals.Place at ∷ vs) f h = (tt, (tt, h.1.1))
  this_method-below (vals.Name _ ∷ []) f h = absurd (cc f)
  this_method-below (vals.Name _ ∷ v ∷ vs) f h = absurd (cc f)
  this_method-below [] f h = absurd (cc f)
  this_method-below (v ∷ vs) f h = absurd (cc f)
