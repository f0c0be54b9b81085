-- That what is made by the actions of types is what the machine makes.
use Rattle.std.proofs.Common.{◌≡◌, ℕ, true, if◌then◌else◌, List, [], ◌∷◌, refl, ap}
use Rattle.wf_ast.specs.ParsedTree.{ExprTree, StmtTree, DeclTree}
use Rattle.wf_ast.specs.declared.parsed.Prefix.TheVariants as fronts
use Rattle.wf_ast.proofs.TreeLemmas.{all_push}
use Rattle.wf_parse_grammar.specs.declared.symbols.Action.TheVariants as does
use Rattle.wf_parse_grammar.specs.Values as val
use Rattle.wf_parse_grammar.specs.Values.{Made, perform}
use Rattle.wf_parse_nodes.specs.declared.values.OpenCore.TheVariants as open_cores
use Rattle.wf_parse_nodes.specs.declared.values.SemanticValue.{SemanticValue}
use Rattle.wf_parse_nodes.specs.declared.values.SemanticValue.TheVariants as vals
use Rattle.wf_parse_nodes.specs.Making.{making}
use Rattle.wf_parse_nodes.specs.Seen.{seen_values, ValuesBelow, ProductParts, made_with, seen_prefix}
use Rattle.wf_parse_nodes.specs.Shapes.{fits, takes}
use Rattle.wf_parse_nodes.proofs.SeenLists.{added, type_seen}

module _ (es : List ExprTree) (ss : List StmtTree) (ds : List DeclTree) where
  pub add_slice-made : (at : _) (vs : List SemanticValue) → (if fits (takes (does.AddSlice at)) vs then made_with es ss (making (does.AddSlice at) vs).product (seen_values es ss (making (does.AddSlice at) vs).vals) ds else record { vals = []; decls = ds }) ≡ perform (does.AddSlice at) (record { vals = seen_values es ss vs; decls = ds })
  add_slice-made at (vals.Prefixes prefixes ∷ vs) = ap (λ x. let made : Made = record { vals = val.prefixes x ∷ seen_values es ss vs; decls = ds } in made) (added (seen_prefix es) prefixes (fronts.Slice at))
  add_slice-made at [] = refl
  add_slice-made at (v ∷ vs) = refl

  pub add_array-made : (vs : List SemanticValue) → (if fits (takes does.AddArray) vs then made_with es ss (making does.AddArray vs).product (seen_values es ss (making does.AddArray vs).vals) ds else record { vals = []; decls = ds }) ≡ perform does.AddArray (record { vals = seen_values es ss vs; decls = ds })
  add_array-made (vals.Expr length ∷ vals.Place at ∷ vals.Prefixes prefixes ∷ vs) = ap (λ x. let made : Made = record { vals = val.prefixes x ∷ seen_values es ss vs; decls = ds } in made) (added (seen_prefix es) prefixes (fronts.Array length at))
  add_array-made (vals.Expr _ ∷ vals.Place _ ∷ []) = refl
  add_array-made (vals.Expr _ ∷ vals.Place _ ∷ v ∷ vs) = refl
  add_array-made (vals.Expr _ ∷ []) = refl
  add_array-made (vals.Expr _ ∷ v ∷ vs) = refl
  add_array-made [] = refl
  add_array-made (v ∷ vs) = refl

  pub struct_type-made : (name : _) (vs : List SemanticValue) → (if fits (takes (does.StructType name)) vs then made_with es ss (making (does.StructType name) vs).product (seen_values es ss (making (does.StructType name) vs).vals) ds else record { vals = []; decls = ds }) ≡ perform (does.StructType name) (record { vals = seen_values es ss vs; decls = ds })
  struct_type-made name (vals.Prefixes prefixes ∷ vs) = ap (λ x. let made : Made = record { vals = val.type x ∷ seen_values es ss vs; decls = ds } in made) (type_seen es prefixes _ _ refl)
  struct_type-made name [] = refl
  struct_type-made name (v ∷ vs) = refl

  pub base_core-made : (name : _) (vs : List SemanticValue) → (if fits (takes (does.BaseCore name)) vs then made_with es ss (making (does.BaseCore name) vs).product (seen_values es ss (making (does.BaseCore name) vs).vals) ds else record { vals = []; decls = ds }) ≡ perform (does.BaseCore name) (record { vals = seen_values es ss vs; decls = ds })
  base_core-made name (vals.Place at ∷ vs) = refl
  base_core-made name [] = refl
  base_core-made name (v ∷ vs) = refl

  pub status_core-made : (vs : List SemanticValue) → (if fits (takes does.StatusCore) vs then made_with es ss (making does.StatusCore vs).product (seen_values es ss (making does.StatusCore vs).vals) ds else record { vals = []; decls = ds }) ≡ perform does.StatusCore (record { vals = seen_values es ss vs; decls = ds })
  status_core-made (vals.Place at ∷ vs) = refl
  status_core-made [] = refl
  status_core-made (v ∷ vs) = refl

  pub some_bounds-made : (vs : List SemanticValue) → (if fits (takes does.SomeBounds) vs then made_with es ss (making does.SomeBounds vs).product (seen_values es ss (making does.SomeBounds vs).vals) ds else record { vals = []; decls = ds }) ≡ perform does.SomeBounds (record { vals = seen_values es ss vs; decls = ds })
  some_bounds-made (vals.Expr high ∷ vals.Part low ∷ vs) = refl
  some_bounds-made (vals.Expr _ ∷ []) = refl
  some_bounds-made (vals.Expr _ ∷ v ∷ vs) = refl
  some_bounds-made [] = refl
  some_bounds-made (v ∷ vs) = refl

  pub finish_type-made : (vs : List SemanticValue) → (if fits (takes does.FinishType) vs then made_with es ss (making does.FinishType vs).product (seen_values es ss (making does.FinishType vs).vals) ds else record { vals = []; decls = ds }) ≡ perform does.FinishType (record { vals = seen_values es ss vs; decls = ds })
  finish_type-made (vals.Bounds bounds ∷ vals.Core (open_cores.Base base_name base_at) ∷ vals.Prefixes prefixes ∷ vs) = ap (λ x. let made : Made = record { vals = val.type x ∷ seen_values es ss vs; decls = ds } in made) (type_seen es prefixes _ _ refl)
  finish_type-made (vals.Bounds bounds ∷ vals.Core (open_cores.Status base_at) ∷ vals.Prefixes prefixes ∷ vs) = ap (λ x. let made : Made = record { vals = val.type x ∷ seen_values es ss vs; decls = ds } in made) (type_seen es prefixes _ _ refl)
  finish_type-made (vals.Bounds _ ∷ vals.Core _ ∷ []) = refl
  finish_type-made (vals.Bounds _ ∷ vals.Core _ ∷ v ∷ vs) = refl
  finish_type-made (vals.Bounds _ ∷ []) = refl
  finish_type-made (vals.Bounds _ ∷ v ∷ vs) = refl
  finish_type-made [] = refl
  finish_type-made (v ∷ vs) = refl

module _ (e k : ℕ) where
  pub add_slice-below : (at : _) (vs : List SemanticValue) → fits (takes (does.AddSlice at)) vs ≡ true → ValuesBelow e k vs → ProductParts e k (making (does.AddSlice at) vs).product × ValuesBelow e k (making (does.AddSlice at) vs).vals
  add_slice-below at (vals.Prefixes prefixes ∷ vs) f h = (all_push _ prefixes _ h.0 tt, h.1)
  add_slice-below at [] f h = absurd (cc f)
  add_slice-below at (v ∷ vs) f h = absurd (cc f)

  pub add_array-below : (vs : List SemanticValue) → fits (takes does.AddArray) vs ≡ true → ValuesBelow e k vs → ProductParts e k (making does.AddArray vs).product × ValuesBelow e k (making does.AddArray vs).vals
  add_array-below (vals.Expr length ∷ vals.Place at ∷ vals.Prefixes prefixes ∷ vs) f h = (all_push _ prefixes _ h.1.1.0 h.0, h.1.1.1)
  add_array-below (vals.Expr _ ∷ vals.Place _ ∷ []) f h = absurd (cc f)
  add_array-below (vals.Expr _ ∷ vals.Place _ ∷ v ∷ vs) f h = absurd (cc f)
  add_array-below (vals.Expr _ ∷ []) f h = absurd (cc f)
  add_array-below (vals.Expr _ ∷ v ∷ vs) f h = absurd (cc f)
  add_array-below [] f h = absurd (cc f)
  add_array-below (v ∷ vs) f h = absurd (cc f)

  pub struct_type-below : (name : _) (vs : List SemanticValue) → fits (takes (does.StructType name)) vs ≡ true → ValuesBelow e k vs → ProductParts e k (making (does.StructType name) vs).product × ValuesBelow e k (making (does.StructType name) vs).vals
  struct_type-below name (vals.Prefixes prefixes ∷ vs) f h = ((h.0, tt), h.1)
  struct_type-below name [] f h = absurd (cc f)
  struct_type-below name (v ∷ vs) f h = absurd (cc f)

  pub base_core-below : (name : _) (vs : List SemanticValue) → fits (takes (does.BaseCore name)) vs ≡ true → ValuesBelow e k vs → ProductParts e k (making (does.BaseCore name) vs).product × ValuesBelow e k (making (does.BaseCore name) vs).vals
  base_core-below name (vals.Place at ∷ vs) f h = (tt, h.1)
  base_core-below name [] f h = absurd (cc f)
  base_core-below name (v ∷ vs) f h = absurd (cc f)

  pub status_core-below : (vs : List SemanticValue) → fits (takes does.StatusCore) vs ≡ true → ValuesBelow e k vs → ProductParts e k (making does.StatusCore vs).product × ValuesBelow e k (making does.StatusCore vs).vals
  status_core-below (vals.Place at ∷ vs) f h = (tt, h.1)
  status_core-below [] f h = absurd (cc f)
  status_core-below (v ∷ vs) f h = absurd (cc f)

  pub some_bounds-below : (vs : List SemanticValue) → fits (takes does.SomeBounds) vs ≡ true → ValuesBelow e k vs → ProductParts e k (making does.SomeBounds vs).product × ValuesBelow e k (making does.SomeBounds vs).vals
  some_bounds-below (vals.Expr high ∷ vals.Part low ∷ vs) f h = ((h.1.0, h.0), h.1.1)
  some_bounds-below (vals.Expr _ ∷ []) f h = absurd (cc f)
  some_bounds-below (vals.Expr _ ∷ v ∷ vs) f h = absurd (cc f)
  some_bounds-below [] f h = absurd (cc f)
  some_bounds-below (v ∷ vs) f h = absurd (cc f)

  pub finish_type-below : (vs : List SemanticValue) → fits (takes does.FinishType) vs ≡ true → ValuesBelow e k vs → ProductParts e k (making does.FinishType vs).product × ValuesBelow e k (making does.FinishType vs).vals
  finish_type-below (vals.Bounds bounds ∷ vals.Core core ∷ vals.Prefixes prefixes ∷ vs) f h = ((h.1.1.0, h.0), h.1.1.1)
  finish_type-below (vals.Bounds _ ∷ vals.Core _ ∷ []) f h = absurd (cc f)
  finish_type-below (vals.Bounds _ ∷ vals.Core _ ∷ v ∷ vs) f h = absurd (cc f)
  finish_type-below (vals.Bounds _ ∷ []) f h = absurd (cc f)
  finish_type-below (vals.Bounds _ ∷ v ∷ vs) f h = absurd (cc f)
  finish_type-below [] f h = absurd (cc f)
  finish_type-below (v ∷ vs) f h = absurd (cc f)
