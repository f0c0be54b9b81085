-- That what is made by the actions of calls is what the machine makes.
use Rattle.std.proofs.Common.{◌≡◌, ℕ, true, if◌then◌else◌, List, [], ◌∷◌, refl, ap}
use Rattle.wf_ast.specs.ParsedTree.{ExprTree, StmtTree, DeclTree}
use Rattle.wf_ast.specs.ParsedTree as tree
use Rattle.wf_ast.proofs.TreeLemmas.{all_push}
use Rattle.wf_parse_grammar.specs.declared.symbols.Action.TheVariants as does
use Rattle.wf_parse_grammar.specs.Values as val
use Rattle.wf_parse_grammar.specs.Values.{Made, perform}
use Rattle.wf_parse_nodes.specs.declared.values.SemanticValue.{SemanticValue}
use Rattle.wf_parse_nodes.specs.declared.values.SemanticValue.TheVariants as vals
use Rattle.wf_parse_nodes.specs.Making.{making}
use Rattle.wf_parse_nodes.specs.Seen.{seen_values, ValuesBelow, ProductParts, made_with, seen_given}
use Rattle.wf_parse_nodes.specs.Shapes.{fits, takes}
use Rattle.wf_parse_nodes.proofs.SeenLists.{added, given_seen}

module _ (es : List ExprTree) (ss : List StmtTree) (ds : List DeclTree) where
  pub add_given-made : (vs : List SemanticValue) → (if fits (takes does.AddGiven) vs then made_with es ss (making does.AddGiven vs).product (seen_values es ss (making does.AddGiven vs).vals) ds else record { vals = []; decls = ds }) ≡ perform does.AddGiven (record { vals = seen_values es ss vs; decls = ds })
  add_given-made (vals.Expr value ∷ vals.Name name ∷ vals.Givens givens ∷ vs) = ap (λ x. let made : Made = record { vals = val.givens x ∷ seen_values es ss vs; decls = ds } in made) (added (seen_given es) givens (record { name = name; value = value }))
  add_given-made (vals.Expr _ ∷ vals.Name _ ∷ []) = refl
  add_given-made (vals.Expr _ ∷ vals.Name _ ∷ v ∷ vs) = refl
  add_given-made (vals.Expr _ ∷ []) = refl
  add_given-made (vals.Expr _ ∷ v ∷ vs) = refl
  add_given-made [] = refl
  add_given-made (v ∷ vs) = refl

  pub finish_call-made : (vs : List SemanticValue) → (if fits (takes does.FinishCall) vs then made_with es ss (making does.FinishCall vs).product (seen_values es ss (making does.FinishCall vs).vals) ds else record { vals = []; decls = ds }) ≡ perform does.FinishCall (record { vals = seen_values es ss vs; decls = ds })
  finish_call-made (vals.Givens given ∷ vals.Mark mark ∷ vals.Name method ∷ vals.Receiver on ∷ vs) = ap (λ x. let made : Made = record { vals = val.call (tree.call on method mark x) ∷ seen_values es ss vs; decls = ds } in made) (given_seen es given)
  finish_call-made (vals.Givens _ ∷ vals.Mark _ ∷ vals.Name _ ∷ []) = refl
  finish_call-made (vals.Givens _ ∷ vals.Mark _ ∷ vals.Name _ ∷ v ∷ vs) = refl
  finish_call-made (vals.Givens _ ∷ vals.Mark _ ∷ []) = refl
  finish_call-made (vals.Givens _ ∷ vals.Mark _ ∷ v ∷ vs) = refl
  finish_call-made (vals.Givens _ ∷ []) = refl
  finish_call-made (vals.Givens _ ∷ v ∷ vs) = refl
  finish_call-made [] = refl
  finish_call-made (v ∷ vs) = refl

module _ (e k : ℕ) where
  pub add_given-below : (vs : List SemanticValue) → fits (takes does.AddGiven) vs ≡ true → ValuesBelow e k vs → ProductParts e k (making does.AddGiven vs).product × ValuesBelow e k (making does.AddGiven vs).vals
  add_given-below (vals.Expr value ∷ vals.Name name ∷ vals.Givens givens ∷ vs) f h = (all_push _ givens _ h.1.1.0 h.0, h.1.1.1)
  add_given-below (vals.Expr _ ∷ vals.Name _ ∷ []) f h = absurd (cc f)
  add_given-below (vals.Expr _ ∷ vals.Name _ ∷ v ∷ vs) f h = absurd (cc f)
  add_given-below (vals.Expr _ ∷ []) f h = absurd (cc f)
  add_given-below (vals.Expr _ ∷ v ∷ vs) f h = absurd (cc f)
  add_given-below [] f h = absurd (cc f)
  add_given-below (v ∷ vs) f h = absurd (cc f)

  pub finish_call-below : (vs : List SemanticValue) → fits (takes does.FinishCall) vs ≡ true → ValuesBelow e k vs → ProductParts e k (making does.FinishCall vs).product × ValuesBelow e k (making does.FinishCall vs).vals
  finish_call-below (vals.Givens given ∷ vals.Mark mark ∷ vals.Name method ∷ vals.Receiver on ∷ vs) f h = (h.0, h.1.1.1.1)
  finish_call-below (vals.Givens _ ∷ vals.Mark _ ∷ vals.Name _ ∷ []) f h = absurd (cc f)
  finish_call-below (vals.Givens _ ∷ vals.Mark _ ∷ vals.Name _ ∷ v ∷ vs) f h = absurd (cc f)
  finish_call-below (vals.Givens _ ∷ vals.Mark _ ∷ []) f h = absurd (cc f)
  finish_call-below (vals.Givens _ ∷ vals.Mark _ ∷ v ∷ vs) f h = absurd (cc f)
  finish_call-below (vals.Givens _ ∷ []) f h = absurd (cc f)
  finish_call-below (vals.Givens _ ∷ v ∷ vs) f h = absurd (cc f)
  finish_call-below [] f h = absurd (cc f)
  finish_call-below (v ∷ vs) f h = absurd (cc f)
