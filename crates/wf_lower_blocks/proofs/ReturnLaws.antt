-- What a return makes of a value of each kind.
use Rattle.std.proofs.Common.{◌≡◌, ◌∙◌, ◌&&◌, ℕ, ◌<◌, true, false, List, [], length, Some, if◌then◌else◌, refl, sym, ap, subst}
use Rattle.std.specs.Prelude.{slice_get, unwrap_or}
use Rattle.wf_text.specs.declared.place.Place.{Place}
use Rattle.wf_text.specs.declared.categories.Category.{Category}
use Rattle.wf_text.specs.declared.categories.Category.TheVariants.{Suspension}
use Rattle.wf_text.specs.StatusText.{category_of}
use Rattle.wf_ast.specs.declared.numbers.ExprId.{ExprId}
use Rattle.wf_ast.specs.declared.typed_nodes.TypedNodes.{TypedNodes}
use Rattle.wf_ast.specs.declared.types.Ty.{Ty}
use Rattle.wf_ast.specs.declared.types.Ty.TheVariants as types
use Rattle.wf_ast.specs.TypedInvariant.{IsTyped, is_expr, is_logical, is_numeric, is_state, is_tree_of}
use Rattle.wf_ast.specs.TypedPackage.{package_of}
use Rattle.wf_ast.specs.TypedTree.{StatusTree, status, held, no_status, ValueTree, elements, io}
use Rattle.wf_ast.specs.TypedTrees.{status_in, tree_of, type_of_node}
use Rattle.wf_ast.specs.Value.{same_category}
use Rattle.wf_ast.specs.WellTyped.{is_coroutine}
use Rattle.wf_ast.specs.NodeKinds.{node_status}
use Rattle.wf_meaning.specs.Entry.{cannot_suspend, has_kind}
use Rattle.c_text.specs.CTree.{Code, finish}
use Rattle.c_text.specs.CTree as c
use Rattle.wf_exprs.specs.Exprs.{begins_with, is_constant, lowered_status, status_constant}
use Rattle.wf_lower_stmts.specs.Forms.{Form, give, status_local, when}
use Rattle.wf_exprs_nodes.specs.Trees.{lowered_value}
use Rattle.wf_lower_stmts.specs.Statements.{give_status, give_value, is_suspension}
use Rattle.wf_exprs_nodes.proofs.ValueLaws.{kind, number_is, flag_is, status_is}

-- The kind of a status is told by its text.
pub suspension_is : (t nodes : TypedNodes) (n : ℕ) (text : List ℕ) (category : Category) → t ≡ nodes → slice_get t.statuses n ≡ Some text → category ≡ category_of text
    → same_category Suspension category ≡ has_kind (package_of nodes) Suspension n
unfolding package_of
suspension_is t nodes n text category same is kind =
    let P : TypedNodes → Type 0 = λ x. slice_get x.statuses n ≡ Some text in
    ap (same_category Suspension) kind ∙ ap (λ o. same_category Suspension (category_of (unwrap_or o []))) (sym (subst P same is))

-- A status that is no constant.
pub asked_is : (f : Form) (t : StatusTree) (rest : Code) → is_constant t ≡ false → is_coroutine f.method.mark ≡ true
    → c.assign status_local (lowered_status f.names t) (when (begins_with 36 status_local) (c.assign status_local (status_constant cannot_suspend) finish) (give f (Some status_local) rest)) ≡ give_status f t rest
asked_is f (status at n) rest h k = absurd (cc h)
asked_is f (held at p) rest h k = rw k refl
asked_is f no_status rest h k = rw k refl

pub unasked_is : (f : Form) (t : StatusTree) (rest : Code) → is_constant t ≡ false → is_coroutine f.method.mark ≡ false
    → give f (Some (lowered_status f.names t)) rest ≡ give_status f t rest
unasked_is f (status at n) rest h k = absurd (cc h)
unasked_is f (held at p) rest h k = rw k refl
unasked_is f no_status rest h k = rw k refl

-- A status that is known, and one that isn't.
pub known_is : (f : Form) (t nodes : TypedNodes) (e : ExprId) (at : Place) (n : ℕ) (rest : Code) → t ≡ nodes → node_status t e ≡ status at n
    → give f (Some (status_constant (if is_coroutine f.method.mark && is_suspension f n then cannot_suspend else n))) rest ≡ give_status f (node_status nodes e) rest
known_is f t nodes e at n rest same is = sym (ap (λ x. give_status f x rest) (ap (λ x. node_status x e) (sym same) ∙ is))

pub known_there : (t nodes : TypedNodes) (n : ℕ) → t ≡ nodes → n < length t.statuses → n < length nodes.statuses
known_there t nodes n same h = let P : TypedNodes → Type 0 = λ x. n < length x.statuses in subst P same h

pub unknown_seen : (t nodes : TypedNodes) (e : ExprId) → t ≡ nodes → is_constant (node_status t e) ≡ false → is_constant (node_status nodes e) ≡ false
unknown_seen t nodes e same h = ap (λ x. is_constant (node_status x e)) (sym same) ∙ h

module _ (nodes : TypedNodes) (typed : IsTyped nodes) (e : ExprId) (there : is_expr nodes e ≡ true) (f : Form) (rest : Code) where
  -- A number or a truth value is returned as it is assigned.
  same_single : (v : ValueTree) → tree_of nodes e ≡ v → give f (Some (lowered_value f.names v)) rest ≡ give_value f (Some v) rest → give f (Some (lowered_value f.names (tree_of nodes e))) rest ≡ give_value f (Some (tree_of nodes e)) rest
  same_single v same h = let P : ValueTree → Type 0 = λ t. give f (Some (lowered_value f.names t)) rest ≡ give_value f (Some t) rest in subst P (sym same) h

  pub number_given : is_numeric (type_of_node nodes e.0) ≡ true → give f (Some (lowered_value f.names (tree_of nodes e))) rest ≡ give_value f (Some (tree_of nodes e)) rest
  number_given h = same_single _ (number_is nodes typed e there h) refl

  pub flag_given : is_logical (type_of_node nodes e.0) ≡ true → give f (Some (lowered_value f.names (tree_of nodes e))) rest ≡ give_value f (Some (tree_of nodes e)) rest
  flag_given h = same_single _ (flag_is nodes typed e there h) refl

  pub status_given : is_state (type_of_node nodes e.0) ≡ true → give_status f (status_in (tree_of nodes e)) rest ≡ give_value f (Some (tree_of nodes e)) rest
  status_given h = sym (ap (λ v. give_value f (Some v) rest) (status_is nodes typed e there h))

  -- No other kind of value is returned.
  pub nothing_given : (ty : Ty) → ty ≡ type_of_node nodes e.0 → (is_numeric ty ≡ false) → (is_logical ty ≡ false) → (is_state ty ≡ false) → rest ≡ give_value f (Some (tree_of nodes e)) rest
  nothing_given ty same h k l =
      let P : Ty → Type 0 = λ x. is_tree_of x (tree_of nodes e) ≡ true in
      by ty (tree_of nodes e) (subst P (sym same) (kind nodes typed e there)) h k l
    where
      by : (ty : Ty) (t : ValueTree) → is_tree_of ty t ≡ true → is_numeric ty ≡ false → is_logical ty ≡ false → is_state ty ≡ false → rest ≡ give_value f (Some t) rest
      by (types.Num width lo hi) t j h k l = absurd (cc h)
      by types.Flag t j h k l = absurd (cc k)
      by types.Status t j h k l = absurd (cc l)
      by types.Reader (io at n) j h k l = refl
      by types.Reader t j h k l = absurd (cc j)
      by types.Writer (io at n) j h k l = refl
      by types.Writer t j h k l = absurd (cc j)
      by (types.Slice width) (elements t) j h k l = refl
      by (types.Slice width) t j h k l = absurd (cc j)
      by (types.Array width lo hi count) (elements t) j h k l = refl
      by (types.Array width lo hi count) t j h k l = absurd (cc j)
      by (types.Part s) t j h k l = absurd (cc j)
