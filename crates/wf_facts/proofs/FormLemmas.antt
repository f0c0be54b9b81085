-- What the numbers of a typed package are.
use Rattle.std.proofs.Common.{◌≡◌, ℕ, suc, Bool, true, false, ◌&&◌, ◌||◌, List, [], ◌∷◌, length, map, Option, None, Some, refl, sym, ap, ◌∙◌, subst, arith}
use Rattle.std.specs.Prelude.{if◌then◌else◌, nat_eq, is_some}
use Rattle.std.proofs.lemmas.Bool.{and_parts, ne_eqb}
use Rattle.wf_text.specs.declared.place.Place.{Place}
use Rattle.wf_base.specs.declared.marks.Mark.TheVariants.{Pure}
use Rattle.wf_base.specs.declared.base_methods.BaseSig.{BaseSig}
use Rattle.wf_base.specs.declared.base_methods.BaseSig.TheVariants as sigs
use Rattle.wf_base.specs.BaseTable.{row_of}
use Rattle.wf_ast.specs.declared.numbers.ExprId.{ExprId}
use Rattle.wf_ast.specs.declared.operators.Op.{Op}
use Rattle.wf_ast.specs.declared.operators.Op.TheVariants as ops
use Rattle.wf_ast.specs.declared.types.Ty.{Ty}
use Rattle.wf_ast.specs.declared.types.Ty.TheVariants as types
use Rattle.wf_ast.specs.declared.typed_code.Expr.{Expr}
use Rattle.wf_ast.specs.declared.typed_code.Expr.TheVariants as exprs
use Rattle.wf_ast.specs.declared.typed_nodes.TypedNodes.{TypedNodes}
use Rattle.wf_ast.specs.Operators.{same_op}
use Rattle.wf_ast.specs.TypedTree.{Path, local, field, arg, Arith, plus, NumTree, number, link, ValueTree, elements, io}
use Rattle.wf_ast.specs.TypedTrees.{OperatorKind, arithmetic, ordering, joining, operator_kind, made, made_or_number, named, num_chain, chain_of, answer_of, tree_of, num_in, type_of_node, constant_of_node, place_of_node, signs_of_node}
use Rattle.wf_ast.specs.TypedInvariant.{is_expr, is_numeric, is_logical, is_state, is_list, is_io, is_tree_of, is_given, kind_fits, node_fits, chain_fits, has_kind}
use Rattle.wf_ast.specs.WellTyped.{same_mark}
use Rattle.wf_ast.specs.Same.{same_arith}
use Rattle.wf_ast.specs.NodeKinds.{is_number_at}
use Rattle.wf_facts_exprs.specs.Claims.{length_in}
use Rattle.wf_facts.specs.declared.forms.Form.{Form}
use Rattle.wf_facts.specs.declared.forms.Form.TheVariants as forms
use Rattle.wf_facts.specs.Forms.{form_of, form_of_node, form_of_method, number_in}
use Rattle.wf_facts.proofs.MentioningLemmas.{node_kind}

-- A type has one kind.
state_only : (ty : Ty) → is_numeric ty ≡ true → is_state ty ≡ true → ⊥
state_only types.Status h k = absurd (cc (h))
state_only ty h k = absurd (cc (k))

logical_only : (ty : Ty) → is_numeric ty ≡ true → is_logical ty ≡ true → ⊥
logical_only types.Flag h k = absurd (cc (h))
logical_only ty h k = absurd (cc (k))

list_only : (ty : Ty) → is_numeric ty ≡ true → is_list ty ≡ true → ⊥
list_only (types.Slice width) h k = absurd (cc (h))
list_only (types.Array width lo hi count) h k = absurd (cc (h))
list_only ty h k = absurd (cc (k))

named_form : (at : Place) (ty : Ty) (p : Path) → is_numeric ty ≡ true → form_of (num_in (named at ty p)) ≡ forms.Variable
named_form at (types.Num width lo hi) p h = refl
named_form at ty p h = absurd (cc (h))

is_addition : OperatorKind → Bool
is_addition (arithmetic f) = same_arith f plus
is_addition sort = false

addition_is : (op : Op) → is_addition (operator_kind op) ≡ same_op op ops.Add
unfolding is_addition
addition_is ops.Add = refl
addition_is op = refl

abbrev choice : Bool → Form
choice b = if b then forms.Sum else forms.Other

never : (b : Bool) → choice (b && false) ≡ forms.Other
never true = refl
never false = refl

long_chain : (at : Place) (op : Arith) (bits : ℕ) (s : NumTree) (t : ValueTree) (ts : List ValueTree) (signs : List Place) → form_of (num_chain at op bits true s (t ∷ ts) signs) ≡ forms.Other
long_chain at op bits s t [] [] = never (same_arith op plus)
long_chain at op bits s t [] (sign ∷ signs) = never (same_arith op plus)
long_chain at op bits s t (u ∷ ts) [] = long_chain at op bits (link at at op bits true s (num_in t)) u ts []
long_chain at op bits s t (u ∷ ts) (sign ∷ signs) = long_chain at op bits (link at sign op bits true s (num_in t)) u ts signs

short_chain : (at : Place) (op : Arith) (bits : ℕ) (s : NumTree) (t : ValueTree) (signs : List Place) → form_of (num_chain at op bits false s (t ∷ []) signs) ≡ choice (same_arith op plus && true)
short_chain at op bits s t [] = refl
short_chain at op bits s t (sign ∷ signs) = refl

longer_chain : (at : Place) (op : Arith) (bits : ℕ) (s : NumTree) (t u : ValueTree) (ts : List ValueTree) (signs : List Place) → form_of (num_chain at op bits false s (t ∷ u ∷ ts) signs) ≡ forms.Other
longer_chain at op bits s t u ts [] = long_chain at op bits (link at at op bits false s (num_in t)) u ts []
longer_chain at op bits s t u ts (sign ∷ signs) = long_chain at op bits (link at sign op bits false s (num_in t)) u ts signs

not_two : (n : ℕ) → nat_eq (suc (suc (suc n))) 2 ≡ false
not_two n = ne_eqb (suc (suc (suc n))) 2 (λ e. absurd (omega (arith, e)))

module _ (nodes : TypedNodes) (look : ExprId → ValueTree) (at : Place) (signs : List Place) (ty : Ty) (num : is_numeric ty ≡ true) where
  chain_form : (sort : OperatorKind) (es : List ExprId) → chain_fits nodes sort es ty ≡ true
      → form_of (num_in (chain_of at signs ty sort (map look es))) ≡ choice (is_addition sort && nat_eq (length es) 2)
  unfolding is_addition
  chain_form (arithmetic op) (e ∷ f ∷ []) h = short_chain at op _ (num_in (look e)) (look f) signs
  chain_form (arithmetic op) (e ∷ f ∷ g ∷ es) h =
      longer_chain at op _ (num_in (look e)) (look f) (look g) (map look es) signs ∙ sym (rw (not_two (length es)) (never (same_arith op plus)))
  chain_form (joining both) (e ∷ f ∷ es) h = absurd (logical_only ty num (and_parts (is_logical ty) _ h).0)
  chain_form (ordering op) (e ∷ f ∷ []) h = absurd (logical_only ty num (and_parts (is_logical ty) _ h).0)
  chain_form sort es h = absurd (cc (h))

  method_form : (sig : BaseSig) (t : ValueTree) → same_mark (row_of sig).mark Pure ≡ true → is_given (row_of sig).gives ty ≡ true
      → form_of (num_in (answer_of at sig t)) ≡ form_of_method sig
  method_form sigs.ReaderLength t h k = refl
  method_form sigs.ReaderIsClosed t h k = absurd (logical_only ty num k)
  method_form sigs.ReaderPosition t h k = refl
  method_form (sigs.Peek form) t h k = refl
  method_form sigs.WriterLength t h k = refl
  method_form sigs.WriterPosition t h k = refl
  method_form (sigs.SliceLength width) t h k = refl
  method_form (sigs.ArrayLength width) t h k = refl
  method_form sigs.IsOk t h k = absurd (logical_only ty num k)
  method_form sigs.IsNote t h k = absurd (logical_only ty num k)
  method_form sigs.IsSuspension t h k = absurd (logical_only ty num k)
  method_form sigs.IsError t h k = absurd (logical_only ty num k)
  method_form sig t h k = absurd (cc (h))

  made_form : (e : Expr) → kind_fits nodes ty e ≡ true → form_of (num_in (made look at signs ty e)) ≡ form_of_node e
  made_form (exprs.Number v) h = absurd (cc (h))
  made_form (exprs.Const v) h = absurd (cc (h))
  made_form (exprs.Status n) h = absurd (state_only ty num (and_parts (is_state ty) _ h).0)
  made_form (exprs.Truth b) h = absurd (logical_only ty num h)
  made_form (exprs.Local n) h = named_form at ty (local n.0) num
  made_form (exprs.Field n) h = named_form at ty (field n.0) num
  made_form (exprs.Arg n) h = named_form at ty (arg n.0) num
  made_form (exprs.Index base index) h = refl
  made_form (exprs.Cut base from to) h = absurd (list_only ty num (and_parts (is_list ty) _ h).0)
  made_form (exprs.Chain op parts) h = chain_form (operator_kind op) parts h ∙ ap (λ b. choice (b && nat_eq (length parts) 2)) (addition_is op)
  made_form (exprs.Convert of to) h = refl
  made_form (exprs.Not of) h = absurd (logical_only ty num (and_parts (is_logical ty) _ h).0)
  made_form (exprs.Base on sig) h =
      let p = and_parts (same_mark (row_of sig).mark Pure) _ h in
      let q = and_parts (has_kind (row_of sig).on (type_of_node nodes on.0)) _ p.1 in
      method_form sig (look on) p.0 q.1

-- A number is one that is constant.
no_number : (t : NumTree) (e : Expr) → form_of t ≡ form_of_node e → number_in t ≡ None
no_number (number at n) (exprs.Chain op parts) h = by (same_op op ops.Add && nat_eq (length parts) 2) h
  where
    by : (b : Bool) → forms.Number ≡ choice b → number_in (number at n) ≡ None
    by true k = absurd (cc (k))
    by false k = absurd (cc (k))
no_number (number at n) (exprs.Base on sig) h = by sig h
  where
    by : (sig : BaseSig) → forms.Number ≡ form_of_method sig → number_in (number at n) ≡ None
    by sigs.ReaderLength k = absurd (cc (k))
    by sig k = absurd (cc (k))
no_number (number at n) e h = absurd (cc (h))
no_number t e h = refl

module _ (nodes : TypedNodes) (e : ExprId) (expr : Expr)
    (tree : tree_of nodes e ≡ made_or_number (tree_of nodes) (place_of_node nodes e.0) (signs_of_node nodes e.0) (type_of_node nodes e.0) (constant_of_node nodes e.0) expr)
    (fits : node_fits nodes (type_of_node nodes e.0) (constant_of_node nodes e.0) expr ≡ true) (h : is_number_at nodes e ≡ true) where
  num : is_numeric (type_of_node nodes e.0) ≡ true
  num = (and_parts (is_expr nodes e) _ h).1

  by_constant : (k : Option ℕ) → constant_of_node nodes e.0 ≡ k
      → (tree_of nodes e ≡ made_or_number (tree_of nodes) (place_of_node nodes e.0) (signs_of_node nodes e.0) (type_of_node nodes e.0) k expr) × (node_fits nodes (type_of_node nodes e.0) k expr ≡ true)
  by_constant k is =
      let P : Option ℕ → Type 0 = λ c. tree_of nodes e ≡ made_or_number (tree_of nodes) (place_of_node nodes e.0) (signs_of_node nodes e.0) (type_of_node nodes e.0) c expr in
      let Q : Option ℕ → Type 0 = λ c. node_fits nodes (type_of_node nodes e.0) c expr ≡ true in
      (subst P is tree, subst Q is fits)

  pub constant_form : (k : Option ℕ) → k ≡ constant_of_node nodes e.0 → is_some k ≡ true → forms.Number ≡ form_of (num_in (tree_of nodes e))
  constant_form (Some n) is s = sym (rw (by_constant (Some n) (sym is)).0 refl)
  constant_form None is s = absurd (cc (s))

  other_form : constant_of_node nodes e.0 ≡ None → form_of (num_in (tree_of nodes e)) ≡ form_of_node expr
  other_form is =
      let it = by_constant None is in
      rw it.0 (made_form nodes (tree_of nodes) (place_of_node nodes e.0) (signs_of_node nodes e.0) (type_of_node nodes e.0) num expr it.1)

  pub expr_form : (k : Option ℕ) → k ≡ constant_of_node nodes e.0 → is_some k ≡ false → (form : Form) → form ≡ form_of_node expr → form ≡ form_of (num_in (tree_of nodes e))
  expr_form (Some n) is s form f = absurd (cc (s))
  expr_form None is s form f = f ∙ sym (other_form (sym is))

  pub number_is : (k : Option ℕ) → k ≡ constant_of_node nodes e.0 → k ≡ number_in (num_in (tree_of nodes e))
  number_is (Some n) is = sym (rw (by_constant (Some n) (sym is)).0 refl)
  number_is None is = sym (no_number (num_in (tree_of nodes e)) expr (other_form (sym is)))

-- A length is no number.
length_tree : (nodes : TypedNodes) (e : ExprId) (ty : Ty) (t : ValueTree) → (is_list ty || is_io ty) ≡ true → is_tree_of ty t ≡ true
    → (form_of (length_in nodes e ty t) ≡ (if is_io ty then forms.IoLength else forms.ListLength)) × (number_in (length_in nodes e ty t) ≡ None)
length_tree nodes e types.Reader (io at a) h k = (refl, refl)
length_tree nodes e types.Writer (io at a) h k = (refl, refl)
length_tree nodes e (types.Slice width) (elements t) h k = (refl, refl)
length_tree nodes e (types.Array width lo hi count) (elements t) h k = (refl, refl)
length_tree nodes e types.Reader t h k = absurd (cc (k))
length_tree nodes e types.Writer t h k = absurd (cc (k))
length_tree nodes e (types.Slice width) t h k = absurd (cc (k))
length_tree nodes e (types.Array width lo hi count) t h k = absurd (cc (k))
length_tree nodes e ty t h k = absurd (cc (h))

module _ (nodes : TypedNodes) (e : ExprId) (expr : Expr)
    (tree : tree_of nodes e ≡ made_or_number (tree_of nodes) (place_of_node nodes e.0) (signs_of_node nodes e.0) (type_of_node nodes e.0) (constant_of_node nodes e.0) expr)
    (fits : node_fits nodes (type_of_node nodes e.0) (constant_of_node nodes e.0) expr ≡ true)
    (h : (is_expr nodes e && (is_list (type_of_node nodes e.0) || is_io (type_of_node nodes e.0))) ≡ true) where
  pub length_is : (form_of (length_in nodes e (type_of_node nodes e.0) (tree_of nodes e)) ≡ (if is_io (type_of_node nodes e.0) then forms.IoLength else forms.ListLength))
      × (number_in (length_in nodes e (type_of_node nodes e.0) (tree_of nodes e)) ≡ None)
  length_is = length_tree nodes e (type_of_node nodes e.0) (tree_of nodes e) (and_parts (is_expr nodes e) _ h).1 (node_kind nodes e expr tree fits)

  pub io_form : (ty : Ty) → ty ≡ type_of_node nodes e.0 → is_io ty ≡ true → forms.IoLength ≡ form_of (length_in nodes e (type_of_node nodes e.0) (tree_of nodes e))
  io_form ty same h = sym (length_is.0 ∙ rw (← same, h) refl)

  pub list_form : (ty : Ty) → ty ≡ type_of_node nodes e.0 → is_io ty ≡ false → forms.ListLength ≡ form_of (length_in nodes e (type_of_node nodes e.0) (tree_of nodes e))
  list_form ty same h = sym (length_is.0 ∙ rw (← same, h) refl)
