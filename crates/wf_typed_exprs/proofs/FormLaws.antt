-- The node of each form of expression makes the expression's tree, and has the kind of its type, where the nodes of its
-- parts stand for these.
use Rattle.std.proofs.Common.{◌≡◌, ℕ, ◌<◌, ◌^◌, Bool, true, false, ◌&&◌, ◌||◌, [], length, Option, Some, None, nat_lt, refl, sym, ap, ◌∙◌, subst, arith}
use Rattle.std.specs.Prelude.{option_and_then, option_map, if◌then◌else◌, slice_get}
use Rattle.std.specs.Bool.{⊤}
use Rattle.std.proofs.lemmas.Bool.Decides.{nat_tests}
use Rattle.wf_text.specs.declared.place.Place.{Place}
use Rattle.wf_base.specs.declared.marks.Mark.{Mark}
use Rattle.wf_base.specs.declared.marks.Mark.TheVariants.{Pure, Impure, Coroutine}
use Rattle.wf_base.specs.declared.widths.Width.{Width}
use Rattle.wf_base.specs.declared.base_methods.Gives.{Gives}
use Rattle.wf_base.specs.declared.base_methods.Gives.TheVariants as gives
use Rattle.wf_base.specs.declared.base_methods.Kind.{Kind}
use Rattle.wf_base.specs.declared.base_methods.Kind.TheVariants as kinds
use Rattle.wf_base.specs.declared.base_methods.BaseSig.{BaseSig}
use Rattle.wf_base.specs.BaseTable.{row_of}
use Rattle.wf_ast.specs.declared.numbers.ExprId.{ExprId}
use Rattle.wf_ast.specs.declared.types.Ty.{Ty}
use Rattle.wf_ast.specs.declared.types.Ty.TheVariants as types
use Rattle.wf_ast.specs.declared.typed_code.Expr.{Expr}
use Rattle.wf_ast.specs.declared.typed_code.Expr.TheVariants as exprs
use Rattle.wf_ast.specs.declared.typed_nodes.TypedNodes.{TypedNodes}
use Rattle.wf_ast.specs.TypedTree.{ValueTree, numeric, elements, element, cut}
use Rattle.wf_ast.specs.TypedTrees.{made_or_number, tree_of, type_of_node, end_in, num_type, num_in, slice_in, answer_of}
use Rattle.wf_ast.specs.TypedInvariant.{parts_below, is_numeric, is_logical, is_state, is_list, is_io, is_given, has_kind, node_fits, optional_numeric}
use Rattle.wf_ast.specs.WellTyped.{is_pure, same_mark}
use Rattle.wf_named.specs.declared.nodes.NamedCallee.TheVariants as callees
use Rattle.wf_named.specs.declared.nodes.NamedPath.{NamedPath}
use Rattle.wf_named.specs.declared.nodes.Variable.{Variable}
use Rattle.wf_named.specs.declared.nodes.Variable.TheVariants as variables
use Rattle.wf_named.specs.NamedTree.{NamedExprTree, number, path, index, slice, answer, convert, negation, NamedPartTree, absent, present, NamedArgTrees, call, NamedTypeTree}
use Rattle.wf_named.specs.WellNamed as names
use Rattle.wf_named.specs.WellNamed.{is_there, named_expr, named_part, named_args, named_type, type_of_variable, kind_of, is_wanted, args_wanted, count_args}
use Rattle.wf_named.specs.Grammar.{end_by_grammar}
use Rattle.wf_types_rules.specs.declared.meanings.Meaning.{Meaning}
use Rattle.wf_types_rules.specs.declared.meanings.Meaning.TheVariants as meanings
use Rattle.wf_types_rules.specs.declared.settings.Role.TheVariants as roles
use Rattle.wf_types_rules.specs.Meanings as meant
use Rattle.wf_types_rules.specs.declared.settings.Setting.{Setting}
use Rattle.wf_types_rules.specs.Meanings.{all_of, there, as_constant, variable, is_value}
use Rattle.wf_types_rules.specs.DeclaredTypes.{may_be}
use Rattle.wf_types_rules.specs.ExprTypes as told
use Rattle.wf_types_rules.specs.ExprTypes.{only_where, element_of, if_number, if_end, given_by_base, pure_answer, plain_width, converted, meaning}
use Rattle.wf_typed_tree.specs.ElaboratedExprs.{variable_tree, path_tree, type_meant, end_tree, expr_tree}
use Rattle.wf_typed_tree.specs.MeaningTrees.{kind_meant}
use Rattle.wf_typed_tree.proofs.NumberLemmas.{both, and-true, then-parts, map-parts, where-parts, in-64}
use Rattle.wf_typed_tree.proofs.ExprLaws.{numbered, kind-wanted}
use Rattle.wf_typed_exprs.specs.declared.elaborated.Elaborated.{Elaborated}
use Rattle.wf_types_exprs.specs.Found.{end_kept}
use Rattle.wf_typed_exprs.specs.Forms.{naming, node_of, value_of}
use Rattle.wf_typed_exprs.specs.Nodes.{number_meant, StandsForExpr, StandsForPath, StandsForEnd, Makes, MakesExpr}
use Rattle.wf_typed_exprs.specs.Right.{Around, IsRight, is_struct, IsRightPath, IsRightEnd}

lower : (m n : ℕ) → m < n → nat_lt m n ≡ true
lower m n h = grind (arith, nat_tests, h)

-- What a meaning says of the kind of its type.
pub number-numeric : (m : Meaning) → meant.is_number m ≡ true → is_numeric (type_meant (Some m)) ≡ true
number-numeric (meanings.Constant None v) h = refl
number-numeric (meanings.Constant (Some w) v) h = refl
number-numeric (meanings.Typed (types.Num w lo hi)) h = refl
number-numeric m h = absurd (cc h)

pub flag-logical : (m : Meaning) → meant.is_flag m ≡ true → is_logical (type_meant (Some m)) ≡ true
flag-logical (meanings.Typed types.Flag) h = refl
flag-logical m h = absurd (cc h)

pub status-state : (m : Meaning) → meant.is_status m ≡ true → is_state (type_meant (Some m)) ≡ true
status-state (meanings.Typed types.Status) h = refl
status-state m h = absurd (cc h)

element-numeric : (m : Meaning) (ty : Ty) → element_of m ≡ Some ty → is_numeric ty ≡ true
element-numeric (meanings.Typed (types.Array w lo hi count)) ty h = let e : types.Num w lo hi ≡ ty = cc h in subst (λ t. is_numeric t ≡ true) e refl
element-numeric (meanings.Typed (types.Slice w)) ty h = let e : all_of w ≡ ty = cc h in subst (λ t. is_numeric t ≡ true) e refl
element-numeric m ty h = absurd (cc h)

element-list : (m : Meaning) (ty : Ty) → element_of m ≡ Some ty → is_list (type_meant (Some m)) ≡ true
element-list (meanings.Typed (types.Array w lo hi count)) ty h = refl
element-list (meanings.Typed (types.Slice w)) ty h = refl
element-list m ty h = absurd (cc h)

slice-list : (m : Meaning) (ty : Ty) → told.slice_in m ≡ Some ty → is_list (type_meant (Some m)) ≡ true
slice-list (meanings.Typed (types.Array w lo hi count)) ty h = refl
slice-list (meanings.Typed (types.Slice w)) ty h = refl
slice-list m ty h = absurd (cc h)

slice-gives : (m : Meaning) (ty : Ty) → told.slice_in m ≡ Some ty → is_list ty ≡ true
slice-gives (meanings.Typed (types.Array w lo hi count)) ty h = subst (λ t. is_list t ≡ true) (where-parts _ (types.Slice w) ty h).1 refl
slice-gives (meanings.Typed (types.Slice w)) ty h = let e : types.Slice w ≡ ty = cc h in subst (λ t. is_list t ≡ true) e refl
slice-gives m ty h = absurd (cc h)

element-no-struct : (m : Meaning) (ty : Ty) → element_of m ≡ Some ty → is_struct m ≡ false
element-no-struct (meanings.Typed (types.Array w lo hi count)) ty h = refl
element-no-struct (meanings.Typed (types.Slice w)) ty h = refl
element-no-struct m ty h = absurd (cc h)

slice-no-struct : (m : Meaning) (ty : Ty) → told.slice_in m ≡ Some ty → is_struct m ≡ false
slice-no-struct (meanings.Typed (types.Array w lo hi count)) ty h = refl
slice-no-struct (meanings.Typed (types.Slice w)) ty h = refl
slice-no-struct m ty h = absurd (cc h)

pub value-no-struct : (m : Meaning) → is_value m ≡ true → is_struct m ≡ false
value-no-struct (meanings.Typed (types.Part n)) h = absurd (cc h)
value-no-struct (meanings.Typed types.Reader) h = absurd (cc h)
value-no-struct (meanings.Typed types.Writer) h = absurd (cc h)
value-no-struct (meanings.Typed (types.Array w lo hi count)) h = absurd (cc h)
value-no-struct m h = refl

kind-no-struct : (k : Kind) (m : Meaning) → names.has_kind k (kind_meant m) ≡ true → is_struct m ≡ false
kind-no-struct k (meanings.Typed (types.Part n)) h = absurd (cc h)
kind-no-struct k (meanings.Typed (types.Num w lo hi)) h = refl
kind-no-struct k (meanings.Typed types.Flag) h = refl
kind-no-struct k (meanings.Typed types.Status) h = refl
kind-no-struct k (meanings.Typed types.Reader) h = refl
kind-no-struct k (meanings.Typed types.Writer) h = refl
kind-no-struct k (meanings.Typed (types.Slice w)) h = refl
kind-no-struct k (meanings.Typed (types.Array w lo hi count)) h = refl
kind-no-struct k (meanings.Constant w v) h = refl

pub kind-typed : (k : Kind) (m : Meaning) → names.has_kind k (kind_meant m) ≡ true → has_kind k (type_meant (Some m)) ≡ true
kind-typed kinds.Reader (meanings.Typed types.Reader) h = refl
kind-typed kinds.Writer (meanings.Typed types.Writer) h = refl
kind-typed kinds.Status (meanings.Typed types.Status) h = refl
kind-typed (kinds.Slice w) (meanings.Typed (types.Slice own)) h = refl
kind-typed (kinds.Array w) (meanings.Typed (types.Array own lo hi count)) h = refl
kind-typed k m h = absurd (cc h)

pub numeric-there : (o : Option Meaning) (m : Meaning) → o ≡ Some m → meant.is_number m ≡ true → is_numeric (type_meant o) ≡ true
numeric-there o m e h = let P : Option Meaning → Type 0 = λ x. is_numeric (type_meant x) ≡ true in subst P (sym e) (number-numeric m h)

-- A constant has a number of 64 bits.
pub constant-fits : (nodes : TypedNodes) (w : Option Width) (v : ℕ) (x : Expr) → nat_lt v (2 ^ 64) ≡ true
    → node_fits nodes (type_meant (Some (meanings.Constant w v))) (number_meant (Some (meanings.Constant w v))) x ≡ true
constant-fits nodes None v x h = h
constant-fits nodes (Some w) v x h = h

-- A path.
local-kind : (ty : Ty) → may_be roles.Local ty ≡ true → (is_numeric ty || (is_logical ty || (is_state ty || is_list ty))) ≡ true
local-kind (types.Num w lo hi) h = refl
local-kind types.Flag h = refl
local-kind types.Status h = refl
local-kind (types.Slice w) h = refl
local-kind ty h = absurd (cc h)

field-kind : (ty : Ty) → may_be roles.Field ty ≡ true → is_struct (meanings.Typed ty) ≡ false → (is_numeric ty || (is_logical ty || (is_state ty || is_list ty))) ≡ true
field-kind (types.Num w lo hi) h k = refl
field-kind types.Flag h k = refl
field-kind types.Status h k = refl
field-kind (types.Array w lo hi count) h k = refl
field-kind (types.Part n) h k = absurd (cc k)
field-kind ty h k = absurd (cc h)

arg-kind : (ty : Ty) → may_be roles.Arg ty ≡ true → (is_numeric ty || (is_logical ty || (is_list ty || is_io ty))) ≡ true
arg-kind (types.Num w lo hi) h = refl
arg-kind types.Flag h = refl
arg-kind types.Reader h = refl
arg-kind types.Writer h = refl
arg-kind (types.Slice w) h = refl
arg-kind ty h = absurd (cc h)

-- What a variable's type is made of.
typed-parts : (o : Option Ty) (ty : Ty) → option_map meanings.Typed o ≡ Some (meanings.Typed ty) → o ≡ Some ty
typed-parts None ty h = absurd (cc h)
typed-parts (Some t) ty h = let e : meanings.Typed t ≡ meanings.Typed ty = cc h in let f : t ≡ ty = cc e in ap Some f

variable-fits : (s : Setting) (nodes : TypedNodes) (around : Around s (length nodes.statuses)) (x : Variable) (m : Meaning) → variable s x ≡ Some m → is_struct m ≡ false
    → node_fits nodes (type_meant (Some m)) (number_meant (Some m)) (naming x) ≡ true
variable-fits s nodes around x (meanings.Constant w v) h k = constant-fits nodes w v (naming x) (in-64 w v (around.agree.constant x w v h))
variable-fits s nodes around (variables.Const c) (meanings.Typed ty) h k =
    let p = map-parts as_constant (there (slice_get s.constants c.0)) (meanings.Typed ty) h in absurd (cc p.gives)
variable-fits s nodes around (variables.Local x) (meanings.Typed ty) h k = local-kind ty (around.locals x.0 ty (typed-parts (there (slice_get s.locals x.0)) ty h))
variable-fits s nodes around (variables.Field x) (meanings.Typed ty) h k = field-kind ty (around.fields x.0 ty (typed-parts (there (slice_get s.fields x.0)) ty h)) k
variable-fits s nodes around (variables.Arg x) (meanings.Typed ty) h k = arg-kind ty (around.args x.0 ty (typed-parts (there (slice_get s.args x.0)) ty h))

variable-made : (s : Setting) (look : ExprId → ValueTree) (at : Place) (x : Variable) (m : Meaning) → variable s x ≡ Some m
    → made_or_number look at [] (type_meant (Some m)) (number_meant (Some m)) (naming x) ≡ variable_tree at x (Some m)
variable-made s look at x (meanings.Constant w v) h = refl
variable-made s look at (variables.Const c) (meanings.Typed ty) h =
    let p = map-parts as_constant (there (slice_get s.constants c.0)) (meanings.Typed ty) h in absurd (cc p.gives)
variable-made s look at (variables.Local x) (meanings.Typed ty) h = refl
variable-made s look at (variables.Field x) (meanings.Typed ty) h = refl
variable-made s look at (variables.Arg x) (meanings.Typed ty) h = refl

naming-below : (k : ℕ) (x : Variable) → parts_below k (naming x) ≡ true
naming-below k (variables.Const c) = refl
naming-below k (variables.Local x) = refl
naming-below k (variables.Field x) = refl
naming-below k (variables.Arg x) = refl

-- What a pure base method answers.
record PureParts (sig : BaseSig) (m : Meaning) : Type 0 where
  of : Ty
  pure : is_pure (row_of sig).mark ≡ true
  gives : given_by_base (row_of sig).gives ≡ Some of
  is : meanings.Typed of ≡ m

pure-parts : (sig : BaseSig) (written : Mark) (m on : Meaning) → pure_answer sig written on ≡ Some m → PureParts sig m
pure-parts sig written m on h = by_test (is_pure (row_of sig).mark && is_pure written) refl h
  where
    by_test : (b : Bool) → (is_pure (row_of sig).mark && is_pure written) ≡ b → (if b then option_map meanings.Typed (given_by_base (row_of sig).gives) else None) ≡ Some m → PureParts sig m
    by_test true e k =
        let p = both (is_pure (row_of sig).mark) (is_pure written) e in
        let q = map-parts meanings.Typed (given_by_base (row_of sig).gives) m k in
        record { of = q.of; pure = p.0; gives = q.is; is = q.gives }
    by_test false e k = absurd (cc k)

pure-mark : (mark : Mark) → is_pure mark ≡ true → same_mark mark Pure ≡ true
pure-mark Pure h = refl
pure-mark Impure h = absurd (cc h)
pure-mark Coroutine h = absurd (cc h)

gives-given : (g : Gives) (ty : Ty) → given_by_base g ≡ Some ty → is_given g ty ≡ true
gives-given gives.Nothing ty h = absurd (cc h)
gives-given (gives.Num w) ty h = let e : all_of w ≡ ty = cc h in subst (λ t. is_numeric t ≡ true) e refl
gives-given gives.Flag ty h = let e : types.Flag ≡ ty = cc h in subst (λ t. is_logical t ≡ true) e refl

module _ (s : Setting) (nodes : TypedNodes) where
  pub path-makes : (p : NamedPath) → IsRightPath s (length nodes.statuses) p
      → Makes p.at (path_tree s p) (variable s p.of) nodes (record { node = record { expr = naming p.of; at = p.at; signs = [] }; of = variable s p.of })
  path-makes p right =
      let F : Option Meaning → Type 0 = λ o. node_fits nodes (type_meant o) (number_meant o) (naming p.of) ≡ true in
      let T : Option Meaning → Type 0 = λ o. made_or_number (tree_of nodes) p.at [] (type_meant o) (number_meant o) (naming p.of) ≡ variable_tree p.at p.of o in
      record {
        placed = refl;
        means = refl;
        below = naming-below (length nodes.exprs) p.of;
        fits = subst F (sym right.means) (variable-fits s nodes right.around p.of right.of right.means right.whole);
        tree_is = subst T (sym right.means) (variable-made s (tree_of nodes) p.at p.of right.of right.means);
      }

  -- A path as a value.
  pub value-right : (k : ℕ) (p : NamedPath) → IsRight s k (path p) → IsRightPath s k p
  value-right k p right =
      let it = then-parts (only_where is_value) (variable s p.of) right.of right.means in
      record { around = right.around; of = it.of; means = it.is; whole = value-no-struct it.of (where-parts (is_value it.of) it.of right.of it.gives).0 }

  pub value-makes : (p : NamedPath) → IsRight s (length nodes.statuses) (path p)
      → MakesExpr s (path p) nodes (record { node = record { expr = naming p.of; at = p.at; signs = [] }; of = option_and_then (only_where is_value) (variable s p.of) })
  value-makes p right =
      let it = then-parts (only_where is_value) (variable s p.of) right.of right.means in
      let same : variable s p.of ≡ meaning s (path p) = it.is ∙ ap Some (where-parts (is_value it.of) it.of right.of it.gives).1 ∙ sym right.means in
      let made = path-makes p (value-right (length nodes.statuses) p right) in
      let F : Option Meaning → Type 0 = λ o. node_fits nodes (type_meant o) (number_meant o) (naming p.of) ≡ true in
      let T : Option Meaning → Type 0 = λ o. made_or_number (tree_of nodes) p.at [] (type_meant o) (number_meant o) (naming p.of) ≡ path_tree s p in
      record { placed = refl; means = refl; below = made.below; fits = subst F same made.fits; tree_is = subst T same made.tree_is }

  -- An element.
  pub index-right : (k : ℕ) (p : NamedPath) (t : NamedExprTree) (at : Place) → IsRight s k (index p t at) → IsRightPath s k p × IsRight s k t
  index-right k p t at right =
      let whole = map-parts meanings.Typed (if_number (meaning s t) (option_and_then element_of (variable s p.of))) right.of right.means in
      let place = numbered (meaning s t) (option_and_then element_of (variable s p.of)) whole.of whole.is in
      let base = then-parts element_of (variable s p.of) whole.of place.gives in (
        record { around = right.around; of = base.of; means = base.is; whole = element-no-struct base.of whole.of base.gives },
        record { around = right.around; grammar = right.grammar; named = (both (is_there right.around.names p) (named_expr right.around.names t) right.named).1; of = place.of; means = place.is },
      )

  pub index-makes : (p : NamedPath) (t : NamedExprTree) (at : Place) (b e : ExprId) → IsRight s (length nodes.statuses) (index p t at) → StandsForPath s p nodes b → StandsForExpr s t nodes e
      → MakesExpr s (index p t at) nodes
      (record { node = record { expr = exprs.Index b e; at = at; signs = [] }; of = option_map meanings.Typed (if_number (meaning s t) (option_and_then element_of (variable s p.of))) })
  index-makes p t at b e right base inside =
      let whole = map-parts meanings.Typed (if_number (meaning s t) (option_and_then element_of (variable s p.of))) right.of right.means in
      let place = numbered (meaning s t) (option_and_then element_of (variable s p.of)) whole.of whole.is in
      let array = then-parts element_of (variable s p.of) whole.of place.gives in
      let cells : is_list (type_of_node nodes b.0) ≡ true = rw (base.typed, array.is) (element-list array.of whole.of array.gives) in
      let counts : is_numeric (type_of_node nodes e.0) ≡ true = rw inside.typed (numeric-there (meaning s t) place.of place.is place.number) in
      let is : meaning s (index p t at) ≡ Some (meanings.Typed whole.of) = ap (option_map meanings.Typed) whole.is in
      let F : Option Meaning → Type 0 = λ o. node_fits nodes (type_meant o) (number_meant o) (exprs.Index b e) ≡ true in
      let T : Option Meaning → Type 0 = λ o. made_or_number (tree_of nodes) at [] (type_meant o) (number_meant o) (exprs.Index b e) ≡ numeric (element at (num_type (type_meant o)) (slice_in (path_tree s p)) (num_in (expr_tree s t))) in
      record {
        placed = refl;
        means = refl;
        below = and-true (nat_lt b.0 (length nodes.exprs)) _ (lower b.0 (length nodes.exprs) base.there) (and-true (nat_lt e.0 (length nodes.exprs)) true (lower e.0 (length nodes.exprs) inside.there) refl);
        fits = subst F (sym is) (and-true (is_numeric whole.of) _ (element-numeric array.of whole.of array.gives) (and-true (is_list (type_of_node nodes b.0)) (is_numeric (type_of_node nodes e.0)) cells counts));
        tree_is = subst T (sym is) (rw (base.tree_is, inside.tree_is) refl);
      }

  -- A conversion and a `not`.
  pub convert-right : (k : ℕ) (t : NamedExprTree) (to : NamedTypeTree) (at : Place) → IsRight s k (convert t to at) → IsRight s k t
  convert-right k t to at right =
      let it = then-parts (converted (plain_width to)) (meaning s t) right.of right.means in
      record { around = right.around; grammar = right.grammar; named = (both (named_expr right.around.names t) (named_type right.around.names to) right.named).0; of = it.of; means = it.is }

  -- The type after an `as` that breaks no rule is a width.
  pub convert-width : (k : ℕ) (t : NamedExprTree) (to : NamedTypeTree) (at : Place) → IsRight s k (convert t to at) → None ≡ plain_width to → ⊥
  convert-width k t to at right none =
      let it = then-parts (converted (plain_width to)) (meaning s t) right.of right.means in
      let gives : converted None it.of ≡ Some right.of = subst (λ w. converted w it.of ≡ Some right.of) (sym none) it.gives in
      absurd (cc gives)

  pub negation-right : (k : ℕ) (t : NamedExprTree) (at : Place) → IsRight s k (negation t at) → IsRight s k t
  negation-right k t at right =
      let it = then-parts (only_where meant.is_flag) (meaning s t) right.of right.means in
      record { around = right.around; grammar = right.grammar; named = right.named; of = it.of; means = it.is }

  -- An end of a slice.
  pub end-right : (k : ℕ) (around : Around s k) (part : NamedPartTree) (x : Option Ty) (ty : Ty) → end_by_grammar part ≡ true → named_part around.names part ≡ true
      → if_end s part x ≡ Some ty → (x ≡ Some ty) × IsRightEnd s k part
  end-right k around absent x ty g n h = (h, tt)
  end-right k around (present t) x ty g n h =
      let it = numbered (meaning s t) x ty h in (it.gives, record { around = around; grammar = g; named = n; of = it.of; means = it.is })

  end-numeric : (part : NamedPartTree) (x : Option Ty) (ty : Ty) (a : Option Elaborated) → if_end s part x ≡ Some ty → StandsForEnd s part nodes a → optional_numeric nodes (node_of a) ≡ true
  end-numeric absent x ty None h e = refl
  end-numeric (present t) x ty (Some a) h e = let it = numbered (meaning s t) x ty h in rw e.0.typed (numeric-there (meaning s t) it.of it.is it.number)
  end-numeric absent x ty (Some a) h e = absurd e
  end-numeric (present t) x ty None h e = absurd e

  end-means : (part : NamedPartTree) (x : Option Ty) (a : Option Elaborated) → StandsForEnd s part nodes a → end_kept (value_of a) x ≡ if_end s part x
  end-means absent x None e = refl
  end-means (present t) x (Some a) e = rw e.1 refl
  end-means absent x (Some a) e = absurd e
  end-means (present t) x None e = absurd e

  end-made : (part : NamedPartTree) (a : Option Elaborated) → StandsForEnd s part nodes a → end_in (tree_of nodes) (node_of a) ≡ end_tree s part
  end-made absent None e = refl
  end-made (present t) (Some a) e = rw e.0.tree_is refl
  end-made absent (Some a) e = absurd e
  end-made (present t) None e = absurd e

  abbrev EndBelow : Option Elaborated → Type 0
  EndBelow None = ⊤
  EndBelow (Some a) = a.node.0 < length nodes.exprs

  end-below : (part : NamedPartTree) (a : Option Elaborated) → StandsForEnd s part nodes a → EndBelow a
  end-below absent None e = tt
  end-below (present t) (Some a) e = e.0.there
  end-below absent (Some a) e = absurd e
  end-below (present t) None e = absurd e

  cut-below : (b : ExprId) (a z : Option Elaborated) → b.0 < length nodes.exprs → EndBelow a → EndBelow z → parts_below (length nodes.exprs) (exprs.Cut b (node_of a) (node_of z)) ≡ true
  cut-below b None None h p q = rw (lower b.0 (length nodes.exprs) h) refl
  cut-below b None (Some z) h p q = rw (lower b.0 (length nodes.exprs) h, lower z.node.0 (length nodes.exprs) q) refl
  cut-below b (Some a) None h p q = rw (lower b.0 (length nodes.exprs) h, lower a.node.0 (length nodes.exprs) p) refl
  cut-below b (Some a) (Some z) h p q = rw (lower b.0 (length nodes.exprs) h, lower a.node.0 (length nodes.exprs) p, lower z.node.0 (length nodes.exprs) q) refl

  -- A slice.
  pub slice-right : (k : ℕ) (p : NamedPath) (from to : NamedPartTree) (at : Place) → IsRight s k (slice p from to at) → IsRightPath s k p × (IsRightEnd s k from × IsRightEnd s k to)
  slice-right k p from to at right =
      let grammar = both (end_by_grammar from) (end_by_grammar to) right.grammar in
      let names_in = right.around.names in
      let named = both (named_part names_in from) (named_part names_in to) (both (is_there names_in p) (named_part names_in from && named_part names_in to) right.named).1 in
      let whole = map-parts meanings.Typed (if_end s from (if_end s to (option_and_then told.slice_in (variable s p.of)))) right.of right.means in
      let first = end-right k right.around from (if_end s to (option_and_then told.slice_in (variable s p.of))) whole.of grammar.0 named.0 whole.is in
      let second = end-right k right.around to (option_and_then told.slice_in (variable s p.of)) whole.of grammar.1 named.1 first.0 in
      let base = then-parts told.slice_in (variable s p.of) whole.of second.0 in
      (record { around = right.around; of = base.of; means = base.is; whole = slice-no-struct base.of whole.of base.gives }, (first.1, second.1))

  pub slice-makes : (p : NamedPath) (from to : NamedPartTree) (at : Place) (b : ExprId) (a z : Option Elaborated) → IsRight s (length nodes.statuses) (slice p from to at)
      → StandsForPath s p nodes b → StandsForEnd s from nodes a → StandsForEnd s to nodes z
      → MakesExpr s (slice p from to at) nodes
      (record { node = record { expr = exprs.Cut b (node_of a) (node_of z); at = at; signs = [] }; of = option_map meanings.Typed (end_kept (value_of a) (end_kept (value_of z) (option_and_then told.slice_in (variable s p.of)))) })
  slice-makes p from to at b a z right base first last =
      let cells = option_and_then told.slice_in (variable s p.of) in
      let grammar = both (end_by_grammar from) (end_by_grammar to) right.grammar in
      let names_in = right.around.names in
      let named = both (named_part names_in from) (named_part names_in to) (both (is_there names_in p) (named_part names_in from && named_part names_in to) right.named).1 in
      let whole = map-parts meanings.Typed (if_end s from (if_end s to cells)) right.of right.means in
      let behind = end-right (length nodes.statuses) right.around from (if_end s to cells) whole.of grammar.0 named.0 whole.is in
      let inner = end-right (length nodes.statuses) right.around to cells whole.of grammar.1 named.1 behind.0 in
      let array = then-parts told.slice_in (variable s p.of) whole.of inner.0 in
      let lists : is_list (type_of_node nodes b.0) ≡ true = rw (base.typed, array.is) (slice-list array.of whole.of array.gives) in
      let is : meaning s (slice p from to at) ≡ Some (meanings.Typed whole.of) = ap (option_map meanings.Typed) whole.is in
      let x = exprs.Cut b (node_of a) (node_of z) in
      let F : Option Meaning → Type 0 = λ o. node_fits nodes (type_meant o) (number_meant o) x ≡ true in
      let T : Option Meaning → Type 0 = λ o. made_or_number (tree_of nodes) at [] (type_meant o) (number_meant o) x ≡ elements (cut at (slice_in (path_tree s p)) (end_tree s from) (end_tree s to)) in
      record {
        placed = refl;
        means = ap (option_map meanings.Typed) (end-means from (end_kept (value_of z) cells) a first ∙ ap (if_end s from) (end-means to cells z last));
        below = cut-below b a z base.there (end-below from a first) (end-below to z last);
        fits =
            subst F (sym is)
            (and-true (is_list whole.of) _ (slice-gives array.of whole.of array.gives)
            (and-true (is_list (type_of_node nodes b.0)) _ lists
            (and-true (optional_numeric nodes (node_of a)) (optional_numeric nodes (node_of z)) (end-numeric from (if_end s to cells) whole.of a whole.is first)
            (end-numeric to cells whole.of z behind.0 last))));
        tree_is = subst T (sym is) (rw (base.tree_is, end-made from a first, end-made to z last) refl);
      }

  -- What a base method answers.
  answer-kind : (k : ℕ) (on : NamedPath) (sig : BaseSig) (at : Place) (mark : Mark) (args : NamedArgTrees) → (right : IsRight s k (answer (call (callees.Base on sig) at mark args)))
      → (m : Meaning) → variable s on.of ≡ Some m → names.has_kind (row_of sig).on (kind_meant m) ≡ true
  answer-kind k on sig at mark args right m is =
      let around = right.around in
      let wanted = both (is_wanted (args_wanted around.names (callees.Base on sig)) (count_args args)) (named_args around.names args) right.named in
      let kind = kind-wanted (names.has_kind (row_of sig).on (option_and_then kind_of (type_of_variable around.names on.of))) (length (row_of sig).args) (count_args args) wanted.0 in
      around.agree.kinds on.of m (row_of sig).on is kind

  pub answer-right : (k : ℕ) (on : NamedPath) (sig : BaseSig) (at : Place) (mark : Mark) (args : NamedArgTrees) → IsRight s k (answer (call (callees.Base on sig) at mark args)) → IsRightPath s k on
  answer-right k on sig at mark args right =
      let it = then-parts (pure_answer sig mark) (variable s on.of) right.of right.means in
      let kind = answer-kind k on sig at mark args right it.of it.is in
      record { around = right.around; of = it.of; means = it.is; whole = kind-no-struct (row_of sig).on it.of kind }

  pub answer-makes : (on : NamedPath) (sig : BaseSig) (at : Place) (mark : Mark) (args : NamedArgTrees) (b : ExprId) → IsRight s (length nodes.statuses) (answer (call (callees.Base on sig) at mark args))
      → StandsForPath s on nodes b
      → MakesExpr s (answer (call (callees.Base on sig) at mark args)) nodes
      (record { node = record { expr = exprs.Base b sig; at = at; signs = [] }; of = option_and_then (pure_answer sig mark) (variable s on.of) })
  answer-makes on sig at mark args b right base =
      let it = then-parts (pure_answer sig mark) (variable s on.of) right.of right.means in
      let kind = answer-kind (length nodes.statuses) on sig at mark args right it.of it.is in
      let pure = pure-parts sig mark right.of it.of it.gives in
      let is : meaning s (answer (call (callees.Base on sig) at mark args)) ≡ Some (meanings.Typed pure.of) = right.means ∙ ap Some (sym pure.is) in
      let F : Option Meaning → Type 0 = λ o. node_fits nodes (type_meant o) (number_meant o) (exprs.Base b sig) ≡ true in
      let T : Option Meaning → Type 0 = λ o. made_or_number (tree_of nodes) at [] (type_meant o) (number_meant o) (exprs.Base b sig) ≡ answer_of at sig (path_tree s on) in
      let has : has_kind (row_of sig).on (type_of_node nodes b.0) ≡ true = rw (base.typed, it.is) (kind-typed (row_of sig).on it.of kind) in
      record {
        placed = refl;
        means = refl;
        below = and-true (nat_lt b.0 (length nodes.exprs)) true (lower b.0 (length nodes.exprs) base.there) refl;
        fits = subst F (sym is) (and-true (same_mark (row_of sig).mark Pure) _ (pure-mark (row_of sig).mark pure.pure) (and-true (has_kind (row_of sig).on (type_of_node nodes b.0)) (is_given (row_of sig).gives pure.of) has (gives-given (row_of sig).gives pure.of pure.gives)));
        tree_is = subst T (sym is) (rw base.tree_is refl);
      }
