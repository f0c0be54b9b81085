-- What the operands of a chain are, by its operator and the type that it gives.
use Rattle.std.proofs.Common.{◌≡◌, ℕ, ◌<◌, Bool, true, false, ◌&&◌, List, [], ◌∷◌, length, get_or, nat_lt, refl, arith}
use Rattle.std.specs.List.{list_all}
use Rattle.std.proofs.lemmas.Bool.Decides.{nat_tests}
use Rattle.wf_text.specs.declared.place.Place.{Place}
use Rattle.wf_ast.specs.declared.numbers.ExprId.{ExprId}
use Rattle.wf_ast.specs.declared.types.Ty.{Ty}
use Rattle.wf_ast.specs.declared.types.Ty.TheVariants as types
use Rattle.wf_ast.specs.declared.typed_nodes.TypedNodes.{TypedNodes}
use Rattle.wf_ast.specs.TypedTree.{Arith, Order, less, at_most, equal, differs, at_least, greater, StatusTree, compare, ValueTree, numeric, logical, state, elements, io, lost}
use Rattle.wf_ast.specs.TypedTrees.{OperatorKind, arithmetic, ordering, joining, num_in, comparison, type_of_node}
use Rattle.wf_ast.specs.TypedInvariant.{is_expr, is_numeric, is_logical, is_state, is_list, all_numeric, chain_fits, compares_kinds, is_tree_of}
use Rattle.wf_ast.proofs.Arena.{both_true}
use Rattle.wf_ast.proofs.TypeKinds.{list_no_condition, list_no_number, state_no_condition, state_no_number}

-- Operands that stand before a node are in the list.
lt_more : (k m n : ℕ) → m < n → nat_lt k m ≡ true → nat_lt k n ≡ true
lt_more k m n l h = grind (arith, nat_tests, l, h)

pub all_there : (nodes : TypedNodes) (n : ℕ) (es : List ExprId) → n < length nodes.exprs → list_all (λ p. nat_lt p.0 n) es ≡ true → list_all (is_expr nodes) es ≡ true
all_there nodes n [] l b = refl
all_there nodes n (e ∷ es) l b =
    let q = both_true (nat_lt e.0 n) (list_all (λ p. nat_lt p.0 n) es) b in
    rw (lt_more e.0 n (length nodes.exprs) l q.0, all_there nodes n es l q.1) refl

all_so : (nodes : TypedNodes) (n : ℕ) (test : Ty → Bool) (es : List ExprId) → n < length nodes.exprs → list_all (λ e. test (type_of_node nodes e.0)) es ≡ true → list_all (λ p. nat_lt p.0 n) es ≡ true
    → list_all (λ e. is_expr nodes e && test (type_of_node nodes e.0)) es ≡ true
all_so nodes n test [] l h b = refl
all_so nodes n test (e ∷ es) l h b =
    let p = both_true (test (type_of_node nodes e.0)) (list_all (λ e. test (type_of_node nodes e.0)) es) h in
    let q = both_true (nat_lt e.0 n) (list_all (λ p. nat_lt p.0 n) es) b in
    rw (lt_more e.0 n (length nodes.exprs) l q.0, p.0, all_so nodes n test es l p.1 q.1) refl

-- What a chain gives.
pub gives_number : (nodes : TypedNodes) (op : Arith) (es : List ExprId) (ty : Ty) → chain_fits nodes (arithmetic op) es ty ≡ true → is_numeric ty ≡ true
gives_number nodes op [] ty f = absurd (cc f)
gives_number nodes op (e ∷ []) ty f = absurd (cc f)
gives_number nodes op (e ∷ g ∷ es) ty f = (both_true (is_numeric ty) (all_numeric nodes (e ∷ g ∷ es)) f).0

pub junction_gives_condition : (nodes : TypedNodes) (both : Bool) (es : List ExprId) (ty : Ty) → chain_fits nodes (joining both) es ty ≡ true → is_logical ty ≡ true
junction_gives_condition nodes both [] ty f = absurd (cc f)
junction_gives_condition nodes both (e ∷ []) ty f = absurd (cc f)
junction_gives_condition nodes both (e ∷ g ∷ es) ty f = (both_true (is_logical ty) (list_all (λ part. is_logical (type_of_node nodes part.0)) (e ∷ g ∷ es)) f).0

pub comparison_gives_condition : (nodes : TypedNodes) (op : Order) (es : List ExprId) (ty : Ty) → chain_fits nodes (ordering op) es ty ≡ true → is_logical ty ≡ true
comparison_gives_condition nodes op [] ty f = absurd (cc f)
comparison_gives_condition nodes op (e ∷ []) ty f = absurd (cc f)
comparison_gives_condition nodes op (e ∷ g ∷ []) ty f = (both_true (is_logical ty) (compares_kinds (ordering op) (type_of_node nodes e.0) (type_of_node nodes g.0)) f).0
comparison_gives_condition nodes op (e ∷ g ∷ i ∷ es) ty f = absurd (cc f)

pub no_slice_chain : (nodes : TypedNodes) (ty : Ty) (sort : OperatorKind) (es : List ExprId) → is_list ty ≡ true → chain_fits nodes sort es ty ≡ true → ⊥
no_slice_chain nodes ty (arithmetic op) es h f = list_no_number ty h (gives_number nodes op es ty f)
no_slice_chain nodes ty (joining both) es h f = list_no_condition ty h (junction_gives_condition nodes both es ty f)
no_slice_chain nodes ty (ordering op) es h f = list_no_condition ty h (comparison_gives_condition nodes op es ty f)

pub no_status_chain : (nodes : TypedNodes) (ty : Ty) (sort : OperatorKind) (es : List ExprId) → is_state ty ≡ true → chain_fits nodes sort es ty ≡ true → ⊥
no_status_chain nodes ty (arithmetic op) es h f = state_no_number ty h (gives_number nodes op es ty f)
no_status_chain nodes ty (joining both) es h f = state_no_condition ty h (junction_gives_condition nodes both es ty f)
no_status_chain nodes ty (ordering op) es h f = state_no_condition ty h (comparison_gives_condition nodes op es ty f)

-- An arithmetic chain has at least two operands, which are numbers, and one of `and` or `or` as many conditions.
pub numeric_operands : (nodes : TypedNodes) (n : ℕ) (ty : Ty) (op : Arith) (es : List ExprId) → n < length nodes.exprs → chain_fits nodes (arithmetic op) es ty ≡ true → list_all (λ p. nat_lt p.0 n) es ≡ true
    → (list_all (λ e. is_expr nodes e && is_numeric (type_of_node nodes e.0)) es ≡ true) × (1 < length es)
numeric_operands nodes n ty op [] l f b = absurd (cc f)
numeric_operands nodes n ty op (e ∷ []) l f b = absurd (cc f)
numeric_operands nodes n ty op (e ∷ g ∷ es) l f b = (all_so nodes n is_numeric (e ∷ g ∷ es) l (both_true (is_numeric ty) (all_numeric nodes (e ∷ g ∷ es)) f).1 b, omega arith)

pub logical_operands : (nodes : TypedNodes) (n : ℕ) (ty : Ty) (both : Bool) (es : List ExprId) → n < length nodes.exprs → chain_fits nodes (joining both) es ty ≡ true → list_all (λ p. nat_lt p.0 n) es ≡ true
    → (list_all (λ e. is_expr nodes e && is_logical (type_of_node nodes e.0)) es ≡ true) × (1 < length es)
logical_operands nodes n ty both [] l f b = absurd (cc f)
logical_operands nodes n ty both (e ∷ []) l f b = absurd (cc f)
logical_operands nodes n ty both (e ∷ g ∷ es) l f b = (all_so nodes n is_logical (e ∷ g ∷ es) l (both_true (is_logical ty) (list_all (λ part. is_logical (type_of_node nodes part.0)) (e ∷ g ∷ es)) f).1 b, omega arith)

-- What is compared is of kinds that compare.
pub operand_kinds : (nodes : TypedNodes) (ty : Ty) (op : Order) (es : List ExprId) (d : ExprId) → chain_fits nodes (ordering op) es ty ≡ true
    → compares_kinds (ordering op) (type_of_node nodes (get_or es 0 d).0) (type_of_node nodes (get_or es 1 d).0) ≡ true
operand_kinds nodes ty op [] d f = absurd (cc f)
operand_kinds nodes ty op (e ∷ []) d f = absurd (cc f)
operand_kinds nodes ty op (e ∷ g ∷ []) d f = (both_true (is_logical ty) (compares_kinds (ordering op) (type_of_node nodes e.0) (type_of_node nodes g.0)) f).1
operand_kinds nodes ty op (e ∷ g ∷ i ∷ es) d f = absurd (cc f)

-- What is no status is compared as a number.
pub compares_numbers : (at sign : Place) (op : Order) (a t : ValueTree) (ty : Ty) → is_state ty ≡ false → is_tree_of ty a ≡ true → comparison at sign op a t ≡ logical (compare at sign (num_in a) op (num_in t))
compares_numbers at sign equal (state x) t types.Status h k = absurd (cc h)
compares_numbers at sign differs (state x) t types.Status h k = absurd (cc h)
compares_numbers at sign equal (numeric x) t ty h k = refl
compares_numbers at sign equal (logical x) t ty h k = refl
compares_numbers at sign equal (elements x) t ty h k = refl
compares_numbers at sign equal (io p x) t ty h k = refl
compares_numbers at sign equal lost t ty h k = refl
compares_numbers at sign differs (numeric x) t ty h k = refl
compares_numbers at sign differs (logical x) t ty h k = refl
compares_numbers at sign differs (elements x) t ty h k = refl
compares_numbers at sign differs (io p x) t ty h k = refl
compares_numbers at sign differs lost t ty h k = refl
compares_numbers at sign less a t ty h k = refl
compares_numbers at sign at_most a t ty h k = refl
compares_numbers at sign at_least a t ty h k = refl
compares_numbers at sign greater a t ty h k = refl
compares_numbers at sign equal (state x) t (types.Num width lo hi) h k = absurd (cc k)
compares_numbers at sign equal (state x) t types.Flag h k = absurd (cc k)
compares_numbers at sign equal (state x) t types.Reader h k = absurd (cc k)
compares_numbers at sign equal (state x) t types.Writer h k = absurd (cc k)
compares_numbers at sign equal (state x) t (types.Slice width) h k = absurd (cc k)
compares_numbers at sign equal (state x) t (types.Array width lo hi count) h k = absurd (cc k)
compares_numbers at sign equal (state x) t (types.Part p) h k = absurd (cc k)
compares_numbers at sign differs (state x) t (types.Num width lo hi) h k = absurd (cc k)
compares_numbers at sign differs (state x) t types.Flag h k = absurd (cc k)
compares_numbers at sign differs (state x) t types.Reader h k = absurd (cc k)
compares_numbers at sign differs (state x) t types.Writer h k = absurd (cc k)
compares_numbers at sign differs (state x) t (types.Slice width) h k = absurd (cc k)
compares_numbers at sign differs (state x) t (types.Array width lo hi count) h k = absurd (cc k)
compares_numbers at sign differs (state x) t (types.Part p) h k = absurd (cc k)

-- A status is compared by `==` and `<>` alone.
statuses_by : (P : Order → ValueTree → Type 0) → ((x : StatusTree) → P equal (state x)) → ((x : StatusTree) → P differs (state x))
    → (op : Order) (a : ValueTree) (tyb : Ty) → is_tree_of types.Status a ≡ true → compares_kinds (ordering op) types.Status tyb ≡ true → P op a
statuses_by P same apart equal (state x) tyb k c = same x
statuses_by P same apart differs (state x) tyb k c = apart x
statuses_by P same apart less (state x) tyb k c = absurd (cc c)
statuses_by P same apart at_most (state x) tyb k c = absurd (cc c)
statuses_by P same apart at_least (state x) tyb k c = absurd (cc c)
statuses_by P same apart greater (state x) tyb k c = absurd (cc c)
statuses_by P same apart op (numeric x) tyb k c = absurd (cc k)
statuses_by P same apart op (logical x) tyb k c = absurd (cc k)
statuses_by P same apart op (elements x) tyb k c = absurd (cc k)
statuses_by P same apart op (io p x) tyb k c = absurd (cc k)
statuses_by P same apart op lost tyb k c = absurd (cc k)

pub compares_statuses : (P : Order → ValueTree → Type 0) → ((x : StatusTree) → P equal (state x)) → ((x : StatusTree) → P differs (state x))
    → (op : Order) (a : ValueTree) (tya tyb : Ty) → is_state tya ≡ true → is_tree_of tya a ≡ true → compares_kinds (ordering op) tya tyb ≡ true → P op a
compares_statuses P same apart op a types.Status tyb h k c = statuses_by P same apart op a tyb k c
compares_statuses P same apart op a (types.Num width lo hi) tyb h k c = absurd (cc h)
compares_statuses P same apart op a types.Flag tyb h k c = absurd (cc h)
compares_statuses P same apart op a types.Reader tyb h k c = absurd (cc h)
compares_statuses P same apart op a types.Writer tyb h k c = absurd (cc h)
compares_statuses P same apart op a (types.Slice width) tyb h k c = absurd (cc h)
compares_statuses P same apart op a (types.Array width lo hi count) tyb h k c = absurd (cc h)
compares_statuses P same apart op a (types.Part p) tyb h k c = absurd (cc h)
