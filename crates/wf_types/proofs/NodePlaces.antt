-- A node whose tree is the path of a local has the place of that tree.
use Rattle.std.proofs.Common.{◌≡◌, ◌∙◌, refl, sym, ap, ℕ, zero, suc, ◌<◌, Bool, true, false, List, [], ◌∷◌, length, map, slice_get, Option, Some, None, arith}
use Rattle.std.specs.Prelude.{option_map, unwrap_or}
use Rattle.wf_text.specs.declared.place.Place.{Place}
use Rattle.wf_base.specs.declared.base_methods.BaseSig.{BaseSig}
use Rattle.wf_base.specs.declared.base_methods.BaseSig.TheVariants as sigs
use Rattle.wf_ast.specs.declared.numbers.ExprId.{ExprId}
use Rattle.wf_ast.specs.declared.typed_code.Expr.{Expr}
use Rattle.wf_ast.specs.declared.typed_code.Expr.TheVariants as exprs
use Rattle.wf_ast.specs.declared.typed_code.ExprNode.{ExprNode}
use Rattle.wf_ast.specs.declared.typed_nodes.TypedNodes.{TypedNodes}
use Rattle.wf_ast.specs.declared.types.Ty.{Ty}
use Rattle.wf_ast.specs.declared.types.Ty.TheVariants as types
use Rattle.wf_ast.specs.TypedTree.{Path, local, Arith, NumTree, read, link, slice, held, CondTree, flag, junction, Order, equal, differs, ValueTree, numeric, logical, state, elements}
use Rattle.wf_ast.specs.TypedTree as typed
use Rattle.wf_ast.specs.TypedTrees.{OperatorKind, arithmetic, joining, ordering, operator_kind, num_in, cond_in, named, num_type, num_chain, cond_chain, comparison, chain_of, answer_of, made, made_or_number, no_place, tree_of, type_of_node, constant_of_node, place_of_node}
use Rattle.wf_ast.specs.TypedInvariant.{chain_fits, kind_fits, node_fits}
use Rattle.wf_ast.proofs.Arena.{numbered_from_zero, tree_made}
use Rattle.wf_types_rules.specs.declared.settings.Role.TheVariants as roles
use Rattle.wf_types_rules.specs.DeclaredTypes.{may_be}
use Rattle.wf_typed_exprs.specs.Growth.{IsBuilt}

-- Where a tree stands that is a variable by itself.
abbrev pub read_of : ValueTree → Option Place
read_of (numeric (read at of path)) = Some at
read_of (logical (flag at path)) = Some at
read_of (state (held at path)) = Some at
read_of (elements (slice at bits path)) = Some at
read_of t = None

pub local_read : (at : Place) (ty : Ty) (l : ℕ) → may_be roles.Local ty ≡ true → read_of (named at ty (local l)) ≡ Some at
local_read at (types.Num width lo hi) l h = refl
local_read at types.Flag l h = refl
local_read at types.Status l h = refl
local_read at (types.Slice width) l h = refl
local_read at ty l h = absurd (cc h)

-- No operator is one.
numbers_none : (at : Place) (op : Arith) (bits : ℕ) (joined : Bool) (t : NumTree) (ts : List ValueTree) (signs : List Place) → read_of (numeric t) ≡ None
    → read_of (numeric (num_chain at op bits joined t ts signs)) ≡ None
numbers_none at op bits joined t [] signs h = h
numbers_none at op bits joined t (u ∷ us) [] h = numbers_none at op bits true (link at at op bits joined t (num_in u)) us [] refl
numbers_none at op bits joined t (u ∷ us) (sign ∷ signs) h = numbers_none at op bits true (link at sign op bits joined t (num_in u)) us signs refl

chain_none : (at : Place) (op : Arith) (bits : ℕ) (t : NumTree) (u : ValueTree) (us : List ValueTree) (signs : List Place) → read_of (numeric (num_chain at op bits false t (u ∷ us) signs)) ≡ None
chain_none at op bits t u us [] = numbers_none at op bits true (link at at op bits false t (num_in u)) us [] refl
chain_none at op bits t u us (sign ∷ signs) = numbers_none at op bits true (link at sign op bits false t (num_in u)) us signs refl

conditions_none : (at : Place) (both joined : Bool) (t : CondTree) (ts : List ValueTree) → read_of (logical t) ≡ None → read_of (logical (cond_chain at both joined t ts)) ≡ None
conditions_none at both joined t [] h = h
conditions_none at both joined t (u ∷ us) h = conditions_none at both true (junction at both joined t (cond_in u)) us refl

comparison_none : (at sign : Place) (op : Order) (t u : ValueTree) → read_of (comparison at sign op t u) ≡ None
comparison_none at sign equal (state a) u = refl
comparison_none at sign differs (state a) u = refl
comparison_none at sign op t u = refl

answer_none : (at : Place) (sig : BaseSig) (t : ValueTree) → read_of (answer_of at sig t) ≡ None
answer_none at sigs.ReaderLength t = refl
answer_none at sigs.ReaderIsClosed t = refl
answer_none at sigs.ReaderPosition t = refl
answer_none at (sigs.Peek form) t = refl
answer_none at sigs.WriterLength t = refl
answer_none at sigs.WriterPosition t = refl
answer_none at (sigs.SliceLength width) t = refl
answer_none at (sigs.ArrayLength width) t = refl
answer_none at sigs.IsOk t = refl
answer_none at sigs.IsNote t = refl
answer_none at sigs.IsSuspension t = refl
answer_none at sigs.IsError t = refl
answer_none at sig t = refl

-- A variable stands where its node does.
named_place : (at p : Place) (ty : Ty) (path : Path) → read_of (named at ty path) ≡ Some p → at ≡ p
named_place at p (types.Num width lo hi) path h = cc h
named_place at p types.Flag path h = cc h
named_place at p types.Status path h = cc h
named_place at p (types.Slice width) path h = cc h
named_place at p (types.Array width lo hi count) path h = absurd (cc h)
named_place at p types.Reader path h = by_path path h
  where
    by_path : (path : Path) → read_of (named at types.Reader path) ≡ Some p → at ≡ p
    by_path (typed.arg n) h = absurd (cc h)
    by_path path h = absurd (cc h)
named_place at p types.Writer path h = by_path path h
  where
    by_path : (path : Path) → read_of (named at types.Writer path) ≡ Some p → at ≡ p
    by_path (typed.arg n) h = absurd (cc h)
    by_path path h = absurd (cc h)
named_place at p (types.Part part) path h = absurd (cc h)

module _ (nodes : TypedNodes) (look : ExprId → ValueTree) (at p : Place) (signs : List Place) where
  none_so : (t : ValueTree) → read_of t ≡ None → read_of t ≡ Some p → at ≡ p
  none_so t none h = let e : None ≡ Some p = sym none ∙ h in absurd (cc e)

  chain_place : (ty : Ty) (sort : OperatorKind) (es : List ExprId) → chain_fits nodes sort es ty ≡ true → read_of (chain_of at signs ty sort (map look es)) ≡ Some p → at ≡ p
  chain_place ty (arithmetic op) (e ∷ f ∷ es) k h =
      none_so (chain_of at signs ty (arithmetic op) (map look (e ∷ f ∷ es))) (chain_none at op (num_type ty).bits (num_in (look e)) (look f) (map look es) signs) h
  chain_place ty (joining both) (e ∷ f ∷ es) k h =
      none_so (chain_of at signs ty (joining both) (map look (e ∷ f ∷ es))) (conditions_none at both true (junction at both false (cond_in (look e)) (cond_in (look f))) (map look es) refl) h
  chain_place ty (ordering op) (e ∷ f ∷ []) k h =
      none_so (chain_of at signs ty (ordering op) (map look (e ∷ f ∷ []))) (comparison_none at _ op (look e) (look f)) h
  chain_place ty sort es k h = absurd (cc k)

  made_place : (ty : Ty) (x : Expr) → kind_fits nodes ty x ≡ true → read_of (made look at signs ty x) ≡ Some p → at ≡ p
  made_place ty (exprs.Number v) k h = absurd (cc k)
  made_place ty (exprs.Const c) k h = absurd (cc k)
  made_place ty (exprs.Status s) k h = absurd (cc h)
  made_place ty (exprs.Truth v) k h = absurd (cc h)
  made_place ty (exprs.Local x) k h = named_place at p ty _ h
  made_place ty (exprs.Field x) k h = named_place at p ty _ h
  made_place ty (exprs.Arg x) k h = named_place at p ty _ h
  made_place ty (exprs.Index base index) k h = absurd (cc h)
  made_place ty (exprs.Cut base from end) k h = absurd (cc h)
  made_place ty (exprs.Chain op parts) k h = chain_place ty (operator_kind op) parts k h
  made_place ty (exprs.Convert of kind) k h = absurd (cc h)
  made_place ty (exprs.Not of) k h = absurd (cc h)
  made_place ty (exprs.Base on sig) k h = none_so (answer_of at sig (look on)) (answer_none at sig (look on)) h

  node_place : (ty : Ty) (number : Option ℕ) (x : Expr) → node_fits nodes ty number x ≡ true → read_of (made_or_number look at signs ty number x) ≡ Some p → at ≡ p
  node_place ty None x k h = made_place ty x k h
  node_place ty (Some v) x k h = absurd (cc h)

there_is : {X : Type 0} (xs : List X) (i : ℕ) → i < length xs → (x : X) × (slice_get xs i ≡ Some x)
there_is [] i h = absurd (omega (arith, h))
there_is (x ∷ xs) zero h = (x, refl)
there_is (x ∷ xs) (suc i) h = there_is xs i (omega (arith, h))

pub place_of_read : (nodes : TypedNodes) (e : ExprId) (p : Place) → IsBuilt nodes → e.0 < length nodes.exprs → read_of (tree_of nodes e) ≡ Some p → place_of_node nodes e.0 ≡ p
place_of_read nodes e p built low h =
    let it = there_is nodes.exprs e.0 low in
    let n = it.0 in
    let made_so = tree_made nodes e n it.1 built.ordered in
    let fits = numbered_from_zero (λ e node. node_fits nodes (type_of_node nodes e) (constant_of_node nodes e) node.expr) nodes.exprs e.0 n built.kinds it.1 in
    let at_is : n.at ≡ p = node_place nodes (tree_of nodes) n.at p n.signs (type_of_node nodes e.0) (constant_of_node nodes e.0) n.expr fits (sym (ap read_of made_so) ∙ h) in
    let P : ExprNode → Place = λ node. node.at in
    ap (λ o. unwrap_or (option_map P o) no_place) it.1 ∙ at_is
