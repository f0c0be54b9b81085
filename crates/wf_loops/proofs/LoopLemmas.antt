-- A loop's head by the number of its statement.
use Rattle.std.proofs.Common.{◌≡◌, ℕ, ◌<◌, Bool, true, false, List, [], ◌∷◌, length, map, Option, Some, None, refl, ap, ◌∙◌, subst}
use Rattle.std.specs.Prelude.{slice_get, option_map, unwrap_or}
use Rattle.std.proofs.lemmas.Bool.{and_parts}
use Rattle.std.proofs.lemmas.Option.{slice_get_within}
use Rattle.wf_text.specs.declared.place.Place.{Place}
use Rattle.wf_base.specs.declared.base_methods.BaseSig.{BaseSig}
use Rattle.wf_base.specs.declared.base_methods.BaseSig.TheVariants as sigs
use Rattle.wf_ast.specs.declared.numbers.ExprId.{ExprId}
use Rattle.wf_ast.specs.declared.numbers.StmtId.{StmtId}
use Rattle.wf_ast.specs.declared.types.Ty.{Ty}
use Rattle.wf_ast.specs.declared.types.Ty.TheVariants as types
use Rattle.wf_ast.specs.declared.typed_code.Expr.{Expr}
use Rattle.wf_ast.specs.declared.typed_code.Expr.TheVariants as exprs
use Rattle.wf_ast.specs.declared.typed_code.Stmt.{Stmt}
use Rattle.wf_ast.specs.declared.typed_code.Stmt.TheVariants as stmts
use Rattle.wf_ast.specs.declared.typed_code.StmtNode.{StmtNode}
use Rattle.wf_ast.specs.declared.typed_code.LoopHead.{LoopHead}
use Rattle.wf_ast.specs.declared.typed_code.Block as typed_code
use Rattle.wf_ast.specs.declared.typed_nodes.TypedNodes.{TypedNodes}
use Rattle.wf_ast.specs.TypedTree.{CondTree, junction, ValueTree, logical, state, Order, equal, differs, Path, local, field, arg, Head}
use Rattle.wf_ast.specs.TypedTrees.{no_place, OperatorKind, arithmetic, ordering, joining, operator_kind, cond_in, cond_chain, chain_of, comparison, answer_of, named, made, made_or_number, tree_of, type_of_node, constant_of_node, place_of_node, signs_of_node}
use Rattle.wf_ast.specs.TypedInvariant.{is_expr, is_numeric, is_logical, is_tree_of, node_fits, chain_fits, kind_fits}
use Rattle.wf_ast.specs.WellTyped.{is_word_true}
use Rattle.wf_ast.specs.NodeKinds.{is_condition_at, node_cond}
use Rattle.wf_facts_exprs.specs.Claims.{Claim}
use Rattle.wf_facts_exprs.specs.Demands.{value_refusal, cond_refusal}
use Rattle.wf_facts.proofs.MentioningLemmas.{node_kind}
use Rattle.wf_loops.specs.LoopNodes.{is_loop, is_loop_stmt, head_at, head_of_stmt, no_head, place_at, are_conditions, promises_in}

-- What is found of a statement with a number.
pub loop_within : (nodes : TypedNodes) (w : StmtId) → is_loop nodes w ≡ true → w.0 < length nodes.stmts
unfolding is_loop
loop_within nodes w h = by (slice_get nodes.stmts w.0) refl h
  where
    by : (found : Option StmtNode) → slice_get nodes.stmts w.0 ≡ found → unwrap_or (option_map (λ node. is_loop_stmt nodes node.stmt) found) false ≡ true → w.0 < length nodes.stmts
    by None e h = absurd (cc (h))
    by (Some node) e h = slice_get_within nodes.stmts w.0 node e

pub loop_stmt : (nodes : TypedNodes) (w : StmtId) (stmt : Stmt) → is_loop nodes w ≡ true → option_map (λ node. node.stmt) (slice_get nodes.stmts w.0) ≡ Some stmt → is_loop_stmt nodes stmt ≡ true
unfolding is_loop
loop_stmt nodes w stmt h k = by (slice_get nodes.stmts w.0) h k
  where
    by : (found : Option StmtNode) → unwrap_or (option_map (λ node. is_loop_stmt nodes node.stmt) found) false ≡ true → option_map (λ node. node.stmt) found ≡ Some stmt → is_loop_stmt nodes stmt ≡ true
    by None h k = absurd (cc (k))
    by (Some node) h k = let e : node.stmt ≡ stmt = cc (k) in let P : Stmt → Type 0 = λ s. is_loop_stmt nodes s ≡ true in subst P e h

pub record IsWhile (stmt : Stmt) : Type 0 where
  pub head : LoopHead
  pub body : typed_code.Block
  pub is : stmt ≡ stmts.While head body

pub loop_is : (nodes : TypedNodes) (stmt : Stmt) → is_loop_stmt nodes stmt ≡ true → IsWhile stmt
loop_is nodes (stmts.While head body) h = record { head = head; body = body; is = refl }
loop_is nodes stmt h = absurd (cc (h))

-- The head that stands there.
pub loop_head : (nodes : TypedNodes) (w : StmtId) (stmt : Stmt) → option_map (λ node. node.stmt) (slice_get nodes.stmts w.0) ≡ Some stmt → (close : Place) × (head_at nodes w ≡ head_of_stmt nodes close stmt)
unfolding head_at
loop_head nodes w stmt k = by (slice_get nodes.stmts w.0) k
  where
    by : (found : Option StmtNode) → option_map (λ node. node.stmt) found ≡ Some stmt → (close : Place) × (unwrap_or (option_map (λ node. head_of_stmt nodes node.inner node.stmt) found) no_head ≡ head_of_stmt nodes close stmt)
    by None k = absurd (cc (k))
    by (Some node) k = let e : node.stmt ≡ stmt = cc (k) in (node.inner, ap (head_of_stmt nodes node.inner) e)

pub loop_place : (nodes : TypedNodes) (w : StmtId) (at : Place) → option_map (λ node. node.at) (slice_get nodes.stmts w.0) ≡ Some at → at ≡ place_at nodes w
unfolding place_at
loop_place nodes w at k = by (slice_get nodes.stmts w.0) k
  where
    by : (found : Option StmtNode) → option_map (λ node. node.at) found ≡ Some at → at ≡ unwrap_or (option_map (λ node. node.at) found) no_place
    by None k = absurd (cc (k))
    by (Some node) k = cc (k)

-- What an accessor that lends the head says of it.
pub record HeadSeen (nodes : TypedNodes) (w : StmtId) (head : LoopHead) : Type 0 where
  pub cond : (head_at nodes w).cond ≡ node_cond nodes head.cond
  pub promises : (head_at nodes w).clauses ≡ promises_in nodes head.clauses
  pub left : (head_at nodes w).is_left ≡ head.has_break
  pub condition : is_condition_at nodes head.cond ≡ true
  pub conditions : are_conditions nodes head.clauses ≡ true

pub head_seen : (nodes : TypedNodes) (w : StmtId) (head : LoopHead) (body : typed_code.Block) → is_loop nodes w ≡ true → option_map (λ node. node.stmt) (slice_get nodes.stmts w.0) ≡ Some (stmts.While head body)
    → HeadSeen nodes w head
head_seen nodes w head body h k =
    let it = loop_head nodes w (stmts.While head body) k in
    let parts = and_parts (is_condition_at nodes head.cond) _ (loop_stmt nodes w (stmts.While head body) h k) in
    record {
      cond = ap (λ (h : Head). h.cond) it.1;
      promises = ap (λ (h : Head). h.clauses) it.1;
      left = ap (λ (h : Head). h.is_left) it.1;
      condition = parts.0;
      conditions = parts.1;
    }

-- The tree of a condition, by its node.
condition_tree : (fs : List Claim) (ty : Ty) (t : ValueTree) → is_logical ty ≡ true → is_tree_of ty t ≡ true → value_refusal fs t ≡ cond_refusal fs (cond_in t)
condition_tree fs types.Flag (logical c) h k = refl
condition_tree fs types.Flag t h k = absurd (cc (k))
condition_tree fs ty t h k = absurd (cc (h))

-- The demands of an expression that is a condition are those of the condition.
pub condition_refusal : (nodes : TypedNodes) (e : ExprId) (expr : Expr)
    → tree_of nodes e ≡ made_or_number (tree_of nodes) (place_of_node nodes e.0) (signs_of_node nodes e.0) (type_of_node nodes e.0) (constant_of_node nodes e.0) expr
    → node_fits nodes (type_of_node nodes e.0) (constant_of_node nodes e.0) expr ≡ true → is_condition_at nodes e ≡ true
    → (fs : List Claim) → value_refusal fs (tree_of nodes e) ≡ cond_refusal fs (node_cond nodes e)
condition_refusal nodes e expr made fits h fs = condition_tree fs (type_of_node nodes e.0) (tree_of nodes e) (and_parts (is_expr nodes e) _ h).1 (node_kind nodes e expr made fits)

-- Only the word itself is the word `true`.
module _ (at : Place) where
  chain_word : (both joined : Bool) (so_far : CondTree) (t : ValueTree) (ts : List ValueTree) → is_word_true (cond_chain at both joined so_far (t ∷ ts)) ≡ false
  chain_word both joined so_far t [] = refl
  chain_word both joined so_far t (u ∷ ts) = chain_word both true (junction at both joined so_far (cond_in t)) u ts

  comparison_word : (sign : Place) (op : Order) (t u : ValueTree) → is_word_true (cond_in (comparison at sign op t u)) ≡ false
  comparison_word sign equal (state a) u = refl
  comparison_word sign differs (state a) u = refl
  comparison_word sign op t u = refl

  named_word : (ty : Ty) (path : Path) → is_word_true (cond_in (named at ty path)) ≡ false
  named_word (types.Num width lo hi) path = refl
  named_word types.Flag path = refl
  named_word types.Status path = refl
  named_word (types.Slice width) path = refl
  named_word (types.Array width lo hi count) path = refl
  named_word types.Reader (arg n) = refl
  named_word types.Writer (arg n) = refl
  named_word ty path = refl

  answer_word : (sig : BaseSig) (t : ValueTree) → is_word_true (cond_in (answer_of at sig t)) ≡ false
  answer_word sigs.ReaderLength t = refl
  answer_word sigs.ReaderIsClosed t = refl
  answer_word sigs.ReaderPosition t = refl
  answer_word (sigs.Peek form) t = refl
  answer_word sigs.WriterLength t = refl
  answer_word sigs.WriterPosition t = refl
  answer_word (sigs.SliceLength width) t = refl
  answer_word (sigs.ArrayLength width) t = refl
  answer_word sigs.IsOk t = refl
  answer_word sigs.IsNote t = refl
  answer_word sigs.IsSuspension t = refl
  answer_word sigs.IsError t = refl
  answer_word sig t = refl

  module _ (nodes : TypedNodes) (look : ExprId → ValueTree) (signs : List Place) where
    sort_word : (ty : Ty) (sort : OperatorKind) (es : List ExprId) → chain_fits nodes sort es ty ≡ true → is_word_true (cond_in (chain_of at signs ty sort (map look es))) ≡ false
    sort_word ty (arithmetic op) (e ∷ es) h = refl
    sort_word ty (joining both) (e ∷ f ∷ es) h = chain_word both false (cond_in (look e)) (look f) (map look es)
    sort_word ty (ordering op) (e ∷ f ∷ es) h = comparison_word _ op (look e) (look f)
    sort_word ty sort es h = absurd (cc (h))

numeric_not_logical : (ty : Ty) → is_numeric ty ≡ true → is_logical ty ≡ true → ⊥
numeric_not_logical types.Flag h k = absurd (cc (h))
numeric_not_logical ty h k = absurd (cc (k))

-- Whether a node is the word.
abbrev pub word_in : Expr → Bool
word_in (exprs.Truth value) = value
word_in expr = false

module _ (nodes : TypedNodes) (look : ExprId → ValueTree) (at : Place) (signs : List Place) (ty : Ty) where
  made_word : (expr : Expr) → kind_fits nodes ty expr ≡ true → is_word_true (cond_in (made look at signs ty expr)) ≡ word_in expr
  made_word (exprs.Number value) h = refl
  made_word (exprs.Const c) h = refl
  made_word (exprs.Status s) h = refl
  made_word (exprs.Truth value) h = refl
  made_word (exprs.Local x) h = named_word at ty (local x.0)
  made_word (exprs.Field x) h = named_word at ty (field x.0)
  made_word (exprs.Arg x) h = named_word at ty (arg x.0)
  made_word (exprs.Index base index) h = refl
  made_word (exprs.Cut base from to) h = refl
  made_word (exprs.Chain op parts) h = sort_word at nodes look signs ty (operator_kind op) parts h
  made_word (exprs.Convert of to) h = refl
  made_word (exprs.Not of) h = refl
  made_word (exprs.Base on sig) h = answer_word at sig (look on)

  pub node_word : (number : Option ℕ) (expr : Expr) → node_fits nodes ty number expr ≡ true → is_logical ty ≡ true → is_word_true (cond_in (made_or_number look at signs ty number expr)) ≡ word_in expr
  node_word None expr h k = made_word expr h
  node_word (Some n) expr h k = absurd (numeric_not_logical ty (and_parts (is_numeric ty) _ h).0 k)

pub not_word : (expr : Expr) → ((value : Bool) → expr ≡ exprs.Truth value → ⊥) → word_in expr ≡ false
not_word (exprs.Truth value) h = absurd (h value refl)
not_word expr h = refl

-- Whether a condition is the word, by its node.
pub condition_word : (nodes : TypedNodes) (e : ExprId) (expr : Expr)
    → tree_of nodes e ≡ made_or_number (tree_of nodes) (place_of_node nodes e.0) (signs_of_node nodes e.0) (type_of_node nodes e.0) (constant_of_node nodes e.0) expr
    → node_fits nodes (type_of_node nodes e.0) (constant_of_node nodes e.0) expr ≡ true → is_condition_at nodes e ≡ true → is_word_true (node_cond nodes e) ≡ word_in expr
condition_word nodes e expr made fits h =
    ap (λ t. is_word_true (cond_in t)) made
    ∙ node_word nodes (tree_of nodes) (place_of_node nodes e.0) (signs_of_node nodes e.0) (type_of_node nodes e.0) (constant_of_node nodes e.0) expr fits (and_parts (is_expr nodes e) _ h).1
