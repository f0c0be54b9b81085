-- The place of an expression is its node's.
use Rattle.std.proofs.Common.{◌≡◌, ℕ, Bool, true, false, ◌&&◌, ◌||◌, List, [], ◌∷◌, map, Option, Some, None, refl, sym, ap, ◌∙◌}
use Rattle.wf_text.specs.declared.place.Place.{Place}
use Rattle.wf_base.specs.declared.base_methods.BaseSig.{BaseSig}
use Rattle.wf_base.specs.declared.base_methods.BaseSig.TheVariants as sigs
use Rattle.wf_base.specs.BaseTable.{row_of}
use Rattle.wf_base.specs.declared.marks.Mark.TheVariants.{Pure}
use Rattle.wf_ast.specs.declared.numbers.ExprId.{ExprId}
use Rattle.wf_ast.specs.declared.types.Ty.{Ty}
use Rattle.wf_ast.specs.declared.types.Ty.TheVariants as types
use Rattle.wf_ast.specs.declared.typed_code.Expr.{Expr}
use Rattle.wf_ast.specs.declared.typed_code.Expr.TheVariants as exprs
use Rattle.wf_ast.specs.declared.typed_nodes.TypedNodes.{TypedNodes}
use Rattle.wf_ast.specs.TypedTree.{local, field, arg, Arith, Order, equal, differs, NumTree, link, CondTree, junction, ValueTree, state}
use Rattle.wf_ast.specs.TypedTrees.{OperatorKind, arithmetic, ordering, joining, operator_kind, num_in, cond_in, num_chain, cond_chain, comparison, chain_of, first_sign, named, answer_of, made, made_or_number, tree_of, type_of_node, constant_of_node, place_of_node, signs_of_node}
use Rattle.wf_ast.specs.TypedInvariant.{is_numeric, is_logical, is_state, is_list, is_io, chain_fits, kind_fits, node_fits}
use Rattle.wf_ast.specs.WellTyped.{same_mark}
use Rattle.wf_bounds_stmts.specs.Requirements.{place_of, place_of_number, place_of_condition}

num-chain-place : (at : Place) (op : Arith) (bits : ℕ) (joined : Bool) (sign : Place) (a b : NumTree) (ts : List ValueTree) (signs : List Place)
    → place_of_number (num_chain at op bits true (link at sign op bits joined a b) ts signs) ≡ at
num-chain-place at op bits joined sign a b [] signs = refl
num-chain-place at op bits joined sign a b (t ∷ ts) [] = num-chain-place at op bits true at (link at sign op bits joined a b) (num_in t) ts []
num-chain-place at op bits joined sign a b (t ∷ ts) (s ∷ signs) = num-chain-place at op bits true s (link at sign op bits joined a b) (num_in t) ts signs

cond-chain-place : (at : Place) (both joined : Bool) (a b : CondTree) (ts : List ValueTree) → place_of_condition (cond_chain at both true (junction at both joined a b) ts) ≡ at
cond-chain-place at both joined a b [] = refl
cond-chain-place at both joined a b (t ∷ ts) = cond-chain-place at both true (junction at both joined a b) (cond_in t) ts

comparison-place : (at sign : Place) (op : Order) (a b : ValueTree) → place_of (comparison at sign op a b) ≡ at
comparison-place at sign equal (state a) b = refl
comparison-place at sign differs (state a) b = refl
comparison-place at sign op a b = refl

chain-place : (nodes : TypedNodes) (look : ExprId → ValueTree) (at : Place) (signs : List Place) (ty : Ty) (sort : OperatorKind) (es : List ExprId) → chain_fits nodes sort es ty ≡ true
    → place_of (chain_of at signs ty sort (map look es)) ≡ at
chain-place nodes look at signs ty (arithmetic op) [] h = absurd (cc (h))
chain-place nodes look at signs ty (arithmetic op) (e ∷ []) h = absurd (cc (h))
chain-place nodes look at [] ty (arithmetic op) (e ∷ f ∷ es) h = num-chain-place at op _ false at (num_in (look e)) (num_in (look f)) (map look es) []
chain-place nodes look at (s ∷ signs) ty (arithmetic op) (e ∷ f ∷ es) h = num-chain-place at op _ false s (num_in (look e)) (num_in (look f)) (map look es) signs
chain-place nodes look at signs ty (joining both) [] h = absurd (cc (h))
chain-place nodes look at signs ty (joining both) (e ∷ []) h = absurd (cc (h))
chain-place nodes look at signs ty (joining both) (e ∷ f ∷ es) h = cond-chain-place at both false (cond_in (look e)) (cond_in (look f)) (map look es)
chain-place nodes look at signs ty (ordering op) [] h = absurd (cc (h))
chain-place nodes look at signs ty (ordering op) (e ∷ []) h = absurd (cc (h))
chain-place nodes look at signs ty (ordering op) (e ∷ f ∷ []) h = comparison-place at (first_sign at signs) op (look e) (look f)
chain-place nodes look at signs ty (ordering op) (e ∷ f ∷ g ∷ es) h = absurd (cc (h))

local-place : (at : Place) (ty : Ty) (n : ℕ) → (is_numeric ty || (is_logical ty || (is_state ty || is_list ty))) ≡ true → place_of (named at ty (local n)) ≡ at
local-place at (types.Num width lo hi) n h = refl
local-place at types.Flag n h = refl
local-place at types.Status n h = refl
local-place at (types.Slice width) n h = refl
local-place at (types.Array width lo hi count) n h = refl
local-place at types.Reader n h = absurd (cc (h))
local-place at types.Writer n h = absurd (cc (h))
local-place at (types.Part s) n h = absurd (cc (h))

field-place : (at : Place) (ty : Ty) (n : ℕ) → (is_numeric ty || (is_logical ty || (is_state ty || is_list ty))) ≡ true → place_of (named at ty (field n)) ≡ at
field-place at (types.Num width lo hi) n h = refl
field-place at types.Flag n h = refl
field-place at types.Status n h = refl
field-place at (types.Slice width) n h = refl
field-place at (types.Array width lo hi count) n h = refl
field-place at types.Reader n h = absurd (cc (h))
field-place at types.Writer n h = absurd (cc (h))
field-place at (types.Part s) n h = absurd (cc (h))

arg-place : (at : Place) (ty : Ty) (n : ℕ) → (is_numeric ty || (is_logical ty || (is_list ty || is_io ty))) ≡ true → place_of (named at ty (arg n)) ≡ at
arg-place at (types.Num width lo hi) n h = refl
arg-place at types.Flag n h = refl
arg-place at types.Status n h = absurd (cc (h))
arg-place at (types.Slice width) n h = refl
arg-place at (types.Array width lo hi count) n h = refl
arg-place at types.Reader n h = refl
arg-place at types.Writer n h = refl
arg-place at (types.Part s) n h = absurd (cc (h))

answer-place : (at : Place) (sig : BaseSig) (t : ValueTree) → same_mark (row_of sig).mark Pure ≡ true → place_of (answer_of at sig t) ≡ at
answer-place at sigs.ReaderLength t h = refl
answer-place at sigs.ReaderIsClosed t h = refl
answer-place at sigs.ReaderPosition t h = refl
answer-place at (sigs.Read form) t h = absurd (cc (h))
answer-place at sigs.Skip t h = absurd (cc (h))
answer-place at (sigs.Peek form) t h = refl
answer-place at sigs.SkipFast t h = absurd (cc (h))
answer-place at sigs.WriterLength t h = refl
answer-place at sigs.WriterPosition t h = refl
answer-place at sigs.Write t h = absurd (cc (h))
answer-place at sigs.WriteFast t h = absurd (cc (h))
answer-place at sigs.WriterCopy t h = absurd (cc (h))
answer-place at (sigs.SliceCopy width) t h = absurd (cc (h))
answer-place at (sigs.SliceLength width) t h = refl
answer-place at (sigs.ArrayLength width) t h = refl
answer-place at sigs.IsOk t h = refl
answer-place at sigs.IsNote t h = refl
answer-place at sigs.IsSuspension t h = refl
answer-place at sigs.IsError t h = refl

both-of : {p q : Bool} → (p && q) ≡ true → (p ≡ true) × (q ≡ true)
both-of {p = true} {q = true} h = (refl, refl)
both-of {p = true} {q = false} h = absurd (cc (h))
both-of {p = false} {q = q} h = absurd (cc (h))

kind-place : (nodes : TypedNodes) (look : ExprId → ValueTree) (at : Place) (signs : List Place) (ty : Ty) (x : Expr) → kind_fits nodes ty x ≡ true → place_of (made look at signs ty x) ≡ at
kind-place nodes look at signs ty (exprs.Number value) h = absurd (cc (h))
kind-place nodes look at signs ty (exprs.Const c) h = absurd (cc (h))
kind-place nodes look at signs ty (exprs.Status s) h = refl
kind-place nodes look at signs ty (exprs.Truth value) h = refl
kind-place nodes look at signs ty (exprs.Local x) h = local-place at ty x.0 h
kind-place nodes look at signs ty (exprs.Field x) h = field-place at ty x.0 h
kind-place nodes look at signs ty (exprs.Arg x) h = arg-place at ty x.0 h
kind-place nodes look at signs ty (exprs.Index base index) h = refl
kind-place nodes look at signs ty (exprs.Cut base from to) h = refl
kind-place nodes look at signs ty (exprs.Chain op parts) h = chain-place nodes look at signs ty (operator_kind op) parts h
kind-place nodes look at signs ty (exprs.Convert of to) h = refl
kind-place nodes look at signs ty (exprs.Not of) h = refl
kind-place nodes look at signs ty (exprs.Base on sig) h = answer-place at sig (look on) (both-of h).0

pub node-place : (nodes : TypedNodes) (look : ExprId → ValueTree) (at : Place) (signs : List Place) (ty : Ty) (constant : Option ℕ) (x : Expr) → node_fits nodes ty constant x ≡ true
    → place_of (made_or_number look at signs ty constant x) ≡ at
node-place nodes look at signs ty None x h = kind-place nodes look at signs ty x h
node-place nodes look at signs ty (Some value) x h = refl

pub place-at : (nodes : TypedNodes) (e : ExprId) (x : Expr)
    → tree_of nodes e ≡ made_or_number (tree_of nodes) (place_of_node nodes e.0) (signs_of_node nodes e.0) (type_of_node nodes e.0) (constant_of_node nodes e.0) x
    → node_fits nodes (type_of_node nodes e.0) (constant_of_node nodes e.0) x ≡ true
    → place_of_node nodes e.0 ≡ place_of (tree_of nodes e)
place-at nodes e x h k =
    sym (ap place_of h ∙ node-place nodes (tree_of nodes) (place_of_node nodes e.0) (signs_of_node nodes e.0) (type_of_node nodes e.0) (constant_of_node nodes e.0) x k)
