-- What is written, by nodes.
use Rattle.std.proofs.Common.{◌≡◌, ℕ, Bool, true, false, ◌&&◌, List, [], ◌∷◌, map, Option, Some, None, refl, ap}
use Rattle.wf_text.specs.declared.place.Place.{Place}
use Rattle.wf_base.specs.declared.base_methods.BaseSig.{BaseSig}
use Rattle.wf_base.specs.declared.base_methods.BaseSig.TheVariants as sigs
use Rattle.wf_ast.specs.declared.numbers.ExprId.{ExprId}
use Rattle.wf_ast.specs.declared.types.Ty.{Ty}
use Rattle.wf_ast.specs.declared.types.Ty.TheVariants as types
use Rattle.wf_ast.specs.declared.typed_code.Expr.{Expr}
use Rattle.wf_ast.specs.declared.typed_code.Expr.TheVariants as exprs
use Rattle.wf_ast.specs.declared.typed_nodes.TypedNodes.{TypedNodes}
use Rattle.wf_ast.specs.TypedTree.{local, field, arg, Arith, Order, equal, differs, NumTree, number, element, link, SliceTree, status, CondTree, truth, junction, ValueTree, numeric, logical, state, io, lost, to_nothing}
use Rattle.wf_ast.specs.TypedTrees.{OperatorKind, arithmetic, ordering, joining, operator_kind, num_in, cond_in, num_type, num_chain, cond_chain, comparison, chain_of, first_sign, named, answer_of, made, made_or_number, target_of, tree_of, type_of_node, constant_of_node, place_of_node, signs_of_node}
use Rattle.wf_ast.specs.TypedInvariant.{is_numeric, chain_fits, kind_fits, node_fits}
use Rattle.wf_bounds_stmts.specs.Targets.{taken_by, written_by, number_written}
use Rattle.wf_bounds_stmts.specs.Nodes.{node_written, constant_or_written, Seen}

num-chain-seen : (ty : Ty) (at : Place) (op : Arith) (bits : ℕ) (joined : Bool) (sign : Place) (a b : NumTree) (ts : List ValueTree) (signs : List Place)
    → target_of (numeric (num_chain at op bits true (link at sign op bits joined a b) ts signs)) ≡ to_nothing
num-chain-seen ty at op bits joined sign a b [] signs = refl
num-chain-seen ty at op bits joined sign a b (t ∷ ts) [] = num-chain-seen ty at op bits true at (link at sign op bits joined a b) (num_in t) ts []
num-chain-seen ty at op bits joined sign a b (t ∷ ts) (s ∷ signs) = num-chain-seen ty at op bits true s (link at sign op bits joined a b) (num_in t) ts signs

cond-chain-seen : (at : Place) (both joined : Bool) (a b : CondTree) (ts : List ValueTree) → target_of (logical (cond_chain at both true (junction at both joined a b) ts)) ≡ to_nothing
cond-chain-seen at both joined a b [] = refl
cond-chain-seen at both joined a b (t ∷ ts) = cond-chain-seen at both true (junction at both joined a b) (cond_in t) ts

comparison-seen : (at sign : Place) (op : Order) (a b : ValueTree) → target_of (comparison at sign op a b) ≡ to_nothing
comparison-seen at sign equal (state a) b = refl
comparison-seen at sign differs (state a) b = refl
comparison-seen at sign op a b = refl

chain-seen : (nodes : TypedNodes) (look : ExprId → ValueTree) (at : Place) (signs : List Place) (ty : Ty) (sort : OperatorKind) (es : List ExprId) → chain_fits nodes sort es ty ≡ true
    → target_of (chain_of at signs ty sort (map look es)) ≡ to_nothing
chain-seen nodes look at signs ty (arithmetic op) [] h = absurd (cc (h))
chain-seen nodes look at signs ty (arithmetic op) (e ∷ []) h = absurd (cc (h))
chain-seen nodes look at [] ty (arithmetic op) (e ∷ f ∷ es) h = num-chain-seen ty at op _ false at (num_in (look e)) (num_in (look f)) (map look es) []
chain-seen nodes look at (s ∷ signs) ty (arithmetic op) (e ∷ f ∷ es) h = num-chain-seen ty at op _ false s (num_in (look e)) (num_in (look f)) (map look es) signs
chain-seen nodes look at signs ty (joining both) [] h = absurd (cc (h))
chain-seen nodes look at signs ty (joining both) (e ∷ []) h = absurd (cc (h))
chain-seen nodes look at signs ty (joining both) (e ∷ f ∷ es) h = cond-chain-seen at both false (cond_in (look e)) (cond_in (look f)) (map look es)
chain-seen nodes look at signs ty (ordering op) [] h = absurd (cc (h))
chain-seen nodes look at signs ty (ordering op) (e ∷ []) h = absurd (cc (h))
chain-seen nodes look at signs ty (ordering op) (e ∷ f ∷ []) h = comparison-seen at (first_sign at signs) op (look e) (look f)
chain-seen nodes look at signs ty (ordering op) (e ∷ f ∷ g ∷ es) h = absurd (cc (h))

answer-seen : (at : Place) (sig : BaseSig) (t : ValueTree) → target_of (answer_of at sig t) ≡ to_nothing
answer-seen at sigs.ReaderLength t = refl
answer-seen at sigs.ReaderIsClosed t = refl
answer-seen at sigs.ReaderPosition t = refl
answer-seen at (sigs.Read form) t = refl
answer-seen at sigs.Skip t = refl
answer-seen at (sigs.Peek form) t = refl
answer-seen at sigs.SkipFast t = refl
answer-seen at sigs.WriterLength t = refl
answer-seen at sigs.WriterPosition t = refl
answer-seen at sigs.Write t = refl
answer-seen at sigs.WriteFast t = refl
answer-seen at sigs.WriterCopy t = refl
answer-seen at (sigs.SliceCopy width) t = refl
answer-seen at (sigs.SliceLength width) t = refl
answer-seen at (sigs.ArrayLength width) t = refl
answer-seen at sigs.IsOk t = refl
answer-seen at sigs.IsNote t = refl
answer-seen at sigs.IsSuspension t = refl
answer-seen at sigs.IsError t = refl

-- A tree that is no target.
no-target : (v : ValueTree) (ty : Ty) → target_of v ≡ to_nothing → Seen v ty None
no-target v (types.Num width lo hi) h = record { thing = ap written_by h; variable = ap number_written h; taken = λ y k. absurd (cc (k)); none = λ k. ap taken_by h }
no-target v types.Flag h = record { thing = ap written_by h; variable = ap number_written h; taken = λ y k. absurd (cc (k)); none = λ k. ap taken_by h }
no-target v types.Status h = record { thing = ap written_by h; variable = ap number_written h; taken = λ y k. absurd (cc (k)); none = λ k. ap taken_by h }
no-target v types.Reader h = record { thing = ap written_by h; variable = ap number_written h; taken = λ y k. absurd (cc (k)); none = λ k. ap taken_by h }
no-target v types.Writer h = record { thing = ap written_by h; variable = ap number_written h; taken = λ y k. absurd (cc (k)); none = λ k. ap taken_by h }
no-target v (types.Slice width) h = record { thing = ap written_by h; variable = ap number_written h; taken = λ y k. absurd (cc (k)); none = λ k. ap taken_by h }
no-target v (types.Array width lo hi count) h = record { thing = ap written_by h; variable = ap number_written h; taken = λ y k. absurd (cc (k)); none = λ k. ap taken_by h }
no-target v (types.Part s) h = record { thing = ap written_by h; variable = ap number_written h; taken = λ y k. absurd (cc (k)); none = λ k. ap taken_by h }

local-seen : (at : Place) (ty : Ty) (x : Expr) (n : ℕ) → x ≡ exprs.Local (record { 0 = n }) → Seen (named at ty (local n)) ty (node_written ty (exprs.Local (record { 0 = n })))
local-seen at (types.Num width lo hi) x n h = record { thing = refl; variable = refl; taken = λ y k. refl; none = λ k. absurd (cc (k)) }
local-seen at types.Flag x n h = record { thing = refl; variable = refl; taken = λ y k. refl; none = λ k. absurd (cc (k)) }
local-seen at types.Status x n h = record { thing = refl; variable = refl; taken = λ y k. refl; none = λ k. absurd (cc (k)) }
local-seen at types.Reader x n h = no-target lost types.Reader refl
local-seen at types.Writer x n h = no-target lost types.Writer refl
local-seen at (types.Slice width) x n h = record { thing = refl; variable = refl; taken = λ y k. refl; none = λ k. absurd (cc (k)) }
local-seen at (types.Array width lo hi count) x n h = no-target _ (types.Array width lo hi count) refl
local-seen at (types.Part s) x n h = no-target lost (types.Part s) refl

field-seen : (at : Place) (ty : Ty) (n : ℕ) → Seen (named at ty (field n)) ty (node_written ty (exprs.Field (record { 0 = n })))
field-seen at (types.Num width lo hi) n = record { thing = refl; variable = refl; taken = λ y k. refl; none = λ k. absurd (cc (k)) }
field-seen at types.Flag n = record { thing = refl; variable = refl; taken = λ y k. refl; none = λ k. absurd (cc (k)) }
field-seen at types.Status n = record { thing = refl; variable = refl; taken = λ y k. refl; none = λ k. absurd (cc (k)) }
field-seen at types.Reader n = no-target lost types.Reader refl
field-seen at types.Writer n = no-target lost types.Writer refl
field-seen at (types.Slice width) n = record { thing = refl; variable = refl; taken = λ y k. refl; none = λ k. absurd (cc (k)) }
field-seen at (types.Array width lo hi count) n = no-target _ (types.Array width lo hi count) refl
field-seen at (types.Part s) n = no-target lost (types.Part s) refl

arg-seen : (at : Place) (ty : Ty) (n : ℕ) → Seen (named at ty (arg n)) ty (node_written ty (exprs.Arg (record { 0 = n })))
arg-seen at (types.Num width lo hi) n = record { thing = refl; variable = refl; taken = λ y k. refl; none = λ k. absurd (cc (k)) }
arg-seen at types.Flag n = record { thing = refl; variable = refl; taken = λ y k. refl; none = λ k. absurd (cc (k)) }
arg-seen at types.Status n = record { thing = refl; variable = refl; taken = λ y k. refl; none = λ k. absurd (cc (k)) }
arg-seen at types.Reader n = no-target (io at n) types.Reader refl
arg-seen at types.Writer n = no-target (io at n) types.Writer refl
arg-seen at (types.Slice width) n = record { thing = refl; variable = refl; taken = λ y k. refl; none = λ k. absurd (cc (k)) }
arg-seen at (types.Array width lo hi count) n = no-target _ (types.Array width lo hi count) refl
arg-seen at (types.Part s) n = no-target lost (types.Part s) refl

element-seen : (at : Place) (ty : Ty) (cells : SliceTree) (index : NumTree) (base i : ExprId) → is_numeric ty ≡ true → Seen (numeric (element at (num_type ty) cells index)) ty (node_written ty (exprs.Index base i))
element-seen at (types.Num width lo hi) cells index base i h = record { thing = refl; variable = refl; taken = λ y k. refl; none = λ k. absurd (cc (k)) }
element-seen at types.Flag cells index base i h = absurd (cc (h))
element-seen at types.Status cells index base i h = absurd (cc (h))
element-seen at types.Reader cells index base i h = absurd (cc (h))
element-seen at types.Writer cells index base i h = absurd (cc (h))
element-seen at (types.Slice width) cells index base i h = absurd (cc (h))
element-seen at (types.Array width lo hi count) cells index base i h = absurd (cc (h))
element-seen at (types.Part s) cells index base i h = absurd (cc (h))

both-first : (p q : Bool) → (p && q) ≡ true → p ≡ true
both-first true q h = refl
both-first false q h = h

kind-seen : (nodes : TypedNodes) (look : ExprId → ValueTree) (at : Place) (signs : List Place) (ty : Ty) (x : Expr) → kind_fits nodes ty x ≡ true → Seen (made look at signs ty x) ty (node_written ty x)
kind-seen nodes look at signs ty (exprs.Number value) h = absurd (cc (h))
kind-seen nodes look at signs ty (exprs.Const c) h = absurd (cc (h))
kind-seen nodes look at signs ty (exprs.Status s) h = no-target (state (status at s.0)) ty refl
kind-seen nodes look at signs ty (exprs.Truth value) h = no-target (logical (truth at value)) ty refl
kind-seen nodes look at signs ty (exprs.Local x) h = local-seen at ty (exprs.Local x) x.0 refl
kind-seen nodes look at signs ty (exprs.Field x) h = field-seen at ty x.0
kind-seen nodes look at signs ty (exprs.Arg x) h = arg-seen at ty x.0
kind-seen nodes look at signs ty (exprs.Index base index) h = element-seen at ty _ (num_in (look index)) base index (both-first _ _ h)
kind-seen nodes look at signs ty (exprs.Cut base from to) h = no-target _ ty refl
kind-seen nodes look at signs ty (exprs.Chain op parts) h = no-target _ ty (chain-seen nodes look at signs ty (operator_kind op) parts h)
kind-seen nodes look at signs ty (exprs.Convert of to) h = no-target _ ty refl
kind-seen nodes look at signs ty (exprs.Not of) h = no-target _ ty refl
kind-seen nodes look at signs ty (exprs.Base on sig) h = no-target _ ty (answer-seen at sig (look on))

node-seen : (nodes : TypedNodes) (look : ExprId → ValueTree) (at : Place) (signs : List Place) (ty : Ty) (constant : Option ℕ) (x : Expr) → node_fits nodes ty constant x ≡ true
    → Seen (made_or_number look at signs ty constant x) ty (constant_or_written ty constant x)
node-seen nodes look at signs ty None x h = kind-seen nodes look at signs ty x h
node-seen nodes look at signs ty (Some value) x h = no-target (numeric (number at value)) ty refl

pub target-seen : (nodes : TypedNodes) (e : ExprId) (x : Expr)
    → tree_of nodes e ≡ made_or_number (tree_of nodes) (place_of_node nodes e.0) (signs_of_node nodes e.0) (type_of_node nodes e.0) (constant_of_node nodes e.0) x
    → node_fits nodes (type_of_node nodes e.0) (constant_of_node nodes e.0) x ≡ true
    → Seen (tree_of nodes e) (type_of_node nodes e.0) (constant_or_written (type_of_node nodes e.0) (constant_of_node nodes e.0) x)
target-seen nodes e x h k =
    rw h (node-seen nodes (tree_of nodes) (place_of_node nodes e.0) (signs_of_node nodes e.0) (type_of_node nodes e.0) (constant_of_node nodes e.0) x k)
