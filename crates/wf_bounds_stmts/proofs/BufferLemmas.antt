-- Which values are readers and writers, by nodes.
use Rattle.std.proofs.Common.{◌≡◌, ℕ, List, [], ◌∷◌, map, Option, Some, None, refl, sym, ap, ◌∙◌}
use Rattle.wf_text.specs.declared.place.Place.{Place}
use Rattle.wf_base.specs.declared.base_methods.BaseSig.{BaseSig}
use Rattle.wf_base.specs.declared.base_methods.BaseSig.TheVariants as sigs
use Rattle.wf_ast.specs.declared.numbers.ExprId.{ExprId}
use Rattle.wf_ast.specs.declared.types.Ty.{Ty}
use Rattle.wf_ast.specs.declared.types.Ty.TheVariants as types
use Rattle.wf_ast.specs.declared.typed_code.Expr.{Expr}
use Rattle.wf_ast.specs.declared.typed_code.Expr.TheVariants as exprs
use Rattle.wf_ast.specs.declared.typed_nodes.TypedNodes.{TypedNodes}
use Rattle.wf_ast.specs.TypedTree.{local, field, arg, Order, equal, differs, ValueTree, state}
use Rattle.wf_ast.specs.TypedTrees.{OperatorKind, arithmetic, ordering, joining, operator_kind, comparison, chain_of, first_sign, named, answer_of, made, made_or_number, tree_of, type_of_node, constant_of_node, place_of_node, signs_of_node}
use Rattle.wf_bounds_stmts.specs.Calls.{handed_thing}
use Rattle.wf_bounds_stmts.specs.Nodes.{buffer_named, constant_or_buffer}

comparison-handed : (at sign : Place) (op : Order) (a b : ValueTree) → handed_thing (comparison at sign op a b) ≡ None
comparison-handed at sign equal (state a) b = refl
comparison-handed at sign differs (state a) b = refl
comparison-handed at sign op a b = refl

chain-handed : (look : ExprId → ValueTree) (at : Place) (signs : List Place) (ty : Ty) (sort : OperatorKind) (es : List ExprId) → handed_thing (chain_of at signs ty sort (map look es)) ≡ None
chain-handed look at signs ty (arithmetic op) [] = refl
chain-handed look at signs ty (arithmetic op) (e ∷ es) = refl
chain-handed look at signs ty (joining both) [] = refl
chain-handed look at signs ty (joining both) (e ∷ es) = refl
chain-handed look at signs ty (ordering op) [] = refl
chain-handed look at signs ty (ordering op) (e ∷ []) = refl
chain-handed look at signs ty (ordering op) (e ∷ f ∷ es) = comparison-handed at (first_sign at signs) op (look e) (look f)

local-handed : (at : Place) (ty : Ty) (n : ℕ) → handed_thing (named at ty (local n)) ≡ None
local-handed at (types.Num width lo hi) n = refl
local-handed at types.Flag n = refl
local-handed at types.Status n = refl
local-handed at types.Reader n = refl
local-handed at types.Writer n = refl
local-handed at (types.Slice width) n = refl
local-handed at (types.Array width lo hi count) n = refl
local-handed at (types.Part s) n = refl

field-handed : (at : Place) (ty : Ty) (n : ℕ) → handed_thing (named at ty (field n)) ≡ None
field-handed at (types.Num width lo hi) n = refl
field-handed at types.Flag n = refl
field-handed at types.Status n = refl
field-handed at types.Reader n = refl
field-handed at types.Writer n = refl
field-handed at (types.Slice width) n = refl
field-handed at (types.Array width lo hi count) n = refl
field-handed at (types.Part s) n = refl

arg-handed : (at : Place) (ty : Ty) (n : ℕ) → handed_thing (named at ty (arg n)) ≡ buffer_named ty (exprs.Arg (record { 0 = n }))
arg-handed at (types.Num width lo hi) n = refl
arg-handed at types.Flag n = refl
arg-handed at types.Status n = refl
arg-handed at types.Reader n = refl
arg-handed at types.Writer n = refl
arg-handed at (types.Slice width) n = refl
arg-handed at (types.Array width lo hi count) n = refl
arg-handed at (types.Part s) n = refl

answer-handed : (at : Place) (sig : BaseSig) (t : ValueTree) → handed_thing (answer_of at sig t) ≡ None
answer-handed at sigs.ReaderLength t = refl
answer-handed at sigs.ReaderIsClosed t = refl
answer-handed at sigs.ReaderPosition t = refl
answer-handed at (sigs.Read form) t = refl
answer-handed at sigs.Skip t = refl
answer-handed at (sigs.Peek form) t = refl
answer-handed at sigs.SkipFast t = refl
answer-handed at sigs.WriterLength t = refl
answer-handed at sigs.WriterPosition t = refl
answer-handed at sigs.Write t = refl
answer-handed at sigs.WriteFast t = refl
answer-handed at sigs.WriterCopy t = refl
answer-handed at (sigs.SliceCopy width) t = refl
answer-handed at (sigs.SliceLength width) t = refl
answer-handed at (sigs.ArrayLength width) t = refl
answer-handed at sigs.IsOk t = refl
answer-handed at sigs.IsNote t = refl
answer-handed at sigs.IsSuspension t = refl
answer-handed at sigs.IsError t = refl

-- Only an argument names a reader or a writer.
buffer-of-other : (ty : Ty) (x : Expr) → ((n : ℕ) → x ≡ exprs.Arg (record { 0 = n }) → ⊥) → buffer_named ty x ≡ None
buffer-of-other (types.Num width lo hi) x h = refl
buffer-of-other types.Flag x h = refl
buffer-of-other types.Status x h = refl
buffer-of-other (types.Slice width) x h = refl
buffer-of-other (types.Array width lo hi count) x h = refl
buffer-of-other (types.Part s) x h = refl
buffer-of-other types.Reader (exprs.Arg y) h = absurd (h y.0 refl)
buffer-of-other types.Reader x h = refl
buffer-of-other types.Writer (exprs.Arg y) h = absurd (h y.0 refl)
buffer-of-other types.Writer x h = refl

kind-handed : (look : ExprId → ValueTree) (at : Place) (signs : List Place) (ty : Ty) (x : Expr) → handed_thing (made look at signs ty x) ≡ buffer_named ty x
kind-handed look at signs ty (exprs.Number value) = sym (buffer-of-other ty (exprs.Number value) (λ n e. cc (e)))
kind-handed look at signs ty (exprs.Const k) = sym (buffer-of-other ty (exprs.Const k) (λ n e. cc (e)))
kind-handed look at signs ty (exprs.Status s) = sym (buffer-of-other ty (exprs.Status s) (λ n e. cc (e)))
kind-handed look at signs ty (exprs.Truth value) = sym (buffer-of-other ty (exprs.Truth value) (λ n e. cc (e)))
kind-handed look at signs ty (exprs.Local y) = local-handed at ty y.0 ∙ sym (buffer-of-other ty (exprs.Local y) (λ n e. cc (e)))
kind-handed look at signs ty (exprs.Field y) = field-handed at ty y.0 ∙ sym (buffer-of-other ty (exprs.Field y) (λ n e. cc (e)))
kind-handed look at signs ty (exprs.Arg y) = arg-handed at ty y.0
kind-handed look at signs ty (exprs.Index base index) = sym (buffer-of-other ty (exprs.Index base index) (λ n e. cc (e)))
kind-handed look at signs ty (exprs.Cut base from to) = sym (buffer-of-other ty (exprs.Cut base from to) (λ n e. cc (e)))
kind-handed look at signs ty (exprs.Chain op parts) = chain-handed look at signs ty (operator_kind op) parts ∙ sym (buffer-of-other ty (exprs.Chain op parts) (λ n e. cc (e)))
kind-handed look at signs ty (exprs.Convert of to) = sym (buffer-of-other ty (exprs.Convert of to) (λ n e. cc (e)))
kind-handed look at signs ty (exprs.Not of) = sym (buffer-of-other ty (exprs.Not of) (λ n e. cc (e)))
kind-handed look at signs ty (exprs.Base on sig) = answer-handed at sig (look on) ∙ sym (buffer-of-other ty (exprs.Base on sig) (λ n e. cc (e)))

node-handed : (look : ExprId → ValueTree) (at : Place) (signs : List Place) (ty : Ty) (constant : Option ℕ) (x : Expr) → handed_thing (made_or_number look at signs ty constant x) ≡ constant_or_buffer ty constant x
node-handed look at signs ty None x = kind-handed look at signs ty x
node-handed look at signs ty (Some value) x = refl

pub handed-at : (nodes : TypedNodes) (e : ExprId) (x : Expr)
    → tree_of nodes e ≡ made_or_number (tree_of nodes) (place_of_node nodes e.0) (signs_of_node nodes e.0) (type_of_node nodes e.0) (constant_of_node nodes e.0) x
    → handed_thing (tree_of nodes e) ≡ constant_or_buffer (type_of_node nodes e.0) (constant_of_node nodes e.0) x
handed-at nodes e x h =
    ap handed_thing h ∙ node-handed (tree_of nodes) (place_of_node nodes e.0) (signs_of_node nodes e.0) (type_of_node nodes e.0) (constant_of_node nodes e.0) x
