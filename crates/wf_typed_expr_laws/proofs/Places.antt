-- The typed tree of an expression stands where the expression stands.
use Rattle.std.proofs.Common.{◌≡◌, ℕ, Bool, true, false, ◌&&◌, if◌then◌else◌, List, [], ◌∷◌, Option, None, Some, refl, ap, ◌∙◌}
use Rattle.std.specs.Prelude.{option_map}
use Rattle.wf_text.specs.declared.place.Place.{Place}
use Rattle.wf_base.specs.declared.base_methods.BaseSig.{BaseSig}
use Rattle.wf_base.specs.declared.base_methods.BaseSig.TheVariants as sigs
use Rattle.wf_base.specs.BaseTable.{row_of}
use Rattle.wf_ast.specs.declared.types.Ty.{Ty}
use Rattle.wf_ast.specs.declared.types.Ty.TheVariants as types
use Rattle.wf_ast.specs.TypedTree.{NumTree, CondTree, Arith, Order, equal, differs, ValueTree, numeric, state}
use Rattle.wf_ast.specs.TypedTree as typed
use Rattle.wf_ast.specs.TypedTrees.{OperatorKind, arithmetic, ordering, joining, operator_kind, num_in, cond_in, named, num_type, num_chain, cond_chain, first_sign, comparison, chain_of, answer_of}
use Rattle.wf_ast.specs.WellTyped.{is_pure}
use Rattle.wf_named.specs.declared.nodes.NamedCallee.TheVariants as callees
use Rattle.wf_named.specs.NamedTree as tree
use Rattle.wf_types_rules.specs.declared.meanings.Meaning.{Meaning}
use Rattle.wf_types_rules.specs.declared.meanings.Meaning.TheVariants as meanings
use Rattle.wf_types_rules.specs.Meanings.{variable, is_value}
use Rattle.wf_types_rules.specs.ExprTypes.{only_where, given_by_base, pure_answer, number_of}
use Rattle.wf_typed_tree.specs.ElaboratedExprs.{variable_tree, number_or, signs_in, type_of, path_to, path_tree, expr_tree, link_trees}
use Rattle.wf_typed_tree.proofs.NumberLemmas.{then-parts, where-parts}
use Rattle.wf_typed_expr_laws.specs.ExprLaws.{num_place, cond_place, value_place, TreesKeepPlaces}

-- A chain goes on where it began.
num-chain-place : (at : Place) (op : Arith) (bits : ℕ) (joined : Bool) (so_far : NumTree) (ts : List ValueTree) (signs : List Place) → num_place so_far ≡ at → num_place (num_chain at op bits joined so_far ts signs) ≡ at
num-chain-place at op bits joined so_far [] signs h = h
num-chain-place at op bits joined so_far (t ∷ ts) [] h = num-chain-place at op bits true (typed.link at at op bits joined so_far (num_in t)) ts [] refl
num-chain-place at op bits joined so_far (t ∷ ts) (sign ∷ signs) h = num-chain-place at op bits true (typed.link at sign op bits joined so_far (num_in t)) ts signs refl

num-begun-place : (at : Place) (op : Arith) (bits : ℕ) (first : NumTree) (t : ValueTree) (ts : List ValueTree) (signs : List Place) → num_place (num_chain at op bits false first (t ∷ ts) signs) ≡ at
num-begun-place at op bits first t ts [] = num-chain-place at op bits true (typed.link at at op bits false first (num_in t)) ts [] refl
num-begun-place at op bits first t ts (sign ∷ signs) = num-chain-place at op bits true (typed.link at sign op bits false first (num_in t)) ts signs refl

cond-chain-place : (at : Place) (both joined : Bool) (so_far : CondTree) (ts : List ValueTree) → cond_place so_far ≡ at → cond_place (cond_chain at both joined so_far ts) ≡ at
cond-chain-place at both joined so_far [] h = h
cond-chain-place at both joined so_far (t ∷ ts) h = cond-chain-place at both true (typed.junction at both joined so_far (cond_in t)) ts refl

comparison-place : (at sign : Place) (op : Order) (a b : ValueTree) → value_place (comparison at sign op a b) ≡ at
comparison-place at sign equal (state a) b = refl
comparison-place at sign differs (state a) b = refl
comparison-place at sign op a b = refl

chain-place : (at : Place) (signs : List Place) (ty : Ty) (sort : OperatorKind) (t u : ValueTree) (ts : List ValueTree) → value_place (chain_of at signs ty sort (t ∷ u ∷ ts)) ≡ at
chain-place at signs ty (arithmetic op) t u ts = num-begun-place at op (num_type ty).bits (num_in t) u ts signs
chain-place at signs ty (joining both) t u ts = cond-chain-place at both true (typed.junction at both false (cond_in t) (cond_in u)) ts refl
chain-place at signs ty (ordering op) t u ts = comparison-place at (first_sign at signs) op t u

number-place : (at : Place) (n : Option ℕ) (t : ValueTree) → value_place t ≡ at → value_place (number_or at n t) ≡ at
number-place at None t h = h
number-place at (Some value) t h = refl

-- A variable that is a value.
named-place : (at : Place) (ty : Ty) (path : typed.Path) → is_value (meanings.Typed ty) ≡ true → value_place (named at ty path) ≡ at
named-place at (types.Num width lo hi) path h = refl
named-place at types.Flag path h = refl
named-place at types.Status path h = refl
named-place at (types.Slice width) path h = refl
named-place at (types.Array width lo hi count) path h = refl
named-place at types.Reader path h = absurd (cc h)
named-place at types.Writer path h = absurd (cc h)
named-place at (types.Part part) path h = absurd (cc h)

answers : (a b : Bool) (x : Option Meaning) (m : Meaning) → (if a && b then x else None) ≡ Some m → (a ≡ true) × (x ≡ Some m)
answers true true x m h = (refl, h)
answers true false x m h = absurd (cc h)
answers false b x m h = absurd (cc h)

answer-place : (at : Place) (sig : BaseSig) (t : ValueTree) → is_pure (row_of sig).mark ≡ true → value_place (answer_of at sig t) ≡ at
answer-place at sigs.ReaderLength t h = refl
answer-place at sigs.ReaderIsClosed t h = refl
answer-place at sigs.ReaderPosition t h = refl
answer-place at (sigs.Read form) t h = absurd (cc h)
answer-place at sigs.Skip t h = absurd (cc h)
answer-place at (sigs.Peek form) t h = refl
answer-place at sigs.SkipFast t h = absurd (cc h)
answer-place at sigs.WriterLength t h = refl
answer-place at sigs.WriterPosition t h = refl
answer-place at sigs.Write t h = absurd (cc h)
answer-place at sigs.WriteFast t h = absurd (cc h)
answer-place at sigs.WriterCopy t h = absurd (cc h)
answer-place at (sigs.SliceCopy width) t h = absurd (cc h)
answer-place at (sigs.SliceLength width) t h = refl
answer-place at (sigs.ArrayLength width) t h = refl
answer-place at sigs.IsOk t h = refl
answer-place at sigs.IsNote t h = refl
answer-place at sigs.IsSuspension t h = refl
answer-place at sigs.IsError t h = refl

pub trees-keep-places : TreesKeepPlaces
trees-keep-places s (tree.number value at) m g h = refl
trees-keep-places s (tree.status n at) m g h = refl
trees-keep-places s (tree.truth value at) m g h = refl
trees-keep-places s (tree.path p) m g h =
    let it = then-parts (only_where is_value) (variable s p.of) m h in
    let value = where-parts (is_value it.of) it.of m it.gives in
    ap (λ o. value_place (variable_tree p.at p.of o)) it.is ∙ by_meaning it.of value.0
  where
    by_meaning : (n : Meaning) → is_value n ≡ true → value_place (variable_tree p.at p.of (Some n)) ≡ p.at
    by_meaning (meanings.Typed ty) k = named-place p.at ty (path_to p.of) k
    by_meaning (meanings.Constant width value) k = refl
trees-keep-places s (tree.index p i at) m g h = refl
trees-keep-places s (tree.slice p from to at) m g h = refl
trees-keep-places s (tree.answer (tree.call (callees.Base on sig) at mark args)) m g h =
    let it = then-parts (pure_answer sig mark) (variable s on.of) m h in
    answer-place at sig (path_tree s on) (answers (is_pure (row_of sig).mark) (is_pure mark) (option_map meanings.Typed (given_by_base (row_of sig).gives)) m it.gives).0
trees-keep-places s (tree.answer (tree.call (callees.Own n) at mark args)) m g h = absurd (cc h)
trees-keep-places s (tree.answer (tree.call (callees.Sub x n) at mark args)) m g h = absurd (cc h)
trees-keep-places s (tree.chain op first tree.no_link at) m g h = absurd (cc g)
trees-keep-places s (tree.chain op first (tree.link sign e others) at) m g h =
    let c = tree.chain op first (tree.link sign e others) at in
    let links = tree.link sign e others in
    number-place at (number_of s c) (chain_of at (signs_in links) (type_of s c) (operator_kind op) (expr_tree s first ∷ link_trees s links))
    (chain-place at (signs_in links) (type_of s c) (operator_kind op) (expr_tree s first) (expr_tree s e) (link_trees s others))
trees-keep-places s (tree.convert e t at) m g h =
    let c = tree.convert e t at in
    number-place at (number_of s c) (numeric (typed.convert at at (num_type (type_of s c)).bits (num_in (expr_tree s e)))) refl
trees-keep-places s (tree.negation e at) m g h = refl
