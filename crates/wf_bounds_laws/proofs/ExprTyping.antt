-- The typed tree of an expression stands where the expression stands.
use Rattle.std.proofs.Common.{ℕ, Bool, true, false, List, [], ◌∷◌, Option, None, Some}
use Rattle.std.specs.List.{AllByRecursion}
use Rattle.wf_text.specs.declared.place.Place.{Place}
use Rattle.wf_base.specs.declared.base_methods.BaseSig.{BaseSig}
use Rattle.wf_base.specs.declared.base_methods.BaseSig.TheVariants as sigs
use Rattle.wf_ast.specs.declared.types.Ty.{Ty}
use Rattle.wf_ast.specs.declared.types.Ty.TheVariants as types
use Rattle.wf_ast.specs.TypedTree.{Path, local, field, arg, NumTree, number, read, element, link, Arith, Order, equal, differs, CondTree, flag, ValueTree, numeric, logical, state, elements, io, lost, Target}
use Rattle.wf_ast.specs.TypedTree as typed
use Rattle.wf_ast.specs.TypedTrees.{no_place, OperatorKind, arithmetic, ordering, joining, operator_kind, num_in, cond_in, status_in, slice_in, named, num_type, num_chain, cond_chain, first_sign, comparison, chain_of, answer_of, target_of, base_call}
use Rattle.wf_named.specs.declared.nodes.NamedCallee.TheVariants as callees
use Rattle.wf_named.specs.declared.nodes.NamedPath.{NamedPath}
use Rattle.wf_named.specs.declared.nodes.Variable.{Variable}
use Rattle.wf_named.specs.NamedTree as tree
use Rattle.wf_named.specs.NamedTree.{NamedExprTree, NamedPartTree, NamedLinkTrees, NamedArgTrees, NamedCallTree}
use Rattle.wf_types_rules.specs.declared.meanings.Meaning.{Meaning}
use Rattle.wf_types_rules.specs.declared.meanings.Meaning.TheVariants as meanings
use Rattle.wf_types_rules.specs.declared.settings.Setting.{Setting}
use Rattle.wf_types_rules.specs.Meanings.{variable}
use Rattle.wf_types_rules.specs.ExprTypes.{number_of}
use Rattle.wf_typed_tree.specs.ElaboratedExprs.{path_to, variable_tree, path_tree, type_of, number_or, signs_in, answer_tree, expr_tree, end_tree, link_trees, arg_trees}
use Rattle.wf_read_laws.specs.NamedPlaces as from
use Rattle.wf_bounds_laws.specs.TypedPlaces.{NumIsIn, SliceIsIn, EndIsIn, StatusIsIn, CondIsIn, ValueIsIn, TargetIsIn, SimpleIsIn}

-- Where no part of a kind is there, one stands that has no place of its own.
module _ (In : Place → Type 0) (none : In no_place) where
  pub number-in : (v : ValueTree) → ValueIsIn In v → NumIsIn In (num_in v)
  number-in (numeric t) h = h
  number-in (logical c) h = none
  number-in (state t) h = none
  number-in (elements t) h = none
  number-in (io at a) h = none
  number-in lost h = none

  pub condition-in : (v : ValueTree) → ValueIsIn In v → CondIsIn In (cond_in v)
  condition-in (numeric t) h = (none, none, none, none)
  condition-in (logical c) h = h
  condition-in (state t) h = (none, none, none, none)
  condition-in (elements t) h = (none, none, none, none)
  condition-in (io at a) h = (none, none, none, none)
  condition-in lost h = (none, none, none, none)

  pub status-in : (v : ValueTree) → ValueIsIn In v → StatusIsIn In (status_in v)
  status-in (numeric t) h = tt
  status-in (logical c) h = tt
  status-in (state t) h = h
  status-in (elements t) h = tt
  status-in (io at a) h = tt
  status-in lost h = tt

  pub cells-in : (v : ValueTree) → ValueIsIn In v → SliceIsIn In (slice_in v)
  cells-in (numeric t) h = none
  cells-in (logical c) h = none
  cells-in (state t) h = none
  cells-in (elements t) h = h
  cells-in (io at a) h = none
  cells-in lost h = none

  named-in : (at : Place) (ty : Ty) (path : Path) → In at → ValueIsIn In (named at ty path)
  named-in at (types.Num width lo hi) path h = h
  named-in at types.Flag path h = h
  named-in at types.Status path h = h
  named-in at types.Reader (local n) h = tt
  named-in at types.Reader (field n) h = tt
  named-in at types.Reader (arg n) h = h
  named-in at types.Writer (local n) h = tt
  named-in at types.Writer (field n) h = tt
  named-in at types.Writer (arg n) h = h
  named-in at (types.Slice width) path h = h
  named-in at (types.Array width lo hi count) path h = h
  named-in at (types.Part s) path h = tt

  variable-in : (at : Place) (x : Variable) (m : Option Meaning) → In at → ValueIsIn In (variable_tree at x m)
  variable-in at x None h = tt
  variable-in at x (Some (meanings.Typed ty)) h = named-in at ty (path_to x) h
  variable-in at x (Some (meanings.Constant width value)) h = h

  pub path-in : (s : Setting) (p : NamedPath) → from.PathIsIn In p → ValueIsIn In (path_tree s p)
  path-in s p h = variable-in p.at p.of (variable s p.of) h

  -- Chains.
  numbers-in : (at : Place) (op : Arith) (bits : ℕ) (joined : Bool) (so_far : NumTree) (ts : List ValueTree) (signs : List Place)
      → In at → NumIsIn In so_far → AllByRecursion (ValueIsIn In) ts → AllByRecursion In signs → NumIsIn In (num_chain at op bits joined so_far ts signs)
  numbers-in at op bits joined so_far [] signs h k a b = k
  numbers-in at op bits joined so_far (t ∷ ts) [] h k a b = numbers-in at op bits true (link at at op bits joined so_far (num_in t)) ts [] h (h, h, k, number-in t a.0) a.1 tt
  numbers-in at op bits joined so_far (t ∷ ts) (sign ∷ signs) h k a b =
      numbers-in at op bits true (link at sign op bits joined so_far (num_in t)) ts signs h (h, b.0, k, number-in t a.0) a.1 b.1

  conditions-in : (at : Place) (both joined : Bool) (so_far : CondTree) (ts : List ValueTree)
      → In at → CondIsIn In so_far → AllByRecursion (ValueIsIn In) ts → CondIsIn In (cond_chain at both joined so_far ts)
  conditions-in at both joined so_far [] h k a = k
  conditions-in at both joined so_far (t ∷ ts) h k a = conditions-in at both true (typed.junction at both joined so_far (cond_in t)) ts h (h, k, condition-in t a.0) a.1

  sign-in : (at : Place) (signs : List Place) → In at → AllByRecursion In signs → In (first_sign at signs)
  sign-in at [] h b = h
  sign-in at (sign ∷ signs) h b = b.0

  comparison-in : (at sign : Place) (op : Order) (a b : ValueTree) → In at → In sign → ValueIsIn In a → ValueIsIn In b → ValueIsIn In (comparison at sign op a b)
  comparison-in at sign equal (state a) b h k p q = (h, k, p, status-in b q)
  comparison-in at sign differs (state a) b h k p q = (h, k, p, status-in b q)
  comparison-in at sign op a b h k p q = (h, k, number-in a p, number-in b q)

  pub chain-in : (at : Place) (signs : List Place) (ty : Ty) (sort : OperatorKind) (ts : List ValueTree)
      → In at → AllByRecursion In signs → AllByRecursion (ValueIsIn In) ts → ValueIsIn In (chain_of at signs ty sort ts)
  chain-in at signs ty (arithmetic op) [] h b a = tt
  chain-in at signs ty (arithmetic op) (t ∷ ts) h b a = numbers-in at op (num_type ty).bits false (num_in t) ts signs h (number-in t a.0) a.1 b
  chain-in at signs ty (joining both) [] h b a = tt
  chain-in at signs ty (joining both) (t ∷ ts) h b a = conditions-in at both false (cond_in t) ts h (condition-in t a.0) a.1
  chain-in at signs ty (ordering op) [] h b a = tt
  chain-in at signs ty (ordering op) (t ∷ []) h b a = tt
  chain-in at signs ty (ordering op) (t ∷ (u ∷ ts)) h b a = comparison-in at (first_sign at signs) op t u h (sign-in at signs h b) a.0 a.1.0

  -- Base methods.
  pub answered-in : (at : Place) (sig : BaseSig) (t : ValueTree) → In at → ValueIsIn In t → ValueIsIn In (answer_of at sig t)
  answered-in at sigs.ReaderLength t h k = h
  answered-in at sigs.ReaderIsClosed t h k = h
  answered-in at sigs.ReaderPosition t h k = h
  answered-in at (sigs.Peek form) t h k = h
  answered-in at sigs.WriterLength t h k = h
  answered-in at sigs.WriterPosition t h k = h
  answered-in at (sigs.SliceLength width) t h k = (h, cells-in t k)
  answered-in at (sigs.ArrayLength width) t h k = (h, cells-in t k)
  answered-in at sigs.IsOk t h k = (h, status-in t k)
  answered-in at sigs.IsNote t h k = (h, status-in t k)
  answered-in at sigs.IsSuspension t h k = (h, status-in t k)
  answered-in at sigs.IsError t h k = (h, status-in t k)
  answered-in at _ t h k = tt

  answer-in : (s : Setting) (c : NamedCallTree) → from.CallIsIn In c → ValueIsIn In (answer_tree s c)
  answer-in s (tree.call (callees.Own m) at mark args) h = tt
  answer-in s (tree.call (callees.Sub x m) at mark args) h = tt
  answer-in s (tree.call (callees.Base on sig) at mark args) h = answered-in at sig (path_tree s on) h.1 (path-in s on h.0)

  number-or-in : (at : Place) (n : Option ℕ) (t : ValueTree) → In at → ValueIsIn In t → ValueIsIn In (number_or at n t)
  number-or-in at None t h k = k
  number-or-in at (Some value) t h k = h

  signs-in : (links : NamedLinkTrees) → from.LinksAreIn In links → AllByRecursion In (signs_in links)
  signs-in tree.no_link h = tt
  signs-in (tree.link sign e others) h = (h.0, signs-in others h.2)

  -- Expressions.
  mutual
    pub expr-in : (s : Setting) (e : NamedExprTree) → from.ExprIsIn In e → ValueIsIn In (expr_tree s e)
    expr-in s (tree.number value at) h = h
    expr-in s (tree.status n at) h = h
    expr-in s (tree.truth value at) h = h
    expr-in s (tree.path p) h = path-in s p h
    expr-in s (tree.index p i at) h = (h.2, cells-in (path_tree s p) (path-in s p h.0), number-in (expr_tree s i) (expr-in s i h.1))
    expr-in s (tree.slice p start stop at) h = (h.3, cells-in (path_tree s p) (path-in s p h.0), end-in s start h.1, end-in s stop h.2)
    expr-in s (tree.answer c) h = answer-in s c h
    expr-in s (tree.chain op first links at) h =
        number-or-in at (number_of s (tree.chain op first links at)) (chain_of at (signs_in links) (type_of s (tree.chain op first links at)) (operator_kind op) (expr_tree s first ∷ link_trees s links)) h.2
        (chain-in at (signs_in links) (type_of s (tree.chain op first links at)) (operator_kind op) (expr_tree s first ∷ link_trees s links) h.2 (signs-in links h.1) (expr-in s first h.0, links-in s links h.1))
    expr-in s (tree.convert e t at) h =
        number-or-in at (number_of s (tree.convert e t at)) (numeric (typed.convert at at (num_type (type_of s (tree.convert e t at))).bits (num_in (expr_tree s e)))) h.2
        (h.2, h.2, number-in (expr_tree s e) (expr-in s e h.0))
    expr-in s (tree.negation e at) h = (h.1, condition-in (expr_tree s e) (expr-in s e h.0))

    end-in : (s : Setting) (e : NamedPartTree) → from.EndIsIn In e → EndIsIn In (end_tree s e)
    end-in s tree.absent h = tt
    end-in s (tree.present e) h = number-in (expr_tree s e) (expr-in s e h)

    links-in : (s : Setting) (links : NamedLinkTrees) → from.LinksAreIn In links → AllByRecursion (ValueIsIn In) (link_trees s links)
    links-in s tree.no_link h = tt
    links-in s (tree.link sign e others) h = (expr-in s e h.1, links-in s others h.2)

  pub args-in : (s : Setting) (args : NamedArgTrees) → from.ArgsAreIn In args → AllByRecursion (ValueIsIn In) (arg_trees s args)
  args-in s tree.no_arg h = tt
  args-in s (tree.more_args e others) h = (expr-in s e h.0, args-in s others h.1)

  -- What is written to.
  pub target-of-in : (v : ValueTree) → ValueIsIn In v → TargetIsIn In (target_of v)
  target-of-in (numeric (number at n)) h = tt
  target-of-in (numeric (read at of path)) h = h
  target-of-in (numeric (element at of cells index)) h = h
  target-of-in (logical (flag at path)) h = h
  target-of-in (state (typed.held at path)) h = h
  target-of-in (elements (typed.slice at bits path)) h = h
  target-of-in _ h = tt

  -- A base method as a statement.
  pub base-in : (at : Place) (target : Target) (on : ValueTree) (sig : BaseSig) (ts : List ValueTree)
      → In at → TargetIsIn In target → ValueIsIn In on → AllByRecursion (ValueIsIn In) ts → SimpleIsIn In (base_call at target on sig ts)
  base-in at target on (sigs.Read form) [] h k o a = (h, k, tt)
  base-in at target on sigs.Skip (n ∷ []) h k o a = (h, k, number-in n a.0)
  base-in at target on sigs.Write (b ∷ []) h k o a = (h, k, number-in b a.0)
  base-in at target on sigs.SkipFast (n ∷ (m ∷ [])) h k o a = (h, k, (number-in n a.0, number-in m a.1.0))
  base-in at target on sigs.WriteFast (b ∷ []) h k o a = (h, k, number-in b a.0)
  base-in at target on sigs.WriterCopy (c ∷ []) h k o a = (h, k, cells-in c a.0)
  base-in at target on (sigs.SliceCopy width) (c ∷ []) h k o a = (h, k, (cells-in on o, cells-in c a.0))
  base-in at target on _ ts h k o a = tt
