-- The typed trees of expressions. Each expression has the tree that its meaning calls for, and every constant number
-- stands as that number. What breaks a rule may have any tree.
use Rattle.std.specs.Prelude.{ℕ, List, [], ◌∷◌, Option, None, Some}
use Rattle.wf_text.specs.declared.place.Place.{Place}
use Rattle.wf_base.specs.declared.widths.Width.TheVariants.{W64}
use Rattle.wf_ast.specs.declared.types.Ty.{Ty}
use Rattle.wf_ast.specs.declared.types.Ty.TheVariants as types
use Rattle.wf_ast.specs.TypedTree.{ValueTree, numeric, logical, state, elements, lost, EndTree, element, cut}
use Rattle.wf_ast.specs.TypedTree as typed
use Rattle.wf_ast.specs.TypedTrees.{operator_kind, num_in, cond_in, slice_in, named, num_type, chain_of, answer_of}
use Rattle.wf_named.specs.declared.nodes.NamedCallee.TheVariants as callees
use Rattle.wf_named.specs.declared.nodes.NamedPath.{NamedPath}
use Rattle.wf_named.specs.declared.nodes.Variable.{Variable}
use Rattle.wf_named.specs.declared.nodes.Variable.TheVariants as variables
use Rattle.wf_named.specs.NamedTree.{NamedExprTree, number, status, truth, path, index, slice, answer, chain, convert, negation, NamedPartTree, absent, present, NamedLinkTrees, no_link, link, NamedArgTrees, no_arg, more_args, NamedCallTree, call}
use Rattle.wf_types_rules.specs.declared.meanings.Meaning.{Meaning}
use Rattle.wf_types_rules.specs.declared.meanings.Meaning.TheVariants as meanings
use Rattle.wf_types_rules.specs.declared.settings.Setting.{Setting}
use Rattle.wf_types_rules.specs.Meanings.{all_of, variable}
use Rattle.wf_types_rules.specs.ExprTypes.{meaning, number_of}

-- The path to a variable. A constant, which always stands as its number, has none.
abbrev pub path_to : Variable → typed.Path
path_to (variables.Local x) = typed.local x.0
path_to (variables.Field x) = typed.field x.0
path_to (variables.Arg x) = typed.arg x.0
path_to (variables.Const c) = typed.local 0

-- A variable stands by its type, and a constant as its number.
abbrev pub variable_tree : Place → Variable → Option Meaning → ValueTree
variable_tree at x None = lost
variable_tree at x (Some (meanings.Typed ty)) = named at ty (path_to x)
variable_tree at x (Some (meanings.Constant width value)) = numeric (typed.number at value)

abbrev pub path_tree : Setting → NamedPath → ValueTree
path_tree s p = variable_tree p.at p.of (variable s p.of)

-- The type of an expression. A constant has all numbers of its width, and 64 bits where it has none.
abbrev pub type_meant : Option Meaning → Ty
type_meant None = types.Flag
type_meant (Some (meanings.Typed ty)) = ty
type_meant (Some (meanings.Constant (Some width) value)) = all_of width
type_meant (Some (meanings.Constant None value)) = all_of W64

abbrev pub type_of : Setting → NamedExprTree → Ty
type_of s e = type_meant (meaning s e)

-- A constant expression stands as its number, whatever it is made of.
abbrev pub number_or : Place → Option ℕ → ValueTree → ValueTree
number_or at None tree = tree
number_or at (Some value) tree = numeric (typed.number at value)

-- The places of a chain's signs, in order.
abbrev pub signs_in : NamedLinkTrees → List Place
signs_in no_link = []
signs_in (link sign e others) = sign ∷ signs_in others

-- Inside an expression only a base method answers, which has no arguments there.
abbrev pub answer_tree : Setting → NamedCallTree → ValueTree
answer_tree s (call (callees.Base on sig) at mark args) = answer_of at sig (path_tree s on)
answer_tree s (call callee at mark args) = lost

abbrev mutual
  pub expr_tree : Setting → NamedExprTree → ValueTree
  expr_tree s (number value at) = numeric (typed.number at value)
  expr_tree s (status n at) = state (typed.status at n)
  expr_tree s (truth value at) = logical (typed.truth at value)
  expr_tree s (path p) = path_tree s p
  expr_tree s (index p i at) = numeric (element at (num_type (type_of s (index p i at))) (slice_in (path_tree s p)) (num_in (expr_tree s i)))
  expr_tree s (slice p from to at) = elements (cut at (slice_in (path_tree s p)) (end_tree s from) (end_tree s to))
  expr_tree s (answer c) = answer_tree s c
  expr_tree s (chain op first links at) =
      number_or at (number_of s (chain op first links at))
      (chain_of at (signs_in links) (type_of s (chain op first links at)) (operator_kind op) (expr_tree s first ∷ link_trees s links))
  expr_tree s (convert e t at) =
      number_or at (number_of s (convert e t at)) (numeric (typed.convert at at (num_type (type_of s (convert e t at))).bits (num_in (expr_tree s e))))
  expr_tree s (negation e at) = logical (typed.negation at (cond_in (expr_tree s e)))

  pub end_tree : Setting → NamedPartTree → EndTree
  end_tree s absent = typed.absent
  end_tree s (present e) = typed.present (num_in (expr_tree s e))

  -- The operands of a chain after its first, in order.
  pub link_trees : Setting → NamedLinkTrees → List ValueTree
  link_trees s no_link = []
  link_trees s (link sign e others) = expr_tree s e ∷ link_trees s others

-- The arguments of a call, in declared order. A reader or writer is handed on by its path.
abbrev pub arg_trees : Setting → NamedArgTrees → List ValueTree
arg_trees s no_arg = []
arg_trees s (more_args e others) = expr_tree s e ∷ arg_trees s others
