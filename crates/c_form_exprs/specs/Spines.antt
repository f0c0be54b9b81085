-- The links of `a->b[i]->c`: from an expression to the part that stands before it.
use Rattle.std.specs.Prelude.{◌≡◌, ◌<◌, Bool, false, List, [], ◌∷◌, Option, Some, None}
use Rattle.std.specs.Option.{option_and_then}
use Rattle.c_text.specs.declared.kinds.COp.{COp}
use Rattle.c_text.specs.declared.ids.CExprId.{CExprId}
use Rattle.c_text.specs.declared.nodes.CArg.{CArg}
use Rattle.c_text.specs.declared.nodes.CArg.TheVariants as arg
use Rattle.c_text.specs.CTree.{ExprTree, number, variable, member, element, pointed, operation, unary, cast, choice, called, ParamTree}
use Rattle.c_text.specs.CNodes.{Nodes, expr_of}
use Rattle.c_meaning.specs.CTypes as by_name
use Rattle.c_meaning.specs.CTypes.{CScope, type_of, assignable}
use Rattle.c_form_exprs.specs.declared.types.ExprType.{ExprType}
use Rattle.c_form_exprs.specs.TypeViews.{TellsType}

-- The part that stands before `->` or `[`.
abbrev pub link_of : ExprTree → Option ExprTree
link_of (member of field) = Some of
link_of (element of index) = Some of
link_of (number n) = None
link_of (variable name) = None
link_of (pointed of) = None
link_of (operation op first second others) = None
link_of (unary op of) = None
link_of (cast to of) = None
link_of (choice test met unmet) = None
link_of (called function given) = None

-- This part stands before that expression.
pub record IsLink (nodes : Nodes) (e of : CExprId) : Type 0 where
  pub below : of.0 < e.0
  pub is : link_of (expr_of nodes e.0) ≡ Some (expr_of nodes of.0)

-- The links from an expression down to another one, that one apart.
abbrev pub Spine : Nodes → CExprId → List CExprId → CExprId → Type 0
Spine nodes e [] base = base ≡ e
Spine nodes e (x ∷ xs) base = (x ≡ e) × ((of : CExprId) × IsLink nodes x of × Spine nodes of xs base)

-- The links that are left, and the type of what they lead to.
pub record Climbs (nodes : Nodes) (scope : CScope) (e : CExprId) (links : List CExprId) (found : Option ExprType) : Type 0 where
  pub at : CExprId
  pub spine : Spine nodes e links at
  pub told : TellsType nodes found (type_of scope (expr_of nodes at.0))

-- An argument fits a parameter.
abbrev pub fits_type : ParamTree → Option by_name.ExprType → Bool
fits_type param None = false
fits_type param (Some type) = assignable param.kind type

-- The type of an argument.
abbrev pub arg_type : Nodes → CScope → CArg → Option by_name.ExprType
arg_type nodes scope (arg.Expr e) = type_of scope (expr_of nodes e.0)
arg_type nodes scope (arg.SizeOf n) = None

-- The type of `a op b`, where both have one.
abbrev pub joined : COp → Option by_name.ExprType → Option by_name.ExprType → Option by_name.ExprType
joined op a b = option_and_then (λ left. option_and_then (by_name.operation_type op left) b) a
