-- The names that an expression uses, where `before` are the items before its function, and `names` the parameters and locals
-- that it knows (ISO/IEC 9899:1999, 6.2.1, 6.5.1, 6.5.2.2).
use Rattle.std.specs.Prelude.{◌≡◌, ◌⊎◌, ℕ, ⊤, List, [], map, Some}
use Rattle.c_text.specs.declared.kinds.Linkage.TheVariants.{StaticInline}
use Rattle.c_text.specs.CTree.{TypeTree, ExprTree, number, variable, member, element, pointed, operation, unary, cast, choice, called, Operands, no_operand, operand, Args, no_arg, expr_arg, sizeof_arg, finish, leave, ParamTree, ItemTree, text_item, function_item}
use Rattle.c_meaning.specs.CTypes.{CScope, scope_of, Held, held_of}
use Rattle.c_form_laws.specs.Places.{Has, Each}
use Rattle.c_form_laws.specs.TypeRules.{IsNumeric}
use Rattle.c_form_laws.specs.StatementRules.{HasType}

-- A parameter, a local, or a string that was declared before.
abbrev pub IsVariable : (before : List ItemTree) → (names : List ParamTree) → List ℕ → Type 0
IsVariable before names name = Has (map (λ it. it.name) names) name ⊎ ((bytes : List ℕ) × Has before (text_item name bytes))

-- A function that was declared before and that an expression may call: `static inline`, of numbers alone, without locals, and
-- one `return`.
abbrev pub IsInlined : (before : List ItemTree) → List ℕ → Type 0
IsInlined before name =
    (result : TypeTree) × (params : List ParamTree) × (value : ExprTree) × Has before (function_item StaticInline (Some result) name params [] (leave (Some value) finish)) × IsNumeric result × Each (λ i p. IsNumeric p.kind) params

abbrev mutual
  -- Each name in the expression is a parameter, a local or a string, and each function that it calls stands before.
  pub AreDeclared : (before : List ItemTree) → (names : List ParamTree) → ExprTree → Type 0
  AreDeclared before names (number n) = ⊤
  AreDeclared before names (variable name) = IsVariable before names name
  AreDeclared before names (member pointer field) = AreDeclared before names pointer
  AreDeclared before names (element pointer index) = AreDeclared before names pointer × AreDeclared before names index
  AreDeclared before names (pointed pointer) = AreDeclared before names pointer
  AreDeclared before names (operation op first second others) = AreDeclared before names first × AreDeclared before names second × OperandsDeclared before names others
  AreDeclared before names (unary op of) = AreDeclared before names of
  AreDeclared before names (cast to of) = AreDeclared before names of
  AreDeclared before names (choice test met unmet) = AreDeclared before names test × AreDeclared before names met × AreDeclared before names unmet
  AreDeclared before names (called function given) = IsInlined before function × ArgsDeclared before names given

  pub OperandsDeclared : (before : List ItemTree) → (names : List ParamTree) → Operands → Type 0
  OperandsDeclared before names no_operand = ⊤
  OperandsDeclared before names (operand e others) = AreDeclared before names e × OperandsDeclared before names others

  -- `sizeof` is no argument inside an expression.
  pub ArgsDeclared : (before : List ItemTree) → (names : List ParamTree) → Args → Type 0
  ArgsDeclared before names no_arg = ⊤
  ArgsDeclared before names (expr_arg e others) = AreDeclared before names e × ArgsDeclared before names others
  ArgsDeclared before names (sizeof_arg name others) = ⊥

-- The expression stands for something that holds values (6.3.2.1p1).
abbrev pub IsLvalue : CScope → ExprTree → Type 0
IsLvalue scope e = (h : Held) × (held_of scope e ≡ Some h)

abbrev pub NamesAreDeclared : Type 0
NamesAreDeclared =
    (before : List ItemTree) (names : List ParamTree) (e : ExprTree) → HasType (scope_of before names) e ⊎ IsLvalue (scope_of before names) e → AreDeclared before names e
