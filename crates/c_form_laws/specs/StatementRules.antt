-- What each statement of a C function is to keep (ISO/IEC 9899:1999, 6.5.2.2, 6.8). The types of expressions are those of
-- `CTypes`.
use Rattle.std.specs.Prelude.{◌≡◌, ◌⊎◌, ◌<◌, ℕ, ⊤, Bool, true, false, List, [], ◌∷◌, length, Option, Some, None}
use Rattle.wf_num.specs.declared.c_arithmetic.CTy.{CTy}
use Rattle.c_text.specs.declared.kinds.CNumber.{CNumber}
use Rattle.c_text.specs.declared.kinds.CNumber.TheVariants as literal
use Rattle.c_text.specs.declared.kinds.Linkage.{Linkage}
use Rattle.c_text.specs.declared.kinds.Linkage.TheVariants.{Static}
use Rattle.c_text.specs.CTree.{TypeTree, ExprTree, variable, number, Args, no_arg, expr_arg, sizeof_arg, Code, finish, nested, empty, assign, call, jump, branch, repeat, select, leave, case_label, default_label, name_label, ParamTree}
use Rattle.c_meaning.specs.CTypes.{Function, CScope, function_named, cell, object, byte, Target, ExprType, points_to, one, value_type, as_number, type_of, held_of, arg_types}
use Rattle.c_meaning.specs.CStep.{Callee, memory_move, memory_set, own, callee_of}
use Rattle.c_meaning.specs.UnitForm.{Checked}
use Rattle.c_form_stmts.specs.Lines.{LineTree, line, lines_of}
use Rattle.c_form_laws.specs.Places.{At, Each}
use Rattle.c_form_laws.specs.TypeRules.{Fits}

-- The statements of a function's body and of the blocks in it, in the order of the text. Each has what follows it in its
-- block, and tells whether a `switch` stands round it.
abbrev pub statements : Code → List LineTree
statements body = lines_of true false body

-- A type that counts as a number (6.3.2.3p3).
abbrev pub IsNumber : ExprType → Type 0
IsNumber t = (n : CTy) × (as_number t ≡ Some n)

-- The expression has a type: its names are declared, and its operators fit their operands (6.5).
abbrev pub HasType : CScope → ExprTree → Type 0
HasType scope e = (t : ExprType) × (type_of scope e ≡ Some t)

-- The expression is a number (6.2.5p18).
abbrev pub HasNumber : CScope → ExprTree → Type 0
HasNumber scope e = (t : ExprType) × (type_of scope e ≡ Some t) × IsNumber t

-- The expression may go to a target of this type (6.5.16.1).
abbrev pub GoesTo : CScope → TypeTree → ExprTree → Type 0
GoesTo scope t e = (v : ExprType) × (type_of scope e ≡ Some v) × Fits t v

-- The lvalue is a cell of this type that may be assigned (6.5.16).
abbrev pub IsCell : CScope → ExprTree → TypeTree → Type 0
IsCell scope target t = held_of scope target ≡ Some (one t)

-- An assignment (6.5.16).
abbrev pub MayAssign : CScope → (target value : ExprTree) → Type 0
MayAssign scope target value = (t : TypeTree) × IsCell scope target t × GoesTo scope t value

-- A pointer that isn't to a struct.
abbrev pub IsToBytes : Target → Type 0
IsToBytes (cell t) = ⊤
IsToBytes byte = ⊤
IsToBytes (object name) = ⊥

-- `memmove` takes two pointers that aren't to structs, the first not to a string, and a number (7.21.2.2).
abbrev pub IsMove : List (Option ExprType) → Type 0
IsMove given = (t : TypeTree) × (from : Target) × (n : ExprType) × (given ≡ Some (points_to (cell t)) ∷ Some (points_to from) ∷ Some n ∷ []) × IsToBytes from × IsNumber n

-- `memset(p, 0, sizeof(*p))`, where `p` points to a struct (7.21.6.1).
abbrev pub IsSet : CScope → Args → Type 0
IsSet scope given =
    (p struct : List ℕ) × (given ≡ expr_arg (variable p) (expr_arg (number (literal.Int 0)) (sizeof_arg p no_arg))) × (type_of scope (variable p) ≡ Some (points_to (object struct)))

-- As many arguments as parameters, each of which may go to its parameter (6.5.2.2p2).
abbrev pub ArePassed : List ParamTree → List (Option ExprType) → Type 0
ArePassed params given = (length params ≡ length given) × Each (λ i p. (t : ExprType) × At given i (Some t) × Fits p.kind t) params

-- What a call answers goes to the target, where there is one (6.5.16).
abbrev pub MayKeep : CScope → (target : Option ExprTree) → (result : Option TypeTree) → Type 0
MayKeep scope None result = ⊤
MayKeep scope (Some target) None = ⊥
MayKeep scope (Some target) (Some result) = (t : TypeTree) × IsCell scope target t × Fits t (value_type result)

-- A call is of `memmove`, of `memset`, or of a function that was declared before (6.5.2.2).
abbrev pub MayCall : Callee → CScope → (target : Option ExprTree) → (name : List ℕ) → Args → Type 0
MayCall memory_move scope target name given = (target ≡ None) × IsMove (arg_types scope given)
MayCall memory_set scope target name given = (target ≡ None) × IsSet scope given
MayCall own scope target name given =
    (f : Function) × (function_named scope.functions name ≡ Some f) × ArePassed f.params (arg_types scope given) × MayKeep scope target f.result_type

-- Only a `static` function that isn't `inline` may loop.
abbrev pub MayLoop : Linkage → Type 0
MayLoop linkage = linkage ≡ Static

-- The statement with this number is the label.
abbrev pub IsLabel : List LineTree → (j : ℕ) → List ℕ → Type 0
IsLabel all j label = (switched : Bool) × (rest : Code) × At all j (line switched (name_label label rest))

-- No two statements are the same label (6.8.1p3).
abbrev pub LabelsDiffer : List LineTree → Type 0
LabelsDiffer all = (i j : ℕ) (label : List ℕ) → IsLabel all i label → IsLabel all j label → i ≡ j

-- A `goto` goes to a label of its function, which stands after it unless the function may loop (6.8.6.1p1).
abbrev pub MayJump : Linkage → (all : List LineTree) → (i : ℕ) → (label : List ℕ) → Type 0
MayJump linkage all i label = (j : ℕ) × IsLabel all j label × (MayLoop linkage ⊎ (i < j))

-- A plain number.
abbrev pub IsPlain : CNumber → Type 0
IsPlain n = (m : ℕ) × (n ≡ literal.Int m)

-- The statement with this number is a case, or a `default`.
abbrev pub IsCase : List LineTree → (j : ℕ) → CNumber → Type 0
IsCase all j n = (switched : Bool) × (rest : Code) × At all j (line switched (case_label n rest))

abbrev pub IsDefault : List LineTree → (j : ℕ) → Type 0
IsDefault all j = (switched : Bool) × (rest : Code) × At all j (line switched (default_label rest))

-- The statements of a `switch`: those of its block and of the blocks in it, but none of a `switch` inside it.
abbrev pub switched_statements : Code → List LineTree
switched_statements body = lines_of false true body

-- The cases of a `switch` are plain and differ, and there is at most one `default` (6.8.4.2p3).
pub record AreCases (all : List LineTree) : Type 0 where
  pub plain : (i : ℕ) (n : CNumber) → IsCase all i n → IsPlain n
  pub differ : (i j : ℕ) (n : CNumber) → IsCase all i n → IsCase all j n → i ≡ j
  pub default : (i j : ℕ) → IsDefault all i → IsDefault all j → i ≡ j

-- After `return` stands an expression, but none in a `void` function (6.8.6.4p1).
abbrev pub MayReturn : CScope → (value : Option ExprTree) → (result : Option TypeTree) → Type 0
MayReturn scope None None = ⊤
MayReturn scope (Some e) (Some t) = GoesTo scope t e
MayReturn scope value result = ⊥

-- The statement with the number `i` of all that the function has. Blocks, empty statements and labels ask nothing of their own
-- (6.8).
abbrev pub KeepsStatement : Checked → (all : List LineTree) → (i : ℕ) → (switched : Bool) → Code → Type 0
KeepsStatement c all i switched (assign target value rest) = MayAssign c.scope target value
KeepsStatement c all i switched (call target function given rest) = MayCall (callee_of function) c.scope target function given
KeepsStatement c all i switched (jump label rest) = MayJump c.linkage all i label
KeepsStatement c all i switched (branch test body otherwise other rest) = HasType c.scope test
KeepsStatement c all i switched (repeat test body rest) = MayLoop c.linkage × HasType c.scope test
KeepsStatement c all i switched (select on body rest) = HasNumber c.scope on × AreCases (switched_statements body)
KeepsStatement c all i switched (leave value rest) = MayReturn c.scope value c.result_type
KeepsStatement c all i switched (case_label n rest) = switched ≡ true
KeepsStatement c all i switched (default_label rest) = switched ≡ true
KeepsStatement c all i switched (name_label name rest) = ⊤
KeepsStatement c all i switched (nested body rest) = ⊤
KeepsStatement c all i switched (empty rest) = ⊤
KeepsStatement c all i switched finish = ⊤
