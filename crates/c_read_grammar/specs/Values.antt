-- The values that the machine has read, the latest one first, and what is done with them. Where they have another
-- shape than an action asks for, nothing is left of them.
use Rattle.std.specs.Prelude.{ℕ, Bool, true, false, not, ◌&&◌, List, [], ◌∷◌, ◌++◌, Option, None, Some, if◌then◌else◌}
use Rattle.c_text.specs.declared.kinds.CNumber.{CNumber}
use Rattle.c_text.specs.declared.kinds.COp.{COp}
use Rattle.c_text.specs.declared.kinds.Linkage.{Linkage}
use Rattle.c_text.specs.declared.kinds.Otherwise.{Otherwise}
use Rattle.c_text.specs.declared.kinds.Otherwise.TheVariants as else_is
use Rattle.c_text.specs.CSpelling.{CToken, keyword, named, literal, quoted, operator, marked}
use Rattle.c_text.specs.CGrammar.{repeats, is_literal, is_lvalue, is_finish}
use Rattle.c_text.specs.CTree.{TypeTree, uint, size, boolean, uint_pointer, struct_pointer, text, ExprTree, number, variable, member, element, pointed, operation, unary, cast, choice, called, Operands, no_operand, operand, Args, no_arg, expr_arg, sizeof_arg, Code, finish, nested, empty, assign, call, jump, branch, repeat, select, leave, case_label, default_label, name_label, plain, inside, FieldTree, ParamTree, LocalTree, ItemTree, struct_item, text_item, function_item}
use Rattle.c_read_grammar.specs.declared.actions.Action.{Action}
use Rattle.c_read_grammar.specs.declared.actions.Action.TheVariants as acts
use Rattle.c_read_grammar.specs.declared.actions.ExprAction.{ExprAction}
use Rattle.c_read_grammar.specs.declared.actions.ExprAction.TheVariants.{MakeVariable, MakeVariableBelow, MakeNumber, MakeMember, MakeElement, MakePointed, StartOperation, AddOperand, MakeOperation, MakeUnary, MakeCast, MakeChoice, MakeCalled, StartArgs, AddArg, AddSizeof}
use Rattle.c_read_grammar.specs.declared.actions.TypeAction.{TypeAction}
use Rattle.c_read_grammar.specs.declared.actions.TypeAction.TheVariants.{MakeUint, MakeUintPointer, MakeSize, MakeBool, MakeStructPointer, MakeText}
use Rattle.c_read_grammar.specs.declared.actions.StmtAction.{StmtAction}
use Rattle.c_read_grammar.specs.declared.actions.StmtAction.TheVariants.{StartBlock, EndBlock, MakeNested, MakeEmpty, MakeAssign, MakeCall, MakeCallInto, MakeGoto, AddArm, MakeIf, MakeWhile, MakeSwitch, MakeReturn, MakeReturnValue, MakeCase, MakeDefault, MakeLabel}
use Rattle.c_read_grammar.specs.declared.actions.ItemAction.{ItemAction}
use Rattle.c_read_grammar.specs.declared.actions.ItemAction.TheVariants.{StartFields, MakeField, MakeStructField, SetCount, AddField, MakeStruct, MakeTextItem, MakeResult, MakeVoid, StartParams, AddParam, StartLocals, AddLocal, AddInitialLocal, MakeFunction}

pub data Val : Type 0 where
  -- what a token holds
  a_name : (name : List ℕ) → Val
  a_number : CNumber → Val
  a_string : (bytes : List ℕ) → Val
  -- expressions
  an_expr : ExprTree → Val
  an_operation : (first second : ExprTree) → (others : Operands) → Val
  some_args : Args → Val
  a_type : TypeTree → Val
  -- statements: a block begins, a whole block, one statement with nothing after it, an arm of an `if`
  a_block : Val
  a_code : Code → Val
  a_statement : Code → Val
  an_arm : (test : ExprTree) → (body : Code) → Val
  -- items
  a_field : FieldTree → Val
  some_fields : List FieldTree → Val
  a_result : Linkage → Option TypeTree → Val
  some_params : List ParamTree → Val
  some_locals : List LocalTree → Val
  a_unit : List ItemTree → Val

-- A token that is read is kept where it holds something.
abbrev pub kept : CToken → List Val → List Val
kept (named n) vs = a_name n ∷ vs
kept (literal n) vs = a_number n ∷ vs
kept (quoted bytes) vs = a_string bytes ∷ vs
kept (keyword w) vs = vs
kept (operator o) vs = vs
kept (marked m) vs = vs

-- operands, and others after them
abbrev pub operands_then : Operands → Operands → Operands
operands_then no_operand more = more
operands_then (operand e others) more = operand e (operands_then others more)

-- arguments, and others after them
abbrev pub args_then : Args → Args → Args
args_then no_arg more = more
args_then (expr_arg e others) more = expr_arg e (args_then others more)
args_then (sizeof_arg name others) more = sizeof_arg name (args_then others more)

-- A value, where the condition holds.
abbrev pub kept_if : Bool → Val → List Val → List Val
kept_if true v vs = v ∷ vs
kept_if false v vs = []

-- Several operands, where the operator repeats.
abbrev pub may_repeat : COp → Operands → Bool
may_repeat o no_operand = true
may_repeat o (operand e others) = repeats o

abbrev pub perform_expr : ExprAction → List Val → List Val
perform_expr MakeVariable (a_name n ∷ vs) = an_expr (variable n) ∷ vs
perform_expr MakeVariableBelow (v ∷ a_name n ∷ vs) = v ∷ an_expr (variable n) ∷ vs
perform_expr MakeNumber (a_number n ∷ vs) = an_expr (number n) ∷ vs
perform_expr MakeMember (a_name f ∷ an_expr p ∷ vs) = kept_if (not (is_literal p)) (an_expr (member p f)) vs
perform_expr MakeElement (an_expr i ∷ an_expr p ∷ vs) = kept_if (not (is_literal p)) (an_expr (element p i)) vs
perform_expr MakePointed (an_expr p ∷ vs) = kept_if (not (is_literal p)) (an_expr (pointed p)) vs
perform_expr StartOperation (an_expr b ∷ an_expr a ∷ vs) = an_operation a b no_operand ∷ vs
perform_expr AddOperand (an_expr e ∷ an_operation a b others ∷ vs) = an_operation a b (operands_then others (operand e no_operand)) ∷ vs
perform_expr (MakeOperation o) (an_operation a b others ∷ vs) = kept_if (may_repeat o others) (an_expr (operation o a b others)) vs
perform_expr (MakeUnary o) (an_expr e ∷ vs) = an_expr (unary o e) ∷ vs
perform_expr MakeCast (an_expr e ∷ a_type t ∷ vs) = an_expr (cast t e) ∷ vs
perform_expr MakeChoice (an_expr c ∷ an_expr b ∷ an_expr a ∷ vs) = an_expr (choice a b c) ∷ vs
perform_expr MakeCalled (some_args given ∷ a_name f ∷ vs) = an_expr (called f given) ∷ vs
perform_expr StartArgs vs = some_args no_arg ∷ vs
perform_expr AddArg (an_expr e ∷ some_args given ∷ vs) = some_args (args_then given (expr_arg e no_arg)) ∷ vs
perform_expr AddSizeof (a_name n ∷ some_args given ∷ vs) = some_args (args_then given (sizeof_arg n no_arg)) ∷ vs
perform_expr _ vs = []

abbrev pub perform_type : TypeAction → List Val → List Val
perform_type (MakeUint u) vs = a_type (uint u) ∷ vs
perform_type MakeUintPointer (a_type (uint u) ∷ vs) = a_type (uint_pointer u) ∷ vs
perform_type MakeSize vs = a_type size ∷ vs
perform_type MakeBool vs = a_type boolean ∷ vs
perform_type MakeStructPointer (a_name n ∷ vs) = a_type (struct_pointer n) ∷ vs
perform_type MakeText vs = a_type text ∷ vs
perform_type _ vs = []

-- A statement, before a block.
abbrev pub in_front : Code → Code → Code
in_front finish rest = rest
in_front (nested inner _) rest = nested inner rest
in_front (empty _) rest = empty rest
in_front (assign target value _) rest = assign target value rest
in_front (call target function given _) rest = call target function given rest
in_front (jump label _) rest = jump label rest
in_front (branch test body otherwise other _) rest = branch test body otherwise other rest
in_front (repeat test body _) rest = repeat test body rest
in_front (select on body _) rest = select on body rest
in_front (leave value _) rest = leave value rest
in_front (case_label n _) rest = case_label n rest
in_front (default_label _) rest = default_label rest
in_front (name_label name _) rest = name_label name rest

-- whether a statement has to stand after this one
abbrev pub is_label : Code → Bool
is_label (case_label n _) = true
is_label (default_label _) = true
is_label (name_label name _) = true
is_label _ = false

-- A block of its statements, the last of which is met first. The block of a function began after its locals.
abbrev pub collect : Code → List Val → List Val
collect code [] = []
collect code (a_statement s ∷ vs) = if is_label s && is_finish code then [] else collect (in_front s code) vs
collect code (a_block ∷ vs) = a_code code ∷ vs
collect code (some_locals ls ∷ vs) = a_code code ∷ some_locals ls ∷ vs
collect code (_ ∷ vs) = []

-- An `if` of its arms, the last of which is met first; `later` is the `if` of the arms after it.
abbrev pub chain : (later : Code) → List Val → List Val
chain later [] = a_statement later ∷ []
chain later (an_arm test body ∷ vs) = chain (branch test body else_is.If later finish) vs
chain later (v ∷ vs) = a_statement later ∷ v ∷ vs

abbrev pub last_arm : Otherwise → (other : Code) → List Val → List Val
last_arm otherwise other (an_arm test body ∷ vs) = chain (branch test body otherwise other finish) vs
last_arm otherwise other _ = []

abbrev pub make_if : List Val → List Val
make_if (a_code other ∷ vs) = last_arm else_is.Block other vs
make_if vs = last_arm else_is.Nothing finish vs

abbrev pub perform_stmt : StmtAction → List Val → List Val
perform_stmt StartBlock vs = a_block ∷ vs
perform_stmt EndBlock vs = collect finish vs
perform_stmt MakeNested (a_code inner ∷ vs) = a_statement (nested inner finish) ∷ vs
perform_stmt MakeEmpty vs = a_statement (empty finish) ∷ vs
perform_stmt MakeAssign (an_expr value ∷ an_expr target ∷ vs) = kept_if (is_lvalue target) (a_statement (assign target value finish)) vs
perform_stmt MakeCall (some_args given ∷ a_name f ∷ vs) = a_statement (call None f given finish) ∷ vs
perform_stmt MakeCallInto (some_args given ∷ a_name f ∷ an_expr target ∷ vs) = kept_if (is_lvalue target) (a_statement (call (Some target) f given finish)) vs
perform_stmt MakeGoto (a_name label ∷ vs) = a_statement (jump label finish) ∷ vs
perform_stmt AddArm (a_code body ∷ an_expr test ∷ vs) = an_arm test body ∷ vs
perform_stmt MakeIf vs = make_if vs
perform_stmt MakeWhile (a_code body ∷ an_expr test ∷ vs) = a_statement (repeat test body finish) ∷ vs
perform_stmt MakeSwitch (a_code body ∷ an_expr on ∷ vs) = a_statement (select on body finish) ∷ vs
perform_stmt MakeReturn vs = a_statement (leave None finish) ∷ vs
perform_stmt MakeReturnValue (an_expr value ∷ vs) = a_statement (leave (Some value) finish) ∷ vs
perform_stmt MakeCase (a_number n ∷ vs) = a_statement (case_label n finish) ∷ vs
perform_stmt MakeDefault vs = a_statement (default_label finish) ∷ vs
perform_stmt MakeLabel (a_name label ∷ vs) = a_statement (name_label label finish) ∷ vs
perform_stmt _ vs = []

-- A struct has a field.
abbrev pub make_struct : (name : List ℕ) → List FieldTree → List ItemTree → List Val → List Val
make_struct name [] items vs = []
make_struct name (f ∷ fs) items vs = a_unit (items ++ struct_item (f ∷ fs) name ∷ []) ∷ vs

abbrev pub perform_item : ItemAction → List Val → List Val
perform_item StartFields vs = some_fields [] ∷ vs
perform_item MakeField (a_name n ∷ a_type t ∷ vs) = a_field (record { kind = plain t; name = n; count = None }) ∷ vs
perform_item MakeStructField (a_name n ∷ a_name s ∷ vs) = a_field (record { kind = inside s; name = n; count = None }) ∷ vs
perform_item SetCount (a_number n ∷ a_field f ∷ vs) = a_field (record f { count = Some n }) ∷ vs
perform_item AddField (a_field f ∷ some_fields fs ∷ vs) = some_fields (fs ++ f ∷ []) ∷ vs
perform_item MakeStruct (a_name n ∷ some_fields fs ∷ a_unit items ∷ vs) = make_struct n fs items vs
perform_item MakeTextItem (a_string bytes ∷ a_name n ∷ a_unit items ∷ vs) = a_unit (items ++ text_item n bytes ∷ []) ∷ vs
perform_item (MakeResult linkage) (a_type t ∷ vs) = a_result linkage (Some t) ∷ vs
perform_item (MakeVoid linkage) vs = a_result linkage None ∷ vs
perform_item StartParams vs = some_params [] ∷ vs
perform_item AddParam (a_name n ∷ a_type t ∷ some_params ps ∷ vs) = some_params (ps ++ record { kind = t; name = n } ∷ []) ∷ vs
perform_item StartLocals vs = some_locals [] ∷ vs
perform_item AddLocal (a_name n ∷ a_type t ∷ some_locals ls ∷ vs) = some_locals (ls ++ record { kind = t; name = n; initial = None } ∷ []) ∷ vs
perform_item AddInitialLocal (an_expr e ∷ a_name n ∷ a_type t ∷ some_locals ls ∷ vs) = some_locals (ls ++ record { kind = t; name = n; initial = Some e } ∷ []) ∷ vs
perform_item MakeFunction (a_code body ∷ some_locals ls ∷ some_params ps ∷ a_name n ∷ a_result linkage result_type ∷ a_unit items ∷ vs) = a_unit (items ++ function_item linkage result_type n ps ls body ∷ []) ∷ vs
perform_item _ vs = []

abbrev pub perform : Action → List Val → List Val
perform (acts.Expr a) vs = perform_expr a vs
perform (acts.Type a) vs = perform_type a vs
perform (acts.Stmt a) vs = perform_stmt a vs
perform (acts.Item a) vs = perform_item a vs
