-- The grammar of the C subset: the tokens of a tree, one case for each alternative, and the conditions that an
-- alternative has beside its tokens. `rest` are the tokens after them.
use Rattle.std.specs.Prelude.{◌≡◌, ◌<◌, ℕ, length, Bool, true, false, List, [], ◌∷◌, ◌++◌, Option, Some, None, ⊤, IsTrue, IfSome}
use Rattle.c_text.specs.declared.kinds.COp.{COp}
use Rattle.c_text.specs.declared.kinds.COp.TheVariants.{Add, Mul, BitAnd, BitOr, BitXor, Both, Either}
use Rattle.c_text.specs.declared.kinds.CUint.{CUint}
use Rattle.c_text.specs.declared.kinds.CUint.TheVariants.{U8, U16, U32, U64}
use Rattle.c_text.specs.declared.kinds.CUnary.{CUnary}
use Rattle.c_text.specs.declared.kinds.CUnary.TheVariants as unary_op
use Rattle.c_text.specs.declared.kinds.CNumber.{CNumber}
use Rattle.c_text.specs.declared.kinds.Linkage.{Linkage}
use Rattle.c_text.specs.declared.kinds.Linkage.TheVariants.{External, Static, StaticInline}
use Rattle.c_text.specs.declared.kinds.Otherwise.{Otherwise}
use Rattle.c_text.specs.declared.kinds.Otherwise.TheVariants as else_is
use Rattle.c_text.specs.declared.tokens.CWord.TheVariants as word
use Rattle.c_text.specs.declared.tokens.CMark.TheVariants as mark
use Rattle.c_text.specs.CSpelling.{CToken, keyword, named, literal, quoted, operator, marked, IsLiteral, is_name, is_string, Spells, includes}
use Rattle.c_text.specs.CTree.{TypeTree, uint, size, boolean, uint_pointer, struct_pointer, text, ExprTree, number, variable, member, element, pointed, operation, unary, cast, choice, called, Operands, no_operand, operand, Args, no_arg, expr_arg, sizeof_arg, Code, finish, nested, empty, assign, call, jump, branch, repeat, select, leave, case_label, default_label, name_label, FieldKind, plain, inside, FieldTree, ParamTree, LocalTree, ItemTree, struct_item, text_item, function_item}

abbrev pub uint_token : CUint → CToken
uint_token U8 = keyword word.Uint8
uint_token U16 = keyword word.Uint16
uint_token U32 = keyword word.Uint32
uint_token U64 = keyword word.Uint64

abbrev pub type_tokens : TypeTree → List CToken → List CToken
type_tokens (uint u) rest = uint_token u ∷ rest
type_tokens size rest = keyword word.SizeT ∷ rest
type_tokens boolean rest = keyword word.Bool ∷ rest
type_tokens (uint_pointer u) rest = uint_token u ∷ operator Mul ∷ rest
type_tokens (struct_pointer name) rest = named name ∷ operator Mul ∷ rest
type_tokens text rest = keyword word.Const ∷ keyword word.Char ∷ operator Mul ∷ rest

abbrev pub unary_token : CUnary → CToken
unary_token unary_op.Not = marked mark.Not
unary_token unary_op.Complement = marked mark.Complement
unary_token unary_op.Address = operator BitAnd

abbrev mutual
  pub expr_tokens : ExprTree → List CToken → List CToken
  expr_tokens (number n) rest = literal n ∷ rest
  expr_tokens (variable name) rest = named name ∷ rest
  expr_tokens (member pointer field) rest = expr_tokens pointer (marked mark.Arrow ∷ named field ∷ rest)
  expr_tokens (element pointer index) rest = expr_tokens pointer (marked mark.OpenBracket ∷ expr_tokens index (marked mark.CloseBracket ∷ rest))
  expr_tokens (pointed pointer) rest = marked mark.OpenParen ∷ operator Mul ∷ expr_tokens pointer (marked mark.CloseParen ∷ rest)
  expr_tokens (operation op first second others) rest = marked mark.OpenParen ∷ expr_tokens first (operator op ∷ expr_tokens second (operands_tokens others op (marked mark.CloseParen ∷ rest)))
  expr_tokens (unary op of) rest = marked mark.OpenParen ∷ unary_token op ∷ expr_tokens of (marked mark.CloseParen ∷ rest)
  expr_tokens (cast to of) rest = marked mark.OpenParen ∷ marked mark.OpenParen ∷ type_tokens to (marked mark.CloseParen ∷ expr_tokens of (marked mark.CloseParen ∷ rest))
  expr_tokens (choice test met unmet) rest = marked mark.OpenParen ∷ expr_tokens test (marked mark.Question ∷ expr_tokens met (marked mark.Colon ∷ expr_tokens unmet (marked mark.CloseParen ∷ rest)))
  expr_tokens (called function given) rest = marked mark.OpenParen ∷ named function ∷ marked mark.OpenParen ∷ args_tokens given (marked mark.CloseParen ∷ marked mark.CloseParen ∷ rest)

  pub operands_tokens : Operands → COp → List CToken → List CToken
  operands_tokens no_operand op rest = rest
  operands_tokens (operand e others) op rest = operator op ∷ expr_tokens e (operands_tokens others op rest)

  -- the first argument, and those after it, each after a comma
  pub args_tokens : Args → List CToken → List CToken
  args_tokens no_arg rest = rest
  args_tokens (expr_arg e others) rest = expr_tokens e (more_args_tokens others rest)
  args_tokens (sizeof_arg name others) rest = keyword word.Sizeof ∷ marked mark.OpenParen ∷ operator Mul ∷ named name ∷ marked mark.CloseParen ∷ more_args_tokens others rest

  pub more_args_tokens : Args → List CToken → List CToken
  more_args_tokens no_arg rest = rest
  more_args_tokens (expr_arg e others) rest = marked mark.Comma ∷ expr_tokens e (more_args_tokens others rest)
  more_args_tokens (sizeof_arg name others) rest = marked mark.Comma ∷ keyword word.Sizeof ∷ marked mark.OpenParen ∷ operator Mul ∷ named name ∷ marked mark.CloseParen ∷ more_args_tokens others rest

abbrev pub value_tokens : Option ExprTree → List CToken → List CToken
value_tokens None rest = rest
value_tokens (Some e) rest = expr_tokens e rest

abbrev pub target_tokens : Option ExprTree → List CToken → List CToken
target_tokens None rest = rest
target_tokens (Some e) rest = expr_tokens e (marked mark.Assign ∷ rest)

-- What stands after the block of an `if`; `inner` are the tokens of the `else`'s statements.
abbrev pub else_tokens : Otherwise → (inner : List CToken → List CToken) → List CToken → List CToken
else_tokens else_is.Nothing inner rest = rest
else_tokens else_is.Block inner rest = keyword word.Else ∷ marked mark.OpenBrace ∷ inner (marked mark.CloseBrace ∷ rest)
else_tokens else_is.If inner rest = keyword word.Else ∷ inner rest

abbrev pub code_tokens : Code → List CToken → List CToken
code_tokens finish rest = rest
code_tokens (nested inner behind) rest = marked mark.OpenBrace ∷ code_tokens inner (marked mark.CloseBrace ∷ code_tokens behind rest)
code_tokens (empty behind) rest = marked mark.Semicolon ∷ code_tokens behind rest
code_tokens (assign target value behind) rest = expr_tokens target (marked mark.Assign ∷ expr_tokens value (marked mark.Semicolon ∷ code_tokens behind rest))
code_tokens (call target function given behind) rest = target_tokens target (named function ∷ marked mark.OpenParen ∷ args_tokens given (marked mark.CloseParen ∷ marked mark.Semicolon ∷ code_tokens behind rest))
code_tokens (jump label behind) rest = keyword word.Goto ∷ named label ∷ marked mark.Semicolon ∷ code_tokens behind rest
code_tokens (branch test body otherwise other behind) rest = keyword word.If ∷ marked mark.OpenParen ∷ expr_tokens test (marked mark.CloseParen ∷ marked mark.OpenBrace ∷ code_tokens body (marked mark.CloseBrace ∷ else_tokens otherwise (code_tokens other) (code_tokens behind rest)))
code_tokens (repeat test body behind) rest = keyword word.While ∷ marked mark.OpenParen ∷ expr_tokens test (marked mark.CloseParen ∷ marked mark.OpenBrace ∷ code_tokens body (marked mark.CloseBrace ∷ code_tokens behind rest))
code_tokens (select on body behind) rest = keyword word.Switch ∷ marked mark.OpenParen ∷ expr_tokens on (marked mark.CloseParen ∷ marked mark.OpenBrace ∷ code_tokens body (marked mark.CloseBrace ∷ code_tokens behind rest))
code_tokens (leave value behind) rest = keyword word.Return ∷ value_tokens value (marked mark.Semicolon ∷ code_tokens behind rest)
code_tokens (case_label n behind) rest = keyword word.Case ∷ literal n ∷ marked mark.Colon ∷ code_tokens behind rest
code_tokens (default_label behind) rest = keyword word.Default ∷ marked mark.Colon ∷ code_tokens behind rest
code_tokens (name_label name behind) rest = named name ∷ marked mark.Colon ∷ code_tokens behind rest

abbrev pub field_kind_tokens : FieldKind → List CToken → List CToken
field_kind_tokens (plain t) rest = type_tokens t rest
field_kind_tokens (inside name) rest = named name ∷ rest

abbrev pub count_tokens : Option CNumber → List CToken → List CToken
count_tokens None rest = rest
count_tokens (Some n) rest = marked mark.OpenBracket ∷ literal n ∷ marked mark.CloseBracket ∷ rest

abbrev pub fields_tokens : List FieldTree → List CToken → List CToken
fields_tokens [] rest = rest
fields_tokens (f ∷ fs) rest = field_kind_tokens f.kind (named f.name ∷ count_tokens f.count (marked mark.Semicolon ∷ fields_tokens fs rest))

abbrev pub param_tokens : ParamTree → List CToken → List CToken
param_tokens p rest = type_tokens p.kind (named p.name ∷ rest)

abbrev pub more_params_tokens : List ParamTree → List CToken → List CToken
more_params_tokens [] rest = rest
more_params_tokens (p ∷ ps) rest = marked mark.Comma ∷ param_tokens p (more_params_tokens ps rest)

abbrev pub params_tokens : List ParamTree → List CToken → List CToken
params_tokens [] rest = keyword word.Void ∷ rest
params_tokens (p ∷ ps) rest = param_tokens p (more_params_tokens ps rest)

abbrev pub initial_tokens : Option ExprTree → List CToken → List CToken
initial_tokens None rest = rest
initial_tokens (Some e) rest = marked mark.Assign ∷ expr_tokens e rest

abbrev pub locals_tokens : List LocalTree → List CToken → List CToken
locals_tokens [] rest = rest
locals_tokens (l ∷ ls) rest = type_tokens l.kind (named l.name ∷ initial_tokens l.initial (marked mark.Semicolon ∷ locals_tokens ls rest))

abbrev pub linkage_tokens : Linkage → List CToken → List CToken
linkage_tokens External rest = rest
linkage_tokens Static rest = keyword word.Static ∷ rest
linkage_tokens StaticInline rest = keyword word.Static ∷ keyword word.Inline ∷ rest

abbrev pub result_tokens : Option TypeTree → List CToken → List CToken
result_tokens None rest = keyword word.Void ∷ rest
result_tokens (Some t) rest = type_tokens t rest

abbrev pub item_tokens : ItemTree → List CToken → List CToken
item_tokens (struct_item fields name) rest = keyword word.Typedef ∷ keyword word.Struct ∷ marked mark.OpenBrace ∷ fields_tokens fields (marked mark.CloseBrace ∷ named name ∷ marked mark.Semicolon ∷ rest)
item_tokens (text_item name bytes) rest = keyword word.Static ∷ keyword word.Const ∷ keyword word.Char ∷ named name ∷ marked mark.OpenBracket ∷ marked mark.CloseBracket ∷ marked mark.Assign ∷ quoted bytes ∷ marked mark.Semicolon ∷ rest
item_tokens (function_item linkage result_type name params locals body) rest = linkage_tokens linkage (result_tokens result_type (named name ∷ marked mark.OpenParen ∷ params_tokens params (marked mark.CloseParen ∷ marked mark.OpenBrace ∷ locals_tokens locals (code_tokens body (marked mark.CloseBrace ∷ rest)))))

abbrev pub unit_tokens : List ItemTree → List CToken
unit_tokens [] = []
unit_tokens (item ∷ items) = item_tokens item (unit_tokens items)

-- What an alternative asks beside its tokens: names and strings are spelt as such, literals fit their types, only
-- some operators repeat, what stands before `->` and `[` or after `*` is no literal, a target is an lvalue,
-- a label stands before a statement, and an `else` holds what its kind says.
abbrev pub IsName : List ℕ → Type 0
IsName name = IsTrue (is_name name)

abbrev pub IsType : TypeTree → Type 0
IsType (struct_pointer name) = IsName name
IsType _ = ⊤

abbrev pub repeats : COp → Bool
repeats Add = true
repeats Mul = true
repeats BitAnd = true
repeats BitOr = true
repeats BitXor = true
repeats Both = true
repeats Either = true
repeats _ = false

abbrev pub MayRepeat : COp → Operands → Type 0
MayRepeat op no_operand = ⊤
MayRepeat op (operand _ _) = IsTrue (repeats op)

abbrev pub is_literal : ExprTree → Bool
is_literal (number n) = true
is_literal _ = false

abbrev pub is_lvalue : ExprTree → Bool
is_lvalue (variable name) = true
is_lvalue (member pointer field) = true
is_lvalue (element pointer index) = true
is_lvalue (pointed pointer) = true
is_lvalue _ = false

abbrev mutual
  pub IsExpr : ExprTree → Type 0
  IsExpr (number n) = IsLiteral n
  IsExpr (variable name) = IsName name
  IsExpr (member pointer field) = (is_literal pointer ≡ false) × IsExpr pointer × IsName field
  IsExpr (element pointer index) = (is_literal pointer ≡ false) × IsExpr pointer × IsExpr index
  IsExpr (pointed pointer) = (is_literal pointer ≡ false) × IsExpr pointer
  IsExpr (operation op first second others) = IsExpr first × IsExpr second × IsOperands others × MayRepeat op others
  IsExpr (unary op of) = IsExpr of
  IsExpr (cast to of) = IsType to × IsExpr of
  IsExpr (choice test met unmet) = IsExpr test × IsExpr met × IsExpr unmet
  IsExpr (called function given) = IsName function × IsArgs given

  pub IsOperands : Operands → Type 0
  IsOperands no_operand = ⊤
  IsOperands (operand e others) = IsExpr e × IsOperands others

  pub IsArgs : Args → Type 0
  IsArgs no_arg = ⊤
  IsArgs (expr_arg e others) = IsExpr e × IsArgs others
  IsArgs (sizeof_arg name others) = IsName name × IsArgs others

abbrev pub IsTarget : ExprTree → Type 0
IsTarget e = (is_lvalue e ≡ true) × IsExpr e

abbrev pub is_finish : Code → Bool
is_finish finish = true
is_finish _ = false

abbrev pub FitsElse : Otherwise → Code → Type 0
FitsElse else_is.Nothing other = is_finish other ≡ true
FitsElse else_is.Block other = ⊤
FitsElse else_is.If (branch test body otherwise other rest) = is_finish rest ≡ true
FitsElse else_is.If _ = ⊥

abbrev pub IsCode : Code → Type 0
IsCode finish = ⊤
IsCode (nested inner rest) = IsCode inner × IsCode rest
IsCode (empty rest) = IsCode rest
IsCode (assign target value rest) = IsTarget target × IsExpr value × IsCode rest
IsCode (call target function given rest) = IfSome target IsTarget × IsName function × IsArgs given × IsCode rest
IsCode (jump label rest) = IsName label × IsCode rest
IsCode (branch test body otherwise other rest) = IsExpr test × IsCode body × FitsElse otherwise other × IsCode other × IsCode rest
IsCode (repeat test body rest) = IsExpr test × IsCode body × IsCode rest
IsCode (select on body rest) = IsExpr on × IsCode body × IsCode rest
IsCode (leave value rest) = IfSome value IsExpr × IsCode rest
IsCode (case_label n rest) = IsLiteral n × (is_finish rest ≡ false) × IsCode rest
IsCode (default_label rest) = (is_finish rest ≡ false) × IsCode rest
IsCode (name_label name rest) = IsName name × (is_finish rest ≡ false) × IsCode rest

abbrev pub IsFieldKind : FieldKind → Type 0
IsFieldKind (plain t) = IsType t
IsFieldKind (inside name) = IsName name

abbrev pub AreFields : List FieldTree → Type 0
AreFields [] = ⊤
AreFields (f ∷ fs) = IsFieldKind f.kind × IsName f.name × IfSome f.count IsLiteral × AreFields fs

abbrev pub AreParams : List ParamTree → Type 0
AreParams [] = ⊤
AreParams (p ∷ ps) = IsType p.kind × IsName p.name × AreParams ps

abbrev pub AreLocals : List LocalTree → Type 0
AreLocals [] = ⊤
AreLocals (l ∷ ls) = IsType l.kind × IsName l.name × IfSome l.initial IsExpr × AreLocals ls

abbrev pub IsItem : ItemTree → Type 0
IsItem (struct_item fields name) = (0 < length fields) × AreFields fields × IsName name
IsItem (text_item name bytes) = IsName name × IsTrue (is_string bytes)
IsItem (function_item linkage result_type name params locals body) = IfSome result_type IsType × IsName name × AreParams params × AreLocals locals × IsCode body

abbrev pub IsUnit : List ItemTree → Type 0
IsUnit [] = ⊤
IsUnit (item ∷ items) = IsItem item × IsUnit items

-- The bytes are a text of the tree.
pub record IsTextOf (bytes : List ℕ) (unit : List ItemTree) : Type 0 where
  pub lawful : IsUnit unit
  pub body : List ℕ
  pub begins : bytes ≡ includes ++ body
  pub spelt : Spells (unit_tokens unit) body
