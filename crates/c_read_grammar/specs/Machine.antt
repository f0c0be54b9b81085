-- The machine of the C grammar: the stack of what is still wanted, and one table that says what the next token
-- does to its top. It reads the same lists of tokens as the grammar, one token at a time.
use Rattle.std.specs.Prelude.{ℕ, Bool, true, false, ◌&&◌, nat_eq, List, [], ◌∷◌, ◌++◌, if◌then◌else◌}
use Rattle.c_text.specs.declared.kinds.CUint.TheVariants.{U8, U16, U32, U64}
use Rattle.c_text.specs.declared.kinds.COp.{COp}
use Rattle.c_text.specs.declared.kinds.COp.TheVariants as op
use Rattle.c_text.specs.declared.kinds.CUnary.TheVariants as unary_op
use Rattle.c_text.specs.declared.kinds.Linkage.{Linkage}
use Rattle.c_text.specs.declared.kinds.Linkage.TheVariants.{External, Static, StaticInline}
use Rattle.c_text.specs.declared.tokens.CWord.{CWord}
use Rattle.c_text.specs.declared.tokens.CWord.TheVariants as word
use Rattle.c_text.specs.declared.tokens.CMark.{CMark}
use Rattle.c_text.specs.declared.tokens.CMark.TheVariants as mark
use Rattle.c_text.specs.CSpelling.{CToken, keyword, named, literal, quoted, operator, marked}
use Rattle.c_text.specs.CGrammar.{repeats}
use Rattle.c_read_grammar.specs.declared.symbols.Sym.{Sym}
use Rattle.c_read_grammar.specs.declared.symbols.Sym.TheVariants as syms
use Rattle.c_read_grammar.specs.declared.symbols.ExprSym.{ExprSym}
use Rattle.c_read_grammar.specs.declared.symbols.ExprSym.TheVariants.{Expr, Post, Tail, FirstTail, Paren, ParenName, ParenParen, ParenParenName, ParenParenStar, Operator, Operands, Args, Arg, MoreArgs}
use Rattle.c_read_grammar.specs.declared.symbols.StmtSym.{StmtSym}
use Rattle.c_read_grammar.specs.declared.symbols.StmtSym.TheVariants.{Stmts, Stmt, StmtName, StmtParen, Becomes, Value, ValueName, Returned, Else, ElseTail}
use Rattle.c_read_grammar.specs.declared.symbols.ItemSym.{ItemSym}
use Rattle.c_read_grammar.specs.declared.symbols.ItemSym.TheVariants.{Unit, StaticItem, Returns, ConstChar, Params, Param, MoreParams, Body, BodyName, LocalEnd, Field, FieldName, FieldEnd, MoreFields}
use Rattle.c_read_grammar.specs.declared.symbols.TokenSym.{TokenSym}
use Rattle.c_read_grammar.specs.declared.symbols.TokenSym.TheVariants.{Name, Number, Quoted, StructWord, CharWord, Star, MaybeStar, Mark}
use Rattle.c_read_grammar.specs.declared.actions.Want.{Want}
use Rattle.c_read_grammar.specs.declared.actions.Want.TheVariants.{Read, Perform}
use Rattle.c_read_grammar.specs.declared.actions.Action.TheVariants as acts
use Rattle.c_read_grammar.specs.declared.actions.ExprAction.{ExprAction}
use Rattle.c_read_grammar.specs.declared.actions.ExprAction.TheVariants.{MakeVariable, MakeVariableBelow, MakeNumber, MakeMember, MakeElement, MakePointed, StartOperation, AddOperand, MakeOperation, MakeUnary, MakeCast, MakeChoice, MakeCalled, StartArgs, AddArg, AddSizeof}
use Rattle.c_read_grammar.specs.declared.actions.TypeAction.{TypeAction}
use Rattle.c_read_grammar.specs.declared.actions.TypeAction.TheVariants.{MakeUint, MakeUintPointer, MakeSize, MakeBool, MakeStructPointer, MakeText}
use Rattle.c_read_grammar.specs.declared.actions.StmtAction.{StmtAction}
use Rattle.c_read_grammar.specs.declared.actions.StmtAction.TheVariants.{StartBlock, EndBlock, MakeNested, MakeEmpty, MakeAssign, MakeCall, MakeCallInto, MakeGoto, AddArm, MakeIf, MakeWhile, MakeSwitch, MakeReturn, MakeReturnValue, MakeCase, MakeDefault, MakeLabel}
use Rattle.c_read_grammar.specs.declared.actions.ItemAction.{ItemAction}
use Rattle.c_read_grammar.specs.declared.actions.ItemAction.TheVariants.{StartFields, MakeField, MakeStructField, SetCount, AddField, MakeStruct, MakeTextItem, MakeResult, MakeVoid, StartParams, AddParam, StartLocals, AddLocal, AddInitialLocal, MakeFunction}

-- What a token does to the top of the stack.
pub data Move : Type 0 where
  -- it is read, and in place of the top these are wanted
  Take : (wanted : List Want) → Move
  -- the top may be absent: the token is for what stands below
  Pass : Move
  -- no text goes on so
  Stop : Move

-- A move, where more is wanted after it.
abbrev pub followed : Move → List Want → Move
followed (Take xs) ys = Take (xs ++ ys)
followed Pass ys = Pass
followed Stop ys = Stop

-- A move after a name, which is a variable.
abbrev pub behind_variable : Move → Move
behind_variable (Take xs) = Take (Perform (acts.Expr MakeVariable) ∷ xs)
behind_variable Pass = Pass
behind_variable Stop = Stop

abbrev pub expr : ExprSym → Want
expr s = Read (syms.Expr s)

abbrev pub stmt : StmtSym → Want
stmt s = Read (syms.Stmt s)

abbrev pub item : ItemSym → Want
item s = Read (syms.Item s)

abbrev pub token : TokenSym → Want
token s = Read (syms.Token s)

abbrev pub do_expr : ExprAction → Want
do_expr a = Perform (acts.Expr a)

abbrev pub do_type : TypeAction → Want
do_type a = Perform (acts.Type a)

abbrev pub do_stmt : StmtAction → Want
do_stmt a = Perform (acts.Stmt a)

abbrev pub do_item : ItemAction → Want
do_item a = Perform (acts.Item a)

-- Sameness of operators and of marks.
abbrev pub op_number : COp → ℕ
op_number op.Add = 0
op_number op.Sub = 1
op_number op.Mul = 2
op_number op.Div = 3
op_number op.Rem = 4
op_number op.Shl = 5
op_number op.Shr = 6
op_number op.BitAnd = 7
op_number op.BitOr = 8
op_number op.BitXor = 9
op_number op.Lt = 10
op_number op.Le = 11
op_number op.Gt = 12
op_number op.Ge = 13
op_number op.Eq = 14
op_number op.Ne = 15
op_number op.Both = 16
op_number op.Either = 17

abbrev pub same_op : COp → COp → Bool
same_op a b = nat_eq (op_number a) (op_number b)

abbrev pub mark_number : CMark → ℕ
mark_number mark.OpenParen = 0
mark_number mark.CloseParen = 1
mark_number mark.OpenBracket = 2
mark_number mark.CloseBracket = 3
mark_number mark.OpenBrace = 4
mark_number mark.CloseBrace = 5
mark_number mark.Comma = 6
mark_number mark.Semicolon = 7
mark_number mark.Colon = 8
mark_number mark.Question = 9
mark_number mark.Assign = 10
mark_number mark.Arrow = 11
mark_number mark.Not = 12
mark_number mark.Complement = 13

abbrev pub same_mark : CMark → CMark → Bool
same_mark a b = nat_eq (mark_number a) (mark_number b)

-- Single tokens.
abbrev pub name_move : CToken → Move
name_move (named n) = Take []
name_move _ = Stop

abbrev pub number_move : CToken → Move
number_move (literal n) = Take []
number_move _ = Stop

abbrev pub quoted_move : CToken → Move
quoted_move (quoted bytes) = Take []
quoted_move _ = Stop

abbrev pub struct_move : CToken → Move
struct_move (keyword word.Struct) = Take []
struct_move _ = Stop

abbrev pub char_move : CToken → Move
char_move (keyword word.Char) = Take []
char_move _ = Stop

abbrev pub star_move : CToken → Move
star_move (operator op.Mul) = Take []
star_move _ = Stop

-- after a type of exact width
abbrev pub maybe_star_move : CToken → Move
maybe_star_move (operator op.Mul) = Take (do_type MakeUintPointer ∷ [])
maybe_star_move _ = Pass

abbrev pub mark_move : CMark → CToken → Move
mark_move m (marked n) = if same_mark m n then Take [] else Stop
mark_move m _ = Stop

abbrev pub token_move : TokenSym → CToken → Move
token_move Name t = name_move t
token_move Number t = number_move t
token_move Quoted t = quoted_move t
token_move StructWord t = struct_move t
token_move CharWord t = char_move t
token_move Star t = star_move t
token_move MaybeStar t = maybe_star_move t
token_move (Mark m) t = mark_move m t

-- Types: one that begins with a word, and any.
abbrev pub word_type_move : CWord → Move
word_type_move word.Uint8 = Take (do_type (MakeUint U8) ∷ token MaybeStar ∷ [])
word_type_move word.Uint16 = Take (do_type (MakeUint U16) ∷ token MaybeStar ∷ [])
word_type_move word.Uint32 = Take (do_type (MakeUint U32) ∷ token MaybeStar ∷ [])
word_type_move word.Uint64 = Take (do_type (MakeUint U64) ∷ token MaybeStar ∷ [])
word_type_move word.SizeT = Take (do_type MakeSize ∷ [])
word_type_move word.Bool = Take (do_type MakeBool ∷ [])
word_type_move word.Const = Take (token CharWord ∷ token Star ∷ do_type MakeText ∷ [])
word_type_move _ = Stop

abbrev pub type_move : CToken → Move
type_move (keyword w) = word_type_move w
type_move (named n) = Take (token Star ∷ do_type MakeStructPointer ∷ [])
type_move _ = Stop

-- Expressions.
abbrev pub post_move : CToken → Move
post_move (named n) = Take (do_expr MakeVariable ∷ expr Tail ∷ [])
post_move (marked mark.OpenParen) = Take (expr Paren ∷ expr Tail ∷ [])
post_move _ = Stop

abbrev pub expr_move : CToken → Move
expr_move (literal n) = Take (do_expr MakeNumber ∷ [])
expr_move t = post_move t

abbrev pub first_tail_move : CToken → Move
first_tail_move (marked mark.Arrow) = Take (token Name ∷ do_expr MakeMember ∷ expr Tail ∷ [])
first_tail_move (marked mark.OpenBracket) = Take (expr Expr ∷ token (Mark mark.CloseBracket) ∷ do_expr MakeElement ∷ expr Tail ∷ [])
first_tail_move _ = Stop

abbrev pub tail_move : CToken → Move
tail_move (marked mark.Arrow) = Take (token Name ∷ do_expr MakeMember ∷ expr Tail ∷ [])
tail_move (marked mark.OpenBracket) = Take (expr Expr ∷ token (Mark mark.CloseBracket) ∷ do_expr MakeElement ∷ expr Tail ∷ [])
tail_move _ = Pass

abbrev pub operator_move : CToken → Move
operator_move (operator o) = Take (expr Expr ∷ do_expr StartOperation ∷ expr (Operands o) ∷ [])
operator_move (marked mark.Question) = Take (expr Expr ∷ token (Mark mark.Colon) ∷ expr Expr ∷ token (Mark mark.CloseParen) ∷ do_expr MakeChoice ∷ [])
operator_move _ = Stop

abbrev pub operands_move : COp → CToken → Move
operands_move o (operator next) = if same_op o next && repeats o then Take (expr Expr ∷ do_expr AddOperand ∷ expr (Operands o) ∷ []) else Stop
operands_move o (marked mark.CloseParen) = Take (do_expr (MakeOperation o) ∷ [])
operands_move o _ = Stop

-- after `(`: an operator before its operand
abbrev pub paren_op_move : COp → Move
paren_op_move op.Mul = Take (expr Post ∷ token (Mark mark.CloseParen) ∷ do_expr MakePointed ∷ [])
paren_op_move op.BitAnd = Take (expr Expr ∷ token (Mark mark.CloseParen) ∷ do_expr (MakeUnary unary_op.Address) ∷ [])
paren_op_move _ = Stop

abbrev pub paren_mark_move : CMark → Move
paren_mark_move mark.Not = Take (expr Expr ∷ token (Mark mark.CloseParen) ∷ do_expr (MakeUnary unary_op.Not) ∷ [])
paren_mark_move mark.Complement = Take (expr Expr ∷ token (Mark mark.CloseParen) ∷ do_expr (MakeUnary unary_op.Complement) ∷ [])
paren_mark_move mark.OpenParen = Take (expr ParenParen ∷ [])
paren_mark_move _ = Stop

abbrev pub paren_move : CToken → Move
paren_move (operator o) = paren_op_move o
paren_move (marked m) = paren_mark_move m
paren_move (literal n) = Take (do_expr MakeNumber ∷ expr Operator ∷ [])
paren_move (named n) = Take (expr ParenName ∷ [])
paren_move _ = Stop

-- what may follow the first operand, a variable
abbrev pub variable_move : CToken → Move
variable_move (marked mark.Arrow) = followed (first_tail_move (marked mark.Arrow)) (expr Operator ∷ [])
variable_move (marked mark.OpenBracket) = followed (first_tail_move (marked mark.OpenBracket)) (expr Operator ∷ [])
variable_move t = operator_move t

abbrev pub paren_name_move : CToken → Move
paren_name_move (marked mark.OpenParen) = Take (do_expr StartArgs ∷ expr Args ∷ token (Mark mark.CloseParen) ∷ do_expr MakeCalled ∷ [])
paren_name_move t = behind_variable (variable_move t)

abbrev pub paren_paren_move : CToken → Move
paren_paren_move (keyword w) = followed (word_type_move w) (token (Mark mark.CloseParen) ∷ expr Expr ∷ token (Mark mark.CloseParen) ∷ do_expr MakeCast ∷ [])
paren_paren_move (named n) = Take (expr ParenParenName ∷ [])
paren_paren_move t = followed (paren_move t) (expr Tail ∷ expr Operator ∷ [])

abbrev pub paren_paren_name_move : CToken → Move
paren_paren_name_move (operator op.Mul) = Take (expr ParenParenStar ∷ [])
paren_paren_name_move t = followed (paren_name_move t) (expr Tail ∷ expr Operator ∷ [])

-- `( (` NAME `*` begins a cast where `)` follows, and else a product
abbrev pub product_rest : List Want
product_rest = do_expr StartOperation ∷ expr (Operands op.Mul) ∷ expr Tail ∷ expr Operator ∷ []

abbrev pub paren_paren_star_move : CToken → Move
paren_paren_star_move (marked mark.CloseParen) = Take (do_type MakeStructPointer ∷ expr Expr ∷ token (Mark mark.CloseParen) ∷ do_expr MakeCast ∷ [])
paren_paren_star_move (marked mark.OpenParen) = Take (do_expr MakeVariable ∷ expr Paren ∷ expr Tail ∷ product_rest)
paren_paren_star_move (literal n) = Take (do_expr MakeVariableBelow ∷ do_expr MakeNumber ∷ product_rest)
paren_paren_star_move (named n) = Take (do_expr MakeVariableBelow ∷ do_expr MakeVariable ∷ expr Tail ∷ product_rest)
paren_paren_star_move _ = Stop

-- Arguments.
abbrev pub arg_move : CToken → Move
arg_move (keyword word.Sizeof) = Take (token (Mark mark.OpenParen) ∷ token Star ∷ token Name ∷ token (Mark mark.CloseParen) ∷ do_expr AddSizeof ∷ [])
arg_move t = followed (expr_move t) (do_expr AddArg ∷ [])

abbrev pub args_move : CToken → Move
args_move (marked mark.CloseParen) = Take []
args_move t = followed (arg_move t) (expr MoreArgs ∷ [])

abbrev pub more_args_move : CToken → Move
more_args_move (marked mark.Comma) = Take (expr Arg ∷ expr MoreArgs ∷ [])
more_args_move (marked mark.CloseParen) = Take []
more_args_move _ = Stop

abbrev pub expr_sym_move : ExprSym → CToken → Move
expr_sym_move Expr t = expr_move t
expr_sym_move Post t = post_move t
expr_sym_move Tail t = tail_move t
expr_sym_move FirstTail t = first_tail_move t
expr_sym_move Paren t = paren_move t
expr_sym_move ParenName t = paren_name_move t
expr_sym_move ParenParen t = paren_paren_move t
expr_sym_move ParenParenName t = paren_paren_name_move t
expr_sym_move ParenParenStar t = paren_paren_star_move t
expr_sym_move Operator t = operator_move t
expr_sym_move (Operands o) t = operands_move o t
expr_sym_move Args t = args_move t
expr_sym_move Arg t = arg_move t
expr_sym_move MoreArgs t = more_args_move t

-- Statements.
abbrev pub block_wants : List Want
block_wants = token (Mark mark.OpenBrace) ∷ do_stmt StartBlock ∷ stmt Stmts ∷ []

abbrev pub test_wants : List Want
test_wants = token (Mark mark.OpenParen) ∷ expr Expr ∷ token (Mark mark.CloseParen) ∷ block_wants

abbrev pub word_stmt_move : CWord → Move
word_stmt_move word.Goto = Take (token Name ∷ token (Mark mark.Semicolon) ∷ do_stmt MakeGoto ∷ [])
word_stmt_move word.If = Take (test_wants ++ do_stmt AddArm ∷ stmt Else ∷ do_stmt MakeIf ∷ [])
word_stmt_move word.While = Take (test_wants ++ do_stmt MakeWhile ∷ [])
word_stmt_move word.Switch = Take (test_wants ++ do_stmt MakeSwitch ∷ [])
word_stmt_move word.Return = Take (stmt Returned ∷ [])
word_stmt_move word.Case = Take (token Number ∷ token (Mark mark.Colon) ∷ do_stmt MakeCase ∷ stmt Stmt ∷ [])
word_stmt_move word.Default = Take (token (Mark mark.Colon) ∷ do_stmt MakeDefault ∷ stmt Stmt ∷ [])
word_stmt_move _ = Stop

abbrev pub mark_stmt_move : CMark → Move
mark_stmt_move mark.OpenBrace = Take (do_stmt StartBlock ∷ stmt Stmts ∷ do_stmt MakeNested ∷ [])
mark_stmt_move mark.Semicolon = Take (do_stmt MakeEmpty ∷ [])
mark_stmt_move mark.OpenParen = Take (stmt StmtParen ∷ [])
mark_stmt_move _ = Stop

abbrev pub stmt_move : CToken → Move
stmt_move (keyword w) = word_stmt_move w
stmt_move (marked m) = mark_stmt_move m
stmt_move (named n) = Take (stmt StmtName ∷ [])
stmt_move _ = Stop

abbrev pub stmts_move : CToken → Move
stmts_move (marked mark.CloseBrace) = Take (do_stmt EndBlock ∷ [])
stmts_move t = followed (stmt_move t) (stmt Stmts ∷ [])

abbrev pub stmt_name_move : CToken → Move
stmt_name_move (marked mark.Colon) = Take (do_stmt MakeLabel ∷ stmt Stmt ∷ [])
stmt_name_move (marked mark.OpenParen) = Take (do_expr StartArgs ∷ expr Args ∷ token (Mark mark.Semicolon) ∷ do_stmt MakeCall ∷ [])
stmt_name_move (marked mark.Assign) = Take (do_expr MakeVariable ∷ stmt Value ∷ [])
stmt_name_move t = behind_variable (followed (first_tail_move t) (stmt Becomes ∷ []))

abbrev pub stmt_paren_move : CToken → Move
stmt_paren_move (operator op.Mul) = Take (expr Post ∷ token (Mark mark.CloseParen) ∷ do_expr MakePointed ∷ expr Tail ∷ stmt Becomes ∷ [])
stmt_paren_move t = followed (paren_move t) (expr FirstTail ∷ stmt Becomes ∷ [])

abbrev pub becomes_move : CToken → Move
becomes_move (marked mark.Assign) = Take (stmt Value ∷ [])
becomes_move _ = Stop

abbrev pub value_move : CToken → Move
value_move (named n) = Take (stmt ValueName ∷ [])
value_move t = followed (expr_move t) (token (Mark mark.Semicolon) ∷ do_stmt MakeAssign ∷ [])

abbrev pub value_name_move : CToken → Move
value_name_move (marked mark.OpenParen) = Take (do_expr StartArgs ∷ expr Args ∷ token (Mark mark.Semicolon) ∷ do_stmt MakeCallInto ∷ [])
value_name_move (marked mark.Semicolon) = Take (do_expr MakeVariable ∷ do_stmt MakeAssign ∷ [])
value_name_move t = behind_variable (followed (first_tail_move t) (token (Mark mark.Semicolon) ∷ do_stmt MakeAssign ∷ []))

abbrev pub returned_move : CToken → Move
returned_move (marked mark.Semicolon) = Take (do_stmt MakeReturn ∷ [])
returned_move t = followed (expr_move t) (token (Mark mark.Semicolon) ∷ do_stmt MakeReturnValue ∷ [])

abbrev pub else_move : CToken → Move
else_move (keyword word.Else) = Take (stmt ElseTail ∷ [])
else_move _ = Pass

abbrev pub else_tail_move : CToken → Move
else_tail_move (keyword word.If) = Take (test_wants ++ do_stmt AddArm ∷ stmt Else ∷ [])
else_tail_move (marked mark.OpenBrace) = Take (do_stmt StartBlock ∷ stmt Stmts ∷ [])
else_tail_move _ = Stop

abbrev pub stmt_sym_move : StmtSym → CToken → Move
stmt_sym_move Stmts t = stmts_move t
stmt_sym_move Stmt t = stmt_move t
stmt_sym_move StmtName t = stmt_name_move t
stmt_sym_move StmtParen t = stmt_paren_move t
stmt_sym_move Becomes t = becomes_move t
stmt_sym_move Value t = value_move t
stmt_sym_move ValueName t = value_name_move t
stmt_sym_move Returned t = returned_move t
stmt_sym_move Else t = else_move t
stmt_sym_move ElseTail t = else_tail_move t

-- Items.
abbrev pub function_wants : List Want
function_wants = token Name ∷ token (Mark mark.OpenParen) ∷ do_item StartParams ∷ item Params ∷ token (Mark mark.OpenBrace) ∷ do_item StartLocals ∷ item Body ∷ do_item MakeFunction ∷ []

abbrev pub returns_move : Linkage → CToken → Move
returns_move l (keyword word.Void) = Take (do_item (MakeVoid l) ∷ function_wants)
returns_move l t = followed (type_move t) (do_item (MakeResult l) ∷ function_wants)

abbrev pub unit_move : CToken → Move
unit_move (keyword word.Typedef) = Take (token StructWord ∷ token (Mark mark.OpenBrace) ∷ do_item StartFields ∷ item Field ∷ item MoreFields ∷ token Name ∷ token (Mark mark.Semicolon) ∷ do_item MakeStruct ∷ item Unit ∷ [])
unit_move (keyword word.Static) = Take (item StaticItem ∷ item Unit ∷ [])
unit_move t = followed (returns_move External t) (item Unit ∷ [])

abbrev pub static_item_move : CToken → Move
static_item_move (keyword word.Const) = Take (token CharWord ∷ item ConstChar ∷ [])
static_item_move (keyword word.Inline) = Take (item (Returns StaticInline) ∷ [])
static_item_move t = returns_move Static t

-- `static const char` begins a string object, or a function where `*` follows
abbrev pub const_char_move : CToken → Move
const_char_move (named n) = Take (token (Mark mark.OpenBracket) ∷ token (Mark mark.CloseBracket) ∷ token (Mark mark.Assign) ∷ token Quoted ∷ token (Mark mark.Semicolon) ∷ do_item MakeTextItem ∷ [])
const_char_move (operator op.Mul) = Take (do_type MakeText ∷ do_item (MakeResult Static) ∷ function_wants)
const_char_move _ = Stop

abbrev pub param_move : CToken → Move
param_move t = followed (type_move t) (token Name ∷ do_item AddParam ∷ [])

abbrev pub params_move : CToken → Move
params_move (keyword word.Void) = Take (token (Mark mark.CloseParen) ∷ [])
params_move t = followed (param_move t) (item MoreParams ∷ [])

abbrev pub more_params_move : CToken → Move
more_params_move (marked mark.Comma) = Take (item Param ∷ item MoreParams ∷ [])
more_params_move (marked mark.CloseParen) = Take []
more_params_move _ = Stop

-- a type begins a local, and so does a name with `*` after it; all else begins a statement
abbrev pub local_wants : List Want
local_wants = token Name ∷ item LocalEnd ∷ item Body ∷ []

abbrev pub word_body_move : CWord → Move
word_body_move word.Uint8 = followed (word_type_move word.Uint8) local_wants
word_body_move word.Uint16 = followed (word_type_move word.Uint16) local_wants
word_body_move word.Uint32 = followed (word_type_move word.Uint32) local_wants
word_body_move word.Uint64 = followed (word_type_move word.Uint64) local_wants
word_body_move word.SizeT = followed (word_type_move word.SizeT) local_wants
word_body_move word.Bool = followed (word_type_move word.Bool) local_wants
word_body_move word.Const = followed (word_type_move word.Const) local_wants
word_body_move w = followed (word_stmt_move w) (stmt Stmts ∷ [])

abbrev pub body_move : CToken → Move
body_move (keyword w) = word_body_move w
body_move (named n) = Take (item BodyName ∷ [])
body_move t = stmts_move t

abbrev pub body_name_move : CToken → Move
body_name_move (operator op.Mul) = Take (do_type MakeStructPointer ∷ local_wants)
body_name_move t = followed (stmt_name_move t) (stmt Stmts ∷ [])

abbrev pub local_end_move : CToken → Move
local_end_move (marked mark.Semicolon) = Take (do_item AddLocal ∷ [])
local_end_move (marked mark.Assign) = Take (expr Expr ∷ token (Mark mark.Semicolon) ∷ do_item AddInitialLocal ∷ [])
local_end_move _ = Stop

abbrev pub field_move : CToken → Move
field_move (keyword w) = followed (word_type_move w) (token Name ∷ do_item MakeField ∷ item FieldEnd ∷ [])
field_move (named n) = Take (item FieldName ∷ [])
field_move _ = Stop

abbrev pub field_name_move : CToken → Move
field_name_move (operator op.Mul) = Take (do_type MakeStructPointer ∷ token Name ∷ do_item MakeField ∷ item FieldEnd ∷ [])
field_name_move (named n) = Take (do_item MakeStructField ∷ item FieldEnd ∷ [])
field_name_move _ = Stop

abbrev pub field_end_move : CToken → Move
field_end_move (marked mark.Semicolon) = Take (do_item AddField ∷ [])
field_end_move (marked mark.OpenBracket) = Take (token Number ∷ do_item SetCount ∷ token (Mark mark.CloseBracket) ∷ token (Mark mark.Semicolon) ∷ do_item AddField ∷ [])
field_end_move _ = Stop

abbrev pub more_fields_move : CToken → Move
more_fields_move (marked mark.CloseBrace) = Take []
more_fields_move t = followed (field_move t) (item MoreFields ∷ [])

abbrev pub item_sym_move : ItemSym → CToken → Move
item_sym_move Unit t = unit_move t
item_sym_move StaticItem t = static_item_move t
item_sym_move (Returns l) t = returns_move l t
item_sym_move ConstChar t = const_char_move t
item_sym_move Params t = params_move t
item_sym_move Param t = param_move t
item_sym_move MoreParams t = more_params_move t
item_sym_move Body t = body_move t
item_sym_move BodyName t = body_name_move t
item_sym_move LocalEnd t = local_end_move t
item_sym_move Field t = field_move t
item_sym_move FieldName t = field_name_move t
item_sym_move FieldEnd t = field_end_move t
item_sym_move MoreFields t = more_fields_move t

-- The table.
abbrev pub move : Sym → CToken → Move
move (syms.Expr s) t = expr_sym_move s t
move (syms.Stmt s) t = stmt_sym_move s t
move (syms.Item s) t = item_sym_move s t
move (syms.Token s) t = token_move s t

-- What may be wanted at the end of a text: more items.
abbrev pub may_end : Sym → Bool
may_end (syms.Item Unit) = true
may_end _ = false
