-- The grammar's machine: the stack of what is still wanted, and one table that says what the next token does to
-- its top. It reads the same lists as the grammar, one token at a time, and knows the first token that no list
-- of the grammar has at its place.
use Rattle.std.specs.Prelude.{◌-◌, ℕ, Bool, true, false, ◌&&◌, List, [], ◌∷◌, ◌++◌, length, nat_eq, nat_le, if◌then◌else◌, suc}
use Rattle.wf_text.specs.declared.rules.Rule.{Rule}
use Rattle.wf_text.specs.declared.rules.Rule.TheVariants.{S5, S6, L4, L5}
use Rattle.wf_ast.specs.declared.operators.Op.{Op}
use Rattle.wf_ast.specs.declared.operators.Op.TheVariants as ops
use Rattle.wf_ast.specs.Operators.{same_op}
use Rattle.wf_parse_grammar.specs.declared.symbols.Sym.{Sym}
use Rattle.wf_parse_grammar.specs.declared.symbols.Sym.TheVariants as syms
use Rattle.wf_ast.specs.declared.numbers.TextId.{TextId}
use Rattle.wf_parse_grammar.specs.declared.tokens.Kind.{Kind}
use Rattle.wf_parse_grammar.specs.declared.tokens.Kind.TheVariants as kinds
use Rattle.wf_parse_grammar.specs.declared.tokens.Token.{Token}

-- What a token does to the top of the stack.
pub data Move : Type 0 where
  -- it is read, and in place of the top these are wanted
  Take : (wanted : List Sym) → Move
  -- the same, and it begins a statement
  Begin : (wanted : List Sym) → Move
  -- the same, and it begins the block of a method
  Enter : (wanted : List Sym) → Move
  -- the top may be absent: the token is for what stands below
  Pass : Move
  -- no list goes on so
  Stop : (rule : Rule) → Move

-- A move, where more is wanted after it.
abbrev pub followed : Move → List Sym → Move
followed (Take xs) ys = Take (xs ++ ys)
followed (Begin xs) ys = Begin (xs ++ ys)
followed (Enter xs) ys = Enter (xs ++ ys)
followed Pass ys = Pass
followed (Stop r) ys = Stop r

abbrev pub wrong_mix : Move
wrong_mix = Stop S6

abbrev pub wrong : Move
wrong = Stop S5

-- Expressions.
abbrev pub atom_move : Kind → Move
atom_move (kinds.Number n) = Take []
atom_move (kinds.Text n) = Take []
atom_move kinds.Ok = Take []
atom_move kinds.True = Take []
atom_move kinds.False = Take []
atom_move kinds.Base = Take (syms.ADot ∷ syms.AText ∷ [])
atom_move (kinds.Name n) = Take (syms.PathAtom ∷ [])
atom_move kinds.This = Take (syms.ADot ∷ syms.AName ∷ syms.ThisAtom ∷ [])
atom_move kinds.Args = Take (syms.ADot ∷ syms.AName ∷ syms.PathAtom ∷ [])
atom_move kinds.OpenRound = Take (syms.Expr ∷ syms.RightRound ∷ [])
atom_move _ = wrong

abbrev pub operand_move : Kind → Move
operand_move kinds.Not = Take (syms.Atom ∷ [])
operand_move t = atom_move t

abbrev pub expr_move : Kind → Move
expr_move t = followed (operand_move t) (syms.Rest ∷ [])

abbrev pub path_atom_move : Kind → Move
path_atom_move kinds.OpenSquare = Take (syms.Cut ∷ [])
path_atom_move kinds.Dot = Take (syms.AName ∷ syms.CallOpen ∷ [])
path_atom_move _ = Pass

abbrev pub call_open_move : Kind → Move
call_open_move kinds.Exclamation = Take (syms.GivensOpen ∷ [])
call_open_move kinds.Question = Take (syms.GivensOpen ∷ [])
call_open_move kinds.OpenRound = Take (syms.Givens ∷ [])
call_open_move _ = wrong

abbrev pub this_atom_move : Kind → Move
this_atom_move kinds.Exclamation = Take (syms.GivensOpen ∷ [])
this_atom_move kinds.Question = Take (syms.GivensOpen ∷ [])
this_atom_move kinds.OpenRound = Take (syms.Givens ∷ [])
this_atom_move t = path_atom_move t

abbrev pub cut_move : Kind → Move
cut_move kinds.Dots = Take (syms.CutEnd ∷ [])
cut_move t = followed (expr_move t) (syms.CutTail ∷ [])

abbrev pub cut_tail_move : Kind → Move
cut_tail_move kinds.CloseSquare = Take []
cut_tail_move kinds.Dots = Take (syms.CutEnd ∷ [])
cut_tail_move _ = wrong

abbrev pub cut_end_move : Kind → Move
cut_end_move kinds.CloseSquare = Take []
cut_end_move t = followed (expr_move t) (syms.RightSquare ∷ [])

abbrev pub rest_move : Kind → Move
rest_move (kinds.Chain op) = Take (syms.Operand ∷ syms.Links op ∷ [])
rest_move (kinds.Binary op) = Take (syms.Operand ∷ syms.End ∷ [])
rest_move kinds.As = Take (syms.WholeType ∷ syms.End ∷ [])
rest_move _ = Pass

abbrev pub links_move : Op → Kind → Move
links_move op (kinds.Chain next) = if same_op op next then Take (syms.Operand ∷ syms.Links op ∷ []) else wrong_mix
links_move op (kinds.Binary next) = Stop S6
links_move op kinds.As = Stop S6
links_move op _ = Pass

abbrev pub end_move : Kind → Move
end_move (kinds.Chain op) = Stop S6
end_move (kinds.Binary op) = Stop S6
end_move kinds.As = Stop S6
end_move _ = Pass

abbrev pub givens_open_move : Kind → Move
givens_open_move kinds.OpenRound = Take (syms.Givens ∷ [])
givens_open_move _ = wrong

abbrev pub givens_move : Kind → Move
givens_move (kinds.Name n) = Take (syms.AColon ∷ syms.Expr ∷ syms.MoreGivens ∷ [])
givens_move kinds.CloseRound = Take []
givens_move _ = wrong

abbrev pub more_givens_move : Kind → Move
more_givens_move kinds.Comma = Take (syms.Givens ∷ [])
more_givens_move kinds.CloseRound = Take []
more_givens_move _ = wrong

-- Types.
abbrev pub type_move : Kind → Move
type_move kinds.Base = Take (syms.ADot ∷ syms.BaseName ∷ [])
type_move kinds.Slice = Take (syms.WholeType ∷ [])
type_move kinds.Array = Take (syms.ArrayLength ∷ syms.WholeType ∷ [])
type_move (kinds.Name n) = Take []
type_move _ = wrong

abbrev pub array_length_move : Kind → Move
array_length_move kinds.OpenSquare = Take (syms.Expr ∷ syms.RightSquare ∷ [])
array_length_move _ = wrong

abbrev pub base_name_move : Kind → Move
base_name_move (kinds.Name n) = Take (syms.BoundsPart ∷ [])
base_name_move kinds.Status = Take (syms.BoundsPart ∷ [])
base_name_move _ = wrong

abbrev pub bounds_move : Kind → Move
bounds_move kinds.OpenSquare = Take (syms.Low ∷ [])
bounds_move _ = Pass

abbrev pub low_move : Kind → Move
low_move kinds.DotsEquals = Take (syms.Expr ∷ syms.RightSquare ∷ [])
low_move t = followed (expr_move t) (syms.ADotsEquals ∷ syms.Expr ∷ syms.RightSquare ∷ [])

-- Statements.
abbrev pub stmt_move : Kind → Move
stmt_move (kinds.Name n) = Begin (syms.PathStmt ∷ [])
stmt_move kinds.This = Begin (syms.ADot ∷ syms.AName ∷ syms.ThisStmt ∷ [])
stmt_move kinds.Args = Begin (syms.ADot ∷ syms.AName ∷ syms.PathStmt ∷ [])
stmt_move kinds.If = Begin (syms.Expr ∷ syms.Block ∷ syms.Else ∷ [])
stmt_move kinds.While = Begin (syms.WhileHead ∷ [])
stmt_move kinds.Break = Begin (syms.LabelPart ∷ [])
stmt_move kinds.Continue = Begin (syms.LabelPart ∷ [])
stmt_move kinds.Return = Begin (syms.Result ∷ [])
stmt_move kinds.Yield = Begin (syms.AQuestion ∷ syms.Expr ∷ [])
stmt_move kinds.Assert = Begin (syms.Expr ∷ syms.Via ∷ [])
stmt_move _ = wrong

abbrev pub vars_move : Kind → Move
vars_move kinds.CloseCurly = Take []
vars_move kinds.Var = Begin (syms.AName ∷ syms.AColon ∷ syms.WholeType ∷ syms.MoreVars ∷ [])
vars_move t = followed (stmt_move t) (syms.MoreItems ∷ [])

abbrev pub more_vars_move : Kind → Move
more_vars_move kinds.Semicolon = Take (syms.Vars ∷ [])
more_vars_move kinds.CloseCurly = Take []
more_vars_move _ = wrong

abbrev pub block_move : Kind → Move
block_move kinds.OpenCurly = Take (syms.Items ∷ [])
block_move _ = wrong

abbrev pub items_move : Kind → Move
items_move kinds.CloseCurly = Take []
items_move t = followed (stmt_move t) (syms.MoreItems ∷ [])

abbrev pub more_items_move : Kind → Move
more_items_move kinds.Semicolon = Take (syms.Items ∷ [])
more_items_move kinds.CloseCurly = Take []
more_items_move _ = wrong

abbrev pub target_stmt_move : Kind → Move
target_stmt_move kinds.Equals = Take (syms.Expr ∷ [])
target_stmt_move (kinds.Update op) = Take (syms.Expr ∷ [])
target_stmt_move kinds.KeepEquals = Take (syms.Call ∷ [])
target_stmt_move _ = wrong

abbrev pub path_stmt_move : Kind → Move
path_stmt_move kinds.OpenSquare = Take (syms.Expr ∷ syms.RightSquare ∷ syms.TargetStmt ∷ [])
path_stmt_move kinds.Dot = Take (syms.AName ∷ syms.CallMark ∷ [])
path_stmt_move t = target_stmt_move t

abbrev pub call_mark_move : Kind → Move
call_mark_move kinds.Exclamation = Take (syms.GivensOpen ∷ [])
call_mark_move kinds.Question = Take (syms.GivensOpen ∷ [])
call_mark_move _ = wrong

abbrev pub this_stmt_move : Kind → Move
this_stmt_move kinds.Exclamation = Take (syms.GivensOpen ∷ [])
this_stmt_move kinds.Question = Take (syms.GivensOpen ∷ [])
this_stmt_move t = path_stmt_move t

abbrev pub call_move : Kind → Move
call_move (kinds.Name n) = Take (syms.ADot ∷ syms.AName ∷ syms.CallMark ∷ [])
call_move kinds.This = Take (syms.ADot ∷ syms.AName ∷ syms.CallThis ∷ [])
call_move kinds.Args = Take (syms.ADot ∷ syms.AName ∷ syms.ADot ∷ syms.AName ∷ syms.CallMark ∷ [])
call_move _ = wrong

abbrev pub call_this_move : Kind → Move
call_this_move kinds.Dot = Take (syms.AName ∷ syms.CallMark ∷ [])
call_this_move t = call_mark_move t

abbrev pub else_move : Kind → Move
else_move kinds.Else = Take (syms.ElseTail ∷ [])
else_move _ = Pass

abbrev pub else_tail_move : Kind → Move
else_tail_move kinds.If = Take (syms.Expr ∷ syms.Block ∷ syms.Else ∷ [])
else_tail_move kinds.OpenCurly = Take (syms.Items ∷ [])
else_tail_move _ = wrong

abbrev pub while_move : Kind → Move
while_move kinds.Dot = Take (syms.LabelHead ∷ [])
while_move t = followed (expr_move t) (syms.Clauses ∷ syms.EndPart ∷ [])

abbrev pub label_head_move : Kind → Move
label_head_move (kinds.Name n) = Take (syms.Expr ∷ syms.Clauses ∷ syms.EndLabel n ∷ [])
label_head_move _ = wrong

abbrev pub clauses_move : Kind → Move
clauses_move kinds.Comma = Take (syms.ClauseTail ∷ [])
clauses_move kinds.OpenCurly = Take (syms.Items ∷ [])
clauses_move _ = wrong

abbrev pub clause_tail_move : Kind → Move
clause_tail_move kinds.Pre = Take (syms.Expr ∷ syms.Clauses ∷ [])
clause_tail_move kinds.Inv = Take (syms.Expr ∷ syms.Clauses ∷ [])
clause_tail_move kinds.Post = Take (syms.Expr ∷ syms.Clauses ∷ [])
clause_tail_move kinds.OpenCurly = Take (syms.Items ∷ [])
clause_tail_move _ = wrong

abbrev pub end_part_move : Kind → Move
end_part_move kinds.Endwhile = Take []
end_part_move _ = Pass

abbrev pub end_label_move : TextId → Kind → Move
end_label_move label kinds.Endwhile = Take (syms.ADot ∷ syms.Label label ∷ [])
end_label_move label _ = wrong

abbrev pub label_move : TextId → Kind → Move
label_move label (kinds.Name n) = if nat_eq label.0 n.0 then Take [] else wrong
label_move label _ = wrong

abbrev pub label_part_move : Kind → Move
label_part_move kinds.Dot = Take (syms.AName ∷ [])
label_part_move _ = Pass

-- a result may be absent, so what begins no expression passes on
abbrev pub or_pass : Move → Move
or_pass (Stop r) = Pass
or_pass m = m

abbrev pub result_move : Kind → Move
result_move kinds.Nothing = Take []
result_move t = or_pass (expr_move t)

abbrev pub via_move : Kind → Move
via_move kinds.Via = Take (syms.AText ∷ syms.GivensOpen ∷ [])
via_move _ = Pass

-- Declarations.
abbrev pub file_move : Kind → Move
file_move kinds.Pub = Take (syms.Decl ∷ syms.ASemicolon ∷ syms.File ∷ [])
file_move kinds.Pri = Take (syms.Decl ∷ syms.ASemicolon ∷ syms.File ∷ [])
file_move _ = Pass

abbrev pub decl_move : Kind → Move
decl_move kinds.Status = Take (syms.AText ∷ [])
decl_move kinds.Const = Take (syms.AName ∷ syms.AColon ∷ syms.WholeType ∷ syms.AnEquals ∷ syms.Expr ∷ [])
decl_move kinds.Struct = Take (syms.AName ∷ syms.FieldsMark ∷ syms.OtherFields ∷ [])
decl_move kinds.Func = Take (syms.AName ∷ syms.ADot ∷ syms.AName ∷ syms.FieldsMark ∷ syms.MethodTail ∷ [])
decl_move _ = wrong

abbrev pub fields_open_move : Kind → Move
fields_open_move kinds.OpenRound = Take (syms.Fields ∷ [])
fields_open_move _ = wrong

abbrev pub fields_mark_move : Kind → Move
fields_mark_move kinds.Exclamation = Take (syms.FieldsOpen ∷ [])
fields_mark_move kinds.Question = Take (syms.FieldsOpen ∷ [])
fields_mark_move t = fields_open_move t

abbrev pub fields_move : Kind → Move
fields_move (kinds.Name n) = Take (syms.AColon ∷ syms.WholeType ∷ syms.MoreFields ∷ [])
fields_move kinds.CloseRound = Take []
fields_move _ = wrong

abbrev pub more_fields_move : Kind → Move
more_fields_move kinds.Comma = Take (syms.Fields ∷ [])
more_fields_move kinds.CloseRound = Take []
more_fields_move _ = wrong

-- of the operators of chains only `+` stands here
abbrev pub plus_move : Op → Move
plus_move ops.Add = Take (syms.FieldsOpen ∷ [])
plus_move _ = Pass

abbrev pub other_fields_move : Kind → Move
other_fields_move (kinds.Chain op) = plus_move op
other_fields_move _ = Pass

abbrev pub body_move : Kind → Move
body_move kinds.OpenCurly = Enter (syms.Vars ∷ [])
body_move _ = wrong

abbrev pub method_tail_move : Kind → Move
method_tail_move kinds.OpenCurly = Enter (syms.Vars ∷ [])
method_tail_move t = followed (type_move t) (syms.Body ∷ [])

-- Single tokens.
abbrev pub name_move : Kind → Move
name_move (kinds.Name n) = Take []
name_move _ = wrong

abbrev pub text_move : Kind → Move
text_move (kinds.Text n) = Take []
text_move _ = wrong

abbrev pub dot_move : Kind → Move
dot_move kinds.Dot = Take []
dot_move _ = wrong

abbrev pub colon_move : Kind → Move
colon_move kinds.Colon = Take []
colon_move _ = wrong

abbrev pub semicolon_move : Kind → Move
semicolon_move kinds.Semicolon = Take []
semicolon_move _ = wrong

abbrev pub equals_move : Kind → Move
equals_move kinds.Equals = Take []
equals_move _ = wrong

abbrev pub question_move : Kind → Move
question_move kinds.Question = Take []
question_move _ = wrong

abbrev pub dots_equals_move : Kind → Move
dots_equals_move kinds.DotsEquals = Take []
dots_equals_move _ = wrong

abbrev pub right_round_move : Kind → Move
right_round_move kinds.CloseRound = Take []
right_round_move _ = wrong

abbrev pub right_square_move : Kind → Move
right_square_move kinds.CloseSquare = Take []
right_square_move _ = wrong

-- The table.
abbrev pub move : Sym → Kind → Move
move syms.File t = file_move t
move syms.Decl t = decl_move t
move syms.FieldsMark t = fields_mark_move t
move syms.FieldsOpen t = fields_open_move t
move syms.Fields t = fields_move t
move syms.MoreFields t = more_fields_move t
move syms.OtherFields t = other_fields_move t
move syms.MethodTail t = method_tail_move t
move syms.Body t = body_move t
move syms.WholeType t = type_move t
move syms.ArrayLength t = array_length_move t
move syms.BaseName t = base_name_move t
move syms.BoundsPart t = bounds_move t
move syms.Low t = low_move t
move syms.Vars t = vars_move t
move syms.MoreVars t = more_vars_move t
move syms.Block t = block_move t
move syms.Items t = items_move t
move syms.MoreItems t = more_items_move t
move syms.PathStmt t = path_stmt_move t
move syms.ThisStmt t = this_stmt_move t
move syms.TargetStmt t = target_stmt_move t
move syms.Call t = call_move t
move syms.CallThis t = call_this_move t
move syms.CallMark t = call_mark_move t
move syms.Else t = else_move t
move syms.ElseTail t = else_tail_move t
move syms.WhileHead t = while_move t
move syms.LabelHead t = label_head_move t
move syms.Clauses t = clauses_move t
move syms.ClauseTail t = clause_tail_move t
move syms.EndPart t = end_part_move t
move (syms.EndLabel label) t = end_label_move label t
move (syms.Label label) t = label_move label t
move syms.LabelPart t = label_part_move t
move syms.Result t = result_move t
move syms.Via t = via_move t
move syms.Expr t = expr_move t
move syms.Rest t = rest_move t
move (syms.Links op) t = links_move op t
move syms.End t = end_move t
move syms.Operand t = operand_move t
move syms.Atom t = atom_move t
move syms.PathAtom t = path_atom_move t
move syms.ThisAtom t = this_atom_move t
move syms.Cut t = cut_move t
move syms.CutTail t = cut_tail_move t
move syms.CutEnd t = cut_end_move t
move syms.CallOpen t = call_open_move t
move syms.GivensOpen t = givens_open_move t
move syms.Givens t = givens_move t
move syms.MoreGivens t = more_givens_move t
move syms.AName t = name_move t
move syms.AText t = text_move t
move syms.ADot t = dot_move t
move syms.AColon t = colon_move t
move syms.ASemicolon t = semicolon_move t
move syms.AnEquals t = equals_move t
move syms.AQuestion t = question_move t
move syms.ADotsEquals t = dots_equals_move t
move syms.RightRound t = right_round_move t
move syms.RightSquare t = right_square_move t

-- What may be absent at the file's end: what passes tokens on.
abbrev pub may_end : Sym → Bool
may_end syms.File = true
may_end syms.OtherFields = true
may_end syms.BoundsPart = true
may_end syms.Else = true
may_end syms.EndPart = true
may_end syms.LabelPart = true
may_end syms.Result = true
may_end syms.Via = true
may_end syms.Rest = true
may_end (syms.Links op) = true
may_end syms.End = true
may_end syms.PathAtom = true
may_end syms.ThisAtom = true
may_end _ = false

-- Whether a symbol owes a closing bracket, and how many a stack owes: the brackets that are open.
abbrev pub owes : Sym → Bool
owes syms.Fields = true
owes syms.MoreFields = true
owes syms.Low = true
owes syms.Vars = true
owes syms.MoreVars = true
owes syms.Items = true
owes syms.MoreItems = true
owes syms.Cut = true
owes syms.CutTail = true
owes syms.CutEnd = true
owes syms.Givens = true
owes syms.MoreGivens = true
owes syms.RightRound = true
owes syms.RightSquare = true
owes _ = false

abbrev pub one_more_if : Bool → ℕ → ℕ
one_more_if true n = suc n
one_more_if false n = n

abbrev pub open_count : List Sym → ℕ
open_count [] = 0
open_count (s ∷ k) = one_more_if (owes s) (open_count k)

abbrev pub opens : Kind → Bool
opens kinds.OpenRound = true
opens kinds.OpenSquare = true
opens kinds.OpenCurly = true
opens _ = false

-- What comes of a run: `left` counts the tokens from the refused one on, 0 at the file's end.
pub data Outcome : Type 0 where
  Accepted : Outcome
  Refused : (rule : Rule) → (left : ℕ) → Outcome

-- One token on a stack. `limited` tells whether brackets and statements have their limits; `room` is the number
-- of statements that the method may still begin. `next` goes on from what is then wanted.
abbrev pub unless : Bool → Rule → ℕ → Outcome → Outcome
unless true r left go_on = Refused r left
unless false r left go_on = go_on

abbrev pub after : (limited : Bool) → (room : ℕ) → Move → (whole below : List Sym) → Kind → (left : ℕ) → (next : ℕ → List Sym → Outcome) → (passed : Outcome) → Outcome
after limited room (Take xs) whole below t left next passed = unless (limited && opens t && nat_le 48 (open_count whole)) L4 left (next room (xs ++ below))
after limited room (Begin xs) whole below t left next passed = unless (limited && nat_eq room 0) L5 left (next (room - 1) (xs ++ below))
after limited room (Enter xs) whole below t left next passed = unless (limited && nat_le 48 (open_count whole)) L4 left (next 4096 (xs ++ below))
after limited room Pass whole below t left next passed = passed
after limited room (Stop r) whole below t left next passed = Refused r left

abbrev pub step : (limited : Bool) → (room : ℕ) → List Sym → Kind → (left : ℕ) → (next : ℕ → List Sym → Outcome) → Outcome
step limited room [] t left next = Refused S5 left
step limited room (s ∷ k) t left next = after limited room (move s t) (s ∷ k) k t left next (step limited room k t left next)

abbrev pub ends : List Sym → Outcome
ends [] = Accepted
ends (s ∷ k) = if may_end s then ends k else Refused S5 0

-- The run of a list of tokens on a stack.
abbrev pub run : (limited : Bool) → (room : ℕ) → List Token → List Sym → Outcome
run limited room [] k = ends k
run limited room (t ∷ ts) k = step limited room k t.kind (suc (length ts)) (λ left_room wanted. run limited left_room ts wanted)
