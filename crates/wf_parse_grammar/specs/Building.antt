-- The grammar's machine with what it makes of the tokens: the table says for each symbol what the next token does to
-- it, which is to put other symbols and actions in its place, or to leave the symbol out, or to refuse. Without its
-- actions this is the machine that only reads.
use Rattle.std.specs.Prelude.{◌-◌, ℕ, Bool, true, false, ◌&&◌, None, Some, List, [], ◌∷◌, ◌++◌, length, nat_eq, nat_le, if◌then◌else◌, suc}
use Rattle.wf_text.specs.declared.place.Place.{Place}
use Rattle.wf_text.specs.declared.rules.Rule.{Rule}
use Rattle.wf_text.specs.declared.rules.Rule.TheVariants.{S5, S6, L4, L5}
use Rattle.wf_ast.specs.declared.numbers.TextId.{TextId}
use Rattle.wf_ast.specs.declared.operators.Op.{Op}
use Rattle.wf_ast.specs.declared.operators.Op.TheVariants as ops
use Rattle.wf_ast.specs.declared.parsed.Clause.TheVariants as clauses
use Rattle.wf_ast.specs.declared.parsed.Name.{Name}
use Rattle.wf_ast.specs.declared.parsed.WrittenMark.TheVariants as marks
use Rattle.wf_ast.specs.Operators.{same_op}
use Rattle.wf_parse_grammar.specs.declared.tokens.Kind.{Kind}
use Rattle.wf_parse_grammar.specs.declared.tokens.Kind.TheVariants as kinds
use Rattle.wf_parse_grammar.specs.declared.tokens.Token.{Token}
use Rattle.wf_parse_grammar.specs.declared.symbols.Sym.{Sym}
use Rattle.wf_parse_grammar.specs.declared.symbols.Sym.TheVariants as syms
use Rattle.wf_parse_grammar.specs.declared.symbols.Action.{Action}
use Rattle.wf_parse_grammar.specs.declared.symbols.Action.TheVariants as does
use Rattle.wf_parse_grammar.specs.declared.symbols.Want.{Want}
use Rattle.wf_parse_grammar.specs.declared.symbols.Want.TheVariants.{Read, Make}
pub use Rattle.wf_parse_grammar.specs.declared.builds.Build.{Build}
pub use Rattle.wf_parse_grammar.specs.declared.builds.Build.TheVariants.{Take, Begin, Enter, Pass, Stop}
use Rattle.wf_parse_grammar.specs.Machine.{may_end, owes, opens, one_more_if}
use Rattle.wf_parse_grammar.specs.Values.{Made, perform}

-- A move, where more is wanted after it, and one with an action before it.
abbrev pub followed : Build → List Want → Build
followed (Take xs) ys = Take (xs ++ ys)
followed (Begin xs) ys = Begin (xs ++ ys)
followed (Enter xs) ys = Enter (xs ++ ys)
followed Pass ys = Pass
followed (Stop r) ys = Stop r

abbrev pub led : Action → Build → Build
led a (Take xs) = Take (Make a ∷ xs)
led a (Begin xs) = Begin (Make a ∷ xs)
led a (Enter xs) = Enter (Make a ∷ xs)
led a Pass = Pass
led a (Stop r) = Stop r

abbrev pub wrong_mix : Build
wrong_mix = Stop S6

abbrev pub wrong : Build
wrong = Stop S5

abbrev pub named : TextId → Place → Name
named n p = record { text = n; at = p }

-- Expressions.
abbrev pub atom_build : Kind → Place → Build
atom_build (kinds.Number n) p = Take (Make (does.NumberExpr n p) ∷ [])
atom_build (kinds.Text n) p = Take (Make (does.OwnStatusExpr (named n p)) ∷ [])
atom_build kinds.Ok p = Take (Make (does.FineExpr p) ∷ [])
atom_build kinds.True p = Take (Make (does.TruthExpr true p) ∷ [])
atom_build kinds.False p = Take (Make (does.TruthExpr false p) ∷ [])
atom_build kinds.Base p = Take (Make (does.PushPlace p) ∷ Read syms.ADot ∷ Read syms.AText ∷ Make does.BaseStatusExpr ∷ [])
atom_build (kinds.Name n) p = Take (Make (does.BarePath (named n p)) ∷ Read syms.PathAtom ∷ [])
atom_build kinds.This p = Take (Make (does.PushPlace p) ∷ Read syms.ADot ∷ Read syms.AName ∷ Read syms.ThisAtom ∷ [])
atom_build kinds.Args p = Take (Make (does.PushPlace p) ∷ Read syms.ADot ∷ Read syms.AName ∷ Make does.ArgsPath ∷ Read syms.PathAtom ∷ [])
atom_build kinds.OpenRound p = Take (Read syms.Expr ∷ Read syms.RightRound ∷ [])
atom_build _ p = wrong

abbrev pub operand_build : Kind → Place → Build
operand_build kinds.Not p = Take (Make (does.PushPlace p) ∷ Read syms.Atom ∷ Make does.NotExpr ∷ [])
operand_build t p = atom_build t p

abbrev pub expr_build : Kind → Place → Build
expr_build t p = followed (operand_build t p) (Read syms.Rest ∷ [])

abbrev pub path_atom_build : Kind → Place → Build
path_atom_build kinds.OpenSquare p = Take (Make (does.PushPlace p) ∷ Read syms.Cut ∷ [])
path_atom_build kinds.Dot p = Take (Make does.PathReceiver ∷ Read syms.AName ∷ Read syms.CallOpen ∷ Make does.CallExpr ∷ [])
path_atom_build _ p = Pass

abbrev pub call_open_build : Kind → Place → Build
call_open_build kinds.Exclamation p = Take (Make (does.PushMark marks.Exclamation) ∷ Read syms.GivensOpen ∷ Make does.FinishCall ∷ [])
call_open_build kinds.Question p = Take (Make (does.PushMark marks.Question) ∷ Read syms.GivensOpen ∷ Make does.FinishCall ∷ [])
call_open_build kinds.OpenRound p = Take (Make (does.PushMark marks.Unmarked) ∷ Make does.StartGivens ∷ Read syms.Givens ∷ Make does.FinishCall ∷ [])
call_open_build _ p = wrong

abbrev pub this_atom_build : Kind → Place → Build
this_atom_build kinds.Exclamation p = Take (Make does.ThisMethod ∷ Make (does.PushMark marks.Exclamation) ∷ Read syms.GivensOpen ∷ Make does.FinishCall ∷ Make does.CallExpr ∷ [])
this_atom_build kinds.Question p = Take (Make does.ThisMethod ∷ Make (does.PushMark marks.Question) ∷ Read syms.GivensOpen ∷ Make does.FinishCall ∷ Make does.CallExpr ∷ [])
this_atom_build kinds.OpenRound p = Take (Make does.ThisMethod ∷ Make (does.PushMark marks.Unmarked) ∷ Make does.StartGivens ∷ Read syms.Givens ∷ Make does.FinishCall ∷ Make does.CallExpr ∷ [])
this_atom_build t p = led does.ThisPath (path_atom_build t p)

abbrev pub cut_build : Kind → Place → Build
cut_build kinds.Dots p = Take (Make does.NoPart ∷ Read syms.CutEnd ∷ [])
cut_build t p = followed (expr_build t p) (Read syms.CutTail ∷ [])

abbrev pub cut_tail_build : Kind → Place → Build
cut_tail_build kinds.CloseSquare p = Take (Make does.IndexExpr ∷ [])
cut_tail_build kinds.Dots p = Take (Make does.SomePart ∷ Read syms.CutEnd ∷ [])
cut_tail_build _ p = wrong

abbrev pub cut_end_build : Kind → Place → Build
cut_end_build kinds.CloseSquare p = Take (Make does.NoPart ∷ Make does.SliceExpr ∷ [])
cut_end_build t p = followed (expr_build t p) (Make does.SomePart ∷ Read syms.RightSquare ∷ Make does.SliceExpr ∷ [])

abbrev pub rest_build : Kind → Place → Build
rest_build (kinds.Chain op) p = Take (Make (does.StartChain op p) ∷ Make (does.PushPlace p) ∷ Read syms.Operand ∷ Make does.AddLink ∷ Read (syms.Links op) ∷ [])
rest_build (kinds.Binary op) p = Take (Make (does.StartChain op p) ∷ Make (does.PushPlace p) ∷ Read syms.Operand ∷ Make does.AddLink ∷ Make does.FinishChain ∷ Read syms.End ∷ [])
rest_build kinds.As p = Take (Make (does.PushPlace p) ∷ Make does.StartType ∷ Read syms.WholeType ∷ Make does.ConvertExpr ∷ Read syms.End ∷ [])
rest_build _ p = Pass

abbrev pub links_build : Op → Kind → Place → Build
links_build op (kinds.Chain next) p = if same_op op next then Take (Make (does.PushPlace p) ∷ Read syms.Operand ∷ Make does.AddLink ∷ Read (syms.Links op) ∷ []) else wrong_mix
links_build op (kinds.Binary next) p = wrong_mix
links_build op kinds.As p = wrong_mix
links_build op _ p = Pass

abbrev pub end_build : Kind → Place → Build
end_build (kinds.Chain op) p = wrong_mix
end_build (kinds.Binary op) p = wrong_mix
end_build kinds.As p = wrong_mix
end_build _ p = Pass

abbrev pub givens_open_build : Kind → Place → Build
givens_open_build kinds.OpenRound p = Take (Make does.StartGivens ∷ Read syms.Givens ∷ [])
givens_open_build _ p = wrong

abbrev pub givens_build : Kind → Place → Build
givens_build (kinds.Name n) p = Take (Make (does.PushName (named n p)) ∷ Read syms.AColon ∷ Read syms.Expr ∷ Make does.AddGiven ∷ Read syms.MoreGivens ∷ [])
givens_build kinds.CloseRound p = Take []
givens_build _ p = wrong

abbrev pub more_givens_build : Kind → Place → Build
more_givens_build kinds.Comma p = Take (Read syms.Givens ∷ [])
more_givens_build kinds.CloseRound p = Take []
more_givens_build _ p = wrong

-- Types.
abbrev pub type_build : Kind → Place → Build
type_build kinds.Base p = Take (Make (does.PushPlace p) ∷ Read syms.ADot ∷ Read syms.BaseName ∷ [])
type_build kinds.Slice p = Take (Make (does.AddSlice p) ∷ Read syms.WholeType ∷ [])
type_build kinds.Array p = Take (Make (does.PushPlace p) ∷ Read syms.ArrayLength ∷ Make does.AddArray ∷ Read syms.WholeType ∷ [])
type_build (kinds.Name n) p = Take (Make (does.StructType (named n p)) ∷ [])
type_build _ p = wrong

abbrev pub array_length_build : Kind → Place → Build
array_length_build kinds.OpenSquare p = Take (Read syms.Expr ∷ Read syms.RightSquare ∷ [])
array_length_build _ p = wrong

abbrev pub base_name_build : Kind → Place → Build
base_name_build (kinds.Name n) p = Take (Make (does.BaseCore (named n p)) ∷ Read syms.BoundsPart ∷ Make does.FinishType ∷ [])
base_name_build kinds.Status p = Take (Make does.StatusCore ∷ Read syms.BoundsPart ∷ Make does.FinishType ∷ [])
base_name_build _ p = wrong

abbrev pub bounds_build : Kind → Place → Build
bounds_build kinds.OpenSquare p = Take (Read syms.Low ∷ [])
bounds_build _ p = Pass

abbrev pub low_build : Kind → Place → Build
low_build kinds.DotsEquals p = Take (Make does.NoPart ∷ Read syms.Expr ∷ Read syms.RightSquare ∷ Make does.SomeBounds ∷ [])
low_build t p = followed (expr_build t p) (Make does.SomePart ∷ Read syms.ADotsEquals ∷ Read syms.Expr ∷ Read syms.RightSquare ∷ Make does.SomeBounds ∷ [])

-- Statements.
abbrev pub stmt_build : Kind → Place → Build
stmt_build (kinds.Name n) p = Begin (Make (does.PushPlace p) ∷ Make (does.BarePath (named n p)) ∷ Read syms.PathStmt ∷ [])
stmt_build kinds.This p = Begin (Make (does.PushPlace p) ∷ Make (does.PushPlace p) ∷ Read syms.ADot ∷ Read syms.AName ∷ Read syms.ThisStmt ∷ [])
stmt_build kinds.Args p = Begin (Make (does.PushPlace p) ∷ Make (does.PushPlace p) ∷ Read syms.ADot ∷ Read syms.AName ∷ Make does.ArgsPath ∷ Read syms.PathStmt ∷ [])
stmt_build kinds.If p = Begin (Make (does.PushPlace p) ∷ Make does.StartArms ∷ Read syms.Expr ∷ Read syms.Block ∷ Make does.AddArm ∷ Read syms.Else ∷ Make does.IfStmt ∷ [])
stmt_build kinds.While p = Begin (Make (does.PushPlace p) ∷ Read syms.WhileHead ∷ [])
stmt_build kinds.Break p = Begin (Make (does.PushPlace p) ∷ Read syms.LabelPart ∷ Make does.BreakStmt ∷ [])
stmt_build kinds.Continue p = Begin (Make (does.PushPlace p) ∷ Read syms.LabelPart ∷ Make does.ContinueStmt ∷ [])
stmt_build kinds.Return p = Begin (Make (does.PushPlace p) ∷ Read syms.Result ∷ Make does.ReturnStmt ∷ [])
stmt_build kinds.Yield p = Begin (Make (does.PushPlace p) ∷ Read syms.AQuestion ∷ Read syms.Expr ∷ Make does.YieldStmt ∷ [])
stmt_build kinds.Assert p = Begin (Make (does.PushPlace p) ∷ Read syms.Expr ∷ Read syms.Via ∷ Make does.AssertStmt ∷ [])
stmt_build _ p = wrong

abbrev pub vars_build : Kind → Place → Build
vars_build kinds.CloseCurly p = Take (Make (does.CloseBlock p) ∷ [])
vars_build kinds.Var p = Begin (Make (does.PushPlace p) ∷ Read syms.AName ∷ Read syms.AColon ∷ Make does.StartType ∷ Read syms.WholeType ∷ Make does.VarStmt ∷ Make does.AddStmt ∷ Read syms.MoreVars ∷ [])
vars_build t p = followed (stmt_build t p) (Make does.AddStmt ∷ Read syms.MoreItems ∷ [])

abbrev pub more_vars_build : Kind → Place → Build
more_vars_build kinds.Semicolon p = Take (Read syms.Vars ∷ [])
more_vars_build kinds.CloseCurly p = Take (Make (does.CloseBlock p) ∷ [])
more_vars_build _ p = wrong

abbrev pub block_build : Kind → Place → Build
block_build kinds.OpenCurly p = Take (Make does.StartItems ∷ Read syms.Items ∷ [])
block_build _ p = wrong

abbrev pub items_build : Kind → Place → Build
items_build kinds.CloseCurly p = Take (Make (does.CloseBlock p) ∷ [])
items_build t p = followed (stmt_build t p) (Make does.AddStmt ∷ Read syms.MoreItems ∷ [])

abbrev pub more_items_build : Kind → Place → Build
more_items_build kinds.Semicolon p = Take (Read syms.Items ∷ [])
more_items_build kinds.CloseCurly p = Take (Make (does.CloseBlock p) ∷ [])
more_items_build _ p = wrong

abbrev pub target_stmt_build : Kind → Place → Build
target_stmt_build kinds.Equals p = Take (Make (does.PushSign None p) ∷ Read syms.Expr ∷ Make does.AssignStmt ∷ [])
target_stmt_build (kinds.Update op) p = Take (Make (does.PushSign (Some op) p) ∷ Read syms.Expr ∷ Make does.AssignStmt ∷ [])
target_stmt_build kinds.KeepEquals p = Take (Read syms.Call ∷ Make does.KeepStmt ∷ [])
target_stmt_build _ p = wrong

abbrev pub path_stmt_build : Kind → Place → Build
path_stmt_build kinds.OpenSquare p = Take (Make (does.PushPlace p) ∷ Read syms.Expr ∷ Read syms.RightSquare ∷ Make does.ElementTarget ∷ Read syms.TargetStmt ∷ [])
path_stmt_build kinds.Dot p = Take (Make does.PathReceiver ∷ Read syms.AName ∷ Read syms.CallMark ∷ Make does.CallStmt ∷ [])
path_stmt_build t p = led does.PathTarget (target_stmt_build t p)

abbrev pub call_mark_build : Kind → Place → Build
call_mark_build kinds.Exclamation p = Take (Make (does.PushMark marks.Exclamation) ∷ Read syms.GivensOpen ∷ Make does.FinishCall ∷ [])
call_mark_build kinds.Question p = Take (Make (does.PushMark marks.Question) ∷ Read syms.GivensOpen ∷ Make does.FinishCall ∷ [])
call_mark_build _ p = wrong

abbrev pub this_stmt_build : Kind → Place → Build
this_stmt_build kinds.Exclamation p = Take (Make does.ThisMethod ∷ Make (does.PushMark marks.Exclamation) ∷ Read syms.GivensOpen ∷ Make does.FinishCall ∷ Make does.CallStmt ∷ [])
this_stmt_build kinds.Question p = Take (Make does.ThisMethod ∷ Make (does.PushMark marks.Question) ∷ Read syms.GivensOpen ∷ Make does.FinishCall ∷ Make does.CallStmt ∷ [])
this_stmt_build t p = led does.ThisPath (path_stmt_build t p)

abbrev pub call_build : Kind → Place → Build
call_build (kinds.Name n) p = Take (Make (does.BarePath (named n p)) ∷ Make does.PathReceiver ∷ Read syms.ADot ∷ Read syms.AName ∷ Read syms.CallMark ∷ [])
call_build kinds.This p = Take (Make (does.PushPlace p) ∷ Read syms.ADot ∷ Read syms.AName ∷ Read syms.CallThis ∷ [])
call_build kinds.Args p = Take (Make (does.PushPlace p) ∷ Read syms.ADot ∷ Read syms.AName ∷ Make does.ArgsPath ∷ Make does.PathReceiver ∷ Read syms.ADot ∷ Read syms.AName ∷ Read syms.CallMark ∷ [])
call_build _ p = wrong

abbrev pub call_this_build : Kind → Place → Build
call_this_build kinds.Dot p = Take (Make does.ThisPath ∷ Make does.PathReceiver ∷ Read syms.AName ∷ Read syms.CallMark ∷ [])
call_this_build t p = led does.ThisMethod (call_mark_build t p)

abbrev pub else_build : Kind → Place → Build
else_build kinds.Else p = Take (Read syms.ElseTail ∷ [])
else_build _ p = Pass

abbrev pub else_tail_build : Kind → Place → Build
else_tail_build kinds.If p = Take (Read syms.Expr ∷ Read syms.Block ∷ Make does.AddArm ∷ Read syms.Else ∷ [])
else_tail_build kinds.OpenCurly p = Take (Make does.StartItems ∷ Read syms.Items ∷ Make does.SomeElse ∷ [])
else_tail_build _ p = wrong

abbrev pub while_build : Kind → Place → Build
while_build kinds.Dot p = Take (Read syms.LabelHead ∷ [])
while_build t p = followed (expr_build t p) (Make does.StartClauses ∷ Read syms.Clauses ∷ Read syms.EndPart ∷ Make does.LoopStmt ∷ [])

abbrev pub label_head_build : Kind → Place → Build
label_head_build (kinds.Name n) p = Take (Make (does.PushName (named n p)) ∷ Read syms.Expr ∷ Make does.StartClauses ∷ Read syms.Clauses ∷ Read (syms.EndLabel n) ∷ Make does.LabelledStmt ∷ [])
label_head_build _ p = wrong

abbrev pub clauses_build : Kind → Place → Build
clauses_build kinds.Comma p = Take (Read syms.ClauseTail ∷ [])
clauses_build kinds.OpenCurly p = Take (Make does.StartItems ∷ Read syms.Items ∷ [])
clauses_build _ p = wrong

abbrev pub clause_tail_build : Kind → Place → Build
clause_tail_build kinds.Pre p = Take (Make (does.PushPlace p) ∷ Read syms.Expr ∷ Make (does.AddClause clauses.Pre) ∷ Read syms.Clauses ∷ [])
clause_tail_build kinds.Inv p = Take (Make (does.PushPlace p) ∷ Read syms.Expr ∷ Make (does.AddClause clauses.Inv) ∷ Read syms.Clauses ∷ [])
clause_tail_build kinds.Post p = Take (Make (does.PushPlace p) ∷ Read syms.Expr ∷ Make (does.AddClause clauses.Post) ∷ Read syms.Clauses ∷ [])
clause_tail_build kinds.OpenCurly p = Take (Make does.StartItems ∷ Read syms.Items ∷ [])
clause_tail_build _ p = wrong

abbrev pub end_part_build : Kind → Place → Build
end_part_build kinds.Endwhile p = Take []
end_part_build _ p = Pass

abbrev pub end_label_build : TextId → Kind → Place → Build
end_label_build label kinds.Endwhile p = Take (Read syms.ADot ∷ Read (syms.Label label) ∷ [])
end_label_build label _ p = wrong

abbrev pub label_build : TextId → Kind → Place → Build
label_build label (kinds.Name n) p = if nat_eq label.0 n.0 then Take [] else wrong
label_build label _ p = wrong

abbrev pub label_part_build : Kind → Place → Build
label_part_build kinds.Dot p = Take (Read syms.AName ∷ Make does.SomeLabel ∷ [])
label_part_build _ p = Pass

-- a result may be absent, so what begins no expression passes on
abbrev pub or_pass : Build → Build
or_pass (Stop r) = Pass
or_pass b = b

abbrev pub result_build : Kind → Place → Build
result_build kinds.Nothing p = Take (Make does.NoPart ∷ [])
result_build t p = or_pass (followed (expr_build t p) (Make does.SomePart ∷ []))

abbrev pub via_build : Kind → Place → Build
via_build kinds.Via p = Take (Read syms.AText ∷ Read syms.GivensOpen ∷ Make does.SomeVia ∷ [])
via_build _ p = Pass

-- Declarations.
abbrev pub file_build : Kind → Place → Build
file_build kinds.Pub p = Take (Make (does.PushPublic true) ∷ Read syms.Decl ∷ Read syms.ASemicolon ∷ Read syms.File ∷ [])
file_build kinds.Pri p = Take (Make (does.PushPublic false) ∷ Read syms.Decl ∷ Read syms.ASemicolon ∷ Read syms.File ∷ [])
file_build _ p = Pass

abbrev pub decl_build : Kind → Place → Build
decl_build kinds.Status p = Take (Make (does.PushPlace p) ∷ Read syms.AText ∷ Make does.StatusDecl ∷ [])
decl_build kinds.Const p = Take (Make (does.PushPlace p) ∷ Read syms.AName ∷ Read syms.AColon ∷ Make does.StartType ∷ Read syms.WholeType ∷ Read syms.AnEquals ∷ Read syms.Expr ∷ Make does.ConstDecl ∷ [])
decl_build kinds.Struct p = Take (Make (does.PushPlace p) ∷ Read syms.AName ∷ Read syms.FieldsMark ∷ Read syms.OtherFields ∷ Make does.StructDecl ∷ [])
decl_build kinds.Func p = Take (Make (does.PushPlace p) ∷ Read syms.AName ∷ Read syms.ADot ∷ Read syms.AName ∷ Read syms.FieldsMark ∷ Make does.StartType ∷ Read syms.MethodTail ∷ Make does.MethodDecl ∷ [])
decl_build _ p = wrong

abbrev pub fields_open_build : Kind → Place → Build
fields_open_build kinds.OpenRound p = Take (Read syms.Fields ∷ [])
fields_open_build _ p = wrong

abbrev pub fields_mark_build : Kind → Place → Build
fields_mark_build kinds.Exclamation p = Take (Make (does.PushMark marks.Exclamation) ∷ Make does.StartFields ∷ Read syms.FieldsOpen ∷ [])
fields_mark_build kinds.Question p = Take (Make (does.PushMark marks.Question) ∷ Make does.StartFields ∷ Read syms.FieldsOpen ∷ [])
fields_mark_build kinds.OpenRound p = Take (Make (does.PushMark marks.Unmarked) ∷ Make does.StartFields ∷ Read syms.Fields ∷ [])
fields_mark_build _ p = wrong

abbrev pub fields_build : Kind → Place → Build
fields_build (kinds.Name n) p = Take (Make (does.PushName (named n p)) ∷ Read syms.AColon ∷ Make does.StartType ∷ Read syms.WholeType ∷ Make does.AddField ∷ Read syms.MoreFields ∷ [])
fields_build kinds.CloseRound p = Take []
fields_build _ p = wrong

abbrev pub more_fields_build : Kind → Place → Build
more_fields_build kinds.Comma p = Take (Read syms.Fields ∷ [])
more_fields_build kinds.CloseRound p = Take []
more_fields_build _ p = wrong

-- of the operators of chains only `+` stands here
abbrev pub plus_build : Op → Build
plus_build ops.Add = Take (Read syms.FieldsOpen ∷ [])
plus_build _ = Pass

abbrev pub other_fields_build : Kind → Place → Build
other_fields_build (kinds.Chain op) p = plus_build op
other_fields_build _ p = Pass

abbrev pub body_build : Kind → Place → Build
body_build kinds.OpenCurly p = Enter (Make does.StartItems ∷ Read syms.Vars ∷ [])
body_build _ p = wrong

abbrev pub method_tail_build : Kind → Place → Build
method_tail_build kinds.OpenCurly p = Enter (Make does.NoResult ∷ Make does.StartItems ∷ Read syms.Vars ∷ [])
method_tail_build t p = followed (type_build t p) (Make does.SomeResult ∷ Read syms.Body ∷ [])

-- Single tokens.
abbrev pub name_build : Kind → Place → Build
name_build (kinds.Name n) p = Take (Make (does.PushName (named n p)) ∷ [])
name_build _ p = wrong

abbrev pub text_build : Kind → Place → Build
text_build (kinds.Text n) p = Take (Make (does.PushName (named n p)) ∷ [])
text_build _ p = wrong

abbrev pub dot_build : Kind → Place → Build
dot_build kinds.Dot p = Take []
dot_build _ p = wrong

abbrev pub colon_build : Kind → Place → Build
colon_build kinds.Colon p = Take []
colon_build _ p = wrong

abbrev pub semicolon_build : Kind → Place → Build
semicolon_build kinds.Semicolon p = Take []
semicolon_build _ p = wrong

abbrev pub equals_build : Kind → Place → Build
equals_build kinds.Equals p = Take []
equals_build _ p = wrong

abbrev pub question_build : Kind → Place → Build
question_build kinds.Question p = Take []
question_build _ p = wrong

abbrev pub dots_equals_build : Kind → Place → Build
dots_equals_build kinds.DotsEquals p = Take []
dots_equals_build _ p = wrong

abbrev pub right_round_build : Kind → Place → Build
right_round_build kinds.CloseRound p = Take []
right_round_build _ p = wrong

abbrev pub right_square_build : Kind → Place → Build
right_square_build kinds.CloseSquare p = Take []
right_square_build _ p = wrong

-- The table.
abbrev pub build : Sym → Kind → Place → Build
build syms.File t p = file_build t p
build syms.Decl t p = decl_build t p
build syms.FieldsMark t p = fields_mark_build t p
build syms.FieldsOpen t p = fields_open_build t p
build syms.Fields t p = fields_build t p
build syms.MoreFields t p = more_fields_build t p
build syms.OtherFields t p = other_fields_build t p
build syms.MethodTail t p = method_tail_build t p
build syms.Body t p = body_build t p
build syms.WholeType t p = type_build t p
build syms.ArrayLength t p = array_length_build t p
build syms.BaseName t p = base_name_build t p
build syms.BoundsPart t p = bounds_build t p
build syms.Low t p = low_build t p
build syms.Vars t p = vars_build t p
build syms.MoreVars t p = more_vars_build t p
build syms.Block t p = block_build t p
build syms.Items t p = items_build t p
build syms.MoreItems t p = more_items_build t p
build syms.PathStmt t p = path_stmt_build t p
build syms.ThisStmt t p = this_stmt_build t p
build syms.TargetStmt t p = target_stmt_build t p
build syms.Call t p = call_build t p
build syms.CallThis t p = call_this_build t p
build syms.CallMark t p = call_mark_build t p
build syms.Else t p = else_build t p
build syms.ElseTail t p = else_tail_build t p
build syms.WhileHead t p = while_build t p
build syms.LabelHead t p = label_head_build t p
build syms.Clauses t p = clauses_build t p
build syms.ClauseTail t p = clause_tail_build t p
build syms.EndPart t p = end_part_build t p
build (syms.EndLabel label) t p = end_label_build label t p
build (syms.Label label) t p = label_build label t p
build syms.LabelPart t p = label_part_build t p
build syms.Result t p = result_build t p
build syms.Via t p = via_build t p
build syms.Expr t p = expr_build t p
build syms.Rest t p = rest_build t p
build (syms.Links op) t p = links_build op t p
build syms.End t p = end_build t p
build syms.Operand t p = operand_build t p
build syms.Atom t p = atom_build t p
build syms.PathAtom t p = path_atom_build t p
build syms.ThisAtom t p = this_atom_build t p
build syms.Cut t p = cut_build t p
build syms.CutTail t p = cut_tail_build t p
build syms.CutEnd t p = cut_end_build t p
build syms.CallOpen t p = call_open_build t p
build syms.GivensOpen t p = givens_open_build t p
build syms.Givens t p = givens_build t p
build syms.MoreGivens t p = more_givens_build t p
build syms.AName t p = name_build t p
build syms.AText t p = text_build t p
build syms.ADot t p = dot_build t p
build syms.AColon t p = colon_build t p
build syms.ASemicolon t p = semicolon_build t p
build syms.AnEquals t p = equals_build t p
build syms.AQuestion t p = question_build t p
build syms.ADotsEquals t p = dots_equals_build t p
build syms.RightRound t p = right_round_build t p
build syms.RightSquare t p = right_square_build t p

-- The actions where a symbol is left out, and what they make.
abbrev pub skips : Sym → List Action
skips syms.BoundsPart = does.NoBounds ∷ []
skips syms.Else = does.NoElse ∷ []
skips syms.LabelPart = does.NoLabel ∷ []
skips syms.Result = does.NoPart ∷ []
skips syms.Via = does.NoVia ∷ []
skips (syms.Links op) = does.FinishChain ∷ []
skips syms.PathAtom = does.PathExpr ∷ []
skips syms.ThisAtom = does.ThisPath ∷ does.PathExpr ∷ []
skips _ = []

abbrev pub all_performed : List Action → Made → Made
all_performed [] made = made
all_performed (a ∷ later) made = all_performed later (perform a made)

abbrev pub skipped : Sym → Made → Made
skipped s made = all_performed (skips s) made

-- How many brackets are open below what is wanted.
abbrev pub open_wants : List Want → ℕ
open_wants [] = 0
open_wants (Make a ∷ k) = open_wants k
open_wants (Read s ∷ k) = one_more_if (owes s) (open_wants k)

-- What comes of a run: `left` counts the tokens from the refused one on, 0 at the file's end.
pub data Ending : Type 0 where
  Built : (made : Made) → Ending
  Refused : (rule : Rule) → (left : ℕ) → Ending

-- One token on a stack. `limited` tells whether brackets and statements have their limits; `room` is the number
-- of statements that the method may still begin. `next` goes on from what is then wanted and made.
abbrev pub unless : Bool → Rule → ℕ → Ending → Ending
unless true r left go_on = Refused r left
unless false r left go_on = go_on

abbrev pub after : (limited : Bool) → (room : ℕ) → Build → (whole below : List Want) → Made → Kind → (left : ℕ) → (next : ℕ → List Want → Made → Ending) → (passed : Ending) → Ending
after limited room (Take xs) whole below made t left next passed = unless (limited && opens t && nat_le 48 (open_wants whole)) L4 left (next room (xs ++ below) made)
after limited room (Begin xs) whole below made t left next passed = unless (limited && nat_eq room 0) L5 left (next (room - 1) (xs ++ below) made)
after limited room (Enter xs) whole below made t left next passed = unless (limited && nat_le 48 (open_wants whole)) L4 left (next 4096 (xs ++ below) made)
after limited room Pass whole below made t left next passed = passed
after limited room (Stop r) whole below made t left next passed = Refused r left

abbrev pub step : (limited : Bool) → (room : ℕ) → List Want → Made → Token → (left : ℕ) → (next : ℕ → List Want → Made → Ending) → Ending
step limited room [] made t left next = Refused S5 left
step limited room (Make a ∷ k) made t left next = step limited room k (perform a made) t left next
step limited room (Read s ∷ k) made t left next = after limited room (build s t.kind t.at) (Read s ∷ k) k made t.kind left next (step limited room k (skipped s made) t left next)

abbrev pub ends : List Want → Made → Ending
ends [] made = Built made
ends (Make a ∷ k) made = ends k (perform a made)
ends (Read s ∷ k) made = if may_end s then ends k (skipped s made) else Refused S5 0

-- The run of a list of tokens on a stack, with what is made so far.
abbrev pub run : (limited : Bool) → (room : ℕ) → List Token → List Want → Made → Ending
run limited room [] k made = ends k made
run limited room (t ∷ ts) k made = step limited room k made t (suc (length ts)) (λ room_left wanted made_then. run limited room_left ts wanted made_then)
