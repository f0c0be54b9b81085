-- A token puts few wanted things on the stack.
use Rattle.std.proofs.Common.{◌≡◌, ◌≤◌, Bool, true, false, if◌then◌else◌, nat_le, nat_eq, length, refl}
use Rattle.std.proofs.lemmas.Bool.{leb-true}
use Rattle.wf_text.specs.declared.place.Place.{Place}
use Rattle.wf_ast.specs.declared.operators.Op.TheVariants as ops
use Rattle.wf_ast.specs.Operators.{same_op}
use Rattle.wf_parse_grammar.specs.declared.builds.Build.{Build}
use Rattle.wf_parse_grammar.specs.declared.symbols.Sym.{Sym}
use Rattle.wf_parse_grammar.specs.declared.symbols.Sym.TheVariants as syms
use Rattle.wf_parse_grammar.specs.declared.tokens.Kind.{Kind}
use Rattle.wf_parse_grammar.specs.declared.tokens.Kind.TheVariants as kinds
use Rattle.wf_parse_grammar.specs.Building.{build, skips}
use Rattle.wf_parse.specs.Machines.{wanted}

if_short : (b : Bool) (x y : Build) → nat_le (length (wanted x)) 12 ≡ true → nat_le (length (wanted y)) 12 ≡ true → nat_le (length (wanted (if b then x else y))) 12 ≡ true
if_short true x y h k = h
if_short false x y h k = k

is_short : (s : Sym) (t : Kind) (p : Place) → nat_le (length (wanted (build s t p))) 12 ≡ true
is_short syms.File kinds.Bad p = refl
is_short syms.File t p = refl
is_short syms.Decl kinds.Bad p = refl
is_short syms.Decl t p = refl
is_short syms.FieldsMark kinds.Bad p = refl
is_short syms.FieldsMark t p = refl
is_short syms.FieldsOpen kinds.Bad p = refl
is_short syms.FieldsOpen t p = refl
is_short syms.Fields kinds.Bad p = refl
is_short syms.Fields t p = refl
is_short syms.MoreFields kinds.Bad p = refl
is_short syms.MoreFields t p = refl
is_short syms.OtherFields (kinds.Chain ops.Add) p = refl
is_short syms.OtherFields (kinds.Chain op) p = refl
is_short syms.OtherFields kinds.Bad p = refl
is_short syms.OtherFields t p = refl
is_short syms.MethodTail kinds.Bad p = refl
is_short syms.MethodTail t p = refl
is_short syms.Body kinds.Bad p = refl
is_short syms.Body t p = refl
is_short syms.WholeType kinds.Bad p = refl
is_short syms.WholeType t p = refl
is_short syms.ArrayLength kinds.Bad p = refl
is_short syms.ArrayLength t p = refl
is_short syms.BaseName kinds.Bad p = refl
is_short syms.BaseName t p = refl
is_short syms.BoundsPart kinds.Bad p = refl
is_short syms.BoundsPart t p = refl
is_short syms.Low kinds.Bad p = refl
is_short syms.Low t p = refl
is_short syms.Vars kinds.Bad p = refl
is_short syms.Vars t p = refl
is_short syms.MoreVars kinds.Bad p = refl
is_short syms.MoreVars t p = refl
is_short syms.Block kinds.Bad p = refl
is_short syms.Block t p = refl
is_short syms.Items kinds.Bad p = refl
is_short syms.Items t p = refl
is_short syms.MoreItems kinds.Bad p = refl
is_short syms.MoreItems t p = refl
is_short syms.PathStmt kinds.Bad p = refl
is_short syms.PathStmt t p = refl
is_short syms.ThisStmt kinds.Bad p = refl
is_short syms.ThisStmt t p = refl
is_short syms.TargetStmt kinds.Bad p = refl
is_short syms.TargetStmt t p = refl
is_short syms.Call kinds.Bad p = refl
is_short syms.Call t p = refl
is_short syms.CallThis kinds.Bad p = refl
is_short syms.CallThis t p = refl
is_short syms.CallMark kinds.Bad p = refl
is_short syms.CallMark t p = refl
is_short syms.Else kinds.Bad p = refl
is_short syms.Else t p = refl
is_short syms.ElseTail kinds.Bad p = refl
is_short syms.ElseTail t p = refl
is_short syms.WhileHead kinds.Bad p = refl
is_short syms.WhileHead t p = refl
is_short syms.LabelHead kinds.Bad p = refl
is_short syms.LabelHead t p = refl
is_short syms.Clauses kinds.Bad p = refl
is_short syms.Clauses t p = refl
is_short syms.ClauseTail kinds.Bad p = refl
is_short syms.ClauseTail t p = refl
is_short syms.EndPart kinds.Bad p = refl
is_short syms.EndPart t p = refl
is_short (syms.EndLabel label) kinds.Bad p = refl
is_short (syms.EndLabel label) t p = refl
is_short (syms.Label label) (kinds.Name n) p = if_short (nat_eq label.0 n.0) _ _ refl refl
is_short (syms.Label label) kinds.Bad p = refl
is_short (syms.Label label) t p = refl
is_short syms.LabelPart kinds.Bad p = refl
is_short syms.LabelPart t p = refl
is_short syms.Result kinds.Bad p = refl
is_short syms.Result t p = refl
is_short syms.Via kinds.Bad p = refl
is_short syms.Via t p = refl
is_short syms.Expr kinds.Bad p = refl
is_short syms.Expr t p = refl
is_short syms.Rest kinds.Bad p = refl
is_short syms.Rest t p = refl
is_short (syms.Links op) (kinds.Chain next) p = if_short (same_op op next) _ _ refl refl
is_short (syms.Links op) kinds.Bad p = refl
is_short (syms.Links op) t p = refl
is_short syms.End kinds.Bad p = refl
is_short syms.End t p = refl
is_short syms.Operand kinds.Bad p = refl
is_short syms.Operand t p = refl
is_short syms.Atom kinds.Bad p = refl
is_short syms.Atom t p = refl
is_short syms.PathAtom kinds.Bad p = refl
is_short syms.PathAtom t p = refl
is_short syms.ThisAtom kinds.Bad p = refl
is_short syms.ThisAtom t p = refl
is_short syms.Cut kinds.Bad p = refl
is_short syms.Cut t p = refl
is_short syms.CutTail kinds.Bad p = refl
is_short syms.CutTail t p = refl
is_short syms.CutEnd kinds.Bad p = refl
is_short syms.CutEnd t p = refl
is_short syms.CallOpen kinds.Bad p = refl
is_short syms.CallOpen t p = refl
is_short syms.GivensOpen kinds.Bad p = refl
is_short syms.GivensOpen t p = refl
is_short syms.Givens kinds.Bad p = refl
is_short syms.Givens t p = refl
is_short syms.MoreGivens kinds.Bad p = refl
is_short syms.MoreGivens t p = refl
is_short syms.AName kinds.Bad p = refl
is_short syms.AName t p = refl
is_short syms.AText kinds.Bad p = refl
is_short syms.AText t p = refl
is_short syms.ADot kinds.Bad p = refl
is_short syms.ADot t p = refl
is_short syms.AColon kinds.Bad p = refl
is_short syms.AColon t p = refl
is_short syms.ASemicolon kinds.Bad p = refl
is_short syms.ASemicolon t p = refl
is_short syms.AnEquals kinds.Bad p = refl
is_short syms.AnEquals t p = refl
is_short syms.AQuestion kinds.Bad p = refl
is_short syms.AQuestion t p = refl
is_short syms.ADotsEquals kinds.Bad p = refl
is_short syms.ADotsEquals t p = refl
is_short syms.RightRound kinds.Bad p = refl
is_short syms.RightRound t p = refl
is_short syms.RightSquare kinds.Bad p = refl
is_short syms.RightSquare t p = refl

pub few_wanted : (s : Sym) (t : Kind) (p : Place) (b : Build) → b ≡ build s t p → length (wanted b) ≤ 12
few_wanted s t p b e =
    let h : nat_le (length (wanted b)) 12 ≡ true = rw e (is_short s t p) in
    leb-true (length (wanted b)) 12 h

-- A symbol that is left out takes at most two actions.
few : (s : Sym) → nat_le (length (skips s)) 2 ≡ true
few syms.File = refl
few s = refl
