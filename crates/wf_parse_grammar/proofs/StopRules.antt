-- A move refuses by S5 or S6: the limits' rules are the run's.
use Rattle.std.proofs.Common.{◌≡◌, Bool, true, false, [], ◌∷◌, refl, nat_eq, if◌then◌else◌}
use Rattle.wf_text.specs.declared.rules.Rule.{Rule}
use Rattle.wf_text.specs.declared.rules.Rule.TheVariants.{S5, S6}
use Rattle.wf_ast.specs.declared.numbers.TextId.{TextId}
use Rattle.wf_ast.specs.declared.operators.Op.{Op}
use Rattle.wf_ast.specs.declared.operators.Op.TheVariants as ops
use Rattle.wf_ast.specs.Operators.{same_op}
use Rattle.wf_parse_grammar.specs.declared.tokens.Kind.{Kind}
use Rattle.wf_parse_grammar.specs.declared.tokens.Kind.TheVariants as kinds
use Rattle.wf_parse_grammar.specs.declared.symbols.Sym.{Sym}
use Rattle.wf_parse_grammar.specs.declared.symbols.Sym.TheVariants as syms
use Rattle.wf_parse_grammar.specs.Machine as m
use Rattle.wf_parse_grammar.specs.Machine.{Move, Take, Begin, Enter, Pass, Stop, move}

-- A move refuses by S5 or S6 alone.
abbrev pub is_wrong : Rule → Bool
is_wrong S5 = true
is_wrong S6 = true
is_wrong _ = false

abbrev pub Stops : Move → Type 0
Stops (Stop r) = is_wrong r ≡ true
Stops (Take xs) = true ≡ true
Stops (Begin xs) = true ≡ true
Stops (Enter xs) = true ≡ true
Stops Pass = true ≡ true

stops-file : (t : Kind) → Stops (move syms.File t)
stops-file kinds.As = refl
stops-file _ = refl

stops-decl : (t : Kind) → Stops (move syms.Decl t)
stops-decl kinds.As = refl
stops-decl _ = refl

stops-fields_mark : (t : Kind) → Stops (move syms.FieldsMark t)
stops-fields_mark kinds.As = refl
stops-fields_mark _ = refl

stops-fields_open : (t : Kind) → Stops (move syms.FieldsOpen t)
stops-fields_open kinds.As = refl
stops-fields_open _ = refl

stops-fields : (t : Kind) → Stops (move syms.Fields t)
stops-fields kinds.As = refl
stops-fields _ = refl

stops-more_fields : (t : Kind) → Stops (move syms.MoreFields t)
stops-more_fields kinds.As = refl
stops-more_fields _ = refl

stops-plus : (op : Op) → Stops (m.plus_move op)
stops-plus ops.Add = refl
stops-plus _ = refl

stops-other_fields : (t : Kind) → Stops (m.other_fields_move t)
stops-other_fields (kinds.Chain op) = stops-plus op
stops-other_fields _ = refl

stops-method_tail : (t : Kind) → Stops (move syms.MethodTail t)
stops-method_tail kinds.As = refl
stops-method_tail _ = refl

stops-body : (t : Kind) → Stops (move syms.Body t)
stops-body kinds.As = refl
stops-body _ = refl

stops-type : (t : Kind) → Stops (move syms.WholeType t)
stops-type kinds.As = refl
stops-type _ = refl

stops-array_length : (t : Kind) → Stops (move syms.ArrayLength t)
stops-array_length kinds.As = refl
stops-array_length _ = refl

stops-base_name : (t : Kind) → Stops (move syms.BaseName t)
stops-base_name kinds.As = refl
stops-base_name _ = refl

stops-bounds : (t : Kind) → Stops (move syms.BoundsPart t)
stops-bounds kinds.As = refl
stops-bounds _ = refl

stops-low : (t : Kind) → Stops (move syms.Low t)
stops-low kinds.As = refl
stops-low _ = refl

stops-vars : (t : Kind) → Stops (move syms.Vars t)
stops-vars kinds.As = refl
stops-vars _ = refl

stops-more_vars : (t : Kind) → Stops (move syms.MoreVars t)
stops-more_vars kinds.As = refl
stops-more_vars _ = refl

stops-block : (t : Kind) → Stops (move syms.Block t)
stops-block kinds.As = refl
stops-block _ = refl

stops-items : (t : Kind) → Stops (move syms.Items t)
stops-items kinds.As = refl
stops-items _ = refl

stops-more_items : (t : Kind) → Stops (move syms.MoreItems t)
stops-more_items kinds.As = refl
stops-more_items _ = refl

stops-path_stmt : (t : Kind) → Stops (move syms.PathStmt t)
stops-path_stmt kinds.As = refl
stops-path_stmt _ = refl

stops-this_stmt : (t : Kind) → Stops (move syms.ThisStmt t)
stops-this_stmt kinds.As = refl
stops-this_stmt _ = refl

stops-target_stmt : (t : Kind) → Stops (move syms.TargetStmt t)
stops-target_stmt kinds.As = refl
stops-target_stmt _ = refl

stops-call : (t : Kind) → Stops (move syms.Call t)
stops-call kinds.As = refl
stops-call _ = refl

stops-call_this : (t : Kind) → Stops (move syms.CallThis t)
stops-call_this kinds.As = refl
stops-call_this _ = refl

stops-call_mark : (t : Kind) → Stops (move syms.CallMark t)
stops-call_mark kinds.As = refl
stops-call_mark _ = refl

stops-else : (t : Kind) → Stops (move syms.Else t)
stops-else kinds.As = refl
stops-else _ = refl

stops-else_tail : (t : Kind) → Stops (move syms.ElseTail t)
stops-else_tail kinds.As = refl
stops-else_tail _ = refl

stops-while : (t : Kind) → Stops (move syms.WhileHead t)
stops-while kinds.As = refl
stops-while _ = refl

stops-label_head : (t : Kind) → Stops (move syms.LabelHead t)
stops-label_head kinds.As = refl
stops-label_head _ = refl

stops-clauses : (t : Kind) → Stops (move syms.Clauses t)
stops-clauses kinds.As = refl
stops-clauses _ = refl

stops-clause_tail : (t : Kind) → Stops (move syms.ClauseTail t)
stops-clause_tail kinds.As = refl
stops-clause_tail _ = refl

stops-end_part : (t : Kind) → Stops (move syms.EndPart t)
stops-end_part kinds.As = refl
stops-end_part _ = refl

stops-label_part : (t : Kind) → Stops (move syms.LabelPart t)
stops-label_part kinds.As = refl
stops-label_part _ = refl

stops-result : (t : Kind) → Stops (move syms.Result t)
stops-result kinds.As = refl
stops-result _ = refl

stops-via : (t : Kind) → Stops (move syms.Via t)
stops-via kinds.As = refl
stops-via _ = refl

stops-expr : (t : Kind) → Stops (move syms.Expr t)
stops-expr kinds.As = refl
stops-expr _ = refl

stops-rest : (t : Kind) → Stops (move syms.Rest t)
stops-rest kinds.As = refl
stops-rest _ = refl

stops-end : (t : Kind) → Stops (move syms.End t)
stops-end kinds.As = refl
stops-end _ = refl

stops-operand : (t : Kind) → Stops (move syms.Operand t)
stops-operand kinds.As = refl
stops-operand _ = refl

stops-atom : (t : Kind) → Stops (move syms.Atom t)
stops-atom kinds.As = refl
stops-atom _ = refl

stops-path_atom : (t : Kind) → Stops (move syms.PathAtom t)
stops-path_atom kinds.As = refl
stops-path_atom _ = refl

stops-this_atom : (t : Kind) → Stops (move syms.ThisAtom t)
stops-this_atom kinds.As = refl
stops-this_atom _ = refl

stops-cut : (t : Kind) → Stops (move syms.Cut t)
stops-cut kinds.As = refl
stops-cut _ = refl

stops-cut_tail : (t : Kind) → Stops (move syms.CutTail t)
stops-cut_tail kinds.As = refl
stops-cut_tail _ = refl

stops-cut_end : (t : Kind) → Stops (move syms.CutEnd t)
stops-cut_end kinds.As = refl
stops-cut_end _ = refl

stops-call_open : (t : Kind) → Stops (move syms.CallOpen t)
stops-call_open kinds.As = refl
stops-call_open _ = refl

stops-givens_open : (t : Kind) → Stops (move syms.GivensOpen t)
stops-givens_open kinds.As = refl
stops-givens_open _ = refl

stops-givens : (t : Kind) → Stops (move syms.Givens t)
stops-givens kinds.As = refl
stops-givens _ = refl

stops-more_givens : (t : Kind) → Stops (move syms.MoreGivens t)
stops-more_givens kinds.As = refl
stops-more_givens _ = refl

stops-name : (t : Kind) → Stops (move syms.AName t)
stops-name kinds.As = refl
stops-name _ = refl

stops-text : (t : Kind) → Stops (move syms.AText t)
stops-text kinds.As = refl
stops-text _ = refl

stops-dot : (t : Kind) → Stops (move syms.ADot t)
stops-dot kinds.As = refl
stops-dot _ = refl

stops-colon : (t : Kind) → Stops (move syms.AColon t)
stops-colon kinds.As = refl
stops-colon _ = refl

stops-semicolon : (t : Kind) → Stops (move syms.ASemicolon t)
stops-semicolon kinds.As = refl
stops-semicolon _ = refl

stops-equals : (t : Kind) → Stops (move syms.AnEquals t)
stops-equals kinds.As = refl
stops-equals _ = refl

stops-question : (t : Kind) → Stops (move syms.AQuestion t)
stops-question kinds.As = refl
stops-question _ = refl

stops-dots_equals : (t : Kind) → Stops (move syms.ADotsEquals t)
stops-dots_equals kinds.As = refl
stops-dots_equals _ = refl

stops-right_round : (t : Kind) → Stops (move syms.RightRound t)
stops-right_round kinds.As = refl
stops-right_round _ = refl

stops-right_square : (t : Kind) → Stops (move syms.RightSquare t)
stops-right_square kinds.As = refl
stops-right_square _ = refl

stops-link : (b : Bool) (op : Op) → Stops (if b then Take (syms.Operand ∷ syms.Links op ∷ []) else m.wrong_mix)
stops-link true op = refl
stops-link false op = refl

stops-links : (op : Op) (t : Kind) → Stops (m.links_move op t)
stops-links op (kinds.Chain next) = stops-link (same_op op next) op
stops-links op _ = refl

stops-end_label : (label : TextId) (t : Kind) → Stops (m.end_label_move label t)
stops-end_label label kinds.Bad = refl
stops-end_label label _ = refl

stops-found : (b : Bool) → Stops (if b then Take [] else m.wrong)
stops-found true = refl
stops-found false = refl

stops-label : (label : TextId) (t : Kind) → Stops (m.label_move label t)
stops-label label (kinds.Name n) = stops-found (nat_eq label.0 n.0)
stops-label label _ = refl

pub stops : (s : Sym) (t : Kind) → Stops (move s t)
stops syms.File t = stops-file t
stops syms.Decl t = stops-decl t
stops syms.FieldsMark t = stops-fields_mark t
stops syms.FieldsOpen t = stops-fields_open t
stops syms.Fields t = stops-fields t
stops syms.MoreFields t = stops-more_fields t
stops syms.OtherFields t = stops-other_fields t
stops syms.MethodTail t = stops-method_tail t
stops syms.Body t = stops-body t
stops syms.WholeType t = stops-type t
stops syms.ArrayLength t = stops-array_length t
stops syms.BaseName t = stops-base_name t
stops syms.BoundsPart t = stops-bounds t
stops syms.Low t = stops-low t
stops syms.Vars t = stops-vars t
stops syms.MoreVars t = stops-more_vars t
stops syms.Block t = stops-block t
stops syms.Items t = stops-items t
stops syms.MoreItems t = stops-more_items t
stops syms.PathStmt t = stops-path_stmt t
stops syms.ThisStmt t = stops-this_stmt t
stops syms.TargetStmt t = stops-target_stmt t
stops syms.Call t = stops-call t
stops syms.CallThis t = stops-call_this t
stops syms.CallMark t = stops-call_mark t
stops syms.Else t = stops-else t
stops syms.ElseTail t = stops-else_tail t
stops syms.WhileHead t = stops-while t
stops syms.LabelHead t = stops-label_head t
stops syms.Clauses t = stops-clauses t
stops syms.ClauseTail t = stops-clause_tail t
stops syms.EndPart t = stops-end_part t
stops syms.LabelPart t = stops-label_part t
stops syms.Result t = stops-result t
stops syms.Via t = stops-via t
stops syms.Expr t = stops-expr t
stops syms.Rest t = stops-rest t
stops syms.End t = stops-end t
stops syms.Operand t = stops-operand t
stops syms.Atom t = stops-atom t
stops syms.PathAtom t = stops-path_atom t
stops syms.ThisAtom t = stops-this_atom t
stops syms.Cut t = stops-cut t
stops syms.CutTail t = stops-cut_tail t
stops syms.CutEnd t = stops-cut_end t
stops syms.CallOpen t = stops-call_open t
stops syms.GivensOpen t = stops-givens_open t
stops syms.Givens t = stops-givens t
stops syms.MoreGivens t = stops-more_givens t
stops syms.AName t = stops-name t
stops syms.AText t = stops-text t
stops syms.ADot t = stops-dot t
stops syms.AColon t = stops-colon t
stops syms.ASemicolon t = stops-semicolon t
stops syms.AnEquals t = stops-equals t
stops syms.AQuestion t = stops-question t
stops syms.ADotsEquals t = stops-dots_equals t
stops syms.RightRound t = stops-right_round t
stops syms.RightSquare t = stops-right_square t
stops (syms.Links op) t = stops-links op t
stops (syms.EndLabel label) t = stops-end_label label t
stops (syms.Label label) t = stops-label label t
