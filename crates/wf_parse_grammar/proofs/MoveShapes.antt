-- What a move puts on the stack, as tests: where a block's statements, a declaration and a method's head may stand.
use Rattle.std.proofs.Common.{◌≡◌, Bool, true, false, ◌&&◌, ◌||◌, not, List, [], ◌∷◌, refl, nat_eq, if◌then◌else◌}
use Rattle.wf_ast.specs.declared.numbers.TextId.{TextId}
use Rattle.wf_ast.specs.declared.operators.Op.{Op}
use Rattle.wf_ast.specs.declared.operators.Op.TheVariants as ops
use Rattle.wf_ast.specs.Operators.{same_op}
use Rattle.wf_parse_grammar.specs.declared.tokens.Kind.{Kind}
use Rattle.wf_parse_grammar.specs.declared.tokens.Kind.TheVariants as kinds
use Rattle.wf_parse_grammar.specs.declared.symbols.Sym.{Sym}
use Rattle.wf_parse_grammar.specs.declared.symbols.Sym.TheVariants as syms
use Rattle.wf_parse_grammar.specs.Machine as m
use Rattle.wf_parse_grammar.specs.Machine.{Move, Take, Begin, Enter, Pass, Stop, move, may_end}
use Rattle.wf_parse_grammar.specs.Statements.{is_break, begins_statement}

-- Where a statement may begin.
abbrev pub is_fresh : Sym → Bool
is_fresh syms.Items = true
is_fresh syms.Vars = true
is_fresh _ = false

-- What stands only in the block of a method.
abbrev pub is_body : Sym → Bool
is_body syms.Vars = true
is_body syms.MoreVars = true
is_body syms.Items = true
is_body syms.MoreItems = true
is_body syms.Block = true
is_body syms.Else = true
is_body syms.ElseTail = true
is_body syms.WhileHead = true
is_body syms.LabelHead = true
is_body syms.Clauses = true
is_body syms.ClauseTail = true
is_body _ = false

-- What may stand anywhere before what else is wanted.
abbrev pub is_calm : Sym → Bool
is_calm syms.Items = false
is_calm syms.Vars = false
is_calm syms.File = false
is_calm syms.Decl = false
is_calm syms.ASemicolon = false
is_calm syms.MethodTail = false
is_calm syms.Body = false
is_calm _ = true

abbrev pub all_calm : List Sym → Bool
all_calm [] = true
all_calm (s ∷ k) = is_calm s && all_calm k

abbrev pub bodied : List Sym → Bool
bodied [] = false
bodied (s ∷ k) = is_body s || bodied k

-- The head of a method, before its block.
abbrev pub is_head : Sym → Bool
is_head syms.MethodTail = true
is_head syms.Body = true
is_head _ = false

abbrev pub implies : Bool → Bool → Bool
implies true b = b
implies false b = true

abbrev pub is_func : Kind → Bool
is_func kinds.Func = true
is_func _ = false

abbrev pub is_curly : Kind → Bool
is_curly kinds.OpenCurly = true
is_curly _ = false

abbrev pub is_semicolon : Kind → Bool
is_semicolon kinds.Semicolon = true
is_semicolon _ = false

-- A token that changes nothing of what is counted.
abbrev pub is_quiet : Kind → Bool
is_quiet t = not (is_break t) && (not (is_func t) && not (begins_statement t))

-- The lists that the rare symbols leave.
abbrev pub is_nothing : List Sym → Bool
is_nothing [] = true
is_nothing _ = false

abbrev pub is_declaration : List Sym → Bool
is_declaration (syms.Decl ∷ syms.ASemicolon ∷ syms.File ∷ []) = true
is_declaration _ = false

abbrev pub is_method : List Sym → Bool
is_method (syms.AName ∷ syms.ADot ∷ syms.AName ∷ syms.FieldsMark ∷ syms.MethodTail ∷ []) = true
is_method _ = false

abbrev pub is_typed : List Sym → Bool
is_typed (syms.Body ∷ []) = true
is_typed (syms.WholeType ∷ syms.Body ∷ []) = true
is_typed (syms.ADot ∷ syms.BaseName ∷ syms.Body ∷ []) = true
is_typed (syms.ArrayLength ∷ syms.WholeType ∷ syms.Body ∷ []) = true
is_typed _ = false

abbrev pub is_block : List Sym → Bool
is_block (s ∷ []) = is_fresh s
is_block _ = false

abbrev pub is_vars : List Sym → Bool
is_vars (syms.Vars ∷ []) = true
is_vars _ = false

-- What a token that is read may leave of a symbol.
abbrev pub calmly : Sym → Kind → List Sym → Bool
calmly s t xs = not (is_break t) && (not (is_func t) && (all_calm xs && (implies (bodied xs) (is_body s) && implies (is_fresh s) (not (begins_statement t)))))

abbrev pub take_fits : Sym → Kind → List Sym → Bool
take_fits syms.File t xs = is_quiet t && is_declaration xs
take_fits syms.Decl t xs = (is_func t && is_method xs) || calmly syms.Decl t xs
take_fits syms.ASemicolon t xs = is_semicolon t && is_nothing xs
take_fits syms.MethodTail t xs = not (is_break t) && (not (is_func t) && is_typed xs)
take_fits syms.Body t xs = false
take_fits s t xs = (is_break t && (is_body s && is_block xs)) || calmly s t xs

abbrev pub fits : Sym → Kind → Move → Bool
fits s t (Take xs) = take_fits s t xs
fits s t (Begin xs) = is_fresh s && (begins_statement t && all_calm xs)
fits s t (Enter xs) = is_curly t && (is_head s && is_vars xs)
fits s t Pass = may_end s
fits s t (Stop r) = true

fits-file : (t : Kind) → fits syms.File t (m.file_move t) ≡ true
fits-file kinds.Bad = refl
fits-file _ = refl

fits-decl : (t : Kind) → fits syms.Decl t (m.decl_move t) ≡ true
fits-decl kinds.Bad = refl
fits-decl _ = refl

fits-fields_mark : (t : Kind) → fits syms.FieldsMark t (m.fields_mark_move t) ≡ true
fits-fields_mark kinds.Bad = refl
fits-fields_mark _ = refl

fits-fields_open : (t : Kind) → fits syms.FieldsOpen t (m.fields_open_move t) ≡ true
fits-fields_open kinds.Bad = refl
fits-fields_open _ = refl

fits-fields : (t : Kind) → fits syms.Fields t (m.fields_move t) ≡ true
fits-fields kinds.Bad = refl
fits-fields _ = refl

fits-more_fields : (t : Kind) → fits syms.MoreFields t (m.more_fields_move t) ≡ true
fits-more_fields kinds.Bad = refl
fits-more_fields _ = refl

fits-method_tail : (t : Kind) → fits syms.MethodTail t (m.method_tail_move t) ≡ true
fits-method_tail kinds.Bad = refl
fits-method_tail _ = refl

fits-body : (t : Kind) → fits syms.Body t (m.body_move t) ≡ true
fits-body kinds.Bad = refl
fits-body _ = refl

fits-type : (t : Kind) → fits syms.WholeType t (m.type_move t) ≡ true
fits-type kinds.Bad = refl
fits-type _ = refl

fits-array_length : (t : Kind) → fits syms.ArrayLength t (m.array_length_move t) ≡ true
fits-array_length kinds.Bad = refl
fits-array_length _ = refl

fits-base_name : (t : Kind) → fits syms.BaseName t (m.base_name_move t) ≡ true
fits-base_name kinds.Bad = refl
fits-base_name _ = refl

fits-bounds : (t : Kind) → fits syms.BoundsPart t (m.bounds_move t) ≡ true
fits-bounds kinds.Bad = refl
fits-bounds _ = refl

fits-low : (t : Kind) → fits syms.Low t (m.low_move t) ≡ true
fits-low kinds.Bad = refl
fits-low _ = refl

fits-vars : (t : Kind) → fits syms.Vars t (m.vars_move t) ≡ true
fits-vars kinds.Bad = refl
fits-vars _ = refl

fits-more_vars : (t : Kind) → fits syms.MoreVars t (m.more_vars_move t) ≡ true
fits-more_vars kinds.Bad = refl
fits-more_vars _ = refl

fits-block : (t : Kind) → fits syms.Block t (m.block_move t) ≡ true
fits-block kinds.Bad = refl
fits-block _ = refl

fits-items : (t : Kind) → fits syms.Items t (m.items_move t) ≡ true
fits-items kinds.Bad = refl
fits-items _ = refl

fits-more_items : (t : Kind) → fits syms.MoreItems t (m.more_items_move t) ≡ true
fits-more_items kinds.Bad = refl
fits-more_items _ = refl

fits-path_stmt : (t : Kind) → fits syms.PathStmt t (m.path_stmt_move t) ≡ true
fits-path_stmt kinds.Bad = refl
fits-path_stmt _ = refl

fits-this_stmt : (t : Kind) → fits syms.ThisStmt t (m.this_stmt_move t) ≡ true
fits-this_stmt kinds.Bad = refl
fits-this_stmt _ = refl

fits-target_stmt : (t : Kind) → fits syms.TargetStmt t (m.target_stmt_move t) ≡ true
fits-target_stmt kinds.Bad = refl
fits-target_stmt _ = refl

fits-call : (t : Kind) → fits syms.Call t (m.call_move t) ≡ true
fits-call kinds.Bad = refl
fits-call _ = refl

fits-call_this : (t : Kind) → fits syms.CallThis t (m.call_this_move t) ≡ true
fits-call_this kinds.Bad = refl
fits-call_this _ = refl

fits-call_mark : (t : Kind) → fits syms.CallMark t (m.call_mark_move t) ≡ true
fits-call_mark kinds.Bad = refl
fits-call_mark _ = refl

fits-else : (t : Kind) → fits syms.Else t (m.else_move t) ≡ true
fits-else kinds.Bad = refl
fits-else _ = refl

fits-else_tail : (t : Kind) → fits syms.ElseTail t (m.else_tail_move t) ≡ true
fits-else_tail kinds.Bad = refl
fits-else_tail _ = refl

fits-while : (t : Kind) → fits syms.WhileHead t (m.while_move t) ≡ true
fits-while kinds.Bad = refl
fits-while _ = refl

fits-label_head : (t : Kind) → fits syms.LabelHead t (m.label_head_move t) ≡ true
fits-label_head kinds.Bad = refl
fits-label_head _ = refl

fits-clauses : (t : Kind) → fits syms.Clauses t (m.clauses_move t) ≡ true
fits-clauses kinds.Bad = refl
fits-clauses _ = refl

fits-clause_tail : (t : Kind) → fits syms.ClauseTail t (m.clause_tail_move t) ≡ true
fits-clause_tail kinds.Bad = refl
fits-clause_tail _ = refl

fits-end_part : (t : Kind) → fits syms.EndPart t (m.end_part_move t) ≡ true
fits-end_part kinds.Bad = refl
fits-end_part _ = refl

fits-label_part : (t : Kind) → fits syms.LabelPart t (m.label_part_move t) ≡ true
fits-label_part kinds.Bad = refl
fits-label_part _ = refl

fits-result : (t : Kind) → fits syms.Result t (m.result_move t) ≡ true
fits-result kinds.Bad = refl
fits-result _ = refl

fits-via : (t : Kind) → fits syms.Via t (m.via_move t) ≡ true
fits-via kinds.Bad = refl
fits-via _ = refl

fits-expr : (t : Kind) → fits syms.Expr t (m.expr_move t) ≡ true
fits-expr kinds.Bad = refl
fits-expr _ = refl

fits-rest : (t : Kind) → fits syms.Rest t (m.rest_move t) ≡ true
fits-rest kinds.Bad = refl
fits-rest _ = refl

fits-end : (t : Kind) → fits syms.End t (m.end_move t) ≡ true
fits-end kinds.Bad = refl
fits-end _ = refl

fits-operand : (t : Kind) → fits syms.Operand t (m.operand_move t) ≡ true
fits-operand kinds.Bad = refl
fits-operand _ = refl

fits-atom : (t : Kind) → fits syms.Atom t (m.atom_move t) ≡ true
fits-atom kinds.Bad = refl
fits-atom _ = refl

fits-path_atom : (t : Kind) → fits syms.PathAtom t (m.path_atom_move t) ≡ true
fits-path_atom kinds.Bad = refl
fits-path_atom _ = refl

fits-this_atom : (t : Kind) → fits syms.ThisAtom t (m.this_atom_move t) ≡ true
fits-this_atom kinds.Bad = refl
fits-this_atom _ = refl

fits-cut : (t : Kind) → fits syms.Cut t (m.cut_move t) ≡ true
fits-cut kinds.Bad = refl
fits-cut _ = refl

fits-cut_tail : (t : Kind) → fits syms.CutTail t (m.cut_tail_move t) ≡ true
fits-cut_tail kinds.Bad = refl
fits-cut_tail _ = refl

fits-cut_end : (t : Kind) → fits syms.CutEnd t (m.cut_end_move t) ≡ true
fits-cut_end kinds.Bad = refl
fits-cut_end _ = refl

fits-call_open : (t : Kind) → fits syms.CallOpen t (m.call_open_move t) ≡ true
fits-call_open kinds.Bad = refl
fits-call_open _ = refl

fits-givens_open : (t : Kind) → fits syms.GivensOpen t (m.givens_open_move t) ≡ true
fits-givens_open kinds.Bad = refl
fits-givens_open _ = refl

fits-givens : (t : Kind) → fits syms.Givens t (m.givens_move t) ≡ true
fits-givens kinds.Bad = refl
fits-givens _ = refl

fits-more_givens : (t : Kind) → fits syms.MoreGivens t (m.more_givens_move t) ≡ true
fits-more_givens kinds.Bad = refl
fits-more_givens _ = refl

fits-name : (t : Kind) → fits syms.AName t (m.name_move t) ≡ true
fits-name kinds.Bad = refl
fits-name _ = refl

fits-text : (t : Kind) → fits syms.AText t (m.text_move t) ≡ true
fits-text kinds.Bad = refl
fits-text _ = refl

fits-dot : (t : Kind) → fits syms.ADot t (m.dot_move t) ≡ true
fits-dot kinds.Bad = refl
fits-dot _ = refl

fits-colon : (t : Kind) → fits syms.AColon t (m.colon_move t) ≡ true
fits-colon kinds.Bad = refl
fits-colon _ = refl

fits-semicolon : (t : Kind) → fits syms.ASemicolon t (m.semicolon_move t) ≡ true
fits-semicolon kinds.Bad = refl
fits-semicolon _ = refl

fits-equals : (t : Kind) → fits syms.AnEquals t (m.equals_move t) ≡ true
fits-equals kinds.Bad = refl
fits-equals _ = refl

fits-question : (t : Kind) → fits syms.AQuestion t (m.question_move t) ≡ true
fits-question kinds.Bad = refl
fits-question _ = refl

fits-dots_equals : (t : Kind) → fits syms.ADotsEquals t (m.dots_equals_move t) ≡ true
fits-dots_equals kinds.Bad = refl
fits-dots_equals _ = refl

fits-right_round : (t : Kind) → fits syms.RightRound t (m.right_round_move t) ≡ true
fits-right_round kinds.Bad = refl
fits-right_round _ = refl

fits-right_square : (t : Kind) → fits syms.RightSquare t (m.right_square_move t) ≡ true
fits-right_square kinds.Bad = refl
fits-right_square _ = refl

fits-plus : (op : Op) → fits syms.OtherFields (kinds.Chain op) (m.plus_move op) ≡ true
fits-plus ops.Add = refl
fits-plus _ = refl

fits-other_fields : (t : Kind) → fits syms.OtherFields t (m.other_fields_move t) ≡ true
fits-other_fields (kinds.Chain op) = fits-plus op
fits-other_fields _ = refl

fits-link : (c : Bool) (op next : Op) → fits (syms.Links op) (kinds.Chain next) (if c then Take (syms.Operand ∷ syms.Links op ∷ []) else m.wrong_mix) ≡ true
fits-link true op next = refl
fits-link false op next = refl

fits-links : (op : Op) (t : Kind) → fits (syms.Links op) t (m.links_move op t) ≡ true
fits-links op (kinds.Chain next) = fits-link (same_op op next) op next
fits-links op _ = refl

fits-end_label : (label : TextId) (t : Kind) → fits (syms.EndLabel label) t (m.end_label_move label t) ≡ true
fits-end_label label kinds.Bad = refl
fits-end_label label _ = refl

fits-found : (c : Bool) (label n : TextId) → fits (syms.Label label) (kinds.Name n) (if c then Take [] else m.wrong) ≡ true
fits-found true label n = refl
fits-found false label n = refl

fits-label : (label : TextId) (t : Kind) → fits (syms.Label label) t (m.label_move label t) ≡ true
fits-label label (kinds.Name n) = fits-found (nat_eq label.0 n.0) label n
fits-label label _ = refl

pub all_fit : (s : Sym) (t : Kind) → fits s t (move s t) ≡ true
all_fit syms.File t = fits-file t
all_fit syms.Decl t = fits-decl t
all_fit syms.FieldsMark t = fits-fields_mark t
all_fit syms.FieldsOpen t = fits-fields_open t
all_fit syms.Fields t = fits-fields t
all_fit syms.MoreFields t = fits-more_fields t
all_fit syms.OtherFields t = fits-other_fields t
all_fit syms.MethodTail t = fits-method_tail t
all_fit syms.Body t = fits-body t
all_fit syms.WholeType t = fits-type t
all_fit syms.ArrayLength t = fits-array_length t
all_fit syms.BaseName t = fits-base_name t
all_fit syms.BoundsPart t = fits-bounds t
all_fit syms.Low t = fits-low t
all_fit syms.Vars t = fits-vars t
all_fit syms.MoreVars t = fits-more_vars t
all_fit syms.Block t = fits-block t
all_fit syms.Items t = fits-items t
all_fit syms.MoreItems t = fits-more_items t
all_fit syms.PathStmt t = fits-path_stmt t
all_fit syms.ThisStmt t = fits-this_stmt t
all_fit syms.TargetStmt t = fits-target_stmt t
all_fit syms.Call t = fits-call t
all_fit syms.CallThis t = fits-call_this t
all_fit syms.CallMark t = fits-call_mark t
all_fit syms.Else t = fits-else t
all_fit syms.ElseTail t = fits-else_tail t
all_fit syms.WhileHead t = fits-while t
all_fit syms.LabelHead t = fits-label_head t
all_fit syms.Clauses t = fits-clauses t
all_fit syms.ClauseTail t = fits-clause_tail t
all_fit syms.EndPart t = fits-end_part t
all_fit (syms.EndLabel label) t = fits-end_label label t
all_fit (syms.Label label) t = fits-label label t
all_fit syms.LabelPart t = fits-label_part t
all_fit syms.Result t = fits-result t
all_fit syms.Via t = fits-via t
all_fit syms.Expr t = fits-expr t
all_fit syms.Rest t = fits-rest t
all_fit (syms.Links op) t = fits-links op t
all_fit syms.End t = fits-end t
all_fit syms.Operand t = fits-operand t
all_fit syms.Atom t = fits-atom t
all_fit syms.PathAtom t = fits-path_atom t
all_fit syms.ThisAtom t = fits-this_atom t
all_fit syms.Cut t = fits-cut t
all_fit syms.CutTail t = fits-cut_tail t
all_fit syms.CutEnd t = fits-cut_end t
all_fit syms.CallOpen t = fits-call_open t
all_fit syms.GivensOpen t = fits-givens_open t
all_fit syms.Givens t = fits-givens t
all_fit syms.MoreGivens t = fits-more_givens t
all_fit syms.AName t = fits-name t
all_fit syms.AText t = fits-text t
all_fit syms.ADot t = fits-dot t
all_fit syms.AColon t = fits-colon t
all_fit syms.ASemicolon t = fits-semicolon t
all_fit syms.AnEquals t = fits-equals t
all_fit syms.AQuestion t = fits-question t
all_fit syms.ADotsEquals t = fits-dots_equals t
all_fit syms.RightRound t = fits-right_round t
all_fit syms.RightSquare t = fits-right_square t
