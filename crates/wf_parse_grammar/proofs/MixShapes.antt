-- Moves that want nothing after an operand or an operation, and refuse no mix.
use Rattle.std.proofs.Common.{◌≡◌, Bool, true, false, ◌&&◌, not, List, [], ◌∷◌, refl, nat_eq, if◌then◌else◌}
use Rattle.wf_text.specs.declared.rules.Rule.{Rule}
use Rattle.wf_text.specs.declared.rules.Rule.TheVariants.{S6}
use Rattle.wf_ast.specs.declared.numbers.TextId.{TextId}
use Rattle.wf_ast.specs.declared.operators.Op.{Op}
use Rattle.wf_ast.specs.declared.operators.Op.TheVariants as ops
use Rattle.wf_parse_grammar.specs.declared.tokens.Kind.{Kind}
use Rattle.wf_parse_grammar.specs.declared.tokens.Kind.TheVariants as kinds
use Rattle.wf_parse_grammar.specs.declared.symbols.Sym.{Sym}
use Rattle.wf_parse_grammar.specs.declared.symbols.Sym.TheVariants as syms
use Rattle.wf_parse_grammar.specs.Machine as m
use Rattle.wf_parse_grammar.specs.Machine.{Move, Take, Begin, Enter, Pass, Stop}

-- All symbols but those that stand after an operand or an operation.
abbrev pub is_plain : Sym → Bool
is_plain syms.Rest = false
is_plain (syms.Links op) = false
is_plain syms.End = false
is_plain _ = true

abbrev pub all_plain : List Sym → Bool
all_plain [] = true
all_plain (s ∷ k) = is_plain s && all_plain k

abbrev pub is_mix : Rule → Bool
is_mix S6 = true
is_mix _ = false

-- A move that wants nothing else and refuses no mix.
abbrev pub is_mild : Move → Bool
is_mild (Take xs) = all_plain xs
is_mild (Begin xs) = all_plain xs
is_mild (Enter xs) = all_plain xs
is_mild Pass = true
is_mild (Stop r) = not (is_mix r)

pub mild-file : (t : Kind) → is_mild (m.file_move t) ≡ true
mild-file kinds.Bad = refl
mild-file _ = refl

pub mild-decl : (t : Kind) → is_mild (m.decl_move t) ≡ true
mild-decl kinds.Bad = refl
mild-decl _ = refl

pub mild-fields_mark : (t : Kind) → is_mild (m.fields_mark_move t) ≡ true
mild-fields_mark kinds.Bad = refl
mild-fields_mark _ = refl

pub mild-fields_open : (t : Kind) → is_mild (m.fields_open_move t) ≡ true
mild-fields_open kinds.Bad = refl
mild-fields_open _ = refl

pub mild-fields : (t : Kind) → is_mild (m.fields_move t) ≡ true
mild-fields kinds.Bad = refl
mild-fields _ = refl

pub mild-more_fields : (t : Kind) → is_mild (m.more_fields_move t) ≡ true
mild-more_fields kinds.Bad = refl
mild-more_fields _ = refl

pub mild-method_tail : (t : Kind) → is_mild (m.method_tail_move t) ≡ true
mild-method_tail kinds.Bad = refl
mild-method_tail _ = refl

pub mild-body : (t : Kind) → is_mild (m.body_move t) ≡ true
mild-body kinds.Bad = refl
mild-body _ = refl

pub mild-type : (t : Kind) → is_mild (m.type_move t) ≡ true
mild-type kinds.Bad = refl
mild-type _ = refl

pub mild-array_length : (t : Kind) → is_mild (m.array_length_move t) ≡ true
mild-array_length kinds.Bad = refl
mild-array_length _ = refl

pub mild-base_name : (t : Kind) → is_mild (m.base_name_move t) ≡ true
mild-base_name kinds.Bad = refl
mild-base_name _ = refl

pub mild-bounds : (t : Kind) → is_mild (m.bounds_move t) ≡ true
mild-bounds kinds.Bad = refl
mild-bounds _ = refl

pub mild-vars : (t : Kind) → is_mild (m.vars_move t) ≡ true
mild-vars kinds.Bad = refl
mild-vars _ = refl

pub mild-more_vars : (t : Kind) → is_mild (m.more_vars_move t) ≡ true
mild-more_vars kinds.Bad = refl
mild-more_vars _ = refl

pub mild-block : (t : Kind) → is_mild (m.block_move t) ≡ true
mild-block kinds.Bad = refl
mild-block _ = refl

pub mild-items : (t : Kind) → is_mild (m.items_move t) ≡ true
mild-items kinds.Bad = refl
mild-items _ = refl

pub mild-more_items : (t : Kind) → is_mild (m.more_items_move t) ≡ true
mild-more_items kinds.Bad = refl
mild-more_items _ = refl

pub mild-path_stmt : (t : Kind) → is_mild (m.path_stmt_move t) ≡ true
mild-path_stmt kinds.Bad = refl
mild-path_stmt _ = refl

pub mild-this_stmt : (t : Kind) → is_mild (m.this_stmt_move t) ≡ true
mild-this_stmt kinds.Bad = refl
mild-this_stmt _ = refl

pub mild-target_stmt : (t : Kind) → is_mild (m.target_stmt_move t) ≡ true
mild-target_stmt kinds.Bad = refl
mild-target_stmt _ = refl

pub mild-call : (t : Kind) → is_mild (m.call_move t) ≡ true
mild-call kinds.Bad = refl
mild-call _ = refl

pub mild-call_this : (t : Kind) → is_mild (m.call_this_move t) ≡ true
mild-call_this kinds.Bad = refl
mild-call_this _ = refl

pub mild-call_mark : (t : Kind) → is_mild (m.call_mark_move t) ≡ true
mild-call_mark kinds.Bad = refl
mild-call_mark _ = refl

pub mild-else : (t : Kind) → is_mild (m.else_move t) ≡ true
mild-else kinds.Bad = refl
mild-else _ = refl

pub mild-else_tail : (t : Kind) → is_mild (m.else_tail_move t) ≡ true
mild-else_tail kinds.Bad = refl
mild-else_tail _ = refl

pub mild-label_head : (t : Kind) → is_mild (m.label_head_move t) ≡ true
mild-label_head kinds.Bad = refl
mild-label_head _ = refl

pub mild-clauses : (t : Kind) → is_mild (m.clauses_move t) ≡ true
mild-clauses kinds.Bad = refl
mild-clauses _ = refl

pub mild-clause_tail : (t : Kind) → is_mild (m.clause_tail_move t) ≡ true
mild-clause_tail kinds.Bad = refl
mild-clause_tail _ = refl

pub mild-end_part : (t : Kind) → is_mild (m.end_part_move t) ≡ true
mild-end_part kinds.Bad = refl
mild-end_part _ = refl

pub mild-label_part : (t : Kind) → is_mild (m.label_part_move t) ≡ true
mild-label_part kinds.Bad = refl
mild-label_part _ = refl

pub mild-via : (t : Kind) → is_mild (m.via_move t) ≡ true
mild-via kinds.Bad = refl
mild-via _ = refl

pub mild-operand : (t : Kind) → is_mild (m.operand_move t) ≡ true
mild-operand kinds.Bad = refl
mild-operand _ = refl

pub mild-atom : (t : Kind) → is_mild (m.atom_move t) ≡ true
mild-atom kinds.Bad = refl
mild-atom _ = refl

pub mild-path_atom : (t : Kind) → is_mild (m.path_atom_move t) ≡ true
mild-path_atom kinds.Bad = refl
mild-path_atom _ = refl

pub mild-this_atom : (t : Kind) → is_mild (m.this_atom_move t) ≡ true
mild-this_atom kinds.Bad = refl
mild-this_atom _ = refl

pub mild-cut_tail : (t : Kind) → is_mild (m.cut_tail_move t) ≡ true
mild-cut_tail kinds.Bad = refl
mild-cut_tail _ = refl

pub mild-call_open : (t : Kind) → is_mild (m.call_open_move t) ≡ true
mild-call_open kinds.Bad = refl
mild-call_open _ = refl

pub mild-givens_open : (t : Kind) → is_mild (m.givens_open_move t) ≡ true
mild-givens_open kinds.Bad = refl
mild-givens_open _ = refl

pub mild-givens : (t : Kind) → is_mild (m.givens_move t) ≡ true
mild-givens kinds.Bad = refl
mild-givens _ = refl

pub mild-more_givens : (t : Kind) → is_mild (m.more_givens_move t) ≡ true
mild-more_givens kinds.Bad = refl
mild-more_givens _ = refl

pub mild-name : (t : Kind) → is_mild (m.name_move t) ≡ true
mild-name kinds.Bad = refl
mild-name _ = refl

pub mild-text : (t : Kind) → is_mild (m.text_move t) ≡ true
mild-text kinds.Bad = refl
mild-text _ = refl

pub mild-dot : (t : Kind) → is_mild (m.dot_move t) ≡ true
mild-dot kinds.Bad = refl
mild-dot _ = refl

pub mild-colon : (t : Kind) → is_mild (m.colon_move t) ≡ true
mild-colon kinds.Bad = refl
mild-colon _ = refl

pub mild-semicolon : (t : Kind) → is_mild (m.semicolon_move t) ≡ true
mild-semicolon kinds.Bad = refl
mild-semicolon _ = refl

pub mild-equals : (t : Kind) → is_mild (m.equals_move t) ≡ true
mild-equals kinds.Bad = refl
mild-equals _ = refl

pub mild-question : (t : Kind) → is_mild (m.question_move t) ≡ true
mild-question kinds.Bad = refl
mild-question _ = refl

pub mild-dots_equals : (t : Kind) → is_mild (m.dots_equals_move t) ≡ true
mild-dots_equals kinds.Bad = refl
mild-dots_equals _ = refl

pub mild-right_round : (t : Kind) → is_mild (m.right_round_move t) ≡ true
mild-right_round kinds.Bad = refl
mild-right_round _ = refl

pub mild-right_square : (t : Kind) → is_mild (m.right_square_move t) ≡ true
mild-right_square kinds.Bad = refl
mild-right_square _ = refl

mild-plus : (op : Op) → is_mild (m.plus_move op) ≡ true
mild-plus ops.Add = refl
mild-plus _ = refl

pub mild-other_fields : (t : Kind) → is_mild (m.other_fields_move t) ≡ true
mild-other_fields (kinds.Chain op) = mild-plus op
mild-other_fields _ = refl

pub mild-end_label : (label : TextId) (t : Kind) → is_mild (m.end_label_move label t) ≡ true
mild-end_label label kinds.Bad = refl
mild-end_label label _ = refl

mild-found : (c : Bool) → is_mild (if c then Take [] else m.wrong) ≡ true
mild-found true = refl
mild-found false = refl

pub mild-label : (label : TextId) (t : Kind) → is_mild (m.label_move label t) ≡ true
mild-label label (kinds.Name n) = mild-found (nat_eq label.0 n.0)
mild-label label _ = refl
