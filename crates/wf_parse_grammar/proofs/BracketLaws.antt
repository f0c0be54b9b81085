-- The brackets that a stack owes are those that the tokens have opened and not closed.
use Rattle.std.proofs.Common.{◌≡◌, ◌∙◌, ◌+◌, ap, sym, ℕ, Bool, true, false, Option, None, Some, List, [], ◌∷◌, ◌++◌, refl, nat_eq, if◌then◌else◌, arith}
use Rattle.wf_ast.specs.declared.numbers.TextId.{TextId}
use Rattle.wf_ast.specs.declared.operators.Op.{Op}
use Rattle.wf_ast.specs.declared.operators.Op.TheVariants as ops
use Rattle.wf_parse_grammar.specs.declared.tokens.Kind.{Kind}
use Rattle.wf_parse_grammar.specs.declared.tokens.Kind.TheVariants as kinds
use Rattle.wf_parse_grammar.specs.declared.tokens.Token.{Token}
use Rattle.wf_parse_grammar.specs.Machine as m
use Rattle.wf_parse_grammar.specs.declared.symbols.Sym.{Sym}
use Rattle.wf_parse_grammar.specs.declared.symbols.Sym.TheVariants as syms
use Rattle.wf_parse_grammar.specs.Machine.{Move, Take, Begin, Enter, Pass, Stop, move, owes, one_more_if, open_count}
use Rattle.wf_ast.specs.Operators.{same_op}
use Rattle.wf_parse_grammar.specs.Brackets.{one_if, is_opening, is_closing, opened, closed}
use Rattle.wf_parse_grammar.specs.Feeding.{fed, feed, feeds, go_on}

-- What a move does to the count, of its own symbol's debt and of the token's bracket.
abbrev Counts : Bool → Kind → Move → Type 0
Counts owed t (Take xs) = open_count xs + one_if (is_closing t) ≡ one_if owed + one_if (is_opening t)
Counts owed t (Begin xs) = open_count xs + one_if (is_closing t) ≡ one_if owed + one_if (is_opening t)
Counts owed t (Enter xs) = open_count xs + one_if (is_closing t) ≡ one_if owed + one_if (is_opening t)
Counts owed t Pass = owed ≡ false
Counts owed t (Stop r) = false ≡ false

counts-file : (t : Kind) → Counts (owes syms.File) t (move syms.File t)
counts-file kinds.As = refl
counts-file _ = refl

counts-decl : (t : Kind) → Counts (owes syms.Decl) t (move syms.Decl t)
counts-decl kinds.As = refl
counts-decl _ = refl

counts-fields_mark : (t : Kind) → Counts (owes syms.FieldsMark) t (move syms.FieldsMark t)
counts-fields_mark kinds.As = refl
counts-fields_mark _ = refl

counts-fields_open : (t : Kind) → Counts (owes syms.FieldsOpen) t (move syms.FieldsOpen t)
counts-fields_open kinds.As = refl
counts-fields_open _ = refl

counts-fields : (t : Kind) → Counts (owes syms.Fields) t (move syms.Fields t)
counts-fields kinds.As = refl
counts-fields _ = refl

counts-more_fields : (t : Kind) → Counts (owes syms.MoreFields) t (move syms.MoreFields t)
counts-more_fields kinds.As = refl
counts-more_fields _ = refl

counts-plus : (op : Op) → Counts false (kinds.Chain op) (m.plus_move op)
counts-plus ops.Add = refl
counts-plus _ = refl

counts-other_fields : (t : Kind) → Counts false t (m.other_fields_move t)
counts-other_fields (kinds.Chain op) = counts-plus op
counts-other_fields _ = refl

counts-method_tail : (t : Kind) → Counts (owes syms.MethodTail) t (move syms.MethodTail t)
counts-method_tail kinds.As = refl
counts-method_tail _ = refl

counts-body : (t : Kind) → Counts (owes syms.Body) t (move syms.Body t)
counts-body kinds.As = refl
counts-body _ = refl

counts-type : (t : Kind) → Counts (owes syms.WholeType) t (move syms.WholeType t)
counts-type kinds.As = refl
counts-type _ = refl

counts-array_length : (t : Kind) → Counts (owes syms.ArrayLength) t (move syms.ArrayLength t)
counts-array_length kinds.As = refl
counts-array_length _ = refl

counts-base_name : (t : Kind) → Counts (owes syms.BaseName) t (move syms.BaseName t)
counts-base_name kinds.As = refl
counts-base_name _ = refl

counts-bounds : (t : Kind) → Counts (owes syms.BoundsPart) t (move syms.BoundsPart t)
counts-bounds kinds.As = refl
counts-bounds _ = refl

counts-low : (t : Kind) → Counts (owes syms.Low) t (move syms.Low t)
counts-low kinds.As = refl
counts-low _ = refl

counts-vars : (t : Kind) → Counts (owes syms.Vars) t (move syms.Vars t)
counts-vars kinds.As = refl
counts-vars _ = refl

counts-more_vars : (t : Kind) → Counts (owes syms.MoreVars) t (move syms.MoreVars t)
counts-more_vars kinds.As = refl
counts-more_vars _ = refl

counts-block : (t : Kind) → Counts (owes syms.Block) t (move syms.Block t)
counts-block kinds.As = refl
counts-block _ = refl

counts-items : (t : Kind) → Counts (owes syms.Items) t (move syms.Items t)
counts-items kinds.As = refl
counts-items _ = refl

counts-more_items : (t : Kind) → Counts (owes syms.MoreItems) t (move syms.MoreItems t)
counts-more_items kinds.As = refl
counts-more_items _ = refl

counts-path_stmt : (t : Kind) → Counts (owes syms.PathStmt) t (move syms.PathStmt t)
counts-path_stmt kinds.As = refl
counts-path_stmt _ = refl

counts-this_stmt : (t : Kind) → Counts (owes syms.ThisStmt) t (move syms.ThisStmt t)
counts-this_stmt kinds.As = refl
counts-this_stmt _ = refl

counts-target_stmt : (t : Kind) → Counts (owes syms.TargetStmt) t (move syms.TargetStmt t)
counts-target_stmt kinds.As = refl
counts-target_stmt _ = refl

counts-call : (t : Kind) → Counts (owes syms.Call) t (move syms.Call t)
counts-call kinds.As = refl
counts-call _ = refl

counts-call_this : (t : Kind) → Counts (owes syms.CallThis) t (move syms.CallThis t)
counts-call_this kinds.As = refl
counts-call_this _ = refl

counts-call_mark : (t : Kind) → Counts (owes syms.CallMark) t (move syms.CallMark t)
counts-call_mark kinds.As = refl
counts-call_mark _ = refl

counts-else : (t : Kind) → Counts (owes syms.Else) t (move syms.Else t)
counts-else kinds.As = refl
counts-else _ = refl

counts-else_tail : (t : Kind) → Counts (owes syms.ElseTail) t (move syms.ElseTail t)
counts-else_tail kinds.As = refl
counts-else_tail _ = refl

counts-while : (t : Kind) → Counts (owes syms.WhileHead) t (move syms.WhileHead t)
counts-while kinds.As = refl
counts-while _ = refl

counts-label_head : (t : Kind) → Counts (owes syms.LabelHead) t (move syms.LabelHead t)
counts-label_head kinds.As = refl
counts-label_head _ = refl

counts-clauses : (t : Kind) → Counts (owes syms.Clauses) t (move syms.Clauses t)
counts-clauses kinds.As = refl
counts-clauses _ = refl

counts-clause_tail : (t : Kind) → Counts (owes syms.ClauseTail) t (move syms.ClauseTail t)
counts-clause_tail kinds.As = refl
counts-clause_tail _ = refl

counts-end_part : (t : Kind) → Counts (owes syms.EndPart) t (move syms.EndPart t)
counts-end_part kinds.As = refl
counts-end_part _ = refl

counts-label_part : (t : Kind) → Counts (owes syms.LabelPart) t (move syms.LabelPart t)
counts-label_part kinds.As = refl
counts-label_part _ = refl

counts-result : (t : Kind) → Counts (owes syms.Result) t (move syms.Result t)
counts-result kinds.As = refl
counts-result _ = refl

counts-via : (t : Kind) → Counts (owes syms.Via) t (move syms.Via t)
counts-via kinds.As = refl
counts-via _ = refl

counts-expr : (t : Kind) → Counts (owes syms.Expr) t (move syms.Expr t)
counts-expr kinds.As = refl
counts-expr _ = refl

counts-rest : (t : Kind) → Counts (owes syms.Rest) t (move syms.Rest t)
counts-rest kinds.As = refl
counts-rest _ = refl

counts-end : (t : Kind) → Counts (owes syms.End) t (move syms.End t)
counts-end kinds.As = refl
counts-end _ = refl

counts-operand : (t : Kind) → Counts (owes syms.Operand) t (move syms.Operand t)
counts-operand kinds.As = refl
counts-operand _ = refl

counts-atom : (t : Kind) → Counts (owes syms.Atom) t (move syms.Atom t)
counts-atom kinds.As = refl
counts-atom _ = refl

counts-path_atom : (t : Kind) → Counts (owes syms.PathAtom) t (move syms.PathAtom t)
counts-path_atom kinds.As = refl
counts-path_atom _ = refl

counts-this_atom : (t : Kind) → Counts (owes syms.ThisAtom) t (move syms.ThisAtom t)
counts-this_atom kinds.As = refl
counts-this_atom _ = refl

counts-cut : (t : Kind) → Counts (owes syms.Cut) t (move syms.Cut t)
counts-cut kinds.As = refl
counts-cut _ = refl

counts-cut_tail : (t : Kind) → Counts (owes syms.CutTail) t (move syms.CutTail t)
counts-cut_tail kinds.As = refl
counts-cut_tail _ = refl

counts-cut_end : (t : Kind) → Counts (owes syms.CutEnd) t (move syms.CutEnd t)
counts-cut_end kinds.As = refl
counts-cut_end _ = refl

counts-call_open : (t : Kind) → Counts (owes syms.CallOpen) t (move syms.CallOpen t)
counts-call_open kinds.As = refl
counts-call_open _ = refl

counts-givens_open : (t : Kind) → Counts (owes syms.GivensOpen) t (move syms.GivensOpen t)
counts-givens_open kinds.As = refl
counts-givens_open _ = refl

counts-givens : (t : Kind) → Counts (owes syms.Givens) t (move syms.Givens t)
counts-givens kinds.As = refl
counts-givens _ = refl

counts-more_givens : (t : Kind) → Counts (owes syms.MoreGivens) t (move syms.MoreGivens t)
counts-more_givens kinds.As = refl
counts-more_givens _ = refl

counts-name : (t : Kind) → Counts (owes syms.AName) t (move syms.AName t)
counts-name kinds.As = refl
counts-name _ = refl

counts-text : (t : Kind) → Counts (owes syms.AText) t (move syms.AText t)
counts-text kinds.As = refl
counts-text _ = refl

counts-dot : (t : Kind) → Counts (owes syms.ADot) t (move syms.ADot t)
counts-dot kinds.As = refl
counts-dot _ = refl

counts-colon : (t : Kind) → Counts (owes syms.AColon) t (move syms.AColon t)
counts-colon kinds.As = refl
counts-colon _ = refl

counts-semicolon : (t : Kind) → Counts (owes syms.ASemicolon) t (move syms.ASemicolon t)
counts-semicolon kinds.As = refl
counts-semicolon _ = refl

counts-equals : (t : Kind) → Counts (owes syms.AnEquals) t (move syms.AnEquals t)
counts-equals kinds.As = refl
counts-equals _ = refl

counts-question : (t : Kind) → Counts (owes syms.AQuestion) t (move syms.AQuestion t)
counts-question kinds.As = refl
counts-question _ = refl

counts-dots_equals : (t : Kind) → Counts (owes syms.ADotsEquals) t (move syms.ADotsEquals t)
counts-dots_equals kinds.As = refl
counts-dots_equals _ = refl

counts-right_round : (t : Kind) → Counts (owes syms.RightRound) t (move syms.RightRound t)
counts-right_round kinds.As = refl
counts-right_round _ = refl

counts-right_square : (t : Kind) → Counts (owes syms.RightSquare) t (move syms.RightSquare t)
counts-right_square kinds.As = refl
counts-right_square _ = refl

counts-link : (b : Bool) (op next : Op) → Counts false (kinds.Chain next) (if b then Take (syms.Operand ∷ syms.Links op ∷ []) else m.wrong_mix)
counts-link true op next = refl
counts-link false op next = refl

counts-links : (op : Op) (t : Kind) → Counts false t (m.links_move op t)
counts-links op (kinds.Chain next) = counts-link (same_op op next) op next
counts-links op _ = refl

counts-end_label : (label : TextId) (t : Kind) → Counts false t (m.end_label_move label t)
counts-end_label label kinds.Bad = refl
counts-end_label label _ = refl

counts-found : (b : Bool) (n : TextId) → Counts false (kinds.Name n) (if b then Take [] else m.wrong)
counts-found true n = refl
counts-found false n = refl

counts-label : (label : TextId) (t : Kind) → Counts false t (m.label_move label t)
counts-label label (kinds.Name n) = counts-found (nat_eq label.0 n.0) n
counts-label label _ = refl

counts : (s : Sym) (t : Kind) → Counts (owes s) t (move s t)
counts syms.File t = counts-file t
counts syms.Decl t = counts-decl t
counts syms.FieldsMark t = counts-fields_mark t
counts syms.FieldsOpen t = counts-fields_open t
counts syms.Fields t = counts-fields t
counts syms.MoreFields t = counts-more_fields t
counts syms.OtherFields t = counts-other_fields t
counts syms.MethodTail t = counts-method_tail t
counts syms.Body t = counts-body t
counts syms.WholeType t = counts-type t
counts syms.ArrayLength t = counts-array_length t
counts syms.BaseName t = counts-base_name t
counts syms.BoundsPart t = counts-bounds t
counts syms.Low t = counts-low t
counts syms.Vars t = counts-vars t
counts syms.MoreVars t = counts-more_vars t
counts syms.Block t = counts-block t
counts syms.Items t = counts-items t
counts syms.MoreItems t = counts-more_items t
counts syms.PathStmt t = counts-path_stmt t
counts syms.ThisStmt t = counts-this_stmt t
counts syms.TargetStmt t = counts-target_stmt t
counts syms.Call t = counts-call t
counts syms.CallThis t = counts-call_this t
counts syms.CallMark t = counts-call_mark t
counts syms.Else t = counts-else t
counts syms.ElseTail t = counts-else_tail t
counts syms.WhileHead t = counts-while t
counts syms.LabelHead t = counts-label_head t
counts syms.Clauses t = counts-clauses t
counts syms.ClauseTail t = counts-clause_tail t
counts syms.EndPart t = counts-end_part t
counts syms.LabelPart t = counts-label_part t
counts syms.Result t = counts-result t
counts syms.Via t = counts-via t
counts syms.Expr t = counts-expr t
counts syms.Rest t = counts-rest t
counts syms.End t = counts-end t
counts syms.Operand t = counts-operand t
counts syms.Atom t = counts-atom t
counts syms.PathAtom t = counts-path_atom t
counts syms.ThisAtom t = counts-this_atom t
counts syms.Cut t = counts-cut t
counts syms.CutTail t = counts-cut_tail t
counts syms.CutEnd t = counts-cut_end t
counts syms.CallOpen t = counts-call_open t
counts syms.GivensOpen t = counts-givens_open t
counts syms.Givens t = counts-givens t
counts syms.MoreGivens t = counts-more_givens t
counts syms.AName t = counts-name t
counts syms.AText t = counts-text t
counts syms.ADot t = counts-dot t
counts syms.AColon t = counts-colon t
counts syms.ASemicolon t = counts-semicolon t
counts syms.AnEquals t = counts-equals t
counts syms.AQuestion t = counts-question t
counts syms.ADotsEquals t = counts-dots_equals t
counts syms.RightRound t = counts-right_round t
counts syms.RightSquare t = counts-right_square t
counts (syms.Links op) t = counts-links op t
counts (syms.EndLabel label) t = counts-end_label label t
counts (syms.Label label) t = counts-label label t

open_count-append : (xs ys : List Sym) → open_count (xs ++ ys) ≡ open_count xs + open_count ys
open_count-append [] ys = omega arith
open_count-append (x ∷ xs) ys = more-append (owes x) (open_count-append xs ys)
  where
    more-append : (b : Bool) → open_count (xs ++ ys) ≡ open_count xs + open_count ys → one_more_if b (open_count (xs ++ ys)) ≡ one_more_if b (open_count xs) + open_count ys
    more-append true e = omega arith
    more-append false e = e

one_more-is : (b : Bool) (n : ℕ) → one_more_if b n ≡ one_if b + n
one_more-is true n = omega arith
one_more-is false n = omega arith

-- One token.
fed-counts : (s : Sym) (t : Kind) (k : List Sym) (w : Move) (passed : Option (List Sym)) (wanted : List Sym) → Counts (owes s) t w
    → ((next : List Sym) → passed ≡ Some next → open_count next + one_if (is_closing t) ≡ open_count k + one_if (is_opening t))
    → fed w k passed ≡ Some wanted → open_count wanted + one_if (is_closing t) ≡ open_count (s ∷ k) + one_if (is_opening t)
fed-counts s t k (Take xs) passed wanted c f e = let h : xs ++ k ≡ wanted = cc e in let g = ap open_count h in omega (arith, open_count-append xs k, one_more-is (owes s) (open_count k), c, g)
fed-counts s t k (Begin xs) passed wanted c f e = let h : xs ++ k ≡ wanted = cc e in let g = ap open_count h in omega (arith, open_count-append xs k, one_more-is (owes s) (open_count k), c, g)
fed-counts s t k (Enter xs) passed wanted c f e = let h : xs ++ k ≡ wanted = cc e in let g = ap open_count h in omega (arith, open_count-append xs k, one_more-is (owes s) (open_count k), c, g)
fed-counts s t k Pass passed wanted c f e =
    let g : one_more_if (owes s) (open_count k) ≡ open_count k = ap (λ b. one_more_if b (open_count k)) c in
    f wanted e ∙ ap (λ n. n + one_if (is_opening t)) (sym g)
fed-counts s t k (Stop r) passed wanted c f e = absurd (cc e)

pub feed-counts : (k : List Sym) (t : Kind) (wanted : List Sym) → feed k t ≡ Some wanted → open_count wanted + one_if (is_closing t) ≡ open_count k + one_if (is_opening t)
feed-counts [] t wanted e = absurd (cc e)
feed-counts (s ∷ k) t wanted e = fed-counts s t k (move s t) (feed k t) wanted (counts s t) (λ next h. feed-counts k t next h) e

go-counts : (o : Option (List Sym)) (t : Token) (ts : List Token) (k wanted : List Sym)
    → ((next : List Sym) → o ≡ Some next → open_count next + one_if (is_closing t.kind) ≡ open_count k + one_if (is_opening t.kind))
    → ((next : List Sym) → feeds ts next ≡ Some wanted → open_count wanted + closed ts ≡ open_count next + opened ts)
    → go_on o (λ next. feeds ts next) ≡ Some wanted → open_count wanted + closed (t ∷ ts) ≡ open_count k + opened (t ∷ ts)
go-counts None t ts k wanted f g e = absurd (cc e)
go-counts (Some next) t ts k wanted f g e = omega (arith, f next refl, g next e)

-- The law of open brackets.
pub feeds-counts : (ts : List Token) (k wanted : List Sym) → feeds ts k ≡ Some wanted → open_count wanted + closed ts ≡ open_count k + opened ts
feeds-counts [] k wanted e = let h : k ≡ wanted = cc e in ap (λ j. open_count j + 0) (sym h)
feeds-counts (t ∷ ts) k wanted e = go-counts (feed k t.kind) t ts k wanted (λ next h. feed-counts k t.kind next h) (λ next h. feeds-counts ts next wanted h) e
