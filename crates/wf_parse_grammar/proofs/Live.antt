-- The tokens that were read are live: followed by the completions of all that is open, from the innermost
-- outwards, they are a list of the grammar.
use Rattle.std.proofs.Common.{◌≡◌, sym, subst, Bool, true, false, Option, None, Some, List, [], ◌∷◌, ◌++◌, refl, nat_eq, if◌then◌else◌}
use Rattle.std.specs.Bool.{⊤}
use Rattle.wf_text.specs.declared.place.Place.{Place}
use Rattle.wf_ast.specs.declared.numbers.TextId.{TextId}
use Rattle.wf_parse_grammar.specs.declared.tokens.Kind.{Kind}
use Rattle.wf_parse_grammar.specs.declared.tokens.Kind.TheVariants as kinds
use Rattle.wf_parse_grammar.specs.declared.tokens.Token.{Token}
use Rattle.wf_parse_grammar.specs.Grammar.{token}
use Rattle.wf_parse_grammar.specs.Machine as m
use Rattle.wf_parse_grammar.specs.declared.symbols.Sym.{Sym}
use Rattle.wf_parse_grammar.specs.declared.symbols.Sym.TheVariants as syms
use Rattle.wf_parse_grammar.specs.Machine.{Move, Take, Begin, Enter, Pass, Stop, move, may_end}
use Rattle.wf_parse_grammar.specs.Words.{Words}
use Rattle.wf_parse_grammar.specs.Completions.{completions}
use Rattle.wf_parse_grammar.specs.Feeding.{fed, feed, feeds, go_on}
use Rattle.wf_parse_grammar.proofs.Completes.{all_complete, absent}
use Rattle.wf_parse_grammar.proofs.Back.{Back, cut-words, back-atom, back-operand, back-expr, back-path_atom, back-call_open, back-this_atom, back-cut, back-cut_tail, back-cut_end, back-rest, back-links, back-end, back-givens_open, back-givens, back-more_givens, back-type, back-array_length, back-base_name, back-bounds, back-low, back-dot, back-colon, back-semicolon, back-equals, back-question, back-dots_equals, back-right_round, back-right_square, back-name, back-text}
use Rattle.wf_parse_grammar.proofs.BackMore.{back-file, back-decl, back-fields_mark, back-fields_open, back-fields, back-more_fields, back-other_fields, back-method_tail, back-body, back-vars, back-more_vars, back-block, back-items, back-more_items, back-path_stmt, back-this_stmt, back-target_stmt, back-call, back-call_this, back-call_mark, back-else, back-else_tail, back-while, back-label_head, back-clauses, back-clause_tail, back-end_part, back-label_part, back-result, back-via, back-end_label, back-label}

pub back : (s : Sym) (k : Kind) (p : Place) → Back s (move s k) (token k p)
back syms.File k p = back-file k p
back syms.Decl k p = back-decl k p
back syms.FieldsMark k p = back-fields_mark k p
back syms.FieldsOpen k p = back-fields_open k p
back syms.Fields k p = back-fields k p
back syms.MoreFields k p = back-more_fields k p
back syms.OtherFields k p = back-other_fields k p
back syms.MethodTail k p = back-method_tail k p
back syms.Body k p = back-body k p
back syms.WholeType k p = back-type k p
back syms.ArrayLength k p = back-array_length k p
back syms.BaseName k p = back-base_name k p
back syms.BoundsPart k p = back-bounds k p
back syms.Low k p = back-low k p
back syms.Vars k p = back-vars k p
back syms.MoreVars k p = back-more_vars k p
back syms.Block k p = back-block k p
back syms.Items k p = back-items k p
back syms.MoreItems k p = back-more_items k p
back syms.PathStmt k p = back-path_stmt k p
back syms.ThisStmt k p = back-this_stmt k p
back syms.TargetStmt k p = back-target_stmt k p
back syms.Call k p = back-call k p
back syms.CallThis k p = back-call_this k p
back syms.CallMark k p = back-call_mark k p
back syms.Else k p = back-else k p
back syms.ElseTail k p = back-else_tail k p
back syms.WhileHead k p = back-while k p
back syms.LabelHead k p = back-label_head k p
back syms.Clauses k p = back-clauses k p
back syms.ClauseTail k p = back-clause_tail k p
back syms.EndPart k p = back-end_part k p
back syms.LabelPart k p = back-label_part k p
back syms.Result k p = back-result k p
back syms.Via k p = back-via k p
back syms.Expr k p = back-expr k p
back syms.Rest k p = back-rest k p
back syms.End k p = back-end k p
back syms.Operand k p = back-operand k p
back syms.Atom k p = back-atom k p
back syms.PathAtom k p = back-path_atom k p
back syms.ThisAtom k p = back-this_atom k p
back syms.Cut k p = back-cut k p
back syms.CutTail k p = back-cut_tail k p
back syms.CutEnd k p = back-cut_end k p
back syms.CallOpen k p = back-call_open k p
back syms.GivensOpen k p = back-givens_open k p
back syms.Givens k p = back-givens k p
back syms.MoreGivens k p = back-more_givens k p
back syms.AName k p = back-name k p
back syms.AText k p = back-text k p
back syms.ADot k p = back-dot k p
back syms.AColon k p = back-colon k p
back syms.ASemicolon k p = back-semicolon k p
back syms.AnEquals k p = back-equals k p
back syms.AQuestion k p = back-question k p
back syms.ADotsEquals k p = back-dots_equals k p
back syms.RightRound k p = back-right_round k p
back syms.RightSquare k p = back-right_square k p
back (syms.EndLabel label) k p = back-end_label label k p
back (syms.Label label) k p = back-label label k p
back (syms.Links op) k p = back-links op k p

-- Only what may be absent passes a token on.
abbrev pub OnPass : Move → Type 0 → Type 0
OnPass Pass P = P
OnPass (Take xs) P = ⊤
OnPass (Begin xs) P = ⊤
OnPass (Enter xs) P = ⊤
OnPass (Stop r) P = ⊤

on_pass : (w : Move) (P : Type 0) → P → OnPass w P
on_pass Pass P h = h
on_pass (Take xs) P h = tt
on_pass (Begin xs) P h = tt
on_pass (Enter xs) P h = tt
on_pass (Stop r) P h = tt

passes-decl : (k : Kind) → OnPass (move syms.Decl k) (false ≡ true)
passes-decl kinds.Bad = tt
passes-decl _ = tt

passes-fields_mark : (k : Kind) → OnPass (move syms.FieldsMark k) (false ≡ true)
passes-fields_mark kinds.Bad = tt
passes-fields_mark _ = tt

passes-fields_open : (k : Kind) → OnPass (move syms.FieldsOpen k) (false ≡ true)
passes-fields_open kinds.Bad = tt
passes-fields_open _ = tt

passes-fields : (k : Kind) → OnPass (move syms.Fields k) (false ≡ true)
passes-fields kinds.Bad = tt
passes-fields _ = tt

passes-more_fields : (k : Kind) → OnPass (move syms.MoreFields k) (false ≡ true)
passes-more_fields kinds.Bad = tt
passes-more_fields _ = tt

passes-method_tail : (k : Kind) → OnPass (move syms.MethodTail k) (false ≡ true)
passes-method_tail kinds.Bad = tt
passes-method_tail _ = tt

passes-body : (k : Kind) → OnPass (move syms.Body k) (false ≡ true)
passes-body kinds.Bad = tt
passes-body _ = tt

passes-type : (k : Kind) → OnPass (move syms.WholeType k) (false ≡ true)
passes-type kinds.Bad = tt
passes-type _ = tt

passes-array_length : (k : Kind) → OnPass (move syms.ArrayLength k) (false ≡ true)
passes-array_length kinds.Bad = tt
passes-array_length _ = tt

passes-base_name : (k : Kind) → OnPass (move syms.BaseName k) (false ≡ true)
passes-base_name kinds.Bad = tt
passes-base_name _ = tt

passes-low : (k : Kind) → OnPass (move syms.Low k) (false ≡ true)
passes-low kinds.Bad = tt
passes-low _ = tt

passes-vars : (k : Kind) → OnPass (move syms.Vars k) (false ≡ true)
passes-vars kinds.Bad = tt
passes-vars _ = tt

passes-more_vars : (k : Kind) → OnPass (move syms.MoreVars k) (false ≡ true)
passes-more_vars kinds.Bad = tt
passes-more_vars _ = tt

passes-block : (k : Kind) → OnPass (move syms.Block k) (false ≡ true)
passes-block kinds.Bad = tt
passes-block _ = tt

passes-items : (k : Kind) → OnPass (move syms.Items k) (false ≡ true)
passes-items kinds.Bad = tt
passes-items _ = tt

passes-more_items : (k : Kind) → OnPass (move syms.MoreItems k) (false ≡ true)
passes-more_items kinds.Bad = tt
passes-more_items _ = tt

passes-path_stmt : (k : Kind) → OnPass (move syms.PathStmt k) (false ≡ true)
passes-path_stmt kinds.Bad = tt
passes-path_stmt _ = tt

passes-this_stmt : (k : Kind) → OnPass (move syms.ThisStmt k) (false ≡ true)
passes-this_stmt kinds.Bad = tt
passes-this_stmt _ = tt

passes-target_stmt : (k : Kind) → OnPass (move syms.TargetStmt k) (false ≡ true)
passes-target_stmt kinds.Bad = tt
passes-target_stmt _ = tt

passes-call : (k : Kind) → OnPass (move syms.Call k) (false ≡ true)
passes-call kinds.Bad = tt
passes-call _ = tt

passes-call_this : (k : Kind) → OnPass (move syms.CallThis k) (false ≡ true)
passes-call_this kinds.Bad = tt
passes-call_this _ = tt

passes-call_mark : (k : Kind) → OnPass (move syms.CallMark k) (false ≡ true)
passes-call_mark kinds.Bad = tt
passes-call_mark _ = tt

passes-else_tail : (k : Kind) → OnPass (move syms.ElseTail k) (false ≡ true)
passes-else_tail kinds.Bad = tt
passes-else_tail _ = tt

passes-while : (k : Kind) → OnPass (move syms.WhileHead k) (false ≡ true)
passes-while kinds.Bad = tt
passes-while _ = tt

passes-label_head : (k : Kind) → OnPass (move syms.LabelHead k) (false ≡ true)
passes-label_head kinds.Bad = tt
passes-label_head _ = tt

passes-clauses : (k : Kind) → OnPass (move syms.Clauses k) (false ≡ true)
passes-clauses kinds.Bad = tt
passes-clauses _ = tt

passes-clause_tail : (k : Kind) → OnPass (move syms.ClauseTail k) (false ≡ true)
passes-clause_tail kinds.Bad = tt
passes-clause_tail _ = tt

passes-expr : (k : Kind) → OnPass (move syms.Expr k) (false ≡ true)
passes-expr kinds.Bad = tt
passes-expr _ = tt

passes-operand : (k : Kind) → OnPass (move syms.Operand k) (false ≡ true)
passes-operand kinds.Bad = tt
passes-operand _ = tt

passes-atom : (k : Kind) → OnPass (move syms.Atom k) (false ≡ true)
passes-atom kinds.Bad = tt
passes-atom _ = tt

passes-cut : (k : Kind) → OnPass (move syms.Cut k) (false ≡ true)
passes-cut kinds.Bad = tt
passes-cut _ = tt

passes-cut_tail : (k : Kind) → OnPass (move syms.CutTail k) (false ≡ true)
passes-cut_tail kinds.Bad = tt
passes-cut_tail _ = tt

passes-cut_end : (k : Kind) → OnPass (move syms.CutEnd k) (false ≡ true)
passes-cut_end kinds.Bad = tt
passes-cut_end _ = tt

passes-call_open : (k : Kind) → OnPass (move syms.CallOpen k) (false ≡ true)
passes-call_open kinds.Bad = tt
passes-call_open _ = tt

passes-givens_open : (k : Kind) → OnPass (move syms.GivensOpen k) (false ≡ true)
passes-givens_open kinds.Bad = tt
passes-givens_open _ = tt

passes-givens : (k : Kind) → OnPass (move syms.Givens k) (false ≡ true)
passes-givens kinds.Bad = tt
passes-givens _ = tt

passes-more_givens : (k : Kind) → OnPass (move syms.MoreGivens k) (false ≡ true)
passes-more_givens kinds.Bad = tt
passes-more_givens _ = tt

passes-name : (k : Kind) → OnPass (move syms.AName k) (false ≡ true)
passes-name kinds.Bad = tt
passes-name _ = tt

passes-text : (k : Kind) → OnPass (move syms.AText k) (false ≡ true)
passes-text kinds.Bad = tt
passes-text _ = tt

passes-dot : (k : Kind) → OnPass (move syms.ADot k) (false ≡ true)
passes-dot kinds.Bad = tt
passes-dot _ = tt

passes-colon : (k : Kind) → OnPass (move syms.AColon k) (false ≡ true)
passes-colon kinds.Bad = tt
passes-colon _ = tt

passes-semicolon : (k : Kind) → OnPass (move syms.ASemicolon k) (false ≡ true)
passes-semicolon kinds.Bad = tt
passes-semicolon _ = tt

passes-equals : (k : Kind) → OnPass (move syms.AnEquals k) (false ≡ true)
passes-equals kinds.Bad = tt
passes-equals _ = tt

passes-question : (k : Kind) → OnPass (move syms.AQuestion k) (false ≡ true)
passes-question kinds.Bad = tt
passes-question _ = tt

passes-dots_equals : (k : Kind) → OnPass (move syms.ADotsEquals k) (false ≡ true)
passes-dots_equals kinds.Bad = tt
passes-dots_equals _ = tt

passes-right_round : (k : Kind) → OnPass (move syms.RightRound k) (false ≡ true)
passes-right_round kinds.Bad = tt
passes-right_round _ = tt

passes-right_square : (k : Kind) → OnPass (move syms.RightSquare k) (false ≡ true)
passes-right_square kinds.Bad = tt
passes-right_square _ = tt

passes-end_label : (label : TextId) (k : Kind) → OnPass (m.end_label_move label k) (false ≡ true)
passes-end_label label kinds.Bad = tt
passes-end_label label _ = tt

passes-found : (b : Bool) → OnPass (if b then Take [] else m.wrong) (false ≡ true)
passes-found true = tt
passes-found false = tt

passes-label : (label : TextId) (k : Kind) → OnPass (m.label_move label k) (false ≡ true)
passes-label label (kinds.Name n) = passes-found (nat_eq label.0 n.0)
passes-label label _ = tt

pub passes : (s : Sym) (k : Kind) → OnPass (move s k) (may_end s ≡ true)
passes syms.File k = on_pass (move syms.File k) (true ≡ true) refl
passes syms.Decl k = passes-decl k
passes syms.FieldsMark k = passes-fields_mark k
passes syms.FieldsOpen k = passes-fields_open k
passes syms.Fields k = passes-fields k
passes syms.MoreFields k = passes-more_fields k
passes syms.OtherFields k = on_pass (move syms.OtherFields k) (true ≡ true) refl
passes syms.MethodTail k = passes-method_tail k
passes syms.Body k = passes-body k
passes syms.WholeType k = passes-type k
passes syms.ArrayLength k = passes-array_length k
passes syms.BaseName k = passes-base_name k
passes syms.BoundsPart k = on_pass (move syms.BoundsPart k) (true ≡ true) refl
passes syms.Low k = passes-low k
passes syms.Vars k = passes-vars k
passes syms.MoreVars k = passes-more_vars k
passes syms.Block k = passes-block k
passes syms.Items k = passes-items k
passes syms.MoreItems k = passes-more_items k
passes syms.PathStmt k = passes-path_stmt k
passes syms.ThisStmt k = passes-this_stmt k
passes syms.TargetStmt k = passes-target_stmt k
passes syms.Call k = passes-call k
passes syms.CallThis k = passes-call_this k
passes syms.CallMark k = passes-call_mark k
passes syms.Else k = on_pass (move syms.Else k) (true ≡ true) refl
passes syms.ElseTail k = passes-else_tail k
passes syms.WhileHead k = passes-while k
passes syms.LabelHead k = passes-label_head k
passes syms.Clauses k = passes-clauses k
passes syms.ClauseTail k = passes-clause_tail k
passes syms.EndPart k = on_pass (move syms.EndPart k) (true ≡ true) refl
passes syms.LabelPart k = on_pass (move syms.LabelPart k) (true ≡ true) refl
passes syms.Result k = on_pass (move syms.Result k) (true ≡ true) refl
passes syms.Via k = on_pass (move syms.Via k) (true ≡ true) refl
passes syms.Expr k = passes-expr k
passes syms.Rest k = on_pass (move syms.Rest k) (true ≡ true) refl
passes syms.End k = on_pass (move syms.End k) (true ≡ true) refl
passes syms.Operand k = passes-operand k
passes syms.Atom k = passes-atom k
passes syms.PathAtom k = on_pass (move syms.PathAtom k) (true ≡ true) refl
passes syms.ThisAtom k = on_pass (move syms.ThisAtom k) (true ≡ true) refl
passes syms.Cut k = passes-cut k
passes syms.CutTail k = passes-cut_tail k
passes syms.CutEnd k = passes-cut_end k
passes syms.CallOpen k = passes-call_open k
passes syms.GivensOpen k = passes-givens_open k
passes syms.Givens k = passes-givens k
passes syms.MoreGivens k = passes-more_givens k
passes syms.AName k = passes-name k
passes syms.AText k = passes-text k
passes syms.ADot k = passes-dot k
passes syms.AColon k = passes-colon k
passes syms.ASemicolon k = passes-semicolon k
passes syms.AnEquals k = passes-equals k
passes syms.AQuestion k = passes-question k
passes syms.ADotsEquals k = passes-dots_equals k
passes syms.RightRound k = passes-right_round k
passes syms.RightSquare k = passes-right_square k
passes (syms.EndLabel label) k = passes-end_label label k
passes (syms.Label label) k = passes-label label k
passes (syms.Links op) k = on_pass (move (syms.Links op) k) (true ≡ true) refl

-- One token.
fed-words : (s : Sym) (w : Move) (t : Token) (below : List Sym) (passed : Option (List Sym)) (k : List Sym) → Back s w t → OnPass w (may_end s ≡ true)
    → ((wanted : List Sym) → passed ≡ Some wanted → (ts rest : List Token) → Words wanted ts rest → Words below (t ∷ ts) rest)
    → fed w below passed ≡ Some k → (ts rest : List Token) → Words k ts rest → Words (s ∷ below) (t ∷ ts) rest
fed-words s (Take xs) t below passed k b a f e ts rest d =
    let P : List Sym → Type 0 = λ j. Words j ts rest in
    let h : xs ++ below ≡ k = cc e in
    let w = cut-words xs below ts rest (subst P (sym h) d) in (w.0, b ts w.0 w.1, w.2)
fed-words s (Begin xs) t below passed k b a f e ts rest d =
    let P : List Sym → Type 0 = λ j. Words j ts rest in
    let h : xs ++ below ≡ k = cc e in
    let w = cut-words xs below ts rest (subst P (sym h) d) in (w.0, b ts w.0 w.1, w.2)
fed-words s (Enter xs) t below passed k b a f e ts rest d =
    let P : List Sym → Type 0 = λ j. Words j ts rest in
    let h : xs ++ below ≡ k = cc e in
    let w = cut-words xs below ts rest (subst P (sym h) d) in (w.0, b ts w.0 w.1, w.2)
fed-words s Pass t below passed k b a f e ts rest d = (t ∷ ts, absent s a (t ∷ ts), f k e ts rest d)
fed-words s (Stop r) t below passed k b a f e ts rest d = absurd (cc e)

pub feed-words : (k : List Sym) (t : Token) (wanted : List Sym) → feed k t.kind ≡ Some wanted
    → (ts rest : List Token) → Words wanted ts rest → Words k (t ∷ ts) rest
feed-words [] t wanted e ts rest d = absurd (cc e)
feed-words (s ∷ k) t wanted e ts rest d = fed-words s (move s t.kind) t k (feed k t.kind) wanted (back s t.kind t.at) (passes s t.kind) (feed-words k t) e ts rest d

-- Many tokens.
go-words : (o : Option (List Sym)) (t : Token) (front : List Token) (k wanted : List Sym)
    → ((next : List Sym) → o ≡ Some next → (ts rest : List Token) → Words next ts rest → Words k (t ∷ ts) rest)
    → ((next : List Sym) → feeds front next ≡ Some wanted → (ts rest : List Token) → Words wanted ts rest → Words next (front ++ ts) rest)
    → go_on o (λ next. feeds front next) ≡ Some wanted → (ts rest : List Token) → Words wanted ts rest → Words k (t ∷ (front ++ ts)) rest
go-words None t front k wanted f g e ts rest d = absurd (cc e)
go-words (Some next) t front k wanted f g e ts rest d = f next refl (front ++ ts) rest (g next e ts rest d)

pub feeds-words : (front : List Token) (k wanted : List Sym) → feeds front k ≡ Some wanted
    → (ts rest : List Token) → Words wanted ts rest → Words k (front ++ ts) rest
feeds-words [] k wanted e ts rest d = let P : List Sym → Type 0 = λ j. Words j ts rest in let h : k ≡ wanted = cc e in subst P (sym h) d
feeds-words (t ∷ front) k wanted e ts rest d = go-words (feed k t.kind) t front k wanted (λ next h. feed-words k t next h) (λ next h. feeds-words front next wanted h) e ts rest d

-- The law of live tokens.
pub live : (front : List Token) (k wanted : List Sym) → feeds front k ≡ Some wanted
    → (rest : List Token) → Words k (front ++ completions wanted rest) rest
live front k wanted e rest = feeds-words front k wanted e (completions wanted rest) rest (all_complete wanted rest)
