-- Without its actions the building machine is the machine that only reads: symbol by symbol, token by token.
use Rattle.std.proofs.Common.{◌≡◌, ◌∙◌, ◌-◌, ap, ℕ, suc, Bool, true, false, ◌&&◌, List, [], ◌∷◌, ◌++◌, length, refl, nat_eq, nat_le, if◌then◌else◌}
use Rattle.wf_text.specs.declared.place.Place.{Place}
use Rattle.wf_text.specs.declared.rules.Rule.{Rule}
use Rattle.wf_text.specs.declared.rules.Rule.TheVariants.{S5, L4, L5}
use Rattle.wf_ast.specs.declared.numbers.TextId.{TextId}
use Rattle.wf_ast.specs.declared.operators.Op.{Op}
use Rattle.wf_ast.specs.declared.operators.Op.TheVariants as ops
use Rattle.wf_ast.specs.Operators.{same_op}
use Rattle.wf_parse_grammar.specs.declared.tokens.Kind.{Kind}
use Rattle.wf_parse_grammar.specs.declared.tokens.Kind.TheVariants as kinds
use Rattle.wf_parse_grammar.specs.declared.tokens.Token.{Token}
use Rattle.wf_parse_grammar.specs.declared.symbols.Sym.{Sym}
use Rattle.wf_parse_grammar.specs.declared.symbols.Sym.TheVariants as syms
use Rattle.wf_parse_grammar.specs.declared.symbols.Action.TheVariants as does
use Rattle.wf_parse_grammar.specs.declared.symbols.Want.{Want}
use Rattle.wf_parse_grammar.specs.declared.symbols.Want.TheVariants.{Read, Make}
use Rattle.wf_parse_grammar.specs.Machine as m
use Rattle.wf_parse_grammar.specs.Machine.{Outcome, move, may_end, owes, opens, one_more_if, open_count}
use Rattle.wf_parse_grammar.specs.Building as b
use Rattle.wf_parse_grammar.specs.Building.{Build, Take, Begin, Enter, Pass, Stop, build, Ending, Refused, open_wants, skipped}
use Rattle.wf_parse_grammar.specs.Values.{Made, perform}
use Rattle.wf_parse_grammar.specs.Erasure.{erased, erased_move, outcome}

-- The table.
same-file : (t : Kind) (p : Place) → erased_move (b.file_build t p) ≡ m.file_move t
same-file kinds.Bad p = refl
same-file _ p = refl

same-decl : (t : Kind) (p : Place) → erased_move (b.decl_build t p) ≡ m.decl_move t
same-decl kinds.Bad p = refl
same-decl _ p = refl

same-fields_mark : (t : Kind) (p : Place) → erased_move (b.fields_mark_build t p) ≡ m.fields_mark_move t
same-fields_mark kinds.Bad p = refl
same-fields_mark _ p = refl

same-fields_open : (t : Kind) (p : Place) → erased_move (b.fields_open_build t p) ≡ m.fields_open_move t
same-fields_open kinds.Bad p = refl
same-fields_open _ p = refl

same-fields : (t : Kind) (p : Place) → erased_move (b.fields_build t p) ≡ m.fields_move t
same-fields kinds.Bad p = refl
same-fields _ p = refl

same-more_fields : (t : Kind) (p : Place) → erased_move (b.more_fields_build t p) ≡ m.more_fields_move t
same-more_fields kinds.Bad p = refl
same-more_fields _ p = refl

same-method_tail : (t : Kind) (p : Place) → erased_move (b.method_tail_build t p) ≡ m.method_tail_move t
same-method_tail kinds.Bad p = refl
same-method_tail _ p = refl

same-body : (t : Kind) (p : Place) → erased_move (b.body_build t p) ≡ m.body_move t
same-body kinds.Bad p = refl
same-body _ p = refl

same-type : (t : Kind) (p : Place) → erased_move (b.type_build t p) ≡ m.type_move t
same-type kinds.Bad p = refl
same-type _ p = refl

same-array_length : (t : Kind) (p : Place) → erased_move (b.array_length_build t p) ≡ m.array_length_move t
same-array_length kinds.Bad p = refl
same-array_length _ p = refl

same-base_name : (t : Kind) (p : Place) → erased_move (b.base_name_build t p) ≡ m.base_name_move t
same-base_name kinds.Bad p = refl
same-base_name _ p = refl

same-bounds : (t : Kind) (p : Place) → erased_move (b.bounds_build t p) ≡ m.bounds_move t
same-bounds kinds.Bad p = refl
same-bounds _ p = refl

same-low : (t : Kind) (p : Place) → erased_move (b.low_build t p) ≡ m.low_move t
same-low kinds.Bad p = refl
same-low _ p = refl

same-vars : (t : Kind) (p : Place) → erased_move (b.vars_build t p) ≡ m.vars_move t
same-vars kinds.Bad p = refl
same-vars _ p = refl

same-more_vars : (t : Kind) (p : Place) → erased_move (b.more_vars_build t p) ≡ m.more_vars_move t
same-more_vars kinds.Bad p = refl
same-more_vars _ p = refl

same-block : (t : Kind) (p : Place) → erased_move (b.block_build t p) ≡ m.block_move t
same-block kinds.Bad p = refl
same-block _ p = refl

same-items : (t : Kind) (p : Place) → erased_move (b.items_build t p) ≡ m.items_move t
same-items kinds.Bad p = refl
same-items _ p = refl

same-more_items : (t : Kind) (p : Place) → erased_move (b.more_items_build t p) ≡ m.more_items_move t
same-more_items kinds.Bad p = refl
same-more_items _ p = refl

same-path_stmt : (t : Kind) (p : Place) → erased_move (b.path_stmt_build t p) ≡ m.path_stmt_move t
same-path_stmt kinds.Bad p = refl
same-path_stmt _ p = refl

same-this_stmt : (t : Kind) (p : Place) → erased_move (b.this_stmt_build t p) ≡ m.this_stmt_move t
same-this_stmt kinds.Bad p = refl
same-this_stmt _ p = refl

same-target_stmt : (t : Kind) (p : Place) → erased_move (b.target_stmt_build t p) ≡ m.target_stmt_move t
same-target_stmt kinds.Bad p = refl
same-target_stmt _ p = refl

same-call : (t : Kind) (p : Place) → erased_move (b.call_build t p) ≡ m.call_move t
same-call kinds.Bad p = refl
same-call _ p = refl

same-call_this : (t : Kind) (p : Place) → erased_move (b.call_this_build t p) ≡ m.call_this_move t
same-call_this kinds.Bad p = refl
same-call_this _ p = refl

same-call_mark : (t : Kind) (p : Place) → erased_move (b.call_mark_build t p) ≡ m.call_mark_move t
same-call_mark kinds.Bad p = refl
same-call_mark _ p = refl

same-else : (t : Kind) (p : Place) → erased_move (b.else_build t p) ≡ m.else_move t
same-else kinds.Bad p = refl
same-else _ p = refl

same-else_tail : (t : Kind) (p : Place) → erased_move (b.else_tail_build t p) ≡ m.else_tail_move t
same-else_tail kinds.Bad p = refl
same-else_tail _ p = refl

same-while : (t : Kind) (p : Place) → erased_move (b.while_build t p) ≡ m.while_move t
same-while kinds.Bad p = refl
same-while _ p = refl

same-label_head : (t : Kind) (p : Place) → erased_move (b.label_head_build t p) ≡ m.label_head_move t
same-label_head kinds.Bad p = refl
same-label_head _ p = refl

same-clauses : (t : Kind) (p : Place) → erased_move (b.clauses_build t p) ≡ m.clauses_move t
same-clauses kinds.Bad p = refl
same-clauses _ p = refl

same-clause_tail : (t : Kind) (p : Place) → erased_move (b.clause_tail_build t p) ≡ m.clause_tail_move t
same-clause_tail kinds.Bad p = refl
same-clause_tail _ p = refl

same-end_part : (t : Kind) (p : Place) → erased_move (b.end_part_build t p) ≡ m.end_part_move t
same-end_part kinds.Bad p = refl
same-end_part _ p = refl

same-label_part : (t : Kind) (p : Place) → erased_move (b.label_part_build t p) ≡ m.label_part_move t
same-label_part kinds.Bad p = refl
same-label_part _ p = refl

same-result : (t : Kind) (p : Place) → erased_move (b.result_build t p) ≡ m.result_move t
same-result kinds.Bad p = refl
same-result _ p = refl

same-via : (t : Kind) (p : Place) → erased_move (b.via_build t p) ≡ m.via_move t
same-via kinds.Bad p = refl
same-via _ p = refl

same-expr : (t : Kind) (p : Place) → erased_move (b.expr_build t p) ≡ m.expr_move t
same-expr kinds.Bad p = refl
same-expr _ p = refl

same-rest : (t : Kind) (p : Place) → erased_move (b.rest_build t p) ≡ m.rest_move t
same-rest kinds.Bad p = refl
same-rest _ p = refl

same-end : (t : Kind) (p : Place) → erased_move (b.end_build t p) ≡ m.end_move t
same-end kinds.Bad p = refl
same-end _ p = refl

same-operand : (t : Kind) (p : Place) → erased_move (b.operand_build t p) ≡ m.operand_move t
same-operand kinds.Bad p = refl
same-operand _ p = refl

same-atom : (t : Kind) (p : Place) → erased_move (b.atom_build t p) ≡ m.atom_move t
same-atom kinds.Bad p = refl
same-atom _ p = refl

same-path_atom : (t : Kind) (p : Place) → erased_move (b.path_atom_build t p) ≡ m.path_atom_move t
same-path_atom kinds.Bad p = refl
same-path_atom _ p = refl

same-this_atom : (t : Kind) (p : Place) → erased_move (b.this_atom_build t p) ≡ m.this_atom_move t
same-this_atom kinds.Bad p = refl
same-this_atom _ p = refl

same-cut : (t : Kind) (p : Place) → erased_move (b.cut_build t p) ≡ m.cut_move t
same-cut kinds.Bad p = refl
same-cut _ p = refl

same-cut_tail : (t : Kind) (p : Place) → erased_move (b.cut_tail_build t p) ≡ m.cut_tail_move t
same-cut_tail kinds.Bad p = refl
same-cut_tail _ p = refl

same-cut_end : (t : Kind) (p : Place) → erased_move (b.cut_end_build t p) ≡ m.cut_end_move t
same-cut_end kinds.Bad p = refl
same-cut_end _ p = refl

same-call_open : (t : Kind) (p : Place) → erased_move (b.call_open_build t p) ≡ m.call_open_move t
same-call_open kinds.Bad p = refl
same-call_open _ p = refl

same-givens_open : (t : Kind) (p : Place) → erased_move (b.givens_open_build t p) ≡ m.givens_open_move t
same-givens_open kinds.Bad p = refl
same-givens_open _ p = refl

same-givens : (t : Kind) (p : Place) → erased_move (b.givens_build t p) ≡ m.givens_move t
same-givens kinds.Bad p = refl
same-givens _ p = refl

same-more_givens : (t : Kind) (p : Place) → erased_move (b.more_givens_build t p) ≡ m.more_givens_move t
same-more_givens kinds.Bad p = refl
same-more_givens _ p = refl

same-name : (t : Kind) (p : Place) → erased_move (b.name_build t p) ≡ m.name_move t
same-name kinds.Bad p = refl
same-name _ p = refl

same-text : (t : Kind) (p : Place) → erased_move (b.text_build t p) ≡ m.text_move t
same-text kinds.Bad p = refl
same-text _ p = refl

same-dot : (t : Kind) (p : Place) → erased_move (b.dot_build t p) ≡ m.dot_move t
same-dot kinds.Bad p = refl
same-dot _ p = refl

same-colon : (t : Kind) (p : Place) → erased_move (b.colon_build t p) ≡ m.colon_move t
same-colon kinds.Bad p = refl
same-colon _ p = refl

same-semicolon : (t : Kind) (p : Place) → erased_move (b.semicolon_build t p) ≡ m.semicolon_move t
same-semicolon kinds.Bad p = refl
same-semicolon _ p = refl

same-equals : (t : Kind) (p : Place) → erased_move (b.equals_build t p) ≡ m.equals_move t
same-equals kinds.Bad p = refl
same-equals _ p = refl

same-question : (t : Kind) (p : Place) → erased_move (b.question_build t p) ≡ m.question_move t
same-question kinds.Bad p = refl
same-question _ p = refl

same-dots_equals : (t : Kind) (p : Place) → erased_move (b.dots_equals_build t p) ≡ m.dots_equals_move t
same-dots_equals kinds.Bad p = refl
same-dots_equals _ p = refl

same-right_round : (t : Kind) (p : Place) → erased_move (b.right_round_build t p) ≡ m.right_round_move t
same-right_round kinds.Bad p = refl
same-right_round _ p = refl

same-right_square : (t : Kind) (p : Place) → erased_move (b.right_square_build t p) ≡ m.right_square_move t
same-right_square kinds.Bad p = refl
same-right_square _ p = refl

same-plus : (op : Op) → erased_move (b.plus_build op) ≡ m.plus_move op
same-plus ops.Add = refl
same-plus _ = refl

same-other_fields : (t : Kind) (p : Place) → erased_move (b.other_fields_build t p) ≡ m.other_fields_move t
same-other_fields (kinds.Chain op) p = same-plus op
same-other_fields _ p = refl

same-link : (c : Bool) (op : Op) (p : Place)
    → erased_move (if c then Take (Make (does.PushPlace p) ∷ Read syms.Operand ∷ Make does.AddLink ∷ Read (syms.Links op) ∷ []) else b.wrong_mix)
    ≡ (if c then m.Take (syms.Operand ∷ syms.Links op ∷ []) else m.wrong_mix)
same-link true op p = refl
same-link false op p = refl

same-links : (op : Op) (t : Kind) (p : Place) → erased_move (b.links_build op t p) ≡ m.links_move op t
same-links op (kinds.Chain next) p = same-link (same_op op next) op p
same-links op _ p = refl

same-end_label : (label : TextId) (t : Kind) (p : Place) → erased_move (b.end_label_build label t p) ≡ m.end_label_move label t
same-end_label label kinds.Bad p = refl
same-end_label label _ p = refl

same-found : (c : Bool) → erased_move (if c then Take [] else b.wrong) ≡ (if c then m.Take [] else m.wrong)
same-found true = refl
same-found false = refl

same-label : (label : TextId) (t : Kind) (p : Place) → erased_move (b.label_build label t p) ≡ m.label_move label t
same-label label (kinds.Name n) p = same-found (nat_eq label.0 n.0)
same-label label _ p = refl

pub same_moves : (s : Sym) (t : Kind) (p : Place) → erased_move (build s t p) ≡ move s t
same_moves syms.File t p = same-file t p
same_moves syms.Decl t p = same-decl t p
same_moves syms.FieldsMark t p = same-fields_mark t p
same_moves syms.FieldsOpen t p = same-fields_open t p
same_moves syms.Fields t p = same-fields t p
same_moves syms.MoreFields t p = same-more_fields t p
same_moves syms.OtherFields t p = same-other_fields t p
same_moves syms.MethodTail t p = same-method_tail t p
same_moves syms.Body t p = same-body t p
same_moves syms.WholeType t p = same-type t p
same_moves syms.ArrayLength t p = same-array_length t p
same_moves syms.BaseName t p = same-base_name t p
same_moves syms.BoundsPart t p = same-bounds t p
same_moves syms.Low t p = same-low t p
same_moves syms.Vars t p = same-vars t p
same_moves syms.MoreVars t p = same-more_vars t p
same_moves syms.Block t p = same-block t p
same_moves syms.Items t p = same-items t p
same_moves syms.MoreItems t p = same-more_items t p
same_moves syms.PathStmt t p = same-path_stmt t p
same_moves syms.ThisStmt t p = same-this_stmt t p
same_moves syms.TargetStmt t p = same-target_stmt t p
same_moves syms.Call t p = same-call t p
same_moves syms.CallThis t p = same-call_this t p
same_moves syms.CallMark t p = same-call_mark t p
same_moves syms.Else t p = same-else t p
same_moves syms.ElseTail t p = same-else_tail t p
same_moves syms.WhileHead t p = same-while t p
same_moves syms.LabelHead t p = same-label_head t p
same_moves syms.Clauses t p = same-clauses t p
same_moves syms.ClauseTail t p = same-clause_tail t p
same_moves syms.EndPart t p = same-end_part t p
same_moves (syms.EndLabel label) t p = same-end_label label t p
same_moves (syms.Label label) t p = same-label label t p
same_moves syms.LabelPart t p = same-label_part t p
same_moves syms.Result t p = same-result t p
same_moves syms.Via t p = same-via t p
same_moves syms.Expr t p = same-expr t p
same_moves syms.Rest t p = same-rest t p
same_moves (syms.Links op) t p = same-links op t p
same_moves syms.End t p = same-end t p
same_moves syms.Operand t p = same-operand t p
same_moves syms.Atom t p = same-atom t p
same_moves syms.PathAtom t p = same-path_atom t p
same_moves syms.ThisAtom t p = same-this_atom t p
same_moves syms.Cut t p = same-cut t p
same_moves syms.CutTail t p = same-cut_tail t p
same_moves syms.CutEnd t p = same-cut_end t p
same_moves syms.CallOpen t p = same-call_open t p
same_moves syms.GivensOpen t p = same-givens_open t p
same_moves syms.Givens t p = same-givens t p
same_moves syms.MoreGivens t p = same-more_givens t p
same_moves syms.AName t p = same-name t p
same_moves syms.AText t p = same-text t p
same_moves syms.ADot t p = same-dot t p
same_moves syms.AColon t p = same-colon t p
same_moves syms.ASemicolon t p = same-semicolon t p
same_moves syms.AnEquals t p = same-equals t p
same_moves syms.AQuestion t p = same-question t p
same_moves syms.ADotsEquals t p = same-dots_equals t p
same_moves syms.RightRound t p = same-right_round t p
same_moves syms.RightSquare t p = same-right_square t p

-- Stacks.
pub erased-append : (xs k : List Want) → erased (xs ++ k) ≡ erased xs ++ erased k
erased-append [] k = refl
erased-append (Make a ∷ xs) k = erased-append xs k
erased-append (Read s ∷ xs) k = ap (λ ys. s ∷ ys) (erased-append xs k)

pub open-erased : (k : List Want) → open_wants k ≡ open_count (erased k)
open-erased [] = refl
open-erased (Make a ∷ k) = open-erased k
open-erased (Read s ∷ k) = ap (one_more_if (owes s)) (open-erased k)

-- One token.
abbrev pub SameNext : (ℕ → List Want → Made → Ending) → (ℕ → List Sym → Outcome) → Type 0
SameNext next read = (room : ℕ) (wanted : List Want) (made : Made) → outcome (next room wanted made) ≡ read room (erased wanted)

same-unless : (c d : Bool) (r : Rule) (left : ℕ) (e : Ending) (o : Outcome) → c ≡ d → outcome e ≡ o → outcome (b.unless c r left e) ≡ m.unless d r left o
same-unless true true r left e o same h = refl
same-unless false false r left e o same h = h
same-unless true false r left e o same h = absurd (cc same)
same-unless false true r left e o same h = absurd (cc same)

same-next : (next : ℕ → List Want → Made → Ending) (read : ℕ → List Sym → Outcome) → SameNext next read
    → (room : ℕ) (xs k : List Want) (made : Made) → outcome (next room (xs ++ k) made) ≡ read room (erased xs ++ erased k)
same-next next read h room xs k made = h room (xs ++ k) made ∙ ap (read room) (erased-append xs k)

same-after : (limited : Bool) (room : ℕ) (w : Build) (whole below : List Want) (made : Made) (t : Kind) (left : ℕ)
    (next : ℕ → List Want → Made → Ending) (read : ℕ → List Sym → Outcome) (passed : Ending) (o : Outcome)
    → SameNext next read → outcome passed ≡ o
    → outcome (b.after limited room w whole below made t left next passed) ≡ m.after limited room (erased_move w) (erased whole) (erased below) t left read o
same-after limited room (Take xs) whole below made t left next read passed o h e =
    same-unless _ _ L4 left _ _ (ap (λ n. limited && opens t && nat_le 48 n) (open-erased whole)) (same-next next read h room xs below made)
same-after limited room (Begin xs) whole below made t left next read passed o h e =
    same-unless _ _ L5 left _ _ refl (same-next next read h (room - 1) xs below made)
same-after limited room (Enter xs) whole below made t left next read passed o h e =
    same-unless _ _ L4 left _ _ (ap (λ n. limited && nat_le 48 n) (open-erased whole)) (same-next next read h 4096 xs below made)
same-after limited room Pass whole below made t left next read passed o h e = e
same-after limited room (Stop r) whole below made t left next read passed o h e = refl

same-step : (limited : Bool) (room : ℕ) (k : List Want) (made : Made) (t : Token) (left : ℕ)
    (next : ℕ → List Want → Made → Ending) (read : ℕ → List Sym → Outcome) → SameNext next read
    → outcome (b.step limited room k made t left next) ≡ m.step limited room (erased k) t.kind left read
same-step limited room [] made t left next read h = refl
same-step limited room (Make a ∷ k) made t left next read h = same-step limited room k (perform a made) t left next read h
same-step limited room (Read s ∷ k) made t left next read h =
    same-after limited room (build s t.kind t.at) (Read s ∷ k) k made t.kind left next read _ _ h (same-step limited room k (skipped s made) t left next read h)
    ∙ ap (λ w. m.after limited room w (s ∷ erased k) (erased k) t.kind left read (m.step limited room (erased k) t.kind left read)) (same_moves s t.kind t.at)

-- The end, and the run.
same-ends : (k : List Want) (made : Made) → outcome (b.ends k made) ≡ m.ends (erased k)
same-ends [] made = refl
same-ends (Make a ∷ k) made = same-ends k (perform a made)
same-ends (Read s ∷ k) made = same-if (may_end s) _ _ (same-ends k (skipped s made))
  where
    same-if : (c : Bool) (e : Ending) (o : Outcome) → outcome e ≡ o → outcome (if c then e else Refused S5 0) ≡ (if c then o else m.Refused S5 0)
    same-if true e o h = h
    same-if false e o h = refl

pub same-run : (limited : Bool) (room : ℕ) (ts : List Token) (k : List Want) (made : Made) → outcome (b.run limited room ts k made) ≡ m.run limited room ts (erased k)
same-run limited room [] k made = same-ends k made
same-run limited room (t ∷ ts) k made = same-step limited room k made t (suc (length ts)) _ _ (λ room_left wanted made_then. same-run limited room_left ts wanted made_then)
