-- The same for statements, declarations and files: a list of the grammar is read to its end.
use Rattle.std.proofs.Common.{◌≡◌, ◌∙◌, ap, sym, subst, Bool, true, false, Option, None, List, [], ◌∷◌, refl, if◌then◌else◌}
use Rattle.wf_text.specs.declared.place.Place.{Place}
use Rattle.wf_ast.specs.declared.numbers.TextId.{TextId}
use Rattle.wf_ast.specs.declared.parsed.Clause.TheVariants as clauses
use Rattle.wf_parse_grammar.specs.declared.tokens.Kind.{Kind}
use Rattle.wf_parse_grammar.specs.declared.tokens.Kind.TheVariants as kinds
use Rattle.wf_parse_grammar.specs.declared.tokens.Token.{Token}
use Rattle.wf_parse_grammar.specs.Grammar.{token, name_token, text_token, PathForm, BarePath, ThisPath, ArgsPath, OnForm, OnThis, OnPath, Exclaims, Asks, MarkPart, NoMark, AMark}
use Rattle.wf_parse_grammar.specs.Grammar.{ExprForm}
use Rattle.wf_parse_grammar.specs.Grammar.{TypeForm, BaseType, StatusType, SliceType, ArrayType, StructType}
use Rattle.wf_parse_grammar.specs.Grammar.{TargetForm, ToPath, ToElement, Becomes, Updates, CallForm, MarkedCall, LabelPart, NoLabel, ALabel, ResultForm, NoResult, NothingResult, AResult, ViaForm, NoVia, AVia, ClausesForm, NoClause, ClauseComma, NextClause, EndForm, NoEnd, AnEnd, AVar}
use Rattle.wf_parse_grammar.specs.Grammar.{StmtForm, Assignment, Keeping, Calling, Branching, Looping, Labelled, Breaking, Continuing, Returning, Yielding, Asserting, ElseForm, NoElse, ElseIf, Else, ABlock, ItemsForm, NoItem, FirstItem, MoreItemsForm, LastItem, ItemSemicolon, NextItem}
use Rattle.wf_parse_grammar.specs.Grammar.{VarsForm, NoVars, FirstVar, FirstStmt, MoreVarsForm, LastVar, VarSemicolon, NextVar, ThenStmt, FieldsForm, NoField, FirstField, MoreFieldsForm, LastField, FieldComma, NextField, OtherFieldsForm, NoOtherFields, OtherFields, TypePart, NoType, AType, IsPub, IsPri, DeclForm, AStatus, AConst, AStruct, AFunc, FileForm, NoDecl, ADecl}
use Rattle.wf_parse_grammar.specs.Grammar.{path_before, on_before, mark_part_before, expr_before, givens_before, type_before, target_before, sign_before, call_before, clauses_before, var_before, stmt_before, else_before, items_before, more_items_before, more_vars_before, vars_before, more_fields_before, fields_before, other_fields_before, type_part_before, decl_before, file_before}
use Rattle.wf_parse_grammar.specs.Machine as m
use Rattle.wf_parse_grammar.specs.declared.symbols.Sym.{Sym}
use Rattle.wf_parse_grammar.specs.declared.symbols.Sym.TheVariants as syms
use Rattle.wf_parse_grammar.specs.Machine.{Take}
use Rattle.wf_parse_grammar.specs.Feeding.{fed, feed, feeds, go_on}
use Rattle.wf_parse_grammar.proofs.OpLemmas.{eq-self}
use Rattle.wf_parse_grammar.proofs.Forward.{type_tail, expr_tail, ends_expr, drop-expr, drop-type, over, Starts, swapped, to-token, from, while-expr, result-expr, fw-expr, fw-givens, fw-type}

-- What may still go on after a statement.
abbrev else_tail : ElseForm → List Sym → List Sym
else_tail NoElse k = syms.Else ∷ k
else_tail (ElseIf p q e b o) k = else_tail o k
else_tail (Else p b) k = k

abbrev end_tail : EndForm → List Sym → List Sym
end_tail NoEnd k = syms.EndPart ∷ k
end_tail (AnEnd p) k = k

abbrev label_tail : LabelPart → List Sym → List Sym
label_tail NoLabel k = syms.LabelPart ∷ k
label_tail (ALabel d n) k = k

abbrev result_tail : ResultForm → List Sym → List Sym
result_tail NoResult k = syms.Result ∷ k
result_tail (NothingResult p) k = k
result_tail (AResult e) k = expr_tail e k

abbrev via_tail : ViaForm → ExprForm → List Sym → List Sym
via_tail NoVia e k = expr_tail e (syms.Via ∷ k)
via_tail (AVia p n l gs r) e k = k

abbrev pub stmt_tail : StmtForm → List Sym → List Sym
stmt_tail (Assignment t sg e) k = expr_tail e k
stmt_tail (Keeping t p c) k = k
stmt_tail (Calling c) k = k
stmt_tail (Branching p e b o) k = else_tail o k
stmt_tail (Looping p e cs b o) k = end_tail o k
stmt_tail (Labelled p d n e cs b w x y) k = k
stmt_tail (Breaking p l) k = label_tail l k
stmt_tail (Continuing p l) k = label_tail l k
stmt_tail (Returning p r) k = result_tail r k
stmt_tail (Yielding p q e) k = expr_tail e k
stmt_tail (Asserting p e v) k = via_tail v e k

-- Tokens after which a statement is over.
abbrev pub ends_stmt : Kind → Bool
ends_stmt kinds.Semicolon = true
ends_stmt kinds.CloseCurly = true
ends_stmt _ = false

ends-expr : (t : Kind) → ends_stmt t ≡ true → ends_expr t ≡ true
ends-expr kinds.Semicolon h = refl
ends-expr kinds.CloseCurly h = refl
ends-expr _ h = absurd (cc h)

drop-else : (k : List Sym) (t : Kind) → ends_stmt t ≡ true → feed (syms.Else ∷ k) t ≡ feed k t
drop-else k kinds.Semicolon h = refl
drop-else k kinds.CloseCurly h = refl
drop-else k _ h = absurd (cc h)

drop-end : (k : List Sym) (t : Kind) → ends_stmt t ≡ true → feed (syms.EndPart ∷ k) t ≡ feed k t
drop-end k kinds.Semicolon h = refl
drop-end k kinds.CloseCurly h = refl
drop-end k _ h = absurd (cc h)

drop-label : (k : List Sym) (t : Kind) → ends_stmt t ≡ true → feed (syms.LabelPart ∷ k) t ≡ feed k t
drop-label k kinds.Semicolon h = refl
drop-label k kinds.CloseCurly h = refl
drop-label k _ h = absurd (cc h)

drop-result : (k : List Sym) (t : Kind) → ends_stmt t ≡ true → feed (syms.Result ∷ k) t ≡ feed k t
drop-result k kinds.Semicolon h = refl
drop-result k kinds.CloseCurly h = refl
drop-result k _ h = absurd (cc h)

drop-via : (k : List Sym) (t : Kind) → ends_stmt t ≡ true → feed (syms.Via ∷ k) t ≡ feed k t
drop-via k kinds.Semicolon h = refl
drop-via k kinds.CloseCurly h = refl
drop-via k _ h = absurd (cc h)

drop-else_tail : (o : ElseForm) (k : List Sym) (t : Kind) → ends_stmt t ≡ true → feed (else_tail o k) t ≡ feed k t
drop-else_tail NoElse k t h = drop-else k t h
drop-else_tail (ElseIf p q e b o) k t h = drop-else_tail o k t h
drop-else_tail (Else p b) k t h = refl

drop-stmt : (s : StmtForm) (k : List Sym) (t : Kind) → ends_stmt t ≡ true → feed (stmt_tail s k) t ≡ feed k t
drop-stmt (Assignment ta sg e) k t h = drop-expr e k t (ends-expr t h)
drop-stmt (Keeping ta p c) k t h = refl
drop-stmt (Calling c) k t h = refl
drop-stmt (Branching p e b o) k t h = drop-else_tail o k t h
drop-stmt (Looping p e cs b NoEnd) k t h = drop-end k t h
drop-stmt (Looping p e cs b (AnEnd q)) k t h = refl
drop-stmt (Labelled p d n e cs b w x y) k t h = refl
drop-stmt (Breaking p NoLabel) k t h = drop-label k t h
drop-stmt (Breaking p (ALabel d n)) k t h = refl
drop-stmt (Continuing p NoLabel) k t h = drop-label k t h
drop-stmt (Continuing p (ALabel d n)) k t h = refl
drop-stmt (Returning p NoResult) k t h = drop-result k t h
drop-stmt (Returning p (NothingResult q)) k t h = refl
drop-stmt (Returning p (AResult e)) k t h = drop-expr e k t (ends-expr t h)
drop-stmt (Yielding p q e) k t h = drop-expr e k t (ends-expr t h)
drop-stmt (Asserting p e NoVia) k t h = drop-expr e (syms.Via ∷ k) t (ends-expr t h) ∙ drop-via k t h
drop-stmt (Asserting p e (AVia w n l gs r)) k t h = refl

-- A statement's first token, read where it may stand.
abbrev feed_stmt : List Sym → Kind → Option (List Sym)
feed_stmt k t = fed (m.stmt_move t) k None

abbrev feeds_stmt : List Token → List Sym → Option (List Sym)
feeds_stmt [] k = None
feeds_stmt (t ∷ ts) k = go_on (feed_stmt k t.kind) (λ wanted. feeds ts wanted)

abbrev pub begins_stmt : Kind → Bool
begins_stmt (kinds.Name n) = true
begins_stmt kinds.This = true
begins_stmt kinds.Args = true
begins_stmt kinds.If = true
begins_stmt kinds.While = true
begins_stmt kinds.Break = true
begins_stmt kinds.Continue = true
begins_stmt kinds.Return = true
begins_stmt kinds.Yield = true
begins_stmt kinds.Assert = true
begins_stmt _ = false

items-stmt : (k : List Sym) (t : Kind) → begins_stmt t ≡ true → feed (syms.Items ∷ k) t ≡ feed_stmt (syms.MoreItems ∷ k) t
items-stmt k (kinds.Name n) h = refl
items-stmt k kinds.This h = refl
items-stmt k kinds.Args h = refl
items-stmt k kinds.If h = refl
items-stmt k kinds.While h = refl
items-stmt k kinds.Break h = refl
items-stmt k kinds.Continue h = refl
items-stmt k kinds.Return h = refl
items-stmt k kinds.Yield h = refl
items-stmt k kinds.Assert h = refl
items-stmt k _ h = absurd (cc h)

vars-stmt : (k : List Sym) (t : Kind) → begins_stmt t ≡ true → feed (syms.Vars ∷ k) t ≡ feed_stmt (syms.MoreItems ∷ k) t
vars-stmt k (kinds.Name n) h = refl
vars-stmt k kinds.This h = refl
vars-stmt k kinds.Args h = refl
vars-stmt k kinds.If h = refl
vars-stmt k kinds.While h = refl
vars-stmt k kinds.Break h = refl
vars-stmt k kinds.Continue h = refl
vars-stmt k kinds.Return h = refl
vars-stmt k kinds.Yield h = refl
vars-stmt k kinds.Assert h = refl
vars-stmt k _ h = absurd (cc h)

path-first : (path : PathForm) (rest : List Token) → Starts begins_stmt (path_before path rest)
path-first (BarePath a) rest = record { first = _; others = _; is = refl; passes = refl }
path-first (ThisPath a1 a2 a) rest = record { first = _; others = _; is = refl; passes = refl }
path-first (ArgsPath a1 a2 a) rest = record { first = _; others = _; is = refl; passes = refl }

target-first : (t : TargetForm) (rest : List Token) → Starts begins_stmt (target_before t rest)
target-first (ToPath path) rest = path-first path rest
target-first (ToElement path l e r) rest = path-first path _

on-first : (on : OnForm) (rest : List Token) → Starts begins_stmt (on_before on rest)
on-first (OnThis p) rest = record { first = _; others = _; is = refl; passes = refl }
on-first (OnPath path) rest = path-first path rest

call-first : (c : CallForm) (rest : List Token) → Starts begins_stmt (call_before c rest)
call-first (MarkedCall on d n mark l gs r) rest = on-first on _

pub stmt-first : (s : StmtForm) (rest : List Token) → Starts begins_stmt (stmt_before s rest)
stmt-first (Assignment t sg e) rest = target-first t _
stmt-first (Keeping t p c) rest = target-first t _
stmt-first (Calling c) rest = call-first c rest
stmt-first (Branching p e b o) rest = record { first = _; others = _; is = refl; passes = refl }
stmt-first (Looping p e cs b o) rest = record { first = _; others = _; is = refl; passes = refl }
stmt-first (Labelled p d n e cs b w x y) rest = record { first = _; others = _; is = refl; passes = refl }
stmt-first (Breaking p l) rest = record { first = _; others = _; is = refl; passes = refl }
stmt-first (Continuing p l) rest = record { first = _; others = _; is = refl; passes = refl }
stmt-first (Returning p r) rest = record { first = _; others = _; is = refl; passes = refl }
stmt-first (Yielding p q e) rest = record { first = _; others = _; is = refl; passes = refl }
stmt-first (Asserting p e v) rest = record { first = _; others = _; is = refl; passes = refl }

swap-stmt : (ts : List Token) → Starts begins_stmt ts → (w : Sym) (k : List Sym) → ((t : Kind) → begins_stmt t ≡ true → feed (w ∷ k) t ≡ feed_stmt (syms.MoreItems ∷ k) t)
    → feeds ts (w ∷ k) ≡ feeds_stmt ts (syms.MoreItems ∷ k)
swap-stmt ts s w k f =
    let P : List Token → Type 0 = λ us. feeds us (w ∷ k) ≡ feeds_stmt us (syms.MoreItems ∷ k) in
    subst P (sym s.is) (ap (λ o. go_on o (λ wanted. feeds s.others wanted)) (f s.first.kind s.passes))

fw-call : (c : CallForm) (rest : List Token) (k : List Sym) → feeds (call_before c rest) (syms.Call ∷ k) ≡ feeds rest k
fw-call (MarkedCall (OnThis z) d n (Exclaims u) l gs r) rest k = fw-givens gs r rest k
fw-call (MarkedCall (OnThis z) d n (Asks u) l gs r) rest k = fw-givens gs r rest k
fw-call (MarkedCall (OnPath (BarePath a)) d n (Exclaims u) l gs r) rest k = fw-givens gs r rest k
fw-call (MarkedCall (OnPath (BarePath a)) d n (Asks u) l gs r) rest k = fw-givens gs r rest k
fw-call (MarkedCall (OnPath (ThisPath a1 a2 a)) d n (Exclaims u) l gs r) rest k = fw-givens gs r rest k
fw-call (MarkedCall (OnPath (ThisPath a1 a2 a)) d n (Asks u) l gs r) rest k = fw-givens gs r rest k
fw-call (MarkedCall (OnPath (ArgsPath a1 a2 a)) d n (Exclaims u) l gs r) rest k = fw-givens gs r rest k
fw-call (MarkedCall (OnPath (ArgsPath a1 a2 a)) d n (Asks u) l gs r) rest k = fw-givens gs r rest k

fw-clauses : (cs : ClausesForm) (e : ExprForm) (l : Place) (ts : List Token) (k : List Sym)
    → feeds (clauses_before cs (token kinds.OpenCurly l ∷ ts)) (expr_tail e (syms.Clauses ∷ k)) ≡ feeds ts (syms.Items ∷ k)
fw-clauses NoClause e l ts k = over (expr_tail e (syms.Clauses ∷ k)) (syms.Clauses ∷ k) (token kinds.OpenCurly l) ts (drop-expr e _ kinds.OpenCurly refl)
fw-clauses (ClauseComma p) e l ts k = over (expr_tail e (syms.Clauses ∷ k)) (syms.Clauses ∷ k) (token kinds.Comma p) (token kinds.OpenCurly l ∷ ts) (drop-expr e _ kinds.Comma refl)
fw-clauses (NextClause p clauses.Pre w f more) e l ts k = over (expr_tail e (syms.Clauses ∷ k)) (syms.Clauses ∷ k) (token kinds.Comma p) (token kinds.Pre w ∷ expr_before f (clauses_before more (token kinds.OpenCurly l ∷ ts))) (drop-expr e _ kinds.Comma refl) ∙ fw-expr f (clauses_before more (token kinds.OpenCurly l ∷ ts)) (syms.Clauses ∷ k) ∙ fw-clauses more f l ts k
fw-clauses (NextClause p clauses.Inv w f more) e l ts k = over (expr_tail e (syms.Clauses ∷ k)) (syms.Clauses ∷ k) (token kinds.Comma p) (token kinds.Inv w ∷ expr_before f (clauses_before more (token kinds.OpenCurly l ∷ ts))) (drop-expr e _ kinds.Comma refl) ∙ fw-expr f (clauses_before more (token kinds.OpenCurly l ∷ ts)) (syms.Clauses ∷ k) ∙ fw-clauses more f l ts k
fw-clauses (NextClause p clauses.Post w f more) e l ts k = over (expr_tail e (syms.Clauses ∷ k)) (syms.Clauses ∷ k) (token kinds.Comma p) (token kinds.Post w ∷ expr_before f (clauses_before more (token kinds.OpenCurly l ∷ ts))) (drop-expr e _ kinds.Comma refl) ∙ fw-expr f (clauses_before more (token kinds.OpenCurly l ∷ ts)) (syms.Clauses ∷ k) ∙ fw-clauses more f l ts k

label-read : (label : TextId) (w x y : Place) (rest : List Token) (k : List Sym)
    → feeds (token kinds.Endwhile w ∷ token kinds.Dot x ∷ token (kinds.Name label) y ∷ rest) (syms.EndLabel label ∷ k) ≡ feeds rest k
label-read label w x y rest k = ap (λ b. go_on (fed (if b then Take [] else m.wrong) k (feed k (kinds.Name label))) (λ wanted. feeds rest wanted)) (eq-self label.0)

mutual
  fw-stmt : (s : StmtForm) (rest : List Token) (k : List Sym) → feeds_stmt (stmt_before s rest) k ≡ feeds rest (stmt_tail s k)
  fw-stmt (Assignment (ToPath (BarePath a)) (Becomes g) e) rest k = fw-expr e rest k
  fw-stmt (Assignment (ToPath (BarePath a)) (Updates op g) e) rest k = fw-expr e rest k
  fw-stmt (Assignment (ToPath (ThisPath a1 a2 a)) (Becomes g) e) rest k = fw-expr e rest k
  fw-stmt (Assignment (ToPath (ThisPath a1 a2 a)) (Updates op g) e) rest k = fw-expr e rest k
  fw-stmt (Assignment (ToPath (ArgsPath a1 a2 a)) (Becomes g) e) rest k = fw-expr e rest k
  fw-stmt (Assignment (ToPath (ArgsPath a1 a2 a)) (Updates op g) e) rest k = fw-expr e rest k
  fw-stmt (Assignment (ToElement (BarePath a) l i r) (Becomes g) e) rest k = to-token i (λ us j. fw-expr i us j) (token kinds.CloseSquare r) (sign_before (Becomes g) (expr_before e rest)) (syms.RightSquare ∷ syms.TargetStmt ∷ k) refl ∙ fw-expr e rest k
  fw-stmt (Assignment (ToElement (BarePath a) l i r) (Updates op g) e) rest k = to-token i (λ us j. fw-expr i us j) (token kinds.CloseSquare r) (sign_before (Updates op g) (expr_before e rest)) (syms.RightSquare ∷ syms.TargetStmt ∷ k) refl ∙ fw-expr e rest k
  fw-stmt (Assignment (ToElement (ThisPath a1 a2 a) l i r) (Becomes g) e) rest k = to-token i (λ us j. fw-expr i us j) (token kinds.CloseSquare r) (sign_before (Becomes g) (expr_before e rest)) (syms.RightSquare ∷ syms.TargetStmt ∷ k) refl ∙ fw-expr e rest k
  fw-stmt (Assignment (ToElement (ThisPath a1 a2 a) l i r) (Updates op g) e) rest k = to-token i (λ us j. fw-expr i us j) (token kinds.CloseSquare r) (sign_before (Updates op g) (expr_before e rest)) (syms.RightSquare ∷ syms.TargetStmt ∷ k) refl ∙ fw-expr e rest k
  fw-stmt (Assignment (ToElement (ArgsPath a1 a2 a) l i r) (Becomes g) e) rest k = to-token i (λ us j. fw-expr i us j) (token kinds.CloseSquare r) (sign_before (Becomes g) (expr_before e rest)) (syms.RightSquare ∷ syms.TargetStmt ∷ k) refl ∙ fw-expr e rest k
  fw-stmt (Assignment (ToElement (ArgsPath a1 a2 a) l i r) (Updates op g) e) rest k = to-token i (λ us j. fw-expr i us j) (token kinds.CloseSquare r) (sign_before (Updates op g) (expr_before e rest)) (syms.RightSquare ∷ syms.TargetStmt ∷ k) refl ∙ fw-expr e rest k
  fw-stmt (Keeping (ToPath (BarePath a)) q c) rest k = fw-call c rest k
  fw-stmt (Keeping (ToPath (ThisPath a1 a2 a)) q c) rest k = fw-call c rest k
  fw-stmt (Keeping (ToPath (ArgsPath a1 a2 a)) q c) rest k = fw-call c rest k
  fw-stmt (Keeping (ToElement (BarePath a) l i r) q c) rest k = to-token i (λ us j. fw-expr i us j) (token kinds.CloseSquare r) (token kinds.KeepEquals q ∷ call_before c rest) (syms.RightSquare ∷ syms.TargetStmt ∷ k) refl ∙ fw-call c rest k
  fw-stmt (Keeping (ToElement (ThisPath a1 a2 a) l i r) q c) rest k = to-token i (λ us j. fw-expr i us j) (token kinds.CloseSquare r) (token kinds.KeepEquals q ∷ call_before c rest) (syms.RightSquare ∷ syms.TargetStmt ∷ k) refl ∙ fw-call c rest k
  fw-stmt (Keeping (ToElement (ArgsPath a1 a2 a) l i r) q c) rest k = to-token i (λ us j. fw-expr i us j) (token kinds.CloseSquare r) (token kinds.KeepEquals q ∷ call_before c rest) (syms.RightSquare ∷ syms.TargetStmt ∷ k) refl ∙ fw-call c rest k
  fw-stmt (Calling (MarkedCall (OnThis z) d n (Exclaims u) l gs r)) rest k = fw-givens gs r rest k
  fw-stmt (Calling (MarkedCall (OnThis z) d n (Asks u) l gs r)) rest k = fw-givens gs r rest k
  fw-stmt (Calling (MarkedCall (OnPath (BarePath a)) d n (Exclaims u) l gs r)) rest k = fw-givens gs r rest k
  fw-stmt (Calling (MarkedCall (OnPath (BarePath a)) d n (Asks u) l gs r)) rest k = fw-givens gs r rest k
  fw-stmt (Calling (MarkedCall (OnPath (ThisPath a1 a2 a)) d n (Exclaims u) l gs r)) rest k = fw-givens gs r rest k
  fw-stmt (Calling (MarkedCall (OnPath (ThisPath a1 a2 a)) d n (Asks u) l gs r)) rest k = fw-givens gs r rest k
  fw-stmt (Calling (MarkedCall (OnPath (ArgsPath a1 a2 a)) d n (Exclaims u) l gs r)) rest k = fw-givens gs r rest k
  fw-stmt (Calling (MarkedCall (OnPath (ArgsPath a1 a2 a)) d n (Asks u) l gs r)) rest k = fw-givens gs r rest k
  fw-stmt (Branching p e (ABlock l is r) o) rest k = to-token e (λ us j. fw-expr e us j) (token kinds.OpenCurly l) (items_before is (token kinds.CloseCurly r ∷ else_before o rest)) (syms.Block ∷ syms.Else ∷ k) refl ∙ fw-items is r (else_before o rest) (syms.Else ∷ k) ∙ fw-else o rest k
  fw-stmt (Looping p e cs (ABlock l is r) NoEnd) rest k = from syms.WhileHead (syms.Clauses ∷ syms.EndPart ∷ []) e while-expr (clauses_before cs (token kinds.OpenCurly l ∷ items_before is (token kinds.CloseCurly r ∷ rest))) k ∙ fw-expr e (clauses_before cs (token kinds.OpenCurly l ∷ items_before is (token kinds.CloseCurly r ∷ rest))) (syms.Clauses ∷ syms.EndPart ∷ k) ∙ fw-clauses cs e l (items_before is (token kinds.CloseCurly r ∷ rest)) (syms.EndPart ∷ k) ∙ fw-items is r rest (syms.EndPart ∷ k)
  fw-stmt (Looping p e cs (ABlock l is r) (AnEnd q)) rest k = from syms.WhileHead (syms.Clauses ∷ syms.EndPart ∷ []) e while-expr (clauses_before cs (token kinds.OpenCurly l ∷ items_before is (token kinds.CloseCurly r ∷ token kinds.Endwhile q ∷ rest))) k ∙ fw-expr e (clauses_before cs (token kinds.OpenCurly l ∷ items_before is (token kinds.CloseCurly r ∷ token kinds.Endwhile q ∷ rest))) (syms.Clauses ∷ syms.EndPart ∷ k) ∙ fw-clauses cs e l (items_before is (token kinds.CloseCurly r ∷ token kinds.Endwhile q ∷ rest)) (syms.EndPart ∷ k) ∙ fw-items is r (token kinds.Endwhile q ∷ rest) (syms.EndPart ∷ k)
  fw-stmt (Labelled p d n e cs (ABlock l is r) w x y) rest k =
      let behind = items_before is (token kinds.CloseCurly r ∷ token kinds.Endwhile w ∷ token kinds.Dot x ∷ token (kinds.Name n.text) y ∷ rest) in
      fw-expr e (clauses_before cs (token kinds.OpenCurly l ∷ behind)) (syms.Clauses ∷ syms.EndLabel n.text ∷ k) ∙ fw-clauses cs e l behind (syms.EndLabel n.text ∷ k)
      ∙ fw-items is r (token kinds.Endwhile w ∷ token kinds.Dot x ∷ token (kinds.Name n.text) y ∷ rest) (syms.EndLabel n.text ∷ k) ∙ label-read n.text w x y rest k
  fw-stmt (Breaking p NoLabel) rest k = refl
  fw-stmt (Breaking p (ALabel d n)) rest k = refl
  fw-stmt (Continuing p NoLabel) rest k = refl
  fw-stmt (Continuing p (ALabel d n)) rest k = refl
  fw-stmt (Returning p NoResult) rest k = refl
  fw-stmt (Returning p (NothingResult q)) rest k = refl
  fw-stmt (Returning p (AResult e)) rest k = from syms.Result [] e result-expr rest k ∙ fw-expr e rest k
  fw-stmt (Yielding p q e) rest k = fw-expr e rest k
  fw-stmt (Asserting p e NoVia) rest k = fw-expr e rest (syms.Via ∷ k)
  fw-stmt (Asserting p e (AVia w n l gs r)) rest k = to-token e (λ us j. fw-expr e us j) (token kinds.Via w) (text_token n ∷ token kinds.OpenRound l ∷ givens_before gs (token kinds.CloseRound r ∷ rest)) (syms.Via ∷ k) refl ∙ fw-givens gs r rest k

  fw-else : (o : ElseForm) (rest : List Token) (k : List Sym) → feeds (else_before o rest) (syms.Else ∷ k) ≡ feeds rest (else_tail o k)
  fw-else NoElse rest k = refl
  fw-else (ElseIf p q e (ABlock l is r) o) rest k = to-token e (λ us j. fw-expr e us j) (token kinds.OpenCurly l) (items_before is (token kinds.CloseCurly r ∷ else_before o rest)) (syms.Block ∷ syms.Else ∷ k) refl ∙ fw-items is r (else_before o rest) (syms.Else ∷ k) ∙ fw-else o rest k
  fw-else (Else p (ABlock l is r)) rest k = fw-items is r rest k

  fw-items : (is : ItemsForm) (r : Place) (rest : List Token) (k : List Sym) → feeds (items_before is (token kinds.CloseCurly r ∷ rest)) (syms.Items ∷ k) ≡ feeds rest k
  fw-items NoItem r rest k = refl
  fw-items (FirstItem s more) r rest k =
      swap-stmt _ (stmt-first s (more_items_before more (token kinds.CloseCurly r ∷ rest))) syms.Items k (items-stmt k)
      ∙ fw-stmt s (more_items_before more (token kinds.CloseCurly r ∷ rest)) (syms.MoreItems ∷ k) ∙ fw-more_items more s r rest k

  fw-more_items : (more : MoreItemsForm) (s : StmtForm) (r : Place) (rest : List Token) (k : List Sym)
      → feeds (more_items_before more (token kinds.CloseCurly r ∷ rest)) (stmt_tail s (syms.MoreItems ∷ k)) ≡ feeds rest k
  fw-more_items LastItem s r rest k = over (stmt_tail s (syms.MoreItems ∷ k)) (syms.MoreItems ∷ k) (token kinds.CloseCurly r) rest (drop-stmt s _ kinds.CloseCurly refl)
  fw-more_items (ItemSemicolon p) s r rest k = over (stmt_tail s (syms.MoreItems ∷ k)) (syms.MoreItems ∷ k) (token kinds.Semicolon p) (token kinds.CloseCurly r ∷ rest) (drop-stmt s _ kinds.Semicolon refl)
  fw-more_items (NextItem p next more) s r rest k =
      let behind = more_items_before more (token kinds.CloseCurly r ∷ rest) in
      over (stmt_tail s (syms.MoreItems ∷ k)) (syms.MoreItems ∷ k) (token kinds.Semicolon p) (stmt_before next behind) (drop-stmt s _ kinds.Semicolon refl)
      ∙ swap-stmt _ (stmt-first next behind) syms.Items k (items-stmt k) ∙ fw-stmt next behind (syms.MoreItems ∷ k) ∙ fw-more_items more next r rest k

fw-more_vars : (more : MoreVarsForm) (t : TypeForm) (r : Place) (rest : List Token) (k : List Sym)
    → feeds (more_vars_before more (token kinds.CloseCurly r ∷ rest)) (type_tail t (syms.MoreVars ∷ k)) ≡ feeds rest k
fw-more_vars LastVar t r rest k = over (type_tail t (syms.MoreVars ∷ k)) (syms.MoreVars ∷ k) (token kinds.CloseCurly r) rest (drop-type t _ kinds.CloseCurly refl)
fw-more_vars (VarSemicolon p) t r rest k = over (type_tail t (syms.MoreVars ∷ k)) (syms.MoreVars ∷ k) (token kinds.Semicolon p) (token kinds.CloseCurly r ∷ rest) (drop-type t _ kinds.Semicolon refl)
fw-more_vars (NextVar p (AVar w n c u) more) t r rest k =
    over (type_tail t (syms.MoreVars ∷ k)) (syms.MoreVars ∷ k) (token kinds.Semicolon p) (var_before (AVar w n c u) (more_vars_before more (token kinds.CloseCurly r ∷ rest))) (drop-type t _ kinds.Semicolon refl)
    ∙ fw-type u (more_vars_before more (token kinds.CloseCurly r ∷ rest)) (syms.MoreVars ∷ k) ∙ fw-more_vars more u r rest k
fw-more_vars (ThenStmt p s more) t r rest k =
    let behind = more_items_before more (token kinds.CloseCurly r ∷ rest) in
    over (type_tail t (syms.MoreVars ∷ k)) (syms.MoreVars ∷ k) (token kinds.Semicolon p) (stmt_before s behind) (drop-type t _ kinds.Semicolon refl)
    ∙ swap-stmt _ (stmt-first s behind) syms.Vars k (vars-stmt k) ∙ fw-stmt s behind (syms.MoreItems ∷ k) ∙ fw-more_items more s r rest k

fw-vars : (vs : VarsForm) (r : Place) (rest : List Token) (k : List Sym) → feeds (vars_before vs (token kinds.CloseCurly r ∷ rest)) (syms.Vars ∷ k) ≡ feeds rest k
fw-vars NoVars r rest k = refl
fw-vars (FirstVar (AVar w n c u) more) r rest k = fw-type u (more_vars_before more (token kinds.CloseCurly r ∷ rest)) (syms.MoreVars ∷ k) ∙ fw-more_vars more u r rest k
fw-vars (FirstStmt s more) r rest k =
    let behind = more_items_before more (token kinds.CloseCurly r ∷ rest) in
    swap-stmt _ (stmt-first s behind) syms.Vars k (vars-stmt k) ∙ fw-stmt s behind (syms.MoreItems ∷ k) ∙ fw-more_items more s r rest k

fw-more_fields : (more : MoreFieldsForm) (t : TypeForm) (r : Place) (rest : List Token) (k : List Sym)
    → feeds (more_fields_before more (token kinds.CloseRound r ∷ rest)) (type_tail t (syms.MoreFields ∷ k)) ≡ feeds rest k
fw-more_fields LastField t r rest k = over (type_tail t (syms.MoreFields ∷ k)) (syms.MoreFields ∷ k) (token kinds.CloseRound r) rest (drop-type t _ kinds.CloseRound refl)
fw-more_fields (FieldComma p) t r rest k = over (type_tail t (syms.MoreFields ∷ k)) (syms.MoreFields ∷ k) (token kinds.Comma p) (token kinds.CloseRound r ∷ rest) (drop-type t _ kinds.Comma refl)
fw-more_fields (NextField p n c u more) t r rest k =
    over (type_tail t (syms.MoreFields ∷ k)) (syms.MoreFields ∷ k) (token kinds.Comma p) (name_token n ∷ token kinds.Colon c ∷ type_before u (more_fields_before more (token kinds.CloseRound r ∷ rest))) (drop-type t _ kinds.Comma refl)
    ∙ fw-type u (more_fields_before more (token kinds.CloseRound r ∷ rest)) (syms.MoreFields ∷ k) ∙ fw-more_fields more u r rest k

fw-fields : (fs : FieldsForm) (r : Place) (rest : List Token) (k : List Sym) → feeds (fields_before fs (token kinds.CloseRound r ∷ rest)) (syms.Fields ∷ k) ≡ feeds rest k
fw-fields NoField r rest k = refl
fw-fields (FirstField n c u more) r rest k = fw-type u (more_fields_before more (token kinds.CloseRound r ∷ rest)) (syms.MoreFields ∷ k) ∙ fw-more_fields more u r rest k

fw-fields_mark : (mark : MarkPart) (l : Place) (fs : FieldsForm) (r : Place) (rest : List Token) (k : List Sym)
    → feeds (mark_part_before mark (token kinds.OpenRound l ∷ fields_before fs (token kinds.CloseRound r ∷ rest))) (syms.FieldsMark ∷ k) ≡ feeds rest k
fw-fields_mark NoMark l fs r rest k = fw-fields fs r rest k
fw-fields_mark (AMark (Exclaims u)) l fs r rest k = fw-fields fs r rest k
fw-fields_mark (AMark (Asks u)) l fs r rest k = fw-fields fs r rest k

abbrev pub begins_type : Kind → Bool
begins_type kinds.Base = true
begins_type kinds.Slice = true
begins_type kinds.Array = true
begins_type (kinds.Name n) = true
begins_type _ = false

tail-type : (k : List Sym) (t : Kind) → begins_type t ≡ true → feed (syms.MethodTail ∷ k) t ≡ feed (syms.WholeType ∷ syms.Body ∷ k) t
tail-type k kinds.Base h = refl
tail-type k kinds.Slice h = refl
tail-type k kinds.Array h = refl
tail-type k (kinds.Name n) h = refl
tail-type k _ h = absurd (cc h)

pub type-first : (t : TypeForm) (rest : List Token) → Starts begins_type (type_before t rest)
type-first (BaseType p d n b) rest = record { first = _; others = _; is = refl; passes = refl }
type-first (StatusType p d w b) rest = record { first = _; others = _; is = refl; passes = refl }
type-first (SliceType p t) rest = record { first = _; others = _; is = refl; passes = refl }
type-first (ArrayType p l e r t) rest = record { first = _; others = _; is = refl; passes = refl }
type-first (StructType n) rest = record { first = _; others = _; is = refl; passes = refl }

fw-method : (t : TypePart) (x : Place) (vs : VarsForm) (y : Place) (rest : List Token) (k : List Sym)
    → feeds (type_part_before t (token kinds.OpenCurly x ∷ vars_before vs (token kinds.CloseCurly y ∷ rest))) (syms.MethodTail ∷ k) ≡ feeds rest k
fw-method NoType x vs y rest k = fw-vars vs y rest k
fw-method (AType t) x vs y rest k =
    let behind = vars_before vs (token kinds.CloseCurly y ∷ rest) in
    swapped begins_type _ (type-first t (token kinds.OpenCurly x ∷ behind)) (syms.MethodTail ∷ k) (syms.WholeType ∷ syms.Body ∷ k) (tail-type k)
    ∙ fw-type t (token kinds.OpenCurly x ∷ behind) (syms.Body ∷ k)
    ∙ over (type_tail t (syms.Body ∷ k)) (syms.Body ∷ k) (token kinds.OpenCurly x) behind (drop-type t _ kinds.OpenCurly refl)
    ∙ fw-vars vs y rest k

fw-others : (o : OtherFieldsForm) (p : Place) (rest : List Token) (k : List Sym)
    → feeds (other_fields_before o (token kinds.Semicolon p ∷ rest)) (syms.OtherFields ∷ syms.ASemicolon ∷ k) ≡ feeds rest k
fw-others NoOtherFields p rest k = refl
fw-others (OtherFields q l fs r) p rest k = fw-fields fs r (token kinds.Semicolon p ∷ rest) (syms.ASemicolon ∷ k)

-- A declaration and its semicolon, after `pub` or `pri`.
fw-decl : (d : DeclForm) (p : Place) (rest : List Token) (k : List Sym) → feeds (decl_before d (token kinds.Semicolon p ∷ rest)) (syms.File ∷ k) ≡ feeds rest (syms.File ∷ k)
fw-decl (AStatus (IsPub g) w n) p rest k = refl
fw-decl (AConst (IsPub g) w n c t q e) p rest k =
    fw-type t (token kinds.Equals q ∷ expr_before e (token kinds.Semicolon p ∷ rest)) (syms.AnEquals ∷ syms.Expr ∷ syms.ASemicolon ∷ syms.File ∷ k)
    ∙ over (type_tail t (syms.AnEquals ∷ syms.Expr ∷ syms.ASemicolon ∷ syms.File ∷ k)) (syms.AnEquals ∷ syms.Expr ∷ syms.ASemicolon ∷ syms.File ∷ k) (token kinds.Equals q) (expr_before e (token kinds.Semicolon p ∷ rest)) (drop-type t _ kinds.Equals refl)
    ∙ to-token e (λ us j. fw-expr e us j) (token kinds.Semicolon p) rest (syms.ASemicolon ∷ syms.File ∷ k) refl
fw-decl (AStruct (IsPub g) w n mark l fs r others) p rest k =
    fw-fields_mark mark l fs r (other_fields_before others (token kinds.Semicolon p ∷ rest)) (syms.OtherFields ∷ syms.ASemicolon ∷ syms.File ∷ k) ∙ fw-others others p rest (syms.File ∷ k)
fw-decl (AFunc (IsPub g) w o d n mark l fs r t x vs y) p rest k =
    fw-fields_mark mark l fs r (type_part_before t (token kinds.OpenCurly x ∷ vars_before vs (token kinds.CloseCurly y ∷ token kinds.Semicolon p ∷ rest))) (syms.MethodTail ∷ syms.ASemicolon ∷ syms.File ∷ k) ∙ fw-method t x vs y (token kinds.Semicolon p ∷ rest) (syms.ASemicolon ∷ syms.File ∷ k)
fw-decl (AStatus (IsPri g) w n) p rest k = refl
fw-decl (AConst (IsPri g) w n c t q e) p rest k =
    fw-type t (token kinds.Equals q ∷ expr_before e (token kinds.Semicolon p ∷ rest)) (syms.AnEquals ∷ syms.Expr ∷ syms.ASemicolon ∷ syms.File ∷ k)
    ∙ over (type_tail t (syms.AnEquals ∷ syms.Expr ∷ syms.ASemicolon ∷ syms.File ∷ k)) (syms.AnEquals ∷ syms.Expr ∷ syms.ASemicolon ∷ syms.File ∷ k) (token kinds.Equals q) (expr_before e (token kinds.Semicolon p ∷ rest)) (drop-type t _ kinds.Equals refl)
    ∙ to-token e (λ us j. fw-expr e us j) (token kinds.Semicolon p) rest (syms.ASemicolon ∷ syms.File ∷ k) refl
fw-decl (AStruct (IsPri g) w n mark l fs r others) p rest k =
    fw-fields_mark mark l fs r (other_fields_before others (token kinds.Semicolon p ∷ rest)) (syms.OtherFields ∷ syms.ASemicolon ∷ syms.File ∷ k) ∙ fw-others others p rest (syms.File ∷ k)
fw-decl (AFunc (IsPri g) w o d n mark l fs r t x vs y) p rest k =
    fw-fields_mark mark l fs r (type_part_before t (token kinds.OpenCurly x ∷ vars_before vs (token kinds.CloseCurly y ∷ token kinds.Semicolon p ∷ rest))) (syms.MethodTail ∷ syms.ASemicolon ∷ syms.File ∷ k) ∙ fw-method t x vs y (token kinds.Semicolon p ∷ rest) (syms.ASemicolon ∷ syms.File ∷ k)

-- A file is read to its end, and then nothing but further declarations is wanted.
pub fw-file : (f : FileForm) (rest : List Token) (k : List Sym) → feeds (file_before f rest) (syms.File ∷ k) ≡ feeds rest (syms.File ∷ k)
fw-file NoDecl rest k = refl
fw-file (ADecl d p more) rest k = fw-decl d p (file_before more rest) k ∙ fw-file more rest k
