-- The statements of a form of the grammar stand where their first tokens stand, in the order of these.
use Rattle.std.proofs.Common.{◌≡◌, inl, List, [], ◌∷◌, ◌++◌, refl, sym, subst, append_assoc}
use Rattle.std.proofs.lemmas.List.{append-nil}
use Rattle.wf_text.specs.declared.place.Place.{Place}
use Rattle.wf_ast.specs.StatementPlaces.{stmt_places, block_places, arm_places}
use Rattle.wf_ast.proofs.Rising.{StandAmong, over, over-all, but-first}
use Rattle.wf_parse_grammar.specs.declared.tokens.Kind.TheVariants as kinds
use Rattle.wf_parse_grammar.specs.declared.tokens.Token.{Token}
use Rattle.wf_parse_grammar.specs.Grammar.{token, name_token, text_token}
use Rattle.wf_parse_grammar.specs.Grammar.{PathForm, BarePath, ThisPath, ArgsPath, OnForm, OnThis, OnPath, MarkForm, Exclaims, Asks, MarkPart, ExprForm, GivensForm, TypeForm}
use Rattle.wf_parse_grammar.specs.Grammar.{TargetForm, ToPath, ToElement, SignForm, Becomes, Updates, CallForm, MarkedCall, LabelPart, NoLabel, ALabel, ResultForm, NoResult, NothingResult, AResult, ViaForm, NoVia, AVia, ClausesForm, NoClause, ClauseComma, NextClause, EndForm, NoEnd, AnEnd, VarForm, AVar}
use Rattle.wf_parse_grammar.specs.Grammar.{StmtForm, Assignment, Keeping, Calling, Branching, Looping, Labelled, Breaking, Continuing, Returning, Yielding, Asserting, ElseForm, NoElse, ElseIf, Else, BlockForm, ABlock, ItemsForm, NoItem, FirstItem, MoreItemsForm, LastItem, ItemSemicolon, NextItem}
use Rattle.wf_parse_grammar.specs.Grammar.{VarsForm, NoVars, FirstVar, FirstStmt, MoreVarsForm, LastVar, VarSemicolon, NextVar, ThenStmt, FieldsForm, NoField, FirstField, MoreFieldsForm, LastField, FieldComma, NextField, TypePart, NoType, AType, PublicForm, IsPub, IsPri}
use Rattle.wf_parse_grammar.specs.Grammar.{path_before, on_before, mark_before, mark_part_before, expr_before, givens_before, type_before, target_before, sign_before, call_before, label_before, result_before, via_before, clause_kind, clauses_before, end_before, var_before, stmt_before, else_before, block_before, items_before, more_items_before, more_vars_before, vars_before, more_fields_before, fields_before, type_part_before, public_before}
use Rattle.wf_parse_grammar.specs.Meaning.{path_tree, target_start, on_start, call_start, var_tree, stmt_tree, else_trees, block_tree, items_tree, more_items_tree, more_vars_tree, vars_tree}
use Rattle.wf_parse_grammar.proofs.Catenation.{more-mark, more-expr, more-givens, more-type}

-- Places that stand among tokens.
abbrev pub Among : List Place → List Token → Type 0
Among ps ts = StandAmong (λ (p : Place). p) (λ (t : Token). t.at) ps ts

-- Tokens before those among which they stand make no difference.
pub token-over : (ps : List Place) (t : Token) (ts : List Token) → Among ps ts → Among ps (t ∷ ts)
token-over ps t ts h = over (λ (p : Place). p) (λ (t : Token). t.at) ps t ts h

form-over : (before : List Token → List Token) → ((ts rest : List Token) → before (ts ++ rest) ≡ before ts ++ rest) → (ps : List Place) (rest : List Token) → Among ps rest → Among ps (before rest)
form-over before more ps rest h =
    let P : List Token → Type 0 = Among ps in
    subst P (sym (more [] rest)) (over-all (λ (p : Place). p) (λ (t : Token). t.at) ps (before []) rest h)

expr-over : (e : ExprForm) (ps : List Place) (rest : List Token) → Among ps rest → Among ps (expr_before e rest)
expr-over e ps rest h = form-over (expr_before e) (more-expr e) ps rest h

givens-over : (gs : GivensForm) (ps : List Place) (rest : List Token) → Among ps rest → Among ps (givens_before gs rest)
givens-over gs ps rest h = form-over (givens_before gs) (more-givens gs) ps rest h

type-over : (t : TypeForm) (ps : List Place) (rest : List Token) → Among ps rest → Among ps (type_before t rest)
type-over t ps rest h = form-over (type_before t) (more-type t) ps rest h

pub mark-part-over : (m : MarkPart) (ps : List Place) (rest : List Token) → Among ps rest → Among ps (mark_part_before m rest)
mark-part-over m ps rest h = form-over (mark_part_before m) (more-mark m) ps rest h

mark-over : (m : MarkForm) (ps : List Place) (rest : List Token) → Among ps rest → Among ps (mark_before m rest)
mark-over (Exclaims p) ps rest h = token-over ps (token kinds.Exclamation p) rest h
mark-over (Asks p) ps rest h = token-over ps (token kinds.Question p) rest h

sign-over : (s : SignForm) (ps : List Place) (rest : List Token) → Among ps rest → Among ps (sign_before s rest)
sign-over (Becomes p) ps rest h = token-over ps (token kinds.Equals p) rest h
sign-over (Updates op p) ps rest h = token-over ps (token (kinds.Update op) p) rest h

label-over : (l : LabelPart) (ps : List Place) (rest : List Token) → Among ps rest → Among ps (label_before l rest)
label-over NoLabel ps rest h = h
label-over (ALabel d n) ps rest h = token-over ps (token kinds.Dot d) (name_token n ∷ rest) (token-over ps (name_token n) rest h)

result-over : (r : ResultForm) (ps : List Place) (rest : List Token) → Among ps rest → Among ps (result_before r rest)
result-over NoResult ps rest h = h
result-over (NothingResult p) ps rest h = token-over ps (token kinds.Nothing p) rest h
result-over (AResult e) ps rest h = expr-over e ps rest h

-- A list of arguments in parentheses.
closed-over : (l : Place) (gs : GivensForm) (r : Place) (ps : List Place) (rest : List Token) → Among ps rest → Among ps (token kinds.OpenRound l ∷ givens_before gs (token kinds.CloseRound r ∷ rest))
closed-over l gs r ps rest h =
    let behind : List Token = token kinds.CloseRound r ∷ rest in
    token-over ps (token kinds.OpenRound l) (givens_before gs behind) (givens-over gs ps behind (token-over ps (token kinds.CloseRound r) rest h))

via-over : (v : ViaForm) (ps : List Place) (rest : List Token) → Among ps rest → Among ps (via_before v rest)
via-over NoVia ps rest h = h
via-over (AVia p n l gs r) ps rest h =
    let behind : List Token = token kinds.OpenRound l ∷ givens_before gs (token kinds.CloseRound r ∷ rest) in
    token-over ps (token kinds.Via p) (text_token n ∷ behind) (token-over ps (text_token n) behind (closed-over l gs r ps rest h))

clauses-over : (cs : ClausesForm) (ps : List Place) (rest : List Token) → Among ps rest → Among ps (clauses_before cs rest)
clauses-over NoClause ps rest h = h
clauses-over (ClauseComma p) ps rest h = token-over ps (token kinds.Comma p) rest h
clauses-over (NextClause p c w e more) ps rest h =
    let behind : List Token = expr_before e (clauses_before more rest) in
    token-over ps (token kinds.Comma p) (token (clause_kind c) w ∷ behind)
    (token-over ps (token (clause_kind c) w) behind (expr-over e ps (clauses_before more rest) (clauses-over more ps rest h)))

end-over : (o : EndForm) (ps : List Place) (rest : List Token) → Among ps rest → Among ps (end_before o rest)
end-over NoEnd ps rest h = h
end-over (AnEnd p) ps rest h = token-over ps (token kinds.Endwhile p) rest h

-- A path, a target and a call begin with their first token.
path-first : (path : PathForm) (ps : List Place) (rest : List Token) → Among ps rest → Among ((path_tree path).at ∷ ps) (path_before path rest)
path-first (BarePath n) ps rest h = inl (refl, h)
path-first (ThisPath p d n) ps rest h = inl (refl, token-over ps (token kinds.Dot d) (name_token n ∷ rest) (token-over ps (name_token n) rest h))
path-first (ArgsPath p d n) ps rest h = inl (refl, token-over ps (token kinds.Dot d) (name_token n ∷ rest) (token-over ps (name_token n) rest h))

on-first : (on : OnForm) (ps : List Place) (rest : List Token) → Among ps rest → Among (on_start on ∷ ps) (on_before on rest)
on-first (OnThis p) ps rest h = inl (refl, h)
on-first (OnPath path) ps rest h = path-first path ps rest h

target-first : (t : TargetForm) (ps : List Place) (rest : List Token) → Among ps rest → Among (target_start t ∷ ps) (target_before t rest)
target-first (ToPath path) ps rest h = path-first path ps rest h
target-first (ToElement path l e r) ps rest h =
    let behind : List Token = token kinds.CloseSquare r ∷ rest in
    path-first path ps (token kinds.OpenSquare l ∷ expr_before e behind)
    (token-over ps (token kinds.OpenSquare l) (expr_before e behind) (expr-over e ps behind (token-over ps (token kinds.CloseSquare r) rest h)))

call-first : (c : CallForm) (ps : List Place) (rest : List Token) → Among ps rest → Among (call_start c ∷ ps) (call_before c rest)
call-first (MarkedCall on d n m l gs r) ps rest h =
    let args : List Token = token kinds.OpenRound l ∷ givens_before gs (token kinds.CloseRound r ∷ rest) in
    let marked : List Token = mark_before m args in
    on-first on ps (token kinds.Dot d ∷ name_token n ∷ marked)
    (token-over ps (token kinds.Dot d) (name_token n ∷ marked) (token-over ps (name_token n) marked (mark-over m ps args (closed-over l gs r ps rest h))))

call-over : (c : CallForm) (ps : List Place) (rest : List Token) → Among ps rest → Among ps (call_before c rest)
call-over c ps rest h = but-first (λ (p : Place). p) (λ (t : Token). t.at) (call_start c) ps (call_before c rest) (call-first c ps rest h)

-- Places before others, however they are grouped.
grouped : (ps qs rs : List Place) (ts : List Token) → Among (ps ++ (qs ++ rs)) ts → Among ((ps ++ qs) ++ rs) ts
grouped ps qs rs ts h =
    let P : List Place → Type 0 = λ all. Among all ts in
    subst P (sym (append_assoc ps qs rs)) h

var-among : (v : VarForm) (ps : List Place) (rest : List Token) → Among ps rest → Among (stmt_places (var_tree v) ++ ps) (var_before v rest)
var-among (AVar p n c t) ps rest h =
    let behind : List Token = type_before t rest in
    inl (refl, token-over ps (name_token n) (token kinds.Colon c ∷ behind) (token-over ps (token kinds.Colon c) behind (type-over t ps rest h)))

mutual
  stmt-among : (s : StmtForm) (ps : List Place) (rest : List Token) → Among ps rest → Among (stmt_places (stmt_tree s) ++ ps) (stmt_before s rest)
  stmt-among (Assignment t s e) ps rest h = target-first t ps (sign_before s (expr_before e rest)) (sign-over s ps (expr_before e rest) (expr-over e ps rest h))
  stmt-among (Keeping t p c) ps rest h =
      target-first t ps (token kinds.KeepEquals p ∷ call_before c rest) (token-over ps (token kinds.KeepEquals p) (call_before c rest) (call-over c ps rest h))
  stmt-among (Calling c) ps rest h = call-first c ps rest h
  stmt-among (Branching p e b o) ps rest h =
      let inside : List Place = block_places (block_tree b) in
      let others : List Place = arm_places (else_trees o) in
      let behind : List Token = block_before b (else_before o rest) in
      inl (refl, expr-over e ((inside ++ others) ++ ps) behind (grouped inside others ps behind (block-among b (others ++ ps) (else_before o rest) (else-among o ps rest h))))
  stmt-among (Looping p e cs b o) ps rest h =
      let all : List Place = block_places (block_tree b) ++ ps in
      let behind : List Token = block_before b (end_before o rest) in
      inl (refl, expr-over e all (clauses_before cs behind) (clauses-over cs all behind (block-among b ps (end_before o rest) (end-over o ps rest h))))
  stmt-among (Labelled p d n e cs b w x y) ps rest h =
      let all : List Place = block_places (block_tree b) ++ ps in
      let ended : List Token = token kinds.Endwhile w ∷ token kinds.Dot x ∷ token (kinds.Name n.text) y ∷ rest in
      let behind : List Token = block_before b ended in
      let headed : List Token = expr_before e (clauses_before cs behind) in
      let end = token-over ps (token kinds.Endwhile w) (token kinds.Dot x ∷ token (kinds.Name n.text) y ∷ rest)
      (token-over ps (token kinds.Dot x) (token (kinds.Name n.text) y ∷ rest) (token-over ps (token (kinds.Name n.text) y) rest h)) in
      let head = expr-over e all (clauses_before cs behind) (clauses-over cs all behind (block-among b ps ended end)) in
      inl (refl, token-over all (token kinds.Dot d) (name_token n ∷ headed) (token-over all (name_token n) headed head))
  stmt-among (Breaking p l) ps rest h = inl (refl, label-over l ps rest h)
  stmt-among (Continuing p l) ps rest h = inl (refl, label-over l ps rest h)
  stmt-among (Returning p r) ps rest h = inl (refl, result-over r ps rest h)
  stmt-among (Yielding p q e) ps rest h = inl (refl, token-over ps (token kinds.Question q) (expr_before e rest) (expr-over e ps rest h))
  stmt-among (Asserting p e v) ps rest h = inl (refl, expr-over e ps (via_before v rest) (via-over v ps rest h))

  else-among : (o : ElseForm) (ps : List Place) (rest : List Token) → Among ps rest → Among (arm_places (else_trees o) ++ ps) (else_before o rest)
  else-among NoElse ps rest h = h
  else-among (ElseIf p q e b o) ps rest h =
      let inside : List Place = block_places (block_tree b) in
      let others : List Place = arm_places (else_trees o) in
      let behind : List Token = block_before b (else_before o rest) in
      let all : List Place = (inside ++ others) ++ ps in
      let body = grouped inside others ps behind (block-among b (others ++ ps) (else_before o rest) (else-among o ps rest h)) in
      token-over all (token kinds.Else p) (token kinds.If q ∷ expr_before e behind) (token-over all (token kinds.If q) (expr_before e behind) (expr-over e all behind body))
  else-among (Else p b) ps rest h = token-over (block_places (block_tree b) ++ ps) (token kinds.Else p) (block_before b rest) (block-among b ps rest h)

  block-among : (b : BlockForm) (ps : List Place) (rest : List Token) → Among ps rest → Among (block_places (block_tree b) ++ ps) (block_before b rest)
  block-among (ABlock l items r) ps rest h =
      token-over (block_places (items_tree items r) ++ ps) (token kinds.OpenCurly l) (items_before items (token kinds.CloseCurly r ∷ rest)) (items-among items r ps rest h)

  items-among : (items : ItemsForm) (r : Place) (ps : List Place) (rest : List Token) → Among ps rest → Among (block_places (items_tree items r) ++ ps) (items_before items (token kinds.CloseCurly r ∷ rest))
  items-among NoItem r ps rest h = token-over ps (token kinds.CloseCurly r) rest h
  items-among (FirstItem s more) r ps rest h =
      let others : List Place = block_places (more_items_tree more r) in
      let behind : List Token = more_items_before more (token kinds.CloseCurly r ∷ rest) in
      grouped (stmt_places (stmt_tree s)) others ps (stmt_before s behind) (stmt-among s (others ++ ps) behind (more-items-among more r ps rest h))

  more-items-among : (more : MoreItemsForm) (r : Place) (ps : List Place) (rest : List Token) → Among ps rest → Among (block_places (more_items_tree more r) ++ ps) (more_items_before more (token kinds.CloseCurly r ∷ rest))
  more-items-among LastItem r ps rest h = token-over ps (token kinds.CloseCurly r) rest h
  more-items-among (ItemSemicolon p) r ps rest h = token-over ps (token kinds.Semicolon p) (token kinds.CloseCurly r ∷ rest) (token-over ps (token kinds.CloseCurly r) rest h)
  more-items-among (NextItem p s more) r ps rest h =
      let first : List Place = stmt_places (stmt_tree s) in
      let others : List Place = block_places (more_items_tree more r) in
      let behind : List Token = more_items_before more (token kinds.CloseCurly r ∷ rest) in
      let all = grouped first others ps (stmt_before s behind) (stmt-among s (others ++ ps) behind (more-items-among more r ps rest h)) in
      token-over ((first ++ others) ++ ps) (token kinds.Semicolon p) (stmt_before s behind) all

-- The block of a method.
more-vars-among : (more : MoreVarsForm) (r : Place) (ps : List Place) (rest : List Token) → Among ps rest → Among (block_places (more_vars_tree more r) ++ ps) (more_vars_before more (token kinds.CloseCurly r ∷ rest))
more-vars-among LastVar r ps rest h = token-over ps (token kinds.CloseCurly r) rest h
more-vars-among (VarSemicolon p) r ps rest h = token-over ps (token kinds.Semicolon p) (token kinds.CloseCurly r ∷ rest) (token-over ps (token kinds.CloseCurly r) rest h)
more-vars-among (NextVar p v more) r ps rest h =
    let first : List Place = stmt_places (var_tree v) in
    let others : List Place = block_places (more_vars_tree more r) in
    let behind : List Token = more_vars_before more (token kinds.CloseCurly r ∷ rest) in
    let all = grouped first others ps (var_before v behind) (var-among v (others ++ ps) behind (more-vars-among more r ps rest h)) in
    token-over ((first ++ others) ++ ps) (token kinds.Semicolon p) (var_before v behind) all
more-vars-among (ThenStmt p s more) r ps rest h =
    let first : List Place = stmt_places (stmt_tree s) in
    let others : List Place = block_places (more_items_tree more r) in
    let behind : List Token = more_items_before more (token kinds.CloseCurly r ∷ rest) in
    let all = grouped first others ps (stmt_before s behind) (stmt-among s (others ++ ps) behind (more-items-among more r ps rest h)) in
    token-over ((first ++ others) ++ ps) (token kinds.Semicolon p) (stmt_before s behind) all

vars-among : (vs : VarsForm) (r : Place) (ps : List Place) (rest : List Token) → Among ps rest → Among (block_places (vars_tree vs r) ++ ps) (vars_before vs (token kinds.CloseCurly r ∷ rest))
vars-among NoVars r ps rest h = token-over ps (token kinds.CloseCurly r) rest h
vars-among (FirstVar v more) r ps rest h =
    let others : List Place = block_places (more_vars_tree more r) in
    let behind : List Token = more_vars_before more (token kinds.CloseCurly r ∷ rest) in
    grouped (stmt_places (var_tree v)) others ps (var_before v behind) (var-among v (others ++ ps) behind (more-vars-among more r ps rest h))
vars-among (FirstStmt s more) r ps rest h =
    let others : List Place = block_places (more_items_tree more r) in
    let behind : List Token = more_items_before more (token kinds.CloseCurly r ∷ rest) in
    grouped (stmt_places (stmt_tree s)) others ps (stmt_before s behind) (stmt-among s (others ++ ps) behind (more-items-among more r ps rest h))

pub body-among : (vs : VarsForm) (r : Place) (rest : List Token) → Among (block_places (vars_tree vs r)) (vars_before vs (token kinds.CloseCurly r ∷ rest))
body-among vs r rest =
    let P : List Place → Type 0 = λ ps. Among ps (vars_before vs (token kinds.CloseCurly r ∷ rest)) in
    subst P (append-nil (block_places (vars_tree vs r))) (vars-among vs r [] rest tt)

-- What stands before it in a declaration.
more-fields-over : (more : MoreFieldsForm) (ps : List Place) (rest : List Token) → Among ps rest → Among ps (more_fields_before more rest)
more-fields-over LastField ps rest h = h
more-fields-over (FieldComma p) ps rest h = token-over ps (token kinds.Comma p) rest h
more-fields-over (NextField p n c t more) ps rest h =
    let behind : List Token = type_before t (more_fields_before more rest) in
    token-over ps (token kinds.Comma p) (name_token n ∷ token kinds.Colon c ∷ behind)
    (token-over ps (name_token n) (token kinds.Colon c ∷ behind) (token-over ps (token kinds.Colon c) behind (type-over t ps (more_fields_before more rest) (more-fields-over more ps rest h))))

pub fields-over : (fs : FieldsForm) (ps : List Place) (rest : List Token) → Among ps rest → Among ps (fields_before fs rest)
fields-over NoField ps rest h = h
fields-over (FirstField n c t more) ps rest h =
    let behind : List Token = type_before t (more_fields_before more rest) in
    token-over ps (name_token n) (token kinds.Colon c ∷ behind) (token-over ps (token kinds.Colon c) behind (type-over t ps (more_fields_before more rest) (more-fields-over more ps rest h)))

pub type-part-over : (t : TypePart) (ps : List Place) (rest : List Token) → Among ps rest → Among ps (type_part_before t rest)
type-part-over NoType ps rest h = h
type-part-over (AType t) ps rest h = type-over t ps rest h

pub public-over : (pu : PublicForm) (ps : List Place) (rest : List Token) → Among ps rest → Among ps (public_before pu rest)
public-over (IsPub p) ps rest h = token-over ps (token kinds.Pub p) rest h
public-over (IsPri p) ps rest h = token-over ps (token kinds.Pri p) rest h
