-- The same for statements and declarations.
use Rattle.std.proofs.Common.{◌≡◌, ◌∙◌, ap, List, ◌∷◌, ◌++◌, refl}
use Rattle.wf_parse_grammar.specs.declared.tokens.Kind.TheVariants as kinds
use Rattle.wf_parse_grammar.specs.declared.tokens.Token.{Token}
use Rattle.wf_parse_grammar.specs.Grammar.{token, name_token, text_token, MarkForm, Exclaims, Asks}
use Rattle.wf_parse_grammar.specs.Grammar.{TargetForm, ToPath, ToElement, SignForm, Becomes, Updates, CallForm, MarkedCall, LabelPart, NoLabel, ALabel, ResultForm, NoResult, NothingResult, AResult, ViaForm, NoVia, AVia, ClausesForm, NoClause, ClauseComma, NextClause, EndForm, NoEnd, AnEnd, AVar}
use Rattle.wf_parse_grammar.specs.Grammar.{StmtForm, Assignment, Keeping, Calling, Branching, Looping, Labelled, Breaking, Continuing, Returning, Yielding, Asserting, ElseForm, NoElse, ElseIf, Else, BlockForm, ABlock, ItemsForm, NoItem, FirstItem, MoreItemsForm, LastItem, ItemSemicolon, NextItem}
use Rattle.wf_parse_grammar.specs.Grammar.{VarsForm, NoVars, FirstVar, FirstStmt, MoreVarsForm, LastVar, VarSemicolon, NextVar, ThenStmt, FieldsForm, NoField, FirstField, MoreFieldsForm, LastField, FieldComma, NextField, OtherFieldsForm, NoOtherFields, OtherFields, TypePart, NoType, AType, PublicForm, IsPub, IsPri, DeclForm, AStatus, AConst, AStruct, AFunc}
use Rattle.wf_parse_grammar.specs.Grammar.{path_before, on_before, mark_before, mark_part_before, expr_before, givens_before, type_before, target_before, sign_before, call_before, label_before, result_before, via_before, clause_kind, clauses_before, end_before, stmt_before, else_before, block_before, items_before, more_items_before, more_vars_before, vars_before, more_fields_before, fields_before, other_fields_before, type_part_before, public_before, decl_before}
use Rattle.wf_ast.specs.declared.operators.Op.TheVariants as ops
use Rattle.wf_parse_grammar.proofs.Catenation.{more-path, more-on, more-mark, more-expr, more-givens, more-type}

more-target : (t : TargetForm) (ts rest : List Token) → target_before t (ts ++ rest) ≡ target_before t ts ++ rest
more-target (ToPath path) ts rest = more-path path ts rest
more-target (ToElement path l e r) ts rest =
    ap (λ us. path_before path (token kinds.OpenSquare l ∷ us)) (more-expr e (token kinds.CloseSquare r ∷ ts) rest)
    ∙ more-path path (token kinds.OpenSquare l ∷ expr_before e (token kinds.CloseSquare r ∷ ts)) rest

more-sign : (s : SignForm) (ts rest : List Token) → sign_before s (ts ++ rest) ≡ sign_before s ts ++ rest
more-sign (Becomes p) ts rest = refl
more-sign (Updates op p) ts rest = refl

more-sign_mark : (mark : MarkForm) (ts rest : List Token) → mark_before mark (ts ++ rest) ≡ mark_before mark ts ++ rest
more-sign_mark (Exclaims p) ts rest = refl
more-sign_mark (Asks p) ts rest = refl

more-call : (c : CallForm) (ts rest : List Token) → call_before c (ts ++ rest) ≡ call_before c ts ++ rest
more-call (MarkedCall on d n mark l gs r) ts rest =
    ap (λ us. on_before on (token kinds.Dot d ∷ name_token n ∷ mark_before mark (token kinds.OpenRound l ∷ us))) (more-givens gs (token kinds.CloseRound r ∷ ts) rest)
    ∙ ap (λ us. on_before on (token kinds.Dot d ∷ name_token n ∷ us)) (more-sign_mark mark (token kinds.OpenRound l ∷ givens_before gs (token kinds.CloseRound r ∷ ts)) rest)
    ∙ more-on on (token kinds.Dot d ∷ name_token n ∷ mark_before mark (token kinds.OpenRound l ∷ givens_before gs (token kinds.CloseRound r ∷ ts))) rest

more-label : (l : LabelPart) (ts rest : List Token) → label_before l (ts ++ rest) ≡ label_before l ts ++ rest
more-label NoLabel ts rest = refl
more-label (ALabel d n) ts rest = refl

more-result : (r : ResultForm) (ts rest : List Token) → result_before r (ts ++ rest) ≡ result_before r ts ++ rest
more-result NoResult ts rest = refl
more-result (NothingResult p) ts rest = refl
more-result (AResult e) ts rest = more-expr e ts rest

more-via : (v : ViaForm) (ts rest : List Token) → via_before v (ts ++ rest) ≡ via_before v ts ++ rest
more-via NoVia ts rest = refl
more-via (AVia p n l gs r) ts rest = ap (λ us. token kinds.Via p ∷ text_token n ∷ token kinds.OpenRound l ∷ us) (more-givens gs (token kinds.CloseRound r ∷ ts) rest)

more-clauses : (cs : ClausesForm) (ts rest : List Token) → clauses_before cs (ts ++ rest) ≡ clauses_before cs ts ++ rest
more-clauses NoClause ts rest = refl
more-clauses (ClauseComma p) ts rest = refl
more-clauses (NextClause p c x e more) ts rest =
    ap (λ us. token kinds.Comma p ∷ token (clause_kind c) x ∷ expr_before e us) (more-clauses more ts rest) ∙ ap (λ us. token kinds.Comma p ∷ token (clause_kind c) x ∷ us) (more-expr e (clauses_before more ts) rest)

more-end : (o : EndForm) (ts rest : List Token) → end_before o (ts ++ rest) ≡ end_before o ts ++ rest
more-end NoEnd ts rest = refl
more-end (AnEnd p) ts rest = refl

mutual
  more-stmt : (s : StmtForm) (ts rest : List Token) → stmt_before s (ts ++ rest) ≡ stmt_before s ts ++ rest
  more-stmt (Assignment t s e) ts rest =
      ap (λ us. target_before t (sign_before s us)) (more-expr e ts rest) ∙ ap (target_before t) (more-sign s (expr_before e ts) rest) ∙ more-target t (sign_before s (expr_before e ts)) rest
  more-stmt (Keeping t p c) ts rest = ap (λ us. target_before t (token kinds.KeepEquals p ∷ us)) (more-call c ts rest) ∙ more-target t (token kinds.KeepEquals p ∷ call_before c ts) rest
  more-stmt (Calling c) ts rest = more-call c ts rest
  more-stmt (Branching p e b o) ts rest =
      ap (λ us. token kinds.If p ∷ expr_before e (block_before b us)) (more-else o ts rest) ∙ ap (λ us. token kinds.If p ∷ expr_before e us) (more-block b (else_before o ts) rest)
      ∙ ap (λ us. token kinds.If p ∷ us) (more-expr e (block_before b (else_before o ts)) rest)
  more-stmt (Looping p e cs b o) ts rest =
      ap (λ us. token kinds.While p ∷ expr_before e (clauses_before cs (block_before b us))) (more-end o ts rest)
      ∙ ap (λ us. token kinds.While p ∷ expr_before e (clauses_before cs us)) (more-block b (end_before o ts) rest)
      ∙ ap (λ us. token kinds.While p ∷ expr_before e us) (more-clauses cs (block_before b (end_before o ts)) rest)
      ∙ ap (λ us. token kinds.While p ∷ us) (more-expr e (clauses_before cs (block_before b (end_before o ts))) rest)
  more-stmt (Labelled p d n e cs b x y z) ts rest =
      let over = token kinds.Endwhile x ∷ token kinds.Dot y ∷ token (kinds.Name n.text) z ∷ ts in
      ap (λ us. token kinds.While p ∷ token kinds.Dot d ∷ name_token n ∷ expr_before e (clauses_before cs us)) (more-block b over rest)
      ∙ ap (λ us. token kinds.While p ∷ token kinds.Dot d ∷ name_token n ∷ expr_before e us) (more-clauses cs (block_before b over) rest)
      ∙ ap (λ us. token kinds.While p ∷ token kinds.Dot d ∷ name_token n ∷ us) (more-expr e (clauses_before cs (block_before b over)) rest)
  more-stmt (Breaking p l) ts rest = ap (λ us. token kinds.Break p ∷ us) (more-label l ts rest)
  more-stmt (Continuing p l) ts rest = ap (λ us. token kinds.Continue p ∷ us) (more-label l ts rest)
  more-stmt (Returning p r) ts rest = ap (λ us. token kinds.Return p ∷ us) (more-result r ts rest)
  more-stmt (Yielding p q e) ts rest = ap (λ us. token kinds.Yield p ∷ token kinds.Question q ∷ us) (more-expr e ts rest)
  more-stmt (Asserting p e v) ts rest = ap (λ us. token kinds.Assert p ∷ expr_before e us) (more-via v ts rest) ∙ ap (λ us. token kinds.Assert p ∷ us) (more-expr e (via_before v ts) rest)

  more-else : (o : ElseForm) (ts rest : List Token) → else_before o (ts ++ rest) ≡ else_before o ts ++ rest
  more-else NoElse ts rest = refl
  more-else (ElseIf p q e b o) ts rest =
      ap (λ us. token kinds.Else p ∷ token kinds.If q ∷ expr_before e (block_before b us)) (more-else o ts rest)
      ∙ ap (λ us. token kinds.Else p ∷ token kinds.If q ∷ expr_before e us) (more-block b (else_before o ts) rest)
      ∙ ap (λ us. token kinds.Else p ∷ token kinds.If q ∷ us) (more-expr e (block_before b (else_before o ts)) rest)
  more-else (Else p b) ts rest = ap (λ us. token kinds.Else p ∷ us) (more-block b ts rest)

  more-block : (b : BlockForm) (ts rest : List Token) → block_before b (ts ++ rest) ≡ block_before b ts ++ rest
  more-block (ABlock l is r) ts rest = ap (λ us. token kinds.OpenCurly l ∷ us) (more-items is (token kinds.CloseCurly r ∷ ts) rest)

  more-items : (is : ItemsForm) (ts rest : List Token) → items_before is (ts ++ rest) ≡ items_before is ts ++ rest
  more-items NoItem ts rest = refl
  more-items (FirstItem s more) ts rest = ap (stmt_before s) (more-more_items more ts rest) ∙ more-stmt s (more_items_before more ts) rest

  more-more_items : (more : MoreItemsForm) (ts rest : List Token) → more_items_before more (ts ++ rest) ≡ more_items_before more ts ++ rest
  more-more_items LastItem ts rest = refl
  more-more_items (ItemSemicolon p) ts rest = refl
  more-more_items (NextItem p s more) ts rest = ap (λ us. token kinds.Semicolon p ∷ stmt_before s us) (more-more_items more ts rest) ∙ ap (λ us. token kinds.Semicolon p ∷ us) (more-stmt s (more_items_before more ts) rest)

more-more_vars : (more : MoreVarsForm) (ts rest : List Token) → more_vars_before more (ts ++ rest) ≡ more_vars_before more ts ++ rest
more-more_vars LastVar ts rest = refl
more-more_vars (VarSemicolon p) ts rest = refl
more-more_vars (NextVar p (AVar x n c t) more) ts rest =
    ap (λ us. token kinds.Semicolon p ∷ token kinds.Var x ∷ name_token n ∷ token kinds.Colon c ∷ type_before t us) (more-more_vars more ts rest)
    ∙ ap (λ us. token kinds.Semicolon p ∷ token kinds.Var x ∷ name_token n ∷ token kinds.Colon c ∷ us) (more-type t (more_vars_before more ts) rest)
more-more_vars (ThenStmt p s more) ts rest = ap (λ us. token kinds.Semicolon p ∷ stmt_before s us) (more-more_items more ts rest) ∙ ap (λ us. token kinds.Semicolon p ∷ us) (more-stmt s (more_items_before more ts) rest)

more-vars : (vs : VarsForm) (ts rest : List Token) → vars_before vs (ts ++ rest) ≡ vars_before vs ts ++ rest
more-vars NoVars ts rest = refl
more-vars (FirstVar (AVar x n c t) more) ts rest =
    ap (λ us. token kinds.Var x ∷ name_token n ∷ token kinds.Colon c ∷ type_before t us) (more-more_vars more ts rest)
    ∙ ap (λ us. token kinds.Var x ∷ name_token n ∷ token kinds.Colon c ∷ us) (more-type t (more_vars_before more ts) rest)
more-vars (FirstStmt s more) ts rest = ap (stmt_before s) (more-more_items more ts rest) ∙ more-stmt s (more_items_before more ts) rest

more-more_fields : (more : MoreFieldsForm) (ts rest : List Token) → more_fields_before more (ts ++ rest) ≡ more_fields_before more ts ++ rest
more-more_fields LastField ts rest = refl
more-more_fields (FieldComma p) ts rest = refl
more-more_fields (NextField p n c t more) ts rest =
    ap (λ us. token kinds.Comma p ∷ name_token n ∷ token kinds.Colon c ∷ type_before t us) (more-more_fields more ts rest)
    ∙ ap (λ us. token kinds.Comma p ∷ name_token n ∷ token kinds.Colon c ∷ us) (more-type t (more_fields_before more ts) rest)

more-fields : (fs : FieldsForm) (ts rest : List Token) → fields_before fs (ts ++ rest) ≡ fields_before fs ts ++ rest
more-fields NoField ts rest = refl
more-fields (FirstField n c t more) ts rest =
    ap (λ us. name_token n ∷ token kinds.Colon c ∷ type_before t us) (more-more_fields more ts rest)
    ∙ ap (λ us. name_token n ∷ token kinds.Colon c ∷ us) (more-type t (more_fields_before more ts) rest)

more-type_part : (t : TypePart) (ts rest : List Token) → type_part_before t (ts ++ rest) ≡ type_part_before t ts ++ rest
more-type_part NoType ts rest = refl
more-type_part (AType t) ts rest = more-type t ts rest

more-public : (pu : PublicForm) (ts rest : List Token) → public_before pu (ts ++ rest) ≡ public_before pu ts ++ rest
more-public (IsPub p) ts rest = refl
more-public (IsPri p) ts rest = refl

more-other_fields : (o : OtherFieldsForm) (ts rest : List Token) → other_fields_before o (ts ++ rest) ≡ other_fields_before o ts ++ rest
more-other_fields NoOtherFields ts rest = refl
more-other_fields (OtherFields p l fs r) ts rest = ap (λ us. token (kinds.Chain ops.Add) p ∷ token kinds.OpenRound l ∷ us) (more-fields fs (token kinds.CloseRound r ∷ ts) rest)

pub more-decl : (g : DeclForm) (ts rest : List Token) → decl_before g (ts ++ rest) ≡ decl_before g ts ++ rest
more-decl (AStatus pu x n) ts rest = more-public pu (token kinds.Status x ∷ text_token n ∷ ts) rest
more-decl (AConst pu x n c t q e) ts rest =
    let named : List Token → List Token = λ us. token kinds.Const x ∷ name_token n ∷ token kinds.Colon c ∷ us in
    ap (λ us. public_before pu (named (type_before t (token kinds.Equals q ∷ us)))) (more-expr e ts rest)
    ∙ ap (λ us. public_before pu (named us)) (more-type t (token kinds.Equals q ∷ expr_before e ts) rest)
    ∙ more-public pu (named (type_before t (token kinds.Equals q ∷ expr_before e ts))) rest
more-decl (AStruct pu x n mark l fs r others) ts rest =
    let named : List Token → List Token = λ us. token kinds.Struct x ∷ name_token n ∷ us in
    let one = token kinds.CloseRound r ∷ other_fields_before others ts in
    ap (λ us. public_before pu (named (mark_part_before mark (token kinds.OpenRound l ∷ fields_before fs (token kinds.CloseRound r ∷ us))))) (more-other_fields others ts rest)
    ∙ ap (λ us. public_before pu (named (mark_part_before mark (token kinds.OpenRound l ∷ us)))) (more-fields fs one rest)
    ∙ ap (λ us. public_before pu (named us)) (more-mark mark (token kinds.OpenRound l ∷ fields_before fs one) rest)
    ∙ more-public pu (named (mark_part_before mark (token kinds.OpenRound l ∷ fields_before fs one))) rest
more-decl (AFunc pu x o d n mark l fs r t u vs y) ts rest =
    let named : List Token → List Token = λ us. token kinds.Func x ∷ name_token o ∷ token kinds.Dot d ∷ name_token n ∷ us in
    let marked : List Token → List Token = λ us. mark_part_before mark (token kinds.OpenRound l ∷ us) in
    let one = token kinds.OpenCurly u ∷ vars_before vs (token kinds.CloseCurly y ∷ ts) in
    let two = token kinds.CloseRound r ∷ type_part_before t one in
    ap (λ us. public_before pu (named (marked (fields_before fs (token kinds.CloseRound r ∷ type_part_before t (token kinds.OpenCurly u ∷ us)))))) (more-vars vs (token kinds.CloseCurly y ∷ ts) rest)
    ∙ ap (λ us. public_before pu (named (marked (fields_before fs (token kinds.CloseRound r ∷ us))))) (more-type_part t one rest)
    ∙ ap (λ us. public_before pu (named (marked us))) (more-fields fs two rest)
    ∙ ap (λ us. public_before pu (named us)) (more-mark mark (token kinds.OpenRound l ∷ fields_before fs two) rest)
    ∙ more-public pu (named (marked (fields_before fs two))) rest
