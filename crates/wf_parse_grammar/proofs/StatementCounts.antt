-- What the tokens count are the statements of the tree.
use Rattle.std.proofs.Common.{◌≡◌, ◌∙◌, ◌+◌, ◌≤◌, ap, sym, subst, ℕ, suc, Bool, true, false, List, [], ◌∷◌, ◌++◌, refl, arith, append_assoc}
use Rattle.std.specs.List.{AllByRecursion}
use Rattle.wf_text.specs.declared.place.Place.{Place}
use Rattle.wf_ast.specs.declared.operators.Op.{Op}
use Rattle.wf_ast.specs.declared.parsed.Clause.TheVariants as clauses
use Rattle.wf_ast.specs.declared.parsed.Name.{Name}
use Rattle.wf_ast.specs.ParsedTree.{DeclTree}
use Rattle.wf_parse_grammar.specs.declared.tokens.Kind.TheVariants as kinds
use Rattle.wf_parse_grammar.specs.declared.tokens.Token.{Token}
use Rattle.wf_parse_grammar.specs.Grammar.{token, PathForm, BarePath, ThisPath, ArgsPath, OnForm, OnThis, OnPath, MarkForm, Exclaims, Asks, MarkPart, NoMark, AMark}
use Rattle.wf_parse_grammar.specs.Grammar.{ExprForm, Alone, Pair, Chained, Converted, LinksForm, NoLink, Link, OperandForm, Plain, Negated}
use Rattle.wf_parse_grammar.specs.Grammar.{AtomForm, ANumber, AText, ABaseText, AnOk, ATrue, AFalse, APath, Grouped, Indexed, Sliced, Called, PartForm, NoPart, APart}
use Rattle.wf_parse_grammar.specs.Grammar.{GivensForm, NoGiven, FirstGiven, MoreGivensForm, LastGiven, GivenComma, NextGiven, TypeForm, BaseType, StatusType, SliceType, ArrayType, StructType, BoundsForm, NoBounds, Bounds}
use Rattle.wf_parse_grammar.specs.Grammar.{TargetForm, ToPath, ToElement, SignForm, Becomes, Updates, CallForm, MarkedCall, LabelPart, NoLabel, ALabel, ResultForm, NoResult, NothingResult, AResult, ViaForm, NoVia, AVia, ClausesForm, NoClause, ClauseComma, NextClause, EndForm, NoEnd, AnEnd, AVar}
use Rattle.wf_parse_grammar.specs.Grammar.{StmtForm, Assignment, Keeping, Calling, Branching, Looping, Labelled, Breaking, Continuing, Returning, Yielding, Asserting, ElseForm, NoElse, ElseIf, Else, ABlock, ItemsForm, NoItem, FirstItem, MoreItemsForm, LastItem, ItemSemicolon, NextItem}
use Rattle.wf_parse_grammar.specs.Grammar.{VarsForm, NoVars, FirstVar, FirstStmt, MoreVarsForm, LastVar, VarSemicolon, NextVar, ThenStmt, FieldsForm, NoField, FirstField, MoreFieldsForm, LastField, FieldComma, NextField, TypePart, NoType, AType, PublicForm, IsPub, IsPri, DeclForm, AStatus, AConst, AStruct, AFunc, FileForm, NoDecl, ADecl}
use Rattle.wf_parse_grammar.specs.Grammar.{path_before, on_before, mark_before, mark_part_before, expr_before, links_before, operand_before, atom_before, part_before, givens_before, more_givens_before, type_before, bounds_before, target_before, sign_before, call_before, label_before, result_before, via_before, clauses_before, end_before, stmt_before, else_before, items_before, more_items_before, more_vars_before, vars_before, more_fields_before, fields_before, type_part_before, public_before, decl_before, file_before}
use Rattle.wf_parse_grammar.specs.Meaning.{stmt_tree, else_trees, items_tree, more_items_tree, more_vars_tree, vars_tree, decl_tree, file_trees}
use Rattle.wf_parse_grammar.specs.Statements.{is_break, counted, count_from, break_from, begun, stmt_count, block_count, arms_count, IsShortDecl}
use Rattle.wf_parse_grammar.specs.Refusals.{IsShort, IsAccepted}
use Rattle.wf_parse_grammar.proofs.CatenationMore.{more-decl}

-- Expressions and types count nothing.
q-path : (path : PathForm) (n : ℕ) (rest : List Token) → count_from false n (path_before path rest) ≡ count_from false n rest
q-path (BarePath a) n rest = refl
q-path (ThisPath p d a) n rest = refl
q-path (ArgsPath p d a) n rest = refl

q-on : (on : OnForm) (n : ℕ) (rest : List Token) → count_from false n (on_before on rest) ≡ count_from false n rest
q-on (OnThis p) n rest = refl
q-on (OnPath path) n rest = q-path path n rest

q-mark : (mark : MarkForm) (n : ℕ) (rest : List Token) → count_from false n (mark_before mark rest) ≡ count_from false n rest
q-mark (Exclaims p) n rest = refl
q-mark (Asks p) n rest = refl

q-mark_part : (mark : MarkPart) (n : ℕ) (rest : List Token) → count_from false n (mark_part_before mark rest) ≡ count_from false n rest
q-mark_part NoMark n rest = refl
q-mark_part (AMark mark) n rest = q-mark mark n rest

mutual
  q-expr : (e : ExprForm) (n : ℕ) (rest : List Token) → count_from false n (expr_before e rest) ≡ count_from false n rest
  q-expr (Alone a) n rest = q-operand a n rest
  q-expr (Pair a op p b) n rest = q-operand a n _ ∙ q-operand b n rest
  q-expr (Chained a op p b ls) n rest = q-operand a n _ ∙ q-operand b n _ ∙ q-links ls op n rest
  q-expr (Converted a p t) n rest = q-operand a n _ ∙ q-type t n rest

  q-links : (ls : LinksForm) (op : Op) (n : ℕ) (rest : List Token) → count_from false n (links_before ls op rest) ≡ count_from false n rest
  q-links NoLink op n rest = refl
  q-links (Link p a ls) op n rest = q-operand a n _ ∙ q-links ls op n rest

  q-operand : (a : OperandForm) (n : ℕ) (rest : List Token) → count_from false n (operand_before a rest) ≡ count_from false n rest
  q-operand (Plain a) n rest = q-atom a n rest
  q-operand (Negated p a) n rest = q-atom a n rest

  q-atom : (a : AtomForm) (n : ℕ) (rest : List Token) → count_from false n (atom_before a rest) ≡ count_from false n rest
  q-atom (ANumber v p) n rest = refl
  q-atom (AText a) n rest = refl
  q-atom (ABaseText p d a) n rest = refl
  q-atom (AnOk p) n rest = refl
  q-atom (ATrue p) n rest = refl
  q-atom (AFalse p) n rest = refl
  q-atom (APath path) n rest = q-path path n rest
  q-atom (Grouped l e r) n rest = q-expr e n _
  q-atom (Indexed path l e r) n rest = q-path path n _ ∙ q-expr e n _
  q-atom (Sliced path l i d j r) n rest = q-path path n _ ∙ q-part i n _ ∙ q-part j n _
  q-atom (Called on d a mark l gs r) n rest = q-on on n _ ∙ q-mark_part mark n _ ∙ q-givens gs n _

  q-part : (part : PartForm) (n : ℕ) (rest : List Token) → count_from false n (part_before part rest) ≡ count_from false n rest
  q-part NoPart n rest = refl
  q-part (APart e) n rest = q-expr e n rest

  q-givens : (gs : GivensForm) (n : ℕ) (rest : List Token) → count_from false n (givens_before gs rest) ≡ count_from false n rest
  q-givens NoGiven n rest = refl
  q-givens (FirstGiven a c e more) n rest = q-expr e n _ ∙ q-more_givens more n rest

  q-more_givens : (more : MoreGivensForm) (n : ℕ) (rest : List Token) → count_from false n (more_givens_before more rest) ≡ count_from false n rest
  q-more_givens LastGiven n rest = refl
  q-more_givens (GivenComma p) n rest = refl
  q-more_givens (NextGiven p a c e more) n rest = q-expr e n _ ∙ q-more_givens more n rest

  q-type : (t : TypeForm) (n : ℕ) (rest : List Token) → count_from false n (type_before t rest) ≡ count_from false n rest
  q-type (BaseType p d a b) n rest = q-bounds b n rest
  q-type (StatusType p d x b) n rest = q-bounds b n rest
  q-type (SliceType p t) n rest = q-type t n rest
  q-type (ArrayType p l e r t) n rest = q-expr e n _ ∙ q-type t n rest
  q-type (StructType a) n rest = refl

  q-bounds : (b : BoundsForm) (n : ℕ) (rest : List Token) → count_from false n (bounds_before b rest) ≡ count_from false n rest
  q-bounds NoBounds n rest = refl
  q-bounds (Bounds l low d high r) n rest = q-part low n _ ∙ q-expr high n _

-- Parts of statements.
q-sign : (s : SignForm) (n : ℕ) (rest : List Token) → count_from false n (sign_before s rest) ≡ count_from false n rest
q-sign (Becomes p) n rest = refl
q-sign (Updates op p) n rest = refl

q-call : (c : CallForm) (n : ℕ) (rest : List Token) → count_from false n (call_before c rest) ≡ count_from false n rest
q-call (MarkedCall on d a mark l gs r) n rest = q-on on n _ ∙ q-mark mark n _ ∙ q-givens gs n _

q-label : (l : LabelPart) (n : ℕ) (rest : List Token) → count_from false n (label_before l rest) ≡ count_from false n rest
q-label NoLabel n rest = refl
q-label (ALabel d a) n rest = refl

q-result : (r : ResultForm) (n : ℕ) (rest : List Token) → count_from false n (result_before r rest) ≡ count_from false n rest
q-result NoResult n rest = refl
q-result (NothingResult p) n rest = refl
q-result (AResult e) n rest = q-expr e n rest

q-via : (v : ViaForm) (n : ℕ) (rest : List Token) → count_from false n (via_before v rest) ≡ count_from false n rest
q-via NoVia n rest = refl
q-via (AVia p a l gs r) n rest = q-givens gs n _

q-clauses : (cs : ClausesForm) (n : ℕ) (rest : List Token) → count_from false n (clauses_before cs rest) ≡ count_from false n rest
q-clauses NoClause n rest = refl
q-clauses (ClauseComma p) n rest = refl
q-clauses (NextClause p clauses.Pre x e more) n rest = q-expr e n _ ∙ q-clauses more n rest
q-clauses (NextClause p clauses.Inv x e more) n rest = q-expr e n _ ∙ q-clauses more n rest
q-clauses (NextClause p clauses.Post x e more) n rest = q-expr e n _ ∙ q-clauses more n rest

q-end : (o : EndForm) (n : ℕ) (rest : List Token) → count_from false n (end_before o rest) ≡ count_from false n rest
q-end NoEnd n rest = refl
q-end (AnEnd p) n rest = refl

-- What a statement begins with counts one.
one-path : (path : PathForm) (n : ℕ) (rest : List Token) → count_from true n (path_before path rest) ≡ count_from false (suc n) rest
one-path (BarePath a) n rest = refl
one-path (ThisPath p d a) n rest = refl
one-path (ArgsPath p d a) n rest = refl

one-on : (on : OnForm) (n : ℕ) (rest : List Token) → count_from true n (on_before on rest) ≡ count_from false (suc n) rest
one-on (OnThis p) n rest = refl
one-on (OnPath path) n rest = one-path path n rest

one-target : (t : TargetForm) (n : ℕ) (rest : List Token) → count_from true n (target_before t rest) ≡ count_from false (suc n) rest
one-target (ToPath path) n rest = one-path path n rest
one-target (ToElement path l e r) n rest = one-path path n _ ∙ q-expr e (suc n) _

one-call : (c : CallForm) (n : ℕ) (rest : List Token) → count_from true n (call_before c rest) ≡ count_from false (suc n) rest
one-call (MarkedCall on d a mark l gs r) n rest = one-on on n _ ∙ q-mark mark (suc n) _ ∙ q-givens gs (suc n) _

at-count : (n m : ℕ) (rest : List Token) → n ≡ m → count_from false n rest ≡ count_from false m rest
at-count n m rest e = ap (λ k. count_from false k rest) e

one-more : (n : ℕ) → suc n ≡ n + 1
one-more n = omega arith

mutual
  stmt-counts : (s : StmtForm) (n : ℕ) (rest : List Token) → count_from true n (stmt_before s rest) ≡ count_from false (n + stmt_count (stmt_tree s)) rest
  stmt-counts (Assignment t s e) n rest = one-target t n _ ∙ q-sign s (suc n) _ ∙ q-expr e (suc n) rest ∙ at-count (suc n) (n + 1) rest (one-more n)
  stmt-counts (Keeping t p c) n rest = one-target t n _ ∙ q-call c (suc n) rest ∙ at-count (suc n) (n + 1) rest (one-more n)
  stmt-counts (Calling c) n rest = one-call c n rest ∙ at-count (suc n) (n + 1) rest (one-more n)
  stmt-counts (Branching p e (ABlock l is r) o) n rest =
      q-expr e (suc n) _ ∙ items-counts is (suc n) r (else_before o rest) ∙ else-counts o (suc n + block_count (items_tree is r)) rest
      ∙ at-count _ (n + (1 + (block_count (items_tree is r) + arms_count (else_trees o)))) rest (omega arith)
  stmt-counts (Looping p e cs (ABlock l is r) o) n rest =
      q-expr e (suc n) _ ∙ q-clauses cs (suc n) _ ∙ items-counts is (suc n) r (end_before o rest) ∙ q-end o (suc n + block_count (items_tree is r)) rest
      ∙ at-count _ (n + (1 + block_count (items_tree is r))) rest (omega arith)
  stmt-counts (Labelled p d a e cs (ABlock l is r) x y z) n rest =
      q-expr e (suc n) _ ∙ q-clauses cs (suc n) _ ∙ items-counts is (suc n) r (token kinds.Endwhile x ∷ token kinds.Dot y ∷ token (kinds.Name a.text) z ∷ rest)
      ∙ at-count _ (n + (1 + block_count (items_tree is r))) rest (omega arith)
  stmt-counts (Breaking p l) n rest = q-label l (suc n) rest ∙ at-count (suc n) (n + 1) rest (one-more n)
  stmt-counts (Continuing p l) n rest = q-label l (suc n) rest ∙ at-count (suc n) (n + 1) rest (one-more n)
  stmt-counts (Returning p r) n rest = q-result r (suc n) rest ∙ at-count (suc n) (n + 1) rest (one-more n)
  stmt-counts (Yielding p q e) n rest = q-expr e (suc n) rest ∙ at-count (suc n) (n + 1) rest (one-more n)
  stmt-counts (Asserting p e v) n rest = q-expr e (suc n) _ ∙ q-via v (suc n) rest ∙ at-count (suc n) (n + 1) rest (one-more n)

  else-counts : (o : ElseForm) (n : ℕ) (rest : List Token) → count_from false n (else_before o rest) ≡ count_from false (n + arms_count (else_trees o)) rest
  else-counts NoElse n rest = at-count n (n + 0) rest (omega arith)
  else-counts (ElseIf p q e (ABlock l is r) o) n rest =
      q-expr e n _ ∙ items-counts is n r (else_before o rest) ∙ else-counts o (n + block_count (items_tree is r)) rest
      ∙ at-count _ (n + (block_count (items_tree is r) + arms_count (else_trees o))) rest (omega arith)
  else-counts (Else p (ABlock l is r)) n rest = items-counts is n r rest

  items-counts : (is : ItemsForm) (n : ℕ) (r : Place) (rest : List Token) → count_from true n (items_before is (token kinds.CloseCurly r ∷ rest)) ≡ count_from false (n + block_count (items_tree is r)) rest
  items-counts NoItem n r rest = at-count n (n + 0) rest (omega arith)
  items-counts (FirstItem s more) n r rest =
      stmt-counts s n (more_items_before more (token kinds.CloseCurly r ∷ rest)) ∙ more_items-counts more (n + stmt_count (stmt_tree s)) r rest
      ∙ at-count _ (n + (stmt_count (stmt_tree s) + block_count (more_items_tree more r))) rest (omega arith)

  more_items-counts : (more : MoreItemsForm) (n : ℕ) (r : Place) (rest : List Token) → count_from false n (more_items_before more (token kinds.CloseCurly r ∷ rest)) ≡ count_from false (n + block_count (more_items_tree more r)) rest
  more_items-counts LastItem n r rest = at-count n (n + 0) rest (omega arith)
  more_items-counts (ItemSemicolon p) n r rest = at-count n (n + 0) rest (omega arith)
  more_items-counts (NextItem p s more) n r rest =
      stmt-counts s n (more_items_before more (token kinds.CloseCurly r ∷ rest)) ∙ more_items-counts more (n + stmt_count (stmt_tree s)) r rest
      ∙ at-count _ (n + (stmt_count (stmt_tree s) + block_count (more_items_tree more r))) rest (omega arith)

-- The block of a method.
more_vars-counts : (more : MoreVarsForm) (n : ℕ) (r : Place) (rest : List Token) → count_from false n (more_vars_before more (token kinds.CloseCurly r ∷ rest)) ≡ count_from false (n + block_count (more_vars_tree more r)) rest
more_vars-counts LastVar n r rest = at-count n (n + 0) rest (omega arith)
more_vars-counts (VarSemicolon p) n r rest = at-count n (n + 0) rest (omega arith)
more_vars-counts (NextVar p (AVar x a c t) more) n r rest =
    q-type t (suc n) (more_vars_before more (token kinds.CloseCurly r ∷ rest)) ∙ more_vars-counts more (suc n) r rest
    ∙ at-count _ (n + (1 + block_count (more_vars_tree more r))) rest (omega arith)
more_vars-counts (ThenStmt p s more) n r rest =
    stmt-counts s n (more_items_before more (token kinds.CloseCurly r ∷ rest)) ∙ more_items-counts more (n + stmt_count (stmt_tree s)) r rest
    ∙ at-count _ (n + (stmt_count (stmt_tree s) + block_count (more_items_tree more r))) rest (omega arith)

vars-counts : (vs : VarsForm) (n : ℕ) (r : Place) (rest : List Token) → count_from true n (vars_before vs (token kinds.CloseCurly r ∷ rest)) ≡ count_from false (n + block_count (vars_tree vs r)) rest
vars-counts NoVars n r rest = at-count n (n + 0) rest (omega arith)
vars-counts (FirstVar (AVar x a c t) more) n r rest =
    q-type t (suc n) (more_vars_before more (token kinds.CloseCurly r ∷ rest)) ∙ more_vars-counts more (suc n) r rest
    ∙ at-count _ (n + (1 + block_count (more_vars_tree more r))) rest (omega arith)
vars-counts (FirstStmt s more) n r rest =
    stmt-counts s n (more_items_before more (token kinds.CloseCurly r ∷ rest)) ∙ more_items-counts more (n + stmt_count (stmt_tree s)) r rest
    ∙ at-count _ (n + (stmt_count (stmt_tree s) + block_count (more_items_tree more r))) rest (omega arith)

q-more_fields : (more : MoreFieldsForm) (n : ℕ) (rest : List Token) → count_from false n (more_fields_before more rest) ≡ count_from false n rest
q-more_fields LastField n rest = refl
q-more_fields (FieldComma p) n rest = refl
q-more_fields (NextField p a c t more) n rest = q-type t n _ ∙ q-more_fields more n rest

q-fields : (fs : FieldsForm) (n : ℕ) (rest : List Token) → count_from false n (fields_before fs rest) ≡ count_from false n rest
q-fields NoField n rest = refl
q-fields (FirstField a c t more) n rest = q-type t n _ ∙ q-more_fields more n rest

q-type_part : (t : TypePart) (n : ℕ) (rest : List Token) → count_from false n (type_part_before t rest) ≡ count_from false n rest
q-type_part NoType n rest = refl
q-type_part (AType t) n rest = q-type t n rest

-- A method, whatever was counted before it, up to the brace at its end and after it.
count-func : (pu : PublicForm) (x : Place) (ts : List Token) (b : Bool) (n : ℕ) → count_from b n (public_before pu (token kinds.Func x ∷ ts)) ≡ count_from false 0 ts
count-func (IsPub p) x ts true n = refl
count-func (IsPub p) x ts false n = refl
count-func (IsPri p) x ts true n = refl
count-func (IsPri p) x ts false n = refl

pub method-counts : (pu : PublicForm) (x : Place) (o : Name) (d : Place) (a : Name) (mark : MarkPart) (l : Place) (fs : FieldsForm) (r : Place) (t : TypePart) (u : Place) (vs : VarsForm) (y : Place) (b : Bool) (n : ℕ)
    → count_from b n (decl_before (AFunc pu x o d a mark l fs r t u vs y) []) ≡ block_count (vars_tree vs y)
method-counts pu x o d a mark l fs r t u vs y b n =
    count-func pu x _ b n ∙ q-mark_part mark 0 _ ∙ q-fields fs 0 _ ∙ q-type_part t 0 _ ∙ vars-counts vs 0 y [] ∙ plain (block_count (vars_tree vs y))
  where
    plain : (m : ℕ) → 0 + m ≡ m
    plain m = omega arith

-- So the methods of a file within the limits are short.
count-append : (b : Bool) (n : ℕ) (front back : List Token) → count_from b n (front ++ back) ≡ count_from (break_from b front) (count_from b n front) back
count-append b n [] back = refl
count-append b n (t ∷ front) back = count-append (is_break t.kind) (counted b n t.kind) front back

short-decl : (g : DeclForm) (tokens front back : List Token) → tokens ≡ (front ++ decl_before g []) ++ back → IsShort tokens → IsShortDecl (decl_tree g)
short-decl (AStatus pu x a) tokens front back e h = tt
short-decl (AConst pu x a c t q v) tokens front back e h = tt
short-decl (AStruct pu x a mark l fs r others) tokens front back e h = tt
short-decl (AFunc pu x o d a mark l fs r t u vs y) tokens front back e h =
    let g = decl_before (AFunc pu x o d a mark l fs r t u vs y) [] in
    let count : begun (front ++ g) ≡ block_count (vars_tree vs y) = count-append false 0 front g ∙ method-counts pu x o d a mark l fs r t u vs y (break_from false front) (begun front) in
    subst (λ n. n ≤ 4096) count (h (front ++ g) back e)

short-decls : (f : FileForm) (tokens front : List Token) → tokens ≡ front ++ file_before f [] → IsShort tokens → AllByRecursion IsShortDecl (file_trees f)
short-decls NoDecl tokens front e h = tt
short-decls (ADecl g p more) tokens front e h =
    let back = token kinds.Semicolon p ∷ file_before more [] in
    let parts : tokens ≡ (front ++ decl_before g []) ++ back = e ∙ ap (λ us. front ++ us) (more-decl g [] back) ∙ sym (append_assoc front (decl_before g []) back) in
    let next : tokens ≡ ((front ++ decl_before g []) ++ token kinds.Semicolon p ∷ []) ++ file_before more [] = parts ∙ sym (append_assoc (front ++ decl_before g []) (token kinds.Semicolon p ∷ []) (file_before more [])) in
    (short-decl g tokens front back parts h, short-decls more tokens ((front ++ decl_before g []) ++ token kinds.Semicolon p ∷ []) next h)

pub accepted-short : (tokens : List Token) (trees : List DeclTree) → IsAccepted tokens trees → AllByRecursion IsShortDecl trees
accepted-short tokens trees a = subst (λ ts. AllByRecursion IsShortDecl ts) (sym a.means) (short-decls a.file tokens [] a.text a.within.short)
