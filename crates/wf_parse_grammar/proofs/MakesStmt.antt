-- Every statement and every block is built to its tree.
use Rattle.std.proofs.Common.{◌≡◌, ◌∙◌, ap, sym, subst, true, Option, None, Some, List, [], ◌∷◌, ◌++◌, refl, if◌then◌else◌, append_assoc, append-nil}
use Rattle.wf_text.specs.declared.place.Place.{Place}
use Rattle.wf_ast.specs.declared.numbers.TextId.{TextId}
use Rattle.wf_ast.specs.declared.parsed.Clause.TheVariants as clause_kinds
use Rattle.wf_ast.specs.ParsedTree as tree
use Rattle.wf_ast.specs.ParsedTree.{TargetTree, StmtTree, BlockTree, DeclTree}
use Rattle.wf_parse_grammar.specs.declared.tokens.Kind.{Kind}
use Rattle.wf_parse_grammar.specs.declared.tokens.Kind.TheVariants as kinds
use Rattle.wf_parse_grammar.specs.declared.tokens.Token.{Token}
use Rattle.wf_parse_grammar.specs.declared.symbols.Sym.{Sym}
use Rattle.wf_parse_grammar.specs.declared.symbols.Sym.TheVariants as syms
use Rattle.wf_parse_grammar.specs.declared.symbols.Action.TheVariants as does
use Rattle.wf_parse_grammar.specs.declared.symbols.Want.{Want}
use Rattle.wf_parse_grammar.specs.declared.symbols.Want.TheVariants.{Read, Make}
use Rattle.wf_parse_grammar.specs.Grammar.{token, BarePath, ThisPath, ArgsPath, OnThis, OnPath, Exclaims, Asks}
use Rattle.wf_parse_grammar.specs.Grammar.{ExprForm}
use Rattle.wf_parse_grammar.specs.Grammar.{ToPath, ToElement, SignForm, Becomes, Updates, CallForm, MarkedCall, NoLabel, ALabel, NoResult, NothingResult, AResult, NoVia, AVia, ClausesForm, NoClause, ClauseComma, NextClause, EndForm, NoEnd, AnEnd}
use Rattle.wf_parse_grammar.specs.Grammar.{StmtForm, Assignment, Keeping, Calling, Branching, Looping, Labelled, Breaking, Continuing, Returning, Yielding, Asserting, ElseForm, NoElse, ElseIf, Else, ABlock, ItemsForm, NoItem, FirstItem, MoreItemsForm, LastItem, ItemSemicolon, NextItem}
use Rattle.wf_parse_grammar.specs.Grammar.{expr_before, sign_before, call_before, clauses_before, end_before, via_before, stmt_before, else_before, items_before, more_items_before}
use Rattle.wf_parse_grammar.specs.Meaning as means
use Rattle.wf_parse_grammar.specs.Meaning.{path_tree, on_tree, mark_tree, expr_tree, target_tree, target_start, sign_op, sign_place, call_tree, call_start, stmt_tree, items_tree, more_items_tree}
use Rattle.wf_parse_grammar.specs.Building.{Take, stmt_build, wrong}
use Rattle.wf_parse_grammar.specs.Values.{Val, name, place, mark, sign, path, receiver, expr, call, items, block, stmt, target, arms, otherwise, clauses, ArmVal, ClauseVal, Made, clause_trees, block_tree, else_tree, arm_trees}
use Rattle.wf_parse_grammar.proofs.OpLemmas.{eq-self}
use Rattle.wf_parse_grammar.proofs.Forward.{ends_expr}
use Rattle.wf_parse_grammar.proofs.ForwardMore.{begins_stmt, ends_stmt, stmt-first}
use Rattle.wf_parse_grammar.proofs.Makes.{go, makes}
use Rattle.wf_parse_grammar.proofs.MakesFirst.{made, Follows, left_out, PassesAt, while-expr, result-expr}
use Rattle.wf_parse_grammar.proofs.MakesExpr.{given-trees, first-expr, b-expr, b-givens}

-- The values of a list of the grammar.
abbrev pub clause_vals : ClausesForm → List ClauseVal
clause_vals NoClause = []
clause_vals (ClauseComma p) = []
clause_vals (NextClause p c w e more) = record { kind = c; condition = expr_tree e; at = w } ∷ clause_vals more

clause-trees : (cs : ClausesForm) → clause_trees (clause_vals cs) ≡ means.clause_trees cs
clause-trees NoClause = refl
clause-trees (ClauseComma p) = refl
clause-trees (NextClause p c w e more) = ap (λ cs. tree.more_clauses c (expr_tree e) w cs) (clause-trees more)

abbrev pub more_item_trees : MoreItemsForm → List StmtTree
more_item_trees LastItem = []
more_item_trees (ItemSemicolon p) = []
more_item_trees (NextItem p s more) = stmt_tree s ∷ more_item_trees more

pub more_items-tree : (more : MoreItemsForm) (r : Place) → block_tree (more_item_trees more) r ≡ more_items_tree more r
more_items-tree LastItem r = refl
more_items-tree (ItemSemicolon p) r = refl
more_items-tree (NextItem p s more) r = ap (tree.more_stmts (stmt_tree s)) (more_items-tree more r)

-- the arms after an `else`, and the last block
abbrev else_arms : ElseForm → List ArmVal
else_arms NoElse = []
else_arms (ElseIf p q e b o) = record { condition = expr_tree e; body = means.block_tree b } ∷ else_arms o
else_arms (Else p b) = []

abbrev else_block : ElseForm → Option BlockTree
else_block NoElse = None
else_block (ElseIf p q e b o) = else_block o
else_block (Else p b) = Some (means.block_tree b)

else-trees : (o : ElseForm) → arm_trees (else_arms o) (else_tree (else_block o)) ≡ means.else_trees o
else-trees NoElse = refl
else-trees (ElseIf p q e b o) = ap (tree.arm (expr_tree e) (means.block_tree b)) (else-trees o)
else-trees (Else p b) = refl

-- What follows a form.
ends-expr : (ts : List Token) → Follows ends_stmt ts → Follows ends_expr ts
ends-expr [] h = absurd h
ends-expr (t ∷ ts) h = kind-ends t.kind h
  where
    kind-ends : (t : Kind) → ends_stmt t ≡ true → ends_expr t ≡ true
    kind-ends kinds.Semicolon h = refl
    kind-ends kinds.CloseCurly h = refl
    kind-ends _ h = absurd (cc h)

pub more_items-follow : (more : MoreItemsForm) (r : Place) (rest : List Token) → Follows ends_stmt (more_items_before more (token kinds.CloseCurly r ∷ rest))
more_items-follow LastItem r rest = refl
more_items-follow (ItemSemicolon p) r rest = refl
more_items-follow (NextItem p s more) r rest = refl

clauses-follow : (cs : ClausesForm) (l : Place) (ts : List Token) → Follows ends_expr (clauses_before cs (token kinds.OpenCurly l ∷ ts))
clauses-follow NoClause l ts = refl
clauses-follow (ClauseComma p) l ts = refl
clauses-follow (NextClause p c w e more) l ts = refl

passes-else : PassesAt ends_stmt syms.Else
passes-else kinds.Semicolon p h = refl
passes-else kinds.CloseCurly p h = refl
passes-else _ p h = absurd (cc h)

passes-end_part : PassesAt ends_stmt syms.EndPart
passes-end_part kinds.Semicolon p h = refl
passes-end_part kinds.CloseCurly p h = refl
passes-end_part _ p h = absurd (cc h)

passes-label_part : PassesAt ends_stmt syms.LabelPart
passes-label_part kinds.Semicolon p h = refl
passes-label_part kinds.CloseCurly p h = refl
passes-label_part _ p h = absurd (cc h)

passes-result : PassesAt ends_stmt syms.Result
passes-result kinds.Semicolon p h = refl
passes-result kinds.CloseCurly p h = refl
passes-result _ p h = absurd (cc h)

passes-via : PassesAt ends_stmt syms.Via
passes-via kinds.Semicolon p h = refl
passes-via kinds.CloseCurly p h = refl
passes-via _ p h = absurd (cc h)

-- A statement, read where its first token may stand.
abbrev pub makes_stmt : List Want → List Token → Made → Option Made
makes_stmt k [] m = None
makes_stmt k (t ∷ ts) m = go (stmt_build t.kind t.at) (λ xs. makes (xs ++ k) ts m) None

abbrev pub SameStmt : Sym → List Want → Type 0
SameStmt s k = (t : Kind) (p : Place) (ts : List Token) (m : Made) → begins_stmt t ≡ true
    → makes (Read s ∷ k) (token t p ∷ ts) m ≡ makes_stmt (Make does.AddStmt ∷ Read syms.MoreItems ∷ k) (token t p ∷ ts) m

pub items-stmt : (k : List Want) → SameStmt syms.Items k
items-stmt k (kinds.Name n) p ts m h = refl
items-stmt k kinds.This p ts m h = refl
items-stmt k kinds.Args p ts m h = refl
items-stmt k kinds.If p ts m h = refl
items-stmt k kinds.While p ts m h = refl
items-stmt k kinds.Break p ts m h = refl
items-stmt k kinds.Continue p ts m h = refl
items-stmt k kinds.Return p ts m h = refl
items-stmt k kinds.Yield p ts m h = refl
items-stmt k kinds.Assert p ts m h = refl
items-stmt k _ p ts m h = absurd (cc h)

pub vars-stmt : (k : List Want) → SameStmt syms.Vars k
vars-stmt k (kinds.Name n) p ts m h = refl
vars-stmt k kinds.This p ts m h = refl
vars-stmt k kinds.Args p ts m h = refl
vars-stmt k kinds.If p ts m h = refl
vars-stmt k kinds.While p ts m h = refl
vars-stmt k kinds.Break p ts m h = refl
vars-stmt k kinds.Continue p ts m h = refl
vars-stmt k kinds.Return p ts m h = refl
vars-stmt k kinds.Yield p ts m h = refl
vars-stmt k kinds.Assert p ts m h = refl
vars-stmt k _ p ts m h = absurd (cc h)

pub first-stmt : (s : StmtForm) (rest : List Token) (w : Sym) (k : List Want) (m : Made) → SameStmt w k
    → makes (Read w ∷ k) (stmt_before s rest) m ≡ makes_stmt (Make does.AddStmt ∷ Read syms.MoreItems ∷ k) (stmt_before s rest) m
first-stmt s rest w k m f =
    let st = stmt-first s rest in
    let P : List Token → Type 0 = λ us. makes (Read w ∷ k) us m ≡ makes_stmt (Make does.AddStmt ∷ Read syms.MoreItems ∷ k) us m in
    subst P (sym st.is) (f st.first.kind st.first.at st.others m st.passes)

-- A call, and what stands after a target.
b-call : (c : CallForm) (rest : List Token) (k : List Want) (vs : List Val) (d : List DeclTree)
    → makes (Read syms.Call ∷ k) (call_before c rest) (made vs d) ≡ makes k rest (made (call (call_tree c) ∷ vs) d)
b-call (MarkedCall (OnThis q) dot n (Exclaims z) l gs r) rest k vs d = b-givens gs r rest (Make does.FinishCall ∷ k) [] (mark (mark_tree (Exclaims z)) ∷ name n ∷ receiver (on_tree (OnThis q)) ∷ vs) d ∙ ap (λ ts. makes k rest (made (call (tree.call (on_tree (OnThis q)) n (mark_tree (Exclaims z)) ts) ∷ vs) d)) (given-trees gs)
b-call (MarkedCall (OnThis q) dot n (Asks z) l gs r) rest k vs d = b-givens gs r rest (Make does.FinishCall ∷ k) [] (mark (mark_tree (Asks z)) ∷ name n ∷ receiver (on_tree (OnThis q)) ∷ vs) d ∙ ap (λ ts. makes k rest (made (call (tree.call (on_tree (OnThis q)) n (mark_tree (Asks z)) ts) ∷ vs) d)) (given-trees gs)
b-call (MarkedCall (OnPath (BarePath x)) dot n (Exclaims z) l gs r) rest k vs d = b-givens gs r rest (Make does.FinishCall ∷ k) [] (mark (mark_tree (Exclaims z)) ∷ name n ∷ receiver (on_tree (OnPath (BarePath x))) ∷ vs) d ∙ ap (λ ts. makes k rest (made (call (tree.call (on_tree (OnPath (BarePath x))) n (mark_tree (Exclaims z)) ts) ∷ vs) d)) (given-trees gs)
b-call (MarkedCall (OnPath (BarePath x)) dot n (Asks z) l gs r) rest k vs d = b-givens gs r rest (Make does.FinishCall ∷ k) [] (mark (mark_tree (Asks z)) ∷ name n ∷ receiver (on_tree (OnPath (BarePath x))) ∷ vs) d ∙ ap (λ ts. makes k rest (made (call (tree.call (on_tree (OnPath (BarePath x))) n (mark_tree (Asks z)) ts) ∷ vs) d)) (given-trees gs)
b-call (MarkedCall (OnPath (ThisPath q y x)) dot n (Exclaims z) l gs r) rest k vs d = b-givens gs r rest (Make does.FinishCall ∷ k) [] (mark (mark_tree (Exclaims z)) ∷ name n ∷ receiver (on_tree (OnPath (ThisPath q y x))) ∷ vs) d ∙ ap (λ ts. makes k rest (made (call (tree.call (on_tree (OnPath (ThisPath q y x))) n (mark_tree (Exclaims z)) ts) ∷ vs) d)) (given-trees gs)
b-call (MarkedCall (OnPath (ThisPath q y x)) dot n (Asks z) l gs r) rest k vs d = b-givens gs r rest (Make does.FinishCall ∷ k) [] (mark (mark_tree (Asks z)) ∷ name n ∷ receiver (on_tree (OnPath (ThisPath q y x))) ∷ vs) d ∙ ap (λ ts. makes k rest (made (call (tree.call (on_tree (OnPath (ThisPath q y x))) n (mark_tree (Asks z)) ts) ∷ vs) d)) (given-trees gs)
b-call (MarkedCall (OnPath (ArgsPath q y x)) dot n (Exclaims z) l gs r) rest k vs d = b-givens gs r rest (Make does.FinishCall ∷ k) [] (mark (mark_tree (Exclaims z)) ∷ name n ∷ receiver (on_tree (OnPath (ArgsPath q y x))) ∷ vs) d ∙ ap (λ ts. makes k rest (made (call (tree.call (on_tree (OnPath (ArgsPath q y x))) n (mark_tree (Exclaims z)) ts) ∷ vs) d)) (given-trees gs)
b-call (MarkedCall (OnPath (ArgsPath q y x)) dot n (Asks z) l gs r) rest k vs d = b-givens gs r rest (Make does.FinishCall ∷ k) [] (mark (mark_tree (Asks z)) ∷ name n ∷ receiver (on_tree (OnPath (ArgsPath q y x))) ∷ vs) d ∙ ap (λ ts. makes k rest (made (call (tree.call (on_tree (OnPath (ArgsPath q y x))) n (mark_tree (Asks z)) ts) ∷ vs) d)) (given-trees gs)

b-keep : (t : TargetTree) (p : Place) (c : CallForm) (rest : List Token) (k : List Want) (vs : List Val) (d : List DeclTree)
    → makes (Read syms.Call ∷ Make does.KeepStmt ∷ k) (call_before c rest) (made (target t ∷ place p ∷ vs) d) ≡ makes k rest (made (stmt (tree.keep t (call_tree c) p) ∷ vs) d)
b-keep t p c rest k vs d = b-call c rest (Make does.KeepStmt ∷ k) (target t ∷ place p ∷ vs) d

b-assign : (t : TargetTree) (p : Place) (s : SignForm) (e : ExprForm) (rest : List Token) (k : List Want) (vs : List Val) (d : List DeclTree) → Follows ends_stmt rest
    → makes (Read syms.Expr ∷ Make does.AssignStmt ∷ k) (expr_before e rest) (made (sign (sign_op s) (sign_place s) ∷ target t ∷ place p ∷ vs) d)
    ≡ makes k rest (made (stmt (tree.assign t (sign_op s) (sign_place s) (expr_tree e) p) ∷ vs) d)
b-assign t p s e rest k vs d h = b-expr e rest (Make does.AssignStmt ∷ k) (sign (sign_op s) (sign_place s) ∷ target t ∷ place p ∷ vs) d (ends-expr rest h)

-- Promises, after the condition of a loop, and the brace after them.
b-clauses : (cs : ClausesForm) (so_far : List ClauseVal) (l : Place) (ts : List Token) (k : List Want) (vs : List Val) (d : List DeclTree)
    → makes (Read syms.Clauses ∷ k) (clauses_before cs (token kinds.OpenCurly l ∷ ts)) (made (clauses so_far ∷ vs) d)
    ≡ makes (Read syms.Items ∷ k) ts (made (items [] ∷ clauses (so_far ++ clause_vals cs) ∷ vs) d)
b-clauses NoClause so_far l ts k vs d = ap (λ cs. makes (Read syms.Items ∷ k) ts (made (items [] ∷ clauses cs ∷ vs) d)) (sym (append-nil so_far))
b-clauses (ClauseComma p) so_far l ts k vs d = ap (λ cs. makes (Read syms.Items ∷ k) ts (made (items [] ∷ clauses cs ∷ vs) d)) (sym (append-nil so_far))
b-clauses (NextClause p clause_kinds.Pre w e more) so_far l ts k vs d =
    let new : ClauseVal = record { kind = clause_kinds.Pre; condition = expr_tree e; at = w } in
    b-expr e (clauses_before more (token kinds.OpenCurly l ∷ ts)) (Make (does.AddClause clause_kinds.Pre) ∷ Read syms.Clauses ∷ k) (place w ∷ clauses so_far ∷ vs) d (clauses-follow more l ts)
    ∙ b-clauses more (so_far ++ new ∷ []) l ts k vs d
    ∙ ap (λ cs. makes (Read syms.Items ∷ k) ts (made (items [] ∷ clauses cs ∷ vs) d)) (append_assoc so_far (new ∷ []) (clause_vals more))
b-clauses (NextClause p clause_kinds.Inv w e more) so_far l ts k vs d =
    let new : ClauseVal = record { kind = clause_kinds.Inv; condition = expr_tree e; at = w } in
    b-expr e (clauses_before more (token kinds.OpenCurly l ∷ ts)) (Make (does.AddClause clause_kinds.Inv) ∷ Read syms.Clauses ∷ k) (place w ∷ clauses so_far ∷ vs) d (clauses-follow more l ts)
    ∙ b-clauses more (so_far ++ new ∷ []) l ts k vs d
    ∙ ap (λ cs. makes (Read syms.Items ∷ k) ts (made (items [] ∷ clauses cs ∷ vs) d)) (append_assoc so_far (new ∷ []) (clause_vals more))
b-clauses (NextClause p clause_kinds.Post w e more) so_far l ts k vs d =
    let new : ClauseVal = record { kind = clause_kinds.Post; condition = expr_tree e; at = w } in
    b-expr e (clauses_before more (token kinds.OpenCurly l ∷ ts)) (Make (does.AddClause clause_kinds.Post) ∷ Read syms.Clauses ∷ k) (place w ∷ clauses so_far ∷ vs) d (clauses-follow more l ts)
    ∙ b-clauses more (so_far ++ new ∷ []) l ts k vs d
    ∙ ap (λ cs. makes (Read syms.Items ∷ k) ts (made (items [] ∷ clauses cs ∷ vs) d)) (append_assoc so_far (new ∷ []) (clause_vals more))

label-taken : (n : TextId) (w x y : Place) (rest : List Token) (k : List Want) (m : Made)
    → makes (Read (syms.EndLabel n) ∷ k) (token kinds.Endwhile w ∷ token kinds.Dot x ∷ token (kinds.Name n) y ∷ rest) m ≡ makes k rest m
label-taken n w x y rest k m =
    ap (λ c. go (if c then Take [] else wrong) (λ xs. makes (xs ++ k) rest m) (makes k (token (kinds.Name n) y ∷ rest) m)) (eq-self n.0)

b-end : (o : EndForm) (rest : List Token) (k : List Want) (vs : List Val) (d : List DeclTree) → Follows ends_stmt rest
    → makes (Read syms.EndPart ∷ k) (end_before o rest) (made vs d) ≡ makes k rest (made vs d)
b-end NoEnd rest k vs d h = left_out ends_stmt syms.EndPart passes-end_part k rest _ h
b-end (AnEnd p) rest k vs d h = refl

mutual
  pub b-stmt : (s : StmtForm) (rest : List Token) (k : List Want) (vs : List Val) (d : List DeclTree) → Follows ends_stmt rest
      → makes_stmt k (stmt_before s rest) (made vs d) ≡ makes k rest (made (stmt (stmt_tree s) ∷ vs) d)
  b-stmt (Assignment (ToPath (BarePath a)) (Becomes g) e) rest k vs d h = b-assign (target_tree (ToPath (BarePath a))) (target_start (ToPath (BarePath a))) (Becomes g) e rest k vs d h
  b-stmt (Assignment (ToPath (BarePath a)) (Updates op g) e) rest k vs d h = b-assign (target_tree (ToPath (BarePath a))) (target_start (ToPath (BarePath a))) (Updates op g) e rest k vs d h
  b-stmt (Assignment (ToPath (ThisPath q y a)) (Becomes g) e) rest k vs d h = b-assign (target_tree (ToPath (ThisPath q y a))) (target_start (ToPath (ThisPath q y a))) (Becomes g) e rest k vs d h
  b-stmt (Assignment (ToPath (ThisPath q y a)) (Updates op g) e) rest k vs d h = b-assign (target_tree (ToPath (ThisPath q y a))) (target_start (ToPath (ThisPath q y a))) (Updates op g) e rest k vs d h
  b-stmt (Assignment (ToPath (ArgsPath q y a)) (Becomes g) e) rest k vs d h = b-assign (target_tree (ToPath (ArgsPath q y a))) (target_start (ToPath (ArgsPath q y a))) (Becomes g) e rest k vs d h
  b-stmt (Assignment (ToPath (ArgsPath q y a)) (Updates op g) e) rest k vs d h = b-assign (target_tree (ToPath (ArgsPath q y a))) (target_start (ToPath (ArgsPath q y a))) (Updates op g) e rest k vs d h
  b-stmt (Assignment (ToElement (BarePath a) l i r) (Becomes g) e) rest k vs d h = b-expr i (token kinds.CloseSquare r ∷ sign_before (Becomes g) (expr_before e rest)) (Read syms.RightSquare ∷ Make does.ElementTarget ∷ Read syms.TargetStmt ∷ k) (place l ∷ path (path_tree (BarePath a)) ∷ place (target_start (ToPath (BarePath a))) ∷ vs) d refl ∙ b-assign (target_tree (ToElement (BarePath a) l i r)) (target_start (ToPath (BarePath a))) (Becomes g) e rest k vs d h
  b-stmt (Assignment (ToElement (BarePath a) l i r) (Updates op g) e) rest k vs d h = b-expr i (token kinds.CloseSquare r ∷ sign_before (Updates op g) (expr_before e rest)) (Read syms.RightSquare ∷ Make does.ElementTarget ∷ Read syms.TargetStmt ∷ k) (place l ∷ path (path_tree (BarePath a)) ∷ place (target_start (ToPath (BarePath a))) ∷ vs) d refl ∙ b-assign (target_tree (ToElement (BarePath a) l i r)) (target_start (ToPath (BarePath a))) (Updates op g) e rest k vs d h
  b-stmt (Assignment (ToElement (ThisPath q y a) l i r) (Becomes g) e) rest k vs d h = b-expr i (token kinds.CloseSquare r ∷ sign_before (Becomes g) (expr_before e rest)) (Read syms.RightSquare ∷ Make does.ElementTarget ∷ Read syms.TargetStmt ∷ k) (place l ∷ path (path_tree (ThisPath q y a)) ∷ place (target_start (ToPath (ThisPath q y a))) ∷ vs) d refl ∙ b-assign (target_tree (ToElement (ThisPath q y a) l i r)) (target_start (ToPath (ThisPath q y a))) (Becomes g) e rest k vs d h
  b-stmt (Assignment (ToElement (ThisPath q y a) l i r) (Updates op g) e) rest k vs d h = b-expr i (token kinds.CloseSquare r ∷ sign_before (Updates op g) (expr_before e rest)) (Read syms.RightSquare ∷ Make does.ElementTarget ∷ Read syms.TargetStmt ∷ k) (place l ∷ path (path_tree (ThisPath q y a)) ∷ place (target_start (ToPath (ThisPath q y a))) ∷ vs) d refl ∙ b-assign (target_tree (ToElement (ThisPath q y a) l i r)) (target_start (ToPath (ThisPath q y a))) (Updates op g) e rest k vs d h
  b-stmt (Assignment (ToElement (ArgsPath q y a) l i r) (Becomes g) e) rest k vs d h = b-expr i (token kinds.CloseSquare r ∷ sign_before (Becomes g) (expr_before e rest)) (Read syms.RightSquare ∷ Make does.ElementTarget ∷ Read syms.TargetStmt ∷ k) (place l ∷ path (path_tree (ArgsPath q y a)) ∷ place (target_start (ToPath (ArgsPath q y a))) ∷ vs) d refl ∙ b-assign (target_tree (ToElement (ArgsPath q y a) l i r)) (target_start (ToPath (ArgsPath q y a))) (Becomes g) e rest k vs d h
  b-stmt (Assignment (ToElement (ArgsPath q y a) l i r) (Updates op g) e) rest k vs d h = b-expr i (token kinds.CloseSquare r ∷ sign_before (Updates op g) (expr_before e rest)) (Read syms.RightSquare ∷ Make does.ElementTarget ∷ Read syms.TargetStmt ∷ k) (place l ∷ path (path_tree (ArgsPath q y a)) ∷ place (target_start (ToPath (ArgsPath q y a))) ∷ vs) d refl ∙ b-assign (target_tree (ToElement (ArgsPath q y a) l i r)) (target_start (ToPath (ArgsPath q y a))) (Updates op g) e rest k vs d h
  b-stmt (Keeping (ToPath (BarePath a)) p c) rest k vs d h = b-keep (target_tree (ToPath (BarePath a))) (target_start (ToPath (BarePath a))) c rest k vs d
  b-stmt (Keeping (ToPath (ThisPath q y a)) p c) rest k vs d h = b-keep (target_tree (ToPath (ThisPath q y a))) (target_start (ToPath (ThisPath q y a))) c rest k vs d
  b-stmt (Keeping (ToPath (ArgsPath q y a)) p c) rest k vs d h = b-keep (target_tree (ToPath (ArgsPath q y a))) (target_start (ToPath (ArgsPath q y a))) c rest k vs d
  b-stmt (Keeping (ToElement (BarePath a) l i r) p c) rest k vs d h = b-expr i (token kinds.CloseSquare r ∷ token kinds.KeepEquals p ∷ call_before c rest) (Read syms.RightSquare ∷ Make does.ElementTarget ∷ Read syms.TargetStmt ∷ k) (place l ∷ path (path_tree (BarePath a)) ∷ place (target_start (ToPath (BarePath a))) ∷ vs) d refl ∙ b-keep (target_tree (ToElement (BarePath a) l i r)) (target_start (ToPath (BarePath a))) c rest k vs d
  b-stmt (Keeping (ToElement (ThisPath q y a) l i r) p c) rest k vs d h = b-expr i (token kinds.CloseSquare r ∷ token kinds.KeepEquals p ∷ call_before c rest) (Read syms.RightSquare ∷ Make does.ElementTarget ∷ Read syms.TargetStmt ∷ k) (place l ∷ path (path_tree (ThisPath q y a)) ∷ place (target_start (ToPath (ThisPath q y a))) ∷ vs) d refl ∙ b-keep (target_tree (ToElement (ThisPath q y a) l i r)) (target_start (ToPath (ThisPath q y a))) c rest k vs d
  b-stmt (Keeping (ToElement (ArgsPath q y a) l i r) p c) rest k vs d h = b-expr i (token kinds.CloseSquare r ∷ token kinds.KeepEquals p ∷ call_before c rest) (Read syms.RightSquare ∷ Make does.ElementTarget ∷ Read syms.TargetStmt ∷ k) (place l ∷ path (path_tree (ArgsPath q y a)) ∷ place (target_start (ToPath (ArgsPath q y a))) ∷ vs) d refl ∙ b-keep (target_tree (ToElement (ArgsPath q y a) l i r)) (target_start (ToPath (ArgsPath q y a))) c rest k vs d
  b-stmt (Calling (MarkedCall (OnThis q) dot n (Exclaims z) l gs r)) rest k vs d h = b-givens gs r rest (Make does.FinishCall ∷ Make does.CallStmt ∷ k) [] (mark (mark_tree (Exclaims z)) ∷ name n ∷ receiver (on_tree (OnThis q)) ∷ place (call_start (MarkedCall (OnThis q) dot n (Exclaims z) l gs r)) ∷ vs) d ∙ ap (λ ts. makes k rest (made (stmt (tree.do_call (tree.call (on_tree (OnThis q)) n (mark_tree (Exclaims z)) ts) (call_start (MarkedCall (OnThis q) dot n (Exclaims z) l gs r))) ∷ vs) d)) (given-trees gs)
  b-stmt (Calling (MarkedCall (OnThis q) dot n (Asks z) l gs r)) rest k vs d h = b-givens gs r rest (Make does.FinishCall ∷ Make does.CallStmt ∷ k) [] (mark (mark_tree (Asks z)) ∷ name n ∷ receiver (on_tree (OnThis q)) ∷ place (call_start (MarkedCall (OnThis q) dot n (Asks z) l gs r)) ∷ vs) d ∙ ap (λ ts. makes k rest (made (stmt (tree.do_call (tree.call (on_tree (OnThis q)) n (mark_tree (Asks z)) ts) (call_start (MarkedCall (OnThis q) dot n (Asks z) l gs r))) ∷ vs) d)) (given-trees gs)
  b-stmt (Calling (MarkedCall (OnPath (BarePath x)) dot n (Exclaims z) l gs r)) rest k vs d h = b-givens gs r rest (Make does.FinishCall ∷ Make does.CallStmt ∷ k) [] (mark (mark_tree (Exclaims z)) ∷ name n ∷ receiver (on_tree (OnPath (BarePath x))) ∷ place (call_start (MarkedCall (OnPath (BarePath x)) dot n (Exclaims z) l gs r)) ∷ vs) d ∙ ap (λ ts. makes k rest (made (stmt (tree.do_call (tree.call (on_tree (OnPath (BarePath x))) n (mark_tree (Exclaims z)) ts) (call_start (MarkedCall (OnPath (BarePath x)) dot n (Exclaims z) l gs r))) ∷ vs) d)) (given-trees gs)
  b-stmt (Calling (MarkedCall (OnPath (BarePath x)) dot n (Asks z) l gs r)) rest k vs d h = b-givens gs r rest (Make does.FinishCall ∷ Make does.CallStmt ∷ k) [] (mark (mark_tree (Asks z)) ∷ name n ∷ receiver (on_tree (OnPath (BarePath x))) ∷ place (call_start (MarkedCall (OnPath (BarePath x)) dot n (Asks z) l gs r)) ∷ vs) d ∙ ap (λ ts. makes k rest (made (stmt (tree.do_call (tree.call (on_tree (OnPath (BarePath x))) n (mark_tree (Asks z)) ts) (call_start (MarkedCall (OnPath (BarePath x)) dot n (Asks z) l gs r))) ∷ vs) d)) (given-trees gs)
  b-stmt (Calling (MarkedCall (OnPath (ThisPath q y x)) dot n (Exclaims z) l gs r)) rest k vs d h = b-givens gs r rest (Make does.FinishCall ∷ Make does.CallStmt ∷ k) [] (mark (mark_tree (Exclaims z)) ∷ name n ∷ receiver (on_tree (OnPath (ThisPath q y x))) ∷ place (call_start (MarkedCall (OnPath (ThisPath q y x)) dot n (Exclaims z) l gs r)) ∷ vs) d ∙ ap (λ ts. makes k rest (made (stmt (tree.do_call (tree.call (on_tree (OnPath (ThisPath q y x))) n (mark_tree (Exclaims z)) ts) (call_start (MarkedCall (OnPath (ThisPath q y x)) dot n (Exclaims z) l gs r))) ∷ vs) d)) (given-trees gs)
  b-stmt (Calling (MarkedCall (OnPath (ThisPath q y x)) dot n (Asks z) l gs r)) rest k vs d h = b-givens gs r rest (Make does.FinishCall ∷ Make does.CallStmt ∷ k) [] (mark (mark_tree (Asks z)) ∷ name n ∷ receiver (on_tree (OnPath (ThisPath q y x))) ∷ place (call_start (MarkedCall (OnPath (ThisPath q y x)) dot n (Asks z) l gs r)) ∷ vs) d ∙ ap (λ ts. makes k rest (made (stmt (tree.do_call (tree.call (on_tree (OnPath (ThisPath q y x))) n (mark_tree (Asks z)) ts) (call_start (MarkedCall (OnPath (ThisPath q y x)) dot n (Asks z) l gs r))) ∷ vs) d)) (given-trees gs)
  b-stmt (Calling (MarkedCall (OnPath (ArgsPath q y x)) dot n (Exclaims z) l gs r)) rest k vs d h = b-givens gs r rest (Make does.FinishCall ∷ Make does.CallStmt ∷ k) [] (mark (mark_tree (Exclaims z)) ∷ name n ∷ receiver (on_tree (OnPath (ArgsPath q y x))) ∷ place (call_start (MarkedCall (OnPath (ArgsPath q y x)) dot n (Exclaims z) l gs r)) ∷ vs) d ∙ ap (λ ts. makes k rest (made (stmt (tree.do_call (tree.call (on_tree (OnPath (ArgsPath q y x))) n (mark_tree (Exclaims z)) ts) (call_start (MarkedCall (OnPath (ArgsPath q y x)) dot n (Exclaims z) l gs r))) ∷ vs) d)) (given-trees gs)
  b-stmt (Calling (MarkedCall (OnPath (ArgsPath q y x)) dot n (Asks z) l gs r)) rest k vs d h = b-givens gs r rest (Make does.FinishCall ∷ Make does.CallStmt ∷ k) [] (mark (mark_tree (Asks z)) ∷ name n ∷ receiver (on_tree (OnPath (ArgsPath q y x))) ∷ place (call_start (MarkedCall (OnPath (ArgsPath q y x)) dot n (Asks z) l gs r)) ∷ vs) d ∙ ap (λ ts. makes k rest (made (stmt (tree.do_call (tree.call (on_tree (OnPath (ArgsPath q y x))) n (mark_tree (Asks z)) ts) (call_start (MarkedCall (OnPath (ArgsPath q y x)) dot n (Asks z) l gs r))) ∷ vs) d)) (given-trees gs)
  b-stmt (Branching p e (ABlock l is r) o) rest k vs d h =
      b-expr e (token kinds.OpenCurly l ∷ items_before is (token kinds.CloseCurly r ∷ else_before o rest)) (Read syms.Block ∷ Make does.AddArm ∷ Read syms.Else ∷ Make does.IfStmt ∷ k) (arms [] ∷ place p ∷ vs) d refl
      ∙ b-block is r (else_before o rest) (Make does.AddArm ∷ Read syms.Else ∷ Make does.IfStmt ∷ k) (expr (expr_tree e) ∷ arms [] ∷ place p ∷ vs) d
      ∙ b-else o (record { condition = expr_tree e; body = items_tree is r } ∷ []) rest (Make does.IfStmt ∷ k) (place p ∷ vs) d h
      ∙ ap (λ ts. makes k rest (made (stmt (tree.branch (tree.arm (expr_tree e) (items_tree is r) ts) p) ∷ vs) d)) (else-trees o)
  b-stmt (Looping p e cs (ABlock l is r) o) rest k vs d h =
      let behind = items_before is (token kinds.CloseCurly r ∷ end_before o rest) in
      let j = Read syms.EndPart ∷ Make does.LoopStmt ∷ k in
      first-expr e (clauses_before cs (token kinds.OpenCurly l ∷ behind)) (Read syms.WhileHead ∷ k) (Read syms.Expr ∷ Make does.StartClauses ∷ Read syms.Clauses ∷ j) _ (while-expr k)
      ∙ b-expr e (clauses_before cs (token kinds.OpenCurly l ∷ behind)) (Make does.StartClauses ∷ Read syms.Clauses ∷ j) (place p ∷ vs) d (clauses-follow cs l behind)
      ∙ b-clauses cs [] l behind j (expr (expr_tree e) ∷ place p ∷ vs) d
      ∙ b-block is r (end_before o rest) j (clauses (clause_vals cs) ∷ expr (expr_tree e) ∷ place p ∷ vs) d
      ∙ b-end o rest (Make does.LoopStmt ∷ k) (block (items_tree is r) ∷ clauses (clause_vals cs) ∷ expr (expr_tree e) ∷ place p ∷ vs) d h
      ∙ ap (λ ts. makes k rest (made (stmt (tree.loop None (expr_tree e) ts (items_tree is r) p) ∷ vs) d)) (clause-trees cs)
  b-stmt (Labelled p dot n e cs (ABlock l is r) w x y) rest k vs d h =
      let over = token kinds.Endwhile w ∷ token kinds.Dot x ∷ token (kinds.Name n.text) y ∷ rest in
      let behind = items_before is (token kinds.CloseCurly r ∷ over) in
      let j = Read (syms.EndLabel n.text) ∷ Make does.LabelledStmt ∷ k in
      b-expr e (clauses_before cs (token kinds.OpenCurly l ∷ behind)) (Make does.StartClauses ∷ Read syms.Clauses ∷ j) (name n ∷ place p ∷ vs) d (clauses-follow cs l behind)
      ∙ b-clauses cs [] l behind j (expr (expr_tree e) ∷ name n ∷ place p ∷ vs) d
      ∙ b-block is r over j (clauses (clause_vals cs) ∷ expr (expr_tree e) ∷ name n ∷ place p ∷ vs) d
      ∙ label-taken n.text w x y rest (Make does.LabelledStmt ∷ k) (made (block (items_tree is r) ∷ clauses (clause_vals cs) ∷ expr (expr_tree e) ∷ name n ∷ place p ∷ vs) d)
      ∙ ap (λ ts. makes k rest (made (stmt (tree.loop (Some n) (expr_tree e) ts (items_tree is r) p) ∷ vs) d)) (clause-trees cs)
  b-stmt (Breaking p NoLabel) rest k vs d h = left_out ends_stmt syms.LabelPart passes-label_part (Make does.BreakStmt ∷ k) rest _ h
  b-stmt (Breaking p (ALabel dot n)) rest k vs d h = refl
  b-stmt (Continuing p NoLabel) rest k vs d h = left_out ends_stmt syms.LabelPart passes-label_part (Make does.ContinueStmt ∷ k) rest _ h
  b-stmt (Continuing p (ALabel dot n)) rest k vs d h = refl
  b-stmt (Returning p NoResult) rest k vs d h = left_out ends_stmt syms.Result passes-result (Make does.ReturnStmt ∷ k) rest _ h
  b-stmt (Returning p (NothingResult q)) rest k vs d h = refl
  b-stmt (Returning p (AResult e)) rest k vs d h =
      first-expr e rest (Read syms.Result ∷ Make does.ReturnStmt ∷ k) (Read syms.Expr ∷ Make does.SomePart ∷ Make does.ReturnStmt ∷ k) _ (result-expr (Make does.ReturnStmt ∷ k))
      ∙ b-expr e rest (Make does.SomePart ∷ Make does.ReturnStmt ∷ k) (place p ∷ vs) d (ends-expr rest h)
  b-stmt (Yielding p q e) rest k vs d h = b-expr e rest (Make does.YieldStmt ∷ k) (place p ∷ vs) d (ends-expr rest h)
  b-stmt (Asserting p e NoVia) rest k vs d h =
      b-expr e rest (Read syms.Via ∷ Make does.AssertStmt ∷ k) (place p ∷ vs) d (ends-expr rest h)
      ∙ left_out ends_stmt syms.Via passes-via (Make does.AssertStmt ∷ k) rest _ h
  b-stmt (Asserting p e (AVia w n l gs r)) rest k vs d h =
      b-expr e (via_before (AVia w n l gs r) rest) (Read syms.Via ∷ Make does.AssertStmt ∷ k) (place p ∷ vs) d refl
      ∙ b-givens gs r rest (Make does.SomeVia ∷ Make does.AssertStmt ∷ k) [] (name n ∷ expr (expr_tree e) ∷ place p ∷ vs) d
      ∙ ap (λ ts. makes k rest (made (stmt (tree.claim (expr_tree e) (tree.via n ts) p) ∷ vs) d)) (given-trees gs)

  b-else : (o : ElseForm) (so_far : List ArmVal) (rest : List Token) (k : List Want) (vs : List Val) (d : List DeclTree) → Follows ends_stmt rest
      → makes (Read syms.Else ∷ k) (else_before o rest) (made (arms so_far ∷ vs) d) ≡ makes k rest (made (otherwise (else_block o) ∷ arms (so_far ++ else_arms o) ∷ vs) d)
  b-else NoElse so_far rest k vs d h =
      left_out ends_stmt syms.Else passes-else k rest _ h ∙ ap (λ l. makes k rest (made (otherwise None ∷ arms l ∷ vs) d)) (sym (append-nil so_far))
  b-else (ElseIf p q e (ABlock l is r) o) so_far rest k vs d h =
      let new : ArmVal = record { condition = expr_tree e; body = items_tree is r } in
      b-expr e (token kinds.OpenCurly l ∷ items_before is (token kinds.CloseCurly r ∷ else_before o rest)) (Read syms.Block ∷ Make does.AddArm ∷ Read syms.Else ∷ k) (arms so_far ∷ vs) d refl
      ∙ b-block is r (else_before o rest) (Make does.AddArm ∷ Read syms.Else ∷ k) (expr (expr_tree e) ∷ arms so_far ∷ vs) d
      ∙ b-else o (so_far ++ new ∷ []) rest k vs d h
      ∙ ap (λ l. makes k rest (made (otherwise (else_block o) ∷ arms l ∷ vs) d)) (append_assoc so_far (new ∷ []) (else_arms o))
  b-else (Else p (ABlock l is r)) so_far rest k vs d h =
      b-block is r rest (Make does.SomeElse ∷ k) (arms so_far ∷ vs) d
      ∙ ap (λ l. makes k rest (made (otherwise (Some (items_tree is r)) ∷ arms l ∷ vs) d)) (sym (append-nil so_far))

  b-block : (is : ItemsForm) (r : Place) (rest : List Token) (k : List Want) (vs : List Val) (d : List DeclTree)
      → makes (Read syms.Items ∷ k) (items_before is (token kinds.CloseCurly r ∷ rest)) (made (items [] ∷ vs) d) ≡ makes k rest (made (block (items_tree is r) ∷ vs) d)
  b-block NoItem r rest k vs d = refl
  b-block (FirstItem s more) r rest k vs d =
      let behind = more_items_before more (token kinds.CloseCurly r ∷ rest) in
      first-stmt s behind syms.Items k _ (items-stmt k)
      ∙ b-stmt s behind (Make does.AddStmt ∷ Read syms.MoreItems ∷ k) (items [] ∷ vs) d (more_items-follow more r rest)
      ∙ b-more_items more (stmt_tree s ∷ []) r rest k vs d
      ∙ ap (λ b. makes k rest (made (block (tree.more_stmts (stmt_tree s) b) ∷ vs) d)) (more_items-tree more r)

  pub b-more_items : (more : MoreItemsForm) (so_far : List StmtTree) (r : Place) (rest : List Token) (k : List Want) (vs : List Val) (d : List DeclTree)
      → makes (Read syms.MoreItems ∷ k) (more_items_before more (token kinds.CloseCurly r ∷ rest)) (made (items so_far ∷ vs) d) ≡ makes k rest (made (block (block_tree (so_far ++ more_item_trees more) r) ∷ vs) d)
  b-more_items LastItem so_far r rest k vs d = ap (λ l. makes k rest (made (block (block_tree l r) ∷ vs) d)) (sym (append-nil so_far))
  b-more_items (ItemSemicolon p) so_far r rest k vs d = ap (λ l. makes k rest (made (block (block_tree l r) ∷ vs) d)) (sym (append-nil so_far))
  b-more_items (NextItem p s more) so_far r rest k vs d =
      let behind = more_items_before more (token kinds.CloseCurly r ∷ rest) in
      first-stmt s behind syms.Items k _ (items-stmt k)
      ∙ b-stmt s behind (Make does.AddStmt ∷ Read syms.MoreItems ∷ k) (items so_far ∷ vs) d (more_items-follow more r rest)
      ∙ b-more_items more (so_far ++ stmt_tree s ∷ []) r rest k vs d
      ∙ ap (λ l. makes k rest (made (block (block_tree l r) ∷ vs) d)) (append_assoc so_far (stmt_tree s ∷ []) (more_item_trees more))
