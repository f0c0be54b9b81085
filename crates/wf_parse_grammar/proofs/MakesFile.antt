-- Every file is built to the trees of its declarations.
use Rattle.std.proofs.Common.{◌≡◌, ◌∙◌, ap, sym, List, [], ◌∷◌, ◌++◌, refl, append_assoc, append-nil}
use Rattle.wf_text.specs.declared.place.Place.{Place}
use Rattle.wf_ast.specs.ParsedTree as tree
use Rattle.wf_ast.specs.ParsedTree.{StmtTree, DeclTree}
use Rattle.wf_parse_grammar.specs.declared.tokens.Kind.TheVariants as kinds
use Rattle.wf_parse_grammar.specs.declared.tokens.Token.{Token}
use Rattle.wf_parse_grammar.specs.declared.symbols.Sym.TheVariants as syms
use Rattle.wf_parse_grammar.specs.declared.symbols.Action.TheVariants as does
use Rattle.wf_parse_grammar.specs.declared.symbols.Want.{Want}
use Rattle.wf_parse_grammar.specs.declared.symbols.Want.TheVariants.{Read, Make}
use Rattle.wf_parse_grammar.specs.Grammar.{token, Exclaims, Asks, MarkPart, NoMark, AMark}
use Rattle.wf_parse_grammar.specs.Grammar.{AVar}
use Rattle.wf_parse_grammar.specs.Grammar.{VarsForm, NoVars, FirstVar, FirstStmt, MoreVarsForm, LastVar, VarSemicolon, NextVar, ThenStmt, FieldsForm, NoField, FirstField, MoreFieldsForm, LastField, FieldComma, NextField, OtherFieldsForm, NoOtherFields, OtherFields, TypePart, NoType, AType, IsPub, IsPri, DeclForm, AStatus, AConst, AStruct, AFunc, FileForm, NoDecl, ADecl}
use Rattle.wf_parse_grammar.specs.Grammar.{mark_part_before, expr_before, more_items_before, more_vars_before, vars_before, more_fields_before, fields_before, other_fields_before, type_part_before, decl_before, file_before}
use Rattle.wf_parse_grammar.specs.Meaning as means
use Rattle.wf_parse_grammar.specs.Meaning.{mark_part_tree, type_tree, stmt_tree, var_tree, more_vars_tree, vars_tree, more_field_trees, other_field_trees, type_part_tree, is_public, decl_tree, file_trees}
use Rattle.wf_parse_grammar.specs.Values.{Val, name, place, mark, public, type, prefixes, items, block, fields, result, FieldVal, field_trees, block_tree}
use Rattle.wf_parse_grammar.proofs.Forward.{ends_operand}
use Rattle.wf_parse_grammar.proofs.ForwardMore.{begins_type, type-first}
use Rattle.wf_parse_grammar.proofs.Makes.{makes}
use Rattle.wf_parse_grammar.proofs.MakesFirst.{made, Follows, SameAt, swapped}
use Rattle.wf_parse_grammar.proofs.MakesExpr.{b-expr, b-type}
use Rattle.wf_parse_grammar.proofs.MakesStmt.{more_item_trees, more_items-tree, more_items-follow, b-stmt, b-more_items, vars-stmt, first-stmt}

-- The statements of a method.
abbrev more_var_trees : MoreVarsForm → List StmtTree
more_var_trees LastVar = []
more_var_trees (VarSemicolon p) = []
more_var_trees (NextVar p v more) = var_tree v ∷ more_var_trees more
more_var_trees (ThenStmt p s more) = stmt_tree s ∷ more_item_trees more

more_vars-tree : (more : MoreVarsForm) (r : Place) → block_tree (more_var_trees more) r ≡ more_vars_tree more r
more_vars-tree LastVar r = refl
more_vars-tree (VarSemicolon p) r = refl
more_vars-tree (NextVar p v more) r = ap (tree.more_stmts (var_tree v)) (more_vars-tree more r)
more_vars-tree (ThenStmt p s more) r = ap (tree.more_stmts (stmt_tree s)) (more_items-tree more r)

more_vars-follow : (more : MoreVarsForm) (r : Place) (rest : List Token) → Follows ends_operand (more_vars_before more (token kinds.CloseCurly r ∷ rest))
more_vars-follow LastVar r rest = refl
more_vars-follow (VarSemicolon p) r rest = refl
more_vars-follow (NextVar p v more) r rest = refl
more_vars-follow (ThenStmt p s more) r rest = refl

b-more_vars : (more : MoreVarsForm) (so_far : List StmtTree) (r : Place) (rest : List Token) (k : List Want) (vs : List Val) (d : List DeclTree)
    → makes (Read syms.MoreVars ∷ k) (more_vars_before more (token kinds.CloseCurly r ∷ rest)) (made (items so_far ∷ vs) d) ≡ makes k rest (made (block (block_tree (so_far ++ more_var_trees more) r) ∷ vs) d)
b-more_vars LastVar so_far r rest k vs d = ap (λ l. makes k rest (made (block (block_tree l r) ∷ vs) d)) (sym (append-nil so_far))
b-more_vars (VarSemicolon p) so_far r rest k vs d = ap (λ l. makes k rest (made (block (block_tree l r) ∷ vs) d)) (sym (append-nil so_far))
b-more_vars (NextVar p (AVar w n c t) more) so_far r rest k vs d =
    b-type t [] (more_vars_before more (token kinds.CloseCurly r ∷ rest)) (Make does.VarStmt ∷ Make does.AddStmt ∷ Read syms.MoreVars ∷ k) (name n ∷ place w ∷ items so_far ∷ vs) d (more_vars-follow more r rest)
    ∙ b-more_vars more (so_far ++ tree.var n (type_tree t) w ∷ []) r rest k vs d
    ∙ ap (λ l. makes k rest (made (block (block_tree l r) ∷ vs) d)) (append_assoc so_far (tree.var n (type_tree t) w ∷ []) (more_var_trees more))
b-more_vars (ThenStmt p s more) so_far r rest k vs d =
    let behind = more_items_before more (token kinds.CloseCurly r ∷ rest) in
    first-stmt s behind syms.Vars k _ (vars-stmt k)
    ∙ b-stmt s behind (Make does.AddStmt ∷ Read syms.MoreItems ∷ k) (items so_far ∷ vs) d (more_items-follow more r rest)
    ∙ b-more_items more (so_far ++ stmt_tree s ∷ []) r rest k vs d
    ∙ ap (λ l. makes k rest (made (block (block_tree l r) ∷ vs) d)) (append_assoc so_far (stmt_tree s ∷ []) (more_item_trees more))

b-vars : (these : VarsForm) (r : Place) (rest : List Token) (k : List Want) (vs : List Val) (d : List DeclTree)
    → makes (Read syms.Vars ∷ k) (vars_before these (token kinds.CloseCurly r ∷ rest)) (made (items [] ∷ vs) d) ≡ makes k rest (made (block (vars_tree these r) ∷ vs) d)
b-vars NoVars r rest k vs d = refl
b-vars (FirstVar (AVar w n c t) more) r rest k vs d =
    b-type t [] (more_vars_before more (token kinds.CloseCurly r ∷ rest)) (Make does.VarStmt ∷ Make does.AddStmt ∷ Read syms.MoreVars ∷ k) (name n ∷ place w ∷ items [] ∷ vs) d (more_vars-follow more r rest)
    ∙ b-more_vars more (tree.var n (type_tree t) w ∷ []) r rest k vs d
    ∙ ap (λ b. makes k rest (made (block (tree.more_stmts (tree.var n (type_tree t) w) b) ∷ vs) d)) (more_vars-tree more r)
b-vars (FirstStmt s more) r rest k vs d =
    let behind = more_items_before more (token kinds.CloseCurly r ∷ rest) in
    first-stmt s behind syms.Vars k _ (vars-stmt k)
    ∙ b-stmt s behind (Make does.AddStmt ∷ Read syms.MoreItems ∷ k) (items [] ∷ vs) d (more_items-follow more r rest)
    ∙ b-more_items more (stmt_tree s ∷ []) r rest k vs d
    ∙ ap (λ b. makes k rest (made (block (tree.more_stmts (stmt_tree s) b) ∷ vs) d)) (more_items-tree more r)

-- Fields.
abbrev more_field_vals : MoreFieldsForm → List FieldVal
more_field_vals LastField = []
more_field_vals (FieldComma p) = []
more_field_vals (NextField p n c t more) = record { name = n; of = type_tree t } ∷ more_field_vals more

abbrev field_vals : FieldsForm → List FieldVal
field_vals NoField = []
field_vals (FirstField n c t more) = record { name = n; of = type_tree t } ∷ more_field_vals more

abbrev other_field_vals : OtherFieldsForm → List FieldVal
other_field_vals NoOtherFields = []
other_field_vals (OtherFields p l fs r) = field_vals fs

-- fields before others
more_fields-trees : (more : MoreFieldsForm) (behind : List FieldVal) → field_trees (more_field_vals more ++ behind) ≡ more_field_trees more (field_trees behind)
more_fields-trees LastField behind = refl
more_fields-trees (FieldComma p) behind = refl
more_fields-trees (NextField p n c t more) behind = ap (tree.more_fields n (type_tree t)) (more_fields-trees more behind)

fields-trees : (fs : FieldsForm) (behind : List FieldVal) → field_trees (field_vals fs ++ behind) ≡ means.field_trees fs (field_trees behind)
fields-trees NoField behind = refl
fields-trees (FirstField n c t more) behind = ap (tree.more_fields n (type_tree t)) (more_fields-trees more behind)

other_fields-trees : (o : OtherFieldsForm) → field_trees (other_field_vals o) ≡ other_field_trees o
other_fields-trees NoOtherFields = refl
other_fields-trees (OtherFields p l fs r) = ap field_trees (sym (append-nil (field_vals fs))) ∙ fields-trees fs []

all-trees : (fs : FieldsForm) (o : OtherFieldsForm) → field_trees (field_vals fs ++ other_field_vals o) ≡ means.field_trees fs (other_field_trees o)
all-trees fs o = fields-trees fs (other_field_vals o) ∙ ap (means.field_trees fs) (other_fields-trees o)

these-trees : (fs : FieldsForm) → field_trees (field_vals fs) ≡ means.field_trees fs tree.no_field
these-trees fs = ap field_trees (sym (append-nil (field_vals fs))) ∙ fields-trees fs []

more_fields-follow : (more : MoreFieldsForm) (r : Place) (rest : List Token) → Follows ends_operand (more_fields_before more (token kinds.CloseRound r ∷ rest))
more_fields-follow LastField r rest = refl
more_fields-follow (FieldComma p) r rest = refl
more_fields-follow (NextField p n c t more) r rest = refl

b-more_fields : (more : MoreFieldsForm) (so_far : List FieldVal) (r : Place) (rest : List Token) (k : List Want) (vs : List Val) (d : List DeclTree)
    → makes (Read syms.MoreFields ∷ k) (more_fields_before more (token kinds.CloseRound r ∷ rest)) (made (fields so_far ∷ vs) d) ≡ makes k rest (made (fields (so_far ++ more_field_vals more) ∷ vs) d)
b-more_fields LastField so_far r rest k vs d = ap (λ fs. makes k rest (made (fields fs ∷ vs) d)) (sym (append-nil so_far))
b-more_fields (FieldComma p) so_far r rest k vs d = ap (λ fs. makes k rest (made (fields fs ∷ vs) d)) (sym (append-nil so_far))
b-more_fields (NextField p n c t more) so_far r rest k vs d =
    let new : FieldVal = record { name = n; of = type_tree t } in
    b-type t [] (more_fields_before more (token kinds.CloseRound r ∷ rest)) (Make does.AddField ∷ Read syms.MoreFields ∷ k) (name n ∷ fields so_far ∷ vs) d (more_fields-follow more r rest)
    ∙ b-more_fields more (so_far ++ new ∷ []) r rest k vs d
    ∙ ap (λ fs. makes k rest (made (fields fs ∷ vs) d)) (append_assoc so_far (new ∷ []) (more_field_vals more))

b-fields : (fs : FieldsForm) (so_far : List FieldVal) (r : Place) (rest : List Token) (k : List Want) (vs : List Val) (d : List DeclTree)
    → makes (Read syms.Fields ∷ k) (fields_before fs (token kinds.CloseRound r ∷ rest)) (made (fields so_far ∷ vs) d) ≡ makes k rest (made (fields (so_far ++ field_vals fs) ∷ vs) d)
b-fields NoField so_far r rest k vs d = ap (λ fs. makes k rest (made (fields fs ∷ vs) d)) (sym (append-nil so_far))
b-fields (FirstField n c t more) so_far r rest k vs d =
    let new : FieldVal = record { name = n; of = type_tree t } in
    b-type t [] (more_fields_before more (token kinds.CloseRound r ∷ rest)) (Make does.AddField ∷ Read syms.MoreFields ∷ k) (name n ∷ fields so_far ∷ vs) d (more_fields-follow more r rest)
    ∙ b-more_fields more (so_far ++ new ∷ []) r rest k vs d
    ∙ ap (λ fs. makes k rest (made (fields fs ∷ vs) d)) (append_assoc so_far (new ∷ []) (more_field_vals more))

b-fields_mark : (sign : MarkPart) (l : Place) (fs : FieldsForm) (r : Place) (rest : List Token) (k : List Want) (vs : List Val) (d : List DeclTree)
    → makes (Read syms.FieldsMark ∷ k) (mark_part_before sign (token kinds.OpenRound l ∷ fields_before fs (token kinds.CloseRound r ∷ rest))) (made vs d)
    ≡ makes k rest (made (fields (field_vals fs) ∷ mark (mark_part_tree sign) ∷ vs) d)
b-fields_mark NoMark l fs r rest k vs d = b-fields fs [] r rest k (mark (mark_part_tree NoMark) ∷ vs) d
b-fields_mark (AMark (Exclaims u)) l fs r rest k vs d = b-fields fs [] r rest k (mark (mark_part_tree (AMark (Exclaims u))) ∷ vs) d
b-fields_mark (AMark (Asks u)) l fs r rest k vs d = b-fields fs [] r rest k (mark (mark_part_tree (AMark (Asks u))) ∷ vs) d

b-others : (o : OtherFieldsForm) (so_far : List FieldVal) (p : Place) (rest : List Token) (k : List Want) (vs : List Val) (d : List DeclTree)
    → makes (Read syms.OtherFields ∷ k) (other_fields_before o (token kinds.Semicolon p ∷ rest)) (made (fields so_far ∷ vs) d) ≡ makes k (token kinds.Semicolon p ∷ rest) (made (fields (so_far ++ other_field_vals o) ∷ vs) d)
b-others NoOtherFields so_far p rest k vs d = ap (λ fs. makes k (token kinds.Semicolon p ∷ rest) (made (fields fs ∷ vs) d)) (sym (append-nil so_far))
b-others (OtherFields q l fs r) so_far p rest k vs d = b-fields fs so_far r (token kinds.Semicolon p ∷ rest) k vs d

-- A method's result and its block.
tail-type : (k : List Want) → SameAt begins_type (Read syms.MethodTail ∷ k) (Read syms.WholeType ∷ Make does.SomeResult ∷ Read syms.Body ∷ k)
tail-type k kinds.Base p ts m h = refl
tail-type k kinds.Slice p ts m h = refl
tail-type k kinds.Array p ts m h = refl
tail-type k (kinds.Name n) p ts m h = refl
tail-type k _ p ts m h = absurd (cc h)

b-method : (t : TypePart) (x : Place) (these : VarsForm) (y : Place) (rest : List Token) (k : List Want) (vs : List Val) (d : List DeclTree)
    → makes (Read syms.MethodTail ∷ k) (type_part_before t (token kinds.OpenCurly x ∷ vars_before these (token kinds.CloseCurly y ∷ rest))) (made (prefixes [] ∷ vs) d)
    ≡ makes k rest (made (block (vars_tree these y) ∷ result (type_part_tree t) ∷ vs) d)
b-method NoType x these y rest k vs d = b-vars these y rest k (result tree.gives_nothing ∷ vs) d
b-method (AType t) x these y rest k vs d =
    let behind = token kinds.OpenCurly x ∷ vars_before these (token kinds.CloseCurly y ∷ rest) in
    swapped begins_type (Read syms.MethodTail ∷ k) (Read syms.WholeType ∷ Make does.SomeResult ∷ Read syms.Body ∷ k) (tail-type k) _ _ (type-first t behind)
    ∙ b-type t [] behind (Make does.SomeResult ∷ Read syms.Body ∷ k) vs d refl
    ∙ b-vars these y rest k (result (tree.gives (type_tree t)) ∷ vs) d

-- A declaration and its semicolon.
b-decl : (g : DeclForm) (p : Place) (rest : List Token) (k : List Want) (vs : List Val) (d : List DeclTree)
    → makes (Read syms.File ∷ k) (decl_before g (token kinds.Semicolon p ∷ rest)) (made vs d) ≡ makes (Read syms.File ∷ k) rest (made vs (d ++ decl_tree g ∷ []))
b-decl (AStatus (IsPub z) w n) p rest k vs d = refl
b-decl (AConst (IsPub z) w n c t q e) p rest k vs d =
    let j = Make does.ConstDecl ∷ Read syms.ASemicolon ∷ Read syms.File ∷ k in
    let us = name n ∷ place w ∷ public (is_public (IsPub z)) ∷ vs in
    b-type t [] (token kinds.Equals q ∷ expr_before e (token kinds.Semicolon p ∷ rest)) (Read syms.AnEquals ∷ Read syms.Expr ∷ j) us d refl
    ∙ b-expr e (token kinds.Semicolon p ∷ rest) j (type (type_tree t) ∷ us) d refl
b-decl (AStruct (IsPub z) w n sign l fs r others) p rest k vs d =
    let j = Make does.StructDecl ∷ Read syms.ASemicolon ∷ Read syms.File ∷ k in
    let us = name n ∷ place w ∷ public (is_public (IsPub z)) ∷ vs in
    b-fields_mark sign l fs r (other_fields_before others (token kinds.Semicolon p ∷ rest)) (Read syms.OtherFields ∷ j) us d
    ∙ b-others others (field_vals fs) p rest j (mark (mark_part_tree sign) ∷ us) d
    ∙ ap (λ ts. makes (Read syms.File ∷ k) rest (made vs (d ++ tree.structure (is_public (IsPub z)) n (mark_part_tree sign) ts w ∷ []))) (all-trees fs others)
b-decl (AFunc (IsPub z) w o dot n sign l fs r t x these y) p rest k vs d =
    let j = Make does.MethodDecl ∷ Read syms.ASemicolon ∷ Read syms.File ∷ k in
    let us = name n ∷ name o ∷ place w ∷ public (is_public (IsPub z)) ∷ vs in
    b-fields_mark sign l fs r (type_part_before t (token kinds.OpenCurly x ∷ vars_before these (token kinds.CloseCurly y ∷ token kinds.Semicolon p ∷ rest))) (Make does.StartType ∷ Read syms.MethodTail ∷ j) us d
    ∙ b-method t x these y (token kinds.Semicolon p ∷ rest) j (fields (field_vals fs) ∷ mark (mark_part_tree sign) ∷ us) d
    ∙ ap (λ ts. makes (Read syms.File ∷ k) rest (made vs (d ++ tree.method (is_public (IsPub z)) o n (mark_part_tree sign) ts (type_part_tree t) (vars_tree these y) w ∷ []))) (these-trees fs)
b-decl (AStatus (IsPri z) w n) p rest k vs d = refl
b-decl (AConst (IsPri z) w n c t q e) p rest k vs d =
    let j = Make does.ConstDecl ∷ Read syms.ASemicolon ∷ Read syms.File ∷ k in
    let us = name n ∷ place w ∷ public (is_public (IsPri z)) ∷ vs in
    b-type t [] (token kinds.Equals q ∷ expr_before e (token kinds.Semicolon p ∷ rest)) (Read syms.AnEquals ∷ Read syms.Expr ∷ j) us d refl
    ∙ b-expr e (token kinds.Semicolon p ∷ rest) j (type (type_tree t) ∷ us) d refl
b-decl (AStruct (IsPri z) w n sign l fs r others) p rest k vs d =
    let j = Make does.StructDecl ∷ Read syms.ASemicolon ∷ Read syms.File ∷ k in
    let us = name n ∷ place w ∷ public (is_public (IsPri z)) ∷ vs in
    b-fields_mark sign l fs r (other_fields_before others (token kinds.Semicolon p ∷ rest)) (Read syms.OtherFields ∷ j) us d
    ∙ b-others others (field_vals fs) p rest j (mark (mark_part_tree sign) ∷ us) d
    ∙ ap (λ ts. makes (Read syms.File ∷ k) rest (made vs (d ++ tree.structure (is_public (IsPri z)) n (mark_part_tree sign) ts w ∷ []))) (all-trees fs others)
b-decl (AFunc (IsPri z) w o dot n sign l fs r t x these y) p rest k vs d =
    let j = Make does.MethodDecl ∷ Read syms.ASemicolon ∷ Read syms.File ∷ k in
    let us = name n ∷ name o ∷ place w ∷ public (is_public (IsPri z)) ∷ vs in
    b-fields_mark sign l fs r (type_part_before t (token kinds.OpenCurly x ∷ vars_before these (token kinds.CloseCurly y ∷ token kinds.Semicolon p ∷ rest))) (Make does.StartType ∷ Read syms.MethodTail ∷ j) us d
    ∙ b-method t x these y (token kinds.Semicolon p ∷ rest) j (fields (field_vals fs) ∷ mark (mark_part_tree sign) ∷ us) d
    ∙ ap (λ ts. makes (Read syms.File ∷ k) rest (made vs (d ++ tree.method (is_public (IsPri z)) o n (mark_part_tree sign) ts (type_part_tree t) (vars_tree these y) w ∷ []))) (these-trees fs)

-- The declarations of a file after others.
pub b-file : (f : FileForm) (rest : List Token) (k : List Want) (vs : List Val) (d : List DeclTree)
    → makes (Read syms.File ∷ k) (file_before f rest) (made vs d) ≡ makes (Read syms.File ∷ k) rest (made vs (d ++ file_trees f))
b-file NoDecl rest k vs d = ap (λ ds. makes (Read syms.File ∷ k) rest (made vs ds)) (sym (append-nil d))
b-file (ADecl g p more) rest k vs d =
    b-decl g p (file_before more rest) k vs d ∙ b-file more rest k vs (d ++ decl_tree g ∷ [])
    ∙ ap (λ ds. makes (Read syms.File ∷ k) rest (made vs ds)) (append_assoc d (decl_tree g ∷ []) (file_trees more))
