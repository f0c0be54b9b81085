-- The methods of a package that is read open few brackets.
use Rattle.std.proofs.Common.{◌≡◌, ℕ, ◌+◌, ◌-◌, true, List, [], ◌∷◌, ◌++◌, length, refl, sym, ◌∙◌, subst}
use Rattle.std.specs.List.{list_all}
use Rattle.std.proofs.lemmas.List.Folds.{list_all-append}
use Rattle.wf_text.specs.declared.place.Place.{Place}
use Rattle.wf_ast.specs.ParsedTree.{DeclTree}
use Rattle.wf_ast.specs.ReadPackage.{decls_of}
use Rattle.wf_ast.proofs.BoolLemmas.{and-true}
use Rattle.wf_parse_grammar.specs.declared.tokens.Kind.TheVariants as kinds
use Rattle.wf_parse_grammar.specs.declared.tokens.Token.{Token}
use Rattle.wf_parse_grammar.specs.Grammar.{token, name_token, text_token}
use Rattle.wf_parse_grammar.specs.Grammar.{VarsForm, NoVars, FirstVar, FirstStmt, MoreVarsForm, LastVar, VarSemicolon, NextVar, ThenStmt, FieldsForm, NoField, FirstField, MoreFieldsForm, LastField, FieldComma, NextField, OtherFieldsForm, NoOtherFields, OtherFields, TypePart, NoType, AType, PublicForm, IsPub, IsPri, DeclForm, AStatus, AConst, AStruct, AFunc, FileForm, NoDecl, ADecl}
use Rattle.wf_parse_grammar.specs.Grammar.{mark_part_before, expr_before, type_before, more_items_before, more_vars_before, vars_before, more_fields_before, fields_before, other_fields_before, type_part_before, public_before, decl_before, file_before}
use Rattle.wf_parse_grammar.specs.Meaning.{var_tree, stmt_tree, more_items_tree, more_vars_tree, vars_tree, decl_tree, file_trees}
use Rattle.wf_parse.specs.Parsing.{ReadsFiles}
use Rattle.wf_lower_depth_laws.specs.WrittenDepth.{stmt_opens, block_opens, decl_opens}
use Rattle.wf_lower_depth_laws.specs.DepthLaws.{ReadMethodsOpenFew}
use Rattle.wf_lower_depth_laws.proofs.Room.{Fits, shut, shallow_fits, mark_part_passed}
use Rattle.wf_lower_depth_laws.proofs.ExprDepth.{expr_few, type_passed}
use Rattle.wf_lower_depth_laws.proofs.StmtDepth.{var_few, stmt_few, more_items_few}

more_vars_few : (r : ℕ) (more : MoreVarsForm) (end : Place) (rest : List Token) → Fits r (more_vars_before more rest) → (block_opens r (more_vars_tree more end) ≡ true) × Fits r rest
more_vars_few r LastVar end rest a = (refl, a)
more_vars_few r (VarSemicolon p) end rest a = (refl, a.1)
more_vars_few r (NextVar p v more) end rest a =
    let first = var_few r v (more_vars_before more rest) a.1 in
    let others = more_vars_few r more end rest first.1 in
    (and-true (stmt_opens r (var_tree v)) (block_opens r (more_vars_tree more end)) first.0 others.0, others.1)
more_vars_few r (ThenStmt p s more) end rest a =
    let first = stmt_few r s (more_items_before more rest) a.1 in
    let others = more_items_few r more end rest first.1 in
    (and-true (stmt_opens r (stmt_tree s)) (block_opens r (more_items_tree more end)) first.0 others.0, others.1)

vars_few : (r : ℕ) (vs : VarsForm) (end : Place) (rest : List Token) → Fits r (vars_before vs rest) → (block_opens r (vars_tree vs end) ≡ true) × Fits r rest
vars_few r NoVars end rest a = (refl, a)
vars_few r (FirstVar v more) end rest a =
    let first = var_few r v (more_vars_before more rest) a in
    let others = more_vars_few r more end rest first.1 in
    (and-true (stmt_opens r (var_tree v)) (block_opens r (more_vars_tree more end)) first.0 others.0, others.1)
vars_few r (FirstStmt s more) end rest a =
    let first = stmt_few r s (more_items_before more rest) a in
    let others = more_items_few r more end rest first.1 in
    (and-true (stmt_opens r (stmt_tree s)) (block_opens r (more_items_tree more end)) first.0 others.0, others.1)

more_fields_passed : (r : ℕ) (more : MoreFieldsForm) (rest : List Token) → Fits r (more_fields_before more rest) → Fits r rest
more_fields_passed r LastField rest a = a
more_fields_passed r (FieldComma p) rest a = a.1
more_fields_passed r (NextField p n c t more) rest a = more_fields_passed r more rest (type_passed r t (more_fields_before more rest) a.1.1.1)

fields_passed : (r : ℕ) (fs : FieldsForm) (rest : List Token) → Fits r (fields_before fs rest) → Fits r rest
fields_passed r NoField rest a = a
fields_passed r (FirstField n c t more) rest a = more_fields_passed r more rest (type_passed r t (more_fields_before more rest) a.1.1)

other_fields_passed : (r : ℕ) (o : OtherFieldsForm) (rest : List Token) → Fits r (other_fields_before o rest) → Fits r rest
other_fields_passed r NoOtherFields rest a = a
other_fields_passed r (OtherFields p l fs s) rest a =
    let fields = fields_passed (r - 1) fs (token kinds.CloseRound s ∷ rest) a.1.1 in
    shut r rest (a.1.0 refl) fields.1

type_part_passed : (r : ℕ) (t : TypePart) (rest : List Token) → Fits r (type_part_before t rest) → Fits r rest
type_part_passed r NoType rest a = a
type_part_passed r (AType t) rest a = type_passed r t rest a

public_passed : (r : ℕ) (p : PublicForm) (rest : List Token) → Fits r (public_before p rest) → Fits r rest
public_passed r (IsPub p) rest a = a.1
public_passed r (IsPri p) rest a = a.1

decl_few : (d : DeclForm) (rest : List Token) → Fits 48 (decl_before d rest) → (decl_opens (decl_tree d) ≡ true) × Fits 48 rest
decl_few (AStatus pu w n) rest a =
    let b = public_passed 48 pu (token kinds.Status w ∷ text_token n ∷ rest) a in
    (refl, b.1.1)
decl_few (AConst pu w n c t q e) rest a =
    let b = public_passed 48 pu (token kinds.Const w ∷ name_token n ∷ token kinds.Colon c ∷ type_before t (token kinds.Equals q ∷ expr_before e rest)) a in
    let of = type_passed 48 t (token kinds.Equals q ∷ expr_before e rest) b.1.1.1 in
    let value = expr_few 48 e rest of.1 in
    (refl, value.1)
decl_few (AStruct pu w n m l fs s others) rest a =
    let behind : List Token = token kinds.CloseRound s ∷ other_fields_before others rest in
    let b = public_passed 48 pu (token kinds.Struct w ∷ name_token n ∷ mark_part_before m (token kinds.OpenRound l ∷ fields_before fs behind)) a in
    let open_at = mark_part_passed 48 m (token kinds.OpenRound l ∷ fields_before fs behind) b.1.1 in
    let fields = fields_passed 47 fs behind open_at.1 in
    (refl, other_fields_passed 48 others rest fields.1)
decl_few (AFunc pu w o d n m l fs s t x vs y) rest a =
    let tail : List Token = token kinds.OpenCurly x ∷ vars_before vs (token kinds.CloseCurly y ∷ rest) in
    let behind : List Token = token kinds.CloseRound s ∷ type_part_before t tail in
    let b = public_passed 48 pu (token kinds.Func w ∷ name_token o ∷ token kinds.Dot d ∷ name_token n ∷ mark_part_before m (token kinds.OpenRound l ∷ fields_before fs behind)) a in
    let open_at = mark_part_passed 48 m (token kinds.OpenRound l ∷ fields_before fs behind) b.1.1.1.1 in
    let args = fields_passed 47 fs behind open_at.1 in
    let result = type_part_passed 48 t tail args.1 in
    let body = vars_few 47 vs y (token kinds.CloseCurly y ∷ rest) result.1 in
    (body.0, body.1.1)

file_few : (f : FileForm) → Fits 48 (file_before f []) → list_all decl_opens (file_trees f) ≡ true
file_few NoDecl a = refl
file_few (ADecl d p more) a =
    let first = decl_few d (token kinds.Semicolon p ∷ file_before more []) a in
    and-true (decl_opens (decl_tree d)) (list_all decl_opens (file_trees more)) first.0 (file_few more first.1.1)

abbrev AllOpenFew : List DeclTree → Type 0
AllOpenFew decls = list_all decl_opens decls ≡ true

files_few : (number most : ℕ) (known : List (List ℕ)) (files : List (List ℕ)) (texts : List (List ℕ)) (trees : List DeclTree) → ReadsFiles number most known files texts trees → AllOpenFew trees
files_few number most known [] texts trees r = subst AllOpenFew (sym r.1) refl
files_few number most known (bytes ∷ files) texts trees r =
    let accepted = r.4.accepted in
    let own = subst AllOpenFew (sym accepted.means) (file_few accepted.file (subst (Fits 48) accepted.text (shallow_fits r.1 accepted.within.shallow))) in
    let others = files_few (number + 1) (most - length r.1) r.0 files texts r.3 r.5 in
    let whole : AllOpenFew (r.2 ++ r.3) = list_all-append decl_opens r.2 r.3 ∙ and-true (list_all decl_opens r.2) (list_all decl_opens r.3) own others in
    subst AllOpenFew (sym r.6) whole

pub read_methods_open_few : ReadMethodsOpenFew
read_methods_open_few name files p a = files_few 0 262144 [] files p.texts (decls_of p) a.read
