-- Of formed tokens the grammar makes well formed declarations.
use Rattle.std.proofs.Common.{◌≡◌, true, ◌&&◌, List, [], ◌∷◌, refl}
use Rattle.std.specs.List.{list_all}
use Rattle.wf_text.specs.declared.place.Place.{Place}
use Rattle.wf_ast.specs.ParsedTree.{FieldTrees, no_field}
use Rattle.wf_ast.specs.WellFormed.{formed_expr, formed_type, formed_stmt, formed_block, formed_fields, formed_result, well_formed}
use Rattle.wf_ast.proofs.BoolLemmas.{and-true}
use Rattle.wf_parse_grammar.specs.declared.tokens.Kind.TheVariants as kinds
use Rattle.wf_parse_grammar.specs.declared.tokens.Token.{Token}
use Rattle.wf_parse_grammar.specs.Grammar.{token, name_token, text_token}
use Rattle.wf_parse_grammar.specs.Grammar.{VarsForm, NoVars, FirstVar, FirstStmt, MoreVarsForm, LastVar, VarSemicolon, NextVar, ThenStmt, FieldsForm, NoField, FirstField, MoreFieldsForm, LastField, FieldComma, NextField, OtherFieldsForm, NoOtherFields, OtherFields, TypePart, NoType, AType, PublicForm, IsPub, IsPri, DeclForm, AStatus, AConst, AStruct, AFunc, FileForm, NoDecl, ADecl}
use Rattle.wf_parse_grammar.specs.Grammar.{mark_part_before, expr_before, type_before, more_items_before, more_vars_before, vars_before, more_fields_before, fields_before, other_fields_before, type_part_before, public_before, decl_before, file_before}
use Rattle.wf_parse_grammar.specs.Meaning.{expr_tree, type_tree, var_tree, stmt_tree, more_items_tree, more_vars_tree, vars_tree, more_field_trees, field_trees, other_field_trees, type_part_tree, decl_tree, file_trees}
use Rattle.wf_parse.specs.TokenForms.{AreFormed}
use Rattle.wf_parse.specs.ReadForms.{FormsAreWellFormed}
use Rattle.wf_parse.proofs.ExprForms.{mark-part-passed, expr-formed, type-formed}
use Rattle.wf_parse.proofs.StmtForms.{var-formed, stmt-formed, more-items-formed}

more-vars-formed : (more : MoreVarsForm) (r : Place) (rest : List Token) → AreFormed (more_vars_before more (token kinds.CloseCurly r ∷ rest)) → (formed_block (more_vars_tree more r) ≡ true) × AreFormed rest
more-vars-formed LastVar r rest a = (refl, a.1)
more-vars-formed (VarSemicolon p) r rest a = (refl, a.1.1)
more-vars-formed (NextVar p v more) r rest a =
    let first = var-formed v (more_vars_before more (token kinds.CloseCurly r ∷ rest)) a.1 in
    let others = more-vars-formed more r rest first.1 in
    (and-true (formed_stmt (var_tree v)) (formed_block (more_vars_tree more r)) first.0 others.0, others.1)
more-vars-formed (ThenStmt p s more) r rest a =
    let first = stmt-formed s (more_items_before more (token kinds.CloseCurly r ∷ rest)) a.1 in
    let others = more-items-formed more r rest first.1 in
    (and-true (formed_stmt (stmt_tree s)) (formed_block (more_items_tree more r)) first.0 others.0, others.1)

vars-formed : (vs : VarsForm) (r : Place) (rest : List Token) → AreFormed (vars_before vs (token kinds.CloseCurly r ∷ rest)) → (formed_block (vars_tree vs r) ≡ true) × AreFormed rest
vars-formed NoVars r rest a = (refl, a.1)
vars-formed (FirstVar v more) r rest a =
    let first = var-formed v (more_vars_before more (token kinds.CloseCurly r ∷ rest)) a in
    let others = more-vars-formed more r rest first.1 in
    (and-true (formed_stmt (var_tree v)) (formed_block (more_vars_tree more r)) first.0 others.0, others.1)
vars-formed (FirstStmt s more) r rest a =
    let first = stmt-formed s (more_items_before more (token kinds.CloseCurly r ∷ rest)) a in
    let others = more-items-formed more r rest first.1 in
    (and-true (formed_stmt (stmt_tree s)) (formed_block (more_items_tree more r)) first.0 others.0, others.1)

-- The fields of a list, before others that are formed.
more-fields-formed : (more : MoreFieldsForm) (rest : List Token) → AreFormed (more_fields_before more rest)
    → ((behind : FieldTrees) → formed_fields behind ≡ true → formed_fields (more_field_trees more behind) ≡ true) × AreFormed rest
more-fields-formed LastField rest a = ((λ behind h. h), a)
more-fields-formed (FieldComma p) rest a = ((λ behind h. h), a.1)
more-fields-formed (NextField p n c t more) rest a =
    let of = type-formed t (more_fields_before more rest) a.1.1.1 in
    let others = more-fields-formed more rest of.1 in
    ((λ behind h. and-true (formed_type (type_tree t)) (formed_fields (more_field_trees more behind)) of.0 (others.0 behind h)), others.1)

fields-formed : (fs : FieldsForm) (rest : List Token) → AreFormed (fields_before fs rest)
    → ((behind : FieldTrees) → formed_fields behind ≡ true → formed_fields (field_trees fs behind) ≡ true) × AreFormed rest
fields-formed NoField rest a = ((λ behind h. h), a)
fields-formed (FirstField n c t more) rest a =
    let of = type-formed t (more_fields_before more rest) a.1.1 in
    let others = more-fields-formed more rest of.1 in
    ((λ behind h. and-true (formed_type (type_tree t)) (formed_fields (more_field_trees more behind)) of.0 (others.0 behind h)), others.1)

other-fields-formed : (o : OtherFieldsForm) (rest : List Token) → AreFormed (other_fields_before o rest) → (formed_fields (other_field_trees o) ≡ true) × AreFormed rest
other-fields-formed NoOtherFields rest a = (refl, a)
other-fields-formed (OtherFields p l fs r) rest a =
    let fields = fields-formed fs (token kinds.CloseRound r ∷ rest) a.1.1 in
    (fields.0 no_field refl, fields.1.1)

type-part-formed : (t : TypePart) (rest : List Token) → AreFormed (type_part_before t rest) → (formed_result (type_part_tree t) ≡ true) × AreFormed rest
type-part-formed NoType rest a = (refl, a)
type-part-formed (AType t) rest a = type-formed t rest a

public-passed : (p : PublicForm) (rest : List Token) → AreFormed (public_before p rest) → AreFormed rest
public-passed (IsPub p) rest a = a.1
public-passed (IsPri p) rest a = a.1

decl-formed : (d : DeclForm) (rest : List Token) → AreFormed (decl_before d rest) → (well_formed (decl_tree d) ≡ true) × AreFormed rest
decl-formed (AStatus pu w n) rest a =
    let b = public-passed pu (token kinds.Status w ∷ text_token n ∷ rest) a in
    (refl, b.1.1)
decl-formed (AConst pu w n c t q e) rest a =
    let b = public-passed pu (token kinds.Const w ∷ name_token n ∷ token kinds.Colon c ∷ type_before t (token kinds.Equals q ∷ expr_before e rest)) a in
    let of = type-formed t (token kinds.Equals q ∷ expr_before e rest) b.1.1.1 in
    let value = expr-formed e rest of.1.1 in
    (and-true (formed_type (type_tree t)) (formed_expr (expr_tree e)) of.0 value.0, value.1)
decl-formed (AStruct pu w n m l fs r others) rest a =
    let behind : List Token = token kinds.CloseRound r ∷ other_fields_before others rest in
    let b = public-passed pu (token kinds.Struct w ∷ name_token n ∷ mark_part_before m (token kinds.OpenRound l ∷ fields_before fs behind)) a in
    let opened = mark-part-passed m (token kinds.OpenRound l ∷ fields_before fs behind) b.1.1 in
    let fields = fields-formed fs behind opened.1 in
    let more = other-fields-formed others rest fields.1.1 in
    (fields.0 (other_field_trees others) more.0, more.1)
decl-formed (AFunc pu w o d n m l fs r t x vs y) rest a =
    let tail : List Token = token kinds.OpenCurly x ∷ vars_before vs (token kinds.CloseCurly y ∷ rest) in
    let behind : List Token = token kinds.CloseRound r ∷ type_part_before t tail in
    let b = public-passed pu (token kinds.Func w ∷ name_token o ∷ token kinds.Dot d ∷ name_token n ∷ mark_part_before m (token kinds.OpenRound l ∷ fields_before fs behind)) a in
    let opened = mark-part-passed m (token kinds.OpenRound l ∷ fields_before fs behind) b.1.1.1.1 in
    let args = fields-formed fs behind opened.1 in
    let result = type-part-formed t tail args.1.1 in
    let body = vars-formed vs y rest result.1.1 in
    let inner = and-true (formed_result (type_part_tree t)) (formed_block (vars_tree vs y)) result.0 body.0 in
    (and-true (formed_fields (field_trees fs no_field)) (formed_result (type_part_tree t) && formed_block (vars_tree vs y)) (args.0 no_field refl) inner, body.1)

pub forms_are_well_formed : FormsAreWellFormed
forms_are_well_formed form a = let formed = decl-formed form [] a in formed.0

pub file-formed : (f : FileForm) → AreFormed (file_before f []) → list_all well_formed (file_trees f) ≡ true
file-formed NoDecl a = refl
file-formed (ADecl d p more) a =
    let first = decl-formed d (token kinds.Semicolon p ∷ file_before more []) a in
    and-true (well_formed (decl_tree d)) (list_all well_formed (file_trees more)) first.0 (file-formed more first.1.1)
