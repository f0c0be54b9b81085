-- Where the tokens of a declaration stand, there stand all its names and places.
use Rattle.std.proofs.Common.{◌≡◌, List, [], ◌∷◌, sym, subst}
use Rattle.wf_text.specs.declared.place.Place.{Place}
use Rattle.wf_ast.specs.ParsedTree.{FieldTrees, DeclTree, no_field}
use Rattle.wf_parse_grammar.specs.declared.tokens.Kind.TheVariants as kinds
use Rattle.wf_parse_grammar.specs.declared.tokens.Token.{Token}
use Rattle.wf_parse_grammar.specs.Grammar.{token, name_token, text_token}
use Rattle.wf_parse_grammar.specs.Grammar.{VarsForm, NoVars, FirstVar, FirstStmt, MoreVarsForm, LastVar, VarSemicolon, NextVar, ThenStmt, FieldsForm, NoField, FirstField, MoreFieldsForm, LastField, FieldComma, NextField, OtherFieldsForm, NoOtherFields, OtherFields, TypePart, NoType, AType, PublicForm, IsPub, IsPri, DeclForm, AStatus, AConst, AStruct, AFunc}
use Rattle.wf_parse_grammar.specs.Grammar.{mark_part_before, expr_before, type_before, more_items_before, more_vars_before, vars_before, more_fields_before, fields_before, other_fields_before, type_part_before, public_before, decl_before}
use Rattle.wf_parse_grammar.specs.Meaning.{more_vars_tree, vars_tree, more_field_trees, field_trees, other_field_trees, type_part_tree, decl_tree}
use Rattle.wf_read_laws.specs.Places.{BlockIsIn, FieldsAreIn, ResultIsIn, DeclIsIn, AreIn}
use Rattle.wf_read_laws.specs.PlaceLaws.{DeclsAreInFiles}
use Rattle.wf_read_laws.proofs.ExprPlaces.{TokensAreIn, mark-part-in, expr-in, type-in}
use Rattle.wf_read_laws.proofs.StmtPlaces.{var-in, stmt-in, more-items-in}

module _ (In : Place → Type 0) where
  more-vars-in : (more : MoreVarsForm) (r : Place) (rest : List Token) → TokensAreIn In (more_vars_before more (token kinds.CloseCurly r ∷ rest)) → BlockIsIn In (more_vars_tree more r) × TokensAreIn In rest
  more-vars-in LastVar r rest a = (a.0, a.1)
  more-vars-in (VarSemicolon p) r rest a = (a.1.0, a.1.1)
  more-vars-in (NextVar p v more) r rest a =
      let first = var-in In v (more_vars_before more (token kinds.CloseCurly r ∷ rest)) a.1 in
      let others = more-vars-in more r rest first.1 in
      ((first.0, others.0), others.1)
  more-vars-in (ThenStmt p s more) r rest a =
      let first = stmt-in In s (more_items_before more (token kinds.CloseCurly r ∷ rest)) a.1 in
      let others = more-items-in In more r rest first.1 in
      ((first.0, others.0), others.1)

  vars-in : (vs : VarsForm) (r : Place) (rest : List Token) → TokensAreIn In (vars_before vs (token kinds.CloseCurly r ∷ rest)) → BlockIsIn In (vars_tree vs r) × TokensAreIn In rest
  vars-in NoVars r rest a = (a.0, a.1)
  vars-in (FirstVar v more) r rest a =
      let first = var-in In v (more_vars_before more (token kinds.CloseCurly r ∷ rest)) a in
      let others = more-vars-in more r rest first.1 in
      ((first.0, others.0), others.1)
  vars-in (FirstStmt s more) r rest a =
      let first = stmt-in In s (more_items_before more (token kinds.CloseCurly r ∷ rest)) a in
      let others = more-items-in In more r rest first.1 in
      ((first.0, others.0), others.1)

  -- The fields of a list, before others that stand there.
  more-fields-in : (more : MoreFieldsForm) (rest : List Token) → TokensAreIn In (more_fields_before more rest)
      → ((behind : FieldTrees) → FieldsAreIn In behind → FieldsAreIn In (more_field_trees more behind)) × TokensAreIn In rest
  more-fields-in LastField rest a = ((λ behind h. h), a)
  more-fields-in (FieldComma p) rest a = ((λ behind h. h), a.1)
  more-fields-in (NextField p n c t more) rest a =
      let of = type-in In t (more_fields_before more rest) a.1.1.1 in
      let others = more-fields-in more rest of.1 in
      ((λ behind h. (a.1.0, of.0, others.0 behind h)), others.1)

  fields-in : (fs : FieldsForm) (rest : List Token) → TokensAreIn In (fields_before fs rest)
      → ((behind : FieldTrees) → FieldsAreIn In behind → FieldsAreIn In (field_trees fs behind)) × TokensAreIn In rest
  fields-in NoField rest a = ((λ behind h. h), a)
  fields-in (FirstField n c t more) rest a =
      let of = type-in In t (more_fields_before more rest) a.1.1 in
      let others = more-fields-in more rest of.1 in
      ((λ behind h. (a.0, of.0, others.0 behind h)), others.1)

  other-fields-in : (o : OtherFieldsForm) (rest : List Token) → TokensAreIn In (other_fields_before o rest) → FieldsAreIn In (other_field_trees o) × TokensAreIn In rest
  other-fields-in NoOtherFields rest a = (tt, a)
  other-fields-in (OtherFields p l fs r) rest a =
      let fields = fields-in fs (token kinds.CloseRound r ∷ rest) a.1.1 in
      (fields.0 no_field tt, fields.1.1)

  type-part-in : (t : TypePart) (rest : List Token) → TokensAreIn In (type_part_before t rest) → ResultIsIn In (type_part_tree t) × TokensAreIn In rest
  type-part-in NoType rest a = (tt, a)
  type-part-in (AType t) rest a = type-in In t rest a

  public-in : (p : PublicForm) (rest : List Token) → TokensAreIn In (public_before p rest) → TokensAreIn In rest
  public-in (IsPub p) rest a = a.1
  public-in (IsPri p) rest a = a.1

  pub decl-in : (d : DeclForm) (rest : List Token) → TokensAreIn In (decl_before d rest) → DeclIsIn In (decl_tree d)
  decl-in (AStatus pu w n) rest a =
      let b = public-in pu (token kinds.Status w ∷ text_token n ∷ rest) a in
      (b.1.0, b.0)
  decl-in (AConst pu w n c t q e) rest a =
      let b = public-in pu (token kinds.Const w ∷ name_token n ∷ token kinds.Colon c ∷ type_before t (token kinds.Equals q ∷ expr_before e rest)) a in
      let of = type-in In t (token kinds.Equals q ∷ expr_before e rest) b.1.1.1 in
      let value = expr-in In e rest of.1.1 in
      (b.1.0, of.0, value.0, b.0)
  decl-in (AStruct pu w n m l fs r others) rest a =
      let behind : List Token = token kinds.CloseRound r ∷ other_fields_before others rest in
      let b = public-in pu (token kinds.Struct w ∷ name_token n ∷ mark_part_before m (token kinds.OpenRound l ∷ fields_before fs behind)) a in
      let opened = mark-part-in In m (token kinds.OpenRound l ∷ fields_before fs behind) b.1.1 in
      let fields = fields-in fs behind opened.1 in
      let more = other-fields-in others rest fields.1.1 in
      (b.1.0, fields.0 (other_field_trees others) more.0, b.0)
  decl-in (AFunc pu w o d n m l fs r t x vs y) rest a =
      let tail : List Token = token kinds.OpenCurly x ∷ vars_before vs (token kinds.CloseCurly y ∷ rest) in
      let behind : List Token = token kinds.CloseRound r ∷ type_part_before t tail in
      let b = public-in pu (token kinds.Func w ∷ name_token o ∷ token kinds.Dot d ∷ name_token n ∷ mark_part_before m (token kinds.OpenRound l ∷ fields_before fs behind)) a in
      let opened = mark-part-in In m (token kinds.OpenRound l ∷ fields_before fs behind) b.1.1.1.1 in
      let args = fields-in fs behind opened.1 in
      let result = type-part-in t tail args.1.1 in
      let body = vars-in vs y rest result.1.1 in
      (b.1.0, b.1.1.1.0, args.0 no_field tt, result.0, body.0, b.0)

pub decls_are_in_files : DeclsAreInFiles
decls_are_in_files file decl of =
    let P : DeclTree → Type 0 = AreIn file in
    subst P (sym of.means) (decl-in (λ at. at.file ≡ file) of.form [] of.there)
