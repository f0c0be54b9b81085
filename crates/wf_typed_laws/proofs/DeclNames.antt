-- What holds of the names among the tokens of a declaration holds of the names that it declares, and what holds of the texts holds
-- of the status that it declares.
use Rattle.std.proofs.Common.{◌≡◌, ℕ, List, [], ◌∷◌, ◌++◌, refl, sym, subst}
use Rattle.std.specs.Bool.{⊤}
use Rattle.std.specs.List.{AllByRecursion}
use Rattle.wf_text.specs.declared.place.Place.{Place}
use Rattle.wf_ast.specs.ParsedTree.{FieldTrees, DeclTree, no_field, status, constant, structure, method}
use Rattle.wf_parse_grammar.specs.declared.tokens.Kind.TheVariants as kinds
use Rattle.wf_parse_grammar.specs.declared.tokens.Token.{Token}
use Rattle.wf_parse_grammar.specs.Grammar.{token, name_token, text_token, StmtForm, Assignment, Keeping, Calling, Branching, Looping, Labelled, Breaking, Continuing, Returning, Yielding, Asserting, MoreItemsForm, LastItem, ItemSemicolon, NextItem}
use Rattle.wf_parse_grammar.specs.Grammar.{AVar, VarsForm, NoVars, FirstVar, FirstStmt, MoreVarsForm, LastVar, VarSemicolon, NextVar, ThenStmt, FieldsForm, NoField, FirstField, MoreFieldsForm, LastField, FieldComma, NextField, OtherFieldsForm, NoOtherFields, OtherFields, TypePart, NoType, AType, PublicForm, IsPub, IsPri, DeclForm, AStatus, AConst, AStruct, AFunc, FileForm, NoDecl, ADecl}
use Rattle.wf_parse_grammar.specs.Grammar.{mark_part_before, more_vars_before, vars_before, more_fields_before, fields_before, other_fields_before, type_part_before, public_before, decl_before, file_before}
use Rattle.wf_parse_grammar.specs.Meaning.{stmt_tree, more_items_tree, more_vars_tree, vars_tree, more_field_trees, field_trees, other_field_trees, decl_tree, file_trees}
use Rattle.wf_names_rules.specs.Declarations.{Variable, variables, local_of, locals_of}
use Rattle.wf_typed_laws.proofs.TokenNames.{AreGood, mark-passed, type-passed, decl-parted}

-- No statement but `var` declares a local.
none-declared : (s : StmtForm) → local_of (stmt_tree s) ≡ []
none-declared (Assignment t s e) = refl
none-declared (Keeping t p c) = refl
none-declared (Calling c) = refl
none-declared (Branching p e b o) = refl
none-declared (Looping p e cs b o) = refl
none-declared (Labelled p d n e cs b w x y) = refl
none-declared (Breaking p l) = refl
none-declared (Continuing p l) = refl
none-declared (Returning p r) = refl
none-declared (Yielding p q e) = refl
none-declared (Asserting p e v) = refl

none-among : (more : MoreItemsForm) (r : Place) → locals_of (more_items_tree more r) ≡ []
none-among LastItem r = refl
none-among (ItemSemicolon p) r = refl
none-among (NextItem p s more) r = rw (none-declared s, none-among more r) refl

none-from : (s : StmtForm) (more : MoreItemsForm) (r : Place) → local_of (stmt_tree s) ++ locals_of (more_items_tree more r) ≡ []
none-from s more r = rw (none-declared s, none-among more r) refl

abbrev pub VariableIsGood : (ℕ → Type 0) → Variable → Type 0
VariableIsGood Good v = Good v.name.text.0

abbrev pub VariablesAreGood : (ℕ → Type 0) → List Variable → Type 0
VariablesAreGood Good vs = AllByRecursion (VariableIsGood Good) vs

abbrev pub DeclIsGood : (names texts : ℕ → Type 0) → DeclTree → Type 0
DeclIsGood Good Fine (status public text at) = Fine text.text.0
DeclIsGood Good Fine (constant public name of value at) = ⊤
DeclIsGood Good Fine (structure public name mark fields at) = Good name.text.0 × VariablesAreGood Good (variables fields)
DeclIsGood Good Fine (method public owner name mark args result body at) = Good name.text.0 × VariablesAreGood Good (variables args) × VariablesAreGood Good (locals_of body)

module _ (Good Fine : ℕ → Type 0) where
  more-vars-good : (more : MoreVarsForm) (r : Place) (rest : List Token) → AreGood Good Fine (more_vars_before more rest) → VariablesAreGood Good (locals_of (more_vars_tree more r))
  more-vars-good LastVar r rest a = tt
  more-vars-good (VarSemicolon p) r rest a = tt
  more-vars-good (NextVar p (AVar w n c t) more) r rest a =
      (a.1.1.0, more-vars-good more r rest (type-passed Good Fine t (more_vars_before more rest) a.1.1.1.1))
  more-vars-good (ThenStmt p s more) r rest a = subst (VariablesAreGood Good) (sym (none-from s more r)) tt

  vars-good : (vs : VarsForm) (r : Place) (rest : List Token) → AreGood Good Fine (vars_before vs rest) → VariablesAreGood Good (locals_of (vars_tree vs r))
  vars-good NoVars r rest a = tt
  vars-good (FirstVar (AVar w n c t) more) r rest a =
      (a.1.0, more-vars-good more r rest (type-passed Good Fine t (more_vars_before more rest) a.1.1.1))
  vars-good (FirstStmt s more) r rest a = subst (VariablesAreGood Good) (sym (none-from s more r)) tt

  -- The fields of a list, before others, and the tokens that follow.
  abbrev AreGoodBefore : (FieldTrees → FieldTrees) → Type 0
  AreGoodBefore fields = (behind : FieldTrees) → VariablesAreGood Good (variables behind) → VariablesAreGood Good (variables (fields behind))

  more-fields-good : (more : MoreFieldsForm) (rest : List Token) → AreGood Good Fine (more_fields_before more rest) → AreGoodBefore (more_field_trees more) × AreGood Good Fine rest
  more-fields-good LastField rest a = ((λ behind h. h), a)
  more-fields-good (FieldComma p) rest a = ((λ behind h. h), a.1)
  more-fields-good (NextField p n c t more) rest a =
      let others = more-fields-good more rest (type-passed Good Fine t (more_fields_before more rest) a.1.1.1) in
      ((λ behind h. (a.1.0, others.0 behind h)), others.1)

  fields-good : (fs : FieldsForm) (rest : List Token) → AreGood Good Fine (fields_before fs rest) → AreGoodBefore (field_trees fs) × AreGood Good Fine rest
  fields-good NoField rest a = ((λ behind h. h), a)
  fields-good (FirstField n c t more) rest a =
      let others = more-fields-good more rest (type-passed Good Fine t (more_fields_before more rest) a.1.1) in
      ((λ behind h. (a.0, others.0 behind h)), others.1)

  other-fields-good : (o : OtherFieldsForm) (rest : List Token) → AreGood Good Fine (other_fields_before o rest) → VariablesAreGood Good (variables (other_field_trees o))
  other-fields-good NoOtherFields rest a = tt
  other-fields-good (OtherFields p l fs r) rest a =
      let fields = fields-good fs (token kinds.CloseRound r ∷ rest) a.1.1 in
      fields.0 no_field tt

  type-part-passed : (t : TypePart) (rest : List Token) → AreGood Good Fine (type_part_before t rest) → AreGood Good Fine rest
  type-part-passed NoType rest a = a
  type-part-passed (AType t) rest a = type-passed Good Fine t rest a

  public-passed : (p : PublicForm) (rest : List Token) → AreGood Good Fine (public_before p rest) → AreGood Good Fine rest
  public-passed (IsPub p) rest a = a.1
  public-passed (IsPri p) rest a = a.1

  decl-good : (d : DeclForm) → AreGood Good Fine (decl_before d []) → DeclIsGood Good Fine (decl_tree d)
  decl-good (AStatus pu w n) a = (public-passed pu (token kinds.Status w ∷ text_token n ∷ []) a).1.0
  decl-good (AConst pu w n c t q e) a = tt
  decl-good (AStruct pu w n m l fs r others) a =
      let behind : List Token = token kinds.CloseRound r ∷ other_fields_before others [] in
      let b = public-passed pu (token kinds.Struct w ∷ name_token n ∷ mark_part_before m (token kinds.OpenRound l ∷ fields_before fs behind)) a in
      let opened = mark-passed Good Fine m (token kinds.OpenRound l ∷ fields_before fs behind) b.1.1 in
      let fields = fields-good fs behind opened.1 in
      (b.1.0, fields.0 (other_field_trees others) (other-fields-good others [] fields.1.1))
  decl-good (AFunc pu w o d n m l fs r t x vs y) a =
      let tail : List Token = token kinds.OpenCurly x ∷ vars_before vs (token kinds.CloseCurly y ∷ []) in
      let behind : List Token = token kinds.CloseRound r ∷ type_part_before t tail in
      let b = public-passed pu (token kinds.Func w ∷ name_token o ∷ token kinds.Dot d ∷ name_token n ∷ mark_part_before m (token kinds.OpenRound l ∷ fields_before fs behind)) a in
      let opened = mark-passed Good Fine m (token kinds.OpenRound l ∷ fields_before fs behind) b.1.1.1.1 in
      let args = fields-good fs behind opened.1 in
      let body = type-part-passed t tail args.1.1 in
      (b.1.1.1.0, args.0 no_field tt, vars-good vs y (token kinds.CloseCurly y ∷ []) body.1)

  pub file-good : (f : FileForm) → AreGood Good Fine (file_before f []) → AllByRecursion (DeclIsGood Good Fine) (file_trees f)
  file-good NoDecl a = tt
  file-good (ADecl d p more) a =
      let parts = decl-parted Good Fine d (token kinds.Semicolon p ∷ file_before more []) a in
      (decl-good d parts.0, file-good more parts.1.1)
