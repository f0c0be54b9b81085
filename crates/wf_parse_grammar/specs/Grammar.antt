-- The grammar: one type for each of its parts, one constructor for each production. Each token of a production
-- that carries no text of its own is written here as its place. `X_before x rest` is the tokens of x before
-- the tokens `rest`.
use Rattle.std.specs.Prelude.{ℕ, List, ◌∷◌}
use Rattle.wf_text.specs.declared.place.Place.{Place}
use Rattle.wf_ast.specs.declared.operators.Op.{Op}
use Rattle.wf_ast.specs.declared.operators.Op.TheVariants as ops
use Rattle.wf_ast.specs.declared.parsed.Clause.{Clause}
use Rattle.wf_ast.specs.declared.parsed.Clause.TheVariants as clauses
use Rattle.wf_ast.specs.declared.parsed.Name.{Name}
use Rattle.wf_parse_grammar.specs.declared.tokens.Kind.{Kind}
use Rattle.wf_parse_grammar.specs.declared.tokens.Kind.TheVariants as kinds
use Rattle.wf_parse_grammar.specs.declared.tokens.Token.{Token}

abbrev pub token : Kind → Place → Token
token kind at = record { kind = kind; at = at }

abbrev pub name_token : Name → Token
name_token n = token (kinds.Name n.text) n.at

abbrev pub text_token : Name → Token
text_token n = token (kinds.Text n.text) n.at

-- path := NAME | "this" "." NAME | "args" "." NAME
pub data PathForm : Type 0 where
  BarePath : Name → PathForm
  ThisPath : (this : Place) → (dot : Place) → Name → PathForm
  ArgsPath : (args : Place) → (dot : Place) → Name → PathForm

-- what a call is made on: path | "this"
pub data OnForm : Type 0 where
  OnThis : (this : Place) → OnForm
  OnPath : PathForm → OnForm

-- mark := "!" | "?"
pub data MarkForm : Type 0 where
  Exclaims : Place → MarkForm
  Asks : Place → MarkForm

-- [ mark ]
pub data MarkPart : Type 0 where
  NoMark : MarkPart
  AMark : MarkForm → MarkPart

mutual
  -- expr := operand | operand binop operand | operand chain operand { same chain operand } | operand "as" type
  pub data ExprForm : Type 0 where
    Alone : (first : OperandForm) → ExprForm
    Pair : (first : OperandForm) → (op : Op) → (sign : Place) → (second : OperandForm) → ExprForm
    Chained : (first : OperandForm) → (op : Op) → (sign : Place) → (second : OperandForm) → (others : LinksForm) → ExprForm
    Converted : (first : OperandForm) → (word : Place) → (to : TypeForm) → ExprForm

  -- { same chain operand }
  pub data LinksForm : Type 0 where
    NoLink : LinksForm
    Link : (sign : Place) → (next : OperandForm) → (others : LinksForm) → LinksForm

  -- operand := [ "not" ] atom
  pub data OperandForm : Type 0 where
    Plain : AtomForm → OperandForm
    Negated : (word : Place) → AtomForm → OperandForm

  -- atom := NUMBER | TEXT | "base" "." TEXT | "ok" | "true" | "false" | path | "(" expr ")" | path "[" expr "]"
  --       | path "[" [ expr ] ".." [ expr ] "]" | (path | "this") "." NAME [ mark ] "(" givens ")"
  pub data AtomForm : Type 0 where
    ANumber : (value : ℕ) → Place → AtomForm
    AText : Name → AtomForm
    ABaseText : (base : Place) → (dot : Place) → Name → AtomForm
    AnOk : Place → AtomForm
    ATrue : Place → AtomForm
    AFalse : Place → AtomForm
    APath : PathForm → AtomForm
    Grouped : (left : Place) → ExprForm → (right : Place) → AtomForm
    Indexed : PathForm → (left : Place) → ExprForm → (right : Place) → AtomForm
    Sliced : PathForm → (left : Place) → PartForm → (dots : Place) → PartForm → (right : Place) → AtomForm
    Called : OnForm → (dot : Place) → Name → MarkPart → (left : Place) → GivensForm → (right : Place) → AtomForm

  -- [ expr ]
  pub data PartForm : Type 0 where
    NoPart : PartForm
    APart : ExprForm → PartForm

  -- givens := [ NAME ":" expr { "," NAME ":" expr } [ "," ] ]
  pub data GivensForm : Type 0 where
    NoGiven : GivensForm
    FirstGiven : Name → (colon : Place) → ExprForm → MoreGivensForm → GivensForm

  pub data MoreGivensForm : Type 0 where
    LastGiven : MoreGivensForm
    GivenComma : (comma : Place) → MoreGivensForm
    NextGiven : (comma : Place) → Name → (colon : Place) → ExprForm → MoreGivensForm → MoreGivensForm

  -- type := "base" "." (NAME | "status") [ "[" [ expr ] "..=" expr "]" ] | "slice" type
  --       | "array" "[" expr "]" type | NAME
  pub data TypeForm : Type 0 where
    BaseType : (base : Place) → (dot : Place) → Name → BoundsForm → TypeForm
    StatusType : (base : Place) → (dot : Place) → (word : Place) → BoundsForm → TypeForm
    SliceType : (word : Place) → TypeForm → TypeForm
    ArrayType : (word : Place) → (left : Place) → ExprForm → (right : Place) → TypeForm → TypeForm
    StructType : Name → TypeForm

  pub data BoundsForm : Type 0 where
    NoBounds : BoundsForm
    Bounds : (left : Place) → PartForm → (dots : Place) → ExprForm → (right : Place) → BoundsForm

-- target := path | path "[" expr "]"
pub data TargetForm : Type 0 where
  ToPath : PathForm → TargetForm
  ToElement : PathForm → (left : Place) → ExprForm → (right : Place) → TargetForm

-- asg := "=" or one of the operators followed by "="
pub data SignForm : Type 0 where
  Becomes : Place → SignForm
  Updates : Op → Place → SignForm

-- call := (path | "this") "." NAME mark "(" givens ")"
pub data CallForm : Type 0 where
  MarkedCall : OnForm → (dot : Place) → Name → MarkForm → (left : Place) → GivensForm → (right : Place) → CallForm

-- [ "." NAME ] after break and continue
pub data LabelPart : Type 0 where
  NoLabel : LabelPart
  ALabel : (dot : Place) → Name → LabelPart

-- [ expr | "nothing" ]
pub data ResultForm : Type 0 where
  NoResult : ResultForm
  NothingResult : Place → ResultForm
  AResult : ExprForm → ResultForm

-- [ "via" TEXT "(" givens ")" ]
pub data ViaForm : Type 0 where
  NoVia : ViaForm
  AVia : (word : Place) → Name → (left : Place) → GivensForm → (right : Place) → ViaForm

-- { "," ("pre" | "inv" | "post") expr } [ "," ]
pub data ClausesForm : Type 0 where
  NoClause : ClausesForm
  ClauseComma : (comma : Place) → ClausesForm
  NextClause : (comma : Place) → Clause → (word : Place) → ExprForm → ClausesForm → ClausesForm

-- [ "endwhile" ] of a loop without a label
pub data EndForm : Type 0 where
  NoEnd : EndForm
  AnEnd : (word : Place) → EndForm

-- "var" NAME ":" type
pub data VarForm : Type 0 where
  AVar : (word : Place) → Name → (colon : Place) → TypeForm → VarForm

mutual
  -- stmt but for "var"; the label after "endwhile" is that of its "while"
  pub data StmtForm : Type 0 where
    Assignment : TargetForm → SignForm → ExprForm → StmtForm
    Keeping : TargetForm → (sign : Place) → CallForm → StmtForm
    Calling : CallForm → StmtForm
    Branching : (word : Place) → ExprForm → BlockForm → ElseForm → StmtForm
    Looping : (word : Place) → ExprForm → ClausesForm → BlockForm → EndForm → StmtForm
    Labelled : (word : Place) → (dot : Place) → (label : Name) → ExprForm → ClausesForm → BlockForm → (end : Place) → (end_dot : Place) → (end_label : Place) → StmtForm
    Breaking : (word : Place) → LabelPart → StmtForm
    Continuing : (word : Place) → LabelPart → StmtForm
    Returning : (word : Place) → ResultForm → StmtForm
    Yielding : (word : Place) → (question : Place) → ExprForm → StmtForm
    Asserting : (word : Place) → ExprForm → ViaForm → StmtForm

  -- { "else" "if" expr block } [ "else" block ]
  pub data ElseForm : Type 0 where
    NoElse : ElseForm
    ElseIf : (word : Place) → (word_if : Place) → ExprForm → BlockForm → ElseForm → ElseForm
    Else : (word : Place) → BlockForm → ElseForm

  -- block := "{" [ stmt { ";" stmt } [ ";" ] ] "}"
  pub data BlockForm : Type 0 where
    ABlock : (left : Place) → ItemsForm → (right : Place) → BlockForm

  pub data ItemsForm : Type 0 where
    NoItem : ItemsForm
    FirstItem : StmtForm → MoreItemsForm → ItemsForm

  pub data MoreItemsForm : Type 0 where
    LastItem : MoreItemsForm
    ItemSemicolon : (semicolon : Place) → MoreItemsForm
    NextItem : (semicolon : Place) → StmtForm → MoreItemsForm → MoreItemsForm

-- the block of a method, in which "var" stands before all other statements
pub data MoreVarsForm : Type 0 where
  LastVar : MoreVarsForm
  VarSemicolon : (semicolon : Place) → MoreVarsForm
  NextVar : (semicolon : Place) → VarForm → MoreVarsForm → MoreVarsForm
  ThenStmt : (semicolon : Place) → StmtForm → MoreItemsForm → MoreVarsForm

pub data VarsForm : Type 0 where
  NoVars : VarsForm
  FirstVar : VarForm → MoreVarsForm → VarsForm
  FirstStmt : StmtForm → MoreItemsForm → VarsForm

-- fields := [ NAME ":" type { "," NAME ":" type } [ "," ] ]
pub data MoreFieldsForm : Type 0 where
  LastField : MoreFieldsForm
  FieldComma : (comma : Place) → MoreFieldsForm
  NextField : (comma : Place) → Name → (colon : Place) → TypeForm → MoreFieldsForm → MoreFieldsForm

pub data FieldsForm : Type 0 where
  NoField : FieldsForm
  FirstField : Name → (colon : Place) → TypeForm → MoreFieldsForm → FieldsForm

-- [ "+" "(" fields ")" ]; the "+" is the operator's token
pub data OtherFieldsForm : Type 0 where
  NoOtherFields : OtherFieldsForm
  OtherFields : (plus : Place) → (left : Place) → FieldsForm → (right : Place) → OtherFieldsForm

-- [ type ]
pub data TypePart : Type 0 where
  NoType : TypePart
  AType : TypeForm → TypePart

-- "pub" | "pri"
pub data PublicForm : Type 0 where
  IsPub : Place → PublicForm
  IsPri : Place → PublicForm

pub data DeclForm : Type 0 where
  AStatus : PublicForm → (word : Place) → Name → DeclForm
  AConst : PublicForm → (word : Place) → Name → (colon : Place) → TypeForm → (equals : Place) → ExprForm → DeclForm
  AStruct : PublicForm → (word : Place) → Name → MarkPart → (left : Place) → FieldsForm → (right : Place) → OtherFieldsForm → DeclForm
  AFunc : PublicForm → (word : Place) → (owner : Name) → (dot : Place) → Name → MarkPart → (left : Place) → FieldsForm → (right : Place) → TypePart → (open_at : Place) → VarsForm → (close_at : Place) → DeclForm

-- file := { decl ";" }
pub data FileForm : Type 0 where
  NoDecl : FileForm
  ADecl : DeclForm → (semicolon : Place) → FileForm → FileForm

-- The tokens of each part, before those that follow.
abbrev pub path_before : PathForm → List Token → List Token
path_before (BarePath n) rest = name_token n ∷ rest
path_before (ThisPath p d n) rest = token kinds.This p ∷ token kinds.Dot d ∷ name_token n ∷ rest
path_before (ArgsPath p d n) rest = token kinds.Args p ∷ token kinds.Dot d ∷ name_token n ∷ rest

abbrev pub on_before : OnForm → List Token → List Token
on_before (OnThis p) rest = token kinds.This p ∷ rest
on_before (OnPath path) rest = path_before path rest

abbrev pub mark_before : MarkForm → List Token → List Token
mark_before (Exclaims p) rest = token kinds.Exclamation p ∷ rest
mark_before (Asks p) rest = token kinds.Question p ∷ rest

abbrev pub mark_part_before : MarkPart → List Token → List Token
mark_part_before NoMark rest = rest
mark_part_before (AMark m) rest = mark_before m rest

abbrev mutual
  pub expr_before : ExprForm → List Token → List Token
  expr_before (Alone a) rest = operand_before a rest
  expr_before (Pair a op p b) rest = operand_before a (token (kinds.Binary op) p ∷ operand_before b rest)
  expr_before (Chained a op p b ls) rest = operand_before a (token (kinds.Chain op) p ∷ operand_before b (links_before ls op rest))
  expr_before (Converted a p t) rest = operand_before a (token kinds.As p ∷ type_before t rest)

  pub links_before : LinksForm → Op → List Token → List Token
  links_before NoLink op rest = rest
  links_before (Link p a ls) op rest = token (kinds.Chain op) p ∷ operand_before a (links_before ls op rest)

  pub operand_before : OperandForm → List Token → List Token
  operand_before (Plain a) rest = atom_before a rest
  operand_before (Negated p a) rest = token kinds.Not p ∷ atom_before a rest

  pub atom_before : AtomForm → List Token → List Token
  atom_before (ANumber n p) rest = token (kinds.Number n) p ∷ rest
  atom_before (AText n) rest = text_token n ∷ rest
  atom_before (ABaseText p d n) rest = token kinds.Base p ∷ token kinds.Dot d ∷ text_token n ∷ rest
  atom_before (AnOk p) rest = token kinds.Ok p ∷ rest
  atom_before (ATrue p) rest = token kinds.True p ∷ rest
  atom_before (AFalse p) rest = token kinds.False p ∷ rest
  atom_before (APath path) rest = path_before path rest
  atom_before (Grouped l e r) rest = token kinds.OpenRound l ∷ expr_before e (token kinds.CloseRound r ∷ rest)
  atom_before (Indexed path l e r) rest = path_before path (token kinds.OpenSquare l ∷ expr_before e (token kinds.CloseSquare r ∷ rest))
  atom_before (Sliced path l i d j r) rest = path_before path (token kinds.OpenSquare l ∷ part_before i (token kinds.Dots d ∷ part_before j (token kinds.CloseSquare r ∷ rest)))
  atom_before (Called on d n m l gs r) rest = on_before on (token kinds.Dot d ∷ name_token n ∷ mark_part_before m (token kinds.OpenRound l ∷ givens_before gs (token kinds.CloseRound r ∷ rest)))

  pub part_before : PartForm → List Token → List Token
  part_before NoPart rest = rest
  part_before (APart e) rest = expr_before e rest

  pub givens_before : GivensForm → List Token → List Token
  givens_before NoGiven rest = rest
  givens_before (FirstGiven n c e more) rest = name_token n ∷ token kinds.Colon c ∷ expr_before e (more_givens_before more rest)

  pub more_givens_before : MoreGivensForm → List Token → List Token
  more_givens_before LastGiven rest = rest
  more_givens_before (GivenComma p) rest = token kinds.Comma p ∷ rest
  more_givens_before (NextGiven p n c e more) rest = token kinds.Comma p ∷ name_token n ∷ token kinds.Colon c ∷ expr_before e (more_givens_before more rest)

  pub type_before : TypeForm → List Token → List Token
  type_before (BaseType p d n b) rest = token kinds.Base p ∷ token kinds.Dot d ∷ name_token n ∷ bounds_before b rest
  type_before (StatusType p d w b) rest = token kinds.Base p ∷ token kinds.Dot d ∷ token kinds.Status w ∷ bounds_before b rest
  type_before (SliceType p t) rest = token kinds.Slice p ∷ type_before t rest
  type_before (ArrayType p l e r t) rest = token kinds.Array p ∷ token kinds.OpenSquare l ∷ expr_before e (token kinds.CloseSquare r ∷ type_before t rest)
  type_before (StructType n) rest = name_token n ∷ rest

  pub bounds_before : BoundsForm → List Token → List Token
  bounds_before NoBounds rest = rest
  bounds_before (Bounds l low d high r) rest = token kinds.OpenSquare l ∷ part_before low (token kinds.DotsEquals d ∷ expr_before high (token kinds.CloseSquare r ∷ rest))

abbrev pub target_before : TargetForm → List Token → List Token
target_before (ToPath path) rest = path_before path rest
target_before (ToElement path l e r) rest = path_before path (token kinds.OpenSquare l ∷ expr_before e (token kinds.CloseSquare r ∷ rest))

abbrev pub sign_before : SignForm → List Token → List Token
sign_before (Becomes p) rest = token kinds.Equals p ∷ rest
sign_before (Updates op p) rest = token (kinds.Update op) p ∷ rest

abbrev pub call_before : CallForm → List Token → List Token
call_before (MarkedCall on d n m l gs r) rest = on_before on (token kinds.Dot d ∷ name_token n ∷ mark_before m (token kinds.OpenRound l ∷ givens_before gs (token kinds.CloseRound r ∷ rest)))

abbrev pub label_before : LabelPart → List Token → List Token
label_before NoLabel rest = rest
label_before (ALabel d n) rest = token kinds.Dot d ∷ name_token n ∷ rest

abbrev pub result_before : ResultForm → List Token → List Token
result_before NoResult rest = rest
result_before (NothingResult p) rest = token kinds.Nothing p ∷ rest
result_before (AResult e) rest = expr_before e rest

abbrev pub via_before : ViaForm → List Token → List Token
via_before NoVia rest = rest
via_before (AVia p n l gs r) rest = token kinds.Via p ∷ text_token n ∷ token kinds.OpenRound l ∷ givens_before gs (token kinds.CloseRound r ∷ rest)

abbrev pub clause_kind : Clause → Kind
clause_kind clauses.Pre = kinds.Pre
clause_kind clauses.Inv = kinds.Inv
clause_kind clauses.Post = kinds.Post

abbrev pub clauses_before : ClausesForm → List Token → List Token
clauses_before NoClause rest = rest
clauses_before (ClauseComma p) rest = token kinds.Comma p ∷ rest
clauses_before (NextClause p c w e more) rest = token kinds.Comma p ∷ token (clause_kind c) w ∷ expr_before e (clauses_before more rest)

abbrev pub end_before : EndForm → List Token → List Token
end_before NoEnd rest = rest
end_before (AnEnd p) rest = token kinds.Endwhile p ∷ rest

abbrev pub var_before : VarForm → List Token → List Token
var_before (AVar p n c t) rest = token kinds.Var p ∷ name_token n ∷ token kinds.Colon c ∷ type_before t rest

abbrev mutual
  pub stmt_before : StmtForm → List Token → List Token
  stmt_before (Assignment t s e) rest = target_before t (sign_before s (expr_before e rest))
  stmt_before (Keeping t p c) rest = target_before t (token kinds.KeepEquals p ∷ call_before c rest)
  stmt_before (Calling c) rest = call_before c rest
  stmt_before (Branching p e b o) rest = token kinds.If p ∷ expr_before e (block_before b (else_before o rest))
  stmt_before (Looping p e cs b o) rest = token kinds.While p ∷ expr_before e (clauses_before cs (block_before b (end_before o rest)))
  stmt_before (Labelled p d n e cs b w x y) rest = token kinds.While p ∷ token kinds.Dot d ∷ name_token n ∷ expr_before e (clauses_before cs (block_before b (token kinds.Endwhile w ∷ token kinds.Dot x ∷ token (kinds.Name n.text) y ∷ rest)))
  stmt_before (Breaking p l) rest = token kinds.Break p ∷ label_before l rest
  stmt_before (Continuing p l) rest = token kinds.Continue p ∷ label_before l rest
  stmt_before (Returning p r) rest = token kinds.Return p ∷ result_before r rest
  stmt_before (Yielding p q e) rest = token kinds.Yield p ∷ token kinds.Question q ∷ expr_before e rest
  stmt_before (Asserting p e v) rest = token kinds.Assert p ∷ expr_before e (via_before v rest)

  pub else_before : ElseForm → List Token → List Token
  else_before NoElse rest = rest
  else_before (ElseIf p q e b o) rest = token kinds.Else p ∷ token kinds.If q ∷ expr_before e (block_before b (else_before o rest))
  else_before (Else p b) rest = token kinds.Else p ∷ block_before b rest

  pub block_before : BlockForm → List Token → List Token
  block_before (ABlock l items r) rest = token kinds.OpenCurly l ∷ items_before items (token kinds.CloseCurly r ∷ rest)

  pub items_before : ItemsForm → List Token → List Token
  items_before NoItem rest = rest
  items_before (FirstItem s more) rest = stmt_before s (more_items_before more rest)

  pub more_items_before : MoreItemsForm → List Token → List Token
  more_items_before LastItem rest = rest
  more_items_before (ItemSemicolon p) rest = token kinds.Semicolon p ∷ rest
  more_items_before (NextItem p s more) rest = token kinds.Semicolon p ∷ stmt_before s (more_items_before more rest)

abbrev pub more_vars_before : MoreVarsForm → List Token → List Token
more_vars_before LastVar rest = rest
more_vars_before (VarSemicolon p) rest = token kinds.Semicolon p ∷ rest
more_vars_before (NextVar p v more) rest = token kinds.Semicolon p ∷ var_before v (more_vars_before more rest)
more_vars_before (ThenStmt p s more) rest = token kinds.Semicolon p ∷ stmt_before s (more_items_before more rest)

abbrev pub vars_before : VarsForm → List Token → List Token
vars_before NoVars rest = rest
vars_before (FirstVar v more) rest = var_before v (more_vars_before more rest)
vars_before (FirstStmt s more) rest = stmt_before s (more_items_before more rest)

abbrev pub more_fields_before : MoreFieldsForm → List Token → List Token
more_fields_before LastField rest = rest
more_fields_before (FieldComma p) rest = token kinds.Comma p ∷ rest
more_fields_before (NextField p n c t more) rest = token kinds.Comma p ∷ name_token n ∷ token kinds.Colon c ∷ type_before t (more_fields_before more rest)

abbrev pub fields_before : FieldsForm → List Token → List Token
fields_before NoField rest = rest
fields_before (FirstField n c t more) rest = name_token n ∷ token kinds.Colon c ∷ type_before t (more_fields_before more rest)

abbrev pub other_fields_before : OtherFieldsForm → List Token → List Token
other_fields_before NoOtherFields rest = rest
other_fields_before (OtherFields p l fs r) rest = token (kinds.Chain ops.Add) p ∷ token kinds.OpenRound l ∷ fields_before fs (token kinds.CloseRound r ∷ rest)

abbrev pub type_part_before : TypePart → List Token → List Token
type_part_before NoType rest = rest
type_part_before (AType t) rest = type_before t rest

abbrev pub public_before : PublicForm → List Token → List Token
public_before (IsPub p) rest = token kinds.Pub p ∷ rest
public_before (IsPri p) rest = token kinds.Pri p ∷ rest

abbrev pub decl_before : DeclForm → List Token → List Token
decl_before (AStatus pu w n) rest = public_before pu (token kinds.Status w ∷ text_token n ∷ rest)
decl_before (AConst pu w n c t q e) rest = public_before pu (token kinds.Const w ∷ name_token n ∷ token kinds.Colon c ∷ type_before t (token kinds.Equals q ∷ expr_before e rest))
decl_before (AStruct pu w n m l fs r others) rest = public_before pu (token kinds.Struct w ∷ name_token n ∷ mark_part_before m (token kinds.OpenRound l ∷ fields_before fs (token kinds.CloseRound r ∷ other_fields_before others rest)))
decl_before (AFunc pu w o d n m l fs r t x vs y) rest = public_before pu (token kinds.Func w ∷ name_token o ∷ token kinds.Dot d ∷ name_token n ∷ mark_part_before m (token kinds.OpenRound l ∷ fields_before fs (token kinds.CloseRound r ∷ type_part_before t (token kinds.OpenCurly x ∷ vars_before vs (token kinds.CloseCurly y ∷ rest)))))

abbrev pub file_before : FileForm → List Token → List Token
file_before NoDecl rest = rest
file_before (ADecl d p more) rest = decl_before d (token kinds.Semicolon p ∷ file_before more rest)
