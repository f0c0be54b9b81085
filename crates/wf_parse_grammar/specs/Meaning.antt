-- The trees that the forms of the grammar mean.
use Rattle.std.specs.Prelude.{Bool, true, false, Option, None, Some, List, [], ◌∷◌}
use Rattle.wf_text.specs.declared.place.Place.{Place}
use Rattle.wf_ast.specs.declared.operators.Op.{Op}
use Rattle.wf_ast.specs.declared.parsed.Name.{Name}
use Rattle.wf_ast.specs.declared.parsed.Path.{Path}
use Rattle.wf_ast.specs.declared.parsed.Receiver.{Receiver}
use Rattle.wf_ast.specs.declared.parsed.Receiver.TheVariants as receivers
use Rattle.wf_ast.specs.declared.parsed.Root.TheVariants as roots
use Rattle.wf_ast.specs.declared.parsed.WrittenMark.{WrittenMark}
use Rattle.wf_ast.specs.declared.parsed.WrittenMark.TheVariants as marks
use Rattle.wf_ast.specs.ParsedTree as tree
use Rattle.wf_ast.specs.ParsedTree.{ExprTree, PartTree, LinkTrees, GivenTrees, CallTree, TypeTree, BoundsTree, TargetTree, ClauseTrees, ViaTree, StmtTree, BlockTree, ArmTrees, FieldTrees, ResultTree, DeclTree}
use Rattle.wf_parse_grammar.specs.Grammar.{PathForm, BarePath, ThisPath, ArgsPath, OnForm, OnThis, OnPath, MarkForm, Exclaims, Asks, MarkPart, NoMark, AMark}
use Rattle.wf_parse_grammar.specs.Grammar.{ExprForm, Alone, Pair, Chained, Converted, LinksForm, NoLink, Link, OperandForm, Plain, Negated}
use Rattle.wf_parse_grammar.specs.Grammar.{AtomForm, ANumber, AText, ABaseText, AnOk, ATrue, AFalse, APath, Grouped, Indexed, Sliced, Called, PartForm, NoPart, APart}
use Rattle.wf_parse_grammar.specs.Grammar.{GivensForm, NoGiven, FirstGiven, MoreGivensForm, LastGiven, GivenComma, NextGiven, TypeForm, BaseType, StatusType, SliceType, ArrayType, StructType, BoundsForm, NoBounds, Bounds}
use Rattle.wf_parse_grammar.specs.Grammar.{TargetForm, ToPath, ToElement, SignForm, Becomes, Updates, CallForm, MarkedCall, LabelPart, NoLabel, ALabel, ResultForm, NoResult, NothingResult, AResult, ViaForm, NoVia, AVia, ClausesForm, NoClause, ClauseComma, NextClause, VarForm, AVar}
use Rattle.wf_parse_grammar.specs.Grammar.{StmtForm, Assignment, Keeping, Calling, Branching, Looping, Labelled, Breaking, Continuing, Returning, Yielding, Asserting, ElseForm, NoElse, ElseIf, Else, BlockForm, ABlock, ItemsForm, NoItem, FirstItem, MoreItemsForm, LastItem, ItemSemicolon, NextItem}
use Rattle.wf_parse_grammar.specs.Grammar.{VarsForm, NoVars, FirstVar, FirstStmt, MoreVarsForm, LastVar, VarSemicolon, NextVar, ThenStmt, FieldsForm, NoField, FirstField, MoreFieldsForm, LastField, FieldComma, NextField, OtherFieldsForm, NoOtherFields, OtherFields, TypePart, NoType, AType, PublicForm, IsPub, IsPri, DeclForm, AStatus, AConst, AStruct, AFunc, FileForm, NoDecl, ADecl}

abbrev pub path_tree : PathForm → Path
path_tree (BarePath n) = record { root = roots.Bare; name = n; at = n.at }
path_tree (ThisPath p d n) = record { root = roots.This; name = n; at = p }
path_tree (ArgsPath p d n) = record { root = roots.Args; name = n; at = p }

abbrev pub on_tree : OnForm → Receiver
on_tree (OnThis p) = receivers.This p
on_tree (OnPath path) = receivers.Path (path_tree path)

abbrev pub mark_tree : MarkForm → WrittenMark
mark_tree (Exclaims p) = marks.Exclamation
mark_tree (Asks p) = marks.Question

abbrev pub mark_part_tree : MarkPart → WrittenMark
mark_part_tree NoMark = marks.Unmarked
mark_part_tree (AMark m) = mark_tree m

abbrev mutual
  pub expr_tree : ExprForm → ExprTree
  expr_tree (Alone a) = operand_tree a
  expr_tree (Pair a op p b) = tree.chain op (operand_tree a) (tree.link p (operand_tree b) tree.no_link) p
  expr_tree (Chained a op p b ls) = tree.chain op (operand_tree a) (tree.link p (operand_tree b) (link_trees ls)) p
  expr_tree (Converted a p t) = tree.convert (operand_tree a) (type_tree t) p

  pub link_trees : LinksForm → LinkTrees
  link_trees NoLink = tree.no_link
  link_trees (Link p a ls) = tree.link p (operand_tree a) (link_trees ls)

  pub operand_tree : OperandForm → ExprTree
  operand_tree (Plain a) = atom_tree a
  operand_tree (Negated p a) = tree.negation (atom_tree a) p

  pub atom_tree : AtomForm → ExprTree
  atom_tree (ANumber n p) = tree.number n p
  atom_tree (AText n) = tree.own_status n
  atom_tree (ABaseText p d n) = tree.base_status n p
  atom_tree (AnOk p) = tree.fine p
  atom_tree (ATrue p) = tree.truth true p
  atom_tree (AFalse p) = tree.truth false p
  atom_tree (APath path) = tree.path (path_tree path)
  atom_tree (Grouped l e r) = expr_tree e
  atom_tree (Indexed path l e r) = tree.index (path_tree path) (expr_tree e) l
  atom_tree (Sliced path l i d j r) = tree.slice (path_tree path) (part_tree i) (part_tree j) l
  atom_tree (Called on d n m l gs r) = tree.answer (tree.call (on_tree on) n (mark_part_tree m) (given_trees gs))

  pub part_tree : PartForm → PartTree
  part_tree NoPart = tree.absent
  part_tree (APart e) = tree.present (expr_tree e)

  pub given_trees : GivensForm → GivenTrees
  given_trees NoGiven = tree.no_given
  given_trees (FirstGiven n c e more) = tree.more_given n (expr_tree e) (more_given_trees more)

  pub more_given_trees : MoreGivensForm → GivenTrees
  more_given_trees LastGiven = tree.no_given
  more_given_trees (GivenComma p) = tree.no_given
  more_given_trees (NextGiven p n c e more) = tree.more_given n (expr_tree e) (more_given_trees more)

  pub type_tree : TypeForm → TypeTree
  type_tree (BaseType p d n b) = tree.base_type n p (bounds_tree b)
  type_tree (StatusType p d w b) = tree.status_type p (bounds_tree b)
  type_tree (SliceType p t) = tree.slice_of p (type_tree t)
  type_tree (ArrayType p l e r t) = tree.array_of (expr_tree e) p (type_tree t)
  type_tree (StructType n) = tree.struct_type n

  pub bounds_tree : BoundsForm → BoundsTree
  bounds_tree NoBounds = tree.unrefined
  bounds_tree (Bounds l low d high r) = tree.refined (part_tree low) (expr_tree high)

abbrev pub target_tree : TargetForm → TargetTree
target_tree (ToPath path) = tree.to_path (path_tree path)
target_tree (ToElement path l e r) = tree.to_element (path_tree path) (expr_tree e) l

-- the first token of a path, a target, a call
abbrev pub target_start : TargetForm → Place
target_start (ToPath path) = (path_tree path).at
target_start (ToElement path l e r) = (path_tree path).at

abbrev pub on_start : OnForm → Place
on_start (OnThis p) = p
on_start (OnPath path) = (path_tree path).at

abbrev pub call_start : CallForm → Place
call_start (MarkedCall on d n m l gs r) = on_start on

abbrev pub sign_op : SignForm → Option Op
sign_op (Becomes p) = None
sign_op (Updates op p) = Some op

abbrev pub sign_place : SignForm → Place
sign_place (Becomes p) = p
sign_place (Updates op p) = p

abbrev pub call_tree : CallForm → CallTree
call_tree (MarkedCall on d n m l gs r) = tree.call (on_tree on) n (mark_tree m) (given_trees gs)

abbrev pub label_tree : LabelPart → Option Name
label_tree NoLabel = None
label_tree (ALabel d n) = Some n

abbrev pub result_tree : ResultForm → PartTree
result_tree NoResult = tree.absent
result_tree (NothingResult p) = tree.absent
result_tree (AResult e) = tree.present (expr_tree e)

abbrev pub via_tree : ViaForm → ViaTree
via_tree NoVia = tree.by_itself
via_tree (AVia p n l gs r) = tree.via n (given_trees gs)

abbrev pub clause_trees : ClausesForm → ClauseTrees
clause_trees NoClause = tree.no_clause
clause_trees (ClauseComma p) = tree.no_clause
clause_trees (NextClause p c w e more) = tree.more_clauses c (expr_tree e) w (clause_trees more)

abbrev pub var_tree : VarForm → StmtTree
var_tree (AVar p n c t) = tree.var n (type_tree t) p

abbrev mutual
  pub stmt_tree : StmtForm → StmtTree
  stmt_tree (Assignment t s e) = tree.assign (target_tree t) (sign_op s) (sign_place s) (expr_tree e) (target_start t)
  stmt_tree (Keeping t p c) = tree.keep (target_tree t) (call_tree c) (target_start t)
  stmt_tree (Calling c) = tree.do_call (call_tree c) (call_start c)
  stmt_tree (Branching p e b o) = tree.branch (tree.arm (expr_tree e) (block_tree b) (else_trees o)) p
  stmt_tree (Looping p e cs b o) = tree.loop None (expr_tree e) (clause_trees cs) (block_tree b) p
  stmt_tree (Labelled p d n e cs b w x y) = tree.loop (Some n) (expr_tree e) (clause_trees cs) (block_tree b) p
  stmt_tree (Breaking p l) = tree.leave (label_tree l) p
  stmt_tree (Continuing p l) = tree.again (label_tree l) p
  stmt_tree (Returning p r) = tree.back (result_tree r) p
  stmt_tree (Yielding p q e) = tree.suspend (expr_tree e) p
  stmt_tree (Asserting p e v) = tree.claim (expr_tree e) (via_tree v) p

  pub else_trees : ElseForm → ArmTrees
  else_trees NoElse = tree.no_else
  else_trees (ElseIf p q e b o) = tree.arm (expr_tree e) (block_tree b) (else_trees o)
  else_trees (Else p b) = tree.otherwise (block_tree b)

  pub block_tree : BlockForm → BlockTree
  block_tree (ABlock l items r) = items_tree items r

  pub items_tree : ItemsForm → Place → BlockTree
  items_tree NoItem r = tree.close r
  items_tree (FirstItem s more) r = tree.more_stmts (stmt_tree s) (more_items_tree more r)

  pub more_items_tree : MoreItemsForm → Place → BlockTree
  more_items_tree LastItem r = tree.close r
  more_items_tree (ItemSemicolon p) r = tree.close r
  more_items_tree (NextItem p s more) r = tree.more_stmts (stmt_tree s) (more_items_tree more r)

abbrev pub more_vars_tree : MoreVarsForm → Place → BlockTree
more_vars_tree LastVar r = tree.close r
more_vars_tree (VarSemicolon p) r = tree.close r
more_vars_tree (NextVar p v more) r = tree.more_stmts (var_tree v) (more_vars_tree more r)
more_vars_tree (ThenStmt p s more) r = tree.more_stmts (stmt_tree s) (more_items_tree more r)

abbrev pub vars_tree : VarsForm → Place → BlockTree
vars_tree NoVars r = tree.close r
vars_tree (FirstVar v more) r = tree.more_stmts (var_tree v) (more_vars_tree more r)
vars_tree (FirstStmt s more) r = tree.more_stmts (stmt_tree s) (more_items_tree more r)

-- the fields of a list before those of another
abbrev pub more_field_trees : MoreFieldsForm → FieldTrees → FieldTrees
more_field_trees LastField behind = behind
more_field_trees (FieldComma p) behind = behind
more_field_trees (NextField p n c t more) behind = tree.more_fields n (type_tree t) (more_field_trees more behind)

abbrev pub field_trees : FieldsForm → FieldTrees → FieldTrees
field_trees NoField behind = behind
field_trees (FirstField n c t more) behind = tree.more_fields n (type_tree t) (more_field_trees more behind)

abbrev pub other_field_trees : OtherFieldsForm → FieldTrees
other_field_trees NoOtherFields = tree.no_field
other_field_trees (OtherFields p l fs r) = field_trees fs tree.no_field

abbrev pub type_part_tree : TypePart → ResultTree
type_part_tree NoType = tree.gives_nothing
type_part_tree (AType t) = tree.gives (type_tree t)

abbrev pub is_public : PublicForm → Bool
is_public (IsPub p) = true
is_public (IsPri p) = false

abbrev pub decl_tree : DeclForm → DeclTree
decl_tree (AStatus pu w n) = tree.status (is_public pu) n w
decl_tree (AConst pu w n c t q e) = tree.constant (is_public pu) n (type_tree t) (expr_tree e) w
decl_tree (AStruct pu w n m l fs r others) = tree.structure (is_public pu) n (mark_part_tree m) (field_trees fs (other_field_trees others)) w
decl_tree (AFunc pu w o d n m l fs r t x vs y) = tree.method (is_public pu) o n (mark_part_tree m) (field_trees fs tree.no_field) (type_part_tree t) (vars_tree vs y) w

abbrev pub file_trees : FileForm → List DeclTree
file_trees NoDecl = []
file_trees (ADecl d p more) = decl_tree d ∷ file_trees more
