-- What stands in a region: a tree all of whose names and places lie there. A region is whatever may hold of a place,
-- as that it lies in one file.
use Rattle.std.specs.Prelude.{◌≡◌, ℕ, ⊤, Option, None, Some}
use Rattle.wf_text.specs.declared.place.Place.{Place}
use Rattle.wf_ast.specs.declared.parsed.Name.{Name}
use Rattle.wf_ast.specs.declared.parsed.Path.{Path}
use Rattle.wf_ast.specs.declared.parsed.Receiver.{Receiver}
use Rattle.wf_ast.specs.declared.parsed.Receiver.TheVariants as receivers
use Rattle.wf_ast.specs.ParsedTree as tree
use Rattle.wf_ast.specs.ParsedTree.{ExprTree, PartTree, LinkTrees, GivenTrees, CallTree, TypeTree, BoundsTree, TargetTree, ClauseTrees, ViaTree, StmtTree, BlockTree, ArmTrees, FieldTrees, ResultTree, DeclTree}

abbrev pub NameIsIn : (Place → Type 0) → Name → Type 0
NameIsIn In name = In name.at

abbrev pub PathIsIn : (Place → Type 0) → Path → Type 0
PathIsIn In path = NameIsIn In path.name × In path.at

abbrev pub ReceiverIsIn : (Place → Type 0) → Receiver → Type 0
ReceiverIsIn In (receivers.This at) = In at
ReceiverIsIn In (receivers.Path path) = PathIsIn In path

abbrev mutual
  pub ExprIsIn : (Place → Type 0) → ExprTree → Type 0
  ExprIsIn In (tree.number value at) = In at
  ExprIsIn In (tree.own_status text) = NameIsIn In text
  ExprIsIn In (tree.base_status text at) = NameIsIn In text × In at
  ExprIsIn In (tree.fine at) = In at
  ExprIsIn In (tree.truth value at) = In at
  ExprIsIn In (tree.path path) = PathIsIn In path
  ExprIsIn In (tree.index base place at) = PathIsIn In base × ExprIsIn In place × In at
  ExprIsIn In (tree.slice base from to at) = PathIsIn In base × PartIsIn In from × PartIsIn In to × In at
  ExprIsIn In (tree.answer c) = CallIsIn In c
  ExprIsIn In (tree.chain op first links at) = ExprIsIn In first × LinksAreIn In links × In at
  ExprIsIn In (tree.convert of to at) = ExprIsIn In of × TypeIsIn In to × In at
  ExprIsIn In (tree.negation of at) = ExprIsIn In of × In at

  pub PartIsIn : (Place → Type 0) → PartTree → Type 0
  PartIsIn In tree.absent = ⊤
  PartIsIn In (tree.present part) = ExprIsIn In part

  pub LinksAreIn : (Place → Type 0) → LinkTrees → Type 0
  LinksAreIn In tree.no_link = ⊤
  LinksAreIn In (tree.link sign operand others) = In sign × ExprIsIn In operand × LinksAreIn In others

  pub GivenAreIn : (Place → Type 0) → GivenTrees → Type 0
  GivenAreIn In tree.no_given = ⊤
  GivenAreIn In (tree.more_given name value others) = NameIsIn In name × ExprIsIn In value × GivenAreIn In others

  pub CallIsIn : (Place → Type 0) → CallTree → Type 0
  CallIsIn In (tree.call on name mark args) = ReceiverIsIn In on × NameIsIn In name × GivenAreIn In args

  pub TypeIsIn : (Place → Type 0) → TypeTree → Type 0
  TypeIsIn In (tree.slice_of at element) = In at × TypeIsIn In element
  TypeIsIn In (tree.array_of length at element) = ExprIsIn In length × In at × TypeIsIn In element
  TypeIsIn In (tree.base_type name at bounds) = NameIsIn In name × In at × BoundsAreIn In bounds
  TypeIsIn In (tree.status_type at bounds) = In at × BoundsAreIn In bounds
  TypeIsIn In (tree.struct_type name) = NameIsIn In name

  pub BoundsAreIn : (Place → Type 0) → BoundsTree → Type 0
  BoundsAreIn In tree.unrefined = ⊤
  BoundsAreIn In (tree.refined low high) = PartIsIn In low × ExprIsIn In high

abbrev pub TargetIsIn : (Place → Type 0) → TargetTree → Type 0
TargetIsIn In (tree.to_path path) = PathIsIn In path
TargetIsIn In (tree.to_element base place at) = PathIsIn In base × ExprIsIn In place × In at

abbrev pub ClausesAreIn : (Place → Type 0) → ClauseTrees → Type 0
ClausesAreIn In tree.no_clause = ⊤
ClausesAreIn In (tree.more_clauses kind condition at others) = ExprIsIn In condition × In at × ClausesAreIn In others

abbrev pub ViaIsIn : (Place → Type 0) → ViaTree → Type 0
ViaIsIn In tree.by_itself = ⊤
ViaIsIn In (tree.via axiom_name given) = NameIsIn In axiom_name × GivenAreIn In given

-- The label of a loop or a jump, if it has one.
abbrev pub LabelIsIn : (Place → Type 0) → Option Name → Type 0
LabelIsIn In None = ⊤
LabelIsIn In (Some label) = NameIsIn In label

abbrev mutual
  pub StmtIsIn : (Place → Type 0) → StmtTree → Type 0
  StmtIsIn In (tree.var name of at) = NameIsIn In name × TypeIsIn In of × In at
  StmtIsIn In (tree.assign target op sign value at) = TargetIsIn In target × In sign × ExprIsIn In value × In at
  StmtIsIn In (tree.keep target c at) = TargetIsIn In target × CallIsIn In c × In at
  StmtIsIn In (tree.do_call c at) = CallIsIn In c × In at
  StmtIsIn In (tree.branch arms at) = ArmsAreIn In arms × In at
  StmtIsIn In (tree.loop label condition clauses body at) = LabelIsIn In label × ExprIsIn In condition × ClausesAreIn In clauses × BlockIsIn In body × In at
  StmtIsIn In (tree.leave label at) = LabelIsIn In label × In at
  StmtIsIn In (tree.again label at) = LabelIsIn In label × In at
  StmtIsIn In (tree.back value at) = PartIsIn In value × In at
  StmtIsIn In (tree.suspend value at) = ExprIsIn In value × In at
  StmtIsIn In (tree.claim goal axiom_named at) = ExprIsIn In goal × ViaIsIn In axiom_named × In at

  pub BlockIsIn : (Place → Type 0) → BlockTree → Type 0
  BlockIsIn In (tree.close at) = In at
  BlockIsIn In (tree.more_stmts first others) = StmtIsIn In first × BlockIsIn In others

  pub ArmsAreIn : (Place → Type 0) → ArmTrees → Type 0
  ArmsAreIn In tree.no_else = ⊤
  ArmsAreIn In (tree.otherwise body) = BlockIsIn In body
  ArmsAreIn In (tree.arm condition body others) = ExprIsIn In condition × BlockIsIn In body × ArmsAreIn In others

abbrev pub FieldsAreIn : (Place → Type 0) → FieldTrees → Type 0
FieldsAreIn In tree.no_field = ⊤
FieldsAreIn In (tree.more_fields name of others) = NameIsIn In name × TypeIsIn In of × FieldsAreIn In others

abbrev pub ResultIsIn : (Place → Type 0) → ResultTree → Type 0
ResultIsIn In tree.gives_nothing = ⊤
ResultIsIn In (tree.gives of) = TypeIsIn In of

abbrev pub DeclIsIn : (Place → Type 0) → DeclTree → Type 0
DeclIsIn In (tree.status public text at) = NameIsIn In text × In at
DeclIsIn In (tree.constant public name of value at) = NameIsIn In name × TypeIsIn In of × ExprIsIn In value × In at
DeclIsIn In (tree.structure public name mark fields at) = NameIsIn In name × FieldsAreIn In fields × In at
DeclIsIn In (tree.method public owner name mark args result body at) =
    NameIsIn In owner × NameIsIn In name × FieldsAreIn In args × ResultIsIn In result × BlockIsIn In body × In at

-- Every name and place of a declaration has this file's number.
abbrev pub AreIn : (file : ℕ) → DeclTree → Type 0
AreIn file decl = DeclIsIn (λ at. at.file ≡ file) decl
