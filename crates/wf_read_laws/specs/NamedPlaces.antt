-- What stands in a region, of resolved trees: a tree all of whose places lie there. A region is whatever may hold of a
-- place, as that it lies in one file.
use Rattle.std.specs.Prelude.{⊤, List, Option, None, Some}
use Rattle.std.specs.List.{AllByRecursion}
use Rattle.wf_text.specs.declared.place.Place.{Place}
use Rattle.wf_named.specs.declared.nodes.NamedCallee.{NamedCallee}
use Rattle.wf_named.specs.declared.nodes.NamedCallee.TheVariants as callees
use Rattle.wf_named.specs.declared.nodes.NamedPath.{NamedPath}
use Rattle.wf_named.specs.NamedTree as tree
use Rattle.wf_named.specs.NamedTree.{NamedExprTree, NamedPartTree, NamedLinkTrees, NamedArgTrees, NamedCallTree, NamedTypeTree, NamedBoundsTree, NamedTargetTree, NamedClauseTrees, Word, LetterTrees, NamedViaTree, NamedStmtTree, NamedBlockTree, NamedArmTrees, VarTree, ConstTree, NamedStructTree, NamedMethodTree, NamedPackageTree}

abbrev pub WordIsIn : (Place → Type 0) → Word → Type 0
WordIsIn In word = In word.at

abbrev pub PathIsIn : (Place → Type 0) → NamedPath → Type 0
PathIsIn In path = In path.at

abbrev pub CalleeIsIn : (Place → Type 0) → NamedCallee → Type 0
CalleeIsIn In (callees.Own m) = ⊤
CalleeIsIn In (callees.Sub x m) = ⊤
CalleeIsIn In (callees.Base on sig) = PathIsIn In on

abbrev mutual
  pub ExprIsIn : (Place → Type 0) → NamedExprTree → Type 0
  ExprIsIn In (tree.number value at) = In at
  ExprIsIn In (tree.status number at) = In at
  ExprIsIn In (tree.truth value at) = In at
  ExprIsIn In (tree.path path) = PathIsIn In path
  ExprIsIn In (tree.index base place at) = PathIsIn In base × ExprIsIn In place × In at
  ExprIsIn In (tree.slice base from to at) = PathIsIn In base × EndIsIn In from × EndIsIn In to × In at
  ExprIsIn In (tree.answer c) = CallIsIn In c
  ExprIsIn In (tree.chain op first links at) = ExprIsIn In first × LinksAreIn In links × In at
  ExprIsIn In (tree.convert of to at) = ExprIsIn In of × TypeIsIn In to × In at
  ExprIsIn In (tree.negation of at) = ExprIsIn In of × In at

  pub EndIsIn : (Place → Type 0) → NamedPartTree → Type 0
  EndIsIn In tree.absent = ⊤
  EndIsIn In (tree.present part) = ExprIsIn In part

  pub LinksAreIn : (Place → Type 0) → NamedLinkTrees → Type 0
  LinksAreIn In tree.no_link = ⊤
  LinksAreIn In (tree.link sign operand others) = In sign × ExprIsIn In operand × LinksAreIn In others

  pub ArgsAreIn : (Place → Type 0) → NamedArgTrees → Type 0
  ArgsAreIn In tree.no_arg = ⊤
  ArgsAreIn In (tree.more_args value others) = ExprIsIn In value × ArgsAreIn In others

  pub CallIsIn : (Place → Type 0) → NamedCallTree → Type 0
  CallIsIn In (tree.call callee at mark args) = CalleeIsIn In callee × In at × ArgsAreIn In args

  pub TypeIsIn : (Place → Type 0) → NamedTypeTree → Type 0
  TypeIsIn In (tree.slice_of at element) = In at × TypeIsIn In element
  TypeIsIn In (tree.array_of length at element) = ExprIsIn In length × In at × TypeIsIn In element
  TypeIsIn In (tree.base_type of at bounds) = In at × BoundsAreIn In bounds
  TypeIsIn In (tree.struct_type number at) = In at

  pub BoundsAreIn : (Place → Type 0) → NamedBoundsTree → Type 0
  BoundsAreIn In tree.unrefined = ⊤
  BoundsAreIn In (tree.refined low high) = EndIsIn In low × ExprIsIn In high

abbrev pub TargetIsIn : (Place → Type 0) → NamedTargetTree → Type 0
TargetIsIn In (tree.to_path path) = PathIsIn In path
TargetIsIn In (tree.to_element base place at) = PathIsIn In base × ExprIsIn In place × In at

abbrev pub ClausesAreIn : (Place → Type 0) → NamedClauseTrees → Type 0
ClausesAreIn In tree.no_clause = ⊤
ClausesAreIn In (tree.more_clauses kind condition at others) = ExprIsIn In condition × In at × ClausesAreIn In others

abbrev pub LettersAreIn : (Place → Type 0) → LetterTrees → Type 0
LettersAreIn In tree.no_letter = ⊤
LettersAreIn In (tree.more_letters letter value others) = WordIsIn In letter × ExprIsIn In value × LettersAreIn In others

abbrev pub ViaIsIn : (Place → Type 0) → NamedViaTree → Type 0
ViaIsIn In tree.by_itself = ⊤
ViaIsIn In (tree.via axiom_text given) = WordIsIn In axiom_text × LettersAreIn In given

abbrev mutual
  pub StmtIsIn : (Place → Type 0) → NamedStmtTree → Type 0
  StmtIsIn In (tree.assign target op sign value at) = TargetIsIn In target × In sign × ExprIsIn In value × In at
  StmtIsIn In (tree.keep target c at) = TargetIsIn In target × CallIsIn In c × In at
  StmtIsIn In (tree.do_call c at) = CallIsIn In c × In at
  StmtIsIn In (tree.branch arms at) = ArmsAreIn In arms × In at
  StmtIsIn In (tree.loop condition clauses body at) = ExprIsIn In condition × ClausesAreIn In clauses × BlockIsIn In body × In at
  StmtIsIn In (tree.leave outwards at) = In at
  StmtIsIn In (tree.again outwards at) = In at
  StmtIsIn In (tree.back value at) = EndIsIn In value × In at
  StmtIsIn In (tree.suspend value at) = ExprIsIn In value × In at
  StmtIsIn In (tree.claim goal axiom_named at) = ExprIsIn In goal × ViaIsIn In axiom_named × In at

  pub BlockIsIn : (Place → Type 0) → NamedBlockTree → Type 0
  BlockIsIn In (tree.close at) = In at
  BlockIsIn In (tree.more_stmts first others) = StmtIsIn In first × BlockIsIn In others

  pub ArmsAreIn : (Place → Type 0) → NamedArmTrees → Type 0
  ArmsAreIn In tree.no_else = ⊤
  ArmsAreIn In (tree.otherwise body) = BlockIsIn In body
  ArmsAreIn In (tree.arm condition body others) = ExprIsIn In condition × BlockIsIn In body × ArmsAreIn In others

abbrev pub VariableIsIn : (Place → Type 0) → VarTree → Type 0
VariableIsIn In x = WordIsIn In x.name × TypeIsIn In x.of

abbrev pub VariablesAreIn : (Place → Type 0) → List VarTree → Type 0
VariablesAreIn In xs = AllByRecursion (VariableIsIn In) xs

abbrev pub ConstantIsIn : (Place → Type 0) → ConstTree → Type 0
ConstantIsIn In c = WordIsIn In c.name × TypeIsIn In c.of × ExprIsIn In c.value

abbrev pub StructIsIn : (Place → Type 0) → NamedStructTree → Type 0
StructIsIn In s = WordIsIn In s.name × VariablesAreIn In s.fields

-- The written result, if there is one.
abbrev pub ResultIsIn : (Place → Type 0) → Option NamedTypeTree → Type 0
ResultIsIn In None = ⊤
ResultIsIn In (Some t) = TypeIsIn In t

abbrev pub MethodIsIn : (Place → Type 0) → NamedMethodTree → Type 0
MethodIsIn In m = WordIsIn In m.name × VariablesAreIn In m.args × VariablesAreIn In m.locals × ResultIsIn In m.gives × BlockIsIn In m.body

pub record PackageIsIn (In : Place → Type 0) (p : NamedPackageTree) : Type 0 where
  pub consts : AllByRecursion (ConstantIsIn In) p.consts
  pub statuses : AllByRecursion (WordIsIn In) p.statuses
  pub structs : AllByRecursion (StructIsIn In) p.structs
  pub methods : AllByRecursion (MethodIsIn In) p.methods
