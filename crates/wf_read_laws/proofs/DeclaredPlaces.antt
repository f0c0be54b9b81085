-- What a package declares stands where its declarations stand.
use Rattle.std.proofs.Common.{ℕ, List, [], ◌∷◌}
use Rattle.std.specs.List.{AllByRecursion}
use Rattle.wf_text.specs.declared.place.Place.{Place}
use Rattle.wf_ast.specs.ParsedTree as tree
use Rattle.wf_ast.specs.ParsedTree.{FieldTrees, StmtTree, BlockTree, DeclTree}
use Rattle.wf_names_rules.specs.Declarations.{Variable, Constant, Structure, Method, Declared, variables, local_of, locals_of, statuses_of, constants_of, structs_of, methods_of, declared}
use Rattle.wf_read_laws.specs.Places.{NameIsIn, ExprIsIn, TypeIsIn, StmtIsIn, BlockIsIn, FieldsAreIn, ResultIsIn, DeclIsIn}
use Rattle.wf_read_laws.proofs.ListLemmas.{all-append}

abbrev pub VariableIsIn : (Place → Type 0) → Variable → Type 0
VariableIsIn In v = NameIsIn In v.name × TypeIsIn In v.of

abbrev pub VariablesAreIn : (Place → Type 0) → List Variable → Type 0
VariablesAreIn In vs = AllByRecursion (VariableIsIn In) vs

abbrev pub ConstantIsIn : (Place → Type 0) → Constant → Type 0
ConstantIsIn In c = NameIsIn In c.name × TypeIsIn In c.of × ExprIsIn In c.value

abbrev pub StructureIsIn : (Place → Type 0) → Structure → Type 0
StructureIsIn In s = NameIsIn In s.name × VariablesAreIn In s.fields

abbrev pub MethodIsIn : (Place → Type 0) → Method → Type 0
MethodIsIn In m = NameIsIn In m.owner × NameIsIn In m.name × VariablesAreIn In m.args × ResultIsIn In m.result × VariablesAreIn In m.locals × BlockIsIn In m.body

pub record DeclaredIsIn (In : Place → Type 0) (d : Declared) : Type 0 where
  pub statuses : AllByRecursion (NameIsIn In) d.statuses
  pub constants : AllByRecursion (ConstantIsIn In) d.constants
  pub structs : AllByRecursion (StructureIsIn In) d.structs
  pub methods : AllByRecursion (MethodIsIn In) d.methods

module _ (In : Place → Type 0) where
  variables-in : (fields : FieldTrees) → FieldsAreIn In fields → VariablesAreIn In (variables fields)
  variables-in tree.no_field h = tt
  variables-in (tree.more_fields name of others) h = ((h.0, h.1), variables-in others h.2)

  local-in : (s : StmtTree) → StmtIsIn In s → VariablesAreIn In (local_of s)
  local-in (tree.var name of at) h = ((h.0, h.1), tt)
  local-in (tree.assign target op sign value at) h = tt
  local-in (tree.keep target c at) h = tt
  local-in (tree.do_call c at) h = tt
  local-in (tree.branch arms at) h = tt
  local-in (tree.loop label condition clauses body at) h = tt
  local-in (tree.leave label at) h = tt
  local-in (tree.again label at) h = tt
  local-in (tree.back value at) h = tt
  local-in (tree.suspend value at) h = tt
  local-in (tree.claim goal axiom_named at) h = tt

  locals-in : (b : BlockTree) → BlockIsIn In b → VariablesAreIn In (locals_of b)
  locals-in (tree.close at) h = tt
  locals-in (tree.more_stmts first others) h = all-append (VariableIsIn In) (local_of first) (locals_of others) (local-in first h.0) (locals-in others h.1)

  statuses-in : (decls : List DeclTree) → AllByRecursion (DeclIsIn In) decls → AllByRecursion (NameIsIn In) (statuses_of decls)
  statuses-in [] a = tt
  statuses-in (tree.status public text at ∷ decls) a = (a.0.0, statuses-in decls a.1)
  statuses-in (tree.constant public name of value at ∷ decls) a = statuses-in decls a.1
  statuses-in (tree.structure public name mark fields at ∷ decls) a = statuses-in decls a.1
  statuses-in (tree.method public owner name mark args result body at ∷ decls) a = statuses-in decls a.1

  constants-in : (decls : List DeclTree) → AllByRecursion (DeclIsIn In) decls → AllByRecursion (ConstantIsIn In) (constants_of decls)
  constants-in [] a = tt
  constants-in (tree.status public text at ∷ decls) a = constants-in decls a.1
  constants-in (tree.constant public name of value at ∷ decls) a = ((a.0.0, a.0.1, a.0.2), constants-in decls a.1)
  constants-in (tree.structure public name mark fields at ∷ decls) a = constants-in decls a.1
  constants-in (tree.method public owner name mark args result body at ∷ decls) a = constants-in decls a.1

  structs-in : (decls : List DeclTree) → AllByRecursion (DeclIsIn In) decls → AllByRecursion (StructureIsIn In) (structs_of decls)
  structs-in [] a = tt
  structs-in (tree.status public text at ∷ decls) a = structs-in decls a.1
  structs-in (tree.constant public name of value at ∷ decls) a = structs-in decls a.1
  structs-in (tree.structure public name mark fields at ∷ decls) a = ((a.0.0, variables-in fields a.0.1), structs-in decls a.1)
  structs-in (tree.method public owner name mark args result body at ∷ decls) a = structs-in decls a.1

  methods-in : (decls : List DeclTree) → AllByRecursion (DeclIsIn In) decls → AllByRecursion (MethodIsIn In) (methods_of decls)
  methods-in [] a = tt
  methods-in (tree.status public text at ∷ decls) a = methods-in decls a.1
  methods-in (tree.constant public name of value at ∷ decls) a = methods-in decls a.1
  methods-in (tree.structure public name mark fields at ∷ decls) a = methods-in decls a.1
  methods-in (tree.method public owner name mark args result body at ∷ decls) a =
      let m = a.0 in
      ((m.0, m.1, variables-in args m.2, m.3, locals-in body m.4, m.4), methods-in decls a.1)

  pub declared-in : (texts : List (List ℕ)) (decls : List DeclTree) → AllByRecursion (DeclIsIn In) decls → DeclaredIsIn In (declared texts decls)
  declared-in texts decls a =
      record { statuses = statuses-in decls a; constants = constants-in decls a; structs = structs-in decls a; methods = methods-in decls a }
