-- Which declaration a name means at a place of a package, by its number among those of its kind. Names stand by the numbers of
-- their texts; equal texts of a package that is read have equal numbers.
use Rattle.std.specs.Prelude.{◌≡◌, ℕ, ◌+◌, true, List, Option, Some, slice_get}
use Rattle.wf_base.specs.declared.base_methods.Kind.{Kind}
use Rattle.wf_base.specs.declared.base_methods.BaseSig.{BaseSig}
use Rattle.wf_base.specs.BaseTable.{IsMethod}
use Rattle.wf_ast.specs.declared.parsed.Name.{Name}
use Rattle.wf_ast.specs.declared.parsed.Path.{Path}
use Rattle.wf_ast.specs.declared.parsed.Receiver.{Receiver}
use Rattle.wf_ast.specs.declared.parsed.Receiver.TheVariants as receivers
use Rattle.wf_ast.specs.declared.parsed.Root.{Root}
use Rattle.wf_ast.specs.declared.parsed.Root.TheVariants as roots
use Rattle.wf_ast.specs.ParsedTree.{struct_type}
use Rattle.wf_named.specs.declared.nodes.NamedCallee.{NamedCallee}
use Rattle.wf_named.specs.declared.nodes.NamedCallee.TheVariants as named_callees
use Rattle.wf_named.specs.declared.nodes.NamedPath.{NamedPath}
use Rattle.wf_named.specs.declared.nodes.Variable.{Variable as NamedVariable}
use Rattle.wf_named.specs.declared.nodes.Variable.TheVariants as variables
use Rattle.wf_names_rules.specs.declared.sorts.Sort.TheVariants as sorts
use Rattle.wf_names_rules.specs.Declarations.{Variable, Structure, Method, Declared, text_of}
use Rattle.wf_names_rules.specs.Meanings.{base_status_texts, sort_of}
use Rattle.wf_names_rules.specs.Uses.{Scope}

-- The item with this number is so, and no other is.
pub record IsTheOne {X : Type 0} (P : X → Type 0) (xs : List X) (n : ℕ) (x : X) : Type 0 where
  pub there : slice_get xs n ≡ Some x
  pub fits : P x
  pub only : (i : ℕ) (other : X) → slice_get xs i ≡ Some other → P other → i ≡ n

-- Some item is so.
pub record HasOne {X : Type 0} (P : X → Type 0) (xs : List X) : Type 0 where
  pub n : ℕ
  pub item : X
  pub there : slice_get xs n ≡ Some item
  pub fits : P item

-- No item is so.
abbrev pub HasNone : {X : Type 0} → (X → Type 0) → List X → Type 0
HasNone {X} P xs = (i : ℕ) (x : X) → slice_get xs i ≡ Some x → P x → ⊥

-- A declaration gives this name.
abbrev pub IsCalled : (text : ℕ) → Name → Type 0
IsCalled text name = name.text.0 ≡ text

abbrev pub IsVariableCalled : (text : ℕ) → Variable → Type 0
IsVariableCalled text v = IsCalled text v.name

abbrev pub IsStructCalled : (text : ℕ) → Structure → Type 0
IsStructCalled text s = IsCalled text s.name

-- A method of the struct with the name `owner`.
abbrev pub IsMethodCalled : (owner text : ℕ) → Method → Type 0
IsMethodCalled owner text m = IsCalled owner m.owner × IsCalled text m.name

-- The one status, struct or method of the package with this name.
abbrev pub IsStatus : Declared → (text : ℕ) → (n : ℕ) → Name → Type 0
IsStatus d text n status = IsTheOne (IsCalled text) d.statuses n status

abbrev pub IsStruct : Declared → (text : ℕ) → (n : ℕ) → Structure → Type 0
IsStruct d text n s = IsTheOne (IsStructCalled text) d.structs n s

abbrev pub IsMethodOf : Declared → (owner text : ℕ) → (n : ℕ) → Method → Type 0
IsMethodOf d owner text n m = IsTheOne (IsMethodCalled owner text) d.methods n m

-- The one of these variables with this name.
abbrev pub IsVariable : List Variable → (text : ℕ) → (n : ℕ) → Variable → Type 0
IsVariable vs text n v = IsTheOne (IsVariableCalled text) vs n v

-- A field of the struct that `this` is.
pub record IsField (d : Declared) (this : Option ℕ) (text n : ℕ) (v : Variable) : Type 0 where
  pub owner : ℕ
  pub is : this ≡ Some owner
  pub number : ℕ
  pub structure : Structure
  pub declared : IsStruct d owner number structure
  pub field : IsVariable structure.fields text n v

-- What a name means by what stands before it: nothing, and it is a local of the method, or else a constant, and never both; `this.`,
-- a field of the method's struct; `args.`, an argument of the method.
abbrev pub VariableMeans : Declared → Scope → Root → (text : ℕ) → NamedVariable → Variable → Type 0
VariableMeans d scope roots.Bare text (variables.Local n) v = IsVariable scope.locals text n.0 v × HasNone (IsVariableCalled text) scope.constants
VariableMeans d scope roots.Bare text (variables.Const n) v = IsVariable scope.constants text n.0 v × HasNone (IsVariableCalled text) scope.locals
VariableMeans d scope roots.This text (variables.Field n) v = IsField d scope.this text n.0 v
VariableMeans d scope roots.Args text (variables.Arg n) v = IsVariable scope.args text n.0 v
VariableMeans d scope root text variable v = ⊥

pub record PathMeans (d : Declared) (scope : Scope) (path : Path) (named : NamedPath) : Type 0 where
  pub v : Variable
  pub means : VariableMeans d scope path.root path.name.text.0 named.of v
  pub place : named.at ≡ path.at

-- The number of a status of the package is its place after the ten of the language; those that `base.` stands before have 1 to 9.
pub record OwnStatusMeans (d : Declared) (text number : ℕ) : Type 0 where
  pub n : ℕ
  pub status : Name
  pub means : IsStatus d text n status
  pub number_is : number ≡ 10 + n

pub record BaseStatusMeans (d : Declared) (text number : ℕ) : Type 0 where
  pub n : ℕ
  pub status : List ℕ
  pub means : IsTheOne (λ (s : List ℕ). s ≡ text_of d text) base_status_texts n status
  pub number_is : number ≡ 1 + n

pub record StructMeans (d : Declared) (text number : ℕ) : Type 0 where
  pub structure : Structure
  pub means : IsStruct d text number structure

-- A method of the struct that `this` is.
pub record OwnMethodMeans (d : Declared) (this : Option ℕ) (text n : ℕ) : Type 0 where
  pub owner : ℕ
  pub is : this ≡ Some owner
  pub method : Method
  pub means : IsMethodOf d owner text n method

-- A public method of the struct that a field of `this` is.
pub record SubMethodMeans (d : Declared) (scope : Scope) (path : Path) (text field n : ℕ) : Type 0 where
  pub this : path.root ≡ roots.This
  pub v : Variable
  pub holder : IsField d scope.this path.name.text.0 field v
  pub name : Name
  pub type : v.of ≡ struct_type name
  pub method : Method
  pub means : IsMethodOf d name.text.0 text n method
  pub public : method.public ≡ true

-- A base method of the type of what a path names.
pub record BaseMethodMeans (d : Declared) (scope : Scope) (path : Path) (text : ℕ) (on : NamedPath) (sig : BaseSig) : Type 0 where
  pub v : Variable
  pub holder : VariableMeans d scope path.root path.name.text.0 on.of v
  pub place : on.at ≡ path.at
  pub kind : Kind
  pub type : sort_of (text_of d) v.of ≡ sorts.Methods kind
  pub means : IsMethod kind (text_of d text) sig

-- What the name of a called method means by what it is called on.
abbrev pub CalleeMeans : Declared → Scope → Receiver → (text : ℕ) → NamedCallee → Type 0
CalleeMeans d scope (receivers.This at) text (named_callees.Own m) = OwnMethodMeans d scope.this text m.0
CalleeMeans d scope (receivers.Path path) text (named_callees.Sub x m) = SubMethodMeans d scope path text x.0 m.0
CalleeMeans d scope (receivers.Path path) text (named_callees.Base on sig) = BaseMethodMeans d scope path text on sig
CalleeMeans d scope on text callee = ⊥
