-- What a package declares, and what a name stands for.
use Rattle.std.specs.Prelude.{ℕ, Bool, ◌&&◌, List, [], ◌∷◌, ◌++◌, Option, Some, None, slice_get, nat_eq}
use Rattle.std.specs.List.{find, position_from}
use Rattle.wf_ast.specs.declared.parsed.Name.{Name}
use Rattle.wf_ast.specs.ParsedParts.{Parsed}
use Rattle.wf_ast.specs.ParsedTree as tree
use Rattle.wf_ast.specs.ParsedTree.{ExprTree, TypeTree, FieldTrees, ResultTree, BlockTree, StmtTree, DeclTree}
use Rattle.wf_ast.specs.ParsedTrees.{decl_trees}

-- A name with its declared type: a constant, a field, an argument or a local.
pub record Variable : Type 0 where
  pub name : Name
  pub of : TypeTree

pub record Constant : Type 0 where
  pub name : Name
  pub of : TypeTree
  pub value : ExprTree

-- A struct with the fields of its lists, in order.
pub record Structure : Type 0 where
  pub name : Name
  pub fields : List Variable

-- A method; `owner` is the name of the struct that it is declared for.
pub record Method : Type 0 where
  pub public : Bool
  pub owner : Name
  pub name : Name
  pub args : List Variable
  pub result : ResultTree
  pub locals : List Variable
  pub body : BlockTree

-- A package: its texts, which names and quoted texts stand for by number, and its declarations by kind, each in
-- the order in which they stand.
pub record Declared : Type 0 where
  pub texts : List (List ℕ)
  pub statuses : List Name
  pub constants : List Constant
  pub structs : List Structure
  pub methods : List Method

abbrev pub variables : FieldTrees → List Variable
variables tree.no_field = []
variables (tree.more_fields name of others) = record { name = name; of = of } ∷ variables others

-- The local that a statement declares.
abbrev pub local_of : StmtTree → List Variable
local_of (tree.var name of at) = record { name = name; of = of } ∷ []
local_of _ = []

-- The locals of a method: what the statements of its body, and not of the blocks in it, declare.
abbrev pub locals_of : BlockTree → List Variable
locals_of (tree.close at) = []
locals_of (tree.more_stmts first others) = local_of first ++ locals_of others

abbrev pub statuses_of : List DeclTree → List Name
statuses_of [] = []
statuses_of (tree.status public text at ∷ decls) = text ∷ statuses_of decls
statuses_of (_ ∷ decls) = statuses_of decls

abbrev pub constants_of : List DeclTree → List Constant
constants_of [] = []
constants_of (tree.constant public name of value at ∷ decls) = record { name = name; of = of; value = value } ∷ constants_of decls
constants_of (_ ∷ decls) = constants_of decls

abbrev pub structs_of : List DeclTree → List Structure
structs_of [] = []
structs_of (tree.structure public name mark fields at ∷ decls) = record { name = name; fields = variables fields } ∷ structs_of decls
structs_of (_ ∷ decls) = structs_of decls

abbrev pub methods_of : List DeclTree → List Method
methods_of [] = []
methods_of (tree.method public owner name mark args result body at ∷ decls) =
    record { public = public; owner = owner; name = name; args = variables args; result = result; locals = locals_of body; body = body }
    ∷ methods_of decls
methods_of (_ ∷ decls) = methods_of decls

abbrev pub declared : List (List ℕ) → List DeclTree → Declared
declared texts decls = record { texts = texts; statuses = statuses_of decls; constants = constants_of decls; structs = structs_of decls; methods = methods_of decls }

-- What a parsed package declares.
abbrev pub declared_in : Parsed → Declared
declared_in p = declared p.texts (decl_trees p.exprs p.stmts p.decls)

-- The bytes of a text.
abbrev pub bytes_in : Option (List ℕ) → List ℕ
bytes_in None = []
bytes_in (Some bytes) = bytes

abbrev pub bytes_of : (texts : List (List ℕ)) → ℕ → List ℕ
bytes_of texts text = bytes_in (slice_get texts text)

abbrev pub text_of : Declared → ℕ → List ℕ
text_of d = bytes_of d.texts

-- Whether a name is spelt by this text; equal texts have equal numbers.
abbrev pub is_spelt : ℕ → Name → Bool
is_spelt text name = nat_eq name.text.0 text

-- What a name stands for is what was declared under it first.
abbrev pub status_named : Declared → ℕ → Option ℕ
status_named d text = position_from (is_spelt text) 0 d.statuses

abbrev pub struct_named : Declared → ℕ → Option ℕ
struct_named d text = position_from (λ s. is_spelt text s.name) 0 d.structs

-- The method of the struct with the name `owner`.
abbrev pub method_named : Declared → (owner text : ℕ) → Option ℕ
method_named d owner text = position_from (λ m. is_spelt owner m.owner && is_spelt text m.name) 0 d.methods

abbrev pub variable_named : List Variable → ℕ → Option Variable
variable_named variables text = find (λ v. is_spelt text v.name) variables

-- The place of that variable.
abbrev pub place_in : List Variable → ℕ → Option ℕ
place_in variables text = position_from (λ v. is_spelt text v.name) 0 variables

abbrev pub as_variable : Constant → Variable
as_variable c = record { name = c.name; of = c.of }

-- The fields of the struct with this name; one that isn't declared has none.
abbrev pub fields_in : Option Structure → List Variable
fields_in None = []
fields_in (Some s) = s.fields

abbrev pub structure_in : Declared → Option ℕ → Option Structure
structure_in d None = None
structure_in d (Some s) = slice_get d.structs s

abbrev pub fields_of : Declared → (owner : ℕ) → List Variable
fields_of d owner = fields_in (structure_in d (struct_named d owner))
