-- What a loader knows of a text: the numbers of what it declares, by name, and the scope of a function of the program.
use Rattle.std.specs.Prelude.{◌≡◌, ℕ, List, length, map, position, reverse, slice_get, Some, bytes_eq}
use Rattle.c_text.specs.CTree.{ItemTree}
use Rattle.c_text.specs.CNodes.{Nodes, unit_tree}
use Rattle.c_meaning.specs.CTypes.{StructDecl, CScope, structs_of, texts_of, functions_of, struct_named, function_named}
use Rattle.c_step_exprs.specs.Resolving.{function_number}
use Rattle.c_form_exprs.specs.Tables.{Table, named}
use Rattle.c_form_exprs.specs.Front.{Within, TellsOf, entry_param}
use Rattle.c_step_load_exprs.specs.declared.numbers.Kind.{Kind}
use Rattle.c_step_load_exprs.specs.declared.numbers.Kind.TheVariants as kind

-- A table has for each name the place of the first of these names that is the same.
abbrev pub HasPlaces : List (List ℕ × ℕ) → List (List ℕ) → Type 0
HasPlaces es names = (q : List ℕ) → named es q ≡ position (λ name. bytes_eq name q) names

-- So has a table of names of a unit.
pub record HasNamePlaces (nodes : Nodes) (table : Table ℕ) (names : List (List ℕ)) : Type 0 where
  pub same : table.names ≡ nodes.names
  pub places : HasPlaces table.entries names

-- The names of the strings, and of the functions, among items.
abbrev pub names_of : Kind → List ItemTree → List (List ℕ)
names_of kind.Text items = map (λ t. t.name) (texts_of items)
names_of kind.Function items = map (λ f. f.name) (functions_of items)

-- A struct with the number of the table of the places of its fields.
pub record HasFieldPlaces (nodes : Nodes) (tables : List (Table ℕ)) (k : ℕ) (struct : StructDecl) : Type 0 where
  pub fields : Table ℕ
  pub stands : slice_get tables k ≡ Some fields
  pub places : HasNamePlaces nodes fields (map (λ f. f.name) struct.fields)

abbrev pub HasStructs : Nodes → List (Table ℕ) → Table ℕ → List StructDecl → Type 0
HasStructs nodes tables by_name structs = TellsOf nodes (HasFieldPlaces nodes tables) (λ s. s.name) by_name structs

-- Tables of what the items of a unit declare.
pub record HasNumbers (nodes : Nodes) (by_struct : Table ℕ) (by_field : List (Table ℕ)) (by_text by_function : Table ℕ) (by_spelling : List (List ℕ × ℕ)) : Type 0 where
  pub structs : HasStructs nodes by_field by_struct (structs_of (unit_tree nodes))
  pub texts : HasNamePlaces nodes by_text (names_of kind.Text (unit_tree nodes))
  pub functions : HasNamePlaces nodes by_function (names_of kind.Function (unit_tree nodes))
  pub spellings : HasPlaces by_spelling (names_of kind.Function (unit_tree nodes))

-- Each name is found from the last item on as it is from the first one on. So it is where no two structs and no two
-- functions have one name.
pub record AreAlike (items : List ItemTree) : Type 0 where
  pub structs : (name : List ℕ) → struct_named (reverse (structs_of items)) name ≡ struct_named (structs_of items) name
  pub functions : (name : List ℕ) → function_named (reverse (functions_of items)) name ≡ function_named (functions_of items) name
  pub numbers : (name : List ℕ) → function_number (reverse (functions_of items)) name ≡ position (λ f. bytes_eq f.name name) (functions_of items)

-- The scope of a function of the program that a unit is, by the names of the function's parameters and locals.
abbrev pub program_scope : Within → CScope
program_scope within = record {
  structs = reverse (structs_of (unit_tree within.front.nodes));
  texts = texts_of (unit_tree within.front.nodes);
  functions = reverse (functions_of (unit_tree within.front.nodes));
  names = map (entry_param within.front.nodes.names) within.names;
}

-- All items of the unit are known, and their numbers.
pub record Knows (within : Within) (numbered : Nodes) : Type 0 where
  pub same : numbered ≡ within.front.nodes
  pub all : within.front.count ≡ length within.front.nodes.items
  pub alike : AreAlike (unit_tree within.front.nodes)
