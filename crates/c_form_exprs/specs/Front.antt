-- What the items before a function declare, and the names of its parameters and locals, as tables tell them.
use Rattle.std.specs.Prelude.{◌≡◌, ◌≤◌, ℕ, List, [], ◌∷◌, map, take, length, slice_get, find, Option, Some, None, option_map, ⊤, IfSome}
use Rattle.std.specs.Str.{bytes_eq}
use Rattle.c_text.specs.declared.nodes.CType.{CType}
use Rattle.c_text.specs.declared.nodes.CField.{CField}
use Rattle.c_text.specs.CTree.{FieldTree, ParamTree, ItemTree, text_item, function_item}
use Rattle.c_text.specs.CNodes.{Nodes, unit_tree, type_in, field_tree, param_tree}
use Rattle.c_text.specs.CFits.{HasType, HasField, HasParams}
use Rattle.c_meaning.specs.CTypes as by_name
use Rattle.c_meaning.specs.CTypes.{StructDecl, TextDecl, Function, CScope, structs_of, texts_of, functions_of, scope_of}
use Rattle.c_form_exprs.specs.Tables.{Table, named}
use Rattle.c_form_exprs.specs.declared.front.Head.{Head}

-- The unit, and the number of its first items that are known.
pub record Front : Type 0 where
  pub nodes : Nodes
  pub count : ℕ

-- The items that are known.
abbrev pub front_items : Front → List ItemTree
front_items front = take front.count (unit_tree front.nodes)

-- A function's names beside: its parameters and locals, with their types.
pub record Within : Type 0 where
  pub front : Front
  pub names : List (List ℕ × CType)

abbrev pub entry_param : List (List ℕ) → List ℕ × CType → ParamTree
entry_param names entry = record { kind = type_in names entry.1; name = entry.0 }

-- What an expression may use.
abbrev pub scope_in : Within → CScope
scope_in within = scope_of (front_items within.front) (map (entry_param within.front.nodes.names) within.names)

-- The entries of a table are these declarations, in order, each by its name.
abbrev pub Lists : {V X : Type 0} → (V → X → Type 0) → (X → List ℕ) → List (List ℕ × V) → List X → Type 0
Lists tells name [] [] = ⊤
Lists tells name (e ∷ es) (x ∷ xs) = (e.0 ≡ name x) × tells e.1 x × Lists tells name es xs
Lists tells name es xs = ⊥

-- What was found tells of what is to be found.
abbrev pub Finds : {V X : Type 0} → (V → X → Type 0) → Option V → Option X → Type 0
Finds tells None x = x ≡ None
Finds {V} {X} tells (Some v) x = (y : X) × (x ≡ Some y) × tells v y

-- A name has in the table what the first of these declarations with this name tells.
abbrev pub Tells : {V X : Type 0} → (V → X → Type 0) → (X → List ℕ) → List (List ℕ × V) → List X → Type 0
Tells tells name es xs = (q : List ℕ) → Finds tells (named es q) (find (λ x. bytes_eq (name x) q) xs)

-- A type of the unit as the type of a parameter or local.
pub record IsTyped (nodes : Nodes) (type : CType) (param : ParamTree) : Type 0 where
  pub same : type_in nodes.names type ≡ param.kind
  pub has : HasType nodes type

-- A string is declared by its name alone.
abbrev pub IsText : Unit {0} → TextDecl → Type 0
IsText declared text = ⊤

-- A field of the unit as a tree.
pub record IsField (nodes : Nodes) (field : CField) (tree : FieldTree) : Type 0 where
  pub same : field_tree nodes.names field ≡ tree
  pub has : HasField nodes field

-- A struct with the number of the table of its fields.
pub record IsStruct (nodes : Nodes) (tables : List (Table CField)) (k : ℕ) (struct : StructDecl) : Type 0 where
  pub fields : Table CField
  pub stands : slice_get tables k ≡ Some fields
  pub names : fields.names ≡ nodes.names
  pub tells : Tells (IsField nodes) (λ f. f.name) fields.entries struct.fields

-- What a call asks of a function.
pub record IsHead (nodes : Nodes) (head : Head) (f : Function) : Type 0 where
  pub params : map (param_tree nodes.names) head.params.now ≡ f.params
  pub result_type : option_map (type_in nodes.names) head.result ≡ f.result_type
  pub in_expressions : head.in_expressions ≡ by_name.is_expression f
  pub has_params : HasParams nodes head.params.now
  pub has_result : IfSome head.result (HasType nodes)

-- A table is one of the names of the unit, and tells of these declarations.
pub record TellsOf {V X : Type 0} (nodes : Nodes) (tells : V → X → Type 0) (name : X → List ℕ) (table : Table V) (xs : List X) : Type 0 where
  pub names : table.names ≡ nodes.names
  pub tells_all : Tells tells name table.entries xs

-- The tables tell of the first items of the unit.
pub record TellsFront (nodes : Nodes) (count : ℕ) (by_struct : Table ℕ) (by_field : List (Table CField)) (by_text : Table (Unit {0})) (by_function : Table Head) : Type 0 where
  pub within : count ≤ length nodes.items
  pub structs : TellsOf nodes (IsStruct nodes by_field) (λ s. s.name) by_struct (structs_of (take count (unit_tree nodes)))
  pub texts : TellsOf nodes IsText (λ t. t.name) by_text (texts_of (take count (unit_tree nodes)))
  pub functions : TellsOf nodes (IsHead nodes) (λ f. f.name) by_function (functions_of (take count (unit_tree nodes)))

-- The table of names tells of the parameters and locals, in the unit of the front.
pub record TellsNames (front : Front) (nodes : Nodes) (table : Table CType) : Type 0 where
  pub same : nodes ≡ front.nodes
  pub names : table.names ≡ front.nodes.names
  pub listed : Lists (IsTyped front.nodes) (λ p. p.name) table.entries (map (entry_param front.nodes.names) table.entries)

-- The next item is a string, or a function, of this name.
abbrev pub IsNextText : Front → List ℕ → Type 0
IsNextText front name = (bytes : List ℕ) × (slice_get (unit_tree front.nodes) front.count ≡ Some (text_item name bytes))

pub record IsNextFunction (front : Front) (name : List ℕ) (head : Head) : Type 0 where
  pub it : Function
  pub named : it.name ≡ name
  pub is : slice_get (unit_tree front.nodes) front.count ≡ Some (function_item it.linkage it.result_type it.name it.params it.locals it.body)
  pub tells : IsHead front.nodes head it
