-- The rules of names, as one table in five sections: what a package breaks, each rule with its place.
use Rattle.std.specs.Prelude.{◌≡◌, ℕ, ◌<◌, ◌≤◌, Bool, true, false, List, [], ◌∷◌, ◌++◌, map, Option, Some, None, slice_get, nat_eq, if◌then◌else◌}
use Rattle.std.specs.List.{list_any, flat_map}
use Rattle.wf_text.specs.declared.place.Place.{Place}
use Rattle.wf_text.specs.declared.rules.Refusal.{Refusal}
use Rattle.wf_text.specs.declared.rules.Rule.TheVariants.{N1, N2, N3, N4, N5, N6, N7, N8, L6, L7}
use Rattle.wf_text.specs.Precedence.{is_before}
use Rattle.wf_ast.specs.declared.parsed.Name.{Name}
use Rattle.wf_ast.specs.declared.parsed.Path.{Path as NamePath}
use Rattle.wf_ast.specs.declared.parsed.Root.TheVariants as roots
use Rattle.wf_ast.specs.ParsedTree as tree
use Rattle.wf_ast.specs.ParsedTree.{CallTree}
use Rattle.wf_names_rules.specs.Declarations.{Variable, Constant, Structure, Method, Declared, is_spelt, text_of, status_named, struct_named}
use Rattle.wf_names_rules.specs.Uses as uses
use Rattle.wf_names_rules.specs.Uses.{Use, Scope, sites, method_uses, method_scope}
use Rattle.wf_names_rules.specs.Meanings.{GivenValue, is_base_status, known_at, path_sort, call_name, call_args, callee_of, call_has_meaning, parameters_of, is_parameter, lacks_one, passed_arg, is_io_arg}
use Rattle.wf_names_rules.specs.declared.callees.Callee.{Callee}
use Rattle.wf_names_rules.specs.declared.callees.Callee.TheVariants as callees
use Rattle.wf_names_rules.specs.Jumps.{Jump, labelled, to_label, to_innermost, block_jumps, has_label}
use Rattle.wf_names_rules.specs.Reserved.{is_reserved, is_initialize}
use Rattle.graphs.specs.Graphs.{Path}
use Rattle.wf_names_rules.specs.Sizes.{is_too_long, holds_struct, Take}

-- A name's place with a rule.
abbrev pub unknown : Name → Refusal
unknown name = record { rule = N1; at = name.at }

abbrev pub twice : Name → Refusal
twice name = record { rule = N2; at = name.at }

-- The package uses this, where this is known.
abbrev pub IsUsed : Declared → Scope → Use → Type 0
IsUsed d scope usage = (i : ℕ) × (slice_get (sites d) i ≡ Some (record { scope = scope; usage = usage }))

-- Of these names the later is spelt as an earlier one.
pub record IsRepeated (names : List Name) (later : Name) : Type 0 where
  pub first : ℕ
  pub second : ℕ
  pub earlier : Name
  pub order : first < second
  pub at_first : slice_get names first ≡ Some earlier
  pub at_second : slice_get names second ≡ Some later
  pub same : earlier.text ≡ later.text

abbrev pub variable_names : List Variable → List Name
variable_names variables = map (λ v. v.name) variables

-- The methods of the struct with this name.
abbrev pub names_owned : (owner : ℕ) → List Method → List Name
names_owned owner [] = []
names_owned owner (m ∷ ms) = if is_spelt owner m.owner then m.name ∷ names_owned owner ms else names_owned owner ms

abbrev pub IsStructure : Declared → Structure → Type 0
IsStructure d s = (i : ℕ) × (slice_get d.structs i ≡ Some s)

abbrev pub IsMethod : Declared → Method → Type 0
IsMethod d m = (i : ℕ) × (slice_get d.methods i ≡ Some m)

-- The lists of names of which none may have the name of an earlier one: statuses, constants, structs, the methods and
-- the fields of a struct, the arguments and the locals of a method.
pub data AreApart (d : Declared) : List Name → Type 0 where
  statuses : AreApart d d.statuses
  constants : AreApart d (map (λ c. c.name) d.constants)
  structs : AreApart d (map (λ s. s.name) d.structs)
  methods : (owner : ℕ) → AreApart d (names_owned owner d.methods)
  fields : (s : Structure) → IsStructure d s → AreApart d (variable_names s.fields)
  args : (m : Method) → IsMethod d m → AreApart d (variable_names m.args)
  locals : (m : Method) → IsMethod d m → AreApart d (variable_names m.locals)

-- Everything that is declared by a name, but for labels.
abbrev pub declared_names : Declared → List Name
declared_names d =
    map (λ c. c.name) d.constants ++ (map (λ s. s.name) d.structs ++ (map (λ m. m.name) d.methods
    ++ (flat_map (λ s. variable_names s.fields) d.structs ++ flat_map (λ m. variable_names m.args ++ variable_names m.locals) d.methods)))

-- Of two names that mean different things and are spelt alike the one after the other.
abbrev pub later_of : Name → Name → Refusal
later_of a b = if is_before (twice a) (twice b) then twice b else twice a

-- A jump or a labelled loop of a method.
abbrev pub Jumps : Declared → Jump → Type 0
Jumps d j = (m : Method) × (i : ℕ) × (IsMethod d m × (slice_get (block_jumps [] m.body) i ≡ Some j))

abbrev pub given_names : CallTree → List Name
given_names c = map (λ g. g.name) (call_args c)

abbrev pub given_texts : CallTree → List ℕ
given_texts c = map (λ g. g.name.text.0) (call_args c)

-- Of the values of a call a later one is the same reader or writer of the calling method as an earlier one; `at` is
-- its place.
pub record IsPassedTwice (d : Declared) (scope : Scope) (call : CallTree) (at : Place) : Type 0 where
  pub first : ℕ
  pub second : ℕ
  pub earlier : GivenValue
  pub later : GivenValue
  pub path : NamePath
  pub order : first < second
  pub at_first : slice_get (call_args call) first ≡ Some earlier
  pub at_second : slice_get (call_args call) second ≡ Some later
  pub is_arg : path.root ≡ roots.Args
  pub passed : later.value ≡ tree.path path
  pub same : passed_arg earlier.value ≡ Some path.name.text.0
  pub io : is_io_arg (known_at d scope).arg path.name.text.0 ≡ true
  pub here : at ≡ path.at

-- A callee is the method with this number.
abbrev pub is_callee : ℕ → Callee → Bool
is_callee b (callees.Own m) = nat_eq b m
is_callee b (callees.Hidden m) = nat_eq b m
is_callee b _ = false

abbrev pub calls_it : Declared → Scope → ℕ → Use → Bool
calls_it d scope b (uses.method c) = is_callee b (callee_of (known_at d scope) c)
calls_it d scope b _ = false

abbrev pub method_calls : Declared → Option Method → ℕ → Bool
method_calls d None b = false
method_calls d (Some m) b = list_any (calls_it d (method_scope d m) b) (method_uses m)

-- The graph of the methods, by number, that call each other.
abbrev pub calls : Declared → ℕ → ℕ → Bool
calls d a b = method_calls d (slice_get d.methods a) b

-- A variable whose type may have an array, with the locals that hide constants there.
pub data IsSizedHere (d : Declared) : List Variable → Variable → Type 0 where
  field : (s : Structure) (i : ℕ) (v : Variable) → IsStructure d s → slice_get s.fields i ≡ Some v → IsSizedHere d [] v
  arg : (m : Method) (i : ℕ) (v : Variable) → IsMethod d m → slice_get m.args i ≡ Some v → IsSizedHere d m.locals v
  local : (m : Method) (i : ℕ) (v : Variable) → IsMethod d m → slice_get m.locals i ≡ Some v → IsSizedHere d m.locals v

-- What the declarations of a package break by their names and their number.
pub data DeclarationBreaks (d : Declared) : Refusal → Type 0 where
  -- N2: a name declared twice
  declared_twice : (names : List Name) (later : Name) → AreApart d names → IsRepeated names later → DeclarationBreaks d (twice later)
  -- N2: a local and a constant of one name, at the later of the two
  local_and_constant : (m : Method) (v : Variable) (i j : ℕ) (c : Constant) → IsMethod d m → slice_get m.locals i ≡ Some v → slice_get d.constants j ≡ Some c
      → v.name.text ≡ c.name.text → DeclarationBreaks d (later_of v.name c.name)
  -- N3: a declared name that nothing may be declared under
  reserved_name : (i : ℕ) (name : Name) → slice_get (declared_names d) i ≡ Some name → is_reserved (text_of d name.text.0) ≡ true
      → DeclarationBreaks d (record { rule = N3; at = name.at })
  -- N3: a method of the name `initialize`
  initialize : (m : Method) → IsMethod d m → is_initialize (text_of d m.name.text.0) ≡ true → DeclarationBreaks d (record { rule = N3; at = m.name.at })
  -- L6: more than 1,024 methods
  too_many_methods : (m : Method) → slice_get d.methods 1024 ≡ Some m → DeclarationBreaks d (record { rule = L6; at = m.name.at })
  -- L7: more than 256 locals in a method
  too_many_locals : (m : Method) (v : Variable) → IsMethod d m → slice_get m.locals 256 ≡ Some v → DeclarationBreaks d (record { rule = L7; at = v.name.at })
  -- L7: more than 64 arguments
  too_many_args : (m : Method) (v : Variable) → IsMethod d m → slice_get m.args 64 ≡ Some v → DeclarationBreaks d (record { rule = L7; at = v.name.at })

-- What the uses of names break. A call whose method or an argument of which has no meaning breaks no rule but that of
-- what has none.
pub data UseBreaks (d : Declared) : Refusal → Type 0 where
  -- N1: a status that the package doesn't have
  unknown_status : (scope : Scope) (text : Name) → IsUsed d scope (uses.own_status text) → status_named d text.text.0 ≡ None → UseBreaks d (unknown text)
  -- N1: a status that the language doesn't have
  unknown_base_status : (scope : Scope) (text : Name) → IsUsed d scope (uses.base_status text) → is_base_status (text_of d text.text.0) ≡ false
      → UseBreaks d (unknown text)
  -- N1: a local or constant, a field or an argument that isn't known there
  unknown_variable : (scope : Scope) (path : NamePath) → IsUsed d scope (uses.variable path) → path_sort (known_at d scope) path ≡ None → UseBreaks d (unknown path.name)
  -- N1: a struct that the package doesn't have, in a type or as the owner of a method
  unknown_struct : (scope : Scope) (name : Name) → IsUsed d scope (uses.structure name) → struct_named d name.text.0 ≡ None → UseBreaks d (unknown name)
  -- N1: a method that what it is called on doesn't have
  unknown_method : (scope : Scope) (call : CallTree) → IsUsed d scope (uses.method call) → callee_of (known_at d scope) call ≡ callees.Missing → UseBreaks d (unknown (call_name call))
  -- N2: an argument given twice in a call
  given_twice : (scope : Scope) (call : CallTree) (later : Name) → IsUsed d scope (uses.method call) → call_has_meaning (known_at d scope) call ≡ true
      → IsRepeated (given_names call) later → UseBreaks d (twice later)
  -- N2: a reader or writer passed twice in a call, at its later value
  passed_twice : (scope : Scope) (call : CallTree) (at : Place) → IsUsed d scope (uses.method call) → call_has_meaning (known_at d scope) call ≡ true
      → IsPassedTwice d scope call at → UseBreaks d (record { rule = N2; at = at })
  -- N6: an argument that the method doesn't have
  unknown_argument : (scope : Scope) (call : CallTree) (i : ℕ) (given : GivenValue) → IsUsed d scope (uses.method call) → call_has_meaning (known_at d scope) call ≡ true
      → slice_get (call_args call) i ≡ Some given → is_parameter (text_of d) (parameters_of (known_at d scope).args (callee_of (known_at d scope) call)) given.name.text.0 ≡ false
      → UseBreaks d (record { rule = N6; at = given.name.at })
  -- N7: an argument that isn't given, at the method's name
  missing_argument : (scope : Scope) (call : CallTree) → IsUsed d scope (uses.method call) → call_has_meaning (known_at d scope) call ≡ true
      → lacks_one (text_of d) (parameters_of (known_at d scope).args (callee_of (known_at d scope) call)) (given_texts call) ≡ true → UseBreaks d (record { rule = N7; at = (call_name call).at })
  -- N8: a method of another struct called on `this`
  foreign_method : (scope : Scope) (call : CallTree) → IsUsed d scope (uses.method call) → callee_of (known_at d scope) call ≡ callees.Foreign
      → UseBreaks d (record { rule = N8; at = (call_name call).at })
  -- N8: a private method called through a field
  private_method : (scope : Scope) (call : CallTree) (m : ℕ) → IsUsed d scope (uses.method call) → callee_of (known_at d scope) call ≡ callees.Hidden m
      → UseBreaks d (record { rule = N8; at = (call_name call).at })

-- What the loops of a method and the jumps in them break.
pub data LabelBreaks (d : Declared) : Refusal → Type 0 where
  -- N2: a label of a loop that stands in a loop of the same label
  label_twice : (loops : List (Option Name)) (label : Name) → Jumps d (labelled loops label) → has_label loops label.text.0 ≡ true → LabelBreaks d (twice label)
  -- N3: the same of a loop's label
  reserved_label : (loops : List (Option Name)) (label : Name) → Jumps d (labelled loops label) → is_reserved (text_of d label.text.0) ≡ true
      → LabelBreaks d (record { rule = N3; at = label.at })
  -- N5: a jump to a label that no loop round it has, at the label
  unknown_label : (loops : List (Option Name)) (label : Name) → Jumps d (to_label loops label) → has_label loops label.text.0 ≡ false
      → LabelBreaks d (record { rule = N5; at = label.at })
  -- N5: a jump without a label outside every loop, at the statement
  outside_loops : (at : Place) → Jumps d (to_innermost [] at) → LabelBreaks d (record { rule = N5; at = at })

-- What the graphs of methods and of structs break.
pub data CycleBreaks (d : Declared) : Refusal → Type 0 where
  -- N4: a method from which calls lead back to it, at its name
  recursion : (a : ℕ) (m : Method) → slice_get d.methods a ≡ Some m → Path (calls d) a a → CycleBreaks d (record { rule = N4; at = m.name.at })
  -- N4: a struct that holds itself through fields, at its name
  holds_itself : (a : ℕ) (s : Structure) → slice_get d.structs a ≡ Some s → Path (holds_struct d) a a → CycleBreaks d (record { rule = N4; at = s.name.at })

-- What the lengths of arrays and the sizes of structs break.
pub data SizeBreaks (d : Declared) : Refusal → Type 0 where
  -- L7: an array of more than 65,536 elements
  too_long_array : (locals : List Variable) (v : Variable) → IsSizedHere d locals v → is_too_long d locals v.of ≡ true → SizeBreaks d (record { rule = L7; at = v.name.at })
  -- L7: fields of more than 1,048,576 bytes together, at the field that passes it
  too_large_struct : (s : Structure) (front back : List Variable) (v : Variable) (n m : ℕ) → IsStructure d s → s.fields ≡ front ++ v ∷ back
      → Take d front n → n ≤ 1048576 → Take d (front ++ v ∷ []) m → 1048576 < m → SizeBreaks d (record { rule = L7; at = v.name.at })

-- The whole table.
pub data Breaks (d : Declared) : Refusal → Type 0 where
  by_declaration : (s : Refusal) → DeclarationBreaks d s → Breaks d s
  by_use : (s : Refusal) → UseBreaks d s → Breaks d s
  by_label : (s : Refusal) → LabelBreaks d s → Breaks d s
  by_cycle : (s : Refusal) → CycleBreaks d s → Breaks d s
  by_size : (s : Refusal) → SizeBreaks d s → Breaks d s
