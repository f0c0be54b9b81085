-- In a package that keeps the rules of names no declared name is reserved.
use Rattle.std.proofs.Common.{◌≡◌, ℕ, Bool, true, false, List, ◌++◌, map, Some, slice_get, refl}
use Rattle.std.specs.List.{AllByRecursion, flat_map}
use Rattle.wf_text.specs.declared.rules.Refusal.{Refusal}
use Rattle.wf_text.specs.declared.rules.Rule.TheVariants.{N3}
use Rattle.wf_ast.specs.declared.parsed.Name.{Name}
use Rattle.wf_names_rules.specs.Declarations.{Declared, Structure, Method, Variable, text_of}
use Rattle.wf_names_rules.specs.NameRules.{Breaks, by_declaration, reserved_name, declared_names, variable_names}
use Rattle.wf_names_rules.specs.Reserved.{is_reserved}
use Rattle.wf_typed_laws.proofs.ListLemmas.{all-from, all-front, all-behind, all-of-map, all-of-flat, all-both}

-- What holds of the names of structs and of their fields, and of methods, of their arguments and of their locals.
abbrev pub VariablesHave : (Name → Type 0) → List Variable → Type 0
VariablesHave P vs = AllByRecursion (λ v. P v.name) vs

abbrev pub StructureHas : (Name → Type 0) → Structure → Type 0
StructureHas P s = P s.name × VariablesHave P s.fields

abbrev pub MethodHas : (Name → Type 0) → Method → Type 0
MethodHas P m = P m.name × VariablesHave P m.args × VariablesHave P m.locals

abbrev IsFree : Declared → Name → Type 0
IsFree d name = is_reserved (text_of d name.text.0) ≡ false

free-at : (d : Declared) → ((refusal : Refusal) → Breaks d refusal → ⊥) → (i : ℕ) (name : Name) → slice_get (declared_names d) i ≡ Some name → IsFree d name
free-at d kept i name there = by_case (is_reserved (text_of d name.text.0)) refl
  where
    by_case : (b : Bool) → is_reserved (text_of d name.text.0) ≡ b → IsFree d name
    by_case false e = e
    by_case true e =
        let refusal : Refusal = record { rule = N3; at = name.at } in
        absurd (kept refusal (by_declaration refusal (reserved_name i name there e)))

-- The names of variables, as a list of names and by variables.
have-names : (P : Name → Type 0) (vs : List Variable) → AllByRecursion P (variable_names vs) → VariablesHave P vs
have-names P vs a = all-of-map P (λ v. v.name) vs a

abbrev AllVariables : (Name → Type 0) → Structure → Type 0
AllVariables P s = AllByRecursion P (variable_names s.fields)

abbrev AllLocals : (Name → Type 0) → Method → Type 0
AllLocals P m = AllByRecursion P (variable_names m.args ++ variable_names m.locals)

structure-has : (P : Name → Type 0) (s : Structure) → P s.name → AllVariables P s → StructureHas P s
structure-has P s n a = (n, have-names P s.fields a)

method-has : (P : Name → Type 0) (m : Method) → P m.name → AllLocals P m → MethodHas P m
method-has P m n a =
    (n, have-names P m.args (all-front P (variable_names m.args) (variable_names m.locals) a), have-names P m.locals (all-behind P (variable_names m.args) (variable_names m.locals) a))

-- What holds of all declared names, by structs and by methods.
module _ (P : Name → Type 0) (d : Declared) where
  abbrev constant_names : List Name
  constant_names = map (λ c. c.name) d.constants

  abbrev struct_names : List Name
  struct_names = map (λ s. s.name) d.structs

  abbrev method_names : List Name
  method_names = map (λ m. m.name) d.methods

  abbrev field_names : List Name
  field_names = flat_map (λ s. variable_names s.fields) d.structs

  abbrev local_names : List Name
  local_names = flat_map (λ m. variable_names m.args ++ variable_names m.locals) d.methods

  pub by-structs : AllByRecursion P (declared_names d) → AllByRecursion (StructureHas P) d.structs
  by-structs a =
      let b = all-behind P constant_names (struct_names ++ (method_names ++ (field_names ++ local_names))) a in
      let names = all-of-map P (λ (s : Structure). s.name) d.structs (all-front P struct_names (method_names ++ (field_names ++ local_names)) b) in
      let c = all-behind P method_names (field_names ++ local_names) (all-behind P struct_names (method_names ++ (field_names ++ local_names)) b) in
      let fields = all-of-flat P (λ (s : Structure). variable_names s.fields) d.structs (all-front P field_names local_names c) in
      all-both (StructureHas P) (λ s. P s.name) (AllVariables P) (structure-has P) d.structs names fields

  pub by-methods : AllByRecursion P (declared_names d) → AllByRecursion (MethodHas P) d.methods
  by-methods a =
      let b = all-behind P struct_names (method_names ++ (field_names ++ local_names)) (all-behind P constant_names (struct_names ++ (method_names ++ (field_names ++ local_names))) a) in
      let names = all-of-map P (λ (m : Method). m.name) d.methods (all-front P method_names (field_names ++ local_names) b) in
      let c = all-behind P field_names local_names (all-behind P method_names (field_names ++ local_names) b) in
      let locals = all-of-flat P (λ (m : Method). variable_names m.args ++ variable_names m.locals) d.methods c in
      all-both (MethodHas P) (λ m. P m.name) (AllLocals P) (method-has P) d.methods names locals

pub free-structs : (d : Declared) → ((refusal : Refusal) → Breaks d refusal → ⊥) → AllByRecursion (StructureHas (λ name. is_reserved (text_of d name.text.0) ≡ false)) d.structs
free-structs d kept = by-structs (IsFree d) d (all-from (IsFree d) (declared_names d) (free-at d kept))

pub free-methods : (d : Declared) → ((refusal : Refusal) → Breaks d refusal → ⊥) → AllByRecursion (MethodHas (λ name. is_reserved (text_of d name.text.0) ≡ false)) d.methods
free-methods d kept = by-methods (IsFree d) d (all-from (IsFree d) (declared_names d) (free-at d kept))
