-- The names of a scope.
use Rattle.std.proofs.Common.{◌≡◌, ℕ, Bool, true, false, if◌then◌else◌, List, [], ◌∷◌, ◌++◌, map, find, position, Option, Some, None, is_some, Result, Ok, Err, IfOk, OnErr, refl, sym, ◌∙◌, ap, subst}
use Rattle.std.specs.Str.{bytes_eq}
use Rattle.std.specs.Option.{option_map, option_and_then}
use Rattle.wf_text.specs.declared.faults.NoMemory.{NoMemory}
use Rattle.c_text.specs.declared.nodes.CType.{CType}
use Rattle.c_text.specs.declared.nodes.CField.{CField}
use Rattle.c_text.specs.CTree.{ParamTree}
use Rattle.c_text.specs.CNodes.{Nodes, field_tree}
use Rattle.c_text.specs.CFits.{HasType}
use Rattle.c_meaning.specs.CTypes as by_name
use Rattle.c_meaning.specs.CTypes.{TextDecl, CScope, variable_held, member_held, field_held, struct_named, field_named}
use Rattle.c_form_exprs.specs.declared.types.Held.{Held}
use Rattle.c_form_exprs.specs.declared.types.Held.TheVariants as held
use Rattle.c_form_exprs.specs.Tables.{Table, named}
use Rattle.c_form_exprs.proofs.FrontLemmas.{find_listed}
use Rattle.c_form_exprs.proofs.TableLemmas.{place_in}
use Rattle.c_form_exprs.specs.Front.{Lists, Finds, IsField, IsTyped, entry_param}
use Rattle.c_form_exprs.specs.TypeViews.{held_in, HasHeld, TellsHeld}

names_grow : (nodes : Nodes) (es : List (List ℕ × CType)) (name : List ℕ) (ty : CType) → Lists (IsTyped nodes) (λ p. p.name) es (map (entry_param nodes.names) es) → HasType nodes ty → Lists (IsTyped nodes) (λ p. p.name) (es ++ (name, ty) ∷ []) (map (entry_param nodes.names) (es ++ (name, ty) ∷ []))
names_grow nodes [] name ty h has = (refl, record { same = refl; has = has }, tt)
names_grow nodes (e ∷ es) name ty h has = (h.0, h.1, names_grow nodes es name ty h.2 has)

pub names_after : (nodes : Nodes) (old new : Table CType) (name : List ℕ) (ty : CType) (r : Result Bool NoMemory) → IfOk r (λ fresh. new.entries ≡ (if fresh then old.entries ++ (name, ty) ∷ [] else old.entries)) → OnErr r (new ≡ old) → HasType nodes ty → Lists (IsTyped nodes) (λ p. p.name) old.entries (map (entry_param nodes.names) old.entries) → Lists (IsTyped nodes) (λ p. p.name) new.entries (map (entry_param nodes.names) new.entries)
names_after nodes old new name ty (Ok true) is same has h = rw is (names_grow nodes old.entries name ty h has)
names_after nodes old new name ty (Ok false) is same has h = rw is h
names_after nodes old new name ty (Err fault) is same has h = rw same h

pub name_at : (nodes : Nodes) (es : List (List ℕ × CType)) → Lists (IsTyped nodes) (λ p. p.name) es (map (entry_param nodes.names) es) → (q : List ℕ) (r o : Option CType) → r ≡ named es q → r ≡ o → Finds (IsTyped nodes) o (find (λ it. bytes_eq it.name q) (map (entry_param nodes.names) es))
name_at nodes es h q r o is some = subst (λ (x : Option CType). Finds (IsTyped nodes) x (find (λ it. bytes_eq it.name q) (map (entry_param nodes.names) es))) (sym is ∙ some) (find_listed (IsTyped nodes) (λ p. p.name) es (map (entry_param nodes.names) es) h q)

pub param_held : (nodes : Nodes) (scope : CScope) (name : List ℕ) (ty : CType) → Finds (IsTyped nodes) (Some ty) (find (λ it. bytes_eq it.name name) scope.names) → TellsHeld nodes (Some (held.One ty)) (variable_held scope name)
param_held nodes scope name ty h = rw h.1 (ap (λ t. Some (by_name.one t)) h.2.same, h.2.has)

text_held_by : (nodes : Nodes) (scope : CScope) (name : List ℕ) (text : Option TextDecl) → find (λ it. bytes_eq it.name name) scope.names ≡ None → find (λ it. bytes_eq it.name name) scope.texts ≡ text → is_some text ≡ true → TellsHeld nodes (Some held.Characters) (variable_held scope name)
text_held_by nodes scope name None h is some = absurd (cc (some))
text_held_by nodes scope name (Some t) h is some = rw (h, is) (refl, tt)

pub text_held : (nodes : Nodes) (scope : CScope) (name : List ℕ) → find (λ it. bytes_eq it.name name) scope.names ≡ None → is_some (find (λ it. bytes_eq it.name name) scope.texts) ≡ true → TellsHeld nodes (Some held.Characters) (variable_held scope name)
text_held nodes scope name h some = text_held_by nodes scope name (find (λ it. bytes_eq it.name name) scope.texts) h refl some

none_held_by : (nodes : Nodes) (scope : CScope) (name : List ℕ) (text : Option TextDecl) → find (λ it. bytes_eq it.name name) scope.names ≡ None → find (λ it. bytes_eq it.name name) scope.texts ≡ text → is_some text ≡ false → TellsHeld nodes None (variable_held scope name)
none_held_by nodes scope name None h is none = rw (h, is) (refl, tt)
none_held_by nodes scope name (Some t) h is none = absurd (cc (none))

pub none_held : (nodes : Nodes) (scope : CScope) (name : List ℕ) → find (λ it. bytes_eq it.name name) scope.names ≡ None → is_some (find (λ it. bytes_eq it.name name) scope.texts) ≡ false → TellsHeld nodes None (variable_held scope name)
none_held nodes scope name h none = none_held_by nodes scope name (find (λ it. bytes_eq it.name name) scope.texts) h refl none

-- What a field stands for that is found in the struct that is pointed to.
pub member_found : (nodes : Nodes) (scope : CScope) (of name : List ℕ) (field : CField) (held : Held) → Finds (IsField nodes) (Some field) (option_and_then (λ it. field_named it.fields name) (struct_named scope.structs of)) → held_in nodes.names held ≡ field_held of (field_tree nodes.names field) → HasHeld nodes held → TellsHeld nodes (Some held) (member_held scope name (Some (by_name.points_to (by_name.object of))))
member_found nodes scope of name field held found tells has = (ap Some (tells ∙ ap (field_held of) found.2.same) ∙ sym (ap (option_map (field_held of)) found.1), has)

-- The place of a name among the parameters and locals.
pub place_named : (names : List (List ℕ)) (es : List (List ℕ × CType)) (name : List ℕ) → position (λ (it : ParamTree). bytes_eq it.name name) (map (entry_param names) es) ≡ position (λ (entry : List ℕ × CType). bytes_eq entry.0 name) es
place_named names es name = place_in (λ it. bytes_eq it.name name) (entry_param names) es
