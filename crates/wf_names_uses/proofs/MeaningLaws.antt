-- Where no use of a name breaks a rule, every use has a meaning.
use Rattle.std.specs.List.{find, list_all}
use Rattle.std.proofs.Common.{◌≡◌, ◌⊎◌, ℕ, Bool, true, false, ◌∙◌, cond, if◌then◌else◌, List, [], ◌∷◌, Option, Some, None, option_map, slice_get, is_some, refl, ap, subst, inl, inr}
use Rattle.wf_text.specs.declared.rules.Refusal.{Refusal}
use Rattle.wf_text.specs.declared.rules.Rule.TheVariants.{N2, N6, N7, N8}
use Rattle.wf_text.specs.Precedence.{Decides}
use Rattle.wf_base.specs.declared.widths.Width.{Width}
use Rattle.wf_base.specs.declared.base_methods.Kind.TheVariants as kinds
use Rattle.wf_base.specs.declared.base_methods.BaseSig.{BaseSig}
use Rattle.wf_base.specs.BaseTable as table
use Rattle.wf_ast.specs.declared.numbers.TextId.{TextId}
use Rattle.wf_ast.specs.declared.parsed.Name.{Name}
use Rattle.wf_ast.specs.declared.parsed.Path.{Path}
use Rattle.wf_ast.specs.declared.parsed.Root.{Root}
use Rattle.wf_ast.specs.declared.parsed.Root.TheVariants as roots
use Rattle.wf_ast.specs.declared.parsed.Receiver.TheVariants as receivers
use Rattle.wf_ast.specs.ParsedTree as tree
use Rattle.wf_ast.specs.ParsedTree.{CallTree, TypeTree}
use Rattle.wf_names_rules.specs.declared.callees.Callee.{Callee}
use Rattle.wf_names_rules.specs.declared.callees.Callee.TheVariants as callees
use Rattle.wf_names_rules.specs.declared.sorts.Sort.{Sort}
use Rattle.wf_names_rules.specs.declared.sorts.Sort.TheVariants as sorts
use Rattle.wf_names_rules.specs.Declarations.{Variable, Structure, Declared, is_spelt, text_of, status_named, struct_named, variable_named, structure_in, fields_in}
use Rattle.wf_names_rules.specs.Uses as uses
use Rattle.wf_names_rules.specs.Uses.{Use, Scope, receiver_uses, given_uses, struct_scope}
use Rattle.wf_names_rules.specs.Meanings.{Known, is_base_status, width_of, slice_sort, array_sort, sort_of, sort_in, fields_known, known_at, sort_at, path_sort, this_callee, public_callee, found_base, part_callee, sorted_callee, callee_of, call_name, is_known, has_meaning, call_has_meaning, is_parameter, lacks_one}
use Rattle.wf_names_rules.specs.NameRules as rules
use Rattle.wf_names_rules.specs.NameRules.{UseBreaks, IsUsed, given_texts, unknown, twice}
use Rattle.wf_names_uses.specs.Fitting.{is_open, call_parameters, Fits}
use Rattle.wf_names_scopes.specs.UsesFound.{uses_found}
use Rattle.wf_names_uses.proofs.FoundLemmas.{both-so}
use Rattle.wf_names_uses.proofs.ClosedUses.{In, in-behind, place-in, parts-used, field-used}
use Rattle.wf_names_uses.proofs.UseLaws.{uses_found-decides}

some-so : {X : Type 0} (o : Option X) → (o ≡ None → ⊥) → is_some o ≡ true
some-so None h = absurd (h refl)
some-so (Some x) h = refl

true-so : (t : Bool) → (t ≡ false → ⊥) → t ≡ true
true-so true h = refl
true-so false h = absurd (h refl)

none-of : {X : Type 0} (o : Option X) → is_some o ≡ false → o ≡ None
none-of None h = refl
none-of (Some x) h = absurd (cc h)

find-in : {X : Type 0} (p : X → Bool) (xs : List X) (x : X) → find p xs ≡ Some x → In x xs
find-in p [] x e = absurd (cc e)
find-in p (y ∷ ys) x e = by_test (p y) (find-in p ys x) e
  where
    by_test : (t : Bool) → (find p ys ≡ Some x → In x ys) → cond t (Some y) (find p ys) ≡ Some x → (y ≡ x) ⊎ In x ys
    by_test true more k = inl (let same : y ≡ x = cc k in same)
    by_test false more k = inr (more k)

-- Only a struct's own name is a type with its methods.
record StructType (of : TypeTree) (owner : TextId) : Type 0 where
  name : Name
  is : of ≡ tree.struct_type name
  same : name.text ≡ owner

no-slice : (width : Option Width) (owner : TextId) → slice_sort width ≡ sorts.Struct owner → ⊥
no-slice None owner e = cc e
no-slice (Some width) owner e = cc e

no-array : (width : Option Width) (owner : TextId) → array_sort width ≡ sorts.Struct owner → ⊥
no-array None owner e = cc e
no-array (Some width) owner e = cc e

no-base : (reader writer : Bool) (owner : TextId)
    → (if reader then sorts.Methods kinds.Reader else if writer then sorts.Methods kinds.Writer else sorts.Plain) ≡ sorts.Struct owner → ⊥
no-base true writer owner e = cc e
no-base false true owner e = cc e
no-base false false owner e = cc e

struct-type : (bytes : ℕ → List ℕ) (of : TypeTree) (owner : TextId) → sort_of bytes of ≡ sorts.Struct owner → StructType of owner
struct-type bytes (tree.slice_of at element) owner e = absurd (no-slice (width_of bytes element) owner e)
struct-type bytes (tree.array_of length at element) owner e = absurd (no-array (width_of bytes element) owner e)
struct-type bytes (tree.base_type name at bounds) owner e = absurd (no-base _ _ owner e)
struct-type bytes (tree.status_type at bounds) owner e = absurd (cc e)
struct-type bytes (tree.struct_type name) owner e = record { name = name; is = refl; same = let texts : name.text ≡ owner = cc e in texts }

-- A field of the struct of `this` is one of a struct of the package.
record FieldOf (d : Declared) (v : Variable) : Type 0 where
  s : Structure
  is : In s d.structs
  has : In v s.fields

field-of : (d : Declared) (this : Option ℕ) (v : Variable) → In v (fields_known d this) → FieldOf d v
field-of d None v h = absurd h
field-of d (Some owner) v h = by_number (struct_named d owner) h
  where
    by_struct : (n : ℕ) (o : Option Structure) → slice_get d.structs n ≡ o → In v (fields_in o) → FieldOf d v
    by_struct n None e k = absurd k
    by_struct n (Some s) e k = record { s = s; is = place-in s d.structs n e; has = k }

    by_number : (n : Option ℕ) → In v (fields_in (structure_in d n)) → FieldOf d v
    by_number None k = absurd k
    by_number (Some n) k = by_struct n (slice_get d.structs n) refl k

record FieldType (d : Declared) (owner : TextId) : Type 0 where
  v : Variable
  of : StructType v.of owner
  field : FieldOf d v

field-type : (d : Declared) (this : Option ℕ) (text : ℕ) (owner : TextId) → sort_in d (fields_known d this) text ≡ Some (sorts.Struct owner) → FieldType d owner
field-type d this text owner e = by_field (variable_named (fields_known d this) text) refl e
  where
    by_field : (o : Option Variable) → variable_named (fields_known d this) text ≡ o → option_map (λ (v : Variable). sort_of (text_of d) v.of) o ≡ Some (sorts.Struct owner) → FieldType d owner
    by_field None is k = absurd (cc k)
    by_field (Some v) is k =
        record {
          v = v;
          of = struct-type (text_of d) v.of owner (let same : sort_of (text_of d) v.of ≡ sorts.Struct owner = cc k in same);
          field = field-of d this v (find-in (λ (w : Variable). is_spelt text w.name) (fields_known d this) v is);
        }

-- No use of the package breaks a rule.
abbrev KeepsUses : Declared → Type 0
KeepsUses d = (s : Refusal) → UseBreaks d s → ⊥

-- A struct with methods that are looked for is there.
struct-there : (d : Declared) → KeepsUses d → (this : Option ℕ) (text : ℕ) (owner : TextId) → sort_in d (fields_known d this) text ≡ Some (sorts.Struct owner)
    → struct_named d owner.0 ≡ None → ⊥
struct-there d keeps this text owner e none =
    let f = field-type d this text owner e in
    let name = f.of.name in
    let texts : name.text.0 ≡ owner.0 = ap (λ (t : TextId). t.0) f.of.same in
    keeps (unknown name) (rules.unknown_struct (struct_scope d f.field.s) name (field-used d f.field.s f.v name f.field.is f.field.has f.of.is) (ap (struct_named d) texts ∙ none))

no-public : (k : Known) (m : Option ℕ) → public_callee k m ≡ callees.Baseless → ⊥
no-public k None e = cc e
no-public k (Some m) e = by_mark (k.is_public m) e
  where
    by_mark : (t : Bool) → (if t then callees.Own m else callees.Hidden m) ≡ callees.Baseless → ⊥
    by_mark true h = cc h
    by_mark false h = cc h

no-found : (sig : Option BaseSig) → found_base sig ≡ callees.Baseless → ⊥
no-found None e = cc e
no-found (Some sig) e = cc e

no-this : (m : Option ℕ) (elsewhere : Bool) → this_callee m elsewhere ≡ callees.Baseless → ⊥
no-this (Some m) elsewhere e = cc e
no-this None true e = cc e
no-this None false e = cc e

-- A call on a struct's field, whose struct is there.
no-struct : (d : Declared) → KeepsUses d → (scope : Scope) (root : Root) (field text : ℕ) (owner : TextId) → sort_at (known_at d scope) root field ≡ Some (sorts.Struct owner)
    → part_callee (known_at d scope) root owner.0 text ≡ callees.Baseless → ⊥
no-struct d keeps scope roots.Bare field text owner is e = cc e
no-struct d keeps scope roots.Args field text owner is e = cc e
no-struct d keeps scope roots.This field text owner is e = by_struct (is_some (struct_named d owner.0)) refl e
  where
    by_struct : (t : Bool) → is_some (struct_named d owner.0) ≡ t
        → (if t then public_callee (known_at d scope) ((known_at d scope).struct_method owner.0 text) else callees.Baseless) ≡ callees.Baseless → ⊥
    by_struct true there k = no-public (known_at d scope) ((known_at d scope).struct_method owner.0 text) k
    by_struct false there k = struct-there d keeps scope.this field owner is (none-of (struct_named d owner.0) there)

no-sorted : (d : Declared) → KeepsUses d → (scope : Scope) (path : Path) (text : ℕ) (sort : Option Sort) → path_sort (known_at d scope) path ≡ sort
    → (path_sort (known_at d scope) path ≡ None → ⊥) → sorted_callee (known_at d scope) path.root sort text ≡ callees.Baseless → ⊥
no-sorted d keeps scope path text None is there e = there is
no-sorted d keeps scope path text (Some (sorts.Struct owner)) is there e = no-struct d keeps scope path.root path.name.text.0 text owner is e
no-sorted d keeps scope path text (Some (sorts.Methods kind)) is there e = no-found (table.method_named kind (text_of d text)) e
no-sorted d keeps scope path text (Some sorts.Plain) is there e = cc e

-- What a call is made on is there.
no-baseless : (d : Declared) → KeepsUses d → (scope : Scope) (c : CallTree) → IsUsed d scope (uses.method c) → callee_of (known_at d scope) c ≡ callees.Baseless → ⊥
no-baseless d keeps scope (tree.call (receivers.This at) name mark args) used e =
    no-this ((known_at d scope).own_method name.text.0) ((known_at d scope).is_method name.text.0) e
no-baseless d keeps scope (tree.call (receivers.Path path) name mark args) used e =
    no-sorted d keeps scope path name.text.0 (path_sort (known_at d scope) path) refl
    (λ none. keeps (unknown path.name) (rules.unknown_variable scope path (parts-used d scope (tree.call (receivers.Path path) name mark args) (uses.variable path) used (inl refl)) none)) e

callee-known : (d : Declared) → KeepsUses d → (scope : Scope) (c : CallTree) → IsUsed d scope (uses.method c) → (callee : Callee) → callee_of (known_at d scope) c ≡ callee → is_known callee ≡ true
callee-known d keeps scope c used callees.Missing is = absurd (keeps (unknown (call_name c)) (rules.unknown_method scope c used is))
callee-known d keeps scope c used callees.Foreign is = absurd (keeps (record { rule = N8; at = (call_name c).at }) (rules.foreign_method scope c used is))
callee-known d keeps scope c used callees.Baseless is = absurd (no-baseless d keeps scope c used is)
callee-known d keeps scope c used (callees.Own m) is = refl
callee-known d keeps scope c used (callees.Hidden m) is = refl
callee-known d keeps scope c used (callees.Base sig) is = refl

use-means : (d : Declared) → KeepsUses d → (scope : Scope) (usage : Use) → IsUsed d scope usage → has_meaning (known_at d scope) usage ≡ true
use-means d keeps scope (uses.own_status text) used = some-so (status_named d text.text.0) (λ none. keeps (unknown text) (rules.unknown_status scope text used none))
use-means d keeps scope (uses.base_status text) used = true-so (is_base_status (text_of d text.text.0)) (λ none. keeps (unknown text) (rules.unknown_base_status scope text used none))
use-means d keeps scope (uses.variable path) used = some-so (path_sort (known_at d scope) path) (λ none. keeps (unknown path.name) (rules.unknown_variable scope path used none))
use-means d keeps scope (uses.structure name) used = some-so (struct_named d name.text.0) (λ none. keeps (unknown name) (rules.unknown_struct scope name used none))
use-means d keeps scope (uses.method c) used = callee-known d keeps scope c used (callee_of (known_at d scope) c) refl

all-so : (k : Known) (us : List Use) → ((u : Use) → In u us → has_meaning k u ≡ true) → list_all (has_meaning k) us ≡ true
all-so k [] h = refl
all-so k (u ∷ us) h = both-so (has_meaning k u) (list_all (has_meaning k) us) (h u (inl refl)) (all-so k us (λ v m. h v (inr m)))

call-means : (d : Declared) → KeepsUses d → (scope : Scope) (c : CallTree) → IsUsed d scope (uses.method c) → call_has_meaning (known_at d scope) c ≡ true
call-means d keeps scope (tree.call on name mark args) used =
    both-so (is_known (callee_of (known_at d scope) (tree.call on name mark args))) (list_all (has_meaning (known_at d scope)) (given_uses args)) (use-means d keeps scope (uses.method (tree.call on name mark args)) used)
    (all-so (known_at d scope) (given_uses args) (λ u m. use-means d keeps scope u (parts-used d scope (tree.call on name mark args) u used (in-behind u (receiver_uses on) (given_uses args) m))))

keeps-uses : (d : Declared) → uses_found d None ≡ None → KeepsUses d
keeps-uses d e = subst (Decides (UseBreaks d)) e (uses_found-decides d)

pub uses-have-meaning : (d : Declared) → uses_found d None ≡ None → (scope : Scope) (usage : Use) → IsUsed d scope usage → has_meaning (known_at d scope) usage ≡ true
uses-have-meaning d e scope usage used = use-means d (keeps-uses d e) scope usage used

pub calls-have-meaning : (d : Declared) → uses_found d None ≡ None → (scope : Scope) (c : CallTree) → IsUsed d scope (uses.method c) → call_has_meaning (known_at d scope) c ≡ true
calls-have-meaning d e scope c used = call-means d (keeps-uses d e) scope c used

callee-open : (d : Declared) → KeepsUses d → (scope : Scope) (c : CallTree) → IsUsed d scope (uses.method c) → (callee : Callee) → callee_of (known_at d scope) c ≡ callee → is_open callee ≡ true
callee-open d keeps scope c used callees.Missing is = absurd (keeps (unknown (call_name c)) (rules.unknown_method scope c used is))
callee-open d keeps scope c used callees.Foreign is = absurd (keeps (record { rule = N8; at = (call_name c).at }) (rules.foreign_method scope c used is))
callee-open d keeps scope c used callees.Baseless is = absurd (no-baseless d keeps scope c used is)
callee-open d keeps scope c used (callees.Hidden m) is = absurd (keeps (record { rule = N8; at = (call_name c).at }) (rules.private_method scope c m used is))
callee-open d keeps scope c used (callees.Own m) is = refl
callee-open d keeps scope c used (callees.Base sig) is = refl

false-so : (t : Bool) → (t ≡ true → ⊥) → t ≡ false
false-so true h = absurd (h refl)
false-so false h = refl

-- And every call fits its method.
pub calls-fit : (d : Declared) → uses_found d None ≡ None → (scope : Scope) (c : CallTree) → IsUsed d scope (uses.method c) → Fits d scope c
calls-fit d e scope c used =
    let keeps = keeps-uses d e in
    let m = call-means d keeps scope c used in
    record {
      open_here = callee-open d keeps scope c used (callee_of (known_at d scope) c) refl;
      once = λ later h. keeps (twice later) (rules.given_twice scope c later used m h);
      apart = λ at h. keeps (record { rule = N2; at = at }) (rules.passed_twice scope c at used m h);
      wanted = λ i given h. true-so (is_parameter (text_of d) (call_parameters d scope c) given.name.text.0)
          (λ none. keeps (record { rule = N6; at = given.name.at }) (rules.unknown_argument scope c i given used m h none));
      whole = false-so (lacks_one (text_of d) (call_parameters d scope c) (given_texts c)) (λ h. keeps (record { rule = N7; at = (call_name c).at }) (rules.missing_argument scope c used m h));
    }
