-- Fields and structs by their parts.
use Rattle.std.proofs.Common.{◌≡◌, ◌∙◌, ap, sym, subst, ℕ, ◌<◌, Bool, if◌then◌else◌, None, Some, Result, Ok, Err, OnOk, ◌&&◌, true, false, nat_eq, List, [], ◌∷◌, ◌++◌, length, map, refl, arith}
use Rattle.std.specs.Prelude.{nat_lt, slice_get}
use Rattle.std.proofs.lemmas.Bool.Decides.{nat_tests}
use Rattle.std.proofs.lemmas.Option.{same_Some}
use Rattle.wf_text.specs.declared.faults.NoMemory.{NoMemory}
use Rattle.wf_ast.specs.declared.declarations.Method.{Method}
use Rattle.wf_ast.specs.declared.declarations.Var.{Var}
use Rattle.wf_ast.specs.declared.typed_code.Block.{Block}
use Rattle.wf_ast.specs.declared.typed_nodes.TypedNodes.{TypedNodes}
use Rattle.wf_ast.specs.declared.types.Ty.{Ty}
use Rattle.wf_ast.specs.declared.types.Ty.TheVariants as types
use Rattle.wf_text.specs.declared.numbers.StructId.{StructId}
use Rattle.wf_ast.specs.TypedInvariant.{IsTyped}
use Rattle.wf_ast.specs.TypedPackage.{MethodTree, method_of, package_of, variable_of}
use Rattle.wf_ast.specs.TypedTrees.{text_of}
use Rattle.wf_ast.specs.WellTyped.{is_coroutine, may_be_field}
use Rattle.wf_base.specs.declared.widths.Width.{Width}
use Rattle.wf_base.specs.BaseTable.{bits_of}
use Rattle.c_text.specs.declared.ids.CNameId.{CNameId}
use Rattle.c_text.specs.declared.kinds.CNumber.{CNumber}
use Rattle.c_text.specs.declared.kinds.CUint.{CUint}
use Rattle.c_text.specs.declared.kinds.CUint.TheVariants.{U16}
use Rattle.c_text.specs.declared.nodes.CType.{CType}
use Rattle.c_text.specs.declared.nodes.CType.TheVariants as type
use Rattle.c_text.specs.declared.nodes.CFieldType.TheVariants as held
use Rattle.c_text.specs.declared.nodes.CField.{CField}
use Rattle.c_text.specs.declared.nodes.CItem.TheVariants as item
use Rattle.c_text.specs.CFits.{HasType}
use Rattle.c_text.specs.CNodes.{Nodes, bytes_at, type_in, field_tree}
use Rattle.c_text.specs.CSpelling.{IsLiteral}
use Rattle.c_text.specs.CTree.{TypeTree, uint, plain, FieldTree, struct_item}
use Rattle.wf_exprs.specs.Grown.{Grows, HasNamed}
use Rattle.wf_exprs.specs.Names.{point_field, saved_field}
use Rattle.wf_exprs.specs.Words.{literal, width_of}
use Rattle.wf_lower_stmts.specs.BodyNodes.{started_of}
use Rattle.wf_lower_stmts.specs.declared.walks.StartedNumbers.{StartedNumbers}
use Rattle.wf_lower.specs.Made.{AddsFields, HasFieldTree, HasFieldTrees, HasItemTree, IsPlain}
use Rattle.wf_lower.specs.Structs.{kept_field, kept_of, method_fields, number_fields}
use Rattle.wf_lower.specs.Unit.{field, kept_fields, kept_type}
use Rattle.wf_lower.proofs.Known.{count_same, made_there}
use Rattle.wf_lower.proofs.PartLaws.{method_keeps, method_keeps_none}
use Rattle.wf_lower.proofs.Kept.{keeps, type_there, type_same, fields_kept, no_fields}

pub one_field_as : {nodes : Nodes} {f : CField} {t u : FieldTree} → t ≡ u → HasFieldTree nodes f t → HasFieldTree nodes f u
one_field_as e h = record { there = h.there; is = h.is ∙ e }

-- A field that holds one value.
pub plain_made : (nodes : Nodes) (kind : CType) (name : CNameId) (f : CField) → f ≡ record { kind = held.Plain kind; name = name; count = None } → HasType nodes kind → name.0 < length nodes.names → HasFieldTree nodes f (field (type_in nodes.names kind) (bytes_at nodes.names name.0))
plain_made nodes kind name f e h k =
    let P : CField → Type 0 = λ g. HasFieldTree nodes g (field (type_in nodes.names kind) (bytes_at nodes.names name.0)) in
    subst P (sym e) (record { there = (h, k, tt); is = refl })

pub plain_put : {a b : Nodes} (kind : CType) (name : CNameId) (spelt : List ℕ) (f : CField) → f ≡ record { kind = held.Plain kind; name = name; count = None } → Grows a b → HasType a kind → HasNamed b name.0 spelt → HasFieldTree b f (field (type_in a.names kind) spelt)
plain_put {a} {b} kind name spelt f e g h k =
    one_field_as (ap (λ t. field t (bytes_at b.names name.0)) (type_same a b (keeps g) kind h) ∙ ap (field (type_in a.names kind)) k.is) (plain_made b kind name f e (type_there a b (keeps g) kind h) k.there)

pub uint_made : (nodes : Nodes) (w : CUint) (width : Width) (name : CNameId) (f : CField) → w ≡ width_of (bits_of width) → f ≡ record { kind = held.Plain (type.Uint w); name = name; count = None } → name.0 < length nodes.names → HasFieldTree nodes f (field (uint (width_of (bits_of width))) (bytes_at nodes.names name.0))
uint_made nodes w width name f e is k = one_field_as (ap (λ v. field (uint v) (bytes_at nodes.names name.0)) e) (plain_made nodes (type.Uint w) name f is tt k)

-- A field of numbers.
abbrev counted : CUint → List ℕ → CNumber → FieldTree
counted w name n = record { kind = plain (uint w); name = name; count = Some n }

pub array_made : (nodes : Nodes) (w : CUint) (width : Width) (name : CNameId) (n : CNumber) (count : ℕ) → w ≡ width_of (bits_of width) → n ≡ literal count → IsLiteral n → name.0 < length nodes.names
    → HasFieldTree nodes (record { kind = held.Plain (type.Uint w); name = name; count = Some n }) (record { kind = plain (uint (width_of (bits_of width))); name = bytes_at nodes.names name.0; count = Some (literal count) })
array_made nodes w width name n count e is lawful k =
    record { there = (tt, k, lawful); is = ap (λ v. counted v (bytes_at nodes.names name.0) n) e ∙ ap (counted (width_of (bits_of width)) (bytes_at nodes.names name.0)) is }

-- The struct in a field is one of the package's.
pub part_there : (nodes : TypedNodes) (ty : Ty) (s : StructId) → ty ≡ types.Part s → may_be_field (package_of nodes) ty ≡ true → s.0 < length nodes.structs
part_there nodes ty s e h =
    let same = count_same nodes in
    let k : nat_lt s.0 (length (package_of nodes).structs) ≡ true = ap (may_be_field (package_of nodes)) (sym e) ∙ h in
    grind (arith, nat_tests, k, same)

-- A field of a type without names.
pub kept_put : {b : Nodes} (kind : CType) (tree : TypeTree) (spelt : List ℕ) (name : CNameId) → IsPlain kind tree → HasNamed b name.0 spelt → field (type_in b.names kind) (bytes_at b.names name.0) ≡ field tree spelt
kept_put {b} kind tree spelt name nameless h = ap (λ t. field t (bytes_at b.names name.0)) (nameless.is b.names) ∙ ap (field tree) h.is

-- The field that keeps a local.
pub kept_made : {b : Nodes} (nodes : TypedNodes) (method : List ℕ) (x : Var) (local : List ℕ) (kind : CType) (name : CNameId) → text_of nodes x.name ≡ local → IsPlain kind (kept_type x.ty) → HasNamed b name.0 (saved_field method local)
    → field (type_in b.names kind) (bytes_at b.names name.0) ∷ [] ≡ kept_field method (variable_of nodes x) ∷ []
kept_made {b} nodes method x local kind name same nameless h =
    ap (λ f. f ∷ []) (kept_put kind (kept_type x.ty) (saved_field method local) name nameless h ∙ ap (λ l. field (kept_type x.ty) (saved_field method l)) (sym same))

-- What a started statement has.
pub number_made : {b : Nodes} (there : Bool) (ty : CUint) (spelt : List ℕ) (name : CNameId) → there ≡ true → HasNamed b name.0 spelt → field (uint ty) (bytes_at b.names name.0) ∷ [] ≡ (if there then field (uint ty) spelt ∷ [] else [])
number_made {b} there ty spelt name is h = ap (λ n. field (uint ty) n ∷ []) h.is ∙ sym (ap (λ t. if t then field (uint ty) spelt ∷ [] else []) is)

-- What a coroutine keeps.
pub coroutine_made : (nodes : TypedNodes) (m : Method) (body : Block) (name : List ℕ) (locals : List Var) (started : StartedNumbers) → text_of nodes m.name ≡ name → locals ≡ m.locals → started ≡ started_of (method_of nodes m body)
    → field (uint U16) (point_field name) ∷ kept_fields name (map (variable_of nodes) locals) ++ number_fields name started ≡ kept_of (method_of nodes m body)
coroutine_made nodes m body name locals started e f g =
    ap (λ n. field (uint U16) (point_field n) ∷ kept_fields n (map (variable_of nodes) locals) ++ number_fields n started) (sym e)
    ∙ ap (λ xs. field (uint U16) (point_field (text_of nodes m.name)) ∷ kept_fields (text_of nodes m.name) (map (variable_of nodes) xs) ++ number_fields (text_of nodes m.name) started) f
    ∙ ap (λ s. field (uint U16) (point_field (text_of nodes m.name)) ∷ kept_fields (text_of nodes m.name) (map (variable_of nodes) m.locals) ++ number_fields (text_of nodes m.name) s) g

pub no_fields_as : {a b : Nodes} (fs : List CField) (ts : List FieldTree) → [] ≡ ts → Grows a b → AddsFields a b fs fs ts
no_fields_as {a} {b} fs ts e g = let P : List FieldTree → Type 0 = λ l. AddsFields a b fs fs l in subst P e (no_fields fs g)

-- A method keeps something in a struct, or nothing.
module _ (nodes : TypedNodes) (typed : IsTyped nodes) (n : ℕ) (m : Method) (h : slice_get nodes.methods n ≡ Some m) where
  pub coroutine_kept : (a b : Nodes) (fs gs : List CField) (r : Result (Unit {0}) NoMemory) (body : Block) → slice_get (package_of nodes).methods n ≡ Some (method_of nodes m body) → OnOk r (AddsFields a b fs gs (kept_of (method_of nodes m body)))
      → OnOk r ((method : MethodTree) → slice_get (package_of nodes).methods n ≡ Some method → AddsFields a b fs gs (kept_of method))
  coroutine_kept a b fs gs (Ok u) body k f = λ method e.
      let P : MethodTree → Type 0 = λ it. AddsFields a b fs gs (kept_of it) in
      subst P (same_Some _ _ (sym k ∙ e)) f
  coroutine_kept a b fs gs (Err refused) body k f = f

  test_same : (s : ℕ) (method : MethodTree) → slice_get (package_of nodes).methods n ≡ Some method → (nat_eq m.of.0 s && is_coroutine m.mark) ≡ (nat_eq method.of s && is_coroutine method.mark)
  test_same s method e =
      let made = made_there nodes typed n m h in
      ap (λ (it : MethodTree). nat_eq it.of s && is_coroutine it.mark) (same_Some (method_of nodes m made.0) method (sym made.1 ∙ e))

  pub coroutine_added : (a b : Nodes) (fs gs : List CField) (s : ℕ) (r : Result (Unit {0}) NoMemory) → (nat_eq m.of.0 s && is_coroutine m.mark) ≡ true
      → OnOk r ((method : MethodTree) → slice_get (package_of nodes).methods n ≡ Some method → AddsFields a b fs gs (kept_of method)) → OnOk r ((method : MethodTree) → slice_get (package_of nodes).methods n ≡ Some method → AddsFields a b fs gs (method_fields s method))
  coroutine_added a b fs gs s (Ok u) is f = λ method e.
      let P : List FieldTree → Type 0 = λ l. AddsFields a b fs gs l in
      subst P (method_keeps s method (sym (test_same s method e) ∙ is)) (f method e)
  coroutine_added a b fs gs s (Err refused) is f = f

  pub coroutine_none : {a b : Nodes} (s : ℕ) → (nat_eq m.of.0 s && is_coroutine m.mark) ≡ false → (fs : List CField) → Grows a b
      → (method : MethodTree) → slice_get (package_of nodes).methods n ≡ Some method → AddsFields a b fs fs (method_fields s method)
  coroutine_none {a} {b} s is fs g method e = no_fields_as fs (method_fields s method) (method_keeps_none s method (sym (test_same s method e) ∙ is)) g

-- A struct has a field.
some_field : (nodes : Nodes) (fs : List CField) (t : FieldTree) (ts : List FieldTree) → map (field_tree nodes.names) fs ≡ t ∷ ts → 0 < length fs
some_field nodes [] t ts h = absurd (cc h)
some_field nodes (f ∷ fs) t ts h = omega arith

pub struct_made : {a b : Nodes} (fs : List CField) (t : FieldTree) (ts : List FieldTree) (n : CNameId) (spelt : List ℕ) → Grows a b → HasFieldTrees a fs (t ∷ ts) → HasNamed b n.0 spelt → HasItemTree b (item.Struct fs n) (struct_item (t ∷ ts) spelt)
struct_made {a} {b} fs t ts n spelt g h k =
    let kept = fields_kept a b (keeps g) h in
    record {
      there = (some_field b fs t ts kept.are, kept.there, k.there);
      is = ap (λ l. struct_item l (bytes_at b.names n.0)) kept.are ∙ ap (struct_item (t ∷ ts)) k.is;
    }
