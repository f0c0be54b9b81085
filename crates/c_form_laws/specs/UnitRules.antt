-- The unit form in the words of the subject: what each item of a C text is to keep, given those before it, and what a
-- text is to keep as a whole (ISO/IEC 9899:1999, 6.2.1, 6.7, 6.9; docs/C-SUBSET.md, "The unit form").
use Rattle.std.specs.Prelude.{◌≡◌, ◌⊎◌, ◌<◌, ℕ, ⊤, List, [], ◌∷◌, ◌++◌, map, take, length, Option, Some, None, codes}
use Rattle.wf_text.specs.Surface.{Surface, PublicStruct}
use Rattle.c_text.specs.declared.kinds.CUint.TheVariants.{U8, U64}
use Rattle.c_text.specs.declared.kinds.Linkage.{Linkage}
use Rattle.c_text.specs.declared.kinds.Linkage.TheVariants.{External}
use Rattle.c_text.specs.CTree.{TypeTree, uint, size, boolean, uint_pointer, ExprTree, Code, plain, FieldTree, ParamTree, LocalTree, ItemTree, struct_item, text_item, function_item}
use Rattle.c_meaning.specs.CTypes.{CScope, scope_of, local_name, io_buffer}
use Rattle.c_meaning.specs.CRun.{struct_name}
use Rattle.c_meaning.specs.UnitForm.{Signature, signatures, item_name, checked}
use Rattle.c_form_laws.specs.Places.{At, Has, Each, AllDiffer}
use Rattle.c_form_laws.specs.TypeRules.{IsKnown, IsField, IsResult}
use Rattle.c_form_laws.specs.StatementRules.{GoesTo, LabelsDiffer, KeepsStatement, statements}

-- The library's functions are known, so nothing else has their names (7.1.3).
abbrev pub IsLibrary : List ℕ → Type 0
IsLibrary name = (name ≡ codes "memmove") ⊎ (name ≡ codes "memset")

-- One field of the struct of an io buffer.
abbrev pub buffer_field : TypeTree → List ℕ → FieldTree
buffer_field type name = record { kind = plain type; name = name; count = None }

-- The first item of every text.
abbrev pub buffer_item : ItemTree
buffer_item = struct_item (buffer_field (uint_pointer U8) (codes "ptr")
    ∷ buffer_field size (codes "len")
    ∷ buffer_field size (codes "wi")
    ∷ buffer_field size (codes "ri")
    ∷ buffer_field (uint U64) (codes "pos")
    ∷ buffer_field boolean (codes "closed") ∷ []) io_buffer

-- The fields of a struct (6.7.2.1).
pub record KeepsFields (before : List ItemTree) (fields : List FieldTree) : Type 0 where
  pub types : Each (λ i f. IsField before f.kind f.count) fields
  pub names : AllDiffer (map (λ f. f.name) fields)

-- A name of a function's own is that of no item, nor the library's (6.2.1).
abbrev pub IsOwnName : (all : List (List ℕ)) → List ℕ → Type 0
IsOwnName all name = (Has all name → ⊥) × (IsLibrary name → ⊥)

-- An initial value may go to its local (6.7.8p11).
abbrev pub MayBegin : CScope → TypeTree → Option ExprTree → Type 0
MayBegin scope t None = ⊤
MayBegin scope t (Some e) = GoesTo scope t e

-- A local's type is known, and its initial value knows the parameters and the locals before it.
abbrev pub KeepsLocal : (before : List ItemTree) → (known : List ParamTree) → LocalTree → Type 0
KeepsLocal before known l = IsKnown before l.kind × MayBegin (scope_of before known) l.kind l.initial

-- The parameters and locals of a function (6.2.1p4).
abbrev pub own_names : List ParamTree → List LocalTree → List ParamTree
own_names params locals = params ++ map local_name locals

-- A function, after the items `before`; `all` are the names of all items of the text (6.9.1).
pub record KeepsFunction (before : List ItemTree) (all : List (List ℕ)) (linkage : Linkage) (result : Option TypeTree) (params : List ParamTree) (locals : List LocalTree) (body : Code) : Type 0 where
  pub result_type : IsResult result
  pub params_known : Each (λ i p. IsKnown before p.kind) params
  pub names_differ : AllDiffer (map (λ it. it.name) (own_names params locals))
  pub names_own : Each (λ i it. IsOwnName all it.name) (own_names params locals)
  pub locals_kept : Each (λ i l. KeepsLocal before (own_names params (take i locals)) l) locals
  pub labels_differ : LabelsDiffer (statements body)
  pub statements_kept : Each (λ i l. KeepsStatement (checked before linkage result (own_names params locals) body) (statements body) i l.switched l.code) (statements body)

-- What stands in an item (6.7, 6.9).
abbrev pub KeepsContent : (before : List ItemTree) → (all : List (List ℕ)) → ItemTree → Type 0
KeepsContent before all (struct_item fields name) = KeepsFields before fields
KeepsContent before all (text_item name bytes) = ⊤
KeepsContent before all (function_item linkage result name params locals body) = KeepsFunction before all linkage result params locals body

-- The first item is the struct of an io buffer. Any other has a name that no item before it has, nor the library (6.9p5).
abbrev pub KeepsOwn : (before : List ItemTree) → (all : List (List ℕ)) → ItemTree → Type 0
KeepsOwn [] all item = item ≡ buffer_item
KeepsOwn before all item = (Has (map item_name before) (item_name item) → ⊥) × (IsLibrary (item_name item) → ⊥) × KeepsContent before all item

-- The item is this public function.
abbrev pub IsFunction : Signature → ItemTree → Type 0
IsFunction s item = (locals : List LocalTree) × (body : Code) × (item ≡ function_item External s.result_type s.name s.params locals body)

-- What has the name of a public function is that function, and what has the name of a public struct's type is a struct.
pub record MeetsSurface (p : Surface) (item : ItemTree) : Type 0 where
  pub functions : (s : Signature) → Has (signatures p) s → item_name item ≡ s.name → IsFunction s item
  pub structs : (it : PublicStruct) → Has p.structs it → item_name item ≡ struct_name p it → (fields : List FieldTree) × (item ≡ struct_item fields (struct_name p it))

-- An item, after the items `before`.
pub record KeepsItem (p : Surface) (before : List ItemTree) (all : List (List ℕ)) (item : ItemTree) : Type 0 where
  pub own : KeepsOwn before all item
  pub meets : MeetsSurface p item

-- The item with this number, given those before it.
abbrev pub KeepsItemAt : Surface → List ItemTree → ℕ → ItemTree → Type 0
KeepsItemAt p items i item = KeepsItem p (take i items) (map item_name items) item

-- There is an item, and each public function is there.
pub record IsWhole (p : Surface) (items : List ItemTree) : Type 0 where
  pub begins : (item : ItemTree) × At items 0 item
  pub functions : (s : Signature) → Has (signatures p) s → (item : ItemTree) × Has items item × IsFunction s item

-- The unit form.
pub record KeepsUnitForm (p : Surface) (items : List ItemTree) : Type 0 where
  pub each : Each (KeepsItemAt p items) items
  pub whole : IsWhole p items

-- The item with number `n` is the first that breaks a rule of its own.
pub record BreaksItem (p : Surface) (items : List ItemTree) (n : ℕ) : Type 0 where
  pub item : ItemTree
  pub there : At items n item
  pub before : (i : ℕ) (other : ItemTree) → i < n → At items i other → KeepsItemAt p items i other
  pub breaks : KeepsItemAt p items n item → ⊥

-- No item breaks a rule of its own, but the text isn't whole; `n` is the number of items.
pub record LacksItem (p : Surface) (items : List ItemTree) (n : ℕ) : Type 0 where
  pub counts : n ≡ length items
  pub each : Each (KeepsItemAt p items) items
  pub lacks : IsWhole p items → ⊥

-- The unit form is broken at this number.
abbrev pub BreaksAt : Surface → List ItemTree → ℕ → Type 0
BreaksAt p items n = BreaksItem p items n ⊎ LacksItem p items n
