-- The tests of types tell what the rules ask.
use Rattle.std.proofs.Common.{◌≡◌, ℕ, zero, suc, Bool, true, false, List, [], ◌∷◌, Option, Some, None, refl, sym, ap}
use Rattle.std.specs.Prelude.{bytes_eq, is_some, is_none}
use Rattle.std.specs.Bool.{Decides}
use Rattle.std.proofs.lemmas.Bool.{leb-true, le-leb}
use Rattle.std.proofs.lemmas.Bool.Decides.{Decides-and, Decides-like}
use Rattle.std.proofs.lemmas.Slice.Eq.{bytes_eq-Decides}
use Rattle.c_text.specs.declared.kinds.CNumber.{CNumber}
use Rattle.c_text.specs.declared.kinds.CNumber.TheVariants as literal
use Rattle.c_text.specs.declared.kinds.CUint.{CUint}
use Rattle.c_text.specs.declared.kinds.CUint.TheVariants.{U8, U16, U32, U64}
use Rattle.c_text.specs.CTree.{TypeTree, uint, size, boolean, uint_pointer, struct_pointer, text, FieldKind, plain, inside, FieldTree, ItemTree, struct_item, text_item, function_item}
use Rattle.c_meaning.specs.CTypes.{structs_of, struct_named, Target, cell, object, byte, ExprType, numbers, points_to, zero_literal, is_numeric, is_known, same_uint, same_type, same_target, assignable}
use Rattle.c_meaning.specs.UnitForm.{is_value, is_length, is_result, formed_field}
use Rattle.c_form_laws.specs.Places.{At}
use Rattle.c_form_laws.specs.TypeRules.{IsNumeric, IsValue, IsStruct, IsKnown, IsLength, IsField, IsResult, Fits}

pub some-decides : {A : Type 0} (o : Option A) → Decides (is_some o) ((x : A) × (o ≡ Some x))
some-decides None = (λ h. absurd (cc h), λ h. absurd (let e = h.1 in cc e))
some-decides (Some x) = (λ _. (x, refl), λ _. refl)

pub none-decides : {A : Type 0} (o : Option A) → Decides (is_none o) (o ≡ None)
none-decides None = (λ _. refl, λ _. refl)
none-decides (Some x) = (λ h. absurd (cc h), λ h. absurd (cc h))

-- Equal types, by the tests.
uint-decides : (a b : CUint) → Decides (same_uint a b) (a ≡ b)
uint-decides U8 U8 = (λ _. refl, λ _. refl)
uint-decides U8 U16 = (λ h. absurd (cc h), λ h. absurd (cc h))
uint-decides U8 U32 = (λ h. absurd (cc h), λ h. absurd (cc h))
uint-decides U8 U64 = (λ h. absurd (cc h), λ h. absurd (cc h))
uint-decides U16 U8 = (λ h. absurd (cc h), λ h. absurd (cc h))
uint-decides U16 U16 = (λ _. refl, λ _. refl)
uint-decides U16 U32 = (λ h. absurd (cc h), λ h. absurd (cc h))
uint-decides U16 U64 = (λ h. absurd (cc h), λ h. absurd (cc h))
uint-decides U32 U8 = (λ h. absurd (cc h), λ h. absurd (cc h))
uint-decides U32 U16 = (λ h. absurd (cc h), λ h. absurd (cc h))
uint-decides U32 U32 = (λ _. refl, λ _. refl)
uint-decides U32 U64 = (λ h. absurd (cc h), λ h. absurd (cc h))
uint-decides U64 U8 = (λ h. absurd (cc h), λ h. absurd (cc h))
uint-decides U64 U16 = (λ h. absurd (cc h), λ h. absurd (cc h))
uint-decides U64 U32 = (λ h. absurd (cc h), λ h. absurd (cc h))
uint-decides U64 U64 = (λ _. refl, λ _. refl)

pub type-decides : (a b : TypeTree) → Decides (same_type a b) (a ≡ b)
type-decides (uint a) (uint b) = Decides-like (same_uint a b) (λ e. ap uint e) (λ e. cc e) (uint-decides a b)
type-decides (uint a) size = (λ h. absurd (cc h), λ h. absurd (cc h))
type-decides (uint a) boolean = (λ h. absurd (cc h), λ h. absurd (cc h))
type-decides (uint a) (uint_pointer b) = (λ h. absurd (cc h), λ h. absurd (cc h))
type-decides (uint a) (struct_pointer b) = (λ h. absurd (cc h), λ h. absurd (cc h))
type-decides (uint a) text = (λ h. absurd (cc h), λ h. absurd (cc h))
type-decides size (uint b) = (λ h. absurd (cc h), λ h. absurd (cc h))
type-decides size size = (λ _. refl, λ _. refl)
type-decides size boolean = (λ h. absurd (cc h), λ h. absurd (cc h))
type-decides size (uint_pointer b) = (λ h. absurd (cc h), λ h. absurd (cc h))
type-decides size (struct_pointer b) = (λ h. absurd (cc h), λ h. absurd (cc h))
type-decides size text = (λ h. absurd (cc h), λ h. absurd (cc h))
type-decides boolean (uint b) = (λ h. absurd (cc h), λ h. absurd (cc h))
type-decides boolean size = (λ h. absurd (cc h), λ h. absurd (cc h))
type-decides boolean boolean = (λ _. refl, λ _. refl)
type-decides boolean (uint_pointer b) = (λ h. absurd (cc h), λ h. absurd (cc h))
type-decides boolean (struct_pointer b) = (λ h. absurd (cc h), λ h. absurd (cc h))
type-decides boolean text = (λ h. absurd (cc h), λ h. absurd (cc h))
type-decides (uint_pointer a) (uint b) = (λ h. absurd (cc h), λ h. absurd (cc h))
type-decides (uint_pointer a) size = (λ h. absurd (cc h), λ h. absurd (cc h))
type-decides (uint_pointer a) boolean = (λ h. absurd (cc h), λ h. absurd (cc h))
type-decides (uint_pointer a) (uint_pointer b) = Decides-like (same_uint a b) (λ e. ap uint_pointer e) (λ e. cc e) (uint-decides a b)
type-decides (uint_pointer a) (struct_pointer b) = (λ h. absurd (cc h), λ h. absurd (cc h))
type-decides (uint_pointer a) text = (λ h. absurd (cc h), λ h. absurd (cc h))
type-decides (struct_pointer a) (uint b) = (λ h. absurd (cc h), λ h. absurd (cc h))
type-decides (struct_pointer a) size = (λ h. absurd (cc h), λ h. absurd (cc h))
type-decides (struct_pointer a) boolean = (λ h. absurd (cc h), λ h. absurd (cc h))
type-decides (struct_pointer a) (uint_pointer b) = (λ h. absurd (cc h), λ h. absurd (cc h))
type-decides (struct_pointer a) (struct_pointer b) = Decides-like (bytes_eq a b) (λ e. ap struct_pointer e) (λ e. cc e) (bytes_eq-Decides a b)
type-decides (struct_pointer a) text = (λ h. absurd (cc h), λ h. absurd (cc h))
type-decides text (uint b) = (λ h. absurd (cc h), λ h. absurd (cc h))
type-decides text size = (λ h. absurd (cc h), λ h. absurd (cc h))
type-decides text boolean = (λ h. absurd (cc h), λ h. absurd (cc h))
type-decides text (uint_pointer b) = (λ h. absurd (cc h), λ h. absurd (cc h))
type-decides text (struct_pointer b) = (λ h. absurd (cc h), λ h. absurd (cc h))
type-decides text text = (λ _. refl, λ _. refl)

pub target-decides : (a b : Target) → Decides (same_target a b) (a ≡ b)
target-decides (cell a) (cell b) = Decides-like (same_type a b) (λ e. ap cell e) (λ e. cc e) (type-decides a b)
target-decides (cell a) (object b) = (λ h. absurd (cc h), λ h. absurd (cc h))
target-decides (cell a) byte = (λ h. absurd (cc h), λ h. absurd (cc h))
target-decides (object a) (cell b) = (λ h. absurd (cc h), λ h. absurd (cc h))
target-decides (object a) (object b) = Decides-like (bytes_eq a b) (λ e. ap object e) (λ e. cc e) (bytes_eq-Decides a b)
target-decides (object a) byte = (λ h. absurd (cc h), λ h. absurd (cc h))
target-decides byte (cell b) = (λ h. absurd (cc h), λ h. absurd (cc h))
target-decides byte (object b) = (λ h. absurd (cc h), λ h. absurd (cc h))
target-decides byte byte = (λ _. refl, λ _. refl)

-- Numbers and values.
pub numeric-decides : (t : TypeTree) → Decides (is_numeric t) (IsNumeric t)
numeric-decides (uint u) = (λ _. tt, λ _. refl)
numeric-decides size = (λ _. tt, λ _. refl)
numeric-decides boolean = (λ _. tt, λ _. refl)
numeric-decides (uint_pointer u) = (λ h. absurd (cc h), λ h. absurd h)
numeric-decides (struct_pointer name) = (λ h. absurd (cc h), λ h. absurd h)
numeric-decides text = (λ h. absurd (cc h), λ h. absurd h)

pub value-decides : (t : TypeTree) → Decides (is_value t) (IsValue t)
value-decides text = (λ _. tt, λ _. refl)
value-decides (uint u) = numeric-decides (uint u)
value-decides size = numeric-decides size
value-decides boolean = numeric-decides boolean
value-decides (uint_pointer u) = numeric-decides (uint_pointer u)
value-decides (struct_pointer name) = numeric-decides (struct_pointer name)

pub result-decides : (t : Option TypeTree) → Decides (is_result t) (IsResult t)
result-decides None = (λ _. tt, λ _. refl)
result-decides (Some t) = value-decides t

-- Structs by their names.
module _ (name : List ℕ) where
  struct_later : (x : ItemTree) (items : List ItemTree) → IsStruct items name → IsStruct (x ∷ items) name
  struct_later x items h = (h.0, (suc h.1.0, h.1.1))

  -- An item that isn't the struct.
  struct_back : (x : ItemTree) (items : List ItemTree) → ((fields : List FieldTree) → x ≡ struct_item fields name → ⊥) → IsStruct (x ∷ items) name → IsStruct items name
  struct_back x items other h = by h.0 h.1.0 h.1.1
    where
      by : (fields : List FieldTree) (i : ℕ) → At (x ∷ items) i (struct_item fields name) → IsStruct items name
      by fields zero e = absurd (other fields (cc e))
      by fields (suc i) e = (fields, (i, e))

  pub struct-decides : (items : List ItemTree) → Decides (is_some (struct_named (structs_of items) name)) (IsStruct items name)
  struct-decides [] = (λ h. absurd (cc h), λ h. absurd (let e = h.1.1 in cc e))
  struct-decides (text_item n bytes ∷ items) = Decides-like _ (struct_later (text_item n bytes) items) (struct_back (text_item n bytes) items (λ fields e. cc e)) (struct-decides items)
  struct-decides (function_item l t n params locals body ∷ items) = Decides-like _ (struct_later (function_item l t n params locals body) items) (struct_back (function_item l t n params locals body) items (λ fields e. cc e)) (struct-decides items)
  struct-decides (struct_item fields n ∷ items) = by (bytes_eq n name) refl (struct-decides items)
    where
      by : (b : Bool) → bytes_eq n name ≡ b → Decides (is_some (struct_named (structs_of items) name)) (IsStruct items name) → Decides (is_some (struct_named (structs_of (struct_item fields n ∷ items)) name)) (IsStruct (struct_item fields n ∷ items) name)
      by true h more =
          let same : n ≡ name = (bytes_eq-Decides n name).0 h in
          rw h (λ _. (fields, (0, ap (λ m. Some (struct_item fields m)) same)), λ _. refl)
      by false h more =
          rw h (Decides-like _ (struct_later (struct_item fields n) items)
          (struct_back (struct_item fields n) items (λ others e. let same : n ≡ name = cc e in let t : bytes_eq n name ≡ true = (bytes_eq-Decides n name).1 same in cc (h, t))) more)

pub known-decides : (before : List ItemTree) (t : TypeTree) → Decides (is_known (structs_of before) t) (IsKnown before t)
known-decides before (struct_pointer name) = struct-decides name before
known-decides before (uint u) = (λ _. tt, λ _. refl)
known-decides before size = (λ _. tt, λ _. refl)
known-decides before boolean = (λ _. tt, λ _. refl)
known-decides before (uint_pointer u) = (λ _. tt, λ _. refl)
known-decides before text = (λ _. tt, λ _. refl)

-- Fields.
length-decides : (count : Option CNumber) → Decides (is_length count) (IsLength count)
length-decides None = (λ _. tt, λ _. refl)
length-decides (Some (literal.Int n)) = (λ h. leb-true 1 n h, λ h. le-leb 1 n h)
length-decides (Some (literal.Unsigned n)) = (λ h. absurd (cc h), λ h. absurd h)
length-decides (Some (literal.Long n)) = (λ h. absurd (cc h), λ h. absurd h)

field_parts : (before : List ItemTree) (kind : FieldKind) (name : List ℕ) (count : Option CNumber) → Decides (formed_field (structs_of before) (record { kind = kind; name = name; count = count })) (IsField before kind count)
field_parts before (plain t) name count = Decides-and (is_value t) (is_length count) (value-decides t) (length-decides count)
field_parts before (inside of) name count = Decides-and (is_some (struct_named (structs_of before) of)) (is_none count) (struct-decides of before) (none-decides count)

pub field-decides : (before : List ItemTree) (f : FieldTree) → Decides (formed_field (structs_of before) f) (IsField before f.kind f.count)
field-decides before f = field_parts before f.kind f.name f.count

-- What goes to a cell.
pub fits-decides : (t : TypeTree) (v : ExprType) → Decides (assignable t v) (Fits t v)
fits-decides t zero_literal = (λ _. tt, λ _. refl)
fits-decides t (numbers c) = numeric-decides t
fits-decides (uint u) (points_to p) = (λ h. absurd (cc h), λ h. absurd (cc h))
fits-decides size (points_to p) = (λ h. absurd (cc h), λ h. absurd (cc h))
fits-decides boolean (points_to p) = (λ h. absurd (cc h), λ h. absurd (cc h))
fits-decides (uint_pointer u) (points_to p) = Decides-like (same_target p (cell (uint u))) (λ e. ap points_to (sym e)) (λ e. cc e) (target-decides p (cell (uint u)))
fits-decides (struct_pointer name) (points_to p) = Decides-like (same_target p (object name)) (λ e. ap points_to (sym e)) (λ e. cc e) (target-decides p (object name))
fits-decides text (points_to p) = Decides-like (same_target p byte) (λ e. ap points_to (sym e)) (λ e. cc e) (target-decides p byte)
