-- What a call can't reach stays as it was: expressions.
use Rattle.std.proofs.Common.{◌≡◌, ℕ, zero, suc, ◌<◌, Bool, true, false, List, [], ◌∷◌, Option, Some, None, refl, length}
use Rattle.std.specs.Prelude.{if◌then◌else◌, nat_eq, nat_lt, slice_get, option_map, option_and_then, position, bytes_eq, ℤ}
use Rattle.std.specs.List.{position_or_len}
use Rattle.std.proofs.lemmas.Bool.{ltb-true}
use Rattle.c_text.specs.declared.kinds.COp.{COp}
use Rattle.c_text.specs.declared.kinds.COp.TheVariants.{Add}
use Rattle.c_text.specs.declared.kinds.CUnary.TheVariants.{Not, Complement, Address}
use Rattle.c_text.specs.CTree.{TypeTree, ExprTree, number, variable, member, element, pointed, operation, unary, cast, choice, called, Args, no_arg, expr_arg, sizeof_arg}
use Rattle.c_meaning.specs.CValues.{Number, Pointer, to_object, CValue, numeric, address, null_pointer, whole, holds, operated, compared_places}
use Rattle.c_meaning.specs.CMemory.{CellType, u8, u16, u32, u64, flag, pointer, Cell, num, null, at, unset, Field, cells, part, Object, Memory, cell_of, value_of, field_at, cells_of, cells_at, cell_at, part_of, loaded, offset, offset_object, moved_in}
use Rattle.c_meaning.specs.CTypes.{ExprType, numbers, points_to, zero_literal, Held, one, fixed, many, inner, character, characters, type_of, held_of, variable_held, member_held, element_held, pointed_held, choice_type}
use Rattle.c_meaning.specs.CExprs.{Surroundings, cell_type, as_type, named_place, variable_place, field_place, field_number, pointed_place, member_place, element_place, held_value, address_of, truth_value, and_also, or_else, moved_pointer, sum_value, other_value, Combination, conjunction, disjunction, addition, other, combination_of, combined_by, combined, from_left, is_object_pointer, complement_of, chosen, as_expr_type, choice_value, all_some, value, place, operand_values, arg_values}
use Rattle.c_meaning.specs.Reach.{CellIn, CellsIn, FieldIn, ObjectIn, FoundIn, IsClosed, ValueIn, ValuesIn}

module _ (inside : ℕ → Bool) where
  abbrev pub PointerIn : Option Pointer → Type 0
  PointerIn None = Unit {0}
  PointerIn (Some p) = inside p.object ≡ true

  abbrev pub OptIn : Option CValue → Type 0
  OptIn None = Unit {0}
  OptIn (Some v) = ValueIn inside v

  abbrev pub OptsIn : List (Option CValue) → Type 0
  OptsIn [] = Unit {0}
  OptsIn (v ∷ vs) = OptIn v × OptsIn vs

  abbrev pub ListIn : Option (List CValue) → Type 0
  ListIn None = Unit {0}
  ListIn (Some vs) = ValuesIn inside vs

  abbrev pub FldIn : Option Field → Type 0
  FldIn None = Unit {0}
  FldIn (Some field) = FieldIn inside field

  abbrev pub CelsIn : Option (CellType × List Cell) → Type 0
  CelsIn None = Unit {0}
  CelsIn (Some it) = CellsIn inside it.1

  abbrev pub CelIn : Option (CellType × Cell) → Type 0
  CelIn None = Unit {0}
  CelIn (Some it) = CellIn inside it.1

  abbrev pub OneIn : Option Cell → Type 0
  OneIn None = Unit {0}
  OneIn (Some cell) = CellIn inside cell

  -- Fields and cells of an object of the set.
  pub get_field_in : (fields : Object) (f : ℕ) → ObjectIn inside fields → FldIn (slice_get fields f)
  get_field_in [] f h = tt
  get_field_in (x ∷ xs) zero h = h.0
  get_field_in (x ∷ xs) (suc f) h = get_field_in xs f h.1

  pub get_cell_in : (them : List Cell) (i : ℕ) → CellsIn inside them → OneIn (slice_get them i)
  get_cell_in [] i h = tt
  get_cell_in (x ∷ xs) zero h = h.0
  get_cell_in (x ∷ xs) (suc i) h = get_cell_in xs i h.1

  field_of_found : (found : Option Object) (f : ℕ) → FoundIn inside found → FldIn (option_and_then (λ fields. slice_get fields f) found)
  field_of_found None f h = tt
  field_of_found (Some fields) f h = get_field_in fields f h

  pub field_at_in : (memory : Memory) → IsClosed inside memory → (o f : ℕ) → inside o ≡ true → FldIn (field_at memory o f)
  field_at_in memory closed o f h = field_of_found (slice_get memory o) f (closed.by o h)

  cells_of_field : (found : Option Field) → FldIn found → CelsIn (option_and_then cells_of found)
  cells_of_field None h = tt
  cells_of_field (Some (cells type them)) h = h
  cells_of_field (Some (part object)) h = tt

  pub cells_at_in : (memory : Memory) → IsClosed inside memory → (o f : ℕ) → inside o ≡ true → CelsIn (cells_at memory o f)
  cells_at_in memory closed o f h = cells_of_field (field_at memory o f) (field_at_in memory closed o f h)

  cell_of_cells : (found : Option (CellType × List Cell)) (i : ℕ) → CelsIn found → CelIn (option_and_then (λ it. option_map (λ cell. (it.0, cell)) (slice_get it.1 i)) found)
  cell_of_cells None i h = tt
  cell_of_cells (Some it) i h = mapped (slice_get it.1 i) (get_cell_in it.1 i h)
    where
      mapped : (c : Option Cell) → OneIn c → CelIn (option_map (λ cell. (it.0, cell)) c)
      mapped None k = tt
      mapped (Some cell) k = k

  pub cell_at_in : (memory : Memory) → IsClosed inside memory → (p : Pointer) → inside p.object ≡ true → CelIn (cell_at memory p)
  cell_at_in memory closed p h = cell_of_cells (cells_at memory p.object p.field) p.index (cells_at_in memory closed p.object p.field h)

  -- Values and cells stand for each other.
  pub value_of_in : (type : CellType) (cell : Cell) → CellIn inside cell → OptIn (value_of type cell)
  value_of_in u8 (num n) h = tt
  value_of_in u8 null h = tt
  value_of_in u8 (at p) h = tt
  value_of_in u8 unset h = tt
  value_of_in u16 (num n) h = tt
  value_of_in u16 null h = tt
  value_of_in u16 (at p) h = tt
  value_of_in u16 unset h = tt
  value_of_in u32 (num n) h = tt
  value_of_in u32 null h = tt
  value_of_in u32 (at p) h = tt
  value_of_in u32 unset h = tt
  value_of_in u64 (num n) h = tt
  value_of_in u64 null h = tt
  value_of_in u64 (at p) h = tt
  value_of_in u64 unset h = tt
  value_of_in flag (num n) h = tt
  value_of_in flag null h = tt
  value_of_in flag (at p) h = tt
  value_of_in flag unset h = tt
  value_of_in pointer (num n) h = tt
  value_of_in pointer null h = tt
  value_of_in pointer (at p) h = h
  value_of_in pointer unset h = tt

  pub cell_of_in : (type : CellType) (v : CValue) → ValueIn inside v → OneIn (cell_of type v)
  cell_of_in u8 (numeric n) h = tt
  cell_of_in u8 null_pointer h = tt
  cell_of_in u8 (address p) h = tt
  cell_of_in u16 (numeric n) h = tt
  cell_of_in u16 null_pointer h = tt
  cell_of_in u16 (address p) h = tt
  cell_of_in u32 (numeric n) h = tt
  cell_of_in u32 null_pointer h = tt
  cell_of_in u32 (address p) h = tt
  cell_of_in u64 (numeric n) h = tt
  cell_of_in u64 null_pointer h = tt
  cell_of_in u64 (address p) h = tt
  cell_of_in flag (numeric n) h = tt
  cell_of_in flag null_pointer h = tt
  cell_of_in flag (address p) h = tt
  cell_of_in pointer (numeric n) h = tt
  cell_of_in pointer null_pointer h = tt
  cell_of_in pointer (address p) h = h

  loaded_of : (found : Option (CellType × Cell)) → CelIn found → OptIn (option_and_then (λ it. value_of it.0 it.1) found)
  loaded_of None h = tt
  loaded_of (Some it) h = value_of_in it.0 it.1 h

  loaded_in : (memory : Memory) → IsClosed inside memory → (p : Pointer) → inside p.object ≡ true → OptIn (loaded memory p)
  loaded_in memory closed p h = loaded_of (cell_at memory p) (cell_at_in memory closed p h)

  value_of_one : (type : CellType) (c : Option Cell) → OneIn c → OptIn (option_and_then (value_of type) c)
  value_of_one type None h = tt
  value_of_one type (Some cell) h = value_of_in type cell h

  pub as_type_in : (t : TypeTree) (v : CValue) → ValueIn inside v → OptIn (as_type t v)
  as_type_in t v h = value_of_one (cell_type t) (cell_of (cell_type t) v) (cell_of_in (cell_type t) v h)

  pub as_type_opt : (t : TypeTree) (v : Option CValue) → OptIn v → OptIn (option_and_then (as_type t) v)
  as_type_opt t None h = tt
  as_type_opt t (Some v) h = as_type_in t v h

  -- Places.
  abbrev NumberIn : Option ℕ → Type 0
  NumberIn None = Unit {0}
  NumberIn (Some k) = inside k ≡ true

  position_in : {A : Type 0} (test : A → Bool) (xs : List A) → ((k : ℕ) → k < length xs → inside k ≡ true) → NumberIn (position test xs)
  position_in test xs h = by_test (nat_lt (position_or_len test xs) (length xs)) refl
    where
      by_test : (b : Bool) → nat_lt (position_or_len test xs) (length xs) ≡ b → NumberIn (if b then Some (position_or_len test xs) else None)
      by_test true e = h _ (ltb-true _ _ e)
      by_test false e = tt

  named_in : (frame : ℕ) (name string : Option ℕ) → inside frame ≡ true → NumberIn string → PointerIn (named_place frame name string)
  named_in frame (Some k) string h g = h
  named_in frame None (Some k) h g = g
  named_in frame None None h g = tt

  pub pointed_in : (v : Option CValue) → OptIn v → PointerIn (pointed_place v)
  pointed_in None h = tt
  pointed_in (Some (numeric n)) h = tt
  pointed_in (Some (address p)) h = h
  pointed_in (Some null_pointer) h = tt

  field_place_in : (field : Option ℕ) (p : Pointer) → inside p.object ≡ true → PointerIn (field_place field p)
  field_place_in field p h = by_test (nat_eq p.index 0) field
    where
      by_test : (b : Bool) (f : Option ℕ) → PointerIn (if b then option_map (λ k. record p { field = k }) f else None)
      by_test true None = tt
      by_test true (Some k) = h
      by_test false f = tt

  member_in : (field : Option ℕ) (q : Option Pointer) → PointerIn q → PointerIn (option_and_then (field_place field) q)
  member_in field None h = tt
  member_in field (Some p) h = field_place_in field p h

  indexed : (p : Pointer) (i : Option ℕ) → inside p.object ≡ true → PointerIn (option_map (λ index. record p { index = index }) i)
  indexed p None h = tt
  indexed p (Some i) h = h

  offset_in : (found : Option (CellType × List Cell)) (p : Pointer) (z : ℤ) → inside p.object ≡ true → PointerIn (option_and_then (λ it. moved_in (length it.1) p z) found)
  offset_in None p z h = tt
  offset_in (Some it) p z h = indexed p _ h

  element_in : (memory : Memory) (v i : Option CValue) → OptIn v → PointerIn (element_place memory v i)
  element_in memory None i h = tt
  element_in memory (Some (numeric n)) i h = tt
  element_in memory (Some null_pointer) i h = tt
  element_in memory (Some (address p)) None h = tt
  element_in memory (Some (address p)) (Some (numeric n)) h = offset_in (cells_at memory p.object p.field) p (whole n) h
  element_in memory (Some (address p)) (Some (address q)) h = tt
  element_in memory (Some (address p)) (Some null_pointer) h = tt

  -- Values of lvalues.
  module _ (memory : Memory) (closed : IsClosed inside memory) where
    held_in : (held : Option Held) (p : Option Pointer) → PointerIn p → OptIn (held_value memory held p)
    held_in None p h = tt
    held_in (Some (one t)) None h = tt
    held_in (Some (one t)) (Some p) h = loaded_in memory closed p h
    held_in (Some (fixed t)) None h = tt
    held_in (Some (fixed t)) (Some p) h = loaded_in memory closed p h
    held_in (Some (many t)) None h = tt
    held_in (Some (many t)) (Some p) h = h
    held_in (Some (inner name)) None h = tt
    held_in (Some (inner name)) (Some p) h = tt
    held_in (Some character) None h = tt
    held_in (Some character) (Some p) h = loaded_in memory closed p h
    held_in (Some characters) None h = tt
    held_in (Some characters) (Some p) h = h

    kept_address : {A : Type 0} (p : Pointer) (o : Option A) → inside p.object ≡ true → OptIn (option_map (λ _. address p) o)
    kept_address p None h = tt
    kept_address p (Some x) h = h

    part_address : (found : Option Field) → FldIn found → OptIn (option_map (λ k. address (to_object k)) (option_and_then part_of found))
    part_address None h = tt
    part_address (Some (cells type them)) h = tt
    part_address (Some (part object)) h = h

    address_in : (held : Option Held) (p : Option Pointer) → PointerIn p → OptIn (address_of memory held p)
    address_in None p h = tt
    address_in (Some (one t)) None h = tt
    address_in (Some (one t)) (Some p) h = kept_address p (cell_at memory p) h
    address_in (Some (fixed t)) None h = tt
    address_in (Some (fixed t)) (Some p) h = tt
    address_in (Some (many t)) None h = tt
    address_in (Some (many t)) (Some p) h = tt
    address_in (Some (inner name)) None h = tt
    address_in (Some (inner name)) (Some p) h = part_address (field_at memory p.object p.field) (field_at_in memory closed p.object p.field h)
    address_in (Some character) None h = tt
    address_in (Some character) (Some p) h = kept_address p (cell_at memory p) h
    address_in (Some characters) None h = tt
    address_in (Some characters) (Some p) h = tt

    moved_pointer_in : (o : Bool) (p : Pointer) (z : ℤ) → inside p.object ≡ true → OptIn (option_map address (moved_pointer memory o p z))
    moved_pointer_in true p z h = as_address (offset_object p z) (indexed p _ h)
      where
        as_address : (q : Option Pointer) → PointerIn q → OptIn (option_map address q)
        as_address None k = tt
        as_address (Some q) k = k
    moved_pointer_in false p z h = as_address (offset memory p z) (offset_in (cells_at memory p.object p.field) p z h)
      where
        as_address : (q : Option Pointer) → PointerIn q → OptIn (option_map address q)
        as_address None k = tt
        as_address (Some q) k = k

    number_in : (o : Option Number) → OptIn (option_map numeric o)
    number_in None = tt
    number_in (Some n) = tt

    truth_in : (b : Option Bool) → OptIn (truth_value b)
    truth_in None = tt
    truth_in (Some b) = tt

    sum_in : (o : Bool) (a b : CValue) → ValueIn inside a → OptIn (sum_value memory o a b)
    sum_in o (numeric a) (numeric b) h = number_in (operated Add a b)
    sum_in o (numeric a) (address q) h = tt
    sum_in o (numeric a) null_pointer h = tt
    sum_in o (address p) (numeric b) h = moved_pointer_in o p (whole b) h
    sum_in o (address p) (address q) h = tt
    sum_in o (address p) null_pointer h = tt
    sum_in o null_pointer (numeric b) h = tt
    sum_in o null_pointer (address q) h = tt
    sum_in o null_pointer null_pointer h = tt

    other_in : (op : COp) (a b : CValue) → OptIn (other_value op a b)
    other_in op (numeric a) (numeric b) = number_in (operated op a b)
    other_in op (numeric a) (address q) = number_in (compared_places op (numeric a) (address q))
    other_in op (numeric a) null_pointer = number_in (compared_places op (numeric a) null_pointer)
    other_in op (address p) (numeric b) = number_in (compared_places op (address p) (numeric b))
    other_in op (address p) (address q) = number_in (compared_places op (address p) (address q))
    other_in op (address p) null_pointer = number_in (compared_places op (address p) null_pointer)
    other_in op null_pointer (numeric b) = number_in (compared_places op null_pointer (numeric b))
    other_in op null_pointer (address q) = number_in (compared_places op null_pointer (address q))
    other_in op null_pointer null_pointer = number_in (compared_places op null_pointer null_pointer)

    combined_in : (c : Combination) (o : Bool) (op : COp) (a b : Option CValue) → OptIn a → OptIn (combined_by c memory o op a b)
    combined_in conjunction o op None b h = tt
    combined_in conjunction o op (Some a) b h = truth_in (and_also (holds a) b)
    combined_in disjunction o op None b h = tt
    combined_in disjunction o op (Some a) b h = truth_in (or_else (holds a) b)
    combined_in addition o op None b h = tt
    combined_in addition o op (Some a) None h = tt
    combined_in addition o op (Some a) (Some b) h = sum_in o a b h
    combined_in other o op None b h = tt
    combined_in other o op (Some a) None h = tt
    combined_in other o op (Some a) (Some b) h = other_in op a b

    from_left_in : (o : Bool) (op : COp) (first : Option CValue) (others : List (Option CValue)) → OptIn first → OptIn (from_left memory o op first others)
    from_left_in o op first [] h = h
    from_left_in o op first (next ∷ others) h = from_left_in o op (combined memory o op first next) others (combined_in (combination_of op) o op first next h)

  complement_in : (v : Option CValue) → OptIn (option_and_then complement_of v)
  complement_in None = tt
  complement_in (Some (numeric n)) = tt
  complement_in (Some (address p)) = tt
  complement_in (Some null_pointer) = tt

  negated_in : (f : CValue → Number) (v : Option CValue) → OptIn (option_map (λ x. numeric (f x)) v)
  negated_in f None = tt
  negated_in f (Some v) = tt

  as_expr_in : (t : ExprType) (v : CValue) → ValueIn inside v → ValueIn inside (as_expr_type t v)
  as_expr_in (numbers c) (numeric n) h = tt
  as_expr_in (numbers c) (address p) h = h
  as_expr_in (numbers c) null_pointer h = tt
  as_expr_in (points_to t) (numeric n) h = tt
  as_expr_in (points_to t) (address p) h = h
  as_expr_in (points_to t) null_pointer h = tt
  as_expr_in zero_literal (numeric n) h = tt
  as_expr_in zero_literal (address p) h = h
  as_expr_in zero_literal null_pointer h = tt

  choice_in : (t : Option ExprType) (v : Option CValue) → OptIn v → OptIn (choice_value t v)
  choice_in None v h = tt
  choice_in (Some t) None h = tt
  choice_in (Some t) (Some v) h = as_expr_in t v h

  chosen_in : (b : Bool) (a c : Option CValue) → OptIn a → OptIn c → OptIn (chosen b a c)
  chosen_in true a c h k = h
  chosen_in false a c h k = k

  tested_in : (t a c : Option CValue) → OptIn a → OptIn c → OptIn (option_and_then (λ v. chosen (holds v) a c) t)
  tested_in None a c h k = tt
  tested_in (Some v) a c h k = chosen_in (holds v) a c h k

  consed : (v : CValue) (vs : Option (List CValue)) → ValueIn inside v → ListIn vs → ListIn (option_map (λ others. v ∷ others) vs)
  consed v None h k = tt
  consed v (Some vs) h k = (h, k)

  pub all_some_in : (vs : List (Option CValue)) → OptsIn vs → ListIn (all_some vs)
  all_some_in [] h = tt
  all_some_in (None ∷ vs) h = tt
  all_some_in (Some v ∷ vs) h = consed v (all_some vs) h.0 (all_some_in vs h.1)

  called_in : (f : List CValue → Option CValue) (vs : Option (List CValue)) → ((given : List CValue) → ValuesIn inside given → OptIn (f given)) → ListIn vs → OptIn (option_and_then f vs)
  called_in f None h k = tt
  called_in f (Some vs) h k = h vs k

  -- What an expression of a function depends on lies in the set.
  pub record Around (s : Surroundings) : Type 0 where
    pub frame : inside s.frame ≡ true
    pub closed : IsClosed inside s.memory
    pub texts : (k : ℕ) → k < length s.scope.texts → inside k ≡ true
    pub calls : (name : List ℕ) (given : List CValue) → ValuesIn inside given → OptIn (s.called name given)

  module _ (s : Surroundings) (around : Around s) where
    variable_in : (name : List ℕ) → PointerIn (variable_place s name)
    variable_in name = named_in s.frame (position (λ it. bytes_eq it.name name) s.scope.names) (position (λ it. bytes_eq it.name name) s.scope.texts) around.frame (position_in _ s.scope.texts around.texts)

    mutual
      pub value_in : (e : ExprTree) → OptIn (value s e)
      value_in (number n) = tt
      value_in (variable name) = held_in s.memory around.closed (variable_held s.scope name) (variable_place s name) (variable_in name)
      value_in (member of field) = held_in s.memory around.closed (member_held s.scope field (type_of s.scope of)) (member_place s.scope field (type_of s.scope of) (value s of)) (member_in (field_number s.scope field (type_of s.scope of)) (pointed_place (value s of)) (pointed_in (value s of) (value_in of)))
      value_in (element of index) = held_in s.memory around.closed (element_held (type_of s.scope of) (type_of s.scope index)) (element_place s.memory (value s of) (value s index)) (element_in s.memory (value s of) (value s index) (value_in of))
      value_in (pointed of) = held_in s.memory around.closed (pointed_held (type_of s.scope of)) (pointed_place (value s of)) (pointed_in (value s of) (value_in of))
      value_in (operation op first second others) = from_left_in s.memory around.closed (is_object_pointer (type_of s.scope first)) op (value s first) (value s second ∷ operand_values s others) (value_in first)
      value_in (unary Not of) = negated_in _ (value s of)
      value_in (unary Complement of) = complement_in (value s of)
      value_in (unary Address of) = address_in s.memory around.closed (held_of s.scope of) (place s of) (place_in of)
      value_in (cast to of) = as_type_opt to (value s of) (value_in of)
      value_in (choice test met unmet) = choice_in (choice_type (type_of s.scope met) (type_of s.scope unmet)) (option_and_then (λ t. chosen (holds t) (value s met) (value s unmet)) (value s test)) (tested_in (value s test) (value s met) (value s unmet) (value_in met) (value_in unmet))
      value_in (called function given) = called_in (s.called function) (all_some (arg_values s given)) (around.calls function) (all_some_in (arg_values s given) (args_in given))

      pub place_in : (e : ExprTree) → PointerIn (place s e)
      place_in (variable name) = variable_in name
      place_in (member of field) = member_in (field_number s.scope field (type_of s.scope of)) (pointed_place (value s of)) (pointed_in (value s of) (value_in of))
      place_in (element of index) = element_in s.memory (value s of) (value s index) (value_in of)
      place_in (pointed of) = pointed_in (value s of) (value_in of)
      place_in (number n) = tt
      place_in (operation op first second others) = tt
      place_in (unary op of) = tt
      place_in (cast to of) = tt
      place_in (choice test met unmet) = tt
      place_in (called function given) = tt

      pub args_in : (given : Args) → OptsIn (arg_values s given)
      args_in no_arg = tt
      args_in (expr_arg e others) = (value_in e, args_in others)
      args_in (sizeof_arg name others) = (tt, args_in others)
