-- The instructions of an expression put its value, and those of an lvalue its place.
use Rattle.std.proofs.Common.{◌≡◌, ℕ, suc, Bool, true, false, List, [], ◌∷◌, ◌++◌, length, Option, Some, None, refl, sym, subst, ap, ◌∙◌, arith, take, drop}
use Rattle.std.specs.Prelude.{if◌then◌else◌, nat_eq, nat_le, position, option_map, option_and_then, bytes_eq, reverse}
use Rattle.std.proofs.lemmas.List.{append_assoc, length-append, length-reverse, reverse-append, reverse-reverse, take_at, drop_at}
use Rattle.std.proofs.lemmas.Bool.Decides.{nat_tests}
use Rattle.c_text.specs.declared.kinds.COp.{COp}
use Rattle.c_text.specs.declared.kinds.CUnary.TheVariants.{Not, Complement, Address}
use Rattle.c_text.specs.CTree.{ExprTree, number, variable, member, element, pointed, operation, unary, cast, choice, called, Operands, no_operand, operand, Args, no_arg, expr_arg, sizeof_arg}
use Rattle.c_meaning.specs.declared.values.Pointer.{Pointer}
use Rattle.c_meaning.specs.declared.values.CValue.{CValue}
use Rattle.c_meaning.specs.declared.values.CValue.TheVariants.{Numeric as numeric, Address as address, NullPointer as null_pointer}
use Rattle.c_meaning.specs.CValues.{literal_number, holds, negated}
use Rattle.c_meaning.specs.CMemory.{Memory, loaded}
use Rattle.c_meaning.specs.CTypes.{ExprType, numbers, points_to, zero_literal, Held, one, fixed, many, inner, character, characters, type_of, held_of, variable_held, member_held, element_held, pointed_held, choice_type}
use Rattle.c_meaning.specs.CExprs.{Surroundings, cell_type, field_place, field_number, pointed_place, named_place, element_place, held_value, address_of, Combination, conjunction, disjunction, addition, other, combination_of, combined_by, combined, from_left, sum_value, other_value, is_object_pointer, complement_of, chosen, as_expr_type, choice_value, all_some, value, place, operand_values, arg_values}
use Rattle.c_step_exprs.specs.declared.instrs.Instr.{Instr}
use Rattle.c_step_exprs.specs.declared.instrs.Instr.TheVariants as does
use Rattle.c_step_exprs.specs.declared.instrs.Put.TheVariants as put
use Rattle.c_step_exprs.specs.declared.instrs.Turn.TheVariants as turn
use Rattle.c_step_exprs.specs.declared.instrs.Join.TheVariants as join
use Rattle.c_step_exprs.specs.Instrs.{Around, pushed, local_place, field_of, element_of, place_of, cell_there, object_inside, as_cell, as_pointer, calls, goes_on, step, exec}
use Rattle.c_step_exprs.specs.Resolving.{function_number, named_code, held_code, variable_code, field_code, address_code, operator_code, as_type_code, arms_code, choice_code, call_code, arg_count, value_code, place_code, operands_code, args_code}
use Rattle.c_step_exprs.specs.Values.{around, called_by, AreCalled}
use Rattle.c_step_exprs.proofs.Runs.{Pushes, Turns, in_front, followed, compose, pushes_same, turns_same, puts, turns, nothing, stuck, with_second, both_runs, either_runs, arms_run}

-- Where there is no place there is no value.
held_none : (memory : Memory) (held : Option Held) → held_value memory held None ≡ None
held_none memory None = refl
held_none memory (Some (one t)) = refl
held_none memory (Some (fixed t)) = refl
held_none memory (Some character) = refl
held_none memory (Some (many t)) = refl
held_none memory (Some characters) = refl
held_none memory (Some (inner name)) = refl

address_none : (memory : Memory) (held : Option Held) → address_of memory held None ≡ None
address_none memory None = refl
address_none memory (Some (one t)) = refl
address_none memory (Some (fixed t)) = refl
address_none memory (Some character) = refl
address_none memory (Some (many t)) = refl
address_none memory (Some characters) = refl
address_none memory (Some (inner name)) = refl

-- What is done with a place, where it is passed on as a pointer.
held_through : (memory : Memory) (held : Option Held) (p : Option Pointer) → option_and_then (λ v. held_value memory held (pointed_place (Some v))) (option_map address p) ≡ held_value memory held p
held_through memory held None = sym (held_none memory held)
held_through memory held (Some p) = refl

address_through : (memory : Memory) (held : Option Held) (p : Option Pointer) → option_and_then (λ v. address_of memory held (pointed_place (Some v))) (option_map address p) ≡ address_of memory held p
address_through memory held None = sym (address_none memory held)
address_through memory held (Some p) = refl

mapped : {A B : Type 0} (f : A → B) (o : Option A) → option_and_then (λ x. Some (f x)) o ≡ option_map f o
mapped f None = refl
mapped f (Some x) = refl

no_map : {A B : Type 0} (f : A → B) → (b : Bool) → None ≡ option_map f (if b then None else None)
no_map f true = refl
no_map f false = refl

no_field : (v : CValue) → None ≡ option_map address (option_and_then (field_place None) (pointed_place (Some v)))
no_field (numeric n) = refl
no_field null_pointer = refl
no_field (address p) = no_map address (nat_eq p.index 0)

no_element : (memory : Memory) (v : CValue) → element_place memory (Some v) None ≡ None
no_element memory (numeric n) = refl
no_element memory null_pointer = refl
no_element memory (address p) = refl

module _ (s : Surroundings) (calls_of : ℕ → List CValue → Option CValue) (known : AreCalled s calls_of) where
  abbrev it : Around
  it = around s calls_of

  -- Names.
  named_runs : (name string : Option ℕ) → Pushes it (named_code name string) (option_map address (named_place s.frame name string))
  named_runs (Some k) string = puts it (does.Put (put.Local k)) (Some (address (local_place s.frame k))) (λ stack. refl)
  named_runs None (Some k) = puts it (does.Put (put.Text k)) (Some (address (record { object = k; field = 0; index = 0 }))) (λ stack. refl)
  named_runs None None = record { by = λ rest stack. refl }

  held_runs : (held : Option Held) → Turns it (held_code held) (λ v. held_value s.memory held (pointed_place (Some v)))
  held_runs None = stuck it (λ v. held_value s.memory None (pointed_place (Some v))) none
    where
      none : (v : CValue) → None ≡ held_value s.memory None (pointed_place (Some v))
      none (numeric n) = refl
      none (address p) = refl
      none null_pointer = refl
  held_runs (Some (one t)) = turns it (does.Turn turn.Load) (λ v. held_value s.memory (Some (one t)) (pointed_place (Some v))) (by_value)
    where
      by_value : (v : CValue) (stack : List CValue) → step it (does.Turn turn.Load) (v ∷ stack) ≡ goes_on (pushed (held_value s.memory (Some (one t)) (pointed_place (Some v))) stack)
      by_value (numeric n) stack = refl
      by_value (address p) stack = refl
      by_value null_pointer stack = refl
  held_runs (Some (fixed t)) = turns it (does.Turn turn.Load) (λ v. held_value s.memory (Some (fixed t)) (pointed_place (Some v))) (by_value)
    where
      by_value : (v : CValue) (stack : List CValue) → step it (does.Turn turn.Load) (v ∷ stack) ≡ goes_on (pushed (held_value s.memory (Some (fixed t)) (pointed_place (Some v))) stack)
      by_value (numeric n) stack = refl
      by_value (address p) stack = refl
      by_value null_pointer stack = refl
  held_runs (Some character) = turns it (does.Turn turn.Load) (λ v. held_value s.memory (Some character) (pointed_place (Some v))) (by_value)
    where
      by_value : (v : CValue) (stack : List CValue) → step it (does.Turn turn.Load) (v ∷ stack) ≡ goes_on (pushed (held_value s.memory (Some character) (pointed_place (Some v))) stack)
      by_value (numeric n) stack = refl
      by_value (address p) stack = refl
      by_value null_pointer stack = refl
  held_runs (Some (many t)) = turns it (does.Turn turn.Place) (λ v. held_value s.memory (Some (many t)) (pointed_place (Some v))) (by_value)
    where
      by_value : (v : CValue) (stack : List CValue) → step it (does.Turn turn.Place) (v ∷ stack) ≡ goes_on (pushed (held_value s.memory (Some (many t)) (pointed_place (Some v))) stack)
      by_value (numeric n) stack = refl
      by_value (address p) stack = refl
      by_value null_pointer stack = refl
  held_runs (Some characters) = turns it (does.Turn turn.Place) (λ v. held_value s.memory (Some characters) (pointed_place (Some v))) (by_value)
    where
      by_value : (v : CValue) (stack : List CValue) → step it (does.Turn turn.Place) (v ∷ stack) ≡ goes_on (pushed (held_value s.memory (Some characters) (pointed_place (Some v))) stack)
      by_value (numeric n) stack = refl
      by_value (address p) stack = refl
      by_value null_pointer stack = refl
  held_runs (Some (inner name)) = stuck it (λ v. held_value s.memory (Some (inner name)) (pointed_place (Some v))) none
    where
      none : (v : CValue) → None ≡ held_value s.memory (Some (inner name)) (pointed_place (Some v))
      none (numeric n) = refl
      none (address p) = refl
      none null_pointer = refl

  named_held_runs : (held : Option Held) (name string : Option ℕ) → Pushes it (named_code name string ++ held_code held) (held_value s.memory held (named_place s.frame name string))
  named_held_runs held name string = pushes_same it (named_code name string ++ held_code held) _ _
      (followed it (named_code name string) (held_code held) (option_map address (named_place s.frame name string)) (λ v. held_value s.memory held (pointed_place (Some v))) (named_runs name string) (held_runs held))
      (held_through s.memory held (named_place s.frame name string))

  variable_runs : (held : Option Held) (name string : Option ℕ) → Pushes it (variable_code held name string) (held_value s.memory held (named_place s.frame name string))
  variable_runs (Some (one t)) (Some k) string = puts it (does.Put (put.Fetch k)) (loaded s.memory (local_place s.frame k)) (λ stack. refl)
  variable_runs (Some (one t)) None string = named_held_runs (Some (one t)) None string
  variable_runs (Some (fixed t)) name string = named_held_runs (Some (fixed t)) name string
  variable_runs (Some (many t)) name string = named_held_runs (Some (many t)) name string
  variable_runs (Some (inner n)) name string = named_held_runs (Some (inner n)) name string
  variable_runs (Some character) name string = named_held_runs (Some character) name string
  variable_runs (Some characters) name string = named_held_runs (Some characters) name string
  variable_runs None name string = named_held_runs None name string

  -- Fields.
  field_runs : (field : Option ℕ) → Turns it (field_code field) (λ v. option_map address (option_and_then (field_place field) (pointed_place (Some v))))
  field_runs (Some k) = turns it (does.Turn (turn.Field k)) (field_of k) (λ v stack. refl)
  field_runs None = stuck it (λ v. option_map address (option_and_then (field_place None) (pointed_place (Some v)))) no_field

  field_at : (field : Option ℕ) (v : Option CValue) → option_and_then (λ v. option_map address (option_and_then (field_place field) (pointed_place (Some v)))) v ≡ option_map address (option_and_then (field_place field) (pointed_place v))
  field_at field None = refl
  field_at field (Some v) = refl

  held_after : (held : Option Held) (c : List Instr) (p : Option Pointer) → Pushes it c (option_map address p) → Pushes it (c ++ held_code held) (held_value s.memory held p)
  held_after held c p h = pushes_same it (c ++ held_code held) _ _ (followed it c (held_code held) (option_map address p) (λ v. held_value s.memory held (pointed_place (Some v))) h (held_runs held)) (held_through s.memory held p)

  regroup : (b c d : List Instr) (o : Option CValue) → Pushes it ((b ++ c) ++ d) o → Pushes it (b ++ (c ++ d)) o
  regroup b c d o h = subst (λ (is : List Instr). Pushes it is o) (append_assoc b c d) h

  member_place_runs : (field : Option ℕ) (c : List Instr) (o : Option CValue) → Pushes it c o → Pushes it (c ++ field_code field) (option_map address (option_and_then (field_place field) (pointed_place o)))
  member_place_runs field c o h = pushes_same it (c ++ field_code field) _ _ (followed it c (field_code field) o (λ v. option_map address (option_and_then (field_place field) (pointed_place (Some v)))) h (field_runs field)) (field_at field o)

  -- Elements.
  elements : (o p : Option CValue) → option_and_then (λ v. option_and_then (element_of s.memory v) p) o ≡ option_map address (element_place s.memory o p)
  elements None p = refl
  elements (Some v) None = ap (option_map address) (sym (no_element s.memory v))
  elements (Some v) (Some w) = refl

  element_place_runs : (c d : List Instr) (o p : Option CValue) → Pushes it c o → Pushes it d p → Pushes it (c ++ (d ++ does.Join join.Element ∷ [])) (option_map address (element_place s.memory o p))
  element_place_runs c d o p h k = pushes_same it (c ++ (d ++ does.Join join.Element ∷ [])) _ _
      (followed it c (d ++ does.Join join.Element ∷ []) o (λ v. option_and_then (element_of s.memory v) p) h (with_second it d p (does.Join join.Element) (element_of s.memory) k (λ first second stack. refl)))
      (elements o p)

  element_code : (c d e : List Instr) → c ++ (d ++ does.Join join.Element ∷ e) ≡ (c ++ (d ++ does.Join join.Element ∷ [])) ++ e
  element_code c d e = ap (λ (is : List Instr). c ++ is) (sym (append_assoc d (does.Join join.Element ∷ []) e)) ∙ sym (append_assoc c (d ++ does.Join join.Element ∷ []) e)

  -- What a pointer points to.
  places : (o : Option CValue) → option_and_then place_of o ≡ option_map address (pointed_place o)
  places None = refl
  places (Some v) = refl

  pointed_place_runs : (c : List Instr) (o : Option CValue) → Pushes it c o → Pushes it (c ++ does.Turn turn.Place ∷ []) (option_map address (pointed_place o))
  pointed_place_runs c o h = pushes_same it (c ++ does.Turn turn.Place ∷ []) _ _ (followed it c (does.Turn turn.Place ∷ []) o place_of h (turns it (does.Turn turn.Place) place_of (λ v stack. refl))) (places o)

  -- Operators.
  no_first : (c : Combination) (o : Bool) (op : COp) (second : Option CValue) → combined_by c s.memory o op None second ≡ None
  no_first conjunction o op second = refl
  no_first disjunction o op second = refl
  no_first addition o op second = refl
  no_first other o op second = refl

  left_none : (o : Bool) (op : COp) (others : List (Option CValue)) → from_left s.memory o op None others ≡ None
  left_none o op [] = refl
  left_none o op (next ∷ others) = ap (λ (v : Option CValue). from_left s.memory o op v others) (no_first (combination_of op) o op next) ∙ left_none o op others

  sums : (o : Bool) (op : COp) (v : CValue) (p : Option CValue) → option_and_then (sum_value s.memory o v) p ≡ combined_by addition s.memory o op (Some v) p
  sums o op v None = refl
  sums o op v (Some w) = refl

  others_of : (o : Bool) (op : COp) (v : CValue) (p : Option CValue) → option_and_then (other_value op v) p ≡ combined_by other s.memory o op (Some v) p
  others_of o op v None = refl
  others_of o op v (Some w) = refl

  operator_runs : (c : Combination) (o : Bool) (op : COp) (second : List Instr) (p : Option CValue) → Pushes it second p → Turns it (operator_code c o op second) (λ v. combined_by c s.memory o op (Some v) p)
  operator_runs conjunction o op second p h = both_runs it second p h
  operator_runs disjunction o op second p h = either_runs it second p h
  operator_runs addition o op second p h = turns_same it (second ++ does.Join (join.Add o) ∷ []) (λ v. option_and_then (sum_value s.memory o v) p) (λ v. combined_by addition s.memory o op (Some v) p)
      (with_second it second p (does.Join (join.Add o)) (sum_value s.memory o) h (λ first second stack. refl)) (λ v. sums o op v p)
  operator_runs other o op second p h = turns_same it (second ++ does.Join (join.Operate op) ∷ []) (λ v. option_and_then (other_value op v) p) (λ v. combined_by other s.memory o op (Some v) p)
      (with_second it second p (does.Join (join.Operate op)) (other_value op) h (λ first second stack. refl)) (λ v. others_of o op v p)

  from_first : (o : Bool) (op : COp) (others : List (Option CValue)) (v : Option CValue) → option_and_then (λ w. from_left s.memory o op (Some w) others) v ≡ from_left s.memory o op v others
  from_first o op others None = sym (left_none o op others)
  from_first o op others (Some v) = refl

  operations : (o : Bool) (op : COp) (first second : Option CValue) (others : List (Option CValue))
      → option_and_then (λ v. option_and_then (λ w. from_left s.memory o op (Some w) others) (combined s.memory o op (Some v) second)) first ≡ from_left s.memory o op first (second ∷ others)
  operations o op None second others = sym (left_none o op (second ∷ others))
  operations o op (Some v) second others = from_first o op others (combined s.memory o op (Some v) second)

  -- Unary operators.
  address_runs : (held : Option Held) → Turns it (address_code held) (λ v. address_of s.memory held (pointed_place (Some v)))
  address_runs (Some (one t)) = turns_same it (does.Turn turn.Cell ∷ []) (cell_there s.memory) (λ v. address_of s.memory (Some (one t)) (pointed_place (Some v))) (turns it (does.Turn turn.Cell) (cell_there s.memory) (λ v stack. refl)) by_value
    where
      by_value : (v : CValue) → cell_there s.memory v ≡ address_of s.memory (Some (one t)) (pointed_place (Some v))
      by_value (numeric n) = refl
      by_value (address p) = refl
      by_value null_pointer = refl
  address_runs (Some character) = turns_same it (does.Turn turn.Cell ∷ []) (cell_there s.memory) (λ v. address_of s.memory (Some character) (pointed_place (Some v))) (turns it (does.Turn turn.Cell) (cell_there s.memory) (λ v stack. refl)) by_value
    where
      by_value : (v : CValue) → cell_there s.memory v ≡ address_of s.memory (Some character) (pointed_place (Some v))
      by_value (numeric n) = refl
      by_value (address p) = refl
      by_value null_pointer = refl
  address_runs (Some (inner name)) = turns_same it (does.Turn turn.Inside ∷ []) (object_inside s.memory) (λ v. address_of s.memory (Some (inner name)) (pointed_place (Some v))) (turns it (does.Turn turn.Inside) (object_inside s.memory) (λ v stack. refl)) by_value
    where
      by_value : (v : CValue) → object_inside s.memory v ≡ address_of s.memory (Some (inner name)) (pointed_place (Some v))
      by_value (numeric n) = refl
      by_value (address p) = refl
      by_value null_pointer = refl
  address_runs (Some (fixed t)) = stuck it (λ v. address_of s.memory (Some (fixed t)) (pointed_place (Some v))) (λ v. sym (no_address (fixed t) refl (pointed_place (Some v))))
    where
      no_address : (held : Held) → held ≡ fixed t → (p : Option Pointer) → address_of s.memory (Some (fixed t)) p ≡ None
      no_address held e None = refl
      no_address held e (Some p) = refl
  address_runs (Some (many t)) = stuck it (λ v. address_of s.memory (Some (many t)) (pointed_place (Some v))) (λ v. sym (no_address (pointed_place (Some v))))
    where
      no_address : (p : Option Pointer) → address_of s.memory (Some (many t)) p ≡ None
      no_address None = refl
      no_address (Some p) = refl
  address_runs (Some characters) = stuck it (λ v. address_of s.memory (Some characters) (pointed_place (Some v))) (λ v. sym (no_address (pointed_place (Some v))))
    where
      no_address : (p : Option Pointer) → address_of s.memory (Some characters) p ≡ None
      no_address None = refl
      no_address (Some p) = refl
  address_runs None = stuck it (λ v. address_of s.memory None (pointed_place (Some v))) (λ v. sym (no_address (pointed_place (Some v))))
    where
      no_address : (p : Option Pointer) → address_of s.memory None p ≡ None
      no_address None = refl
      no_address (Some p) = refl

  -- `?:`
  as_type_runs : (t : ExprType) → Turns it (as_type_code t) (λ v. Some (as_expr_type t v))
  as_type_runs (numbers c) = turns it (does.Turn (turn.AsNumber c)) (λ v. Some (as_expr_type (numbers c) v)) (λ v stack. refl)
  as_type_runs (points_to t) = turns_same it (does.Turn turn.AsPointer ∷ []) (λ v. Some (as_pointer v)) (λ v. Some (as_expr_type (points_to t) v)) (turns it (does.Turn turn.AsPointer) (λ v. Some (as_pointer v)) (λ v stack. refl)) by_value
    where
      by_value : (v : CValue) → Some (as_pointer v) ≡ Some (as_expr_type (points_to t) v)
      by_value (numeric n) = refl
      by_value (address p) = refl
      by_value null_pointer = refl
  as_type_runs zero_literal = nothing it (λ v. Some (as_expr_type zero_literal v)) by_value
    where
      by_value : (v : CValue) → Some v ≡ Some (as_expr_type zero_literal v)
      by_value (numeric n) = refl
      by_value (address p) = refl
      by_value null_pointer = refl

  arm_runs : (t : ExprType) (c : List Instr) (o : Option CValue) → Pushes it c o → Pushes it (c ++ as_type_code t) (option_map (as_expr_type t) o)
  arm_runs t c o h = pushes_same it (c ++ as_type_code t) _ _ (followed it c (as_type_code t) o (λ v. Some (as_expr_type t v)) h (as_type_runs t)) (mapped (as_expr_type t) o)

  choices : (t : ExprType) (test met unmet : Option CValue)
      → option_and_then (λ v. chosen (holds v) (option_map (as_expr_type t) met) (option_map (as_expr_type t) unmet)) test ≡ choice_value (Some t) (option_and_then (λ v. chosen (holds v) met unmet) test)
  choices t None met unmet = refl
  choices t (Some v) met unmet = by_test (holds v)
    where
      by_test : (b : Bool) → chosen b (option_map (as_expr_type t) met) (option_map (as_expr_type t) unmet) ≡ option_map (as_expr_type t) (chosen b met unmet)
      by_test true = refl
      by_test false = refl

  choice_runs : (type : Option ExprType) (b c d : List Instr) (test met unmet : Option CValue) → Pushes it b test → Pushes it c met → Pushes it d unmet
      → Pushes it (choice_code type b c d) (choice_value type (option_and_then (λ v. chosen (holds v) met unmet) test))
  choice_runs None b c d test met unmet h k l = record { by = λ rest stack. refl }
  choice_runs (Some t) b c d test met unmet h k l = pushes_same it (b ++ arms_code (c ++ as_type_code t) (d ++ as_type_code t)) _ _
      (followed it b (arms_code (c ++ as_type_code t) (d ++ as_type_code t)) test (λ v. chosen (holds v) (option_map (as_expr_type t) met) (option_map (as_expr_type t) unmet)) h
      (arms_run it (c ++ as_type_code t) (d ++ as_type_code t) (option_map (as_expr_type t) met) (option_map (as_expr_type t) unmet) (arm_runs t c met k) (arm_runs t d unmet l)))
      (choices t test met unmet)

  -- The arguments of a call stand on the stack, the last one on top.
  pub record Puts (code : List Instr) (values : Option (List CValue)) : Type 0 where
    pub by : (rest : List Instr) (stack : List CValue) → exec it 0 (code ++ rest) stack ≡ option_and_then (λ vs. exec it 0 rest (reverse vs ++ stack)) values

  on_top : (v : CValue) (vs stack : List CValue) → reverse vs ++ v ∷ stack ≡ reverse (v ∷ vs) ++ stack
  on_top v vs stack = sym (append_assoc (reverse vs) (v ∷ []) stack) ∙ ap (λ (xs : List CValue). xs ++ stack) (sym (reverse-append (v ∷ []) vs))

  more_values : (rest : List Instr) (v : CValue) (stack : List CValue) (ps : Option (List CValue))
      → option_and_then (λ vs. exec it 0 rest (reverse vs ++ v ∷ stack)) ps ≡ option_and_then (λ vs. exec it 0 rest (reverse vs ++ stack)) (option_map (λ vs. v ∷ vs) ps)
  more_values rest v stack None = refl
  more_values rest v stack (Some vs) = ap (exec it 0 rest) (on_top v vs stack)

  puts_more : (c d : List Instr) (o : Option CValue) (ps : List (Option CValue)) → Pushes it c o → Puts d (all_some ps) → Puts (c ++ d) (all_some (o ∷ ps))
  puts_more c d o ps h k = record { by = λ rest stack. in_front it c d rest stack ∙ (h.by (d ++ rest) stack ∙ by_value rest stack o) }
    where
      by_value : (rest : List Instr) (stack : List CValue) (o : Option CValue)
          → option_and_then (λ v. exec it 0 (d ++ rest) (v ∷ stack)) o ≡ option_and_then (λ vs. exec it 0 rest (reverse vs ++ stack)) (all_some (o ∷ ps))
      by_value rest stack None = refl
      by_value rest stack (Some v) = k.by rest (v ∷ stack) ∙ more_values rest v stack (all_some ps)

  -- There are as many as the call has.
  counted_more : (ps : Option (List CValue)) (v : CValue) (n : ℕ) → ((vs : List CValue) → ps ≡ Some vs → length vs ≡ n) → (ws : List CValue) → option_map (λ vs. v ∷ vs) ps ≡ Some ws → length ws ≡ suc n
  counted_more None v n h ws e = absurd (cc (e))
  counted_more (Some vs) v n h ws e = let q : v ∷ vs ≡ ws = cc (e) in sym (ap length q) ∙ ap suc (h vs refl)

  counted_first : (o : Option CValue) (ps : List (Option CValue)) (n : ℕ) → ((vs : List CValue) → all_some ps ≡ Some vs → length vs ≡ n) → (ws : List CValue) → all_some (o ∷ ps) ≡ Some ws → length ws ≡ suc n
  counted_first None ps n h ws e = absurd (cc (e))
  counted_first (Some v) ps n h ws e = counted_more (all_some ps) v n h ws e

  counted : (given : Args) (vs : List CValue) → all_some (arg_values s given) ≡ Some vs → length vs ≡ arg_count given
  counted no_arg vs e = let q : [] ≡ vs = cc (e) in sym (ap length q)
  counted (expr_arg e others) vs h = counted_first (value s e) (arg_values s others) (arg_count others) (counted others) vs h
  counted (sizeof_arg name others) vs h = absurd (cc (h))

  takes_all : (k : ℕ) (vs stack : List CValue) (n : ℕ) → length vs ≡ n → calls it k n (reverse vs ++ stack) ≡ pushed (calls_of k vs) stack
  takes_all k vs stack n e =
      let r : length (reverse vs) ≡ n = length-reverse vs ∙ e in
      let b : nat_le n (length (reverse vs ++ stack)) ≡ true = grind (arith, nat_tests, r, length-append (reverse vs) stack) in
      let t : take n (reverse vs ++ stack) ≡ reverse vs = take_at (reverse vs) stack n r in
      let d : drop n (reverse vs ++ stack) ≡ stack = drop_at (reverse vs) stack n r in
      rw (b, t, d, reverse-reverse vs) refl

  call_runs : (callee : Option ℕ) (given : Args) → Puts (args_code s.scope given) (all_some (arg_values s given))
      → Pushes it (args_code s.scope given ++ call_code callee (arg_count given)) (option_and_then (called_by calls_of callee) (all_some (arg_values s given)))
  call_runs callee given h = record {
    by = λ rest stack. in_front it (args_code s.scope given) (call_code callee (arg_count given)) rest stack
        ∙ (h.by (call_code callee (arg_count given) ++ rest) stack ∙ by_values rest stack callee (all_some (arg_values s given)) (counted given));
  }
    where
      by_result_of : (rest : List Instr) (stack : List CValue) (o : Option CValue) → option_and_then (λ (next : ℕ × List CValue). exec it next.0 rest next.1) (goes_on (pushed o stack)) ≡ option_and_then (λ v. exec it 0 rest (v ∷ stack)) o
      by_result_of rest stack None = refl
      by_result_of rest stack (Some v) = refl

      by_values : (rest : List Instr) (stack : List CValue) (callee : Option ℕ) (values : Option (List CValue)) → ((vs : List CValue) → values ≡ Some vs → length vs ≡ arg_count given)
          → option_and_then (λ vs. exec it 0 (call_code callee (arg_count given) ++ rest) (reverse vs ++ stack)) values
          ≡ option_and_then (λ v. exec it 0 rest (v ∷ stack)) (option_and_then (called_by calls_of callee) values)
      by_values rest stack callee None e = refl
      by_values rest stack None (Some vs) e = refl
      by_values rest stack (Some k) (Some vs) e =
          ap (λ (o : Option (List CValue)). option_and_then (λ (next : ℕ × List CValue). exec it next.0 rest next.1) (goes_on o)) (takes_all k vs stack (arg_count given) (e vs refl)) ∙ by_result_of rest stack (calls_of k vs)

  called_alike : (name : List ℕ) (values : Option (List CValue)) → option_and_then (called_by calls_of (function_number s.scope.functions name)) values ≡ option_and_then (s.called name) values
  called_alike name None = refl
  called_alike name (Some vs) = sym (known name vs)

  not_held : (o : Option CValue) → option_and_then (λ v. Some (numeric (negated v))) o ≡ option_map (λ v. numeric (negated v)) o
  not_held o = mapped (λ v. numeric (negated v)) o

  mutual
    pub value_runs : (e : ExprTree) → Pushes it (value_code s.scope e) (value s e)
    value_runs (number n) = puts it (does.Put (put.Number (literal_number n))) (Some (numeric (literal_number n))) (λ stack. refl)
    value_runs (variable name) = variable_runs (variable_held s.scope name) (position (λ it. bytes_eq it.name name) s.scope.names) (position (λ it. bytes_eq it.name name) s.scope.texts)
    value_runs (member of field) = regroup (value_code s.scope of) (field_code (field_number s.scope field (type_of s.scope of))) (held_code (member_held s.scope field (type_of s.scope of))) _
        (held_after (member_held s.scope field (type_of s.scope of)) (value_code s.scope of ++ field_code (field_number s.scope field (type_of s.scope of))) (option_and_then (field_place (field_number s.scope field (type_of s.scope of))) (pointed_place (value s of)))
        (member_place_runs (field_number s.scope field (type_of s.scope of)) (value_code s.scope of) (value s of) (value_runs of)))
    value_runs (element of index) = let P : List Instr → Type 0 = λ is. Pushes it is (value s (element of index)) in
        subst P (sym (element_code (value_code s.scope of) (value_code s.scope index) (held_code (element_held (type_of s.scope of) (type_of s.scope index)))))
        (held_after (element_held (type_of s.scope of) (type_of s.scope index)) (value_code s.scope of ++ (value_code s.scope index ++ does.Join join.Element ∷ [])) (element_place s.memory (value s of) (value s index))
        (element_place_runs (value_code s.scope of) (value_code s.scope index) (value s of) (value s index) (value_runs of) (value_runs index)))
    value_runs (pointed of) = regroup (value_code s.scope of) (does.Turn turn.Place ∷ []) (held_code (pointed_held (type_of s.scope of))) _
        (held_after (pointed_held (type_of s.scope of)) (value_code s.scope of ++ does.Turn turn.Place ∷ []) (pointed_place (value s of)) (pointed_place_runs (value_code s.scope of) (value s of) (value_runs of)))
    value_runs (operation op first second others) =
        pushes_same it _ _ _
        (followed it (value_code s.scope first) (operator_code (combination_of op) (is_object_pointer (type_of s.scope first)) op (value_code s.scope second) ++ operands_code s.scope (combination_of op) (is_object_pointer (type_of s.scope first)) op others) (value s first)
        (λ v. option_and_then (λ w. from_left s.memory (is_object_pointer (type_of s.scope first)) op (Some w) (operand_values s others)) (combined s.memory (is_object_pointer (type_of s.scope first)) op (Some v) (value s second)))
        (value_runs first)
        (compose it (operator_code (combination_of op) (is_object_pointer (type_of s.scope first)) op (value_code s.scope second)) (operands_code s.scope (combination_of op) (is_object_pointer (type_of s.scope first)) op others)
        (λ v. combined s.memory (is_object_pointer (type_of s.scope first)) op (Some v) (value s second))
        (λ w. from_left s.memory (is_object_pointer (type_of s.scope first)) op (Some w) (operand_values s others))
        (operator_runs (combination_of op) (is_object_pointer (type_of s.scope first)) op (value_code s.scope second) (value s second) (value_runs second))
        (operands_run (is_object_pointer (type_of s.scope first)) op others)))
        (operations (is_object_pointer (type_of s.scope first)) op (value s first) (value s second) (operand_values s others))
    value_runs (unary Not of) = pushes_same it (value_code s.scope of ++ does.Turn turn.Not ∷ []) _ _
        (followed it (value_code s.scope of) (does.Turn turn.Not ∷ []) (value s of) (λ v. Some (numeric (negated v))) (value_runs of) (turns it (does.Turn turn.Not) (λ v. Some (numeric (negated v))) (λ v stack. refl))) (not_held (value s of))
    value_runs (unary Complement of) = followed it (value_code s.scope of) (does.Turn turn.Complement ∷ []) (value s of) complement_of (value_runs of) (turns it (does.Turn turn.Complement) complement_of (λ v stack. refl))
    value_runs (unary Address of) = pushes_same it (place_code s.scope of ++ address_code (held_of s.scope of)) _ _
        (followed it (place_code s.scope of) (address_code (held_of s.scope of)) (option_map address (place s of)) (λ v. address_of s.memory (held_of s.scope of) (pointed_place (Some v))) (place_runs of) (address_runs (held_of s.scope of)))
        (address_through s.memory (held_of s.scope of) (place s of))
    value_runs (cast to of) = followed it (value_code s.scope of) (does.Turn (turn.Cast (cell_type to)) ∷ []) (value s of) (as_cell (cell_type to)) (value_runs of) (turns it (does.Turn (turn.Cast (cell_type to))) (as_cell (cell_type to)) (λ v stack. refl))
    value_runs (choice test met unmet) = choice_runs (choice_type (type_of s.scope met) (type_of s.scope unmet)) (value_code s.scope test) (value_code s.scope met) (value_code s.scope unmet) (value s test) (value s met) (value s unmet) (value_runs test) (value_runs met) (value_runs unmet)
    value_runs (called function given) = pushes_same it (args_code s.scope given ++ call_code (function_number s.scope.functions function) (arg_count given)) _ _
        (call_runs (function_number s.scope.functions function) given (args_run given)) (called_alike function (all_some (arg_values s given)))

    pub place_runs : (e : ExprTree) → Pushes it (place_code s.scope e) (option_map address (place s e))
    place_runs (variable name) = named_runs (position (λ it. bytes_eq it.name name) s.scope.names) (position (λ it. bytes_eq it.name name) s.scope.texts)
    place_runs (member of field) = member_place_runs (field_number s.scope field (type_of s.scope of)) (value_code s.scope of) (value s of) (value_runs of)
    place_runs (element of index) = element_place_runs (value_code s.scope of) (value_code s.scope index) (value s of) (value s index) (value_runs of) (value_runs index)
    place_runs (pointed of) = pointed_place_runs (value_code s.scope of) (value s of) (value_runs of)
    place_runs (number n) = record { by = λ rest stack. refl }
    place_runs (operation op first second others) = record { by = λ rest stack. refl }
    place_runs (unary op of) = record { by = λ rest stack. refl }
    place_runs (cast to of) = record { by = λ rest stack. refl }
    place_runs (choice test met unmet) = record { by = λ rest stack. refl }
    place_runs (called function given) = record { by = λ rest stack. refl }

    operands_run : (o : Bool) (op : COp) (es : Operands) → Turns it (operands_code s.scope (combination_of op) o op es) (λ v. from_left s.memory o op (Some v) (operand_values s es))
    operands_run o op no_operand = nothing it (λ v. Some v) (λ v. refl)
    operands_run o op (operand e es) = turns_same it (operator_code (combination_of op) o op (value_code s.scope e) ++ operands_code s.scope (combination_of op) o op es) _ _
        (compose it (operator_code (combination_of op) o op (value_code s.scope e)) (operands_code s.scope (combination_of op) o op es)
        (λ v. combined s.memory o op (Some v) (value s e)) (λ w. from_left s.memory o op (Some w) (operand_values s es))
        (operator_runs (combination_of op) o op (value_code s.scope e) (value s e) (value_runs e)) (operands_run o op es))
        (λ v. from_first o op (operand_values s es) (combined s.memory o op (Some v) (value s e)))

    pub args_run : (given : Args) → Puts (args_code s.scope given) (all_some (arg_values s given))
    args_run no_arg = record { by = λ rest stack. refl }
    args_run (expr_arg e others) = puts_more (value_code s.scope e) (args_code s.scope others) (value s e) (arg_values s others) (value_runs e) (args_run others)
    args_run (sizeof_arg name others) = record { by = λ rest stack. refl }
