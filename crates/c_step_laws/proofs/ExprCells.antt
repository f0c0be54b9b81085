-- What the instructions of an expression call is what its tree calls, where it has a type or is an lvalue.
use Rattle.std.proofs.Common.{◌≡◌, ℕ, Bool, true, false, ◌&&◌, List, [], ◌∷◌, ◌++◌, length, max, Option, Some, None, refl, ◌∙◌, arith}
use Rattle.std.specs.Prelude.{if◌then◌else◌, option_and_then}
use Rattle.std.specs.Option.{option_map_or}
use Rattle.c_text.specs.declared.kinds.COp.{COp}
use Rattle.c_text.specs.declared.kinds.CUnary.TheVariants.{Not, Complement, Address}
use Rattle.c_text.specs.CTree.{ExprTree, number, variable, member, element, pointed, operation, unary, cast, choice, called, Operands, no_operand, operand, Args, no_arg, expr_arg, sizeof_arg}
use Rattle.c_meaning.specs.CTypes.{Function, CScope, ExprType, numbers, points_to, zero_literal, Held, one, fixed, many, inner, character, characters, held_type, as_number, address_type, cast_from, choice_type, passable, is_expression, result_of, called_type, function_named, variable_held, member_held, pointed_held, element_held, type_of, held_of, operand_types, arg_types}
use Rattle.c_meaning.specs.CExprs.{field_number, is_object_pointer, Combination, conjunction, disjunction, addition, other, combination_of}
use Rattle.c_form_laws.proofs.NameLaws.{both_true, then_is, map_is, AllTyped, operands_typed, passed_typed, member_is, pointed_is, element_is, choice_is}
use Rattle.c_step_exprs.specs.declared.instrs.Instr.{Instr}
use Rattle.c_step_exprs.specs.declared.instrs.Instr.TheVariants as does
use Rattle.c_step_exprs.specs.declared.instrs.Turn.TheVariants as turn
use Rattle.c_step_exprs.specs.declared.instrs.Join.TheVariants as join
use Rattle.c_step_exprs.specs.Resolving.{function_number, named_code, held_code, variable_code, field_code, address_code, operator_code, as_type_code, arms_code, choice_code, call_code, arg_count, value_code, place_code, operands_code, args_code}
use Rattle.c_step_cells.specs.Chains.{cells_at, code_cells}
use Rattle.c_step_laws.specs.Callees.{expr_callees, operand_callees, arg_callees}
use Rattle.c_step_laws.proofs.Lists.{greatest, greatest_append}

args_typed : (o : Option Function) (given : List (Option ExprType)) (t : ExprType) → called_type o given ≡ Some t → AllTyped given
args_typed None given t e = absurd (cc e)
args_typed (Some f) given t e = fits (is_expression f && passable f.params given) refl e
  where
    fits : (b : Bool) → (is_expression f && passable f.params given) ≡ b → (if b then result_of f else None) ≡ Some t → AllTyped given
    fits false q r = absurd (cc r)
    fits true q r = passed_typed f.params given (both_true (is_expression f) (passable f.params given) q).1

module _ (table : List ℕ) where
  abbrev pub cells : List Instr → ℕ
  cells is = code_cells table is

  pub cells_append : (xs ys : List Instr) → cells (xs ++ ys) ≡ max (cells xs) (cells ys)
  cells_append [] ys = omega arith
  cells_append (x ∷ xs) ys = omega (arith, cells_append xs ys)

  -- No calls.
  named_none : (name string : Option ℕ) → cells (named_code name string) ≡ 0
  named_none (Some k) string = refl
  named_none None (Some k) = refl
  named_none None None = refl

  held_none : (held : Option Held) → cells (held_code held) ≡ 0
  held_none None = refl
  held_none (Some (one t)) = refl
  held_none (Some (fixed t)) = refl
  held_none (Some character) = refl
  held_none (Some (many t)) = refl
  held_none (Some characters) = refl
  held_none (Some (inner name)) = refl

  general_none : (held : Option Held) (name string : Option ℕ) → cells (named_code name string ++ held_code held) ≡ 0
  general_none held name string = omega (arith, cells_append (named_code name string) (held_code held), named_none name string, held_none held)

  variable_none : (held : Option Held) (name string : Option ℕ) → cells (variable_code held name string) ≡ 0
  variable_none (Some (one t)) (Some k) string = refl
  variable_none (Some (one t)) None string = general_none (Some (one t)) None string
  variable_none (Some (fixed t)) name string = general_none (Some (fixed t)) name string
  variable_none (Some (many t)) name string = general_none (Some (many t)) name string
  variable_none (Some (inner x)) name string = general_none (Some (inner x)) name string
  variable_none (Some character) name string = general_none (Some character) name string
  variable_none (Some characters) name string = general_none (Some characters) name string
  variable_none None name string = general_none None name string

  field_none : (field : Option ℕ) → cells (field_code field) ≡ 0
  field_none (Some k) = refl
  field_none None = refl

  address_none : (held : Option Held) → cells (address_code held) ≡ 0
  address_none None = refl
  address_none (Some (one t)) = refl
  address_none (Some (fixed t)) = refl
  address_none (Some character) = refl
  address_none (Some (many t)) = refl
  address_none (Some characters) = refl
  address_none (Some (inner name)) = refl

  as_type_none : (t : ExprType) → cells (as_type_code t) ≡ 0
  as_type_none (numbers c) = refl
  as_type_none (points_to t) = refl
  as_type_none zero_literal = refl

  -- Those of the parts.
  then_none : (xs ys : List Instr) → cells ys ≡ 0 → cells (xs ++ ys) ≡ cells xs
  then_none xs ys h = omega (arith, cells_append xs ys, h)

  operator_cells : (c : Combination) (o : Bool) (op : COp) (second : List Instr) → cells (operator_code c o op second) ≡ cells second
  operator_cells conjunction o op second = omega (arith, cells_append second (does.Turn turn.Truth ∷ []))
  operator_cells disjunction o op second = omega (arith, cells_append second (does.Turn turn.Truth ∷ []))
  operator_cells addition o op second = then_none second _ refl
  operator_cells other o op second = then_none second _ refl

  choice_cells : (o : Option ExprType) (t : ExprType) (test met unmet : List Instr) → o ≡ Some t → cells (choice_code o test met unmet) ≡ max (cells test) (max (cells met) (cells unmet))
  choice_cells None t test met unmet e = absurd (cc e)
  choice_cells (Some s) t test met unmet e =
      let a = cells_append test (arms_code (met ++ as_type_code s) (unmet ++ as_type_code s)) in
      let b = cells_append (met ++ as_type_code s) (does.Skip (length (unmet ++ as_type_code s)) ∷ (unmet ++ as_type_code s)) in
      omega (arith, a, b, then_none met (as_type_code s) (as_type_none s), then_none unmet (as_type_code s) (as_type_none s))

  -- The cells of the function with a number.
  abbrev pub numbered : Option ℕ → ℕ
  numbered o = option_map_or (cells_at table) o 0

  call_cells : (o : Option ℕ) (count : ℕ) → cells (call_code o count) ≡ numbered o
  call_cells (Some k) count = omega arith
  call_cells None count = refl

module _ (table : List ℕ) (scope : CScope) (of : List ℕ → ℕ) (alike : (name : List ℕ) → numbered table (function_number scope.functions name) ≡ of name) where
  abbrev in_code : List Instr → ℕ
  in_code is = code_cells table is

  abbrev in_tree : List (List ℕ) → ℕ
  in_tree names = greatest of names

  mutual
    pub value_cells : (e : ExprTree) (t : ExprType) → type_of scope e ≡ Some t → in_code (value_code scope e) ≡ in_tree (expr_callees e)
    value_cells (number n) t h = refl
    value_cells (variable name) t h = variable_none table (variable_held scope name) _ _
    value_cells (member pointer field) t h =
        let k = then_is held_type (member_held scope field (type_of scope pointer)) t h in
        let p = member_is scope field (type_of scope pointer) k.0 k.1 in
        let f = field_code (field_number scope field (type_of scope pointer)) in
        let g = held_code (member_held scope field (type_of scope pointer)) in
        omega (arith, value_cells pointer p.0 p.1, cells_append table (value_code scope pointer) (f ++ g), cells_append table f g, field_none table (field_number scope field (type_of scope pointer)), held_none table (member_held scope field (type_of scope pointer)))
    value_cells (element pointer index) t h =
        let k = then_is held_type (element_held (type_of scope pointer) (type_of scope index)) t h in
        let p = element_is (type_of scope pointer) (type_of scope index) k.0 k.1 in
        let g = held_code (element_held (type_of scope pointer) (type_of scope index)) in
        omega (arith, value_cells pointer p.0.0 p.0.1, value_cells index p.1.0 p.1.1, cells_append table (value_code scope pointer) (value_code scope index ++ does.Join join.Element ∷ g), cells_append table (value_code scope index) (does.Join join.Element ∷ g), held_none table (element_held (type_of scope pointer) (type_of scope index)), greatest_append of (expr_callees pointer) (expr_callees index))
    value_cells (pointed pointer) t h =
        let k = then_is held_type (pointed_held (type_of scope pointer)) t h in
        let p = pointed_is (type_of scope pointer) k.0 k.1 in
        let g = held_code (pointed_held (type_of scope pointer)) in
        omega (arith, value_cells pointer p.0 p.1, cells_append table (value_code scope pointer) (does.Turn turn.Place ∷ g), held_none table (pointed_held (type_of scope pointer)))
    value_cells (operation op first second others) t h =
        let k = operands_typed op (type_of scope first) (type_of scope second ∷ operand_types scope others) t h in
        let c = combination_of op in
        let o = is_object_pointer (type_of scope first) in
        let two = operator_code c o op (value_code scope second) in
        let more = operands_code scope c o op others in
        omega (arith, value_cells first k.0.0 k.0.1, value_cells second k.1.0.0 k.1.0.1, operands_cells c o op others k.1.1, cells_append table (value_code scope first) (two ++ more), cells_append table two more, operator_cells table c o op (value_code scope second), greatest_append of (expr_callees first) (expr_callees second ++ operand_callees others), greatest_append of (expr_callees second) (operand_callees others))
    value_cells (unary Not x) t h =
        let k = map_is _ (type_of scope x) t h in
        then_none table (value_code scope x) _ refl ∙ value_cells x k.0 k.1
    value_cells (unary Complement x) t h =
        let n = map_is numbers (option_and_then as_number (type_of scope x)) t h in
        let k = then_is as_number (type_of scope x) n.0 n.1 in
        then_none table (value_code scope x) _ refl ∙ value_cells x k.0 k.1
    value_cells (unary Address x) t h =
        let k = then_is address_type (held_of scope x) t h in
        then_none table (place_code scope x) (address_code (held_of scope x)) (address_none table (held_of scope x)) ∙ place_cells x k.0 k.1
    value_cells (cast to x) t h =
        let k = then_is (cast_from scope.structs to) (type_of scope x) t h in
        then_none table (value_code scope x) _ refl ∙ value_cells x k.0 k.1
    value_cells (choice test met unmet) t h =
        let k = choice_is (type_of scope test) (type_of scope met) (type_of scope unmet) t h in
        omega (arith, choice_cells table (choice_type (type_of scope met) (type_of scope unmet)) t (value_code scope test) (value_code scope met) (value_code scope unmet) k.1.1.1, value_cells test k.0.0 k.0.1, value_cells met k.1.0.0 k.1.0.1, value_cells unmet k.1.1.0.0 k.1.1.0.1, greatest_append of (expr_callees test) (expr_callees met ++ expr_callees unmet), greatest_append of (expr_callees met) (expr_callees unmet))
    value_cells (called function given) t h =
        let k = args_typed (function_named scope.functions function) (arg_types scope given) t h in
        let o = function_number scope.functions function in
        omega (arith, args_cells given k, cells_append table (args_code scope given) (call_code o (arg_count given)), call_cells table o (arg_count given), alike function)

    pub place_cells : (e : ExprTree) (held : Held) → held_of scope e ≡ Some held → in_code (place_code scope e) ≡ in_tree (expr_callees e)
    place_cells (variable name) held h = named_none table _ _
    place_cells (member pointer field) held h =
        let p = member_is scope field (type_of scope pointer) held h in
        then_none table (value_code scope pointer) (field_code (field_number scope field (type_of scope pointer))) (field_none table (field_number scope field (type_of scope pointer))) ∙ value_cells pointer p.0 p.1
    place_cells (element pointer index) held h =
        let p = element_is (type_of scope pointer) (type_of scope index) held h in
        omega (arith, value_cells pointer p.0.0 p.0.1, value_cells index p.1.0 p.1.1, cells_append table (value_code scope pointer) (value_code scope index ++ does.Join join.Element ∷ []), cells_append table (value_code scope index) (does.Join join.Element ∷ []), greatest_append of (expr_callees pointer) (expr_callees index))
    place_cells (pointed pointer) held h =
        let p = pointed_is (type_of scope pointer) held h in
        then_none table (value_code scope pointer) _ refl ∙ value_cells pointer p.0 p.1
    place_cells (number n) held h = absurd (cc h)
    place_cells (operation op first second others) held h = absurd (cc h)
    place_cells (unary op x) held h = absurd (cc h)
    place_cells (cast to x) held h = absurd (cc h)
    place_cells (choice test met unmet) held h = absurd (cc h)
    place_cells (called function given) held h = absurd (cc h)

    operands_cells : (c : Combination) (o : Bool) (op : COp) (others : Operands) → AllTyped (operand_types scope others) → in_code (operands_code scope c o op others) ≡ in_tree (operand_callees others)
    operands_cells c o op no_operand h = refl
    operands_cells c o op (operand e others) h =
        omega (arith, value_cells e h.0.0 h.0.1, operands_cells c o op others h.1, cells_append table (operator_code c o op (value_code scope e)) (operands_code scope c o op others), operator_cells table c o op (value_code scope e), greatest_append of (expr_callees e) (operand_callees others))

    pub args_cells : (given : Args) → AllTyped (arg_types scope given) → in_code (args_code scope given) ≡ in_tree (arg_callees given)
    args_cells no_arg h = refl
    args_cells (expr_arg e others) h =
        omega (arith, value_cells e h.0.0 h.0.1, args_cells others h.1, cells_append table (value_code scope e) (args_code scope others), greatest_append of (expr_callees e) (arg_callees others))
    args_cells (sizeof_arg name others) h = absurd (let e = h.0.1 in cc e)
