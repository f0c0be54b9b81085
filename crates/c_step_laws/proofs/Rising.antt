-- Types among the names that stand before an expression are its types among all names of the text.
use Rattle.std.proofs.Common.{◌≡◌, ℕ, Bool, true, false, ◌&&◌, List, [], ◌∷◌, Option, Some, None, is_some, refl, ap, ◌∙◌}
use Rattle.std.specs.Prelude.{if◌then◌else◌, option_map, option_and_then}
use Rattle.wf_num.specs.declared.c_arithmetic.CTy.TheVariants.{Int}
use Rattle.c_text.specs.declared.kinds.COp.{COp}
use Rattle.c_text.specs.declared.kinds.CUnary.TheVariants.{Not, Complement, Address}
use Rattle.c_text.specs.CTree.{TypeTree, uint, size, boolean, uint_pointer, struct_pointer, text, ExprTree, number, variable, member, element, pointed, operation, unary, cast, choice, called, Operands, no_operand, operand, Args, no_arg, expr_arg, sizeof_arg, ParamTree}
use Rattle.c_meaning.specs.CTypes.{StructDecl, Function, CScope, ExprType, numbers, points_to, zero_literal, cell, object, byte, held_type, as_number, operation_type, operations_type, address_type, is_known, value_type, cast_from, one_type, choice_type, assignable, passable, is_expression, result_of, called_type, struct_named, function_named, field_named, field_of, field_held, variable_held, member_held, pointed_held, element_held, type_of, held_of, operand_types, arg_types}
use Rattle.c_form_laws.proofs.NameLaws.{AllTyped, both_true}
use Rattle.c_step_laws.proofs.CodeCells.{Rises}

-- What is there stays there.
abbrev pub Up : {A : Type 0} → Option A → Option A → Type 0
Up {A} a b = (x : A) → a ≡ Some x → b ≡ Some x

up_same : {A : Type 0} (a : Option A) → Up a a
up_same a = λ x h. h

up_then : {A B : Type 0} (f g : A → Option B) (a b : Option A) → Up a b → ((x : A) → Up (f x) (g x)) → Up (option_and_then f a) (option_and_then g b)
up_then f g None b h k = λ y e. absurd (cc e)
up_then f g (Some x) b h k = λ y e. ap (option_and_then g) (h x refl) ∙ k x y e

up_map : {A B : Type 0} (f : A → B) (a b : Option A) → Up a b → Up (option_map f a) (option_map f b)
up_map f None b h = λ y e. absurd (cc e)
up_map f (Some x) b h = λ y e. ap (option_map f) (h x refl) ∙ e

abbrev AllUp : List (Option ExprType) → List (Option ExprType) → Type 0
AllUp [] [] = Unit {0}
AllUp (o ∷ os) (p ∷ ps) = Up o p × AllUp os ps
AllUp os ps = ⊥

up_operations : (op : COp) (a b : Option ExprType) (os ps : List (Option ExprType)) → Up a b → AllUp os ps → Up (operations_type op a os) (operations_type op b ps)
up_operations op a b [] [] h k = h
up_operations op a b [] (p ∷ ps) h k = absurd k
up_operations op a b (o ∷ os) [] h k = absurd k
up_operations op a b (o ∷ os) (p ∷ ps) h k =
    up_operations op (option_and_then (λ x. option_and_then (operation_type op x) o) a) (option_and_then (λ x. option_and_then (operation_type op x) p) b) os ps
    (up_then (λ x. option_and_then (operation_type op x) o) (λ x. option_and_then (operation_type op x) p) a b h (λ x. up_then (operation_type op x) (operation_type op x) o p k.0 (λ y. up_same (operation_type op x y)))) k.1

up_passed : (params : List ParamTree) (os ps : List (Option ExprType)) → AllUp os ps → passable params os ≡ true → passable params ps ≡ true
up_passed [] [] [] h e = refl
up_passed [] [] (p ∷ ps) h e = absurd h
up_passed [] (o ∷ os) ps h e = absurd (cc e)
up_passed (q ∷ qs) [] ps h e = absurd (cc e)
up_passed (q ∷ qs) (None ∷ os) ps h e = absurd (cc e)
up_passed (q ∷ qs) (Some t ∷ os) [] h e = absurd h
up_passed (q ∷ qs) (Some t ∷ os) (p ∷ ps) h e =
    let k = both_true (assignable q.kind t) (passable qs os) e in
    ap (λ o. passable (q ∷ qs) (o ∷ ps)) (h.0 t refl) ∙ joined (assignable q.kind t) (passable qs ps) k.0 (up_passed qs os ps h.1 k.1)
  where
    joined : (a b : Bool) → a ≡ true → b ≡ true → (a && b) ≡ true
    joined a b h k = rw (h, k) refl

up_typed : (os ps : List (Option ExprType)) → AllUp os ps → AllTyped os → AllTyped ps
up_typed [] [] h k = tt
up_typed [] (p ∷ ps) h k = absurd h
up_typed (o ∷ os) [] h k = absurd h
up_typed (o ∷ os) (p ∷ ps) h k = ((k.0.0, h.0 k.0.0 k.0.1), up_typed os ps h.1 k.1)

both_are : (a b : Bool) → a ≡ true → b ≡ true → (a && b) ≡ true
both_are a b h k = rw (h, k) refl

up_called : (f g : Option Function) (os ps : List (Option ExprType)) → Up f g → AllUp os ps → Up (called_type f os) (called_type g ps)
up_called None g os ps h k = λ t e. absurd (cc e)
up_called (Some f) g os ps h k = λ t e. ap (λ o. called_type o ps) (h f refl) ∙ fits t (is_expression f && passable f.params os) refl e
  where
    fits : (t : ExprType) (b : Bool) → (is_expression f && passable f.params os) ≡ b → (if b then result_of f else None) ≡ Some t → called_type (Some f) ps ≡ Some t
    fits t false q e = absurd (cc e)
    fits t true q e =
        let k2 = both_true (is_expression f) (passable f.params os) q in
        ap (λ (b : Bool). if b then result_of f else None) (both_are (is_expression f) (passable f.params ps) k2.0 (up_passed f.params os ps k k2.1)) ∙ e

-- Names that are looked up in more.
pub record Extends (low high : CScope) : Type 0 where
  pub structs : (name : List ℕ) → Up (struct_named low.structs name) (struct_named high.structs name)
  pub functions : (name : List ℕ) → Up (function_named low.functions name) (function_named high.functions name)
  pub variables : (name : List ℕ) → Up (variable_held low name) (variable_held high name)

module _ (low high : CScope) (more : Extends low high) where
  up_fields : (name field : List ℕ) → Up (field_of low name field) (field_of high name field)
  up_fields name field = up_then (λ it. field_named it.fields field) (λ it. field_named it.fields field) _ _ (more.structs name) (λ it. up_same (field_named it.fields field))

  up_member : (field : List ℕ) (type : ExprType) → Up (member_held low field (Some type)) (member_held high field (Some type))
  up_member field (numbers c) = λ h e. absurd (cc e)
  up_member field zero_literal = λ h e. absurd (cc e)
  up_member field (points_to (cell ty)) = λ h e. absurd (cc e)
  up_member field (points_to byte) = λ h e. absurd (cc e)
  up_member field (points_to (object name)) = up_map (field_held name) (field_of low name field) (field_of high name field) (up_fields name field)

  up_members : (field : List ℕ) (a b : Option ExprType) → Up a b → Up (member_held low field a) (member_held high field b)
  up_members field None b h = λ x e. absurd (cc e)
  up_members field (Some type) b h = λ x e. ap (member_held high field) (h type refl) ∙ up_member field type x e

  up_pointed : (a b : Option ExprType) → Up a b → Up (pointed_held a) (pointed_held b)
  up_pointed None b h = λ x e. absurd (cc e)
  up_pointed (Some type) b h = λ x e. ap pointed_held (h type refl) ∙ e

  up_element : (a b i j : Option ExprType) → Up a b → Up i j → Up (element_held a i) (element_held b j)
  up_element a b i j h k =
      up_then (λ _. pointed_held a) (λ _. pointed_held b) (option_and_then as_number i) (option_and_then as_number j)
      (up_then as_number as_number i j k (λ x. up_same (as_number x))) (λ _. up_pointed a b h)

  up_known : (ty : TypeTree) → is_known low.structs ty ≡ true → is_known high.structs ty ≡ true
  up_known (struct_pointer name) e = by (struct_named low.structs name) refl e
    where
      by : (o : Option StructDecl) → struct_named low.structs name ≡ o → is_some o ≡ true → is_some (struct_named high.structs name) ≡ true
      by None h e = absurd (cc e)
      by (Some it) h e = ap (λ (o : Option StructDecl). is_some o) (more.structs name it h)
  up_known (uint u) e = refl
  up_known size e = refl
  up_known boolean e = refl
  up_known (uint_pointer u) e = refl
  up_known text e = refl

  up_cast : (ty : TypeTree) (type : ExprType) → Up (cast_from low.structs ty type) (cast_from high.structs ty type)
  up_cast ty (numbers c) = up_same (cast_from low.structs ty (numbers c))
  up_cast ty (points_to p) = λ x e. absurd (cc e)
  up_cast ty zero_literal = λ x e. by x (is_known low.structs ty) refl e
    where
      by : (x : ExprType) (b : Bool) → is_known low.structs ty ≡ b → (if b then Some (value_type ty) else None) ≡ Some x → cast_from high.structs ty zero_literal ≡ Some x
      by x false h e = absurd (cc e)
      by x true h e = ap (λ (b : Bool). if b then Some (value_type ty) else None) (up_known ty h) ∙ e

  mutual
    up_type : (e : ExprTree) → Up (type_of low e) (type_of high e)
    up_type (number n) = λ x h. h
    up_type (variable name) = up_then held_type held_type (variable_held low name) (variable_held high name) (more.variables name) (λ h. up_same (held_type h))
    up_type (member of field) = up_then held_type held_type (member_held low field (type_of low of)) (member_held high field (type_of high of)) (up_members field (type_of low of) (type_of high of) (up_type of)) (λ h. up_same (held_type h))
    up_type (element of index) = up_then held_type held_type (element_held (type_of low of) (type_of low index)) (element_held (type_of high of) (type_of high index)) (up_element (type_of low of) (type_of high of) (type_of low index) (type_of high index) (up_type of) (up_type index)) (λ h. up_same (held_type h))
    up_type (pointed of) = up_then held_type held_type (pointed_held (type_of low of)) (pointed_held (type_of high of)) (up_pointed (type_of low of) (type_of high of) (up_type of)) (λ h. up_same (held_type h))
    up_type (operation op one two others) = up_operations op (type_of low one) (type_of high one) (type_of low two ∷ operand_types low others) (type_of high two ∷ operand_types high others) (up_type one) (up_type two, up_operands others)
    up_type (unary Not of) = up_map (λ _. numbers Int) (type_of low of) (type_of high of) (up_type of)
    up_type (unary Complement of) = up_map numbers (option_and_then as_number (type_of low of)) (option_and_then as_number (type_of high of)) (up_then as_number as_number (type_of low of) (type_of high of) (up_type of) (λ x. up_same (as_number x)))
    up_type (unary Address of) = up_then address_type address_type (held_of low of) (held_of high of) (up_held of) (λ x. up_same (address_type x))
    up_type (cast to of) = up_then (cast_from low.structs to) (cast_from high.structs to) (type_of low of) (type_of high of) (up_type of) (up_cast to)
    up_type (choice test met unmet) =
        up_then (λ _. choice_type (type_of low met) (type_of low unmet)) (λ _. choice_type (type_of high met) (type_of high unmet)) (type_of low test) (type_of high test) (up_type test)
        (λ _. up_then (λ left. option_and_then (one_type true left) (type_of low unmet)) (λ left. option_and_then (one_type true left) (type_of high unmet)) (type_of low met) (type_of high met) (up_type met)
        (λ left. up_then (one_type true left) (one_type true left) (type_of low unmet) (type_of high unmet) (up_type unmet) (λ x. up_same (one_type true left x))))
    up_type (called function given) = up_called (function_named low.functions function) (function_named high.functions function) (arg_types low given) (arg_types high given) (more.functions function) (up_args given)

    up_held : (e : ExprTree) → Up (held_of low e) (held_of high e)
    up_held (variable name) = more.variables name
    up_held (member of field) = up_members field (type_of low of) (type_of high of) (up_type of)
    up_held (element of index) = up_element (type_of low of) (type_of high of) (type_of low index) (type_of high index) (up_type of) (up_type index)
    up_held (pointed of) = up_pointed (type_of low of) (type_of high of) (up_type of)
    up_held (number n) = λ x h. absurd (cc h)
    up_held (operation op one two others) = λ x h. absurd (cc h)
    up_held (unary op of) = λ x h. absurd (cc h)
    up_held (cast to of) = λ x h. absurd (cc h)
    up_held (choice test met unmet) = λ x h. absurd (cc h)
    up_held (called function given) = λ x h. absurd (cc h)

    up_operands : (es : Operands) → AllUp (operand_types low es) (operand_types high es)
    up_operands no_operand = tt
    up_operands (operand e others) = (up_type e, up_operands others)

    up_args : (given : Args) → AllUp (arg_types low given) (arg_types high given)
    up_args no_arg = tt
    up_args (expr_arg e others) = (up_type e, up_args others)
    up_args (sizeof_arg name others) = (λ x h. absurd (cc h), up_args others)

  pub rises : Rises low high
  rises = record { types = up_type; lvalues = up_held; arguments = λ given. up_typed (arg_types low given) (arg_types high given) (up_args given) }
