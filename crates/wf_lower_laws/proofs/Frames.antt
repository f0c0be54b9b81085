-- Expressions and code have the same types in two scopes that agree on the names that stand in them.
use Rattle.std.proofs.Common.{◌≡◌, ◌⊎◌, inl, inr, ℕ, Bool, true, false, ◌&&◌, ◌||◌, List, ◌∷◌, Option, Some, None, refl, sym, ap, ◌∙◌, subst}
use Rattle.std.specs.Prelude.{option_map, option_and_then, is_none, is_some, bytes_eq}
use Rattle.std.proofs.lemmas.Slice.Eq.{bytes_eq-Decides}
use Rattle.c_text.specs.CTree.{TypeTree, ExprTree, number, variable, member, element, pointed, operation, unary, cast, choice, called, Operands, no_operand, operand, Args, no_arg, expr_arg, sizeof_arg, Code, finish, nested, empty, assign, call, jump, branch, repeat, select, leave, case_label, default_label, name_label}
use Rattle.c_meaning.specs.CTypes.{CScope, Function, StructDecl, ExprType, numbers, points_to, zero_literal, cell, object, byte, held_type, field_held, struct_named, function_named, field_named, variable_held, member_held, pointed_held, element_held, operations_type, unary_type, cast_from, choice_type, called_type, type_of, held_of, operand_types, arg_types, value_type, passable, one}
use Rattle.c_meaning.specs.CStep.{Callee, memory_move, own, callee_of}
use Rattle.c_meaning.specs.UnitForm.{Checked, is_number, may_assign, formed_call, formed_return, is_called, is_moved, may_keep}
use Rattle.wf_exprs.specs.Reads.{expr_reads, operands_read, args_read, target_reads, result_reads, value_reads, code_reads}
use Rattle.wf_lower_laws.specs.FormLaw.{typed_code}
use Rattle.wf_lower_laws.proofs.Apart.{left_or, right_or}

pub same_bytes : (l : List ℕ) → bytes_eq l l ≡ true
same_bytes l = (bytes_eq-Decides l l).1 refl

pub two_same : {A B C : Type 0} (f : A → B → C) (a c : A) (b d : B) → a ≡ c → b ≡ d → f a b ≡ f c d
two_same f a c b d h j = ap (λ x. f x b) h ∙ ap (f c) j

pub record Agreed (S T : CScope) (name : List ℕ) : Type 0 where
  pub held : variable_held S name ≡ variable_held T name
  pub function : function_named S.functions name ≡ function_named T.functions name

-- Variables that code assigns to, and functions that it calls as statements.
abbrev pub is_variable : (name : List ℕ) → ExprTree → Bool
is_variable name (variable other) = bytes_eq name other
is_variable name e = false

abbrev pub is_result_of : (name : List ℕ) → Option ExprTree → Bool
is_result_of name None = false
is_result_of name (Some e) = is_variable name e

abbrev pub assigns : (name : List ℕ) → Code → Bool
assigns name finish = false
assigns name (nested inner rest) = assigns name inner || assigns name rest
assigns name (empty rest) = assigns name rest
assigns name (assign target value rest) = is_variable name target || assigns name rest
assigns name (call target function given rest) = is_result_of name target || assigns name rest
assigns name (jump label rest) = assigns name rest
assigns name (branch test body otherwise other rest) = assigns name body || (assigns name other || assigns name rest)
assigns name (repeat test body rest) = assigns name body || assigns name rest
assigns name (select on body rest) = assigns name body || assigns name rest
assigns name (leave value rest) = assigns name rest
assigns name (case_label n rest) = assigns name rest
assigns name (default_label rest) = assigns name rest
assigns name (name_label label rest) = assigns name rest

abbrev pub calls : (name : List ℕ) → Code → Bool
calls name finish = false
calls name (nested inner rest) = calls name inner || calls name rest
calls name (empty rest) = calls name rest
calls name (assign target value rest) = calls name rest
calls name (call target function given rest) = bytes_eq name function || calls name rest
calls name (jump label rest) = calls name rest
calls name (branch test body otherwise other rest) = calls name body || (calls name other || calls name rest)
calls name (repeat test body rest) = calls name body || calls name rest
calls name (select on body rest) = calls name body || calls name rest
calls name (leave value rest) = calls name rest
calls name (case_label n rest) = calls name rest
calls name (default_label rest) = calls name rest
calls name (name_label label rest) = calls name rest

-- A function that may be called by its name in both scopes. None clears an object.
pub record CallAgreed (S T : CScope) (name : List ℕ) : Type 0 where
  pub function : function_named S.functions name ≡ function_named T.functions name
  pub moves : (callee_of name ≡ own) ⊎ (callee_of name ≡ memory_move)

module _ (S T : CScope) (h : S.structs ≡ T.structs) where
  abbrev Agree : ((name : List ℕ) → Bool) → Type 0
  Agree reads = (name : List ℕ) → reads name ≡ true → Agreed S T name

  -- The same of what they hold alone.
  abbrev AgreeHeld : ((name : List ℕ) → Bool) → Type 0
  AgreeHeld test = (name : List ℕ) → test name ≡ true → variable_held S name ≡ variable_held T name

  left_of : (a b : List ℕ → Bool) → Agree (λ name. a name || b name) → Agree a
  left_of a b k name r = k name (left_or (a name) (b name) r)

  right_of : (a b : List ℕ → Bool) → Agree (λ name. a name || b name) → Agree b
  right_of a b k name r = k name (right_or (a name) (b name) r)

  member_same : (field : List ℕ) (t : Option ExprType) → member_held S field t ≡ member_held T field t
  member_same field None = refl
  member_same field (Some (numbers c)) = refl
  member_same field (Some zero_literal) = refl
  member_same field (Some (points_to (cell t))) = refl
  member_same field (Some (points_to byte)) = refl
  member_same field (Some (points_to (object name))) = ap (λ (ss : List StructDecl). option_map (field_held name) (option_and_then (λ it. field_named it.fields field) (struct_named ss name))) h

  mutual
    type_same : (e : ExprTree) → Agree (λ name. expr_reads name e) → type_of S e ≡ type_of T e
    type_same (number n) k = refl
    type_same (variable name) k = ap (option_and_then held_type) (k name (same_bytes name)).held
    type_same (member of field) k = ap (λ t. option_and_then held_type (member_held S field t)) (type_same of k) ∙ ap (option_and_then held_type) (member_same field (type_of T of))
    type_same (element of index) k =
        two_same (λ x y. option_and_then held_type (element_held x y)) (type_of S of) (type_of T of) (type_of S index) (type_of T index)
        (type_same of (left_of (λ name. expr_reads name of) (λ name. expr_reads name index) k)) (type_same index (right_of (λ name. expr_reads name of) (λ name. expr_reads name index) k))
    type_same (pointed of) k = ap (λ t. option_and_then held_type (pointed_held t)) (type_same of k)
    type_same (operation op first second others) k =
        let m = right_of (λ name. expr_reads name first) (λ name. expr_reads name second || operands_read name others) k in
        two_same (operations_type op) (type_of S first) (type_of T first) (type_of S second ∷ operand_types S others) (type_of T second ∷ operand_types T others)
        (type_same first (left_of (λ name. expr_reads name first) (λ name. expr_reads name second || operands_read name others) k))
        (two_same (λ x xs. x ∷ xs) (type_of S second) (type_of T second) (operand_types S others) (operand_types T others)
        (type_same second (left_of (λ name. expr_reads name second) (λ name. operands_read name others) m)) (operands_same others (right_of (λ name. expr_reads name second) (λ name. operands_read name others) m)))
    type_same (unary op of) k = two_same (unary_type op) (type_of S of) (type_of T of) (held_of S of) (held_of T of) (type_same of k) (held_same of k)
    type_same (cast to of) k = two_same (λ ss t. option_and_then (cast_from ss to) t) S.structs T.structs (type_of S of) (type_of T of) h (type_same of k)
    type_same (choice test met unmet) k =
        let m = right_of (λ name. expr_reads name test) (λ name. expr_reads name met || expr_reads name unmet) k in
        two_same (λ t v. option_and_then (λ _. v) t) (type_of S test) (type_of T test) (choice_type (type_of S met) (type_of S unmet)) (choice_type (type_of T met) (type_of T unmet))
        (type_same test (left_of (λ name. expr_reads name test) (λ name. expr_reads name met || expr_reads name unmet) k))
        (two_same choice_type (type_of S met) (type_of T met) (type_of S unmet) (type_of T unmet) (type_same met (left_of (λ name. expr_reads name met) (λ name. expr_reads name unmet) m)) (type_same unmet (right_of (λ name. expr_reads name met) (λ name. expr_reads name unmet) m)))
    type_same (called function given) k =
        two_same called_type (function_named S.functions function) (function_named T.functions function) (arg_types S given) (arg_types T given)
        (k function (left_or (bytes_eq function function) (args_read function given) (same_bytes function))).function (args_same given (right_of (λ name. bytes_eq name function) (λ name. args_read name given) k))

    held_same : (e : ExprTree) → Agree (λ name. expr_reads name e) → held_of S e ≡ held_of T e
    held_same (variable name) k = (k name (same_bytes name)).held
    held_same (member of field) k = ap (member_held S field) (type_same of k) ∙ member_same field (type_of T of)
    held_same (element of index) k =
        two_same element_held (type_of S of) (type_of T of) (type_of S index) (type_of T index)
        (type_same of (left_of (λ name. expr_reads name of) (λ name. expr_reads name index) k)) (type_same index (right_of (λ name. expr_reads name of) (λ name. expr_reads name index) k))
    held_same (pointed of) k = ap pointed_held (type_same of k)
    held_same (number n) k = refl
    held_same (operation op first second others) k = refl
    held_same (unary op of) k = refl
    held_same (cast to of) k = refl
    held_same (choice test met unmet) k = refl
    held_same (called function given) k = refl

    operands_same : (es : Operands) → Agree (λ name. operands_read name es) → operand_types S es ≡ operand_types T es
    operands_same no_operand k = refl
    operands_same (operand e es) k =
        two_same (λ x xs. x ∷ xs) (type_of S e) (type_of T e) (operand_types S es) (operand_types T es)
        (type_same e (left_of (λ name. expr_reads name e) (λ name. operands_read name es) k)) (operands_same es (right_of (λ name. expr_reads name e) (λ name. operands_read name es) k))

    args_same : (es : Args) → Agree (λ name. args_read name es) → arg_types S es ≡ arg_types T es
    args_same no_arg k = refl
    args_same (expr_arg e es) k =
        two_same (λ x xs. x ∷ xs) (type_of S e) (type_of T e) (arg_types S es) (arg_types T es)
        (type_same e (left_of (λ name. expr_reads name e) (λ name. args_read name es) k)) (args_same es (right_of (λ name. expr_reads name e) (λ name. args_read name es) k))
    args_same (sizeof_arg name es) k = ap (λ (xs : List (Option ExprType)). None ∷ xs) (args_same es k)

  -- What is assigned to: a variable by its name, and everything else by what it reads.
  target_same : (e : ExprTree) → AgreeHeld (λ name. is_variable name e) → Agree (λ name. target_reads name e) → held_of S e ≡ held_of T e
  target_same (variable name) v k = v name (same_bytes name)
  target_same (member of field) v k = held_same (member of field) k
  target_same (element of index) v k = held_same (element of index) k
  target_same (pointed of) v k = held_same (pointed of) k
  target_same (number n) v k = refl
  target_same (operation op first second others) v k = refl
  target_same (unary op of) v k = refl
  target_same (cast to of) v k = refl
  target_same (choice test met unmet) v k = refl
  target_same (called function given) v k = refl

  module _ (c d : Checked) (s : c.scope ≡ S) (t : d.scope ≡ T) (r : c.result_type ≡ d.result_type) where
    kept_same : (target : Option ExprTree) (result_type : Option TypeTree) → AgreeHeld (λ name. is_result_of name target) → Agree (λ name. result_reads name target) → may_keep c target result_type ≡ may_keep d target result_type
    kept_same None result_type v k = refl
    kept_same (Some e) result_type v k =
        let same : held_of c.scope e ≡ held_of d.scope e = ap (λ z. held_of z e) s ∙ (target_same e v k ∙ sym (ap (λ z. held_of z e) t)) in
        ap (λ x. may_assign x (option_map value_type result_type)) same

    called_same : (target : Option ExprTree) (given : List (Option ExprType)) (o : Option Function) → AgreeHeld (λ name. is_result_of name target) → Agree (λ name. result_reads name target) → is_called c target given o ≡ is_called d target given o
    called_same target given None v k = refl
    called_same target given (Some f) v k = ap (λ b. passable f.params given && b) (kept_same target f.result_type v k)

    value_same : (e : ExprTree) → Agree (λ name. expr_reads name e) → type_of c.scope e ≡ type_of d.scope e
    value_same e k = ap (λ z. type_of z e) s ∙ (type_same e k ∙ sym (ap (λ z. type_of z e) t))

    given_same : (es : Args) → Agree (λ name. args_read name es) → arg_types c.scope es ≡ arg_types d.scope es
    given_same es k = ap (λ z. arg_types z es) s ∙ (args_same es k ∙ sym (ap (λ z. arg_types z es) t))

    call_same : (target : Option ExprTree) (function : List ℕ) (given : Args) → CallAgreed S T function → AgreeHeld (λ name. is_result_of name target) → Agree (λ name. result_reads name target) → Agree (λ name. args_read name given)
        → formed_call (callee_of function) c target function given ≡ formed_call (callee_of function) d target function given
    call_same target function given a v k j = by a.moves
      where
        by : (callee_of function ≡ own) ⊎ (callee_of function ≡ memory_move) → formed_call (callee_of function) c target function given ≡ formed_call (callee_of function) d target function given
        by (inl e) =
            let P : Callee → Type 0 = λ z. formed_call z c target function given ≡ formed_call z d target function given in
            let found : function_named c.scope.functions function ≡ function_named d.scope.functions function = ap (λ z. function_named z.functions function) s ∙ (a.function ∙ sym (ap (λ z. function_named z.functions function) t)) in
            subst P (sym e) (two_same (λ es o. is_called c target es o) (arg_types c.scope given) (arg_types d.scope given) (function_named c.scope.functions function) (function_named d.scope.functions function) (given_same given j) found
            ∙ called_same target (arg_types d.scope given) (function_named d.scope.functions function) v k)
        by (inr e) =
            let P : Callee → Type 0 = λ z. formed_call z c target function given ≡ formed_call z d target function given in
            subst P (sym e) (ap (λ es. is_none target && is_moved es) (given_same given j))

    returned_same : (value : Option ExprTree) → Agree (λ name. value_reads name value) → (o : Option TypeTree) → formed_return c value o ≡ formed_return d value o
    returned_same None k None = refl
    returned_same None k (Some u) = refl
    returned_same (Some e) k None = refl
    returned_same (Some e) k (Some u) = ap (λ x. may_assign (Some (one u)) x) (value_same e k)

    abbrev CallsAgree : Code → Type 0
    CallsAgree code = (name : List ℕ) → calls name code ≡ true → CallAgreed S T name

    both : (a b x y : Bool) → a ≡ b → x ≡ y → (a && x) ≡ (b && y)
    both a b x y p q = two_same (λ u v. u && v) a b x y p q

    -- Code that is typed in the other scope is typed in this.
    pub code_same : (code : Code) → Agree (λ name. code_reads name code) → AgreeHeld (λ name. assigns name code) → CallsAgree code → typed_code c code ≡ typed_code d code
    code_same finish k v j = refl
    code_same (nested inner rest) k v j =
        both (typed_code c inner) (typed_code d inner) (typed_code c rest) (typed_code d rest)
        (code_same inner (λ name e. k name (left_or _ _ e)) (λ name e. v name (left_or _ _ e)) (λ name e. j name (left_or _ _ e)))
        (code_same rest (λ name e. k name (right_or (code_reads name inner) _ e)) (λ name e. v name (right_or (assigns name inner) _ e)) (λ name e. j name (right_or (calls name inner) _ e)))
    code_same (empty rest) k v j = code_same rest k v j
    code_same (assign target value rest) k v j =
        both _ _ (typed_code c rest) (typed_code d rest)
        (two_same may_assign (held_of c.scope target) (held_of d.scope target) (type_of c.scope value) (type_of d.scope value)
        (ap (λ z. held_of z target) s ∙ (target_same target (λ name e. v name (left_or _ _ e)) (λ name e. k name (left_or _ _ e)) ∙ sym (ap (λ z. held_of z target) t)))
        (value_same value (λ name e. k name (right_or (target_reads name target) _ (left_or _ _ e)))))
        (code_same rest (λ name e. k name (right_or (target_reads name target) _ (right_or (expr_reads name value) _ e))) (λ name e. v name (right_or (is_variable name target) _ e)) j)
    code_same (call target function given rest) k v j =
        both _ _ (typed_code c rest) (typed_code d rest)
        (call_same target function given (j function (left_or _ _ (same_bytes function))) (λ name e. v name (left_or _ _ e)) (λ name e. k name (left_or _ _ e)) (λ name e. k name (right_or (result_reads name target) _ (left_or _ _ e))))
        (code_same rest (λ name e. k name (right_or (result_reads name target) _ (right_or (args_read name given) _ e))) (λ name e. v name (right_or (is_result_of name target) _ e)) (λ name e. j name (right_or (bytes_eq name function) _ e)))
    code_same (jump label rest) k v j = code_same rest k v j
    code_same (branch test body otherwise other rest) k v j =
        both _ _ _ _ (ap (λ (o : Option ExprType). is_some o) (value_same test (λ name e. k name (left_or _ _ e))))
        (both (typed_code c body) (typed_code d body) _ _
        (code_same body (λ name e. k name (right_or (expr_reads name test) _ (left_or _ _ e))) (λ name e. v name (left_or _ _ e)) (λ name e. j name (left_or _ _ e)))
        (both (typed_code c other) (typed_code d other) (typed_code c rest) (typed_code d rest)
        (code_same other (λ name e. k name (right_or (expr_reads name test) _ (right_or (code_reads name body) _ (left_or _ _ e)))) (λ name e. v name (right_or (assigns name body) _ (left_or _ _ e))) (λ name e. j name (right_or (calls name body) _ (left_or _ _ e))))
        (code_same rest (λ name e. k name (right_or (expr_reads name test) _ (right_or (code_reads name body) _ (right_or (code_reads name other) _ e)))) (λ name e. v name (right_or (assigns name body) _ (right_or (assigns name other) _ e)))
        (λ name e. j name (right_or (calls name body) _ (right_or (calls name other) _ e))))))
    code_same (repeat test body rest) k v j =
        both _ _ _ _ (ap (λ (o : Option ExprType). is_some o) (value_same test (λ name e. k name (left_or _ _ e))))
        (both (typed_code c body) (typed_code d body) (typed_code c rest) (typed_code d rest)
        (code_same body (λ name e. k name (right_or (expr_reads name test) _ (left_or _ _ e))) (λ name e. v name (left_or _ _ e)) (λ name e. j name (left_or _ _ e)))
        (code_same rest (λ name e. k name (right_or (expr_reads name test) _ (right_or (code_reads name body) _ e))) (λ name e. v name (right_or (assigns name body) _ e)) (λ name e. j name (right_or (calls name body) _ e))))
    code_same (select on body rest) k v j =
        both _ _ _ _ (ap is_number (value_same on (λ name e. k name (left_or _ _ e))))
        (both (typed_code c body) (typed_code d body) (typed_code c rest) (typed_code d rest)
        (code_same body (λ name e. k name (right_or (expr_reads name on) _ (left_or _ _ e))) (λ name e. v name (left_or _ _ e)) (λ name e. j name (left_or _ _ e)))
        (code_same rest (λ name e. k name (right_or (expr_reads name on) _ (right_or (code_reads name body) _ e))) (λ name e. v name (right_or (assigns name body) _ e)) (λ name e. j name (right_or (calls name body) _ e))))
    code_same (leave value rest) k v j =
        both _ _ (typed_code c rest) (typed_code d rest)
        (ap (formed_return c value) r ∙ returned_same value (λ name e. k name (left_or _ _ e)) d.result_type)
        (code_same rest (λ name e. k name (right_or (value_reads name value) _ e)) v j)
    code_same (case_label n rest) k v j = code_same rest k v j
    code_same (default_label rest) k v j = code_same rest k v j
    code_same (name_label label rest) k v j = code_same rest k v j
