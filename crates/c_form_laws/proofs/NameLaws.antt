-- What has a type, or is an lvalue, uses names that are declared.
use Rattle.std.proofs.Common.{◌≡◌, ◌⊎◌, inl, inr, ℕ, zero, suc, Bool, true, false, ◌&&◌, List, [], ◌∷◌, map, Option, Some, None, refl, ap, ◌∙◌, subst}
use Rattle.std.specs.Prelude.{bytes_eq, is_some, find, if◌then◌else◌, option_map, option_and_then}
use Rattle.std.specs.List.{list_all}
use Rattle.std.proofs.lemmas.Slice.Eq.{bytes_eq-Decides}
use Rattle.c_text.specs.declared.kinds.COp.{COp}
use Rattle.c_text.specs.declared.kinds.CUnary.{CUnary}
use Rattle.c_text.specs.declared.kinds.CUnary.TheVariants.{Not, Complement, Address}
use Rattle.c_text.specs.declared.kinds.Linkage.{Linkage}
use Rattle.c_text.specs.declared.kinds.Linkage.TheVariants.{External, Static, StaticInline}
use Rattle.c_text.specs.CTree.{TypeTree, ExprTree, number, variable, member, element, pointed, operation, unary, cast, choice, called, Operands, no_operand, operand, Args, no_arg, expr_arg, sizeof_arg, Code, finish, nested, empty, assign, call, jump, branch, repeat, select, leave, case_label, default_label, name_label, ParamTree, LocalTree, ItemTree, struct_item, text_item, function_item}
use Rattle.c_meaning.specs.CTypes.{scope_of, texts_of, functions_of, Function, CScope, TextDecl, ExprType, numbers, Held, held_type, is_numeric, as_number, operation_type, operations_type, address_type, unary_type, cast_from, choice_type, one_type, passable, returned, no_locals, is_inline, gives_number, is_expression, result_of, called_type, function_named, variable_held, member_held, pointed_held, element_held, type_of, held_of, operand_types, arg_types}
use Rattle.c_form_laws.specs.Places.{At, Has}
use Rattle.c_form_laws.specs.TypeRules.{IsNumeric}
use Rattle.c_form_laws.specs.NameRules.{IsVariable, IsInlined, AreDeclared, OperandsDeclared, ArgsDeclared, NamesAreDeclared}
use Rattle.c_form_laws.proofs.Places.{each-decides}
use Rattle.c_form_laws.proofs.TypeLaws.{numeric-decides}

pub both_true : (a b : Bool) → (a && b) ≡ true → (a ≡ true) × (b ≡ true)
both_true true b h = (refl, h)
both_true false b h = absurd (cc h)

-- What a part had to be.
abbrev pub Is : {A : Type 0} → Option A → Type 0
Is {A} o = (x : A) × (o ≡ Some x)

pub then_is : {A B : Type 0} (f : A → Option B) (o : Option A) (b : B) → option_and_then f o ≡ Some b → (a : A) × (o ≡ Some a) × (f a ≡ Some b)
then_is f None b h = absurd (cc h)
then_is f (Some a) b h = (a, refl, h)

pub map_is : {A B : Type 0} (f : A → B) (o : Option A) (b : B) → option_map f o ≡ Some b → Is o
map_is f None b h = absurd (cc h)
map_is f (Some a) b h = (a, refl)

abbrev pub AllTyped : List (Option ExprType) → Type 0
AllTyped [] = Unit {0}
AllTyped (o ∷ os) = Is o × AllTyped os

pub operands_typed : (op : COp) (first : Option ExprType) (os : List (Option ExprType)) (t : ExprType) → operations_type op first os ≡ Some t → Is first × AllTyped os
operands_typed op first [] t h = ((t, h), tt)
operands_typed op first (next ∷ others) t h =
    let more = operands_typed op (option_and_then (λ a. option_and_then (operation_type op a) next) first) others t h in
    let one_step = then_is (λ a. option_and_then (operation_type op a) next) first more.0.0 more.0.1 in
    let two = then_is (operation_type op one_step.0) next more.0.0 one_step.2 in
    ((one_step.0, one_step.1), ((two.0, two.1), more.1))

pub passed_typed : (ps : List ParamTree) (os : List (Option ExprType)) → passable ps os ≡ true → AllTyped os
passed_typed [] [] h = tt
passed_typed [] (o ∷ os) h = absurd (cc h)
passed_typed (p ∷ ps) [] h = absurd (cc h)
passed_typed (p ∷ ps) (None ∷ os) h = absurd (cc h)
passed_typed (p ∷ ps) (Some t ∷ os) h = ((t, refl), passed_typed ps os (both_true _ (passable ps os) h).1)

pub member_is : (scope : CScope) (field : List ℕ) (o : Option ExprType) (h : Held) → member_held scope field o ≡ Some h → Is o
member_is scope field None h e = absurd (cc e)
member_is scope field (Some t) h e = (t, refl)

pub pointed_is : (o : Option ExprType) (h : Held) → pointed_held o ≡ Some h → Is o
pointed_is None h e = absurd (cc e)
pointed_is (Some t) h e = (t, refl)

pub element_is : (pointer index : Option ExprType) (h : Held) → element_held pointer index ≡ Some h → Is pointer × Is index
element_is pointer index h e =
    let number_is = then_is (λ n. pointed_held pointer) (option_and_then as_number index) h e in
    let index_is = then_is as_number index number_is.0 number_is.1 in
    (pointed_is pointer h number_is.2, (index_is.0, index_is.1))

-- What is found is there, and passes the test.
pub find_is : {A : Type 0} (test : A → Bool) (xs : List A) (x : A) → find test xs ≡ Some x → Has xs x × (test x ≡ true)
find_is test [] x h = absurd (cc h)
find_is test (y ∷ xs) x h = by (test y) refl h (find_is test xs x)
  where
    by : (b : Bool) → test y ≡ b → (if b then Some y else find test xs) ≡ Some x → (find test xs ≡ Some x → Has xs x × (test x ≡ true)) → Has (y ∷ xs) x × (test x ≡ true)
    by true t e more = let it : y ≡ x = cc e in ((0, e), subst (λ z. test z ≡ true) it t)
    by false t e more = let r = more e in ((suc r.0.0, r.0.1), r.1)

map_at : {A B : Type 0} (f : A → B) (xs : List A) (i : ℕ) (x : A) → At xs i x → At (map f xs) i (f x)
map_at f [] i x e = absurd (cc e)
map_at f (y ∷ xs) zero x e = let it : y ≡ x = cc e in ap (λ z. Some (f z)) it
map_at f (y ∷ xs) (suc i) x e = map_at f xs i x e

named_at : {A : Type 0} (name_of : A → List ℕ) (xs : List A) (name : List ℕ) (x : A) → find (λ it. bytes_eq (name_of it) name) xs ≡ Some x → Has (map name_of xs) name
named_at name_of xs name x h =
    let it = find_is (λ it. bytes_eq (name_of it) name) xs x h in
    let called : name_of x ≡ name = (bytes_eq-Decides (name_of x) name).0 it.1 in
    (it.0.0, map_at name_of xs it.0.0 x it.0.1 ∙ ap Some called)

-- What stands in the lists of a scope stands among the items.
text_before : (before : List ItemTree) (i : ℕ) (t : TextDecl) → At (texts_of before) i t → Has before (text_item t.name t.bytes)
text_before [] i t e = absurd (cc e)
text_before (struct_item fields name ∷ before) i t e = let k = text_before before i t e in (suc k.0, k.1)
text_before (function_item linkage result name params locals body ∷ before) i t e = let k = text_before before i t e in (suc k.0, k.1)
text_before (text_item name bytes ∷ before) zero t e =
    let it : record { name = name; bytes = bytes } ≡ t = cc e in
    (0, ap (λ (u : TextDecl). Some (text_item u.name u.bytes)) it)
text_before (text_item name bytes ∷ before) (suc i) t e = let k = text_before before i t e in (suc k.0, k.1)

pub function_before : (before : List ItemTree) (i : ℕ) (f : Function) → At (functions_of before) i f → Has before (function_item f.linkage f.result_type f.name f.params f.locals f.body)
function_before [] i f e = absurd (cc e)
function_before (struct_item fields name ∷ before) i f e = let k = function_before before i f e in (suc k.0, k.1)
function_before (text_item name bytes ∷ before) i f e = let k = function_before before i f e in (suc k.0, k.1)
function_before (function_item linkage result name params locals body ∷ before) zero f e =
    let it : record { linkage = linkage; result_type = result; name = name; params = params; locals = locals; body = body } ≡ f = cc e in
    (0, ap (λ (g : Function). Some (function_item g.linkage g.result_type g.name g.params g.locals g.body)) it)
function_before (function_item linkage result name params locals body ∷ before) (suc i) f e = let k = function_before before i f e in (suc k.0, k.1)

variable_declared : (before : List ItemTree) (names : List ParamTree) (name : List ℕ) (h : Held) → variable_held (scope_of before names) name ≡ Some h → IsVariable before names name
variable_declared before names name h e = by (find (λ it. bytes_eq it.name name) names) refl (find (λ it. bytes_eq it.name name) (texts_of before)) refl
  where
    by : (o : Option ParamTree) → find (λ it. bytes_eq it.name name) names ≡ o → (u : Option TextDecl) → find (λ it. bytes_eq it.name name) (texts_of before) ≡ u → IsVariable before names name
    by (Some p) f u k = inl (named_at (λ (it : ParamTree). it.name) names name p f)
    by None f (Some t) k =
        let it = find_is (λ (it : TextDecl). bytes_eq it.name name) (texts_of before) t k in
        let spelt : t.name ≡ name = (bytes_eq-Decides t.name name).0 it.1 in
        inr (t.bytes, subst (λ (n : List ℕ). Has before (text_item n t.bytes)) spelt (text_before before it.0.0 t it.0.1))
    by None f None k = absurd (let none : variable_held (scope_of before names) name ≡ None = rw (f, k) refl in cc (none, e))

-- Functions that an expression may call.
inline_is : (linkage : Linkage) → is_inline linkage ≡ true → linkage ≡ StaticInline
inline_is StaticInline h = refl
inline_is Static h = absurd (cc h)
inline_is External h = absurd (cc h)

number_given : (o : Option TypeTree) → gives_number o ≡ true → (t : TypeTree) × (o ≡ Some t) × IsNumeric t
number_given None h = absurd (cc h)
number_given (Some t) h = (t, refl, (numeric-decides t).0 h)

none_local : (ls : List LocalTree) → no_locals ls ≡ true → ls ≡ []
none_local [] h = refl
none_local (l ∷ ls) h = absurd (cc h)

body_is : (body : Code) → is_some (returned body) ≡ true → (value : ExprTree) × (body ≡ leave (Some value) finish)
body_is finish h = absurd (cc h)
body_is (nested block rest) h = absurd (cc h)
body_is (empty rest) h = absurd (cc h)
body_is (assign target value rest) h = absurd (cc h)
body_is (call target function given rest) h = absurd (cc h)
body_is (jump to rest) h = absurd (cc h)
body_is (branch test block otherwise other rest) h = absurd (cc h)
body_is (repeat test block rest) h = absurd (cc h)
body_is (select on block rest) h = absurd (cc h)
body_is (case_label n rest) h = absurd (cc h)
body_is (default_label rest) h = absurd (cc h)
body_is (name_label name rest) h = absurd (cc h)
body_is (leave value (nested block rest)) h = absurd (cc h)
body_is (leave value (empty rest)) h = absurd (cc h)
body_is (leave value (assign target from rest)) h = absurd (cc h)
body_is (leave value (call target function given rest)) h = absurd (cc h)
body_is (leave value (jump to rest)) h = absurd (cc h)
body_is (leave value (branch test block otherwise other rest)) h = absurd (cc h)
body_is (leave value (repeat test block rest)) h = absurd (cc h)
body_is (leave value (select on block rest)) h = absurd (cc h)
body_is (leave value (case_label n rest)) h = absurd (cc h)
body_is (leave value (default_label rest)) h = absurd (cc h)
body_is (leave value (name_label name rest)) h = absurd (cc h)
body_is (leave value (leave again rest)) h = absurd (cc h)
body_is (leave None finish) h = absurd (cc h)
body_is (leave (Some value) finish) h = (value, refl)

item_same : (before : List ItemTree) (f : Function) (name : List ℕ) (t : TypeTree) (value : ExprTree) → f.linkage ≡ StaticInline → f.result_type ≡ Some t → f.name ≡ name → f.locals ≡ [] → f.body ≡ leave (Some value) finish
    → Has before (function_item f.linkage f.result_type f.name f.params f.locals f.body) → Has before (function_item StaticInline (Some t) name f.params [] (leave (Some value) finish))
item_same before f name t value linkage result spelt locals body has =
    let same : function_item f.linkage f.result_type f.name f.params f.locals f.body ≡ function_item StaticInline (Some t) name f.params [] (leave (Some value) finish) = cc (linkage, result, spelt, locals, body) in
    subst (λ (item : ItemTree). Has before item) same has

inlined : (before : List ItemTree) (f : Function) (name : List ℕ) → is_expression f ≡ true → f.name ≡ name → Has (functions_of before) f → IsInlined before name
inlined before f name h spelt has =
    let a = both_true (is_inline f.linkage) _ h in
    let b = both_true (gives_number f.result_type) _ a.1 in
    let d = both_true (list_all (λ p. is_numeric p.kind) f.params) _ b.1 in
    let e = both_true (no_locals f.locals) _ d.1 in
    let result = number_given f.result_type b.0 in
    let body = body_is f.body e.1 in
    (result.0, f.params, body.0, item_same before f name result.0 body.0 (inline_is f.linkage a.0) result.1 spelt (none_local f.locals e.0) body.1 (function_before before has.0 f has.1), result.2, (each-decides (λ p. is_numeric p.kind) (λ i p. IsNumeric p.kind) (λ i p. numeric-decides p.kind) f.params).0 d.0)

call_declared : (before : List ItemTree) (name : List ℕ) (given : List (Option ExprType)) (t : ExprType) → called_type (function_named (functions_of before) name) given ≡ Some t → IsInlined before name × AllTyped given
call_declared before name given t h = by (function_named (functions_of before) name) refl h
  where
    by : (o : Option Function) → function_named (functions_of before) name ≡ o → called_type o given ≡ Some t → IsInlined before name × AllTyped given
    by None e k = absurd (cc k)
    by (Some f) e k = fits (is_expression f && passable f.params given) refl k
      where
        fits : (b : Bool) → (is_expression f && passable f.params given) ≡ b → (if b then result_of f else None) ≡ Some t → IsInlined before name × AllTyped given
        fits false q r = absurd (cc r)
        fits true q r =
            let it = find_is (λ (it : Function). bytes_eq it.name name) (functions_of before) f e in
            let parts = both_true (is_expression f) (passable f.params given) q in
            (inlined before f name parts.0 ((bytes_eq-Decides f.name name).0 it.1) it.0, passed_typed f.params given parts.1)

-- Expressions.
unary_is : (op : CUnary) (o : Option ExprType) (held : Option Held) (t : ExprType) → unary_type op o held ≡ Some t → Is o ⊎ Is held
unary_is Not o held t h = inl (map_is _ o t h)
unary_is Complement o held t h = inl (let n = map_is numbers (option_and_then as_number o) t h in let k = then_is as_number o n.0 n.1 in (k.0, k.1))
unary_is Address o held t h = inr (let k = then_is address_type held t h in (k.0, k.1))

pub choice_is : (test met unmet : Option ExprType) (t : ExprType) → option_and_then (λ _. choice_type met unmet) test ≡ Some t → Is test × (Is met × (Is unmet × (choice_type met unmet ≡ Some t)))
choice_is test met unmet t h =
    let a = then_is (λ _. choice_type met unmet) test t h in
    let b = then_is (λ left. option_and_then (one_type true left) unmet) met t a.2 in
    let d = then_is (one_type true b.0) unmet t b.2 in
    ((a.0, a.1), ((b.0, b.1), ((d.0, d.1), a.2)))

module _ (before : List ItemTree) (names : List ParamTree) where
  abbrev scope : CScope
  scope = scope_of before names

  mutual
    typed_declared : (e : ExprTree) (t : ExprType) → type_of scope e ≡ Some t → AreDeclared before names e
    typed_declared (number n) t h = tt
    typed_declared (variable name) t h = let k = then_is held_type (variable_held scope name) t h in variable_declared before names name k.0 k.1
    typed_declared (member pointer field) t h =
        let k = then_is held_type (member_held scope field (type_of scope pointer)) t h in
        let p = member_is scope field (type_of scope pointer) k.0 k.1 in
        typed_declared pointer p.0 p.1
    typed_declared (element pointer index) t h =
        let k = then_is held_type (element_held (type_of scope pointer) (type_of scope index)) t h in
        let p = element_is (type_of scope pointer) (type_of scope index) k.0 k.1 in
        (typed_declared pointer p.0.0 p.0.1, typed_declared index p.1.0 p.1.1)
    typed_declared (pointed pointer) t h =
        let k = then_is held_type (pointed_held (type_of scope pointer)) t h in
        let p = pointed_is (type_of scope pointer) k.0 k.1 in
        typed_declared pointer p.0 p.1
    typed_declared (operation op first second others) t h =
        let k = operands_typed op (type_of scope first) (type_of scope second ∷ operand_types scope others) t h in
        (typed_declared first k.0.0 k.0.1, typed_declared second k.1.0.0 k.1.0.1, operands_declared others k.1.1)
    typed_declared (unary op of) t h = by (unary_is op (type_of scope of) (held_of scope of) t h) (typed_declared of) (held_declared of)
      where
        by : Is (type_of scope of) ⊎ Is (held_of scope of) → ((t : ExprType) → type_of scope of ≡ Some t → AreDeclared before names of) → ((held : Held) → held_of scope of ≡ Some held → AreDeclared before names of) → AreDeclared before names of
        by (inl k) typed held = typed k.0 k.1
        by (inr k) typed held = held k.0 k.1
    typed_declared (cast to of) t h = let k = then_is (cast_from scope.structs to) (type_of scope of) t h in typed_declared of k.0 k.1
    typed_declared (choice test met unmet) t h =
        let k = choice_is (type_of scope test) (type_of scope met) (type_of scope unmet) t h in
        (typed_declared test k.0.0 k.0.1, typed_declared met k.1.0.0 k.1.0.1, typed_declared unmet k.1.1.0.0 k.1.1.0.1)
    typed_declared (called function given) t h =
        let k = call_declared before function (arg_types scope given) t h in
        (k.0, args_declared given k.1)

    held_declared : (e : ExprTree) (held : Held) → held_of scope e ≡ Some held → AreDeclared before names e
    held_declared (variable name) held h = variable_declared before names name held h
    held_declared (member pointer field) held h =
        let p = member_is scope field (type_of scope pointer) held h in
        typed_declared pointer p.0 p.1
    held_declared (element pointer index) held h =
        let p = element_is (type_of scope pointer) (type_of scope index) held h in
        (typed_declared pointer p.0.0 p.0.1, typed_declared index p.1.0 p.1.1)
    held_declared (pointed pointer) held h =
        let p = pointed_is (type_of scope pointer) held h in
        typed_declared pointer p.0 p.1
    held_declared (number n) held h = absurd (cc h)
    held_declared (operation op first second others) held h = absurd (cc h)
    held_declared (unary op of) held h = absurd (cc h)
    held_declared (cast to of) held h = absurd (cc h)
    held_declared (choice test met unmet) held h = absurd (cc h)
    held_declared (called function given) held h = absurd (cc h)

    operands_declared : (others : Operands) → AllTyped (operand_types scope others) → OperandsDeclared before names others
    operands_declared no_operand h = tt
    operands_declared (operand e others) h = (typed_declared e h.0.0 h.0.1, operands_declared others h.1)

    args_declared : (given : Args) → AllTyped (arg_types scope given) → ArgsDeclared before names given
    args_declared no_arg h = tt
    args_declared (expr_arg e others) h = (typed_declared e h.0.0 h.0.1, args_declared others h.1)
    args_declared (sizeof_arg name others) h = absurd (let e = h.0.1 in cc e)

pub names_declared : NamesAreDeclared
names_declared before names e (inl h) = typed_declared before names e h.0 h.1
names_declared before names e (inr h) = held_declared before names e h.0 h.1
