-- The tests of statements tell what the rules ask.
use Rattle.std.proofs.Common.{◌≡◌, ◌⊎◌, ◌<◌, ◌+◌, ℕ, zero, suc, Bool, true, false, ◌&&◌, List, [], ◌∷◌, Option, Some, None, nat_eq, nat_lt, nat_le, refl, sym, ap, ◌∙◌, subst, arith}
use Rattle.std.specs.Prelude.{bytes_eq, is_none, find, if◌then◌else◌}
use Rattle.std.specs.Bool.{Decides}
use Rattle.std.specs.List.{list_all}
use Rattle.std.proofs.lemmas.Bool.{leb-true, le-leb}
use Rattle.std.proofs.lemmas.Bool.Decides.{Decides-and, Decides-or, Decides-not, Decides-like, Decides-eqb, Decides-ltb}
use Rattle.std.proofs.lemmas.Slice.Eq.{bytes_eq-Decides}
use Rattle.c_text.specs.declared.kinds.CNumber.{CNumber}
use Rattle.c_text.specs.declared.kinds.CNumber.TheVariants as literal
use Rattle.c_text.specs.declared.kinds.Linkage.{Linkage}
use Rattle.c_text.specs.declared.kinds.Linkage.TheVariants.{External, Static, StaticInline}
use Rattle.c_text.specs.CTree.{TypeTree, uint, size, boolean, uint_pointer, struct_pointer, text, ExprTree, variable, number, member, element, pointed, operation, unary, cast, choice, called, Args, no_arg, expr_arg, sizeof_arg, Code, finish, nested, empty, assign, call, jump, branch, repeat, select, leave, case_label, default_label, name_label, ParamTree}
use Rattle.c_meaning.specs.CTypes.{Function, CScope, TextDecl, function_named, Target, cell, object, byte, ExprType, numbers, points_to, zero_literal, Held, one, fixed, many, inner, character, characters, value_type, as_number, assignable, passable, type_of, held_of, arg_types}
use Rattle.c_meaning.specs.CStep.{Callee, memory_move, memory_set, own, callee_of, stop}
use Rattle.c_meaning.specs.UnitForm.{Checked, Cases, cases_of, labels_of, has_type, is_number, may_assign, is_moved, is_object_pointer, is_set, may_keep, is_called, formed_call, may_loop, formed_return, is_other_case, is_plain, plain_distinct, formed_cases, formed_code, all_distinct}
use Rattle.c_form_stmts.specs.Lines.{LineTree, line}
use Rattle.c_form_stmts.specs.Statements.{label_of, name_before, label_names, is_label, label_at, goes_to, formed_line, formed_lines}
use Rattle.c_form_stmts.proofs.FlatLaws.{bodiless, labels_listed, body_lines}
use Rattle.c_form_laws.specs.Places.{At, Has, Each, AllDiffer}
use Rattle.c_form_laws.specs.TypeRules.{Fits}
use Rattle.c_form_laws.specs.StatementRules.{LabelsDiffer, switched_statements, statements, IsNumber, GoesTo, IsToBytes, IsMove, IsSet, ArePassed, MayKeep, MayCall, MayLoop, IsLabel, MayJump, IsPlain, AreCases, MayReturn, KeepsStatement}
use Rattle.c_form_laws.proofs.Places.{each_front, each_none, each-decides, differ_front, differ_first, differ_rest, differ-decides}
use Rattle.c_form_stmts.proofs.CaseLemmas.{cases_in, cases_listed}
use Rattle.c_form_laws.proofs.MarkLaws.{label_code, label_listed, labels_apart, apart_labels, AreFormed, cases_apart, apart_cases}
use Rattle.c_form_laws.proofs.TypeLaws.{some-decides, none-decides, fits-decides}

-- Expressions that are numbers, or go to a target.
number_is : (t : ExprType) → Decides (is_number (Some t)) (IsNumber t)
number_is t = some-decides (as_number t)

number-decides : (o : Option ExprType) → Decides (is_number o) ((t : ExprType) × (o ≡ Some t) × IsNumber t)
number-decides None = (λ h. absurd (cc h), λ h. absurd (let e = h.1 in cc e))
number-decides (Some t) =
    Decides-like (is_number (Some t)) (λ (n : IsNumber t). (t, refl, n)) (λ h. let same : h.0 ≡ t = (let e = h.1 in cc e) in subst IsNumber same h.2) (number_is t)

abbrev Goes : TypeTree → Option ExprType → Type 0
Goes t o = (v : ExprType) × (o ≡ Some v) × Fits t v

goes_is : (t : TypeTree) (v : ExprType) → Decides (assignable t v) (Goes t (Some v))
goes_is t v = Decides-like (assignable t v) (λ (n : Fits t v). (v, refl, n)) (λ h. let same : h.0 ≡ v = (let e = h.1 in cc e) in subst (Fits t) same h.2) (fits-decides t v)

-- What is assigned.
goes-decides : (t : TypeTree) (o : Option ExprType) → Decides (may_assign (Some (one t)) o) (Goes t o)
goes-decides t None = (λ h. absurd (cc h), λ h. absurd (let e = h.1 in cc e))
goes-decides t (Some v) = goes_is t v

abbrev Assigns : Option Held → Option ExprType → Type 0
Assigns held o = (t : TypeTree) × (held ≡ Some (one t)) × Goes t o

cell_is : (t : TypeTree) (o : Option ExprType) → Decides (may_assign (Some (one t)) o) (Assigns (Some (one t)) o)
cell_is t o = Decides-like (may_assign (Some (one t)) o) (λ (n : Goes t o). (t, refl, n)) (λ h. let same : h.0 ≡ t = (let e = h.1 in cc e) in subst (λ (u : TypeTree). Goes u o) same h.2) (goes-decides t o)

assign-decides : (held : Option Held) (o : Option ExprType) → Decides (may_assign held o) (Assigns held o)
assign-decides None o = (λ h. absurd (cc h), λ h. absurd (let e = h.1 in cc e))
assign-decides (Some (one t)) o = cell_is t o
assign-decides (Some (fixed t)) o = (λ h. absurd (cc h), λ h. absurd (let e = h.1 in cc e))
assign-decides (Some (many t)) o = (λ h. absurd (cc h), λ h. absurd (let e = h.1 in cc e))
assign-decides (Some (inner name)) o = (λ h. absurd (cc h), λ h. absurd (let e = h.1 in cc e))
assign-decides (Some character) o = (λ h. absurd (cc h), λ h. absurd (let e = h.1 in cc e))
assign-decides (Some characters) o = (λ h. absurd (cc h), λ h. absurd (let e = h.1 in cc e))

-- The target of a call.
keep-decides : (c : Checked) (target : Option ExprTree) (result : Option TypeTree) → Decides (may_keep c target result) (MayKeep c.scope target result)
keep-decides c None result = (λ _. tt, λ _. refl)
keep-decides c (Some target) None = none (held_of c.scope target)
  where
    none : (held : Option Held) → Decides (may_assign held None) ⊥
    none held = (λ h. let k = (assign-decides held None).0 h in absurd (let e = k.2.1 in cc e), λ h. absurd h)
keep-decides c (Some target) (Some result) =
    Decides-like (may_assign (held_of c.scope target) (Some (value_type result)))
    (λ (h : Assigns (held_of c.scope target) (Some (value_type result))). (h.0, h.1, let same : h.2.0 ≡ value_type result = (let e = h.2.1 in cc e) in subst (Fits h.0) same h.2.2))
    (λ h. (h.0, h.1, (value_type result, refl, h.2)))
    (assign-decides (held_of c.scope target) (Some (value_type result)))

-- Arguments.
abbrev Passed : List (Option ExprType) → ℕ → ParamTree → Type 0
Passed given i p = (t : ExprType) × At given i (Some t) × Fits p.kind t

passed_front : (p : ParamTree) (ps : List ParamTree) (t : ExprType) (given : List (Option ExprType)) → Fits p.kind t × ArePassed ps given → ArePassed (p ∷ ps) (Some t ∷ given)
passed_front p ps t given h = (ap suc h.1.0, each_front (Passed (Some t ∷ given)) p ps (t, refl, h.0) (λ i q e. h.1.1 i q e))

passed_back : (p : ParamTree) (ps : List ParamTree) (t : ExprType) (given : List (Option ExprType)) → ArePassed (p ∷ ps) (Some t ∷ given) → Fits p.kind t × ArePassed ps given
passed_back p ps t given h =
    let k : Passed (Some t ∷ given) 0 p = h.1 0 p refl in
    let same : k.0 ≡ t = (let e = k.1 in cc e) in
    (subst (Fits p.kind) same k.2, (let n = h.0 in omega (arith, n), λ i q e. h.1 (suc i) q e))

pub passed-decides : (ps : List ParamTree) (given : List (Option ExprType)) → Decides (passable ps given) (ArePassed ps given)
passed-decides [] [] = (λ _. (refl, each_none (Passed [])), λ _. refl)
passed-decides [] (o ∷ given) = (λ h. absurd (cc h), λ h. absurd (let n = h.0 in omega (arith, n)))
passed-decides (p ∷ ps) [] = (λ h. absurd (cc h), λ h. absurd (let n = h.0 in omega (arith, n)))
passed-decides (p ∷ ps) (None ∷ given) = (λ h. absurd (cc h), λ h. absurd (let k : Passed (None ∷ given) 0 p = h.1 0 p refl in let e = k.1 in cc e))
passed-decides (p ∷ ps) (Some t ∷ given) =
    Decides-like (assignable p.kind t && passable ps given) (passed_front p ps t given) (passed_back p ps t given)
    (Decides-and (assignable p.kind t) (passable ps given) (fits-decides p.kind t) (passed-decides ps given))

-- `memmove`.
not_moved : (given : List (Option ExprType)) → is_moved given ≡ false → ((t : TypeTree) (from : Target) (n : ExprType) → given ≡ Some (points_to (cell t)) ∷ Some (points_to from) ∷ Some n ∷ [] → IsToBytes from → ⊥) → Decides (is_moved given) (IsMove given)
not_moved given none other = (λ h. absurd (cc (h, none)), λ h. absurd (other h.0 h.1 h.2 h.3 h.4))

moved_is : (t : TypeTree) (from : Target) (count : Option ExprType) → IsToBytes from → Decides (is_number count) (IsMove (Some (points_to (cell t)) ∷ Some (points_to from) ∷ count ∷ []))
moved_is t from count bytes =
    Decides-like (is_number count) (λ (h : (n : ExprType) × (count ≡ Some n) × IsNumber n). (t, from, h.0, ap (λ o. Some (points_to (cell t)) ∷ Some (points_to from) ∷ o ∷ []) h.1, bytes, h.2))
    (λ h. (h.2, (let e = h.3 in cc e), h.5)) (number-decides count)

pub move-decides : (given : List (Option ExprType)) → Decides (is_moved given) (IsMove given)
move-decides [] = not_moved [] refl (λ t from n e b. cc e)
move-decides (None ∷ given) = not_moved (None ∷ given) refl (λ t from n e b. cc e)
move-decides (Some (numbers c) ∷ given) = not_moved (Some (numbers c) ∷ given) refl (λ t from n e b. cc e)
move-decides (Some zero_literal ∷ given) = not_moved (Some zero_literal ∷ given) refl (λ t from n e b. cc e)
move-decides (Some (points_to (object name)) ∷ given) = not_moved (Some (points_to (object name)) ∷ given) refl (λ t from n e b. cc e)
move-decides (Some (points_to byte) ∷ given) = not_moved (Some (points_to byte) ∷ given) refl (λ t from n e b. cc e)
move-decides (Some (points_to (cell t)) ∷ []) = not_moved (Some (points_to (cell t)) ∷ []) refl (λ t from n e b. cc e)
move-decides (Some (points_to (cell t)) ∷ None ∷ given) = not_moved (Some (points_to (cell t)) ∷ None ∷ given) refl (λ t from n e b. cc e)
move-decides (Some (points_to (cell t)) ∷ Some (numbers c) ∷ given) = not_moved (Some (points_to (cell t)) ∷ Some (numbers c) ∷ given) refl (λ t from n e b. cc e)
move-decides (Some (points_to (cell t)) ∷ Some zero_literal ∷ given) = not_moved (Some (points_to (cell t)) ∷ Some zero_literal ∷ given) refl (λ t from n e b. cc e)
move-decides (Some (points_to (cell t)) ∷ Some (points_to (object name)) ∷ given) =
    not_moved (Some (points_to (cell t)) ∷ Some (points_to (object name)) ∷ given) refl (λ u from n e b. let same : from ≡ object name = cc e in subst IsToBytes same b)
move-decides (Some (points_to (cell t)) ∷ Some (points_to (cell u)) ∷ []) = not_moved (Some (points_to (cell t)) ∷ Some (points_to (cell u)) ∷ []) refl (λ t from n e b. cc e)
move-decides (Some (points_to (cell t)) ∷ Some (points_to byte) ∷ []) = not_moved (Some (points_to (cell t)) ∷ Some (points_to byte) ∷ []) refl (λ t from n e b. cc e)
move-decides (Some (points_to (cell t)) ∷ Some (points_to (cell u)) ∷ count ∷ []) = moved_is t (cell u) count tt
move-decides (Some (points_to (cell t)) ∷ Some (points_to byte) ∷ count ∷ []) = moved_is t byte count tt
move-decides (Some (points_to (cell t)) ∷ Some (points_to (cell u)) ∷ count ∷ x ∷ given) = not_moved (Some (points_to (cell t)) ∷ Some (points_to (cell u)) ∷ count ∷ x ∷ given) refl (λ t from n e b. cc e)
move-decides (Some (points_to (cell t)) ∷ Some (points_to byte) ∷ count ∷ x ∷ given) = not_moved (Some (points_to (cell t)) ∷ Some (points_to byte) ∷ count ∷ x ∷ given) refl (λ t from n e b. cc e)

-- `memset`.
abbrev Points : Option ExprType → Type 0
Points o = (struct : List ℕ) × (o ≡ Some (points_to (object struct)))

kind_is : (t : TypeTree) (name : List ℕ) → Decides (is_object_pointer (Some (record { kind = t; name = name }))) (Points (Some (value_type t)))
kind_is (struct_pointer struct) name = (λ _. (struct, refl), λ _. refl)
kind_is (uint u) name = (λ h. absurd (cc h), λ h. absurd (let e = h.1 in cc e))
kind_is size name = (λ h. absurd (cc h), λ h. absurd (let e = h.1 in cc e))
kind_is boolean name = (λ h. absurd (cc h), λ h. absurd (let e = h.1 in cc e))
kind_is (uint_pointer u) name = (λ h. absurd (cc h), λ h. absurd (let e = h.1 in cc e))
kind_is text name = (λ h. absurd (cc h), λ h. absurd (let e = h.1 in cc e))

pointer-decides : (scope : CScope) (name : List ℕ) → Decides (is_object_pointer (find (λ it. bytes_eq it.name name) scope.names)) (Points (type_of scope (variable name)))
pointer-decides scope name = by (find (λ it. bytes_eq it.name name) scope.names) refl (find (λ it. bytes_eq it.name name) scope.texts) refl
  where
    by : (o : Option ParamTree) → find (λ it. bytes_eq it.name name) scope.names ≡ o → (u : Option TextDecl) → find (λ it. bytes_eq it.name name) scope.texts ≡ u → Decides (is_object_pointer (find (λ it. bytes_eq it.name name) scope.names)) (Points (type_of scope (variable name)))
    by (Some p) h u k = rw h (kind_is p.kind p.name)
    by None h None k = rw (h, k) (λ e. absurd (cc e), λ e. absurd (let f = e.1 in cc f))
    by None h (Some t) k = rw (h, k) (λ e. absurd (cc e), λ e. absurd (let f = e.1 in cc f))

abbrev set_of : List ℕ → ℕ → List ℕ → Args
set_of name n same = expr_arg (variable name) (expr_arg (number (literal.Int n)) (sizeof_arg same no_arg))

set_is : (scope : CScope) (name same : List ℕ) (n : ℕ) → Decides (is_set scope (set_of name n same)) (IsSet scope (set_of name n same))
set_is scope name same n =
    Decides-like (nat_eq n 0 && (bytes_eq name same && is_object_pointer (find (λ it. bytes_eq it.name name) scope.names))) to from
    (Decides-and (nat_eq n 0) (bytes_eq name same && is_object_pointer (find (λ it. bytes_eq it.name name) scope.names)) (Decides-eqb n 0)
    (Decides-and (bytes_eq name same) (is_object_pointer (find (λ it. bytes_eq it.name name) scope.names)) (bytes_eq-Decides name same) (pointer-decides scope name)))
  where
    to : (n ≡ 0) × ((name ≡ same) × Points (type_of scope (variable name))) → IsSet scope (set_of name n same)
    to h = (name, h.1.1.0, (let a = h.0 in let b = h.1.0 in cc (a, b)), h.1.1.1)

    from : IsSet scope (set_of name n same) → (n ≡ 0) × ((name ≡ same) × Points (type_of scope (variable name)))
    from h =
        let e = h.2 in
        let a : n ≡ 0 = cc e in
        let b : h.0 ≡ name = cc e in
        let d : name ≡ same = cc e in
        (a, (d, (h.1, subst (λ (p : List ℕ). type_of scope (variable p) ≡ Some (points_to (object h.1))) b h.3)))

not_set : (scope : CScope) (given : Args) → is_set scope given ≡ false → ((p : List ℕ) → given ≡ set_of p 0 p → ⊥) → Decides (is_set scope given) (IsSet scope given)
not_set scope given none other = (λ h. absurd (cc (h, none)), λ h. absurd (other h.0 h.2))

set-decides : (scope : CScope) (given : Args) → Decides (is_set scope given) (IsSet scope given)
set-decides scope no_arg = not_set scope no_arg refl (λ p e. cc e)
set-decides scope (sizeof_arg same given) = not_set scope (sizeof_arg same given) refl (λ p e. cc e)
set-decides scope (expr_arg (number n) given) = not_set scope (expr_arg (number n) given) refl (λ p e. cc e)
set-decides scope (expr_arg (member p f) given) = not_set scope (expr_arg (member p f) given) refl (λ p e. cc e)
set-decides scope (expr_arg (element p x) given) = not_set scope (expr_arg (element p x) given) refl (λ p e. cc e)
set-decides scope (expr_arg (pointed p) given) = not_set scope (expr_arg (pointed p) given) refl (λ p e. cc e)
set-decides scope (expr_arg (operation op a b others) given) = not_set scope (expr_arg (operation op a b others) given) refl (λ p e. cc e)
set-decides scope (expr_arg (unary op a) given) = not_set scope (expr_arg (unary op a) given) refl (λ p e. cc e)
set-decides scope (expr_arg (cast t a) given) = not_set scope (expr_arg (cast t a) given) refl (λ p e. cc e)
set-decides scope (expr_arg (choice a b d) given) = not_set scope (expr_arg (choice a b d) given) refl (λ p e. cc e)
set-decides scope (expr_arg (called f args) given) = not_set scope (expr_arg (called f args) given) refl (λ p e. cc e)
set-decides scope (expr_arg (variable name) no_arg) = not_set scope (expr_arg (variable name) no_arg) refl (λ p e. cc e)
set-decides scope (expr_arg (variable name) (sizeof_arg same given)) = not_set scope (expr_arg (variable name) (sizeof_arg same given)) refl (λ p e. cc e)
set-decides scope (expr_arg (variable name) (expr_arg (variable other) given)) = not_set scope (expr_arg (variable name) (expr_arg (variable other) given)) refl (λ p e. cc e)
set-decides scope (expr_arg (variable name) (expr_arg (member p f) given)) = not_set scope (expr_arg (variable name) (expr_arg (member p f) given)) refl (λ p e. cc e)
set-decides scope (expr_arg (variable name) (expr_arg (element p x) given)) = not_set scope (expr_arg (variable name) (expr_arg (element p x) given)) refl (λ p e. cc e)
set-decides scope (expr_arg (variable name) (expr_arg (pointed p) given)) = not_set scope (expr_arg (variable name) (expr_arg (pointed p) given)) refl (λ p e. cc e)
set-decides scope (expr_arg (variable name) (expr_arg (operation op a b others) given)) = not_set scope (expr_arg (variable name) (expr_arg (operation op a b others) given)) refl (λ p e. cc e)
set-decides scope (expr_arg (variable name) (expr_arg (unary op a) given)) = not_set scope (expr_arg (variable name) (expr_arg (unary op a) given)) refl (λ p e. cc e)
set-decides scope (expr_arg (variable name) (expr_arg (cast t a) given)) = not_set scope (expr_arg (variable name) (expr_arg (cast t a) given)) refl (λ p e. cc e)
set-decides scope (expr_arg (variable name) (expr_arg (choice a b d) given)) = not_set scope (expr_arg (variable name) (expr_arg (choice a b d) given)) refl (λ p e. cc e)
set-decides scope (expr_arg (variable name) (expr_arg (called f args) given)) = not_set scope (expr_arg (variable name) (expr_arg (called f args) given)) refl (λ p e. cc e)
set-decides scope (expr_arg (variable name) (expr_arg (number (literal.Unsigned n)) given)) = not_set scope (expr_arg (variable name) (expr_arg (number (literal.Unsigned n)) given)) refl (λ p e. cc e)
set-decides scope (expr_arg (variable name) (expr_arg (number (literal.Long n)) given)) = not_set scope (expr_arg (variable name) (expr_arg (number (literal.Long n)) given)) refl (λ p e. cc e)
set-decides scope (expr_arg (variable name) (expr_arg (number (literal.Int n)) no_arg)) = not_set scope (expr_arg (variable name) (expr_arg (number (literal.Int n)) no_arg)) refl (λ p e. cc e)
set-decides scope (expr_arg (variable name) (expr_arg (number (literal.Int n)) (expr_arg a given))) = not_set scope (expr_arg (variable name) (expr_arg (number (literal.Int n)) (expr_arg a given))) refl (λ p e. cc e)
set-decides scope (expr_arg (variable name) (expr_arg (number (literal.Int n)) (sizeof_arg same (expr_arg a given)))) = not_set scope (expr_arg (variable name) (expr_arg (number (literal.Int n)) (sizeof_arg same (expr_arg a given)))) refl (λ p e. cc e)
set-decides scope (expr_arg (variable name) (expr_arg (number (literal.Int n)) (sizeof_arg same (sizeof_arg other given)))) = not_set scope (expr_arg (variable name) (expr_arg (number (literal.Int n)) (sizeof_arg same (sizeof_arg other given)))) refl (λ p e. cc e)
set-decides scope (expr_arg (variable name) (expr_arg (number (literal.Int n)) (sizeof_arg same no_arg))) = set_is scope name same n

-- Calls.
called-decides : (c : Checked) (target : Option ExprTree) (given : List (Option ExprType)) (o : Option Function)
    → Decides (is_called c target given o) ((f : Function) × (o ≡ Some f) × ArePassed f.params given × MayKeep c.scope target f.result_type)
called-decides c target given None = (λ h. absurd (cc h), λ h. absurd (let e = h.1 in cc e))
called-decides c target given (Some f) =
    Decides-like (passable f.params given && may_keep c target f.result_type) (λ h. (f, refl, h.0, h.1))
    (λ h. let same : h.0 ≡ f = (let e = h.1 in cc e) in subst (λ (g : Function). ArePassed g.params given × MayKeep c.scope target g.result_type) same (h.2, h.3))
    (Decides-and (passable f.params given) (may_keep c target f.result_type) (passed-decides f.params given) (keep-decides c target f.result_type))

call-decides : (callee : Callee) (c : Checked) (target : Option ExprTree) (name : List ℕ) (given : Args) → Decides (formed_call callee c target name given) (MayCall callee c.scope target name given)
call-decides memory_move c target name given = Decides-and (is_none target) (is_moved (arg_types c.scope given)) (none-decides target) (move-decides (arg_types c.scope given))
call-decides memory_set c target name given = Decides-and (is_none target) (is_set c.scope given) (none-decides target) (set-decides c.scope given)
call-decides own c target name given = called-decides c target (arg_types c.scope given) (function_named c.scope.functions name)

-- Labels.
loop-decides : (linkage : Linkage) → Decides (may_loop linkage) (MayLoop linkage)
loop-decides Static = (λ _. refl, λ _. refl)
loop-decides External = (λ h. absurd (cc h), λ h. absurd (cc h))
loop-decides StaticInline = (λ h. absurd (cc h), λ h. absurd (cc h))

label_is : (code : Code) (name : List ℕ) → is_label name (label_of code) ≡ true → (rest : Code) × (code ≡ name_label name rest)
label_is code name h = by (label_of code) refl h
  where
    by : (o : Option (List ℕ)) → label_of code ≡ o → is_label name o ≡ true → (rest : Code) × (code ≡ name_label name rest)
    by None e t = absurd (cc t)
    by (Some label) e t = label_code code name (e ∙ ap Some (sym ((bytes_eq-Decides name label).0 t)))

label_found : (k : ℕ) (ls : List LineTree) (name : List ℕ) (j : ℕ) → label_at k ls name ≡ Some j → (n : ℕ) × (j ≡ k + n) × IsLabel ls n name
label_found k [] name j h = absurd (cc h)
label_found k (l ∷ ls) name j h = by (is_label name (label_of l.code)) refl h (label_found (k + 1) ls name j)
  where
    by : (b : Bool) → is_label name (label_of l.code) ≡ b → (if b then Some k else label_at (k + 1) ls name) ≡ Some j → (label_at (k + 1) ls name ≡ Some j → (n : ℕ) × (j ≡ k + 1 + n) × IsLabel ls n name) → (n : ℕ) × (j ≡ k + n) × IsLabel (l ∷ ls) n name
    by true t e more =
        let same : k ≡ j = cc e in
        let it = label_is l.code name t in
        (0, omega (arith, same), (l.switched, it.0, ap (λ code. Some (line l.switched code)) it.1))
    by false t e more = let r = more e in (suc r.0, (let q = r.1 in omega (arith, q)), r.2)

label_alone : (k : ℕ) (ls : List LineTree) (n : ℕ) (name : List ℕ) (s : Bool) (rest : Code) → AllDiffer (label_names ls) → At ls n (line s (name_label name rest)) → label_at k ls name ≡ Some (k + n)
label_alone k [] n name s rest differ e = absurd (cc e)
label_alone k (l ∷ ls) zero name s rest differ e =
    let same : l ≡ line s (name_label name rest) = cc e in
    let here : label_at k (line s (name_label name rest) ∷ ls) name ≡ Some k = rw ((bytes_eq-Decides name name).1 refl) refl in
    let zero_more : k ≡ k + 0 = omega arith in
    subst (λ (m : LineTree). label_at k (m ∷ ls) name ≡ Some (k + 0)) (sym same) (here ∙ ap Some zero_more)
label_alone k (l ∷ ls) (suc n) name s rest differ e = by (label_of l.code) refl differ (λ d. label_alone (k + 1) ls n name s rest d e)
  where
    one_more : k + 1 + n ≡ k + suc n
    one_more = omega arith

    by : (o : Option (List ℕ)) → label_of l.code ≡ o → AllDiffer (name_before o (label_names ls)) → (AllDiffer (label_names ls) → label_at (k + 1) ls name ≡ Some (k + 1 + n)) → label_at k (l ∷ ls) name ≡ Some (k + suc n)
    by None t d more = rw t (more d ∙ ap Some one_more)
    by (Some m) t d more = apart (bytes_eq name m) refl
      where
        apart : (b : Bool) → bytes_eq name m ≡ b → label_at k (l ∷ ls) name ≡ Some (k + suc n)
        apart true f =
            let same : name ≡ m = (bytes_eq-Decides name m).0 f in
            absurd (differ_first m (label_names ls) d (subst (λ (x : List ℕ). Has (label_names ls) x) same (label_listed ls n name (s, rest, e))))
        apart false f = rw (t, f) (more (differ_rest m (label_names ls) d) ∙ ap Some one_more)

leap-decides : (linkage : Linkage) (i j : ℕ) → Decides (goes_to linkage i (Some j)) (MayLoop linkage ⊎ (i < j))
leap-decides linkage i j = Decides-or (may_loop linkage) (nat_lt i j) (loop-decides linkage) (Decides-ltb i j)

jump-decides : (linkage : Linkage) (ls : List LineTree) (i : ℕ) (name : List ℕ) → AllDiffer (label_names ls) → Decides (goes_to linkage i (label_at 0 ls name)) (MayJump linkage ls i name)
jump-decides linkage ls i name differ = (to (label_at 0 ls name) refl, from)
  where
    to : (o : Option ℕ) → label_at 0 ls name ≡ o → goes_to linkage i o ≡ true → MayJump linkage ls i name
    to None e h = absurd (cc h)
    to (Some j) e h =
        let it = label_found 0 ls name j e in
        let same : j ≡ it.0 = (let q = it.1 in omega (arith, q)) in
        (it.0, it.2, subst (λ (n : ℕ). MayLoop linkage ⊎ (i < n)) same ((leap-decides linkage i j).0 h))

    from : MayJump linkage ls i name → goes_to linkage i (label_at 0 ls name) ≡ true
    from h =
        let there : label_at 0 ls name ≡ Some (0 + h.0) = label_alone 0 ls h.0 name h.1.0 h.1.1 differ h.1.2 in
        let same : 0 + h.0 ≡ h.0 = omega arith in
        ap (goes_to linkage i) (there ∙ ap Some same) ∙ (leap-decides linkage i h.0).1 h.2

-- Cases.
plain-decides : (n : CNumber) → Decides (is_plain n) (IsPlain n)
plain-decides (literal.Int n) = (λ _. (n, refl), λ _. refl)
plain-decides (literal.Unsigned n) = (λ h. absurd (cc h), λ h. absurd (let e = h.1 in cc e))
plain-decides (literal.Long n) = (λ h. absurd (cc h), λ h. absurd (let e = h.1 in cc e))

itself : (n : CNumber) → is_other_case n n ≡ true → ⊥
itself (literal.Int n) h = (Decides-not (nat_eq n n) (Decides-eqb n n)).0 h refl
itself (literal.Unsigned n) h = cc h
itself (literal.Long n) h = cc h

other_case : (n m : CNumber) → IsPlain n → IsPlain m → (m ≡ n → ⊥) → is_other_case n m ≡ true
other_case (literal.Int n) (literal.Int m) h k apart = (Decides-not (nat_eq n m) (Decides-eqb n m)).1 (λ e. apart (ap literal.Int (sym e)))
other_case (literal.Int n) (literal.Unsigned m) h k apart = absurd (let e = k.1 in cc e)
other_case (literal.Int n) (literal.Long m) h k apart = absurd (let e = k.1 in cc e)
other_case (literal.Unsigned n) m h k apart = absurd (let e = h.1 in cc e)
other_case (literal.Long n) m h k apart = absurd (let e = h.1 in cc e)

abbrev ArePlain : List CNumber → Type 0
ArePlain ns = Each (λ i n. IsPlain n) ns × AllDiffer ns

none_plain : ArePlain []
none_plain = (each_none (λ i n. IsPlain n), λ i j x e f. absurd (cc e))

cases-decides : (ns : List CNumber) → Decides (plain_distinct ns) (ArePlain ns)
cases-decides [] = (λ _. none_plain, λ _. refl)
cases-decides (n ∷ ns) =
    Decides-like (is_plain n && (list_all (is_other_case n) ns && plain_distinct ns)) to from
    (Decides-and (is_plain n) (list_all (is_other_case n) ns && plain_distinct ns) (plain-decides n)
    (Decides-and (list_all (is_other_case n) ns) (plain_distinct ns) (each-decides (is_other_case n) (λ i m. is_other_case n m ≡ true) (λ i m. (λ h. h, λ h. h)) ns) (cases-decides ns)))
  where
    to : IsPlain n × (Each (λ i m. is_other_case n m ≡ true) ns × ArePlain ns) → ArePlain (n ∷ ns)
    to h = (each_front (λ i m. IsPlain m) n ns h.0 h.1.1.0, differ_front n ns (λ has. itself n (h.1.0 has.0 n has.1)) h.1.1.1)

    from : ArePlain (n ∷ ns) → IsPlain n × (Each (λ i m. is_other_case n m ≡ true) ns × ArePlain ns)
    from h = (
      h.0 0 n refl,
      (
        λ i m e. other_case n m (h.0 0 n refl) (h.0 (suc i) m e) (λ same. differ_first n ns h.1 (i, e ∙ ap Some same)),
        (λ i m e. h.0 (suc i) m e, differ_rest n ns h.1),
      ),
    )

formed-decides : (cases : Cases) → Decides (formed_cases cases) (AreFormed cases)
formed-decides cases =
    Decides-like (plain_distinct cases.numbers && nat_le cases.defaults 1) (λ h. (h.0.0, h.0.1, h.1)) (λ h. ((h.0, h.1), h.2))
    (Decides-and (plain_distinct cases.numbers) (nat_le cases.defaults 1) (cases-decides cases.numbers) (λ h. leb-true cases.defaults 1 h, λ h. le-leb cases.defaults 1 h))

switch-decides : (body : Code) → Decides (formed_cases (cases_of body)) (AreCases (switched_statements body))
switch-decides body =
    let listed : cases_of body ≡ cases_in (switched_statements body) = cases_listed true body in
    Decides-like (formed_cases (cases_of body))
    (λ h. cases_apart (switched_statements body) (subst AreFormed listed h))
    (λ h. subst AreFormed (sym listed) (apart_cases (switched_statements body) h))
    (formed-decides (cases_of body))

-- Results.
return-decides : (c : Checked) (value : Option ExprTree) (t : Option TypeTree) → Decides (formed_return c value t) (MayReturn c.scope value t)
return-decides c None None = (λ _. tt, λ _. refl)
return-decides c None (Some t) = (λ h. absurd (cc h), λ h. absurd h)
return-decides c (Some e) None = (λ h. absurd (cc h), λ h. absurd h)
return-decides c (Some e) (Some t) = goes-decides t (type_of c.scope e)

-- Statements.
module _ (c : Checked) (all : List LineTree) (differ : AllDiffer (label_names all)) where
  statement-decides : (i : ℕ) (s : Bool) (code : Code) → Decides (formed_line (bodiless c) (label_at 0 all) i (line s code)) (KeepsStatement c all i s code)
  statement-decides i s finish = (λ _. tt, λ _. refl)
  statement-decides i s (nested body rest) = (λ _. tt, λ _. refl)
  statement-decides i s (empty rest) = (λ _. tt, λ _. refl)
  statement-decides i s (assign target value rest) = assign-decides (held_of c.scope target) (type_of c.scope value)
  statement-decides i s (call target function given rest) = call-decides (callee_of function) (bodiless c) target function given
  statement-decides i s (jump label rest) = jump-decides c.linkage all i label differ
  statement-decides i s (branch test body otherwise other rest) = some-decides (type_of c.scope test)
  statement-decides i s (repeat test body rest) = Decides-and (may_loop c.linkage) (has_type c test) (loop-decides c.linkage) (some-decides (type_of c.scope test))
  statement-decides i s (select on body rest) =
      Decides-and (is_number (type_of c.scope on)) (formed_cases (cases_of body)) (number-decides (type_of c.scope on)) (switch-decides body)
  statement-decides i s (leave value rest) = return-decides (bodiless c) value c.result_type
  statement-decides i s (case_label n rest) = (λ h. h, λ h. h)
  statement-decides i s (default_label rest) = (λ h. h, λ h. h)
  statement-decides i s (name_label name rest) = (λ _. tt, λ _. refl)

  abbrev KeptFrom : ℕ → List LineTree → Type 0
  KeptFrom k ls = Each (λ i l. KeepsStatement c all (k + i) l.switched l.code) ls

  kept_front : (k : ℕ) (l : LineTree) (ls : List LineTree) → KeepsStatement c all k l.switched l.code × KeptFrom (k + 1) ls → KeptFrom k (l ∷ ls)
  kept_front k l ls h =
      let none : k ≡ k + 0 = omega arith in
      each_front (λ i m. KeepsStatement c all (k + i) m.switched m.code) l ls (subst (λ (n : ℕ). KeepsStatement c all n l.switched l.code) none h.0)
      (λ i m e. let next : k + 1 + i ≡ k + suc i = omega arith in subst (λ (n : ℕ). KeepsStatement c all n m.switched m.code) next (h.1 i m e))

  kept_back : (k : ℕ) (l : LineTree) (ls : List LineTree) → KeptFrom k (l ∷ ls) → KeepsStatement c all k l.switched l.code × KeptFrom (k + 1) ls
  kept_back k l ls h =
      let none : k + 0 ≡ k = omega arith in (
        subst (λ (n : ℕ). KeepsStatement c all n l.switched l.code) none (h 0 l refl),
        λ i m e. let next : k + suc i ≡ k + 1 + i = omega arith in subst (λ (n : ℕ). KeepsStatement c all n m.switched m.code) next (h (suc i) m e),
      )

  lines-decides : (k : ℕ) (ls : List LineTree) → Decides (formed_lines (bodiless c) (label_at 0 all) k ls) (KeptFrom k ls)
  lines-decides k [] = (λ _. each_none (λ i l. KeepsStatement c all (k + i) l.switched l.code), λ _. refl)
  lines-decides k (l ∷ ls) =
      Decides-like (formed_line (bodiless c) (label_at 0 all) k l && formed_lines (bodiless c) (label_at 0 all) (k + 1) ls) (kept_front k l ls) (kept_back k l ls)
      (Decides-and (formed_line (bodiless c) (label_at 0 all) k l) (formed_lines (bodiless c) (label_at 0 all) (k + 1) ls) (statement-decides k l.switched l.code) (lines-decides (k + 1) ls))

-- A body whose labels differ.
pub body-decides : (c : Checked) → LabelsDiffer (statements c.body) → Decides (formed_code c false c.body stop) (Each (λ i l. KeepsStatement c (statements c.body) i l.switched l.code) (statements c.body))
body-decides c differ = (λ h. by_number ((by_lines.0) (sym listed ∙ h)), λ h. listed ∙ by_lines.1 (from_number h))
  where
    listed : formed_code c false c.body stop ≡ formed_lines (bodiless c) (label_at 0 (statements c.body)) 0 (statements c.body)
    listed = body_lines c (label_at 0 (statements c.body)) (λ q. refl)

    by_lines : Decides (formed_lines (bodiless c) (label_at 0 (statements c.body)) 0 (statements c.body)) (Each (λ i l. KeepsStatement c (statements c.body) (0 + i) l.switched l.code) (statements c.body))
    by_lines = lines-decides c (statements c.body) (apart_labels (statements c.body) differ) 0 (statements c.body)

    by_number : Each (λ i l. KeepsStatement c (statements c.body) (0 + i) l.switched l.code) (statements c.body) → Each (λ i l. KeepsStatement c (statements c.body) i l.switched l.code) (statements c.body)
    by_number h i l e = let none : 0 + i ≡ i = omega arith in subst (λ (n : ℕ). KeepsStatement c (statements c.body) n l.switched l.code) none (h i l e)

    from_number : Each (λ i l. KeepsStatement c (statements c.body) i l.switched l.code) (statements c.body) → Each (λ i l. KeepsStatement c (statements c.body) (0 + i) l.switched l.code) (statements c.body)
    from_number h i l e = let none : i ≡ 0 + i = omega arith in subst (λ (n : ℕ). KeepsStatement c (statements c.body) n l.switched l.code) none (h i l e)

-- What goes to a local at its begin.
pub begins-decides : (scope : CScope) (t : TypeTree) (e : ExprTree) → Decides (may_assign (Some (one t)) (type_of scope e)) (GoesTo scope t e)
begins-decides scope t e = goes-decides t (type_of scope e)

-- The labels of a body.
pub labels-decide : (body : Code) → Decides (all_distinct (labels_of body)) (LabelsDiffer (statements body))
labels-decide body =
    Decides-like (all_distinct (labels_of body))
    (λ h. labels_apart (statements body) (subst (λ (names : List (List ℕ)). AllDiffer names) (labels_listed false body) h))
    (λ h. subst (λ (names : List (List ℕ)). AllDiffer names) (sym (labels_listed false body)) (apart_labels (statements body) h))
    (differ-decides (labels_of body))
