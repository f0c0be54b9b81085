-- The names of a program are those of its items, where each item has a name of its own.
use Rattle.std.proofs.Common.{◌≡◌, ℕ, Bool, true, false, List, [], ◌∷◌, ◌++◌, length, map, find, Option, Some, None, is_some, option_map, option_and_then, refl, sym, ap, ◌∙◌, subst}
use Rattle.std.specs.Prelude.{if◌then◌else◌, reverse, bytes_eq}
use Rattle.std.proofs.lemmas.List.{append_assoc, append-nil, reverse-append}
use Rattle.wf_text.specs.Surface.{Surface}
use Rattle.c_text.specs.CTree.{TypeTree, uint, size, boolean, uint_pointer, struct_pointer, text, ExprTree, number, variable, member, element, pointed, operation, unary, cast, choice, called, Operands, no_operand, operand, Args, no_arg, expr_arg, sizeof_arg, ItemTree, struct_item, text_item, function_item}
use Rattle.c_text.proofs.Names.{bytes_eq-true}
use Rattle.c_meaning.specs.CTypes.{StructDecl, Function, CScope, scope_of, structs_of, functions_of, names_of, struct_named, function_named, field_named, ExprType, points_to, numbers, zero_literal, object, cell, byte, Held, held_type, value_type, operations_type, unary_type, is_known, cast_from, choice_type, called_type, variable_held, field_held, field_of, member_held, pointed_held, element_held, type_of, held_of, operand_types, arg_types}
use Rattle.c_meaning.specs.CCall.{program_of, scope_in}
use Rattle.c_meaning.specs.UnitForm.{is_among, item_name, formed_item, break_from, HasUnitForm}
use Rattle.c_step_program.proofs.Apart.{other_way, neither, functions_append, free, formed_here}

-- The first of this name in a list, and in the list from its end.
module _ {X : Type 0} (key : X → List ℕ) where
  abbrev pub first : (name : List ℕ) → List X → Option X
  first name xs = find (λ it. bytes_eq (key it) name) xs

  abbrev pub NoneOf : List ℕ → List X → Type 0
  NoneOf name [] = Unit {0}
  NoneOf name (x ∷ xs) = (bytes_eq (key x) name ≡ false) × NoneOf name xs

  none_first : (name : List ℕ) (xs : List X) → NoneOf name xs → first name xs ≡ None
  none_first name [] h = refl
  none_first name (x ∷ xs) h = ap (λ (b : Bool). if b then Some x else first name xs) h.0 ∙ none_first name xs h.1

  end_first : (name : List ℕ) (xs : List X) (y : X) → first name xs ≡ None → first name (xs ++ y ∷ []) ≡ first name (y ∷ [])
  end_first name [] y h = refl
  end_first name (x ∷ xs) y h = by_test (λ k. end_first name xs y k) (bytes_eq (key x) name) h
    where
      by_test : (first name xs ≡ None → first name (xs ++ y ∷ []) ≡ first name (y ∷ [])) → (b : Bool) → (if b then Some x else first name xs) ≡ None → (if b then Some x else first name (xs ++ y ∷ [])) ≡ first name (y ∷ [])
      by_test later true e = absurd (cc (e))
      by_test later false e = later e

  front_first : (name : List ℕ) (xs : List X) (y : X) → bytes_eq (key y) name ≡ false → first name (xs ++ y ∷ []) ≡ first name xs
  front_first name [] y h = ap (λ (b : Bool). if b then Some y else None) h
  front_first name (x ∷ xs) y h = ap (λ (o : Option X). if bytes_eq (key x) name then Some x else o) (front_first name xs y h)

  pub one_further : (name : List ℕ) (xs : List X) (y : X) → NoneOf (key y) xs → first name (reverse xs) ≡ first name xs → first name (reverse (xs ++ y ∷ [])) ≡ first name (xs ++ y ∷ [])
  one_further name xs y h e = ap (first name) (reverse-append xs (y ∷ [])) ∙ by_test (bytes_eq (key y) name) refl
    where
      by_test : (b : Bool) → bytes_eq (key y) name ≡ b → first name (y ∷ reverse xs) ≡ first name (xs ++ y ∷ [])
      by_test true t =
          let s : key y ≡ name = bytes_eq-true (key y) name t in
          ap (λ (c : Bool). if c then Some y else first name (reverse xs)) t
          ∙ sym (end_first name xs y (none_first name xs (subst (λ (n : List ℕ). NoneOf n xs) s h)) ∙ ap (λ (c : Bool). if c then Some y else None) t)
      by_test false t = ap (λ (c : Bool). if c then Some y else first name (reverse xs)) t ∙ (e ∙ sym (front_first name xs y t))

abbrev pub struct_key : StructDecl → List ℕ
struct_key s = s.name

abbrev pub function_key : Function → List ℕ
function_key f = f.name

none_structs : (name : List ℕ) (items : List ItemTree) → is_among (map item_name items) name ≡ false → NoneOf struct_key name (structs_of items)
none_structs name [] e = tt
none_structs name (struct_item fields n ∷ items) e =
    let h : (bytes_eq name n ≡ false) × (is_among (map item_name items) name ≡ false) = neither (bytes_eq name n) _ e in
    (other_way name n h.0, none_structs name items h.1)
none_structs name (text_item n bytes ∷ items) e = none_structs name items (neither (bytes_eq name n) _ e).1
none_structs name (function_item linkage type n params locals body ∷ items) e = none_structs name items (neither (bytes_eq name n) _ e).1

none_functions : (name : List ℕ) (items : List ItemTree) → is_among (map item_name items) name ≡ false → NoneOf function_key name (functions_of items)
none_functions name [] e = tt
none_functions name (struct_item fields n ∷ items) e = none_functions name items (neither (bytes_eq name n) _ e).1
none_functions name (text_item n bytes ∷ items) e = none_functions name items (neither (bytes_eq name n) _ e).1
none_functions name (function_item linkage type n params locals body ∷ items) e =
    let h : (bytes_eq name n ≡ false) × (is_among (map item_name items) name ≡ false) = neither (bytes_eq name n) _ e in
    (other_way name n h.0, none_functions name items h.1)

structs_append : (xs ys : List ItemTree) → structs_of (xs ++ ys) ≡ structs_of xs ++ structs_of ys
structs_append [] ys = refl
structs_append (struct_item fields n ∷ xs) ys = ap (λ (ss : List StructDecl). record { fields = fields; name = n } ∷ ss) (structs_append xs ys)
structs_append (text_item n bytes ∷ xs) ys = structs_append xs ys
structs_append (function_item linkage type n params locals body ∷ xs) ys = structs_append xs ys

-- Look-ups are the same from either end.
pub record Alike (items : List ItemTree) : Type 0 where
  pub structs : (name : List ℕ) → first struct_key name (reverse (structs_of items)) ≡ first struct_key name (structs_of items)
  pub functions : (name : List ℕ) → first function_key name (reverse (functions_of items)) ≡ first function_key name (functions_of items)

module _ (before : List ItemTree) (h : Alike before) where
  same_structs : (item : ItemTree) → structs_of (before ++ item ∷ []) ≡ structs_of before → (name : List ℕ) → first struct_key name (reverse (structs_of (before ++ item ∷ []))) ≡ first struct_key name (structs_of (before ++ item ∷ []))
  same_structs item e name = subst (λ (ss : List StructDecl). first struct_key name (reverse ss) ≡ first struct_key name ss) (sym e) (h.structs name)

  same_functions : (item : ItemTree) → functions_of (before ++ item ∷ []) ≡ functions_of before → (name : List ℕ) → first function_key name (reverse (functions_of (before ++ item ∷ []))) ≡ first function_key name (functions_of (before ++ item ∷ []))
  same_functions item e name = subst (λ (fs : List Function). first function_key name (reverse fs) ≡ first function_key name fs) (sym e) (h.functions name)

  alike_more : (item : ItemTree) → is_among (map item_name before) (item_name item) ≡ false → Alike (before ++ item ∷ [])
  alike_more (struct_item fields n) e = record {
    structs = λ name. subst (λ (ss : List StructDecl). first struct_key name (reverse ss) ≡ first struct_key name ss) (sym (structs_append before (struct_item fields n ∷ [])))
        (one_further struct_key name (structs_of before) (record { fields = fields; name = n }) (none_structs n before e) (h.structs name));
    functions = same_functions (struct_item fields n) (functions_append before (struct_item fields n ∷ []) ∙ append-nil (functions_of before));
  }
  alike_more (text_item n bytes) e = record {
    structs = same_structs (text_item n bytes) (structs_append before (text_item n bytes ∷ []) ∙ append-nil (structs_of before));
    functions = same_functions (text_item n bytes) (functions_append before (text_item n bytes ∷ []) ∙ append-nil (functions_of before));
  }
  alike_more (function_item linkage type n params locals body) e = record {
    structs = same_structs (function_item linkage type n params locals body) (structs_append before (function_item linkage type n params locals body ∷ []) ∙ append-nil (structs_of before));
    functions = λ name. subst (λ (fs : List Function). first function_key name (reverse fs) ≡ first function_key name fs) (sym (functions_append before (function_item linkage type n params locals body ∷ [])))
        (one_further function_key name (functions_of before) (record { linkage = linkage; result_type = type; name = n; params = params; locals = locals; body = body }) (none_functions n before e) (h.functions name));
  }

alike_from : (p : Surface) (before all items : List ItemTree) → break_from p before all items ≡ None → Alike before → Alike (before ++ items)
alike_from p before all [] e h = subst Alike (sym (append-nil before)) h
alike_from p before all (item ∷ items) e h =
    let k : (formed_item p before (map item_name all) item ≡ true) × (break_from p (before ++ item ∷ []) all items ≡ None) = formed_here (formed_item p before (map item_name all) item) _ (length before) e in
    subst Alike (append_assoc before (item ∷ []) items) (alike_from p (before ++ item ∷ []) all items k.1 (alike_more before h item (free p before (map item_name all) item k.0)))

-- Two scopes in which each name is the same.
pub record Agree (s t : CScope) : Type 0 where
  pub structs : (name : List ℕ) → struct_named s.structs name ≡ struct_named t.structs name
  pub functions : (name : List ℕ) → function_named s.functions name ≡ function_named t.functions name
  pub names : s.names ≡ t.names
  pub texts : s.texts ≡ t.texts

module _ (s t : CScope) (agree : Agree s t) where
  variables : (name : List ℕ) → variable_held s name ≡ variable_held t name
  variables name =
      ap (λ names. variable_held (record s { names = names }) name) agree.names ∙ ap (λ texts. variable_held (record t { texts = texts }) name) agree.texts

  fields : (name field : List ℕ) → field_of s name field ≡ field_of t name field
  fields name field = ap (λ (o : Option StructDecl). option_and_then (λ it. field_named it.fields field) o) (agree.structs name)

  members : (field : List ℕ) (type : Option ExprType) → member_held s field type ≡ member_held t field type
  members field None = refl
  members field (Some (numbers c)) = refl
  members field (Some zero_literal) = refl
  members field (Some (points_to (cell ty))) = refl
  members field (Some (points_to byte)) = refl
  members field (Some (points_to (object name))) = ap (option_map (field_held name)) (fields name field)

  known : (ty : TypeTree) → is_known s.structs ty ≡ is_known t.structs ty
  known (struct_pointer name) = ap (λ (o : Option StructDecl). is_some o) (agree.structs name)
  known (uint u) = refl
  known size = refl
  known boolean = refl
  known (uint_pointer u) = refl
  known text = refl

  casts : (ty : TypeTree) (type : ExprType) → cast_from s.structs ty type ≡ cast_from t.structs ty type
  casts ty (numbers c) = refl
  casts ty (points_to p) = refl
  casts ty zero_literal = ap (λ (b : Bool). if b then Some (value_type ty) else None) (known ty)

  casts_of : (ty : TypeTree) (type : Option ExprType) → option_and_then (cast_from s.structs ty) type ≡ option_and_then (cast_from t.structs ty) type
  casts_of ty None = refl
  casts_of ty (Some type) = casts ty type

  mutual
    pub same_type : (e : ExprTree) → type_of s e ≡ type_of t e
    same_type (number n) = refl
    same_type (variable name) = ap (option_and_then held_type) (variables name)
    same_type (member of field) = ap (λ (o : Option ExprType). option_and_then held_type (member_held s field o)) (same_type of) ∙ ap (option_and_then held_type) (members field (type_of t of))
    same_type (element of index) = ap (λ (o : Option ExprType). option_and_then held_type (element_held o (type_of s index))) (same_type of) ∙ ap (λ (o : Option ExprType). option_and_then held_type (element_held (type_of t of) o)) (same_type index)
    same_type (pointed of) = ap (λ (o : Option ExprType). option_and_then held_type (pointed_held o)) (same_type of)
    same_type (operation op one two others) =
        ap (λ (o : Option ExprType). operations_type op o (type_of s two ∷ operand_types s others)) (same_type one)
        ∙ (ap (λ (o : Option ExprType). operations_type op (type_of t one) (o ∷ operand_types s others)) (same_type two)
        ∙ ap (λ (os : List (Option ExprType)). operations_type op (type_of t one) (type_of t two ∷ os)) (same_operands others))
    same_type (unary op of) = ap (λ (o : Option ExprType). unary_type op o (held_of s of)) (same_type of) ∙ ap (λ (o : Option Held). unary_type op (type_of t of) o) (same_held of)
    same_type (cast to of) = ap (option_and_then (cast_from s.structs to)) (same_type of) ∙ casts_of to (type_of t of)
    same_type (choice test met unmet) =
        ap (λ (o : Option ExprType). option_and_then (λ _. choice_type (type_of s met) (type_of s unmet)) o) (same_type test)
        ∙ (ap (λ (o : Option ExprType). option_and_then (λ _. choice_type o (type_of s unmet)) (type_of t test)) (same_type met)
        ∙ ap (λ (o : Option ExprType). option_and_then (λ _. choice_type (type_of t met) o) (type_of t test)) (same_type unmet))
    same_type (called function given) = ap (λ (o : Option Function). called_type o (arg_types s given)) (agree.functions function) ∙ ap (called_type (function_named t.functions function)) (same_args given)

    pub same_held : (e : ExprTree) → held_of s e ≡ held_of t e
    same_held (variable name) = variables name
    same_held (member of field) = ap (member_held s field) (same_type of) ∙ members field (type_of t of)
    same_held (element of index) = ap (λ (o : Option ExprType). element_held o (type_of s index)) (same_type of) ∙ ap (element_held (type_of t of)) (same_type index)
    same_held (pointed of) = ap pointed_held (same_type of)
    same_held (number n) = refl
    same_held (operation op one two others) = refl
    same_held (unary op of) = refl
    same_held (cast to of) = refl
    same_held (choice test met unmet) = refl
    same_held (called function given) = refl

    same_operands : (es : Operands) → operand_types s es ≡ operand_types t es
    same_operands no_operand = refl
    same_operands (operand e others) = ap (λ (o : Option ExprType). o ∷ operand_types s others) (same_type e) ∙ ap (λ (os : List (Option ExprType)). type_of t e ∷ os) (same_operands others)

    same_args : (given : Args) → arg_types s given ≡ arg_types t given
    same_args no_arg = refl
    same_args (expr_arg e others) = ap (λ (o : Option ExprType). o ∷ arg_types s others) (same_type e) ∙ ap (λ (os : List (Option ExprType)). type_of t e ∷ os) (same_args others)
    same_args (sizeof_arg name others) = ap (λ (os : List (Option ExprType)). None ∷ os) (same_args others)

pub alike_items : (p : Surface) (items : List ItemTree) → HasUnitForm p items → Alike items
alike_items p items h = alike_from p [] items items h (record { structs = λ name. refl; functions = λ name. refl })

program_agrees : (p : Surface) (items : List ItemTree) (f : Function) → HasUnitForm p items → Agree (scope_in (program_of items) f) (scope_of items (names_of f))
program_agrees p items f h =
    let a : Alike items = alike_items p items h in
    record { structs = a.structs; functions = a.functions; names = refl; texts = refl }

pub program_type : (p : Surface) (items : List ItemTree) (f : Function) → HasUnitForm p items → (e : ExprTree) → type_of (scope_in (program_of items) f) e ≡ type_of (scope_of items (names_of f)) e
program_type p items f h e = same_type (scope_in (program_of items) f) (scope_of items (names_of f)) (program_agrees p items f h) e

pub program_held : (p : Surface) (items : List ItemTree) (f : Function) → HasUnitForm p items → (e : ExprTree) → held_of (scope_in (program_of items) f) e ≡ held_of (scope_of items (names_of f)) e
program_held p items f h e = same_held (scope_in (program_of items) f) (scope_of items (names_of f)) (program_agrees p items f h) e
