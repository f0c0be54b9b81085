-- What names stand for is the same from the last item on.
use Rattle.std.proofs.Common.{◌≡◌, ◌<◌, ℕ, zero, suc, Bool, if◌then◌else◌, List, [], ◌∷◌, length, get_or, position, Option, Some, None, is_some, refl, sym, ap, ◌∙◌, subst, arith}
use Rattle.std.specs.Prelude.{bytes_eq}
use Rattle.std.specs.Option.{option_map, option_and_then}
use Rattle.c_text.specs.declared.nodes.CParam.{CParam}
use Rattle.c_text.specs.CTree.{TypeTree, uint, size, boolean, uint_pointer, struct_pointer, text, ParamTree, ItemTree}
use Rattle.c_text.specs.CNodes.{Nodes, bytes_at, unit_tree}
use Rattle.c_text.specs.CFits.{HasParam, HasParams}
use Rattle.c_text.proofs.Parts.{no_param}
use Rattle.c_meaning.specs.CTypes.{StructDecl, TextDecl, CScope, structs_of, texts_of, functions_of, struct_named, function_named, field_named, variable_held, member_held, field_held, cast_from, is_known, value_type, ExprType, numbers, points_to, zero_literal, cell, object, byte}
use Rattle.c_meaning.specs.CExprs.{field_number}
use Rattle.c_form_exprs.specs.declared.front.Head.{Head}
use Rattle.c_form_exprs.specs.declared.types.ExprType.{ExprType as TypeOf}
use Rattle.c_form_exprs.specs.declared.types.Held.{Held as HeldOf}
use Rattle.c_form_exprs.specs.Front.{Within, Finds, IsHead, scope_in, front_items}
use Rattle.c_form_exprs.specs.TypeViews.{TellsType, TellsHeld}
use Rattle.c_step_exprs.specs.declared.instrs.Instr.TheVariants as does
use Rattle.c_step_exprs.specs.declared.instrs.Put.TheVariants as put
use Rattle.c_step_exprs.specs.Resolving.{function_number, variable_code}
use Rattle.c_step_load_exprs.specs.Knowing.{Knows, program_scope}
use Rattle.c_step_load_exprs.proofs.PlaceLemmas.{all_items, place_found}

module _ (w : Within) (numbered : Nodes) (k : Knows w numbered) where
  known_items : front_items w.front ≡ unit_tree w.front.nodes
  known_items = all_items w.front.nodes w.front.count (let a = k.all in omega (arith, a))

  structs_same : (q : List ℕ) → struct_named (program_scope w).structs q ≡ struct_named (scope_in w).structs q
  structs_same q = k.alike.structs q ∙ ap (λ (items : List ItemTree). struct_named (structs_of items) q) (sym known_items)

  functions_same : (q : List ℕ) → function_named (program_scope w).functions q ≡ function_named (scope_in w).functions q
  functions_same q = k.alike.functions q ∙ ap (λ (items : List ItemTree). function_named (functions_of items) q) (sym known_items)

  texts_same : (program_scope w).texts ≡ (scope_in w).texts
  texts_same = ap texts_of (sym known_items)

  pub function_here : (q : List ℕ) (r : Option Head) → Finds (IsHead w.front.nodes) r (function_named (scope_in w).functions q) → Finds (IsHead w.front.nodes) r (function_named (program_scope w).functions q)
  function_here q r h = subst (Finds (IsHead w.front.nodes) r) (sym (functions_same q)) h

  pub number_here : (n : ℕ) (r : Option ℕ) → r ≡ position (λ it. bytes_eq it.name (bytes_at numbered.names n)) (functions_of (unit_tree numbered)) → r ≡ function_number (program_scope w).functions (bytes_at w.front.nodes.names n)
  number_here n r e = e ∙ (ap (λ (m : Nodes). position (λ it. bytes_eq it.name (bytes_at m.names n)) (functions_of (unit_tree m))) k.same ∙ sym (k.alike.numbers (bytes_at w.front.nodes.names n)))

  pub text_here : (n : ℕ) (r : Option ℕ) → r ≡ position (λ it. bytes_eq it.name (bytes_at numbered.names n)) (texts_of (unit_tree numbered)) → r ≡ position (λ it. bytes_eq it.name (bytes_at w.front.nodes.names n)) (program_scope w).texts
  text_here n r e = e ∙ ap (λ (m : Nodes). position (λ it. bytes_eq it.name (bytes_at m.names n)) (texts_of (unit_tree m))) k.same

  variables_same : (q : List ℕ) → variable_held (program_scope w) q ≡ variable_held (scope_in w) q
  variables_same q = ap (λ (texts : List TextDecl). variable_held (record (scope_in w) { texts = texts }) q) texts_same

  pub variable_here : (q : List ℕ) (r : Option HeldOf) → TellsHeld w.front.nodes r (variable_held (scope_in w) q) → TellsHeld w.front.nodes r (variable_held (program_scope w) q)
  variable_here q r h = subst (TellsHeld w.front.nodes r) (sym (variables_same q)) h

  members_same : (field : List ℕ) (type : Option ExprType) → member_held (program_scope w) field type ≡ member_held (scope_in w) field type
  members_same field None = refl
  members_same field (Some (numbers c)) = refl
  members_same field (Some zero_literal) = refl
  members_same field (Some (points_to (cell ty))) = refl
  members_same field (Some (points_to byte)) = refl
  members_same field (Some (points_to (object name))) = ap (λ (o : Option StructDecl). option_map (field_held name) (option_and_then (λ it. field_named it.fields field) o)) (structs_same name)

  pub member_here : (field : List ℕ) (type : Option ExprType) (r : Option HeldOf) → TellsHeld w.front.nodes r (member_held (scope_in w) field type) → TellsHeld w.front.nodes r (member_held (program_scope w) field type)
  member_here field type r h = subst (TellsHeld w.front.nodes r) (sym (members_same field type)) h

  known_same : (ty : TypeTree) → is_known (program_scope w).structs ty ≡ is_known (scope_in w).structs ty
  known_same (struct_pointer name) = ap (λ (o : Option StructDecl). is_some o) (structs_same name)
  known_same (uint u) = refl
  known_same size = refl
  known_same boolean = refl
  known_same (uint_pointer u) = refl
  known_same text = refl

  casts_same : (ty : TypeTree) (type : ExprType) → cast_from (program_scope w).structs ty type ≡ cast_from (scope_in w).structs ty type
  casts_same ty (numbers c) = refl
  casts_same ty (points_to p) = refl
  casts_same ty zero_literal = ap (λ (b : Bool). if b then Some (value_type ty) else None) (known_same ty)

  pub cast_here : (ty : TypeTree) (type : ExprType) (r : Option TypeOf) → TellsType w.front.nodes r (cast_from (scope_in w).structs ty type) → TellsType w.front.nodes r (cast_from (program_scope w).structs ty type)
  cast_here ty type r h = subst (TellsType w.front.nodes r) (sym (casts_same ty type)) h

  pub field_here : (of field : ℕ) (r : Option ℕ) → r ≡ option_and_then (λ it. position (λ f. bytes_eq f.name (bytes_at numbered.names field)) it.fields) (struct_named (structs_of (unit_tree numbered)) (bytes_at numbered.names of)) → r ≡ field_number (program_scope w) (bytes_at w.front.nodes.names field) (Some (points_to (object (bytes_at w.front.nodes.names of))))
  field_here of field r e =
      e ∙ (ap (λ (m : Nodes). option_and_then (λ it. position (λ f. bytes_eq f.name (bytes_at m.names field)) it.fields) (struct_named (structs_of (unit_tree m)) (bytes_at m.names of))) k.same
      ∙ ap (λ (o : Option StructDecl). option_and_then (λ it. position (λ f. bytes_eq f.name (bytes_at w.front.nodes.names field)) it.fields) o) (sym (k.alike.structs (bytes_at w.front.nodes.names of))))

-- The value of a name.
pub local_value : (scope : CScope) (q : List ℕ) (r : Option ℕ) (k : ℕ) (string : Option ℕ) → r ≡ position (λ it. bytes_eq it.name q) scope.names → r ≡ Some k → does.Put (put.Fetch k) ∷ [] ≡ variable_code (variable_held scope q) (position (λ it. bytes_eq it.name q) scope.names) string
local_value scope q r k string e f =
    let at : position (λ it. bytes_eq it.name q) scope.names ≡ Some k = sym e ∙ f in
    let found = place_found (λ (it : ParamTree). bytes_eq it.name q) scope.names k at in
    rw (at, found.1) refl

-- Parameters.
pub param_has : (nodes : Nodes) (ps : List CParam) (i : ℕ) → i < length ps → HasParams nodes ps → HasParam nodes (get_or ps i no_param)
param_has nodes [] i within h = absurd (omega (arith, within))
param_has nodes (p ∷ ps) zero within h = h.0
param_has nodes (p ∷ ps) (suc i) within h = param_has nodes ps i (omega (arith, within)) h.1
