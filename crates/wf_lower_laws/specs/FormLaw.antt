-- The unit form of a text, rule by rule.
use Rattle.std.specs.Prelude.{◌≡◌, ℕ, suc, Bool, true, ◌&&◌, List, ◌++◌, map, take, None, Some, slice_get}
use Rattle.std.specs.List.{list_all}
use Rattle.wf_text.specs.Precedence.{Decides}
use Rattle.wf_ast.specs.declared.typed_nodes.TypedNodes.{TypedNodes}
use Rattle.wf_ast.specs.TypedInvariant.{IsTyped}
use Rattle.wf_ast.specs.TypedPackage.{package_of, surface_of}
use Rattle.wf_points.specs.PointNumbers.{HasTooMany}
use Rattle.wf_text.specs.Surface.{Surface}
use Rattle.c_text.specs.CTree.{Code, finish, nested, empty, assign, call, jump, branch, repeat, select, leave, case_label, default_label, name_label, ItemTree, struct_item, text_item, function_item}
use Rattle.c_meaning.specs.CTypes.{structs_of, scope_of, is_known, local_name, type_of, held_of}
use Rattle.c_meaning.specs.CStep.{callee_of}
use Rattle.c_meaning.specs.UnitForm.{Checked, checked, has_type, is_number, may_assign, formed_call, formed_return, formed_fields, formed_locals, meets_surface, is_complete, HasUnitForm}
use Rattle.wf_lower.specs.Unit.{lowered_unit}
use Rattle.wf_lower_laws.specs.ItemLaw.{HasItemNames}
use Rattle.wf_lower_laws.specs.NameLaw.{HasNames}

-- The expressions of each statement have the types that it asks.
abbrev pub typed_code : Checked → Code → Bool
typed_code c finish = true
typed_code c (nested inner rest) = typed_code c inner && typed_code c rest
typed_code c (empty rest) = typed_code c rest
typed_code c (assign target value rest) = may_assign (held_of c.scope target) (type_of c.scope value) && typed_code c rest
typed_code c (call target function given rest) = formed_call (callee_of function) c target function given && typed_code c rest
typed_code c (jump label rest) = typed_code c rest
typed_code c (branch test body otherwise other rest) = has_type c test && (typed_code c body && (typed_code c other && typed_code c rest))
typed_code c (repeat test body rest) = has_type c test && (typed_code c body && typed_code c rest)
typed_code c (select on body rest) = is_number (type_of c.scope on) && (typed_code c body && typed_code c rest)
typed_code c (leave value rest) = formed_return c value c.result_type && typed_code c rest
typed_code c (case_label n rest) = typed_code c rest
typed_code c (default_label rest) = typed_code c rest
typed_code c (name_label name rest) = typed_code c rest

-- What a text's types ask of an item, after the items before it: fields, parameters, locals and statements.
abbrev pub typed_item : List ItemTree → ItemTree → Bool
typed_item before (struct_item fields name) = formed_fields (structs_of before) fields
typed_item before (text_item name bytes) = true
typed_item before (function_item linkage result_type name params locals body) =
    list_all (λ p. is_known (structs_of before) p.kind) params
    && (formed_locals (scope_of before params) locals && typed_code (checked before linkage result_type (params ++ map local_name locals) body) body)

-- The rules of the unit form that speak of types and of a package's surface. The first item, the struct of an io buffer, has a rule of
-- its own.
pub record KeepsTypes (surface : Surface) (items : List ItemTree) : Type 0 where
  pub typed : (i : ℕ) (item : ItemTree) → slice_get items (suc i) ≡ Some item → typed_item (take (suc i) items) item ≡ true
  pub meets : (i : ℕ) (item : ItemTree) → slice_get items i ≡ Some item → meets_surface surface item ≡ true
  pub complete : is_complete surface items ≡ true

-- The text of a typed package keeps all other rules: so it has the unit form where it keeps these.
abbrev pub TextsAreFormed : Type 0
TextsAreFormed =
    (nodes : TypedNodes) → IsTyped nodes → Decides (HasTooMany (package_of nodes)) None → HasNames (package_of nodes) → HasItemNames (package_of nodes)
    → KeepsTypes (surface_of (package_of nodes)) (lowered_unit (package_of nodes)) → HasUnitForm (surface_of (package_of nodes)) (lowered_unit (package_of nodes))
