-- Which types may be declared where, and the setting of each part of a package.
use Rattle.std.specs.Prelude.{ℕ, Bool, true, false, not, ◌&&◌, List, [], ◌∷◌, ◌++◌, map, Option, None, Some, option_map, option_and_then, if◌then◌else◌, nat_eq, nat_le}
use Rattle.wf_text.specs.declared.place.Place.{Place}
use Rattle.wf_base.specs.declared.marks.Mark.TheVariants.{Pure}
use Rattle.wf_ast.specs.declared.types.Ty.{Ty}
use Rattle.wf_ast.specs.declared.types.Ty.TheVariants as types
use Rattle.wf_ast.specs.BaseStatuses.{base_statuses}
use Rattle.wf_ast.specs.WellTyped.{is_coroutine}
use Rattle.wf_named.specs.NamedTree.{NamedTypeTree, slice_of, array_of, base_type, struct_type, VarTree, ConstTree, NamedMethodTree, NamedPackageTree}
use Rattle.wf_named.specs.WellNamed.{fields_in}
use Rattle.wf_types_rules.specs.declared.meanings.Constant.{Constant}
use Rattle.wf_types_rules.specs.declared.meanings.MethodType.{MethodType}
use Rattle.wf_types_rules.specs.declared.settings.Form.{Form}
use Rattle.wf_types_rules.specs.declared.settings.Form.TheVariants as forms
use Rattle.wf_types_rules.specs.declared.settings.Role.{Role}
use Rattle.wf_types_rules.specs.declared.settings.Role.TheVariants as roles
use Rattle.wf_types_rules.specs.declared.settings.Setting.{Setting}
use Rattle.wf_types_rules.specs.ExprTypes.{number_of, written}

-- The form of a type.
abbrev pub form_of : Ty → Form
form_of (types.Num width lo hi) = forms.Number
form_of types.Flag = forms.Flag
form_of types.Status = forms.Status
form_of types.Reader = forms.Reader
form_of types.Writer = forms.Writer
form_of (types.Part part) = forms.Struct
form_of (types.Slice width) = forms.Slice
form_of (types.Array width lo hi count) = forms.Array

abbrev pub is_number_form : Form → Bool
is_number_form forms.Number = true
is_number_form of = false

abbrev pub is_numeric : Ty → Bool
is_numeric ty = is_number_form (form_of ty)

-- The forms of what a method that is no coroutine may give.
abbrev pub is_result_form : Form → Bool
is_result_form forms.Number = true
is_result_form forms.Flag = true
is_result_form forms.Status = true
is_result_form of = false

-- The forms of types that may stand there.
abbrev pub may_have : Role → Form → Bool
may_have roles.Const of = is_number_form of
may_have roles.Field forms.Slice = false
may_have roles.Field forms.Reader = false
may_have roles.Field forms.Writer = false
may_have roles.Field of = true
may_have roles.Arg forms.Status = false
may_have roles.Arg forms.Array = false
may_have roles.Arg forms.Struct = false
may_have roles.Arg of = true
may_have roles.Local forms.Reader = false
may_have roles.Local forms.Writer = false
may_have roles.Local forms.Array = false
may_have roles.Local forms.Struct = false
may_have roles.Local of = true
may_have (roles.Result mark) of = not (is_coroutine mark) && is_result_form of
may_have roles.Conversion of = is_number_form of

abbrev pub may_be : Role → Ty → Bool
may_be role ty = may_have role (form_of ty)

-- What begins as 0, and what is answered where a call is refused, has a type that holds 0.
abbrev pub begins_as_zero : Role → Bool
begins_as_zero roles.Field = true
begins_as_zero roles.Local = true
begins_as_zero (roles.Result mark) = true
begins_as_zero role = false

abbrev pub holds_zero : Ty → Bool
holds_zero (types.Num width lo hi) = nat_eq lo 0
holds_zero ty = true

abbrev pub is_zero_kept : Role → Ty → Bool
is_zero_kept role ty = if begins_as_zero role then holds_zero ty else true

abbrev pub if_allowed : Role → Ty → Option Ty
if_allowed role ty = if may_be role ty && is_zero_kept role ty then Some ty else None

-- The declared type, where it breaks no rule.
abbrev pub declared : Setting → Role → NamedTypeTree → Option Ty
declared s role t = option_and_then (if_allowed role) (written s t)

-- In a type, and in the value of a constant, only constants have a meaning.
abbrev pub among_constants : List (Option Constant) → Setting
among_constants known = record { constants = known; fields = []; args = []; locals = []; methods = []; statuses = []; mark = Pure; gives = None }

-- A number that lies in the type of its constant.
abbrev pub constant_in : Ty → ℕ → Option Constant
constant_in (types.Num width lo hi) n = if nat_le lo n && nat_le n hi then Some (record { width = width; value = n }) else None
constant_in ty n = None

abbrev pub constant_with : Option Ty → Option ℕ → Option Constant
constant_with (Some ty) (Some n) = constant_in ty n
constant_with ty n = None

abbrev pub constant_made : List (Option Constant) → ConstTree → Option Constant
constant_made known c = constant_with (declared (among_constants known) roles.Const c.of) (number_of (among_constants known) c.value)

-- The constants of a package in order: each knows those before it.
abbrev pub constants_after : List (Option Constant) → List ConstTree → List (Option Constant)
constants_after known [] = known
constants_after known (c ∷ cs) = constants_after (known ++ constant_made known c ∷ []) cs

abbrev pub constants_of : NamedPackageTree → List (Option Constant)
constants_of p = constants_after [] p.consts

-- Where the types of a package's fields, arguments, locals and results are read.
abbrev pub for_types : NamedPackageTree → Setting
for_types p = among_constants (constants_of p)

abbrev pub types_in : NamedPackageTree → Role → List VarTree → List (Option Ty)
types_in p role xs = map (λ x. declared (for_types p) role x.of) xs

abbrev pub result_in : NamedPackageTree → NamedMethodTree → Option (Option Ty)
result_in p m = option_map (declared (for_types p) (roles.Result m.mark)) m.gives

abbrev pub method_type : NamedPackageTree → NamedMethodTree → MethodType
method_type p m = record { mark = m.mark; args = types_in p roles.Arg m.args; gives = result_in p m }

-- The texts of all statuses, by number.
abbrev pub status_texts : NamedPackageTree → List (List ℕ)
status_texts p = base_statuses ++ map (λ w. w.text) p.statuses

-- What stands round the body of a method.
abbrev pub in_method : NamedPackageTree → NamedMethodTree → Setting
in_method p m =
    record {
      constants = constants_of p;
      fields = types_in p roles.Field (fields_in p (Some m.of));
      args = types_in p roles.Arg m.args;
      locals = types_in p roles.Local m.locals;
      methods = map (method_type p) p.methods;
      statuses = status_texts p;
      mark = m.mark;
      gives = result_in p m;
    }

-- The first token of a type.
abbrev pub first_token : NamedTypeTree → Place
first_token (slice_of at element) = at
first_token (array_of length at element) = at
first_token (base_type of at bounds) = at
first_token (struct_type n at) = at
