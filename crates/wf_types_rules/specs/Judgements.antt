-- What is wrong with a part of a package: for each rule and kind of place a test that tells the place, or None. A part
-- that has a part without a meaning is judged by none that needs this meaning. What a rule says of meanings is told apart
-- from where they come from, so that who has worked them out judges by the same words.
use Rattle.std.specs.Prelude.{ℕ, suc, ◌^◌, Bool, true, false, not, ◌&&◌, ◌||◌, List, [], ◌∷◌, Option, None, Some, option_map, option_and_then, if◌then◌else◌, nat_eq, nat_lt, nat_le, slice_get, is_some}
use Rattle.wf_text.specs.declared.place.Place.{Place}
use Rattle.wf_text.specs.StatusText.{category_of}
use Rattle.wf_text.specs.declared.categories.Category.TheVariants.{Fine}
use Rattle.wf_base.specs.declared.marks.Mark.{Mark}
use Rattle.wf_base.specs.declared.marks.Mark.TheVariants.{Impure}
use Rattle.wf_base.specs.declared.widths.Width.{Width}
use Rattle.wf_base.specs.declared.widths.Width.TheVariants.{W8, W32}
use Rattle.wf_base.specs.declared.base_methods.ArgTy.{ArgTy}
use Rattle.wf_base.specs.declared.base_methods.ArgTy.TheVariants.{U8, U32, SameSlice}
use Rattle.wf_base.specs.declared.base_methods.Kind.{Kind}
use Rattle.wf_base.specs.declared.base_methods.Kind.TheVariants as kinds
use Rattle.wf_base.specs.declared.base_methods.Gives.{Gives}
use Rattle.wf_base.specs.declared.base_methods.Gives.TheVariants as gives
use Rattle.wf_base.specs.BaseTable.{bits_of, row_of}
use Rattle.wf_ast.specs.declared.types.Ty.{Ty}
use Rattle.wf_ast.specs.declared.types.Ty.TheVariants as types
use Rattle.wf_ast.specs.TypedTrees.{operator_kind}
use Rattle.wf_ast.specs.Value.{same_category}
use Rattle.wf_ast.specs.WellTyped.{is_coroutine, is_pure, is_suspension, same_mark}
use Rattle.wf_named.specs.declared.nodes.BaseType.{BaseType}
use Rattle.wf_named.specs.declared.nodes.BaseType.TheVariants as bases
use Rattle.wf_named.specs.declared.nodes.NamedCallee.{NamedCallee}
use Rattle.wf_named.specs.declared.nodes.NamedCallee.TheVariants as callees
use Rattle.wf_named.specs.declared.nodes.NamedPath.{NamedPath}
use Rattle.wf_named.specs.declared.nodes.Variable.{Variable}
use Rattle.wf_named.specs.declared.nodes.Variable.TheVariants as variables
use Rattle.wf_named.specs.NamedTree.{NamedExprTree, status, truth, path, index, slice, answer, chain, convert, negation, NamedPartTree, absent, present, NamedLinkTrees, no_link, link, NamedArgTrees, no_arg, more_args, NamedCallTree, call, NamedTypeTree, slice_of, array_of, base_type, struct_type, unrefined, refined, NamedTargetTree, to_path, to_element, NamedStmtTree, branch, loop, leave, again, back, NamedBlockTree, close, more_stmts, NamedArmTrees, no_else, otherwise, arm}
use Rattle.wf_types_rules.specs.declared.meanings.Meaning.{Meaning}
use Rattle.wf_types_rules.specs.declared.meanings.Meaning.TheVariants as meanings
use Rattle.wf_types_rules.specs.declared.meanings.Operand.{Operand}
use Rattle.wf_types_rules.specs.declared.meanings.MethodType.{MethodType}
use Rattle.wf_types_rules.specs.declared.meanings.PlacedMeaning.{PlacedMeaning}
use Rattle.wf_types_rules.specs.declared.meanings.Bound.{Bound}
use Rattle.wf_types_rules.specs.Meanings.{all_of, same_width, there, variable, is_value, is_io, is_number, is_flag, is_status, is_constant, constant_number, width_of, place_of}
use Rattle.wf_types_rules.specs.Operands.{first_of, differs_in, not_taken, not_fitting, has_no_value}
use Rattle.wf_types_rules.specs.ExprTypes.{element_of, slice_in, given_by_base, plain_width, in_front, operand_at, meaning, operands, number_of, low_number, written}
use Rattle.wf_types_rules.specs.declared.settings.Form.{Form}
use Rattle.wf_types_rules.specs.declared.settings.Form.TheVariants as forms
use Rattle.wf_types_rules.specs.declared.settings.Role.{Role}
use Rattle.wf_types_rules.specs.declared.settings.Role.TheVariants as roles
use Rattle.wf_types_rules.specs.declared.settings.Setting.{Setting}
use Rattle.wf_types_rules.specs.DeclaredTypes.{is_number_form, may_have, holds_zero, is_zero_kept, declared, first_token}
use Rattle.wf_types_rules.specs.Parts.{Part, expression, calling, argument, placed_type, type_part, constant_declared, status_declared, target, assigned, kept, condition, letter_value, returned, yielded, whole_body}

abbrev pub at_if : Bool → Place → Option Place
at_if test at = if test then Some at else None

-- It means something, or is a type, of which the test doesn't hold.
abbrev pub fails : {X : Type 0} → (X → Bool) → Option X → Bool
fails test None = false
fails test (Some x) = not (test x)

abbrev pub both_fail : {X Y : Type 0} → (X → Y → Bool) → Option X → Option Y → Bool
both_fail test (Some x) (Some y) = not (test x y)
both_fail test x y = false

-- It means something of which the test holds.
abbrev pub meets : {X : Type 0} → (X → Bool) → Option X → Bool
meets test None = false
meets test (Some x) = test x

abbrev pub if_both : Bool → Option Place → Option Place
if_both known at = if known then at else None

-- What an expression means, with its place, and what a variable does where it stands. An end of a slice may be absent.
abbrev pub value_of : Setting → NamedExprTree → PlacedMeaning
value_of s e = record { of = meaning s e; at = place_of e }

abbrev pub base_value : Setting → NamedPath → PlacedMeaning
base_value s p = record { of = variable s p.of; at = p.at }

abbrev pub end_value : Setting → NamedPartTree → Option PlacedMeaning
end_value s absent = None
end_value s (present e) = Some (value_of s e)

-- Expressions.
abbrev pub no_number : PlacedMeaning → Option Place
no_number v = at_if (fails is_number v.of) v.at

abbrev pub no_flag : PlacedMeaning → Option Place
no_flag v = at_if (fails is_flag v.of) v.at

abbrev pub no_value : PlacedMeaning → Option Place
no_value v = at_if (fails is_value v.of) v.at

abbrev pub no_index : (base place : PlacedMeaning) → Option Place
no_index base place = if_both (is_some base.of && is_some place.of) (first_of (at_if (fails (λ m. is_some (element_of m)) base.of) base.at) (no_number place))

abbrev pub is_known : Option PlacedMeaning → Bool
is_known None = true
is_known (Some v) = is_some v.of

abbrev pub no_end : Option PlacedMeaning → Option Place
no_end None = None
no_end (Some v) = no_number v

abbrev pub no_slice : (base : PlacedMeaning) → (from to : Option PlacedMeaning) → Option Place
no_slice base from to =
    if_both (is_some base.of && (is_known from && is_known to)) (first_of (at_if (fails (λ m. is_some (slice_in m)) base.of) base.at) (first_of (no_end from) (no_end to)))

-- An operand of a type that isn't taken, or of another width than one before it; an array, a struct or io that stands
-- as a value.
abbrev pub wrong_operand : Setting → Part → Option Place
wrong_operand s (expression (path p)) = no_value (base_value s p)
wrong_operand s (expression (index p i at)) = no_index (base_value s p) (value_of s i)
wrong_operand s (expression (slice p from to at)) = no_slice (base_value s p) (end_value s from) (end_value s to)
wrong_operand s (expression (chain op first links at)) = option_and_then (not_taken (operator_kind op)) (operands s first links)
wrong_operand s (expression (convert e t at)) = no_number (value_of s e)
wrong_operand s (expression (negation e at)) = no_flag (value_of s e)
wrong_operand s x = None

-- A constant that doesn't fit the width of an operand beside it.
abbrev pub unfit_operand : Setting → Part → Option Place
unfit_operand s (expression (chain op first links at)) = option_and_then (not_fitting (operator_kind op)) (operands s first links)
unfit_operand s x = None

-- A node of a constant expression that has no value: it leaves its width, its divisor is 0, or its shift isn't below the
-- width.
abbrev pub is_cut : Option Meaning → Option Width → Bool
is_cut (Some (meanings.Constant own value)) width = fails (λ w. nat_lt value (2 ^ bits_of w)) width
is_cut m width = false

abbrev pub node_without_value : Setting → Part → Option Place
node_without_value s (expression (chain op first links at)) = at_if (meets (has_no_value (operator_kind op)) (operands s first links)) at
node_without_value s (expression (convert e t at)) = at_if (is_cut (meaning s e) (plain_width t)) at
node_without_value s x = None

-- Values that a type takes: numbers of its width, constants without a width, however large, and else those of the very type.
abbrev pub takes : Ty → Meaning → Bool
takes (types.Num width lo hi) m = is_number m && not (differs_in (Some width) (width_of m))
takes types.Flag m = is_flag m
takes types.Status m = is_status m
takes types.Reader (meanings.Typed types.Reader) = true
takes types.Writer (meanings.Typed types.Writer) = true
takes (types.Slice width) (meanings.Typed (types.Slice own)) = same_width width own
takes ty m = false

-- Arguments. The type of the argument with the number `n`.
abbrev pub base_arg : Kind → ArgTy → Ty
base_arg kind U8 = all_of W8
base_arg kind U32 = all_of W32
base_arg (kinds.Slice width) SameSlice = types.Slice width
base_arg kind SameSlice = types.Slice W8

abbrev pub own_arg : (n : ℕ) → MethodType → Option Ty
own_arg n m = there (slice_get m.args n)

abbrev pub wanted : Setting → NamedCallee → (n : ℕ) → Option Ty
wanted s (callees.Own m) n = option_and_then (own_arg n) (slice_get s.methods m.0)
wanted s (callees.Sub x m) n = option_and_then (own_arg n) (slice_get s.methods m.0)
wanted s (callees.Base on sig) n = if is_some (variable s on.of) then option_map (λ a. base_arg (row_of sig).on a.1) (slice_get (row_of sig).args n) else None

-- Io may be handed on.
abbrev pub meaning_of_argument : Setting → NamedExprTree → Option Meaning
meaning_of_argument s (path p) = variable s p.of
meaning_of_argument s e = meaning s e

abbrev pub may_be_handed : Meaning → Bool
may_be_handed m = is_value m || is_io m

abbrev pub argument_value : Setting → NamedExprTree → PlacedMeaning
argument_value s e = record { of = meaning_of_argument s e; at = place_of e }

-- An argument of another type.
abbrev pub not_handed : Option Ty → PlacedMeaning → Option Place
not_handed ty v = at_if (fails may_be_handed v.of || both_fail takes ty v.of) v.at

abbrev pub wrong_argument : Setting → Part → Option Place
wrong_argument s (argument callee n e) = not_handed (wanted s callee n) (argument_value s e)
wrong_argument s x = None

-- What is given for a letter of an axiom and is no number.
abbrev pub wrong_letter : Setting → Part → Option Place
wrong_letter s (letter_value e) = no_number (value_of s e)
wrong_letter s x = None

-- Types. A name that is no constant, in what has to be constant.
abbrev pub is_constant_name : Variable → Bool
is_constant_name (variables.Const c) = true
is_constant_name x = false

abbrev mutual
  pub names_others : NamedExprTree → Bool
  names_others (path p) = not (is_constant_name p.of)
  names_others (index p i at) = true
  names_others (slice p from to at) = true
  names_others (answer c) = true
  names_others (chain op first links at) = names_others first || links_name_others links
  names_others (convert e t at) = names_others e
  names_others (negation e at) = names_others e
  names_others e = false

  pub links_name_others : NamedLinkTrees → Bool
  links_name_others no_link = false
  links_name_others (link sign e others) = names_others e || links_name_others others

abbrev pub is_no_constant : Setting → NamedExprTree → Bool
is_no_constant s e = names_others e || fails is_constant (meaning s e)

-- A bound or a length as it is judged: whether it is no constant, its number and its place.
abbrev pub bound_of : Setting → NamedExprTree → Bound
bound_of s e = record { unfit = is_no_constant s e; number = number_of s e; at = place_of e }

abbrev pub low_bound : Setting → NamedPartTree → Option Bound
low_bound s absent = None
low_bound s (present e) = Some (bound_of s e)

abbrev pub is_unfit_low : Option Bound → Bool
is_unfit_low None = false
is_unfit_low (Some b) = b.unfit

abbrev pub are_unfit : (low : Option Bound) → (high : Bound) → Bool
are_unfit low high = is_unfit_low low || high.unfit

-- The form of a type that is written, whatever its bounds and its length break. A name that is no type has none, nor have
-- bounds of what is no number, or that are no constant numbers, nor what has elements without a form.
abbrev pub base_form : BaseType → Form
base_form (bases.Number width) = forms.Number
base_form bases.Flag = forms.Flag
base_form bases.Status = forms.Status
base_form bases.Reader = forms.Reader
base_form bases.Writer = forms.Writer

abbrev pub refined_form : (unfit : Bool) → Option Form
refined_form unfit = if unfit then None else Some forms.Number

abbrev pub with_elements : (whole : Form) → (element : Option Form) → Option Form
with_elements whole element = option_map (λ inner. whole) element

abbrev pub form : Setting → NamedTypeTree → Option Form
form s (slice_of at element) = with_elements forms.Slice (form s element)
form s (array_of length at element) = with_elements forms.Array (form s element)
form s (base_type None at bounds) = None
form s (base_type (Some of) at unrefined) = Some (base_form of)
form s (base_type (Some (bases.Number width)) at (refined low high)) = refined_form (are_unfit (low_bound s low) (bound_of s high))
form s (base_type (Some of) at (refined low high)) = None
form s (struct_type n at) = Some forms.Struct

-- A type that the language doesn't have: of an unknown name, with bounds where it is no number, with a bound or a length
-- that is no constant number, or with elements of another type than such a type has.
abbrev pub wrong_bounds : BaseType → (low : Option Bound) → (high : Bound) → Place → Option Place
wrong_bounds (bases.Number width) low high at = at_if (are_unfit low high) at
wrong_bounds of low high at = Some at

abbrev pub is_not_plain : Option Form → Option Width → Bool
is_not_plain kind plain = is_some kind && not (is_some plain)

abbrev pub is_no_array : (count : Bound) → (element : Option Form) → Bool
is_no_array count element = count.unfit || fails is_number_form element

abbrev pub wrong_type : Setting → Part → Option Place
wrong_type s (type_part (base_type None at bounds)) = Some at
wrong_type s (type_part (base_type (Some of) at unrefined)) = None
wrong_type s (type_part (base_type (Some of) at (refined low high))) = wrong_bounds of (low_bound s low) (bound_of s high) at
wrong_type s (type_part (slice_of at element)) = at_if (is_not_plain (form s element) (plain_width element)) at
wrong_type s (type_part (array_of length at element)) = at_if (is_no_array (bound_of s length) (form s element)) at
wrong_type s x = None

-- A type that by its form may not stand where it does. After `as` it has no bounds.
abbrev pub may_not_stand : Role → Option Form → Option Width → Bool
may_not_stand roles.Conversion kind plain = is_not_plain kind plain
may_not_stand role kind plain = fails (may_have role) kind

abbrev pub is_misplaced : Setting → Role → NamedTypeTree → Bool
is_misplaced s role t = may_not_stand role (form s t) (plain_width t)

abbrev pub misplaced_type : Setting → Part → Option Place
misplaced_type s (placed_type role t) = at_if (is_misplaced s role t) (first_token t)
misplaced_type s x = None

-- A lower bound above the upper one.
abbrev pub crossing : (low : Option Bound) → (high : Bound) → Option Place
crossing None high = None
crossing (Some low) high = at_if (both_fail nat_le low.number high.number) low.at

abbrev pub crossed_bounds : Setting → Part → Option Place
crossed_bounds s (type_part (base_type (Some (bases.Number width)) at (refined low high))) = crossing (low_bound s low) (bound_of s high)
crossed_bounds s x = None

-- An upper bound above the type.
abbrev pub goes_above : Width → (low high : Option ℕ) → Bool
goes_above width (Some m) (Some n) = nat_le m n && nat_le (2 ^ bits_of width) n
goes_above width low high = false

abbrev pub high_bound : Setting → Part → Option Place
high_bound s (type_part (base_type (Some (bases.Number width)) at (refined low high))) = at_if (goes_above width (low_number s low) (number_of s high)) (place_of high)
high_bound s x = None

-- An array without elements, and one whose elements can't be 0.
abbrev pub no_count : Bound → Option Place
no_count count = at_if (fails (nat_lt 0) count.number) count.at

abbrev pub no_elements : Setting → Part → Option Place
no_elements s (type_part (array_of length at element)) = no_count (bound_of s length)
no_elements s x = None

abbrev pub element_above_zero : Setting → Part → Option Place
element_above_zero s (type_part (array_of length at element)) = at_if (fails holds_zero (written s element)) (first_token element)
element_above_zero s x = None

-- A field, a local or a result that can't be 0.
abbrev pub begins_above_zero : Setting → Part → Option Place
begins_above_zero s (placed_type role t) = at_if (fails (is_zero_kept role) (written s t)) (first_token t)
begins_above_zero s x = None

-- The value of a constant that is no number, and one outside the constant's type.
abbrev pub no_constant : PlacedMeaning → Option Place
no_constant v = at_if (fails is_constant v.of) v.at

abbrev pub value_no_number : Setting → Part → Option Place
value_no_number s (constant_declared c) = no_constant (value_of s c.value)
value_no_number s x = None

abbrev pub lies_in : Ty → ℕ → Bool
lies_in (types.Num width lo hi) n = nat_le lo n && nat_le n hi
lies_in ty n = true

abbrev pub lies_outside : Option Ty → PlacedMeaning → Option Place
lies_outside ty v = at_if (both_fail lies_in ty (option_and_then constant_number v.of)) v.at

abbrev pub value_outside : Setting → Part → Option Place
value_outside s (constant_declared c) = lies_outside (declared s roles.Const c.of) (value_of s c.value)
value_outside s x = None

-- A status text begins with `#`, `$` or `@`, has something after it, and has no two `?`, of byte 63, in a row.
abbrev pub two_questions : List ℕ → Bool
two_questions (a ∷ b ∷ bs) = (nat_eq a 63 && nat_eq b 63) || two_questions (b ∷ bs)
two_questions bs = false

abbrev pub is_status_text : List ℕ → Bool
is_status_text (a ∷ b ∷ bs) = not (same_category Fine (category_of (a ∷ []))) && not (two_questions (a ∷ b ∷ bs))
is_status_text bs = false

abbrev pub wrong_status : Setting → Part → Option Place
wrong_status s (status_declared w) = at_if (not (is_status_text w.text)) w.at
wrong_status s x = None

-- Targets. An element has the place of its `[`.
abbrev pub target_place : NamedTargetTree → Place
target_place (to_path p) = p.at
target_place (to_element p i at) = at

-- A constant, an argument, a whole array and a struct are none.
abbrev pub is_no_target_of : Setting → Variable → Bool
is_no_target_of s (variables.Const c) = true
is_no_target_of s (variables.Arg x) = true
is_no_target_of s x = fails is_value (variable s x)

abbrev pub is_no_target : Setting → NamedTargetTree → Bool
is_no_target s (to_path p) = is_no_target_of s p.of
is_no_target s (to_element p i at) = false

abbrev pub wrong_target : Setting → Part → Option Place
wrong_target s (target t) = at_if (is_no_target s t) (target_place t)
wrong_target s x = None

abbrev pub target_meaning : Setting → NamedTargetTree → Option Meaning
target_meaning s (to_path p) = if is_no_target s (to_path p) then None else variable s p.of
target_meaning s (to_element p i at) = meaning s (index p i at)

abbrev pub target_value : Setting → NamedTargetTree → PlacedMeaning
target_value s t = record { of = target_meaning s t; at = target_place t }

abbrev pub type_in : Meaning → Option Ty
type_in (meanings.Typed ty) = Some ty
type_in m = None

abbrev pub type_of : PlacedMeaning → Option Ty
type_of v = option_and_then type_in v.of

abbrev pub target_type : Setting → NamedTargetTree → Option Ty
target_type s t = type_of (target_value s t)

-- What a call gives as the whole right side of `=`. A coroutine gives none; a base method that reads gives its number.
abbrev pub method_at : Setting → NamedCallee → Option MethodType
method_at s (callees.Own m) = slice_get s.methods m.0
method_at s (callees.Sub x m) = slice_get s.methods m.0
method_at s (callees.Base on sig) = None

abbrev pub result_of : MethodType → Option (Option Ty)
result_of m = if is_coroutine m.mark then None else m.gives

abbrev pub is_given_nothing : Gives → Bool
is_given_nothing gives.Nothing = true
is_given_nothing g = false

abbrev pub gives_no_value : Setting → NamedCallee → Bool
gives_no_value s (callees.Base on sig) = is_some (variable s on.of) && is_given_nothing (row_of sig).gives
gives_no_value s callee = fails (λ m. is_some (result_of m)) (method_at s callee)

-- Every argument means something that its type takes.
abbrev pub is_argument : Option Ty → Option Meaning → Bool
is_argument (Some ty) (Some m) = takes ty m
is_argument ty m = false

abbrev pub are_arguments : Setting → NamedCallee → (n : ℕ) → NamedArgTrees → Bool
are_arguments s callee n no_arg = true
are_arguments s callee n (more_args e others) = is_argument (wanted s callee n) (meaning_of_argument s e) && are_arguments s callee (suc n) others

abbrev pub answer_type : Setting → NamedCallee → Option Ty
answer_type s (callees.Base on sig) = if is_some (variable s on.of) then given_by_base (row_of sig).gives else None
answer_type s callee = there (option_and_then result_of (method_at s callee))

abbrev pub whole_answer : Setting → NamedCallTree → Option Meaning
whole_answer s (call callee at mark args) = if are_arguments s callee 0 args then option_map meanings.Typed (answer_type s callee) else None

abbrev pub assigned_meaning : Setting → NamedExprTree → Option Meaning
assigned_meaning s (answer c) = whole_answer s c
assigned_meaning s e = meaning s e

abbrev pub right_value : Setting → NamedExprTree → PlacedMeaning
right_value s e = record { of = assigned_meaning s e; at = place_of e }

-- `=` of another type than the target's, and of a call that gives no value.
abbrev pub not_assigned : (t v : PlacedMeaning) → Option Place
not_assigned t v = at_if (both_fail takes (type_of t) v.of) t.at

abbrev pub wrong_assigned : Setting → Part → Option Place
wrong_assigned s (assigned t None e) = not_assigned (target_value s t) (right_value s e)
wrong_assigned s x = None

abbrev pub no_value_assigned : Setting → Part → Option Place
no_value_assigned s (assigned t None (answer (call callee at mark args))) = at_if (gives_no_value s callee) (target_place t)
no_value_assigned s x = None

-- An operator with `=` has the target as its first operand.
abbrev pub two_operands : (t v : PlacedMeaning) → Option (List Operand)
two_operands t v = in_front (option_map (operand_at t.at) t.of) (in_front (option_map (operand_at v.at) v.of) (Some []))

abbrev pub updated : Setting → NamedTargetTree → NamedExprTree → Option (List Operand)
updated s t e = two_operands (target_value s t) (value_of s e)

abbrev pub wrong_update : Setting → Part → Option Place
wrong_update s (assigned t (Some op) e) = option_and_then (not_taken (operator_kind op)) (updated s t e)
wrong_update s x = None

abbrev pub unfit_update : Setting → Part → Option Place
unfit_update s (assigned t (Some op) e) = option_and_then (not_fitting (operator_kind op)) (updated s t e)
unfit_update s x = None

-- Conditions and results.
abbrev pub wrong_condition : Setting → Part → Option Place
wrong_condition s (condition e) = no_flag (value_of s e)
wrong_condition s x = None

-- Outside a coroutine `return` gives the written result, in one a status.
abbrev pub wrong_result : Option (Option Ty) → Option Meaning → Bool
wrong_result None m = true
wrong_result (Some ty) m = both_fail takes ty m

abbrev pub is_wrong_return : Setting → Option PlacedMeaning → Bool
is_wrong_return s None = is_coroutine s.mark || is_some s.gives
is_wrong_return s (Some v) = if is_coroutine s.mark then fails is_status v.of else wrong_result s.gives v.of

abbrev pub wrong_return : Setting → Part → Option Place
wrong_return s (returned at e) = at_if (is_wrong_return s (end_value s e)) at
wrong_return s x = None

-- A jump leaves the loop that stands so many loops outwards from a block.
abbrev mutual
  pub stmt_leaves : (outwards : ℕ) → NamedStmtTree → Bool
  stmt_leaves n (leave outwards at) = nat_eq outwards n
  stmt_leaves n (branch arms at) = arms_leave n arms
  stmt_leaves n (loop e clauses body at) = block_leaves (suc n) body
  stmt_leaves n st = false

  pub block_leaves : (outwards : ℕ) → NamedBlockTree → Bool
  block_leaves n (close at) = false
  block_leaves n (more_stmts first others) = stmt_leaves n first || block_leaves n others

  pub arms_leave : (outwards : ℕ) → NamedArmTrees → Bool
  arms_leave n no_else = false
  arms_leave n (otherwise body) = block_leaves n body
  arms_leave n (arm e body others) = block_leaves n body || arms_leave n others

abbrev pub is_word_true : NamedExprTree → Bool
is_word_true (truth value at) = value
is_word_true e = false

-- A statement that never goes on: a jump, an `if` with an `else` all of whose blocks never go on, and a loop on the word
-- `true` that nothing leaves. Neither does a block with such a statement.
abbrev mutual
  pub stmt_stops : NamedStmtTree → Bool
  stmt_stops (leave outwards at) = true
  stmt_stops (again outwards at) = true
  stmt_stops (back e at) = true
  stmt_stops (branch arms at) = arms_stop arms
  stmt_stops (loop e clauses body at) = is_word_true e && not (block_leaves 0 body)
  stmt_stops st = false

  pub block_stops : NamedBlockTree → Bool
  block_stops (close at) = false
  block_stops (more_stmts first others) = stmt_stops first || block_stops others

  pub arms_stop : NamedArmTrees → Bool
  arms_stop no_else = false
  arms_stop (otherwise body) = block_stops body
  arms_stop (arm e body others) = block_stops body && arms_stop others

abbrev pub closing_brace : NamedBlockTree → Place
closing_brace (close at) = at
closing_brace (more_stmts first others) = closing_brace others

abbrev pub ends_without_result : Setting → (stops : Bool) → Bool
ends_without_result s stops = not (is_coroutine s.mark) && (is_some s.gives && not stops)

abbrev pub reaches_end : Setting → Part → Option Place
reaches_end s (whole_body body) = at_if (ends_without_result s (block_stops body)) (closing_brace body)
reaches_end s x = None

-- Effects.
abbrev pub is_impure : Mark → Bool
is_impure mark = same_mark mark Impure

abbrev pub impure_call : Setting → Part → Option Place
impure_call s (calling inside (call callee at mark args)) = at_if (is_impure mark && is_pure s.mark) at
impure_call s x = None

-- A target other than a local.
abbrev pub is_field : Variable → Bool
is_field (variables.Field x) = true
is_field x = false

abbrev pub is_outside : NamedTargetTree → Bool
is_outside (to_path p) = is_field p.of
is_outside (to_element p i at) = true

abbrev pub impure_write : Setting → Part → Option Place
impure_write s (target t) = at_if (is_outside t && is_pure s.mark) (target_place t)
impure_write s x = None

abbrev pub coroutine_call : Setting → Part → Option Place
coroutine_call s (calling inside (call callee at mark args)) = at_if (is_coroutine mark && not (is_coroutine s.mark)) at
coroutine_call s x = None

abbrev pub outside_coroutine : Setting → Place → Option Place
outside_coroutine s at = at_if (not (is_coroutine s.mark)) at

abbrev pub kept_outside : Setting → Part → Option Place
kept_outside s (kept t (call callee at mark args)) = outside_coroutine s at
kept_outside s x = None

abbrev pub yielded_outside : Setting → Part → Option Place
yielded_outside s (yielded at e) = outside_coroutine s at
yielded_outside s x = None

-- Inside an expression only a base method without a mark is called.
abbrev pub is_base : NamedCallee → Bool
is_base (callees.Base on sig) = true
is_base callee = false

abbrev pub call_inside : Setting → Part → Option Place
call_inside s (calling true (call callee at mark args)) = at_if (not (is_pure mark) || not (is_base callee)) at
call_inside s x = None

-- The written mark is the declared one.
abbrev pub declared_mark : Setting → NamedCallee → Option Mark
declared_mark s (callees.Base on sig) = Some (row_of sig).mark
declared_mark s callee = option_map (λ m. m.mark) (method_at s callee)

abbrev pub wrong_mark : Setting → Part → Option Place
wrong_mark s (calling inside (call callee at mark args)) = at_if (fails (same_mark mark) (declared_mark s callee)) at
wrong_mark s x = None

-- `=?` keeps the status of a coroutine that is a method of the package.
abbrev pub not_kept_in_status : Setting → Part → Option Place
not_kept_in_status s (kept t (call callee at mark args)) = at_if (fails is_status (target_meaning s t)) at
not_kept_in_status s x = None

abbrev pub is_coroutine_called : Setting → NamedCallee → Bool
is_coroutine_called s (callees.Base on sig) = false
is_coroutine_called s callee = not (fails (λ m. is_coroutine m.mark) (method_at s callee))

abbrev pub keeps_no_coroutine : Setting → Part → Option Place
keeps_no_coroutine s (kept t (call callee at mark args)) = at_if (not (is_coroutine_called s callee)) at
keeps_no_coroutine s x = None

-- What is yielded is the text of a suspension.
abbrev pub is_suspension_text : Setting → NamedExprTree → Bool
is_suspension_text s (status n at) = is_suspension (slice_get s.statuses n)
is_suspension_text s e = false

abbrev pub wrong_yield : Setting → Part → Option Place
wrong_yield s (yielded at e) = at_if (not (is_suspension_text s e)) (place_of e)
wrong_yield s x = None
