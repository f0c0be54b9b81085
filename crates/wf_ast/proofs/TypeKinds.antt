-- No type is of two kinds.
use Rattle.std.proofs.Common.{◌≡◌, true}
use Rattle.wf_ast.specs.declared.types.Ty.{Ty}
use Rattle.wf_ast.specs.declared.types.Ty.TheVariants as types
use Rattle.wf_ast.specs.TypedInvariant.{is_numeric, is_logical, is_state, is_list}

pub number_no_condition : (ty : Ty) → is_numeric ty ≡ true → is_logical ty ≡ true → ⊥
number_no_condition (types.Num width lo hi) h k = cc k
number_no_condition types.Flag h k = cc h
number_no_condition types.Status h k = cc h
number_no_condition types.Reader h k = cc h
number_no_condition types.Writer h k = cc h
number_no_condition (types.Slice width) h k = cc h
number_no_condition (types.Array width lo hi count) h k = cc h
number_no_condition (types.Part s) h k = cc h

pub list_no_condition : (ty : Ty) → is_list ty ≡ true → is_logical ty ≡ true → ⊥
list_no_condition (types.Num width lo hi) h k = cc h
list_no_condition types.Flag h k = cc h
list_no_condition types.Status h k = cc h
list_no_condition types.Reader h k = cc h
list_no_condition types.Writer h k = cc h
list_no_condition (types.Slice width) h k = cc k
list_no_condition (types.Array width lo hi count) h k = cc k
list_no_condition (types.Part s) h k = cc h

pub list_no_number : (ty : Ty) → is_list ty ≡ true → is_numeric ty ≡ true → ⊥
list_no_number (types.Num width lo hi) h k = cc h
list_no_number types.Flag h k = cc h
list_no_number types.Status h k = cc h
list_no_number types.Reader h k = cc h
list_no_number types.Writer h k = cc h
list_no_number (types.Slice width) h k = cc k
list_no_number (types.Array width lo hi count) h k = cc k
list_no_number (types.Part s) h k = cc h

pub state_no_condition : (ty : Ty) → is_state ty ≡ true → is_logical ty ≡ true → ⊥
state_no_condition (types.Num width lo hi) h k = cc h
state_no_condition types.Flag h k = cc h
state_no_condition types.Status h k = cc k
state_no_condition types.Reader h k = cc h
state_no_condition types.Writer h k = cc h
state_no_condition (types.Slice width) h k = cc h
state_no_condition (types.Array width lo hi count) h k = cc h
state_no_condition (types.Part s) h k = cc h

pub state_no_number : (ty : Ty) → is_state ty ≡ true → is_numeric ty ≡ true → ⊥
state_no_number (types.Num width lo hi) h k = cc h
state_no_number types.Flag h k = cc h
state_no_number types.Status h k = cc k
state_no_number types.Reader h k = cc h
state_no_number types.Writer h k = cc h
state_no_number (types.Slice width) h k = cc h
state_no_number (types.Array width lo hi count) h k = cc h
state_no_number (types.Part s) h k = cc h
