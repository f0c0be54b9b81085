-- When a typed tree keeps the rules and is one of what an expression means.
use Rattle.std.specs.Prelude.{◌≡◌, ℕ, ◌+◌, ◌^◌, true, ⊤, length, Option, None, Some, option_and_then, nat_lt, slice_get, is_some}
use Rattle.wf_text.specs.declared.place.Place.{Place}
use Rattle.wf_base.specs.declared.base_methods.Kind.{Kind}
use Rattle.wf_base.specs.declared.base_methods.Kind.TheVariants as kinds
use Rattle.wf_base.specs.declared.widths.Width.{Width}
use Rattle.wf_base.specs.BaseTable.{bits_of}
use Rattle.wf_ast.specs.declared.types.Ty.{Ty}
use Rattle.wf_ast.specs.declared.types.Ty.TheVariants as types
use Rattle.wf_ast.specs.TypedTree.{Path, arg, NumTree, number, SliceTree, StatusTree, CondTree, ValueTree, numeric, logical, state, elements}
use Rattle.wf_ast.specs.WellTyped.{Context, type_at, is_range, width_of, varies, well_part, well_slice, well_status, well_cond, element_type}
use Rattle.wf_named.specs.declared.nodes.Variable.{Variable}
use Rattle.wf_named.specs.WellNamed.{NamedScope, type_of_variable, kind_of, has_kind}
use Rattle.wf_types_rules.specs.declared.meanings.Meaning.{Meaning}
use Rattle.wf_types_rules.specs.declared.meanings.Meaning.TheVariants as meanings
use Rattle.wf_types_rules.specs.declared.settings.Setting.{Setting}
use Rattle.wf_types_rules.specs.Meanings.{variable}
use Rattle.wf_types_rules.specs.Operands.{bits_in}
use Rattle.wf_typed_tree.specs.ElaboratedExprs.{path_to}

-- A constant stands as its number, which lies in its width.
pub record IsConstant (bits value : ℕ) (t : ValueTree) : Type 0 where
  pub at : Place
  pub is : t ≡ numeric (number at value)
  pub fits : nat_lt value (2 ^ bits) ≡ true

-- A number that isn't constant has its width.
pub record IsNumber (c : Context) (bits : ℕ) (t : ValueTree) : Type 0 where
  pub tree : NumTree
  pub is : t ≡ numeric tree
  pub width : width_of tree ≡ Some bits
  pub varies : varies tree ≡ true
  pub well : well_part c tree ≡ true

pub record IsCondition (c : Context) (t : ValueTree) : Type 0 where
  pub tree : CondTree
  pub is : t ≡ logical tree
  pub well : well_cond c tree ≡ true

pub record IsStatus (c : Context) (t : ValueTree) : Type 0 where
  pub tree : StatusTree
  pub is : t ≡ state tree
  pub well : well_status c tree ≡ true

pub record IsSlice (c : Context) (bits : ℕ) (t : ValueTree) : Type 0 where
  pub tree : SliceTree
  pub is : t ≡ elements tree
  pub width : (element_type tree).bits ≡ bits
  pub well : well_slice c tree ≡ true

-- The tree is one of the meaning. What is no value stands in no expression.
abbrev pub HasMeaning : Context → Meaning → ValueTree → Type 0
HasMeaning c (meanings.Constant width value) t = IsConstant (bits_in width) value t
HasMeaning c (meanings.Typed (types.Num width lo hi)) t = IsNumber c (bits_of width) t
HasMeaning c (meanings.Typed types.Flag) t = IsCondition c t
HasMeaning c (meanings.Typed types.Status) t = IsStatus c t
HasMeaning c (meanings.Typed (types.Slice width)) t = IsSlice c (bits_of width) t
HasMeaning c m t = ⊥

-- The numbers of a type lie in its width, and a reader or writer is an argument.
abbrev pub IsSound : Path → Ty → Type 0
IsSound path (types.Num width lo hi) = is_range (record { bits = bits_of width; low = lo; high = hi }) ≡ true
IsSound path (types.Array width lo hi count) = is_range (record { bits = bits_of width; low = lo; high = hi }) ≡ true
IsSound path types.Reader = (n : ℕ) × (path ≡ arg n)
IsSound path types.Writer = (n : ℕ) × (path ≡ arg n)
IsSound path ty = ⊤

-- The kind of value that base methods see in a meaning.
abbrev pub kind_of_type : Ty → Option Kind
kind_of_type types.Reader = Some kinds.Reader
kind_of_type types.Writer = Some kinds.Writer
kind_of_type types.Status = Some kinds.Status
kind_of_type (types.Slice width) = Some (kinds.Slice width)
kind_of_type (types.Array width lo hi count) = Some (kinds.Array width)
kind_of_type ty = None

abbrev pub kind_meant : Meaning → Option Kind
kind_meant (meanings.Constant width value) = None
kind_meant (meanings.Typed ty) = kind_of_type ty

-- What stands round a resolved expression, for its names and for its types, is what stands round the typed tree: each
-- variable has its type there, each constant lies in its width, and each status is there.
pub record Agree (names : NamedScope) (s : Setting) (c : Context) : Type 0 where
  pub declared : (x : Variable) (ty : Ty) → variable s x ≡ Some (meanings.Typed ty) → type_at c (path_to x) ≡ Some ty
  pub sound : (x : Variable) (ty : Ty) → variable s x ≡ Some (meanings.Typed ty) → IsSound (path_to x) ty
  pub constant : (x : Variable) (width : Option Width) (value : ℕ) → variable s x ≡ Some (meanings.Constant width value) → nat_lt value (2 ^ bits_in width) ≡ true
  pub told : (n : ℕ) → nat_lt n (10 + length names.within.statuses) ≡ true → is_some (slice_get c.within.statuses n) ≡ true
  pub kinds : (x : Variable) (m : Meaning) (k : Kind) → variable s x ≡ Some m → has_kind k (option_and_then kind_of (type_of_variable names x)) ≡ true
      → has_kind k (kind_meant m) ≡ true
