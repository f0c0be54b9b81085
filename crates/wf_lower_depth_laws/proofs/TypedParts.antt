-- How deep the parts of a typed tree stand inside one another, by what they are made of.
use Rattle.std.proofs.Common.{◌≡◌, ℕ, ◌+◌, ◌-◌, ◌*◌, ◌≤◌, Bool, true, false, ◌&&◌, List, [], ◌∷◌, Option, Some, None, refl, sym, subst, arith, nat_eq}
use Rattle.std.specs.Prelude.{nat_le, if◌then◌else◌}
use Rattle.std.specs.List.{list_all, AllByRecursion}
use Rattle.wf_text.specs.declared.place.Place.{Place}
use Rattle.wf_base.specs.declared.base_methods.BaseSig.{BaseSig}
use Rattle.wf_base.specs.declared.base_methods.BaseSig.TheVariants as sigs
use Rattle.wf_ast.specs.declared.operators.Op.{Op}
use Rattle.wf_ast.specs.declared.operators.Op.TheVariants as ops
use Rattle.wf_ast.specs.declared.types.Ty.{Ty}
use Rattle.wf_ast.specs.declared.types.Ty.TheVariants as types
use Rattle.wf_ast.specs.Same.{same_arith, arith_number}
use Rattle.wf_ast.specs.TypedTree.{Path, local, field, arg, Arith, Order, less, at_most, equal, differs, at_least, greater, NumTree, number, read, element, link, convert, length_of, asked, slice, array, cut, status, held, no_status, CondTree, truth, flag, compare, same_status, junction, negation, closed, has_category, ValueTree, numeric, logical, state, elements, io, lost, Target}
use Rattle.wf_ast.specs.TypedTrees.{OperatorKind, arithmetic, ordering, joining, operator_kind, num_in, cond_in, slice_in, named, num_chain, cond_chain, comparison, chain_of, answer_of, target_of, base_call}
use Rattle.wf_ast.specs.OperatorForms as forms
use Rattle.wf_ast.proofs.BoolLemmas.{both, and-true}
use Rattle.wf_types_rules.specs.declared.meanings.Meaning.{Meaning}
use Rattle.wf_types_rules.specs.declared.meanings.Meaning.TheVariants as meanings
use Rattle.wf_types_rules.specs.declared.settings.Setting.{Setting}
use Rattle.wf_types_rules.specs.Meanings.{variable}
use Rattle.wf_named.specs.declared.nodes.NamedPath.{NamedPath}
use Rattle.wf_named.specs.declared.nodes.Variable.{Variable}
use Rattle.wf_typed_tree.specs.ElaboratedExprs.{path_to, variable_tree, path_tree, number_or}
use Rattle.wf_typed_tree.proofs.NumberLemmas.{same-self}
use Rattle.wf_lower_laws.specs.BracketLaw.{repeats, goes_on, cond_goes_on, num_within, slice_within, cond_within, value_within, target_within, simple_within}
use Rattle.wf_lower_depth_laws.specs.WrittenDepth.{Spot, alone, beside_sign, behind_not}
use Rattle.wf_lower_depth_laws.proofs.Room.{one_left}

-- Numbers and slices have at most n parts inside one another, and conditions c.
abbrev pub within : (n c : ℕ) → ValueTree → Bool
within n c (numeric t) = num_within n t
within n c (logical t) = cond_within c t
within n c (elements t) = slice_within n t
within n c t = true

-- How many there may be where r brackets may still be opened: two for each, and before the first one an operator and a `not` where they
-- have no brackets of their own. What stands for a condition and is none is one part more.
abbrev pub num_levels : Spot → (r : ℕ) → ℕ
num_levels alone r = 2 * r + 1
num_levels beside_sign r = 2 * r
num_levels behind_not r = 2 * r

abbrev pub cond_levels : Spot → (r : ℕ) → ℕ
cond_levels alone r = 2 * r + 3
cond_levels beside_sign r = 2 * r + 2
cond_levels behind_not r = 2 * r + 1

abbrev pub IsWithin : Spot → (r : ℕ) → ValueTree → Type 0
IsWithin spot r v = (n c : ℕ) → num_levels spot r ≤ n → cond_levels spot r ≤ c → within n c v ≡ true

-- ---- values of a kind

pub num_of : (n c : ℕ) (v : ValueTree) → within n c v ≡ true → num_within n (num_in v) ≡ true
num_of n c (numeric t) h = h
num_of n c (logical t) h = refl
num_of n c (state t) h = refl
num_of n c (elements t) h = refl
num_of n c (io at a) h = refl
num_of n c lost h = refl

pub slice_of : (n c : ℕ) (v : ValueTree) → within n c v ≡ true → slice_within n (slice_in v) ≡ true
slice_of n c (numeric t) h = refl
slice_of n c (logical t) h = refl
slice_of n c (state t) h = refl
slice_of n c (elements t) h = h
slice_of n c (io at a) h = refl
slice_of n c lost h = refl

-- What is no condition stands as a comparison.
pub cond_of : (n c : ℕ) (v : ValueTree) → 1 ≤ c → within n c v ≡ true → cond_within c (cond_in v) ≡ true
cond_of n c (numeric t) l h = and-true (nat_le 1 c) true (one_left c l) refl
cond_of n c (logical t) l h = h
cond_of n c (state t) l h = and-true (nat_le 1 c) true (one_left c l) refl
cond_of n c (elements t) l h = and-true (nat_le 1 c) true (one_left c l) refl
cond_of n c (io at a) l h = and-true (nat_le 1 c) true (one_left c l) refl
cond_of n c lost l h = and-true (nat_le 1 c) true (one_left c l) refl

pub value_of : (d : ℕ) (v : ValueTree) → within d d v ≡ true → value_within d v ≡ true
value_of d (numeric t) h = h
value_of d (logical t) h = h
value_of d (state t) h = refl
value_of d (elements t) h = h
value_of d (io at a) h = refl
value_of d lost h = refl

pub within_value : (d : ℕ) (v : ValueTree) → value_within d v ≡ true → within d d v ≡ true
within_value d (numeric t) h = h
within_value d (logical t) h = h
within_value d (state t) h = refl
within_value d (elements t) h = h
within_value d (io at a) h = refl
within_value d lost h = refl

pub target_of_value : (n c : ℕ) (v : ValueTree) → within n c v ≡ true → target_within n (target_of v) ≡ true
target_of_value n c (numeric (number at value)) h = refl
target_of_value n c (numeric (read at of path)) h = refl
target_of_value n c (numeric (element at of cells index)) h = h
target_of_value n c (numeric (link at sign op bits joined a b)) h = refl
target_of_value n c (numeric (convert at sign bits a)) h = refl
target_of_value n c (numeric (length_of at cells)) h = refl
target_of_value n c (numeric (asked at question a)) h = refl
target_of_value n c (logical (truth at b)) h = refl
target_of_value n c (logical (flag at path)) h = refl
target_of_value n c (logical (compare at sign a op b)) h = refl
target_of_value n c (logical (same_status at sign a one b)) h = refl
target_of_value n c (logical (junction at both joined a b)) h = refl
target_of_value n c (logical (negation at a)) h = refl
target_of_value n c (logical (closed at a)) h = refl
target_of_value n c (logical (has_category at t category)) h = refl
target_of_value n c (state (status at s)) h = refl
target_of_value n c (state (held at path)) h = refl
target_of_value n c (state no_status) h = refl
target_of_value n c (elements (slice at bits path)) h = refl
target_of_value n c (elements (array at of count path)) h = refl
target_of_value n c (elements (cut at cells from to)) h = refl
target_of_value n c (io at a) h = refl
target_of_value n c lost h = refl

-- ---- variables and constants

named_within : (n c : ℕ) (at : Place) (ty : Ty) (path : Path) → within n c (named at ty path) ≡ true
named_within n c at (types.Num width lo hi) path = refl
named_within n c at types.Flag path = refl
named_within n c at types.Status path = refl
named_within n c at types.Reader (local x) = refl
named_within n c at types.Reader (field x) = refl
named_within n c at types.Reader (arg x) = refl
named_within n c at types.Writer (local x) = refl
named_within n c at types.Writer (field x) = refl
named_within n c at types.Writer (arg x) = refl
named_within n c at (types.Slice width) path = refl
named_within n c at (types.Array width lo hi count) path = refl
named_within n c at (types.Part s) path = refl

variable_within : (n c : ℕ) (at : Place) (x : Variable) (m : Option Meaning) → within n c (variable_tree at x m) ≡ true
variable_within n c at x None = refl
variable_within n c at x (Some (meanings.Typed ty)) = named_within n c at ty (path_to x)
variable_within n c at x (Some (meanings.Constant width value)) = refl

pub path_within : (s : Setting) (p : NamedPath) (n c : ℕ) → within n c (path_tree s p) ≡ true
path_within s p n c = variable_within n c p.at p.of (variable s p.of)

pub number_or_within : (n c : ℕ) (at : Place) (o : Option ℕ) (v : ValueTree) → within n c v ≡ true → within n c (number_or at o v) ≡ true
number_or_within n c at None v h = h
number_or_within n c at (Some value) v h = refl

-- ---- chains

-- Where there are more than two operands, the operator may stand in a row.
abbrev sort_repeats : OperatorKind → Bool
sort_repeats (arithmetic op) = repeats op
sort_repeats (ordering op) = true
sort_repeats (joining both) = true

abbrev pub MayRepeat : OperatorKind → List ValueTree → Type 0
MayRepeat sort [] = Unit {0}
MayRepeat sort (t ∷ []) = Unit {0}
MayRepeat sort (t ∷ u ∷ ts) = sort_repeats sort ≡ true

pub op_repeats : (op : Op) → forms.repeats op ≡ true → sort_repeats (operator_kind op) ≡ true
op_repeats ops.Add h = refl
op_repeats ops.Mul h = refl
op_repeats ops.BitAnd h = refl
op_repeats ops.BitOr h = refl
op_repeats ops.BitXor h = refl
op_repeats ops.And h = refl
op_repeats ops.Or h = refl
op_repeats ops.Sub h = absurd (cc h)
op_repeats ops.Div h = absurd (cc h)
op_repeats ops.Rem h = absurd (cc h)
op_repeats ops.Shl h = absurd (cc h)
op_repeats ops.Shr h = absurd (cc h)
op_repeats ops.Same h = refl
op_repeats ops.Differs h = refl
op_repeats ops.Less h = refl
op_repeats ops.LessOrSame h = refl
op_repeats ops.Greater h = refl
op_repeats ops.GreaterOrSame h = refl
op_repeats ops.ModAdd h = absurd (cc h)
op_repeats ops.ModSub h = absurd (cc h)
op_repeats ops.ModMul h = absurd (cc h)
op_repeats ops.ModShl h = absurd (cc h)
op_repeats ops.SatAdd h = absurd (cc h)
op_repeats ops.SatSub h = absurd (cc h)

-- Operands beside signs, where r brackets may still be opened.
abbrev pub Operands : (r : ℕ) → List ValueTree → Type 0
Operands r ts = AllByRecursion (IsWithin beside_sign r) ts

module _ (r : ℕ) where
  num_operand : (n : ℕ) (t : ValueTree) → 2 * r ≤ n → IsWithin beside_sign r t → num_within n (num_in t) ≡ true
  num_operand n t l h = num_of n (2 * r + 2) t (h n (2 * r + 2) l (omega arith))

  cond_operand : (c : ℕ) (t : ValueTree) → 2 * r + 2 ≤ c → IsWithin beside_sign r t → cond_within c (cond_in t) ≡ true
  cond_operand c t l h = cond_of (2 * r) c t (omega (arith, l)) (h (2 * r) c (omega arith) l)

  -- Numbers.
  goes_further : (op : Arith) (bits : ℕ) (at sign : Place) (joined : Bool) (a b : NumTree) → repeats op ≡ true → goes_on op bits (link at sign op bits joined a b) ≡ true
  goes_further op bits at sign joined a b k = and-true (repeats op) (same_arith op op && nat_eq bits bits) k (and-true (same_arith op op) (nat_eq bits bits) (same-self (arith_number op)) (same-self bits))

  first_link : (op : Arith) (bits : ℕ) (at sign : Place) (a t : ValueTree) (n : ℕ) → 2 * r + 1 ≤ n → IsWithin beside_sign r a → IsWithin beside_sign r t
      → num_within n (link at sign op bits false (num_in a) (num_in t)) ≡ true
  first_link op bits at sign a t n l h k =
      and-true (nat_le 1 n) (num_within (n - 1) (num_in a) && num_within (n - 1) (num_in t)) (one_left n (omega (arith, l)))
      (and-true (num_within (n - 1) (num_in a)) (num_within (n - 1) (num_in t)) (num_operand (n - 1) a (omega (arith, l)) h) (num_operand (n - 1) t (omega (arith, l)) k))

  next_link : (op : Arith) (bits : ℕ) (at sign : Place) (a : NumTree) (t : ValueTree) (n : ℕ) → 2 * r + 1 ≤ n → goes_on op bits a ≡ true → num_within n a ≡ true → IsWithin beside_sign r t
      → num_within n (link at sign op bits true a (num_in t)) ≡ true
  next_link op bits at sign a t n l g h k =
      let P : Bool → Type 0 = λ b. num_within (if b then n else n - 1) a ≡ true in
      and-true (nat_le 1 n) (num_within (if goes_on op bits a then n else n - 1) a && num_within (n - 1) (num_in t)) (one_left n (omega (arith, l)))
      (and-true (num_within (if goes_on op bits a then n else n - 1) a) (num_within (n - 1) (num_in t)) (subst P (sym g) h) (num_operand (n - 1) t (omega (arith, l)) k))

  numbers_further : (op : Arith) (bits : ℕ) (at : Place) (a : NumTree) (ts : List ValueTree) (signs : List Place) (n : ℕ) → repeats op ≡ true → 2 * r + 1 ≤ n
      → goes_on op bits a ≡ true → num_within n a ≡ true → Operands r ts → num_within n (num_chain at op bits true a ts signs) ≡ true
  numbers_further op bits at a [] signs n k l g h o = h
  numbers_further op bits at a (t ∷ ts) [] n k l g h o =
      numbers_further op bits at (link at at op bits true a (num_in t)) ts [] n k l (goes_further op bits at at true a (num_in t) k) (next_link op bits at at a t n l g h o.0) o.1
  numbers_further op bits at a (t ∷ ts) (sign ∷ signs) n k l g h o =
      numbers_further op bits at (link at sign op bits true a (num_in t)) ts signs n k l (goes_further op bits at sign true a (num_in t) k) (next_link op bits at sign a t n l g h o.0) o.1

  numbers_within : (op : Arith) (bits : ℕ) (at : Place) (a : ValueTree) (ts : List ValueTree) (signs : List Place) (n : ℕ) → 2 * r + 1 ≤ n
      → IsWithin beside_sign r a → Operands r ts → MayRepeat (arithmetic op) ts → num_within n (num_chain at op bits false (num_in a) ts signs) ≡ true
  numbers_within op bits at a [] signs n l h o k = num_operand n a (omega (arith, l)) h
  numbers_within op bits at a (t ∷ []) [] n l h o k = first_link op bits at at a t n l h o.0
  numbers_within op bits at a (t ∷ []) (sign ∷ signs) n l h o k = first_link op bits at sign a t n l h o.0
  numbers_within op bits at a (t ∷ u ∷ ts) [] n l h o k =
      numbers_further op bits at (link at at op bits false (num_in a) (num_in t)) (u ∷ ts) [] n k l (goes_further op bits at at false (num_in a) (num_in t) k) (first_link op bits at at a t n l h o.0) o.1
  numbers_within op bits at a (t ∷ u ∷ ts) (sign ∷ signs) n l h o k =
      numbers_further op bits at (link at sign op bits false (num_in a) (num_in t)) (u ∷ ts) signs n k l (goes_further op bits at sign false (num_in a) (num_in t) k) (first_link op bits at sign a t n l h o.0) o.1

  -- Conditions.
  cond_goes_further : (both_hold joined : Bool) (at : Place) (a b : CondTree) → cond_goes_on both_hold (junction at both_hold joined a b) ≡ true
  cond_goes_further true joined at a b = refl
  cond_goes_further false joined at a b = refl

  first_junction : (both_hold : Bool) (at : Place) (a t : ValueTree) (c : ℕ) → 2 * r + 3 ≤ c → IsWithin beside_sign r a → IsWithin beside_sign r t
      → cond_within c (junction at both_hold false (cond_in a) (cond_in t)) ≡ true
  first_junction both_hold at a t c l h k =
      and-true (nat_le 1 c) (cond_within (c - 1) (cond_in a) && cond_within (c - 1) (cond_in t)) (one_left c (omega (arith, l)))
      (and-true (cond_within (c - 1) (cond_in a)) (cond_within (c - 1) (cond_in t)) (cond_operand (c - 1) a (omega (arith, l)) h) (cond_operand (c - 1) t (omega (arith, l)) k))

  next_junction : (both_hold : Bool) (at : Place) (a : CondTree) (t : ValueTree) (c : ℕ) → 2 * r + 3 ≤ c → cond_goes_on both_hold a ≡ true → cond_within c a ≡ true → IsWithin beside_sign r t
      → cond_within c (junction at both_hold true a (cond_in t)) ≡ true
  next_junction both_hold at a t c l g h k =
      let P : Bool → Type 0 = λ b. cond_within (if b then c else c - 1) a ≡ true in
      and-true (nat_le 1 c) (cond_within (if cond_goes_on both_hold a then c else c - 1) a && cond_within (c - 1) (cond_in t)) (one_left c (omega (arith, l)))
      (and-true (cond_within (if cond_goes_on both_hold a then c else c - 1) a) (cond_within (c - 1) (cond_in t)) (subst P (sym g) h) (cond_operand (c - 1) t (omega (arith, l)) k))

  conds_further : (both_hold : Bool) (at : Place) (a : CondTree) (ts : List ValueTree) (c : ℕ) → 2 * r + 3 ≤ c → cond_goes_on both_hold a ≡ true → cond_within c a ≡ true → Operands r ts
      → cond_within c (cond_chain at both_hold true a ts) ≡ true
  conds_further both_hold at a [] c l g h o = h
  conds_further both_hold at a (t ∷ ts) c l g h o =
      conds_further both_hold at (junction at both_hold true a (cond_in t)) ts c l (cond_goes_further both_hold true at a (cond_in t)) (next_junction both_hold at a t c l g h o.0) o.1

  conds_within : (both_hold : Bool) (at : Place) (a : ValueTree) (ts : List ValueTree) (c : ℕ) → 2 * r + 3 ≤ c → IsWithin beside_sign r a → Operands r ts
      → cond_within c (cond_chain at both_hold false (cond_in a) ts) ≡ true
  conds_within both_hold at a [] c l h o = cond_operand c a (omega (arith, l)) h
  conds_within both_hold at a (t ∷ ts) c l h o =
      conds_further both_hold at (junction at both_hold false (cond_in a) (cond_in t)) ts c l (cond_goes_further both_hold false at (cond_in a) (cond_in t)) (first_junction both_hold at a t c l h o.0) o.1

  -- Comparisons.
  compared : (at sign : Place) (op : Order) (a b : ValueTree) (c : ℕ) → 2 * r + 3 ≤ c → IsWithin beside_sign r a → IsWithin beside_sign r b → cond_within c (compare at sign (num_in a) op (num_in b)) ≡ true
  compared at sign op a b c l h k =
      and-true (nat_le 1 c) (num_within (c - 1) (num_in a) && num_within (c - 1) (num_in b)) (one_left c (omega (arith, l)))
      (and-true (num_within (c - 1) (num_in a)) (num_within (c - 1) (num_in b)) (num_operand (c - 1) a (omega (arith, l)) h) (num_operand (c - 1) b (omega (arith, l)) k))

  comparison_within : (at sign : Place) (op : Order) (a b : ValueTree) (n c : ℕ) → 2 * r + 3 ≤ c → IsWithin beside_sign r a → IsWithin beside_sign r b → within n c (comparison at sign op a b) ≡ true
  comparison_within at sign equal (state t) b n c l h k = refl
  comparison_within at sign equal (numeric t) b n c l h k = compared at sign equal (numeric t) b c l h k
  comparison_within at sign equal (logical t) b n c l h k = compared at sign equal (logical t) b c l h k
  comparison_within at sign equal (elements t) b n c l h k = compared at sign equal (elements t) b c l h k
  comparison_within at sign equal (io place a) b n c l h k = compared at sign equal (io place a) b c l h k
  comparison_within at sign equal lost b n c l h k = compared at sign equal lost b c l h k
  comparison_within at sign differs (state t) b n c l h k = refl
  comparison_within at sign differs (numeric t) b n c l h k = compared at sign differs (numeric t) b c l h k
  comparison_within at sign differs (logical t) b n c l h k = compared at sign differs (logical t) b c l h k
  comparison_within at sign differs (elements t) b n c l h k = compared at sign differs (elements t) b c l h k
  comparison_within at sign differs (io place a) b n c l h k = compared at sign differs (io place a) b c l h k
  comparison_within at sign differs lost b n c l h k = compared at sign differs lost b c l h k
  comparison_within at sign less a b n c l h k = compared at sign less a b c l h k
  comparison_within at sign at_most a b n c l h k = compared at sign at_most a b c l h k
  comparison_within at sign at_least a b n c l h k = compared at sign at_least a b c l h k
  comparison_within at sign greater a b n c l h k = compared at sign greater a b c l h k

  pub chain_within : (at : Place) (signs : List Place) (ty : Ty) (sort : OperatorKind) (a : ValueTree) (ts : List ValueTree) (n c : ℕ) → 2 * r + 1 ≤ n → 2 * r + 3 ≤ c
      → IsWithin beside_sign r a → Operands r ts → MayRepeat sort ts → within n c (chain_of at signs ty sort (a ∷ ts)) ≡ true
  chain_within at signs ty (arithmetic op) a ts n c l m h o k = numbers_within op _ at a ts signs n l h o k
  chain_within at signs ty (joining both_hold) a ts n c l m h o k = conds_within both_hold at a ts c m h o
  chain_within at signs ty (ordering op) a [] n c l m h o k = refl
  chain_within at signs ty (ordering op) a (u ∷ ts) n c l m h o k = comparison_within at _ op a u n c m h o.0

-- ---- base methods

pub answer_within : (at : Place) (sig : BaseSig) (t : ValueTree) (n c : ℕ) → slice_within n (slice_in t) ≡ true → within n c (answer_of at sig t) ≡ true
answer_within at sigs.ReaderLength t n c h = refl
answer_within at sigs.ReaderIsClosed t n c h = refl
answer_within at sigs.ReaderPosition t n c h = refl
answer_within at (sigs.Read form) t n c h = refl
answer_within at sigs.Skip t n c h = refl
answer_within at (sigs.Peek form) t n c h = refl
answer_within at sigs.SkipFast t n c h = refl
answer_within at sigs.WriterLength t n c h = refl
answer_within at sigs.WriterPosition t n c h = refl
answer_within at sigs.Write t n c h = refl
answer_within at sigs.WriteFast t n c h = refl
answer_within at sigs.WriterCopy t n c h = refl
answer_within at (sigs.SliceCopy width) t n c h = refl
answer_within at (sigs.SliceLength width) t n c h = h
answer_within at (sigs.ArrayLength width) t n c h = h
answer_within at sigs.IsOk t n c h = refl
answer_within at sigs.IsNote t n c h = refl
answer_within at sigs.IsSuspension t n c h = refl
answer_within at sigs.IsError t n c h = refl

abbrev pub AllWithin : ℕ → List ValueTree → Type 0
AllWithin d ts = list_all (value_within d) ts ≡ true

num_arg : (d : ℕ) (t : ValueTree) → value_within d t ≡ true → num_within d (num_in t) ≡ true
num_arg d t h = num_of d d t (within_value d t h)

slice_arg : (d : ℕ) (t : ValueTree) → value_within d t ≡ true → slice_within d (slice_in t) ≡ true
slice_arg d t h = slice_of d d t (within_value d t h)

pub base_call_within : (d : ℕ) (at : Place) (target : Target) (on : ValueTree) (sig : BaseSig) (args : List ValueTree) → target_within d target ≡ true → slice_within d (slice_in on) ≡ true → AllWithin d args
    → simple_within d (base_call at target on sig args) ≡ true
base_call_within d at target on (sigs.Read form) [] h k a = and-true (target_within d target) true h refl
base_call_within d at target on (sigs.Read form) (t ∷ ts) h k a = refl
base_call_within d at target on sigs.Skip [] h k a = refl
base_call_within d at target on sigs.Skip (t ∷ []) h k a =
    and-true (target_within d target) (num_within d (num_in t)) h (num_arg d t (both (value_within d t) true a).0)
base_call_within d at target on sigs.Skip (t ∷ u ∷ ts) h k a = refl
base_call_within d at target on sigs.Write [] h k a = refl
base_call_within d at target on sigs.Write (t ∷ []) h k a =
    and-true (target_within d target) (num_within d (num_in t)) h (num_arg d t (both (value_within d t) true a).0)
base_call_within d at target on sigs.Write (t ∷ u ∷ ts) h k a = refl
base_call_within d at target on sigs.SkipFast [] h k a = refl
base_call_within d at target on sigs.SkipFast (t ∷ []) h k a = refl
base_call_within d at target on sigs.SkipFast (t ∷ u ∷ []) h k a =
    and-true (target_within d target) (num_within d (num_in t)) h (num_arg d t (both (value_within d t) (value_within d u && true) a).0)
base_call_within d at target on sigs.SkipFast (t ∷ u ∷ v ∷ ts) h k a = refl
base_call_within d at target on sigs.WriteFast [] h k a = refl
base_call_within d at target on sigs.WriteFast (t ∷ []) h k a =
    and-true (target_within d target) (num_within d (num_in t)) h (num_arg d t (both (value_within d t) true a).0)
base_call_within d at target on sigs.WriteFast (t ∷ u ∷ ts) h k a = refl
base_call_within d at target on sigs.WriterCopy [] h k a = refl
base_call_within d at target on sigs.WriterCopy (t ∷ []) h k a =
    and-true (target_within d target) (slice_within d (slice_in t)) h (slice_arg d t (both (value_within d t) true a).0)
base_call_within d at target on sigs.WriterCopy (t ∷ u ∷ ts) h k a = refl
base_call_within d at target on (sigs.SliceCopy width) [] h k a = refl
base_call_within d at target on (sigs.SliceCopy width) (t ∷ []) h k a =
    and-true (target_within d target) (slice_within d (slice_in on) && slice_within d (slice_in t)) h
    (and-true (slice_within d (slice_in on)) (slice_within d (slice_in t)) k (slice_arg d t (both (value_within d t) true a).0))
base_call_within d at target on (sigs.SliceCopy width) (t ∷ u ∷ ts) h k a = refl
base_call_within d at target on sigs.ReaderLength args h k a = refl
base_call_within d at target on sigs.ReaderIsClosed args h k a = refl
base_call_within d at target on sigs.ReaderPosition args h k a = refl
base_call_within d at target on (sigs.Peek form) args h k a = refl
base_call_within d at target on sigs.WriterLength args h k a = refl
base_call_within d at target on sigs.WriterPosition args h k a = refl
base_call_within d at target on (sigs.SliceLength width) args h k a = refl
base_call_within d at target on (sigs.ArrayLength width) args h k a = refl
base_call_within d at target on sigs.IsOk args h k a = refl
base_call_within d at target on sigs.IsNote args h k a = refl
base_call_within d at target on sigs.IsSuspension args h k a = refl
base_call_within d at target on sigs.IsError args h k a = refl
