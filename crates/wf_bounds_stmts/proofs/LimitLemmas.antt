-- Values that lie in a type.
use Rattle.std.proofs.Common.{◌≡◌, ℕ, true, false, List, Option, Some, None, Ok, Err, refl, ap}
use Rattle.wf_text.specs.declared.rules.Rule.{Rule}
use Rattle.wf_text.specs.declared.rules.Refusal.{Refusal}
use Rattle.wf_num.specs.declared.ranges.Range.{Range}
use Rattle.wf_base.specs.declared.widths.Width.{Width}
use Rattle.wf_base.specs.BaseTable.{bits_of}
use Rattle.wf_ast.specs.declared.types.Ty.{Ty}
use Rattle.wf_ast.specs.declared.types.Ty.TheVariants as types
use Rattle.wf_ast.specs.TypedTree.{NumType, ValueTree, numeric, logical, state, elements, io, lost}
use Rattle.wf_ast.specs.TypedTrees.{num_in}
use Rattle.wf_ast.specs.TypedInvariant.{is_numeric, is_tree_of}
use Rattle.wf_facts_exprs.specs.Claims.{Claim}
use Rattle.wf_facts_exprs.specs.RangeOf.{range_of}
use Rattle.wf_facts_exprs.specs.Demands.{demand, num_refusal, unless_refused, value_refusal}
use Rattle.wf_bounds_stmts.specs.Requirements.{lies_in, lies_refusal, number_type, place_of, range_in}

-- No number is taken.
pub takes-none : (rule : Rule) (fs : List Claim) (ty : Ty) (v : ValueTree) → is_numeric ty ≡ false → lies_refusal rule fs (number_type ty) v ≡ None
takes-none rule fs (types.Num width lo hi) v h = absurd (cc (h))
takes-none rule fs types.Flag v h = refl
takes-none rule fs types.Status v h = refl
takes-none rule fs types.Reader v h = refl
takes-none rule fs types.Writer v h = refl
takes-none rule fs (types.Slice width) v h = refl
takes-none rule fs (types.Array width lo hi count) v h = refl
takes-none rule fs (types.Part s) v h = refl

-- What isn't a number has no range.
has-none : (fs : List Claim) (ty : Ty) (v : ValueTree) → is_numeric ty ≡ false → is_tree_of ty v ≡ true → range_in fs v ≡ None
has-none fs (types.Num width lo hi) (numeric t) h k = absurd (cc (h))
has-none fs types.Flag (numeric t) h k = absurd (cc (k))
has-none fs types.Status (numeric t) h k = absurd (cc (k))
has-none fs types.Reader (numeric t) h k = absurd (cc (k))
has-none fs types.Writer (numeric t) h k = absurd (cc (k))
has-none fs (types.Slice width) (numeric t) h k = absurd (cc (k))
has-none fs (types.Array width lo hi count) (numeric t) h k = absurd (cc (k))
has-none fs (types.Part s) (numeric t) h k = absurd (cc (k))
has-none fs ty (logical c) h k = refl
has-none fs ty (state s) h k = refl
has-none fs ty (elements s) h k = refl
has-none fs ty (io at a) h k = refl
has-none fs ty lost h k = refl

pub no-range : (fs : List Claim) (ty ty' : Ty) (v : ValueTree) → ty ≡ ty' → is_numeric ty ≡ false → is_tree_of ty' v ≡ true → range_in fs v ≡ None
no-range fs ty ty' v e h k = has-none fs ty' v (rw e at h) k

-- A number has its range and its own demands.
is-number : (ty : Ty) (v : ValueTree) → is_numeric ty ≡ true → is_tree_of ty v ≡ true → v ≡ numeric (num_in v)
is-number ty (numeric t) h k = refl
is-number (types.Num w a b) (logical c) h k = absurd (cc (k))
is-number (types.Num w a b) (state c) h k = absurd (cc (k))
is-number (types.Num w a b) (elements c) h k = absurd (cc (k))
is-number (types.Num w a b) (io at c) h k = absurd (cc (k))
is-number (types.Num w a b) lost h k = absurd (cc (k))
is-number types.Flag v h k = absurd (cc (h))
is-number types.Status v h k = absurd (cc (h))
is-number types.Reader v h k = absurd (cc (h))
is-number types.Writer v h k = absurd (cc (h))
is-number (types.Slice w) v h k = absurd (cc (h))
is-number (types.Array w a b n) v h k = absurd (cc (h))
is-number (types.Part s) v h k = absurd (cc (h))

pub number-range : (fs : List Claim) (ty ty' : Ty) (v : ValueTree) → ty ≡ ty' → is_numeric ty ≡ true → is_tree_of ty' v ≡ true
    → (range_in fs v ≡ Some (range_of fs (num_in v))) × (value_refusal fs v ≡ num_refusal fs false (num_in v))
number-range fs ty ty' v e h k =
    let it = is-number ty' v (rw e at h) k in (ap (range_in fs) it, ap (value_refusal fs) it)

-- What has no range isn't asked to lie in a type.
pub asks-none : (rule : Rule) (fs : List Claim) (of : Option NumType) (v : ValueTree) → range_in fs v ≡ None → lies_refusal rule fs of v ≡ None
asks-none rule fs None v h = refl
asks-none rule fs (Some of) (numeric t) h = absurd (cc (h))
asks-none rule fs (Some of) (logical c) h = refl
asks-none rule fs (Some of) (state s) h = refl
asks-none rule fs (Some of) (elements s) h = refl
asks-none rule fs (Some of) (io at a) h = refl
asks-none rule fs (Some of) lost h = refl

-- A number lies in the type, or is refused.
pub lies-is : (rule : Rule) (fs : List Claim) (width : Width) (lo hi : ℕ) (ty : Ty) (v : ValueTree) (r : Range) → ty ≡ types.Num width lo hi
    → Some r ≡ range_in fs v → lies_refusal rule fs (number_type ty) v ≡ demand (lies_in (record { bits = bits_of width; low = lo; high = hi }) r) rule (place_of v)
lies-is rule fs width lo hi ty (numeric t) r h k = let e : r ≡ range_of fs t = cc (k) in rw (h, e) refl
lies-is rule fs width lo hi ty (logical c) r h k = absurd (cc (k))
lies-is rule fs width lo hi ty (state c) r h k = absurd (cc (k))
lies-is rule fs width lo hi ty (elements c) r h k = absurd (cc (k))
lies-is rule fs width lo hi ty (io at c) r h k = absurd (cc (k))
lies-is rule fs width lo hi ty lost r h k = absurd (cc (k))

-- What is answered with a range.
pub range-passes : (p q : Option Refusal) (r s : Range) (o : Option Range) → q ≡ p → o ≡ Some s → unless_refused p s ≡ Ok r → Ok (Some r) ≡ unless_refused q o
range-passes None q r s o h k e = let same : s ≡ r = cc (e) in rw (h, k, same) refl
range-passes (Some p) q r s o h k e = absurd (cc (e))

pub range-refused : (p q : Option Refusal) (s : Range) (o : Option Range) (found : Refusal) → q ≡ p → unless_refused p s ≡ Err found → Err found ≡ unless_refused q o
range-refused None q s o found h e = absurd (cc (e))
range-refused (Some p) q s o found h e = let same : p ≡ found = cc (e) in rw (h, same) refl

pub none-passes : (p : Option Refusal) (o : Option Range) → o ≡ None → unless_refused p (tt {0}) ≡ Ok (tt {0}) → Ok None ≡ unless_refused p o
none-passes None o h e = rw h refl
none-passes (Some p) o h e = absurd (cc (e))

pub none-refused : (p : Option Refusal) (o : Option Range) (found : Refusal) → unless_refused p (tt {0}) ≡ Err found → Err found ≡ unless_refused p o
none-refused None o found e = absurd (cc (e))
none-refused (Some p) o found e = let same : p ≡ found = cc (e) in rw same refl

pub was-checked : (p : Option Refusal) (o range : Option Range) → unless_refused p o ≡ Ok range → (p ≡ None) × (range ≡ o)
was-checked None o range e = (refl, cc (e))
was-checked (Some p) o range e = absurd (cc (e))
