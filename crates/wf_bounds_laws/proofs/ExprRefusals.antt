-- What the value of an expression demands is refused where the expression has a part.
use Rattle.std.proofs.Common.{ℕ, Bool, true, false, List, Option, None, Some, IfSome}
use Rattle.wf_text.specs.declared.place.Place.{Place}
use Rattle.wf_text.specs.declared.rules.Rule.{Rule}
use Rattle.wf_text.specs.declared.rules.Rule.TheVariants.{B1, B2, B3, B4, B5, B9}
use Rattle.wf_text.specs.declared.rules.Refusal.{Refusal}
use Rattle.wf_num.specs.declared.ranges.Range.{Range}
use Rattle.wf_ast.specs.TypedTree.{Arith, divided, remainder, shift_left, shift_right, mod_shift_left, Question, peek, NumTree, number, read, element, link, convert, length_of, asked, SliceTree, slice, array, cut, EndTree, absent, present, CondTree, truth, flag, compare, same_status, junction, negation, closed, has_category, ValueTree, numeric, logical, state, elements, io, lost}
use Rattle.wf_facts_exprs.specs.Claims.{Claim}
use Rattle.wf_facts_exprs.specs.RangeOf.{range_of}
use Rattle.wf_facts_exprs.specs.Demands.{demand, or_else, operand_demand, question_demand, ends_demand, num_refusal, slice_refusal, end_refusal, cond_refusal, value_refusal}
use Rattle.wf_bounds_laws.specs.TypedPlaces.{NumIsIn, SliceIsIn, EndIsIn, CondIsIn, ValueIsIn}

module _ (In : Place → Type 0) where
  -- A refusal, if there is one, stands in the region.
  abbrev pub RefusalIsIn : Option Refusal → Type 0
  RefusalIsIn found = IfSome found (λ r. In r.at)

  pub demand-in : (b : Bool) (rule : Rule) (at : Place) → In at → RefusalIsIn (demand b rule at)
  demand-in true rule at h = tt
  demand-in false rule at h = h

  pub or-in : (a b : Option Refusal) → RefusalIsIn a → RefusalIsIn b → RefusalIsIn (or_else a b)
  or-in None b h k = k
  or-in (Some r) b h k = h

  pub demands-in : (b c : Bool) (rule : Rule) (at : Place) → In at → RefusalIsIn (or_else (demand b rule at) (demand c rule at))
  demands-in b c rule at h = or-in (demand b rule at) (demand c rule at) (demand-in b rule at h) (demand-in c rule at h)

  operand-in : (op : Arith) (bits : ℕ) (sign : Place) (b : Range) → In sign → RefusalIsIn (operand_demand op bits sign b)
  operand-in divided bits sign b h = demand-in _ B5 sign h
  operand-in remainder bits sign b h = demand-in _ B5 sign h
  operand-in shift_left bits sign b h = demand-in _ B4 sign h
  operand-in shift_right bits sign b h = demand-in _ B4 sign h
  operand-in mod_shift_left bits sign b h = demand-in _ B4 sign h
  operand-in _ bits sign b h = tt

  question-in : (fs : List Claim) (at : Place) (question : Question) (a : ℕ) → In at → RefusalIsIn (question_demand fs at question a)
  question-in fs at (peek form) a h = demand-in _ B9 at h
  question-in fs at _ a h = tt

  ends-in : (fs : List Claim) (at : Place) (cells : SliceTree) (from to : EndTree) → In at → RefusalIsIn (ends_demand fs at cells from to)
  ends-in fs at cells absent absent h = tt
  ends-in fs at cells (present i) absent h = demand-in _ B3 at h
  ends-in fs at cells absent (present j) h = demands-in _ _ B3 at h
  ends-in fs at cells (present i) (present j) h = demands-in _ _ B3 at h

  mutual
    pub num-in : (fs : List Claim) (part : Bool) (t : NumTree) → NumIsIn In t → RefusalIsIn (num_refusal fs part t)
    num-in fs part (number at n) h = tt
    num-in fs part (read at of path) h = tt
    num-in fs part (element at of cells index) h =
        or-in (slice_refusal fs cells) _ (slice-in fs cells h.1) (or-in (num_refusal fs false index) _ (num-in fs false index h.2) (demand-in _ B2 at h.0))
    num-in fs part (link at sign op bits joined a b) h =
        or-in (num_refusal fs joined a) _ (num-in fs joined a h.2) (or-in (num_refusal fs false b) _ (num-in fs false b h.3)
        (or-in (operand_demand op bits sign (range_of fs b)) _ (operand-in op bits sign (range_of fs b) h.1) (demand-in _ B1 sign h.1)))
    num-in fs part (convert at sign bits a) h = or-in (num_refusal fs false a) _ (num-in fs false a h.2) (demand-in _ B1 sign h.1)
    num-in fs part (length_of at cells) h = slice-in fs cells h.1
    num-in fs part (asked at question a) h = question-in fs at question a h

    pub slice-in : (fs : List Claim) (t : SliceTree) → SliceIsIn In t → RefusalIsIn (slice_refusal fs t)
    slice-in fs (slice at bits path) h = tt
    slice-in fs (array at of count path) h = tt
    slice-in fs (cut at cells from to) h =
        or-in (slice_refusal fs cells) _ (slice-in fs cells h.1) (or-in (end_refusal fs from) _ (end-in fs from h.2)
        (or-in (end_refusal fs to) _ (end-in fs to h.3) (ends-in fs at cells from to h.0)))

    end-in : (fs : List Claim) (t : EndTree) → EndIsIn In t → RefusalIsIn (end_refusal fs t)
    end-in fs absent h = tt
    end-in fs (present t) h = num-in fs false t h

  pub cond-in : (fs : List Claim) (c : CondTree) → CondIsIn In c → RefusalIsIn (cond_refusal fs c)
  cond-in fs (truth at b) h = tt
  cond-in fs (flag at path) h = tt
  cond-in fs (compare at sign a op b) h = or-in (num_refusal fs false a) _ (num-in fs false a h.2) (num-in fs false b h.3)
  cond-in fs (same_status at sign a one b) h = tt
  cond-in fs (junction at both joined a b) h = or-in (cond_refusal fs a) _ (cond-in fs a h.1) (cond-in fs b h.2)
  cond-in fs (negation at a) h = cond-in fs a h.1
  cond-in fs (closed at a) h = tt
  cond-in fs (has_category at a category) h = tt

  pub value-in : (fs : List Claim) (v : ValueTree) → ValueIsIn In v → RefusalIsIn (value_refusal fs v)
  value-in fs (numeric t) h = num-in fs false t h
  value-in fs (logical c) h = cond-in fs c h
  value-in fs (state t) h = tt
  value-in fs (elements t) h = slice-in fs t h
  value-in fs (io at a) h = tt
  value-in fs lost h = tt
