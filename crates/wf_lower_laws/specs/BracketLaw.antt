-- How deep brackets stand inside one another, in a package and in its text.
use Rattle.std.specs.Prelude.{◌≡◌, ℕ, ◌-◌, Bool, true, false, ◌&&◌, Some, if◌then◌else◌, nat_eq, nat_le}
use Rattle.std.specs.List.{list_all}
use Rattle.wf_ast.specs.TypedTree.{Arith, plus, times, bits_and, bits_or, bits_xor, NumTree, number, read, element, link, convert, length_of, asked, SliceTree, slice, array, cut, EndTree, absent, present, CondTree, truth, flag, compare, same_status, junction, negation, closed, has_category, ValueTree, numeric, logical, elements, Target, to_element, Awaited, skip, write, Written, skip_fast, write_fast, copy_to_writer, copy_to_slice, Simple, assign, await, perform, invoke, give_back, Block, end, plain, choose, loop}
use Rattle.wf_ast.specs.TypedPackage.{PackageTree}
use Rattle.wf_ast.specs.Same.{same_arith}
use Rattle.c_text.specs.CGrammar.{unit_tokens}
use Rattle.c_read_grammar.specs.Outcomes.{IsShallow}
use Rattle.wf_lower.specs.Unit.{lowered_unit}

-- Operators that may repeat without brackets.
abbrev pub repeats : Arith → Bool
repeats plus = true
repeats times = true
repeats bits_and = true
repeats bits_or = true
repeats bits_xor = true
repeats op = false

-- What stands left of an operator goes on with it, so it is no part in brackets.
abbrev pub goes_on : Arith → (bits : ℕ) → NumTree → Bool
goes_on op bits (link at sign own own_bits joined a b) = repeats op && (same_arith op own && nat_eq bits own_bits)
goes_on op bits t = false

abbrev pub cond_goes_on : (both : Bool) → CondTree → Bool
cond_goes_on true (junction at true joined a b) = true
cond_goes_on false (junction at false joined a b) = true
cond_goes_on both t = false

-- So many expressions at most stand inside one another, each but the outermost in brackets of its own.
abbrev mutual
  pub num_within : ℕ → NumTree → Bool
  num_within d (number at n) = true
  num_within d (read at of path) = true
  num_within d (element at of cells index) = nat_le 1 d && (slice_within (d - 1) cells && num_within (d - 1) index)
  num_within d (link at sign op bits joined a b) = nat_le 1 d && (num_within (if joined && goes_on op bits a then d else d - 1) a && num_within (d - 1) b)
  num_within d (convert at sign bits a) = nat_le 1 d && num_within (d - 1) a
  num_within d (length_of at cells) = slice_within d cells
  num_within d (asked at question a) = true

  pub slice_within : ℕ → SliceTree → Bool
  slice_within d (slice at bits path) = true
  slice_within d (array at of count path) = true
  slice_within d (cut at cells from to) = nat_le 1 d && (slice_within (d - 1) cells && (end_within (d - 1) from && end_within (d - 1) to))

  pub end_within : ℕ → EndTree → Bool
  end_within d absent = true
  end_within d (present e) = num_within d e

abbrev pub cond_within : ℕ → CondTree → Bool
cond_within d (truth at b) = true
cond_within d (flag at path) = true
cond_within d (compare at sign a op b) = nat_le 1 d && (num_within (d - 1) a && num_within (d - 1) b)
cond_within d (same_status at sign a one b) = true
cond_within d (junction at both joined a b) = nat_le 1 d && (cond_within (if joined && cond_goes_on both a then d else d - 1) a && cond_within (d - 1) b)
cond_within d (negation at a) = nat_le 1 d && cond_within (d - 1) a
cond_within d (closed at a) = true
cond_within d (has_category at t category) = true

abbrev pub value_within : ℕ → ValueTree → Bool
value_within d (numeric t) = num_within d t
value_within d (logical t) = cond_within d t
value_within d (elements t) = slice_within d t
value_within d t = true

abbrev pub target_within : ℕ → Target → Bool
target_within d (to_element at of cells index) = nat_le 1 d && (slice_within (d - 1) cells && num_within (d - 1) index)
target_within d target = true

abbrev pub awaited_within : ℕ → Awaited → Bool
awaited_within d (skip n) = num_within d n
awaited_within d (write b) = num_within d b
awaited_within d call = true

abbrev pub written_within : ℕ → Written → Bool
written_within d (skip_fast a actual worst_case) = num_within d actual
written_within d (write_fast a b) = num_within d b
written_within d (copy_to_writer a source) = slice_within d source
written_within d (copy_to_slice to source) = slice_within d to && slice_within d source

abbrev pub simple_within : ℕ → Simple → Bool
simple_within d (assign target op value) = target_within d target && value_within d value
simple_within d (await at target a call) = target_within d target && awaited_within d call
simple_within d (perform at target call) = target_within d target && written_within d call
simple_within d (invoke at target keep mark called args) = target_within d target && list_all (value_within d) args
simple_within d (give_back (Some value)) = value_within d value
simple_within d s = true

-- An `else if` stands in no block of its own.
abbrev pub is_chained : Block → Bool
is_chained (choose site true c a b rest) = true
is_chained block = false

-- And blocks, each in braces of its own.
abbrev pub block_within : ℕ → Block → Bool
block_within d end = true
block_within d (plain site s rest) = simple_within d s && block_within d rest
block_within d (choose site chained c a b rest) =
    nat_le 1 d && (cond_within d c && (block_within (d - 1) a && (block_within (if is_chained b then d else d - 1) b && block_within d rest)))
block_within d (loop site head body rest) = nat_le 1 d && (cond_within d head.cond && (block_within (d - 1) body && block_within d rest))

-- Where at most 97 parts stand inside one another, two for each of 48 brackets of a source and one, the text never opens a bracket
-- where 512 are open: `x + a[x + a[..]]` has an operator and an element for each, and `not (not (..) and y)` a `not` and an `and`.
abbrev pub TextsAreShallow : Type 0
TextsAreShallow = (p : PackageTree) → list_all (λ m. block_within 97 m.body) p.methods ≡ true → IsShallow 0 (unit_tokens (lowered_unit p))
