-- What is written to: which numbers go there, what mentions it, and what is known once it is written.
use Rattle.std.specs.Prelude.{ℕ, Bool, true, false, ◌&&◌, List, Option, None, Some, if◌then◌else◌, nat_le}
use Rattle.wf_text.specs.declared.place.Place.{Place}
use Rattle.wf_text.specs.declared.rules.Rule.TheVariants.{B1}
use Rattle.wf_text.specs.declared.rules.Refusal.{Refusal}
use Rattle.wf_ast.specs.declared.things.Thing.{Thing}
use Rattle.wf_ast.specs.declared.things.Thing.TheVariants as things
use Rattle.wf_ast.specs.TypedTree.{Path, local, field, arg, NumType, Arith, plus, minus, NumTree, number, read, element, link, equal, ValueTree, numeric, Target, to_number, to_element, to_flag, to_status, to_slice, to_nothing}
use Rattle.wf_ast.specs.Mentions.{num_mentions}
use Rattle.wf_ast.specs.Same.{same_num}
use Rattle.wf_facts_exprs.specs.Claims.{Claim, compared, single}
use Rattle.wf_facts_exprs.specs.Demands.{demand, or_else, num_refusal, value_refusal}
use Rattle.wf_facts.specs.declared.changes.Change.{Change}
use Rattle.wf_facts.specs.declared.changes.Change.TheVariants.{Raised, Lowered}
use Rattle.wf_facts.specs.FactLists.{added, without, changed}
use Rattle.wf_bounds_stmts.specs.Requirements.{lies_refusal}

-- The numbers that a target takes; None where it takes none.
abbrev pub taken_by : Target → Option NumType
taken_by (to_number at of path) = Some of
taken_by (to_element at of cells index) = Some of
taken_by target = None

-- An element's index is checked, and has to be below the length.
abbrev pub target_refusal : List Claim → Target → Option Refusal
target_refusal fs (to_element at of cells index) = num_refusal fs false (element at of cells index)
target_refusal fs target = None

abbrev pub thing_at : Path → Thing
thing_at (local n) = things.Local (record { 0 = n })
thing_at (field n) = things.Field (record { 0 = n })
thing_at (arg n) = things.Arg (record { 0 = n })

-- What is written: a variable, or some element.
abbrev pub written_by : Target → Option Thing
written_by (to_number at of path) = Some (thing_at path)
written_by (to_element at of cells index) = Some things.Element
written_by (to_flag at path) = Some (thing_at path)
written_by (to_status at path) = Some (thing_at path)
written_by (to_slice at bits path) = Some (thing_at path)
written_by to_nothing = None

-- What mentions it is dropped.
abbrev pub without_some : Option Thing → List Claim → List Claim
without_some None fs = fs
without_some (Some x) fs = without x fs

abbrev pub unwritten : Target → List Claim → List Claim
unwritten target fs = without_some (written_by target) fs

abbrev pub number_written : Target → Option Thing
number_written (to_number at of path) = Some (thing_at path)
number_written target = None

-- Assignments: the value is checked, then the target's index, and then the value has to lie in the target's type.
abbrev pub assign_refusal : List Claim → Target → ValueTree → Option Refusal
assign_refusal fs target v = or_else (value_refusal fs v) (or_else (target_refusal fs target) (lies_refusal B1 fs (taken_by target) v))

-- A number that has been written to a variable is the variable's, unless it is told by the variable as it was.
abbrev pub known_equal : List Claim → (variable : NumTree) → Thing → NumTree → List Claim
known_equal fs x thing t = if num_mentions thing t then fs else added fs (compared (single x) equal (single t))

-- How a variable changes by what an operator with `=` gives: by `+=` and `-=` with a constant; None where that isn't told.
abbrev pub step_by : Arith → ℕ → Option Change
step_by plus k = Some (Raised k)
step_by minus k = Some (Lowered k)
step_by op k = None

abbrev pub step_of : (variable value : NumTree) → Option Change
step_of x (link at sign op bits joined a (number at' k)) = if same_num x a then step_by op k else None
step_of x t = None

-- What is known of a variable is taken along with its change, and dropped where that isn't told.
abbrev pub stepped : List Claim → Thing → Option Change → List Claim
stepped fs x None = without x fs
stepped fs x (Some change) = changed x change fs

-- What stands after an assignment. `op` is the operator before the `=`.
abbrev pub assigned : List Claim → Target → (op : Option Arith) → ValueTree → List Claim
assigned fs (to_number at of path) None (numeric t) = known_equal (without (thing_at path) fs) (read at of path) (thing_at path) t
assigned fs (to_number at of path) (Some op) (numeric t) = stepped fs (thing_at path) (step_of (read at of path) t)
assigned fs target op v = unwritten target fs

-- What a call answers goes to its target: its index is checked by what is known after the call, and all numbers
-- that the call may answer have to lie in the target's type. `at` is the call's place.
abbrev pub holds_all : Option NumType → (answers : Option NumType) → Bool
holds_all (Some of) (Some answers) = nat_le of.low answers.low && nat_le answers.high of.high
holds_all of answers = true

abbrev pub answer_refusal : List Claim → (at : Place) → Target → (answers : Option NumType) → Option Refusal
answer_refusal fs at target answers = or_else (target_refusal fs target) (demand (holds_all (taken_by target) answers) B1 at)
