-- What statements do to a list of facts, told of what the facts claim.
use Rattle.std.specs.Prelude.{ℕ, ◌+◌, ◌-◌, Bool, true, false, not, ◌&&◌, List, [], ◌∷◌, ◌++◌, Option, None, Some, option_map, filter, if◌then◌else◌, nat_lt, nat_le}
use Rattle.std.specs.List.{filter_map}
use Rattle.wf_ast.specs.declared.things.Thing.{Thing}
use Rattle.wf_ast.specs.TypedTree.{number, Order, at_least, greater, CondTree}
use Rattle.wf_ast.specs.TypedTrees.{no_place}
use Rattle.wf_ast.specs.Value.{only_if}
use Rattle.wf_facts_exprs.specs.Claims.{Claim, compared, single, is_among, claim_mentions, facts_of}
use Rattle.wf_facts.specs.declared.changes.Change.{Change}
use Rattle.wf_facts.specs.declared.changes.Change.TheVariants.{Raised, Lowered, Shortened}
use Rattle.wf_facts.specs.declared.forms.Form.{Form}
use Rattle.wf_facts.specs.declared.forms.Form.TheVariants.{Variable, IoLength}
use Rattle.wf_facts.specs.Forms.{form_of}

-- A fact that stands isn't added again: of one made twice the first is kept.
abbrev pub added : List Claim → Claim → List Claim
added fs f = if is_among fs f then fs else fs ++ f ∷ []

abbrev pub all_added : List Claim → List Claim → List Claim
all_added fs [] = fs
all_added fs (g ∷ gs) = all_added (added fs g) gs

-- The facts of a condition with an answer are added in order.
abbrev pub with_condition : List Claim → CondTree → (answer : Bool) → List Claim
with_condition fs c answer = all_added fs (facts_of c answer)

-- What mentions a thing is dropped.
abbrev pub without : Thing → List Claim → List Claim
without x fs = filter (λ f. not (claim_mentions x f)) fs

-- The facts that also stand in another list.
abbrev pub common : (fs others : List Claim) → List Claim
common fs others = filter (λ f. is_among others f) fs

-- A number that what it is compared with has taken along, where it lies in 64 bits. A length that has shrunk by at most k
-- is still at least so much less k.
abbrev pub in_64_bits : ℕ → Option ℕ
in_64_bits n = only_if (nat_lt n 18446744073709551616) (Some n)

abbrev pub moved_number : Change → ℕ → Option ℕ
moved_number (Raised k) n = in_64_bits (n + k)
moved_number (Lowered k) n = only_if (nat_le k n) (in_64_bits (n - k))
moved_number (Shortened (Some k)) n = only_if (nat_le k n) (in_64_bits (n - k))
moved_number (Shortened None) n = None

-- The comparisons with a number of which something is still known: those of a variable that has grown or shrunk by a
-- constant, and the least lengths of a reader or a writer.
abbrev pub is_variable : Form → Bool
is_variable Variable = true
is_variable form = false

abbrev pub is_io_length : Form → Bool
is_io_length IoLength = true
is_io_length form = false

abbrev pub is_least : Order → Bool
is_least at_least = true
is_least greater = true
is_least op = false

abbrev pub moves_with : Change → Form → Order → Bool
moves_with (Raised k) form op = is_variable form
moves_with (Lowered k) form op = is_variable form
moves_with (Shortened k) form op = is_io_length form && is_least op

-- What is still known by a fact that mentions what has changed.
abbrev pub still_known : Change → Claim → Option Claim
still_known change (compared (single t) op (single (number at n))) =
    if moves_with change (form_of t) op then option_map (λ m. compared (single t) op (single (number no_place m))) (moved_number change n) else None
still_known change f = None

-- The list once the thing has changed so.
abbrev pub changed : Thing → Change → List Claim → List Claim
changed x change fs = filter_map (λ f. if claim_mentions x f then still_known change f else Some f) fs
