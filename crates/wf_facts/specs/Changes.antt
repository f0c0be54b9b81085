-- What the changes of a statement stand for, over states of whole numbers.
use Rattle.std.specs.Prelude.{◌≡◌, ℕ, ◌+◌, ◌≤◌, Bool, true, false, None, Some}
use Rattle.wf_ast.specs.declared.things.Thing.{Thing}
use Rattle.wf_ast.specs.TypedTree.{NumTree}
use Rattle.wf_ast.specs.Value.{State, value}
use Rattle.wf_ast.specs.Mentions.{num_mentions, AgreeBut}
use Rattle.wf_facts_exprs.specs.Claims.{Claim, compared, stands, single}
use Rattle.wf_facts.specs.declared.changes.Change.{Change}
use Rattle.wf_facts.specs.declared.changes.Change.TheVariants.{Raised, Lowered, Shortened}
use Rattle.wf_facts.specs.declared.forms.Form.{Form}
use Rattle.wf_facts.specs.Forms.{form_of}
use Rattle.wf_facts.specs.FactLists.{is_variable, is_io_length}

-- No side of the claim is a sum of two as a whole number, which no condition makes.
abbrev pub has_no_sum : Claim → Bool
has_no_sum (compared (single a) op (single b)) = true
has_no_sum (stands c answer) = true
has_no_sum f = false

-- How a number before a change and the one after it stand to each other.
abbrev pub Becomes : Change → (before after : ℕ) → Type 0
Becomes (Raised k) m n = n ≡ m + k
Becomes (Lowered k) m n = m ≡ n + k
Becomes (Shortened (Some k)) m n = m ≤ n + k
Becomes (Shortened None) m n = Unit {0}

-- The numbers that a change speaks of: a variable, or the length of a reader or a writer.
abbrev pub speaks_of : Change → Form → Bool
speaks_of (Raised k) form = is_variable form
speaks_of (Lowered k) form = is_variable form
speaks_of (Shortened k) form = is_io_length form

-- From one state to another the thing has changed so, and all else is as it was.
pub record TakesPlace (x : Thing) (change : Change) (s s' : State) : Type 0 where
  pub others : AgreeBut x s s'
  pub moved : (t : NumTree) (m : ℕ) → num_mentions x t ≡ true → speaks_of change (form_of t) ≡ true → value s t ≡ Some m → (n : ℕ) × (value s' t ≡ Some n) × Becomes change m n
