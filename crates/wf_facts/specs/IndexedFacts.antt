-- A list of facts beside the sets of those that mention a thing, and of those with one head. What is dropped is gone at first: its
-- slot stays, and so do the sets, until the slots are closed up.
use Rattle.std.specs.Prelude.{◌≡◌, ℕ, zero, suc, ◌+◌, ◌%◌, ◌<◌, ◌≤◌, Bool, true, false, ◌&&◌, ◌||◌, List, length, map, nat_lt, nat_eq}
use Rattle.wf_ast.specs.declared.variables.FieldId.{FieldId}
use Rattle.wf_ast.specs.declared.things.Thing.{Thing}
use Rattle.wf_ast.specs.declared.things.Thing.TheVariants as things
use Rattle.wf_ast.specs.declared.typed_nodes.TypedNodes.{TypedNodes}
use Rattle.wf_facts_exprs.specs.declared.facts.Fact.{Fact}
use Rattle.wf_facts_exprs.specs.Claims.{claim_in, claims_in, claim_mentions, is_among, AreFacts}
use Rattle.wf_facts_exprs.specs.declared.sets.FactSet.{FactSet}
use Rattle.wf_facts_exprs.specs.Heads.{having_head}
use Rattle.wf_facts_exprs.specs.NumberedSets.{Marks, words_at}
use Rattle.wf_facts_exprs.specs.Knowledge.{left_of}
use Rattle.wf_facts_exprs.specs.Sets.{member, members, unmarked, IsSetOf, IsAround}

pub record Slots : Type 0 where
  pub list : List Fact
  pub sets : List FactSet
  pub fields : List FactSet
  pub heads : List FactSet

-- What is left of the slots but for those that are gone.
pub record FactList : Type 0 where
  pub list : List Fact
  pub slots : Slots
  pub gone : List ℕ

-- Fields and arguments have no sets of their own; a method has at most 256 locals.
abbrev pub has_set : Thing → Bool
has_set (things.Local x) = nat_lt x.0 256
has_set (things.Field x) = false
has_set (things.Arg x) = false
has_set x = true

-- A field, an argument, or a thing with a set.
abbrev pub IsNamedInSets : Thing → Type 0
IsNamedInSets (things.Local x) = x.0 < 256
IsNamedInSets x = Unit {0}

-- The number of its set.
abbrev pub set_number : Thing → ℕ
set_number things.This = 0
set_number things.Args = 1
set_number things.Element = 2
set_number things.SliceLocals = 3
set_number (things.Local x) = 4 + x.0
set_number x = 260

-- The thing with the set of a number.
abbrev pub thing_of : ℕ → Thing
thing_of zero = things.This
thing_of (suc zero) = things.Args
thing_of (suc (suc zero)) = things.Element
thing_of (suc (suc (suc zero))) = things.SliceLocals
thing_of (suc (suc (suc (suc k)))) = things.Local (record { 0 = k })

abbrev pub set_of : Slots → Thing → List ℕ
set_of slots x = words_at slots.sets (set_number x)

-- Which facts that are left a set has that was made for the slots.
abbrev pub marks_left : FactList → (words : List ℕ) → List Bool
marks_left known words = unmarked (members known.gone (length known.slots.list)) (members words (length known.slots.list))

-- Which facts of a list mention a thing, in order.
abbrev pub mentioning : TypedNodes → Thing → List Fact → List Bool
mentioning nodes x fs = map (λ f. claim_mentions x (claim_in nodes f)) fs

-- Fields share 128 sets.
abbrev pub field_set : FieldId → ℕ
field_set x = x.0 % 128

-- A fact comes in at place n that mentions some things: its place comes into the sets of these, and into those that their
-- fields share, whatever else comes into these. All other places are in the sets that they were in.
pub record MarksField (n c : ℕ) (met : Thing → Bool) (before after : List FactSet) : Type 0 where
  pub comes : Bool
  pub places : (j : ℕ) → j < 512 → member (words_at after c) j ≡ ((nat_eq j n && comes) || member (words_at before c) j)
  pub holds : (x : FieldId) → field_set x ≡ c → met (things.Field x) ≡ true → comes ≡ true

pub record MarksThings (n : ℕ) (met : Thing → Bool) (sets fields sets_after fields_after : List FactSet) : Type 0 where
  pub things : Marks n (λ k. met (thing_of k)) sets sets_after
  pub shared : (c : ℕ) → c < 128 → MarksField n c met fields fields_after

-- The facts are those of a package, and the sets tell what they mention in it: of a field, among other facts, those that do.
pub record AreOver (nodes : TypedNodes) (slots : Slots) : Type 0 where
  pub facts : AreFacts nodes slots.list
  pub sets : (x : Thing) → has_set x ≡ true → IsSetOf (set_of slots x) (mentioning nodes x slots.list)
  pub fields : (x : FieldId) → IsAround (words_at slots.fields (field_set x)) (mentioning nodes (things.Field x) slots.list)
  pub heads : (h : ℕ) → h < 256 → IsSetOf (words_at slots.heads h) (having_head nodes h slots.list)

-- The slots are of a package, and the list is what is left of them.
pub record IsOver (nodes : TypedNodes) (known : FactList) : Type 0 where
  pub slots : AreOver nodes known.slots
  pub few : length known.slots.list ≤ 512
  pub left : known.list ≡ left_of known.gone known.slots.list
  pub inside : (k : ℕ) → length known.slots.list ≤ k → k < 512 → member known.gone k ≡ false

-- There is room for 512 facts.
pub record HasRoom (len capacity : ℕ) : Type 0 where
  pub few : len ≤ 512
  pub room : 512 ≤ capacity

-- 512 facts stand, and this one isn't among them.
pub record IsFullFor (nodes : TypedNodes) (known : FactList) (f : Fact) : Type 0 where
  pub many : length known.list ≡ 512
  pub other : is_among (claims_in nodes known.list) (claim_in nodes f) ≡ false
