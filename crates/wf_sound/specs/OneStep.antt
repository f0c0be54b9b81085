-- What one step of a body comes to where the rules of facts refuse nothing at its statement.
use Rattle.std.specs.Prelude.{◌≡◌, ◌⊎◌, ℕ, ◌^◌, ◌<◌, true, false, List, [], ◌∷◌, length, None, Some, slice_get, unwrap_or}
use Rattle.std.specs.List.{list_all}
use Rattle.turns.specs.Run.{Go, Turn, End, Out, Fail}
use Rattle.wf_base.specs.BaseOps.{AreBytes}
use Rattle.wf_base.specs.BaseTable.{bytes_of, read_width}
use Rattle.wf_ast.specs.TypedTree.{CondTree, take_number, skip, write, Simple, await, invoke, break_from, continue_in, yield, Site, Head, Block, end, plain}
use Rattle.wf_ast.specs.TypedPackage.{PackageTree, MethodTree}
use Rattle.wf_ast.specs.WellTyped.{Context, well_typed, well_method}
use Rattle.wf_ast.specs.Value.{Value}
use Rattle.wf_facts_exprs.specs.Claims.{Claim, AllTrue}
use Rattle.wf_facts_exprs.specs.LawfulState.{well_claims}
use Rattle.wf_facts.specs.FactLists.{with_condition}
use Rattle.wf_facts.specs.Changes.{has_no_sum}
use Rattle.wf_loops.specs.LoopRules.{way_back_refusal}
use Rattle.wf_bounds_stmts.specs.Statements.{Form, single, branches, repeated}
use Rattle.wf_bounds_stmts.specs.Calls.{interrupted}
use Rattle.wf_bounds_stmts.specs.FactRules.{Known, statement_refusal, fronts}
use Rattle.wf_bounds_stmts.specs.FactRules as rules
use Rattle.wf_meaning.specs.SourceState.{Behind, behind_if, again, Done, untouched, has_bytes, to_skip, to_write, has_yielded, Remaining}
use Rattle.wf_meaning.specs.Entry.{returned, suspended}
use Rattle.wf_meaning.specs.Remaining.{hands_on, Marker, marker_of}
use Rattle.wf_meaning.specs.World.{World, Body, Vars, view}
use Rattle.wf_meaning.specs.SourceStep.{At, Ending, gives, suspends, Steps, state_of}
use Rattle.wf_sound.specs.Worlds.{Shape, HaveTypes, IsLawfulWorld, IsLawfulBody, AreApart, context_of}
use Rattle.wf_sound.specs.Positions.{around, well_at}
use Rattle.wf_sound.specs.Callees.{IsAnswer}

-- How a statement is reached: for the first time, where the facts before it are true; or to be resumed, having been left with
-- something done, where what is known after its drops is true.

-- What a statement may have done where its method was left at it. A read has some bytes of its number, but not all.
abbrev pub IsStarted : Simple → Done → Type 0
IsStarted (await at target io_arg (take_number form)) (has_bytes bytes) = AreBytes bytes × (length bytes < bytes_of (read_width form))
IsStarted (await at target io_arg (skip count)) (to_skip left) = left < 2 ^ 32
IsStarted (await at target io_arg (write byte)) (to_write it) = it < 2 ^ 8
IsStarted (invoke at target keep mark called args) untouched = hands_on keep mark ≡ true
IsStarted (yield status) has_yielded = Unit {0}
IsStarted s done = ⊥

pub data IsReached (b : Body) (vars : Vars) (fs : List Claim) (s : Simple) (done : Done) : Type 0 where
  afresh : done ≡ untouched → AllTrue (state_of b vars) fs → IsReached b vars fs s done
  resumed : IsStarted s done → AllTrue (state_of b vars) (interrupted fs) → IsReached b vars fs s done

-- What remains of a method where it was left, by the lists of facts before the statements of each method: one of its statements
-- comes first again, with what it has done. Whatever the receiver's fields, the arguments and the rest of the world are when it
-- is resumed, its locals lie in their types, and what is known after that statement's drops is true.
pub record IsLeftBy (p : PackageTree) (lists : (method statement : ℕ) → Known) (number : ℕ) (left : Remaining) : Type 0 where
  pub method : MethodTree
  pub numbered : slice_get p.methods number ≡ Some method
  pub site : Site
  pub statement : Simple
  pub rest : Block
  pub first : left.block ≡ plain site statement rest
  pub started : IsStarted statement left.done
  pub locals : (shape : Shape) → HaveTypes p shape method.locals left.locals
  pub list : List Claim
  pub listed : lists number site.number ≡ Some list
  pub facts : (object : ℕ) (args : List Value) (w : World) → AllTrue (view (record { within = p; object = object; method = method; args = args }) left.locals w) (interrupted list)

-- What a step comes to: a next state, or an end. It isn't stuck.
abbrev pub ComesTo : (next : At → Type 0) → (ending : Ending × World → Type 0) → Steps → Type 0
ComesTo next ending (Go x) = next x
ComesTo next ending (Turn left x) = next x
ComesTo next ending (End left done) = ending done
ComesTo next ending Out = Unit {0}
ComesTo next ending Fail = ⊥

-- The rule that remaining statements keep, and what stays of the world.
module _ (R : (method : ℕ) → Remaining → Type 0) (shape : Shape) (b : Body) where
  -- A body stands before a block, and these facts are true.
  pub record StandsBefore (block : Block) (behind : Behind) (fs : List Claim) (x : At) : Type 0 where
    pub fresh : x.done ≡ untouched
    pub first : x.block ≡ block
    pub after : x.behind ≡ behind
    pub lawful : IsLawfulBody R shape b x.vars
    pub facts : AllTrue (state_of b x.vars) fs

  -- The same where it is known what a rule gives; what gives None isn't reached.
  abbrev pub StandsKnowing : Block → Behind → Known → At → Type 0
  StandsKnowing block behind None x = ⊥
  StandsKnowing block behind (Some fs) x = StandsBefore block behind fs x

  -- What is left at a statement: the statement comes first again, with what it has done. Whatever the world and the arguments
  -- are when it is resumed, its locals lie in their types, and what is known after its drops is true.
  pub record IsLeftAt (site : Site) (s : Simple) (rest : Block) (behind : Behind) (fs : List Claim) (left : Remaining) : Type 0 where
    pub first : left.block ≡ plain site s rest
    pub after : left.behind ≡ behind
    pub started : IsStarted s left.done
    pub locals : (later : Shape) → HaveTypes b.within later b.method.locals left.locals
    pub facts : (object : ℕ) (args : List Value) (w : World) → AllTrue (view (record b { object = object; args = args }) left.locals w) (interrupted fs)

  -- An end in a lawful world, with an answer of the method.
  abbrev pub Ends : (Remaining → Type 0) → Ending × World → Type 0
  Ends leaves (gives v, w) = IsLawfulWorld b.within R shape w × IsAnswer b.method.mark b.method.gives (returned v)
  Ends leaves (suspends status left, w) = IsLawfulWorld b.within R shape w × (IsAnswer b.method.mark b.method.gives (suspended status) × leaves left)

  abbrev pub NeverLeft : Remaining → Type 0
  NeverLeft left = ⊥

  -- Where a statement without blocks leads. What is known at a `continue` is still known where its loop's marker is reached,
  -- and gives all that the way back asks.
  abbrev pub LeadsTo : Simple → (site : Site) → (rest : Block) → Behind → List Claim → At → Type 0
  LeadsTo (break_from w) site rest behind fs x = (m : Marker) × (marker_of w behind ≡ Some m) × StandsKnowing m.rest m.behind (rules.behind fs (repeated m.head) []) x
  LeadsTo (continue_in w) site rest behind fs x =
      (m : Marker) × (marker_of w behind ≡ Some m) × (way_back_refusal fs site.at m.head ≡ None) × StandsBefore end (again m.site m.head m.body m.rest m.behind) fs x
  LeadsTo s site rest behind fs x = StandsKnowing rest behind (rules.behind fs (single s) []) x

  -- The list before a block of a statement, by the block's number.
  abbrev pub front_of : ℕ → List Claim → Form → List Claim
  front_of i fs form = unwrap_or (slice_get (fronts fs form) i) []

  -- An `if` with the condition `c` and then `cs` goes into its first block; or it comes to the block after `else` where there
  -- are no further conditions, and else to those, under the list in which `c` has failed, where the rules refuse nothing at
  -- them.
  abbrev pub Chooses : (at : Site) → CondTree → (cs : List CondTree) → (then_block otherwise rest : Block) → Behind → List Claim → At → Type 0
  Chooses at c [] a d rest behind fs x =
      StandsBefore a (behind_if rest behind) (front_of 0 fs (branches (c ∷ []))) x ⊎ StandsBefore d (behind_if rest behind) (front_of 1 fs (branches (c ∷ []))) x
  Chooses at c (c2 ∷ cs) a d rest behind fs x =
      StandsBefore a (behind_if rest behind) (front_of 0 fs (branches (c ∷ c2 ∷ cs))) x
      ⊎ (StandsBefore d (behind_if rest behind) (with_condition fs c false) x
      × ((statement_refusal (around b behind) (with_condition fs c false) at (branches (c2 ∷ cs)) ≡ None)
      × (fronts fs (branches (c ∷ c2 ∷ cs)) ≡ front_of 0 fs (branches (c ∷ c2 ∷ cs)) ∷ fronts (with_condition fs c false) (branches (c2 ∷ cs)))))

  -- The test of a loop's condition goes into the loop's body, or past the loop.
  abbrev pub Tests : Site → Head → (body rest : Block) → Behind → At → Type 0
  Tests site head body rest behind x =
      StandsBefore body (again site head body rest behind) (front_of 0 [] (repeated head)) x ⊎ StandsKnowing rest behind (rules.behind [] (repeated head) []) x

-- A body of a package that keeps the rules of types.
pub record IsWellTyped (b : Body) : Type 0 where
  pub whole : well_typed b.within ≡ true
  pub method : well_method b.within b.method ≡ true

-- Facts of a method, as the rules make them: each keeps the rules of types, and none has a sum as a whole number.
pub record AreFactsOf (c : Context) (fs : List Claim) : Type 0 where
  pub well : well_claims c fs ≡ true
  pub plain : list_all has_no_sum fs ≡ true

-- So are those of all lists at the ends of blocks.
pub record AreKnown (c : Context) (ends : List Known) : Type 0 where
  pub each : (i : ℕ) (fs : List Claim) → slice_get ends i ≡ Some (Some fs) → AreFactsOf c fs

-- Where a running body stands before a block: all values lie in their types, no buffer stands twice among its arguments, and
-- the package, the block and what follows it keep the rules of types.
pub record IsRunning (R : (method : ℕ) → Remaining → Type 0) (shape : Shape) (b : Body) (block : Block) (behind : Behind) (vars : Vars) : Type 0 where
  pub lawful : IsLawfulBody R shape b vars
  pub apart : AreApart b.args
  pub typed : IsWellTyped b
  pub well : well_at (context_of b) block behind ≡ true
