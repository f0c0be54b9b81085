-- What is asked of the runs of methods that a step calls.
use Rattle.std.specs.Prelude.{◌≡◌, ℕ, true, List, Option, None, Some, slice_get}
use Rattle.turns.specs.Run.{Outcome, Got, More, Lost}
use Rattle.wf_base.specs.declared.marks.Mark.{Mark}
use Rattle.wf_base.specs.declared.marks.Mark.TheVariants.{Pure, Coroutine}
use Rattle.wf_ast.specs.declared.types.Ty.{Ty}
use Rattle.wf_ast.specs.TypedTree.{Simple, invoke}
use Rattle.wf_ast.specs.TypedPackage.{MethodTree, PackageTree}
use Rattle.wf_ast.specs.WellTyped.{number_of}
use Rattle.wf_ast.specs.Value.{Value, status_number, buffer}
use Rattle.wf_meaning.specs.SourceState.{Remaining}
use Rattle.wf_meaning.specs.Entry.{Answered, returned, suspended}
use Rattle.wf_meaning.specs.World.{World, held_at}
use Rattle.wf_meaning.specs.SourceStep.{is_result, Callees}
use Rattle.wf_sound.specs.Worlds.{Shape, HaveTypes, IsLawfulWorld, AreApart}

-- What a method with a mark and a result may answer: a coroutine a status, at a suspension or by returning it, and every
-- other method a value of its result, or nothing where it has none.
abbrev pub IsAnswer : Mark → Option Ty → Answered → Type 0
IsAnswer Coroutine result (suspended status) = Unit {0}
IsAnswer Coroutine result (returned (Some (status_number status))) = Unit {0}
IsAnswer Coroutine result (returned v) = ⊥
IsAnswer mark result (suspended status) = ⊥
IsAnswer mark None (returned None) = Unit {0}
IsAnswer mark (Some ty) (returned (Some v)) = is_result (Some ty) v ≡ true
IsAnswer mark result (returned v) = ⊥

-- What a method leaves as it was, by its mark: a pure one all fields, buffers and byte arrays, and every other one the buffers
-- that aren't handed to it.
pub record LooksTheSame (before after : World) : Type 0 where
  pub fields : (object n : ℕ) → held_at before object n ≡ held_at after object n
  pub host : before.host ≡ after.host

pub record LeavesOthers (args : List Value) (before after : World) : Type 0 where
  pub buffers : (k : ℕ) → ((a : ℕ) → slice_get args a ≡ Some (buffer k) → ⊥) → slice_get before.host.buffers k ≡ slice_get after.host.buffers k

abbrev pub KeepsTo : Mark → List Value → (before after : World) → Type 0
KeepsTo Pure args before after = LooksTheSame before after
KeepsTo mark args before after = LeavesOthers args before after

-- A run of a method's body that isn't stuck. Where it ends, values lie in their types, its answer in that of the method's
-- result, and the method has kept to its mark.
pub record EndsWell (p : PackageTree) (R : (method : ℕ) → Remaining → Type 0) (shape : Shape) (m : MethodTree) (args : List Value) (before after : World) (answered : Answered) : Type 0 where
  pub world : IsLawfulWorld p R shape after
  pub answer : IsAnswer m.mark m.gives answered
  pub keeps : KeepsTo m.mark args before after

abbrev pub RunsWell : PackageTree → ((method : ℕ) → Remaining → Type 0) → Shape → MethodTree → List Value → World → Outcome (Answered × World) → Type 0
RunsWell p R shape m args w (Got left done) = EndsWell p R shape m args w done.1 done.0
RunsWell p R shape m args w More = Unit {0}
RunsWell p R shape m args w Lost = ⊥

-- The method with a number runs well from a world, with what remains of it there, in every struct state of its struct and with
-- all arguments that lie in their types, no buffer standing twice among them.
pub record MethodRuns (calls : Callees) (p : PackageTree) (R : (method : ℕ) → Remaining → Type 0) (shape : Shape) (number turns : ℕ) (w : World) : Type 0 where
  pub runs : (m : MethodTree) (object : ℕ) (args : List Value) → slice_get p.methods number ≡ Some m → slice_get shape.structs object ≡ Some m.of → HaveTypes p shape m.args args → AreApart args
      → RunsWell p R shape m args w (calls (record { object = object; method = number; args = args }) turns w)

-- The method that a statement calls does.
abbrev pub CalleesRun : Callees → PackageTree → ((method : ℕ) → Remaining → Type 0) → Shape → Simple → (turns : ℕ) → World → Type 0
CalleesRun calls p R shape (invoke at target keep mark called args) turns w = MethodRuns calls p R shape (number_of called) turns w
CalleesRun calls p R shape s turns w = Unit {0}
