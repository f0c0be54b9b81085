-- A machine that executes a text of C.
use Rattle.std.specs.Prelude.{◌≡◌, ℕ, Bool, true, false, List, [], map, length, Option, Some, None, slice_get}
use Rattle.wf_text.specs.Surface.{Surface, PublicStruct, PublicMethod}
use Rattle.wf_text.specs.HostActions.{Receiver}
use Rattle.wf_base.specs.HostRun.{Host, HostCall, not_defined}
use Rattle.wf_base.specs.LawfulActions.{struct_numbered, method_numbered, called_method, AreDeclared}
use Rattle.wf_bufs.specs.SurfaceViews.{receiver_of}
use Rattle.c_text.specs.CNodes.{Nodes, unit_tree}
use Rattle.c_meaning.specs.CMemory.{Memory}
use Rattle.c_meaning.specs.CCall.{Program, program_of}
use Rattle.c_meaning.specs.CRun.{Loaded, loaded, made, struct_of, c_call, most_args, initialize_name}
use Rattle.c_meaning.specs.UnitForm.{HasUnitForm}
use Rattle.c_step_exprs.specs.Resolving.{function_number}
use Rattle.c_step_run.specs.declared.store.Store.{Store}
use Rattle.c_step_run.specs.Coding.{AreCoded}
use Rattle.c_step_program.specs.Programs.{code_of}
use Rattle.c_step_cells.specs.Chains.{frame_cells}
use Rattle.c_step_engine.specs.Engines.{EngineState}
use Rattle.c_step_engine.specs.Statuses.{AreStatuses}
use Rattle.c_step_calls.specs.declared.calling.Called.{Called}
use Rattle.c_step_calls.specs.declared.room.Room.{Room}
use Rattle.c_step_calls.specs.Resting.{IsResting}
use Rattle.c_mem.specs.MemoryViews.{memory}
use Rattle.c_step.specs.declared.known.Known.{Known}
use Rattle.c_step.specs.declared.loading.LoadedText.{LoadedText}
use Rattle.c_step_tables.specs.declared.tables.MethodEntry.{MethodEntry}
use Rattle.c_step_tables.specs.Tables.{IsMethod, AreStructs}

-- The text with its package's surface and the receivers.
abbrev pub loaded_of : Known → Loaded
loaded_of k = loaded (program_of (unit_tree k.unit)) k.surface.value (map receiver_of k.receivers.items)

-- The greatest number of parameters and locals along a chain of calls that begins at an external function of a program.
abbrev pub program_cells : Program → ℕ
program_cells p = frame_cells (code_of p p.functions) p.functions

-- What a text comes to for a package's surface and receivers: the tables, and the code at rest with the objects that stand at
-- first in its memory.
pub record IsLoaded (nodes : Nodes) (surface : Surface) (receivers : List Receiver) (it : LoadedText) : Type 0 where
  pub structs : AreStructs (program_of (unit_tree nodes)) surface surface.structs it.tables.structs.items
  pub statuses : AreStatuses (program_of (unit_tree nodes)) surface it.tables.statuses.items
  pub objects : memory it.started.store.mem ≡ (made (program_of (unit_tree nodes)) surface receivers).memory
  pub pointers : it.started.pointers.items ≡ (made (program_of (unit_tree nodes)) surface receivers).pointers
  pub coded : AreCoded it.started.code it.started.store.frames.items it.started.store.args.items (program_of (unit_tree nodes)) (program_of (unit_tree nodes)).functions
  pub rests : IsResting it.started.code it.started.room it.started.store
  pub most : it.started.room.most ≡ most_args surface.structs
  pub functions : length it.started.code.functions ≡ length (program_of (unit_tree nodes)).functions
  pub cells : it.cells ≡ program_cells (program_of (unit_tree nodes))

-- The tables are those of the text, which has the unit form for the package. The first status is ok.
pub record IsKnown (k : Known) : Type 0 where
  pub form : HasUnitForm k.surface.value (unit_tree k.unit)
  pub ok : slice_get k.surface.value.statuses 0 ≡ Some []
  pub declared : AreDeclared k.surface.value (map receiver_of k.receivers.items)
  pub pointers : k.pointers.items ≡ (loaded_of k).pointers
  pub structs : AreStructs (loaded_of k).program k.surface.value k.surface.value.structs k.structs.items
  pub statuses : AreStatuses (loaded_of k).program k.surface.value k.statuses.items
  pub functions : length k.code.functions ≡ length (loaded_of k).program.functions
  pub cells : k.cells ≡ program_cells (loaded_of k).program

-- The machine can begin an init or a call.
pub record IsReady (k : Known) (room : Room) (st : Store) : Type 0 where
  pub coded : AreCoded k.code st.frames.items st.args.items (loaded_of k).program (loaded_of k).program.functions
  pub rests : IsResting k.code room st
  pub most : room.most ≡ most_args k.surface.value.structs

-- That is so unless the machine has stopped.
abbrev pub ReadyUnless : (stopped : Bool) → Known → Room → Store → Type 0
ReadyUnless true k room st = Unit {0}
ReadyUnless false k room st = IsReady k room st

-- The method that a call means, with its entry.
pub record Means (k : Known) (what : HostCall) (e : MethodEntry) : Type 0 where
  pub structure : ℕ
  pub of : PublicStruct
  pub method : PublicMethod
  pub numbered : struct_numbered k.surface.value structure ≡ Some of
  pub its_method : method_numbered what.method of ≡ Some method
  pub struct_is : struct_of (loaded_of k) what.receiver ≡ Some of
  pub method_is : called_method k.surface.value (map receiver_of k.receivers.items) what ≡ Some method
  pub is : IsMethod (loaded_of k).program k.surface.value of method e

abbrev pub HasEntry : Known → HostCall → Option MethodEntry → Type 0
HasEntry k what None = called_method k.surface.value (map receiver_of k.receivers.items) what ≡ None
HasEntry k what (Some e) = Means k what e

-- The function that a call means.
pub record Calls (k : Known) (what : HostCall) (turns : ℕ) (c : Called) : Type 0 where
  pub entry : MethodEntry
  pub means : Means k what entry
  pub pointer : slice_get (loaded_of k).pointers what.receiver ≡ Some c.receiver
  pub function : entry.function ≡ Some c.own
  pub kind : c.kind ≡ entry.kind
  pub within : c.turns ≡ turns

-- Where there is none, the call isn't defined.
abbrev pub IsCallee : Known → HostCall → (turns : ℕ) → Option Called → Type 0
IsCallee k what turns None = (memory : Memory) (host : Host) (n : ℕ) → c_call (loaded_of k) memory what host n ≡ not_defined
IsCallee k what turns (Some c) = Calls k what turns c

-- The function that initializes a receiver.
pub record IsInited (k : Known) (receiver : ℕ) (function : Option ℕ) : Type 0 where
  pub of : PublicStruct
  pub struct_is : struct_of (loaded_of k) receiver ≡ Some of
  pub function_is : function ≡ function_number (loaded_of k).program.functions (initialize_name k.surface.value of)

-- A machine as other crates see it, and its state.
pub record MachineView : Type 0 where
  pub nodes : Nodes
  pub surface : Surface
  pub receivers : List Receiver
  pub memory : Memory
  pub stopped : Bool

abbrev pub state_of : MachineView → EngineState
state_of v = record { loaded = loaded (program_of (unit_tree v.nodes)) v.surface v.receivers; memory = v.memory; stopped = v.stopped }
