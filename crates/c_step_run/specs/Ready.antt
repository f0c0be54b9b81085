-- What a machine's store has to be for a run, and what a run leaves of it.
use Rattle.std.specs.Prelude.{◌≡◌, ℕ, ◌+◌, ◌<◌, ◌≤◌, List, [], length}
use Rattle.c_meaning.specs.Typed.{shape_of}
use Rattle.c_mem.specs.MemoryViews.{memory, HasRoom}
use Rattle.c_step_exprs.specs.Stacks.{on_stack, most}
use Rattle.c_step_frames.specs.Frames.{FrameView}
use Rattle.c_step_run.specs.declared.store.Active.{Active}
use Rattle.c_step_run.specs.declared.store.Store.{Store}
use Rattle.c_step_run.specs.Resting.{Rests}
use Rattle.c_step_run.specs.Coding.{CodeView, IsRanked, rank_at}

-- None of the functions with numbers below this one is called now.
abbrev pub RestBelow : (own : ℕ) → List FrameView → Type 0
RestBelow own frames = (k : ℕ) → k < own → Rests frames k

-- Values that an expression of this function can need at once, those of the functions that it calls among them: one for each
-- instruction of its own, and those of the calls. An expression has at most as many instructions as the whole text.
abbrev pub need : CodeView → (own : ℕ) → ℕ
need c own = rank_at c.functions own + length c.text.exprs

-- An expression of so many instructions of the call that is run can be: its object is the last one, and there is room for the
-- objects and the values of the calls in it.
pub record CanEval (c : CodeView) (at : Active) (size : ℕ) (st : Store) : Type 0 where
  pub function : at.own < length c.functions
  pub ranked : IsRanked c.functions
  pub arguments : RestBelow at.own st.args.items
  pub objects : HasRoom st.mem at.own
  pub values : length (on_stack st.stack) + (rank_at c.functions at.own + size) ≤ most st.stack
  pub last : at.frame + 1 ≡ length (memory st.mem)

-- A call in such an expression can be made, with arguments that stand on the stack.
pub record CanCall (c : CodeView) (at : Active) (st : Store) : Type 0 where
  pub function : at.own < length c.functions
  pub ranked : IsRanked c.functions
  pub arguments : RestBelow at.own st.args.items
  pub objects : HasRoom st.mem at.own
  pub values : length (on_stack st.stack) + rank_at c.functions at.own ≤ most st.stack
  pub room : length (on_stack st.stack) < most st.stack
  pub last : at.frame + 1 ≡ length (memory st.mem)

-- The same of statements, before each of which the stack is empty.
pub record CanRun (c : CodeView) (at : Active) (st : Store) : Type 0 where
  pub evaluates : CanEval c at (length c.text.exprs) st
  pub frames : RestBelow at.own st.frames.items
  pub empty : on_stack st.stack ≡ []

-- A call can begin, with arguments that stand on the stack: its object will stand after the others.
pub record CanEnter (c : CodeView) (at : Active) (st : Store) : Type 0 where
  pub within : at.own < length c.functions
  pub ranked : IsRanked c.functions
  pub arguments : RestBelow (at.own + 1) st.args.items
  pub frames : RestBelow (at.own + 1) st.frames.items
  pub objects : HasRoom st.mem (at.own + 1)
  pub values : need c at.own ≤ most st.stack
  pub last : at.frame ≡ length (memory st.mem)

-- All but memory and the stack's values is as before, and there is as much room.
pub record KeepsRoom (old new : Store) : Type 0 where
  pub arguments : new.args.items ≡ old.args.items
  pub frames : new.frames.items ≡ old.frames.items
  pub objects : (more : ℕ) → HasRoom old.mem more → HasRoom new.mem more
  pub values : most old.stack ≤ most new.stack

-- Expressions change no memory.
pub record KeepsMemory (old new : Store) : Type 0 where
  pub room : KeepsRoom old new
  pub same : memory new.mem ≡ memory old.mem

-- Statements keep the shapes of all objects, and leave the stack empty.
pub record KeepsShape (old new : Store) : Type 0 where
  pub room : KeepsRoom old new
  pub shape : shape_of (memory new.mem) ≡ shape_of (memory old.mem)
  pub empty : on_stack new.stack ≡ []
