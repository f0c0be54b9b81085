-- What is kept between a host's calls, and during one.
use Rattle.std.specs.Prelude.{◌≡◌, ℕ, ◌+◌, ◌^◌, ◌<◌, ◌≤◌, List, [], length, vec_capacity}
use Rattle.wf_text.specs.HostActions.{HostArg}
use Rattle.wf_base.specs.HostRun.{Host}
use Rattle.c_meaning.specs.CMemory.{Memory}
use Rattle.c_mem.specs.MemoryViews.{memory, HasRoom}
use Rattle.c_step_exprs.specs.Stacks.{on_stack, most}
use Rattle.c_step_run.specs.declared.store.Store.{Store}
use Rattle.c_step_run.specs.Coding.{CodeView, IsRanked}
use Rattle.c_step_run.specs.Ready.{RestBelow, need}
use Rattle.c_step_hosts.specs.Lending.{all_lent}
use Rattle.c_step_hosts.specs.Spares.{AreIos, HaveBytes}
use Rattle.c_step_hosts.specs.Taking.{HaveShapes}
use Rattle.c_step_calls.specs.declared.room.Spares.{Spares}
use Rattle.c_step_calls.specs.declared.room.Room.{Room}

-- So many objects of each kind are spare.
pub record AreSpare (count : ℕ) (spares : Spares) : Type 0 where
  pub ios : AreIos spares.ios.items
  pub many : count ≤ length spares.ios.items
  pub bytes : HaveBytes spares.bytes.items
  pub many_bytes : count ≤ length spares.bytes.items
  pub within : length spares.ios.items ≤ vec_capacity spares.ios
  pub within_bytes : length spares.bytes.items ≤ vec_capacity spares.bytes

-- So many objects of each kind are taken.
pub record TakesSpares (ios bytes : ℕ) (old new : Spares) : Type 0 where
  pub ios_are : AreIos new.ios.items
  pub bytes_are : HaveBytes new.bytes.items
  pub fewer : length new.ios.items + ios ≡ length old.ios.items
  pub fewer_bytes : length new.bytes.items + bytes ≡ length old.bytes.items
  pub kept : vec_capacity new.ios ≡ vec_capacity old.ios
  pub kept_bytes : vec_capacity new.bytes ≡ vec_capacity old.bytes

-- There is room for so many more of each kind, and then there are so many more.
pub record TakesMore (ios bytes : ℕ) (spares : Spares) : Type 0 where
  pub ios_are : AreIos spares.ios.items
  pub bytes_are : HaveBytes spares.bytes.items
  pub fits : length spares.ios.items + ios ≤ vec_capacity spares.ios
  pub fits_bytes : length spares.bytes.items + bytes ≤ vec_capacity spares.bytes

pub record GivesSpares (ios bytes : ℕ) (old new : Spares) : Type 0 where
  pub ios_are : AreIos new.ios.items
  pub bytes_are : HaveBytes new.bytes.items
  pub more : length new.ios.items ≡ length old.ios.items + ios
  pub more_bytes : length new.bytes.items ≡ length old.bytes.items + bytes
  pub kept : vec_capacity old.ios ≤ vec_capacity new.ios
  pub kept_bytes : vec_capacity old.bytes ≤ vec_capacity new.bytes

-- The bytes of arguments are lent: from an object on they stand in memory, in their shapes.
pub record AreLent (memory : Memory) (object : ℕ) (host : Host) (args : List HostArg) : Type 0 where
  pub was : Host
  pub lent : host ≡ all_lent args was
  pub shapes : HaveShapes memory object was args

-- No function is called now, and there is room for a call of each one, with the arguments of each method.
pub record IsResting (c : CodeView) (room : Room) (st : Store) : Type 0 where
  pub ranked : IsRanked c.functions
  pub arguments : RestBelow (length c.functions) st.args.items
  pub frames : RestBelow (length c.functions) st.frames.items
  pub objects : length (memory st.mem) ≡ room.objects
  pub fits : HasRoom st.mem (room.most + room.most + length c.functions)
  pub numbers : room.objects + (room.most + room.most + length c.functions) < 2 ^ 64
  pub values : (own : ℕ) → need c own ≤ most st.stack
  pub passed : room.most + room.most < most st.stack
  pub empty : on_stack st.stack ≡ []
  pub given : room.most + room.most < vec_capacity room.given
  pub spares : AreSpare room.most room.spares

-- Between calls the same objects stand.
pub record RestsAgain (c : CodeView) (old_room room : Room) (old new : Store) : Type 0 where
  pub rests : IsResting c room new
  pub frames : new.frames.items ≡ old.frames.items
  pub args : new.args.items ≡ old.args.items
  pub most : room.most ≡ old_room.most
