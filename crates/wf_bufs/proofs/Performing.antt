-- How far a list of actions has been performed.
use Rattle.std.proofs.Common.{◌≡◌, Bool, false, List, ◌++◌, length}
use Rattle.wf_text.specs.Surface.{Surface}
use Rattle.wf_text.specs.HostActions.{HostAction, Receiver}
use Rattle.wf_text.specs.Seen.{Seen}
use Rattle.wf_base.specs.BaseOps.{Buffer}
use Rattle.wf_base.specs.HostRun.{Host, Steps, run}
use Rattle.wf_base.specs.LawfulActions.{AreLawful}

-- The engine is at `now` and the host holds `host`: it goes on, it tells what it told first, the rest may be performed,
-- and what is seen of the rest after what was seen is what is seen of all.
pub record Proceeds {State : Type 0} (stopped : State → Bool) (surface : State → Surface) (receivers : State → List Receiver) (steps : Steps State) (first : State) (before : Host) (all : List (HostAction Buffer)) (now : State) (host : Host) (seen : List Seen) (rest : List (HostAction Buffer)) : Type 0 where
  pub goes_on : stopped now ≡ false
  pub same_surface : surface now ≡ surface first
  pub same_receivers : receivers now ≡ receivers first
  pub lawful : AreLawful (surface first) (receivers first) (length host.buffers) (length host.arrays) rest
  pub sees : seen ++ run steps now host rest ≡ run steps first before all
