-- What a run asks of a program that is loaded.
use Rattle.std.specs.Prelude.{◌+◌, ◌≤◌, ℕ, List, length}
use Rattle.c_step_frames.specs.Frames.{FrameView}
use Rattle.c_step_run.specs.Coding.{CodeView, IsRanked}
use Rattle.c_step_run.specs.Ready.{RestBelow, need}

-- Each function has its rank, none of them is called, and so many values are enough for each one's expressions: at most two
-- for each instruction of an expression in the text.
pub record IsAtRest (c : CodeView) (frames args : List FrameView) (values : ℕ) : Type 0 where
  pub ranked : IsRanked c.functions
  pub frames_rest : RestBelow (length c.functions) frames
  pub args_rest : RestBelow (length c.functions) args
  pub enough : (own : ℕ) → need c own ≤ values
  pub linear : values ≤ length c.text.exprs + length c.text.exprs
