-- What a variable does with a value that goes to it.
use Rattle.std.specs.Prelude.{Bool, ◌&&◌, Option, None, Some, nat_le, if◌then◌else◌}
use Rattle.wf_ast.specs.declared.types.Ty.{Ty}
use Rattle.wf_ast.specs.declared.types.Ty.TheVariants as types
use Rattle.wf_ast.specs.Value.{Value, num, truth_value, status_number, span}
use Rattle.wf_meaning.specs.World.{Vars}
use Rattle.wf_mean_stmts.specs.declared.targets.Taken.{Taken}
use Rattle.wf_mean_stmts.specs.declared.targets.Taken.TheVariants.{Stored, Passed, Stuck}

abbrev pub stored_if : Bool → Taken
stored_if fits = if fits then Stored else Stuck

-- By the type of a variable.
abbrev pub taken_by : Ty → Value → Taken
taken_by (types.Num width lo hi) (num n) = stored_if (nat_le lo n && nat_le n hi)
taken_by types.Flag (truth_value t) = Stored
taken_by types.Status (status_number n) = Stored
taken_by (types.Slice width) (span s) = Stored
taken_by types.Reader v = Passed
taken_by types.Writer v = Passed
taken_by (types.Array width lo hi count) v = Passed
taken_by (types.Part s) v = Passed
taken_by ty v = Stuck

-- The variables then, where `stored` are those with the value in its place.
abbrev pub put_by : Taken → (stored vars : Vars) → Option Vars
put_by Stored stored vars = Some stored
put_by Passed stored vars = Some vars
put_by Stuck stored vars = None
