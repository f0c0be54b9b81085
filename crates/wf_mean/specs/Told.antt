-- What the meaning answers where an engine's init or call ends so. Where the engine's isn't defined nothing is said: the meaning may
-- have an answer there that isn't of the kind that the method declares.
use Rattle.std.specs.Prelude.{◌≡◌, ⊤}
use Rattle.wf_base.specs.HostRun.{Host, Response, answers, needs_more}
use Rattle.wf_ast.specs.TypedPackage.{PackageTree, surface_of}
use Rattle.wf_bufs.specs.EngineLaw.{Gives, done, turns, undefined}
use Rattle.wf_bufs.specs.HostViews.{answer_of}
use Rattle.wf_meaning.specs.SourceState.{SourceState}
use Rattle.wf_mean.specs.SourceEngines.{EngineState}

abbrev pub CallTold : PackageTree → Gives (EngineState × Host) → Response (SourceState × Host) → Type 0
CallTold p (done outcome after) response = response ≡ answers (answer_of (surface_of p) outcome) (after.0.objects, after.1)
CallTold p turns response = response ≡ needs_more
CallTold p undefined response = ⊤

abbrev pub InitTold : PackageTree → Gives EngineState → Response SourceState → Type 0
InitTold p (done outcome after) response = response ≡ answers (answer_of (surface_of p) outcome) after.objects
InitTold p turns response = response ≡ needs_more
InitTold p undefined response = ⊤
