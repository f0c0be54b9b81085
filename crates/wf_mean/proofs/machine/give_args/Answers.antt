use Rattle.std.proofs.Common.{◌∙◌, ◌≡◌, ◌<◌, List, ap, get_or, length, map, refl, subst, sym}
use Rattle.std.proofs.lemmas.List.{length-set}
use Rattle.std.proofs.lemmas.Option.{slice_get-get_or}
use Rattle.wf_ast.specs.declared.declarations.Var.{Var}
use Rattle.wf_ast.specs.TypedPackage.{variable_of}
use Rattle.wf_bufs.specs.HostViews.{arg_of}
use Rattle.wf_bufs.specs.HostSeen.{host_of}
use Rattle.wf_meaning.specs.SourceCall.{host_values}
use Rattle.wf_mean_exprs.specs.MachineState.{slot_seen}
use Rattle.wf_mean_stmts.specs.Arguments.{Fills}
use Rattle.wf_mean_runs.specs.Frames.{args_of, sizes_of}
use Rattle.wf_mean.proofs.CallLaws.{args-fit, frame-at, frames-again, holds-filled, map-set}
use Rattle.wf_mean.proofs.ReceiverLaws.{args-told}
use Rattle.wf_mean.proofs.machine.give_args.Goals as goal

pub fill_frame-requires : goal.fill_frame-requires
fill_frame-requires c =
    let within : c.in-Some.at < length c.args.frames.now = c.frame_of.ensures.within c.in-Some.at c.in-Some.is in record {
      sizes = args-fit c.args.t.now c.args.frames.now c.in-Some.at c.args.m.0 (get_or c.args.frames.now c.in-Some.at c.index-frames-at.result) c.method.result.now c.requires.frames (slice_get-get_or c.args.frames.now c.in-Some.at c.index-frames-at.result within)
          (frame-at c.args.t.now (length c.args.frames.now) c.args.m.0 c.in-Some.at (sym c.frame_of.ensures.frame ∙ c.in-Some.is)) c.method.ensures ∙ sym (ap length c.as_slice-declared.ensures);
    }

pub returns-in-Some-clause-given : goal.returns-in-Some-clause-given
returns-in-Some-clause-given c e =
    let within : c.in-Some.at < length c.args.frames.now = c.frame_of.ensures.within c.in-Some.at c.in-Some.is in
    let told : args_of c.args.t.now c.args.m.0 ≡ c.as_slice-declared.result.now = args-told c.args.t.now c.args.m.0 c.method.result.now c.method.ensures ∙ sym c.as_slice-declared.ensures in
    let P : List Var → Type 0 = λ xs. Fills c.fill_frame.result (host_values (host_of c.args.stage.now.host).arrays (map (variable_of c.args.t.now) xs) (map arg_of c.args.args.now)) (map slot_seen c.fill_frame.new.frame.args.items) in
    holds-filled c.args.t.now c.args.frames.now (length c.args.frames.now) c.args.m.0 c.in-Some.at (get_or c.args.frames.now c.in-Some.at c.index-frames-at.result) c.fill_frame.new.frame
    (host_values (host_of c.args.stage.now.host).arrays (map (variable_of c.args.t.now) (args_of c.args.t.now c.args.m.0)) (map arg_of c.args.args.now)) c.fill_frame.result refl
    (slice_get-get_or c.args.frames.now c.in-Some.at c.index-frames-at.result within) (sym c.frame_of.ensures.frame ∙ c.in-Some.is) (length-set c.args.frames.now c.in-Some.at c.fill_frame.new.frame) (subst P (sym told) (c.fill_frame.ensures.values c.args.t.now)) e

pub returns-in-Some-clause-frames : goal.returns-in-Some-clause-frames
returns-in-Some-clause-frames c =
    let within : c.in-Some.at < length c.args.frames.now = c.frame_of.ensures.within c.in-Some.at c.in-Some.is in
    frames-again c.args.t.now c.args.frames.now _ c.requires.frames
    (map-set sizes_of c.args.frames.now c.in-Some.at c.fill_frame.new.frame (get_or c.args.frames.now c.in-Some.at c.index-frames-at.result) (slice_get-get_or c.args.frames.now c.in-Some.at c.index-frames-at.result within) c.fill_frame.ensures.sizes)
