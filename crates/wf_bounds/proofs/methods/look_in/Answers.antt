use Rattle.wf_bounds.proofs.MethodLemmas.{method_finds, method_lacks, method_sound}
use Rattle.wf_bounds.proofs.methods.look_in.Goals as goal

pub unreachable-requires : goal.unreachable-requires
unreachable-requires c = method_sound c.args.t.now c.args.m.0 c.requires.sound c.args.s c.in-Err-Refused.field-0-0 (rw c.in-Err-Refused.field-0-is at c.in-Err-Refused.ensures.comes)

pub returns-in-Ok-Found : goal.returns-in-Ok-Found
returns-in-Ok-Found c =
    method_finds c.args.t.now c.args.m.0 c.requires.sound c.args.s c.walk_method.new.facts c.walk_method.ensures.over (rw c.in-Ok-Found.field-0-is at c.in-Ok-Found.ensures.comes)

pub returns-in-Ok-GoesOn : goal.returns-in-Ok-GoesOn
returns-in-Ok-GoesOn c = method_lacks c.args.t.now c.args.m.0 c.requires.sound c.args.s _ (rw c.in-Ok-GoesOn.field-0-is at c.in-Ok-GoesOn.ensures.comes)

pub returns-in-Ok-Stops : goal.returns-in-Ok-Stops
returns-in-Ok-Stops c = method_lacks c.args.t.now c.args.m.0 c.requires.sound c.args.s _ (rw c.in-Ok-Stops.field-0-is at c.in-Ok-Stops.ensures.comes)
