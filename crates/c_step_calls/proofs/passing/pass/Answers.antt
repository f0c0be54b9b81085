use Rattle.std.proofs.Common.{List, ◌++◌, length, map, ap, ◌∙◌, arith}
use Rattle.wf_bufs.specs.HostViews.{arg_of}
use Rattle.wf_bufs.specs.HostSeen.{host_of}
use Rattle.c_meaning.specs.declared.values.CValue.{CValue}
use Rattle.c_meaning.specs.CRun.{all_values}
use Rattle.c_step_calls.proofs.passing.pass.Goals as goal

pub add_all-requires-clause-room : goal.add_all-requires-clause-room
add_all-requires-clause-room c = let e = ap (λ (xs : List CValue). length xs) c.begin.ensures.values in omega (arith, c.requires.room, c.begin.ensures.room, e)

pub returns-clause-values : goal.returns-clause-values
returns-clause-values c =
    c.add_all.ensures.values ∙ ap (λ (xs : List CValue). xs ++ all_values (host_of c.args.host.now) c.args.places.buffer c.args.places.bytes (map arg_of c.args.args.now)) c.begin.ensures.values
