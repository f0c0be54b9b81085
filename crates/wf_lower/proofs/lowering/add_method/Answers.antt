use Rattle.std.proofs.Common.{◌<◌, length, arith}
use Rattle.wf_ast.specs.TypedPackage.{package_of}
use Rattle.c_text.proofs.Arena.{slice_get-some}
use Rattle.wf_lower.proofs.Functions.{method_then}
use Rattle.wf_lower.proofs.Known.{methods_same}
use Rattle.wf_lower.proofs.SharedLaws.{kept_shared}
use Rattle.wf_exprs.proofs.Growing.{grows_on}
use Rattle.wf_lower.proofs.lowering.add_method.Goals as goal

pub returns-clause-made : goal.returns-clause-made
returns-clause-made c =
    let p = package_of c.args.p.now.t.now in
    let same = methods_same c.args.p.now.t.now c.requires.ready.typed in
    let there : c.args.m < length p.methods = omega (arith, same, c.requires.known) in
    let found = slice_get-some p.methods c.args.m there in
    method_then _ _ _ p c.args.m _ found.0 _ _ _ c.add_entry.result found.1 (c.in_ok-add_body.ensures.made found.0 found.1) c.add_entry.ensures.made

pub add_entry-requires-clause-shared : goal.add_entry-requires-clause-shared
add_entry-requires-clause-shared c = kept_shared _ c.add_body.ensures.grows c.requires.shared

pub returns-clause-grows : goal.returns-clause-grows
returns-clause-grows c = grows_on c.add_body.ensures.grows c.add_entry.ensures.grows
