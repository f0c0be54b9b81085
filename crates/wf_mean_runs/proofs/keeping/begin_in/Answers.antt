use Rattle.std.proofs.Common.{◌∙◌, map, ap, sym}
use Rattle.wf_ast.specs.declared.declarations.Var.{Var}
use Rattle.wf_meaning.specs.SourceCall.{fresh_local}
use Rattle.wf_mean_runs.proofs.BodyLaws.{fresh_locals}
use Rattle.wf_mean_runs.proofs.keeping.begin_in.Goals as goal

pub returns-clause-locals : goal.returns-clause-locals
returns-clause-locals c =
    let nodes = c.args.t.now in
    c.begin_locals.ensures ∙ ap (map (λ (x : Var). fresh_local x.ty)) c.as_slice.ensures ∙ sym (fresh_locals nodes c.requires.typed c.args.m.0 c.method.result.now c.method.ensures)
