use Rattle.std.proofs.Common.{ap}
use Rattle.wf_ast.specs.TypedPackage.{method_of}
use Rattle.wf_exprs.specs.Scopes.{ScopeTree}
use Rattle.wf_lower_stmts.proofs.BodyLaws.{body_known, form_is, is_scoped, method_few, method_spelt, names_same, saved_known, saved_same}
use Rattle.wf_lower_stmts.proofs.WordLaws.{spelt_known}
use Rattle.wf_lower_stmts.proofs.body.Body.new.Goals as goal

pub structure-of-requires : goal.structure-of-requires
structure-of-requires c =
    let nodes = c.args.t.now in
    spelt_known nodes c.method-method.result.now (method_spelt nodes c.args.m.0 c.method-method.result.now c.requires.words c.method-method.ensures)

pub new-requires : goal.new-requires
new-requires c =
    let nodes = c.args.t.now in
    let m = c.method-method.result.now in
    is_scoped nodes m c.structure-of.result.now c.structure-of.ensures c.as_slice.result.now c.as_slice-2.result.now c.as_slice-3.result.now c.as_slice.ensures c.as_slice-2.ensures c.as_slice-3.ensures
    c.requires.typed c.requires.words (method_spelt nodes c.args.m.0 m c.requires.words c.method-method.ensures)

pub saved-requires : goal.saved-requires
saved-requires c = saved_known c.args.t.now c.args.m.0 c.method-method.result.now c.body-body.result.now c.method-method.ensures c.body-body.ensures c.args.points.now.saved c.requires.saved

pub returns-requires-clause-known : goal.returns-requires-clause-known
returns-requires-clause-known c = body_known c.args.t.now c.args.m.0 c.body-body.result.now c.requires.typed c.body-body.ensures

pub invariant_of-result : goal.invariant_of-result
invariant_of-result c =
    let nodes = c.args.t.now in
    let m = c.method-method.result.now in
    record {
      typed = c.requires.typed;
      words = c.requires.words;
      same_nodes = ap (λ (it : ScopeTree). it.nodes) c.new.ensures;
      same_names = names_same nodes m c.structure-of.result.now c.structure-of.ensures c.as_slice.result.now c.as_slice-2.result.now c.as_slice-3.result.now c.as_slice.ensures c.as_slice-2.ensures c.as_slice-3.ensures
          c.body-body.result.now c.new.result c.new.ensures;
      saved_same = saved_same nodes c.args.m.0 m c.body-body.result.now c.method-method.ensures c.body-body.ensures c.args.points.now.saved c.requires.saved c.saved.result.now c.saved.ensures;
      started_same = c.requires.started (method_of nodes m c.body-body.result.now) (form_is nodes c.args.m.0 m c.body-body.result.now c.method-method.ensures c.body-body.ensures);
      returned_same = c.returns.ensures;
      spelt = method_spelt nodes c.args.m.0 m c.requires.words c.method-method.ensures;
      few = method_few nodes c.args.m.0 m c.requires.typed c.method-method.ensures;
      small = c.requires.small;
    }

pub returns-clause-form : goal.returns-clause-form
returns-clause-form c = form_is c.args.t.now c.args.m.0 c.method-method.result.now c.body-body.result.now c.method-method.ensures c.body-body.ensures
