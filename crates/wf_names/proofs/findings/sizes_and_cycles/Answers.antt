use Rattle.std.proofs.Common.{◌∙◌, ap}
use Rattle.wf_names_rules.specs.StructRows.{AreStructRows}
use Rattle.wf_names_cycles.proofs.MethodLemmas.{graph-few}
use Rattle.wf_names_cycles.proofs.SectionLemmas.{methods-within}
use Rattle.wf_names_cycles.proofs.StructLemmas.{package-structs-few}
use Rattle.wf_names.proofs.findings.sizes_and_cycles.Goals as goal
use Rattle.wf_names_rules.specs.Declarations.{declared_in}

pub named_cycles-requires-clause-few : goal.named_cycles-requires-clause-few
named_cycles-requires-clause-few c =
    let p = c.args.parsed.now in
    let rows : AreStructRows (declared_in p) c.in_ok-holds.holds.items = c.in_ok-holds.ensures (declared_in p) c.in_ok-sizes.ensures (package-structs-few p.exprs p.stmts p.decls _ c.requires.few) in
    rw c.as_slice.ensures.value rows.few

pub named_cycles-requires-clause-within : goal.named_cycles-requires-clause-within
named_cycles-requires-clause-within c =
    let p = c.args.parsed.now in
    let rows : AreStructRows (declared_in p) c.in_ok-holds.holds.items = c.in_ok-holds.ensures (declared_in p) c.in_ok-sizes.ensures (package-structs-few p.exprs p.stmts p.decls _ c.requires.few) in
    rw c.as_slice.ensures.value rows.within

pub named_cycles-requires-2-clause-few : goal.named_cycles-requires-2-clause-few
named_cycles-requires-2-clause-few c =
    let p = c.args.parsed.now in graph-few p.texts p.exprs p.stmts p.decls c.args.calls.now c.requires.calls _ c.requires.few

pub named_cycles-requires-2-clause-within : goal.named_cycles-requires-2-clause-within
named_cycles-requires-2-clause-within c = methods-within (declared_in c.args.parsed.now) c.args.calls.now c.requires.calls

pub returns-clause-cycles : goal.returns-clause-cycles
returns-clause-cycles c =
    let p = c.args.parsed.now in
    let rows : AreStructRows (declared_in p) c.in_ok-holds.holds.items = c.in_ok-holds.ensures (declared_in p) c.in_ok-sizes.ensures (package-structs-few p.exprs p.stmts p.decls _ c.requires.few) in
    record {
      structs = c.in_ok-structs.ensures.structs (declared_in p) (rw c.as_slice.ensures.value rows) (ap (λ r. r.0.items) c.into_structs_and_methods-structs.ensures ∙ c.requires.names.structs);
      methods = c.in_ok-methods.ensures.methods (declared_in p) c.requires.calls (ap (λ r. r.1.items) c.into_structs_and_methods-structs.ensures ∙ c.requires.names.methods);
    }
