use Rattle.std.proofs.Common.{◌≡◌, ◌∙◌, ◌<◌, ◌≤◌, Some, length, get_or, sym, ap, arith}
use Rattle.std.proofs.lemmas.Option.{slice_get-get_or}
use Rattle.wf_named.specs.NamedParts.{exprs_of, stmts_of}
use Rattle.wf_named.specs.NamedTrees.{method_made}
use Rattle.wf_types_decls.proofs.HeadLemmas.{heads_long, heads_at}
use Rattle.wf_types.proofs.BodyLemmas.{bodies_begun, bodies_with, bodies_over, locals_with, locals_over, method_at}
use Rattle.wf_types.proofs.bodies.elaborate_bodies.Goals as goal

pub loop-number-init : goal.loop-number-init
loop-number-init c = (rw c.new-bodies.ensures (bodies_begun c.args.named.now c.args.nodes.now c.requires.declared), rw c.new-first_locals.ensures tt)

pub bounds-heads-number : goal.bounds-heads-number
bounds-heads-number c =
    let long = heads_long c.args.named.now c.as_slice-heads.result.now (c.as_slice-heads.ensures ∙ c.requires.judged.heads) in
    let same = ap length c.methods-methods.ensures.all in
    omega (arith, long, same, c.loop-number-test.true)

pub round_body-inside-requires-clause-fields : goal.round_body-inside-requires-clause-fields
round_body-inside-requires-clause-fields c = c.as_slice-fields.ensures ∙ c.requires.judged.fields

pub round_body-inside-requires-clause-head : goal.round_body-inside-requires-clause-head
round_body-inside-requires-clause-head c =
    let q = c.args.named.now in
    let i = c.loop-number.number in
    let m = c.index-methods-number.result in
    let low : i < length q.methods = rw c.methods-methods.ensures.all at c.loop-number-test.true in
    let is : m ≡ get_or q.methods i m = rw c.methods-methods.ensures.all at c.index-methods-number.is in
    heads_at q c.as_slice-heads.result.now (c.as_slice-heads.ensures ∙ c.requires.judged.heads) i m c.index-heads-number.result low is c.index-heads-number.is

pub elaborate_method-requires-clause-begun : goal.elaborate_method-requires-clause-begun
elaborate_method-requires-clause-begun c = c.loop-number.invariant.0.begun

pub elaborate_method-requires-clause-right : goal.elaborate_method-requires-clause-right
elaborate_method-requires-clause-right c =
    let q = c.args.named.now in
    let i = c.loop-number.number in
    let m = c.index-methods-number.result in
    let low : i < length q.methods = rw c.methods-methods.ensures.all at c.loop-number-test.true in
    let is : m ≡ get_or q.methods i m = rw c.methods-methods.ensures.all at c.index-methods-number.is in
    c.requires.right i (method_made q.texts (exprs_of q) (stmts_of q) m) (method_at q i m (slice_get-get_or q.methods i m low ∙ ap Some (sym is)))

pub elaborate_method-requires-clause-paths : goal.elaborate_method-requires-clause-paths
elaborate_method-requires-clause-paths c =
    let q = c.args.named.now in
    let i = c.loop-number.number in
    let m = c.index-methods-number.result in
    let low : i < length q.methods = rw c.methods-methods.ensures.all at c.loop-number-test.true in
    let is : m ≡ get_or q.methods i m = rw c.methods-methods.ensures.all at c.index-methods-number.is in
    c.requires.paths i (method_made q.texts (exprs_of q) (stmts_of q) m) (method_at q i m (slice_get-get_or q.methods i m low ∙ ap Some (sym is)))

pub loop-number-preserved : goal.loop-number-preserved
loop-number-preserved c =
    let q = c.args.named.now in
    let i = c.loop-number.number in
    let m = c.index-methods-number.result in
    let low : i < length q.methods = rw c.methods-methods.ensures.all at c.loop-number-test.true in
    let is : m ≡ get_or q.methods i m = rw c.methods-methods.ensures.all at c.index-methods-number.is in (
      bodies_with q i m low is c.loop-number.nodes c.elaborate_method.new.nodes c.loop-number.bodies c.push.new.self c.in_ok-made.made.body c.loop-number.invariant.0 c.in_ok-made.ensures.adds c.in_ok-made.ensures.entries c.in_ok-made.ensures.begun c.in_ok-made.ensures.stands c.in_ok-push.ensures.ok,
      locals_with q i m low is c.loop-number.nodes c.elaborate_method.new.nodes c.loop-number.first_locals c.push-in-loop-number.new.self c.in_ok-made.made.first_local c.loop-number.invariant.1 c.in_ok-made.ensures.adds c.in_ok-made.ensures.locals c.in_ok-push-2.ensures.ok,
    )

pub returns-clause-bodies : goal.returns-clause-bodies
returns-clause-bodies c =
    let q = c.args.named.now in
    let past : length q.methods ≤ c.loop-number.number = omega (arith, c.loop-number-test.false, ap length c.methods-methods.ensures.all) in
    bodies_over q c.loop-number.number c.loop-number.nodes c.loop-number.bodies past c.loop-number.invariant.0

pub returns-clause-locals : goal.returns-clause-locals
returns-clause-locals c =
    let q = c.args.named.now in
    let past : length q.methods ≤ c.loop-number.number = omega (arith, c.loop-number-test.false, ap length c.methods-methods.ensures.all) in
    locals_over q c.loop-number.number c.loop-number.nodes c.loop-number.first_locals past c.loop-number.invariant.1
