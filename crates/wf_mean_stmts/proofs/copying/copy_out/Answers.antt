use Rattle.std.proofs.Common.{◌≡◌, ◌≤◌, ◌∙◌, ℕ, refl, sym, ap, arith, length, min, subst, true}
use Rattle.wf_base.specs.BaseOps.{writer_length}
use Rattle.wf_meaning.specs.SourceStep.{are_bytes}
use Rattle.wf_mean_exprs.specs.MachineState.{span_seen, store_seen}
use Rattle.wf_mean_stmts.specs.Copies.{elements_on}
use Rattle.wf_mean_stmts.specs.Stages.{vars_on}
use Rattle.wf_mean_stmts.proofs.CopyOutLemmas.{PutSoFar, put_begins, put_ends, put_more}
use Rattle.wf_mean_stmts.proofs.copying.copy_out.Goals as goal

pub loop-i-init : goal.loop-i-init
loop-i-init c =
    let nodes = c.args.t.now in
    let s = store_seen c.args.from.store in
    let sf = c.args.from.from in
    let count = (span_seen c.args.from).count in
    let n = c.min-n.result in
    let vars0 = vars_on nodes c.args.stage.now in
    record {
      put = λ buffer h.
          let same : c.at.result.now ≡ buffer = cc (c.at.ensures, h) in
          let room : c.writer_length.result ≡ writer_length buffer = c.writer_length.ensures ∙ ap writer_length same in
          let few : n ≤ length (elements_on nodes c.args.stage.now c.args.from) = omega (arith, c.min-n.ensures, c.elements_len.ensures.len) in
          let fits : n ≤ writer_length buffer = omega (arith, c.min-n.ensures, room) in
          put_begins s sf count n c.args.k buffer vars0 h few fits;
      there = c.requires.there;
      shape = refl;
      turns = refl;
    }

pub loop-i-preserved : goal.loop-i-preserved
loop-i-preserved c =
    let nodes = c.args.t.now in
    let s = store_seen c.args.from.store in
    let sf = c.args.from.from in
    let count = (span_seen c.args.from).count in
    let n = c.min-n.result in
    let vars0 = vars_on nodes c.args.stage.now in
    let bytes : are_bytes (elements_on nodes c.args.stage.now c.args.from) ≡ true = sym c.all_fit.ensures ∙ c.if-not-all_fit.false in
    record {
      put = λ buffer h.
          let same : c.at.result.now ≡ buffer = cc (c.at.ensures, h) in
          let room : c.writer_length.result ≡ writer_length buffer = c.writer_length.ensures ∙ ap writer_length same in
          let few : n ≤ length (elements_on nodes c.args.stage.now c.args.from) = omega (arith, c.min-n.ensures, c.elements_len.ensures.len) in
          let fits : n ≤ writer_length buffer = omega (arith, c.min-n.ensures, room) in
          put_more s sf count n c.args.k buffer vars0 h few fits c.loop-i.i (vars_on nodes c.loop-i.stage) (vars_on nodes c.write_element.new.stage) c.loop-i-test.true bytes (c.loop-i.invariant.put buffer h) c.write_element.ensures.vars;
      there = omega (arith, c.loop-i.invariant.there, c.write_element.ensures.count);
      shape = c.write_element.ensures.shape ∙ c.loop-i.invariant.shape;
      turns = c.write_element.ensures.turns ∙ c.loop-i.invariant.turns;
    }

pub returns-clause-vars : goal.returns-clause-vars
returns-clause-vars c = λ buffer h.
    let nodes = c.args.t.now in
    let s = store_seen c.args.from.store in
    let sf = c.args.from.from in
    let count = (span_seen c.args.from).count in
    let n = c.min-n.result in
    let vars0 = vars_on nodes c.args.stage.now in
    let bytes : are_bytes (elements_on nodes c.args.stage.now c.args.from) ≡ true = sym c.all_fit.ensures ∙ c.if-not-all_fit.false in
    let same : c.at.result.now ≡ buffer = cc (c.at.ensures, h) in
    let room : c.writer_length.result ≡ writer_length buffer = c.writer_length.ensures ∙ ap writer_length same in
    let few : n ≤ length (elements_on nodes c.args.stage.now c.args.from) = omega (arith, c.min-n.ensures, c.elements_len.ensures.len) in
    let fits : n ≤ writer_length buffer = omega (arith, c.min-n.ensures, room) in
    let end : c.loop-i.i ≡ n = omega (arith, c.loop-i-test.false, c.loop-i.auto.i-end) in
    let P : ℕ → Type 0 = λ i. PutSoFar s sf count n c.args.k buffer vars0 i (vars_on nodes c.loop-i.stage) in
    let all : n ≡ min (length (elements_on nodes c.args.stage.now c.args.from)) (writer_length buffer) = omega (arith, c.min-n.ensures, c.elements_len.ensures.len, room) in
    put_ends s sf count n c.args.k buffer vars0 h few fits (vars_on nodes c.loop-i.stage) all bytes (subst P end (c.loop-i.invariant.put buffer h))
