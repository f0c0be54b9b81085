use Rattle.std.proofs.Common.{◌≡◌, ◌+◌, ◌-◌, ◌/◌, ℕ, List, sym, subst, arith}
use Rattle.wf_base.specs.BaseTable.{bits_of}
use Rattle.c_text.specs.declared.ids.CExprId.{CExprId}
use Rattle.wf_exprs.specs.Exprs.{bytes_ahead}
use Rattle.wf_exprs.proofs.Growing.{grows_on}
use Rattle.wf_exprs_nodes.specs.Trees.{HasOperands}
use Rattle.wf_exprs_nodes.proofs.OperandLaws.{bytes_pushed}
use Rattle.wf_exprs_nodes.proofs.asking.higher_bytes.Goals as goal

pub returns-in_err-byte-clause-grows : goal.returns-in_err-byte-clause-grows
returns-in_err-byte-clause-grows c = grows_on c.loop-below.invariant.grows c.byte_ahead.ensures.grows

pub returns-in_err-push-clause-grows : goal.returns-in_err-push-clause-grows
returns-in_err-push-clause-grows c = grows_on c.loop-below.invariant.grows c.byte_ahead.ensures.grows

pub loop-below-preserved : goal.loop-below-preserved
loop-below-preserved c =
    let inv = c.loop-below.invariant in
    record {
      from = omega (arith, inv.from);
      within = omega (arith, c.loop-below-test.true, c.bytes_in-below-end.ensures.bytes);
      grows = grows_on inv.grows c.byte_ahead.ensures.grows;
      has = subst (λ (es : List CExprId). HasOperands c.byte_ahead.new.u es (bytes_ahead c.args.scope.now.names c.args.a (bits_of c.args.width) c.args.big 2 (c.loop-below.below + 1 - 2))) (sym c.in_ok-push.ensures.ok)
          (bytes_pushed _ _ c.args.scope.now.names c.args.a (bits_of c.args.width) c.args.big c.loop-below.below _ _ inv.from c.byte_ahead.ensures.grows inv.has c.in_ok-byte.ensures.made);
    }

pub returns-clause-made : goal.returns-clause-made
returns-clause-made c =
    let inv = c.loop-below.invariant in
    let same : c.loop-below.below - 2 ≡ bits_of c.args.width / 8 - 2 = omega (arith, inv.within, c.loop-below-test.false, c.bytes_in-below-end.ensures.bytes) in
    subst (λ (n : ℕ). HasOperands c.loop-below.u c.loop-below.others (bytes_ahead c.args.scope.now.names c.args.a (bits_of c.args.width) c.args.big 2 n)) same inv.has
