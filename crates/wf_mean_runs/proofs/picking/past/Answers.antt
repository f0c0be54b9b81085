use Rattle.std.proofs.Common.{◌+◌, ◌≡◌, suc, arith, subst, ℕ, true, nat_lt, take}
use Rattle.std.specs.List.{list_all}
use Rattle.wf_ast.specs.declared.numbers.StmtId.{StmtId}
use Rattle.wf_mean_runs.proofs.BlockLaws.{known_inside, one_below}
use Rattle.wf_mean_runs.proofs.picking.past.Goals as goal

pub loop-i-preserved : goal.loop-i-preserved
loop-i-preserved c =
    let l = c.loop-i in
    let next : suc l.i ≡ l.i + 1 = omega arith in
    let P : ℕ → Type 0 = λ k. list_all (λ (s : StmtId). nat_lt s.0 c.above-top.result) (take k c.args.items.now) ≡ true in
    record {
      above = subst P next (one_below c.args.items.now l.i l.top c.above-top.result _ c.loop-i-test.true l.invariant.above c.above-top.ensures.more c.above-top.ensures.own);
      least = λ n h. c.above-top.ensures.least n (l.invariant.least n h) (known_inside c.args.items.now n n l.i _ (omega arith) h c.loop-i-test.true);
    }
