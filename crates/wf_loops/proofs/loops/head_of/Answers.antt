use Rattle.wf_loops.proofs.LoopLemmas.{loop_within, loop_stmt, loop_is, head_seen}
use Rattle.wf_loops.proofs.loops.head_of.Goals as goal

pub stmt-requires : goal.stmt-requires
stmt-requires c = loop_within c.args.t.now c.args.w c.requires

pub unreachable-requires : goal.unreachable-requires
unreachable-requires c =
    let it = loop_is c.args.t.now c.stmt.result.now (loop_stmt c.args.t.now c.args.w c.stmt.result.now c.requires c.stmt.ensures.node) in
    c.in_default.not-While it.head it.body it.is

pub returns-clause-cond : goal.returns-clause-cond
returns-clause-cond c = (head_seen c.args.t.now c.args.w c.in-While.head c.in-While.body c.requires (rw c.in-While.is at c.stmt.ensures.node)).cond

pub returns-clause-promises : goal.returns-clause-promises
returns-clause-promises c = (head_seen c.args.t.now c.args.w c.in-While.head c.in-While.body c.requires (rw c.in-While.is at c.stmt.ensures.node)).promises

pub returns-clause-left : goal.returns-clause-left
returns-clause-left c = (head_seen c.args.t.now c.args.w c.in-While.head c.in-While.body c.requires (rw c.in-While.is at c.stmt.ensures.node)).left

pub returns-clause-condition : goal.returns-clause-condition
returns-clause-condition c = (head_seen c.args.t.now c.args.w c.in-While.head c.in-While.body c.requires (rw c.in-While.is at c.stmt.ensures.node)).condition

pub returns-clause-conditions : goal.returns-clause-conditions
returns-clause-conditions c = (head_seen c.args.t.now c.args.w c.in-While.head c.in-While.body c.requires (rw c.in-While.is at c.stmt.ensures.node)).conditions
