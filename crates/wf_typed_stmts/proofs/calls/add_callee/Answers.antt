use Rattle.wf_typed_stmts.proofs.SimpleLemmas.{base_callee}
use Rattle.wf_typed_stmts.proofs.calls.add_callee.Goals as goal

pub returns-in_ok-made-in-Base-clause-made : goal.returns-in_ok-made-in-Base-clause-made
returns-in_ok-made-in-Base-clause-made c =
    let right = rw c.in-Base.is at c.requires.right in
    rw c.in-Base.is (base_callee c.args.here.now.around.now c.push_path.new.self c.args.mark c.in-Base.on c.in-Base.sig c.in_ok-made-in-Base.made.node c.in_ok-made-in-Base.ensures.stands right.1)
