use Rattle.std.proofs.Common.{ap, sym, ◌∙◌}
use Rattle.wf_base.specs.BaseTable.{bits_of}
use Rattle.wf_ast.specs.TypedTrees.{tree_of}
use Rattle.wf_facts_exprs.specs.Demands.{demand, unless_refused}
use Rattle.wf_bounds_stmts.specs.Requirements.{place_of}
use Rattle.wf_bounds_stmts.proofs.LimitLemmas.{lies-is}
use Rattle.wf_bounds_stmts.proofs.limits.check_number.Goals as goal

pub returns-then-lies_in : goal.returns-then-lies_in
returns-then-lies_in c facts known =
    let v = tree_of c.args.t.now c.args.e in
    let e = lies-is c.args.rule facts c.in-Num.width c.in-Num.lo c.in-Num.hi c.args.ty v c.args.range c.in-Num.is known in
    let test = sym (c.lies_in.ensures (bits_of c.in-Num.width)) ∙ c.if-lies_in.true in
    sym (ap (λ p. unless_refused p (tt {0})) (e ∙ ap (λ b. demand b c.args.rule (place_of v)) test))

pub returns-else-lies_in : goal.returns-else-lies_in
returns-else-lies_in c facts known =
    let v = tree_of c.args.t.now c.args.e in
    let e = lies-is c.args.rule facts c.in-Num.width c.in-Num.lo c.in-Num.hi c.args.ty v c.args.range c.in-Num.is known in
    let test = sym (c.lies_in.ensures (bits_of c.in-Num.width)) ∙ c.if-lies_in.false in
    rw c.place.ensures (sym (ap (λ p. unless_refused p (tt {0})) (e ∙ ap (λ b. demand b c.args.rule (place_of v)) test)))
