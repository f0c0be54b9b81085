use Rattle.std.proofs.Common.{arith}
use Rattle.wf_typed_exprs.specs.Growth.{IsPushed}
use Rattle.wf_typed_exprs.proofs.EntryLemmas.{pushed_adds}
use Rattle.wf_typed_exprs.proofs.PushLemmas.{pushed_is, pushed_grows, pushed_made, pushed_typed, pushed_counted, pushed_built}
use Rattle.wf_typed_exprs.proofs.building.Building.push_expr.Goals as goal

pub invariant_of-self : goal.invariant_of-self
invariant_of-self c =
    pushed_built c.self.inside.rest c.self.inside.columns c.push.new.self c.args.one c.self.invariant _ (omega (arith, c.len-number.ensures, c.if-number-ge-NUMBERS.false)) (rw (← c.self.view_is) at c.requires.below)
    (rw (← c.self.view_is) at c.requires.fits) c.push.ensures.exprs c.push.ensures.types c.push.ensures.constants

pub invariant_of-self-2 : goal.invariant_of-self-2
invariant_of-self-2 c =
    pushed_built c.self.inside.rest c.self.inside.columns c.push.new.self c.args.one c.self.invariant _ (omega (arith, c.len-number.ensures, c.if-number-ge-NUMBERS.false)) (rw (← c.self.view_is) at c.requires.below)
    (rw (← c.self.view_is) at c.requires.fits) c.push.ensures.exprs c.push.ensures.types c.push.ensures.constants

pub returns-clause-ok : goal.returns-clause-ok
returns-clause-ok c =
    let p : IsPushed c.self.inside.columns c.push.new.self c.args.one = record { exprs = c.in_ok-push.ensures.exprs; types = c.in_ok-push.ensures.types; constants = c.in_ok-push.ensures.constants } in
    rw (← c.self.view_is) (pushed_is c.self.inside.rest c.self.inside.columns c.push.new.self c.args.one c.self.invariant p)

pub returns-clause-grows : goal.returns-clause-grows
returns-clause-grows c =
    let p : IsPushed c.self.inside.columns c.push.new.self c.args.one = record { exprs = c.in_ok-push.ensures.exprs; types = c.in_ok-push.ensures.types; constants = c.in_ok-push.ensures.constants } in
    rw (← c.self.view_is) (pushed_grows c.self.inside.rest c.self.inside.columns c.push.new.self c.args.one c.self.invariant p)

pub returns-clause-made : goal.returns-clause-made
returns-clause-made c =
    let p : IsPushed c.self.inside.columns c.push.new.self c.args.one = record { exprs = c.in_ok-push.ensures.exprs; types = c.in_ok-push.ensures.types; constants = c.in_ok-push.ensures.constants } in
    rw (← c.self.view_is)
    (pushed_made c.self.inside.rest c.self.inside.columns c.push.new.self c.args.one c.self.invariant (record { 0 = c.len-number.result }) (omega (arith, c.len-number.ensures)) p)

pub returns-clause-typed : goal.returns-clause-typed
returns-clause-typed c =
    let p : IsPushed c.self.inside.columns c.push.new.self c.args.one = record { exprs = c.in_ok-push.ensures.exprs; types = c.in_ok-push.ensures.types; constants = c.in_ok-push.ensures.constants } in
    pushed_typed c.self.inside.rest c.self.inside.columns c.push.new.self c.args.one c.self.invariant (record { 0 = c.len-number.result }) (omega (arith, c.len-number.ensures)) p

pub returns-clause-counted : goal.returns-clause-counted
returns-clause-counted c =
    let p : IsPushed c.self.inside.columns c.push.new.self c.args.one = record { exprs = c.in_ok-push.ensures.exprs; types = c.in_ok-push.ensures.types; constants = c.in_ok-push.ensures.constants } in
    pushed_counted c.self.inside.rest c.self.inside.columns c.push.new.self c.args.one c.self.invariant (record { 0 = c.len-number.result }) (omega (arith, c.len-number.ensures)) p

pub returns-clause-adds : goal.returns-clause-adds
returns-clause-adds c =
    let p : IsPushed c.self.inside.columns c.push.new.self c.args.one = record { exprs = c.in_ok-push.ensures.exprs; types = c.in_ok-push.ensures.types; constants = c.in_ok-push.ensures.constants } in
    rw (← c.self.view_is) (pushed_adds c.self.inside.rest c.self.inside.columns c.push.new.self c.args.one c.self.invariant p)
