use Rattle.std.proofs.Common.{◌≤◌, ◌<◌, length, arith}
use Rattle.c_form_exprs.specs.Front.{scope_in}
use Rattle.c_form_exprs.proofs.ArgLemmas.{takes_apart}
use Rattle.c_form_exprs.proofs.ClimbLemmas.{climbs_below, climbs_told, climbs_held, climbs_next}
use Rattle.c_form_exprs.proofs.scope.CScope.+expr_types.Goals as goal

pub climb-linked-requires : goal.climb-linked-requires
climb-linked-requires t c =
    let low : c.in-Some.link.0 ≤ c.args.e.0 = climbs_below c.args.self.now.front.nodes (scope_in c.args.self.now) c.args.e c.loop-link.links.items c.pop.new.self.items c.in-Some.link c.loop-link.found c.in-Some.ensures.items c.loop-link.invariant in
    let within : c.args.e.0 < length c.args.self.now.front.nodes.exprs = c.requires.within in (
      omega (arith, low, c.decreases),
      (omega (arith, low, within), climbs_told c.args.self.now.front.nodes (scope_in c.args.self.now) c.args.e c.loop-link.links.items c.loop-link.found c.loop-link.invariant),
    )

pub climb-held_value-found-requires : goal.climb-held_value-found-requires
climb-held_value-found-requires t c = climbs_held c.args.self.now.front.nodes (scope_in c.args.self.now) c.args.e c.loop-link.links.items c.pop.new.self.items c.in-Some.link c.loop-link.found c.in_ok-held.held c.in-Some.ensures.items c.loop-link.invariant c.in_ok-held.ensures

pub climb-loop-link-preserved : goal.climb-loop-link-preserved
climb-loop-link-preserved t c = climbs_next c.args.self.now.front.nodes (scope_in c.args.self.now) c.args.e c.loop-link.links.items c.pop.new.self.items c.in-Some.link c.loop-link.found c.held_value-found.result c.in_ok-held.held c.in-Some.ensures.items c.loop-link.invariant c.in_ok-held.ensures c.held_value-found.ensures

pub takes-returns-then-params-given : goal.takes-returns-then-params-given
takes-returns-then-params-given t c = takes_apart c.args.self.now.front.nodes (scope_in c.args.self.now) c.args.params.now c.args.given.now c.if-params-given.true
