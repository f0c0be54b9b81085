use Rattle.std.proofs.Common.{◌≤◌, ◌<◌, ◌+◌, sym, subst, length, drop, Option, arith}
use Rattle.wf_text.specs.declared.rules.Refusal.{Refusal}
use Rattle.wf_ast.specs.TypedPackage.{package_of}
use Rattle.wf_points.proofs.LoopLemmas.{NumbersLeft, next_method, all_methods}
use Rattle.wf_points.proofs.NumberLemmas.{tree_there, methods_long}
use Rattle.wf_points.proofs.deciding.number_methods.Goals as goal

pub loop-m-preserved : goal.loop-m-preserved
loop-m-preserved c =
    let nodes = c.args.t.now in
    let t = c.loop-m-test.true in
    let n = c.methods-m-end.ensures in
    let below : c.loop-m.m < length nodes.methods = omega (arith, t, n) in
    let m = tree_there nodes c.requires c.loop-m.m below in
    let P : Option Refusal → Type 0 = λ r. NumbersLeft c.args.numbers.now.items c.number_method.new.numbers.items r (drop (c.loop-m.m + 1) (package_of nodes).methods) (package_of nodes).methods in
    subst P (sym c.sooner-refusal.ensures)
    (next_method c.args.numbers.now.items c.loop-m.numbers.items c.number_method.new.numbers.items c.loop-m.refusal c.in_ok-number_method.field-0 (package_of nodes).methods c.loop-m.m m.0 m.1 c.loop-m.invariant (c.in_ok-number_method.ensures m.0 m.1))

pub returns : goal.returns
returns c =
    let nodes = c.args.t.now in
    let long = methods_long nodes c.requires in
    let t = c.loop-m-test.false in
    let n = c.methods-m-end.ensures in
    let past : length (package_of nodes).methods ≤ c.loop-m.m = omega (arith, long, t, n) in
    all_methods c.args.numbers.now.items c.loop-m.numbers.items c.loop-m.refusal (package_of nodes).methods c.loop-m.m past c.loop-m.invariant
