use Rattle.std.proofs.Common.{◌≡◌, ◌∙◌, sym, ap, ◌+◌}
use Rattle.wf_num.specs.Ranges.{add_ranges, exact_range}
use Rattle.wf_ast.specs.TypedTree.{number}
use Rattle.wf_ast.specs.TypedTrees.{no_place, num_in, tree_of, place_of_node}
use Rattle.wf_facts_exprs.specs.Knowledge.{told}
use Rattle.wf_facts_exprs.specs.Claims.{claims_in, sum_of}
use Rattle.wf_facts_exprs.specs.RangeOf.{range_of, side_range}
use Rattle.wf_facts_exprs.proofs.AlikeLemmas.{met-alike}
use Rattle.wf_facts_exprs.proofs.JudgeLemmas.{number_alike}
use Rattle.wf_facts_exprs.proofs.ShapeLemmas.{varies_seen, constant_seen, sum-left, sum-right}
use Rattle.wf_facts_exprs.proofs.ranges.sum_range.Goals as goal

pub returns-in-Some-None : goal.returns-in-Some-None
returns-in-Some-None c =
    let fs = claims_in c.args.t.now (told c.args.facts.now) in
    let t = num_in (tree_of c.args.t.now c.args.a) in
    let u = num_in (tree_of c.args.t.now c.args.b) in
    let v = varies_seen c.args.t.now c.args.b c.expr-right.result.now (record { tree = c.expr-right.ensures.made; kinds = c.expr-right.ensures.kinds; parts = c.expr-right.ensures.parts }) (sym c.constant-2.ensures ∙ c.in-Some-None.is-1) in
    let x = c.range_of.ensures.range in
    let y = c.range_of-in-Some-None.ensures.range in
    let both : add_ranges c.range_of.result c.range_of-in-Some-None.result ≡ add_ranges (range_of fs t) (range_of fs u) = λ n. add_ranges (x n) (y n) in
    c.add.ensures.exact ∙ both ∙ ap (side_range (claims_in c.args.t.now (told c.args.facts.now))) (sym (sum-right t u v))

pub returns-in-None-Some : goal.returns-in-None-Some
returns-in-None-Some c =
    let fs = claims_in c.args.t.now (told c.args.facts.now) in
    let t = num_in (tree_of c.args.t.now c.args.a) in
    let u = num_in (tree_of c.args.t.now c.args.b) in
    let v = varies_seen c.args.t.now c.args.a c.expr-left.result.now (record { tree = c.expr-left.ensures.made; kinds = c.expr-left.ensures.kinds; parts = c.expr-left.ensures.parts }) (sym c.constant.ensures ∙ c.in-None-Some.is-0) in
    let x = c.range_of-in-None-Some.ensures.range in
    let y = c.range_of-in-None-Some-2.ensures.range in
    let both : add_ranges c.range_of-in-None-Some.result c.range_of-in-None-Some-2.result ≡ add_ranges (range_of fs t) (range_of fs u) = λ n. add_ranges (x n) (y n) in
    c.add-in-None-Some.ensures.exact ∙ both ∙ ap (side_range (claims_in c.args.t.now (told c.args.facts.now))) (sym (sum-left t u v))

pub returns-in-None-None : goal.returns-in-None-None
returns-in-None-None c =
    let fs = claims_in c.args.t.now (told c.args.facts.now) in
    let t = num_in (tree_of c.args.t.now c.args.a) in
    let u = num_in (tree_of c.args.t.now c.args.b) in
    let v = varies_seen c.args.t.now c.args.a c.expr-left.result.now (record { tree = c.expr-left.ensures.made; kinds = c.expr-left.ensures.kinds; parts = c.expr-left.ensures.parts }) (sym c.constant.ensures ∙ c.in-None-None.is-0) in
    let x = c.range_of-in-None-None.ensures.range in
    let y = c.range_of-in-None-None-2.ensures.range in
    let both : add_ranges c.range_of-in-None-None.result c.range_of-in-None-None-2.result ≡ add_ranges (range_of fs t) (range_of fs u) = λ n. add_ranges (x n) (y n) in
    c.add-in-None-None.ensures.exact ∙ both ∙ ap (side_range (claims_in c.args.t.now (told c.args.facts.now))) (sym (sum-left t u v))

pub returns-in-Some-Some : goal.returns-in-Some-Some
returns-in-Some-Some c =
    let fs = claims_in c.args.t.now (told c.args.facts.now) in
    let p = place_of_node c.args.t.now c.args.a.0 in
    let q = place_of_node c.args.t.now c.args.b.0 in
    let m = c.in-Some-Some.m in
    let n = c.in-Some-Some.n in
    let a = constant_seen c.args.t.now c.args.a c.expr-left.result.now (record { tree = c.expr-left.ensures.made; kinds = c.expr-left.ensures.kinds; parts = c.expr-left.ensures.parts }) m (sym c.constant.ensures ∙ c.in-Some-Some.is-0) in
    let b = constant_seen c.args.t.now c.args.b c.expr-right.result.now (record { tree = c.expr-right.ensures.made; kinds = c.expr-right.ensures.kinds; parts = c.expr-right.ensures.parts }) n (sym c.constant-2.ensures ∙ c.in-Some-Some.is-1) in
    let met_sum = met-alike fs (number no_place (m + n)) (number p (m + n)) (exact_range (m + n)) (number_alike no_place p (m + n)) in
    let back : side_range fs (sum_of (num_in (tree_of c.args.t.now c.args.a)) (num_in (tree_of c.args.t.now c.args.b))) ≡ side_range fs (sum_of (number p m) (number q n)) = λ i. side_range fs (sum_of (a i) (b i)) in
    c.constant_range.ensures ∙ met_sum ∙ sym back
