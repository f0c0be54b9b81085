use Rattle.std.proofs.Common.{◌≤◌, ◌∙◌, sym, ap, subst, List, length, None}
use Rattle.wf_points.specs.declared.finding.FoundPoint.{FoundPoint}
use Rattle.wf_points.specs.PointNumbers.{number_at, earlier, most_points}
use Rattle.wf_points.specs.FoundPoints.{limit_of, numbered_from}
use Rattle.wf_points.proofs.NumberLemmas.{body_known, few_found, numbers_method}
use Rattle.wf_points.proofs.deciding.number_method.Goals as goal

pub find_points-requires-clause-known : goal.find_points-requires-clause-known
find_points-requires-clause-known c = body_known c.args.t.now c.requires.typed c.args.m.0 c.body.result.now c.body.ensures

pub number_points-requires : goal.number_points-requires
number_points-requires c =
    let P : List FoundPoint → Type 0 = λ ps. length ps ≤ most_points in
    subst P (c.as_slice.ensures ∙ sym c.as_slice-in-None.ensures) (few_found c.as_slice.result.now (sym c.in-None.is ∙ c.too_many.ensures))

pub returns-in-Some : goal.returns-in-Some
returns-in-Some c =
    numbers_method c.args.t.now c.requires.typed c.args.m.0 c.body.result.now c.requires.known c.body.ensures c.in_ok-found.found c.in_ok-found.ensures c.args.numbers.now.items c.args.numbers.now.items _
    (sym c.in-Some.is ∙ c.too_many.ensures ∙ ap limit_of c.as_slice.ensures) (λ none s. absurd (cc none))

pub returns : goal.returns
returns c =
    numbers_method c.args.t.now c.requires.typed c.args.m.0 c.body.result.now c.requires.known c.body.ensures c.in_ok-found.found c.in_ok-found.ensures c.args.numbers.now.items c.number_points.new.numbers.items None
    (sym c.in-None.is ∙ c.too_many.ensures ∙ ap limit_of c.as_slice.ensures)
    (λ none s. c.in_ok-number_points-in-None.ensures s ∙ ap (λ ps. earlier (number_at c.args.numbers.now.items s) (numbered_from 1 ps s)) c.as_slice-in-None.ensures)
