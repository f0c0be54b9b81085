use Rattle.std.proofs.Common.{◌≤◌, ◌∙◌, length, get_or, arith}
use Rattle.std.proofs.lemmas.List.{length-map}
use Rattle.wf_named.specs.declared.declarations.NamedVar.{NamedVar}
use Rattle.wf_text.specs.declared.place.Place.{Place}
use Rattle.wf_typed_stmts.proofs.GrowthLemmas.{exprs_more_still}
use Rattle.wf_types.specs.Locals.{places_named}
use Rattle.wf_types.proofs.EntryLemmas.{local_next, locals_end}
use Rattle.wf_types.proofs.LocalLemmas.{first_more, place_at, first_all}
use Rattle.wf_types.proofs.locals.elaborate_locals.Goals as goal

pub loop-number-preserved : goal.loop-number-preserved
loop-number-preserved c =
    let xs = c.args.locals.now in
    let n = c.loop-number.number in
    let x = c.index-locals-number.result in
    let old = c.loop-number.nodes in
    let new = c.push_path.new.self in
    let made = c.loop-number.invariant in (
      exprs_more_still c.args.nodes.now old new made.0 c.in_ok-push_path.ensures.grows,
      (
        c.in_ok-push_path.ensures.begun,
        (
          first_more c.args.here.now.around.now old new (places_named xs) (length c.args.nodes.now.exprs) n (get_or xs n x).name.at c.in_ok-push_path.field-0.node c.in_ok-push_path.ensures.grows (place_at xs n x c.loop-number-test.true)
              (c.in_ok-push_path.ensures.number ∙ made.1.1.1.1) c.in_ok-push_path.ensures.stands made.1.1.0,
          (
            local_next c.args.here.now.around.now c.args.nodes.now old new (places_named xs) n (get_or xs n x).name.at (place_at xs n x c.loop-number-test.true) made.1.1.1.0 c.in_ok-push_path.ensures.entries,
            omega (arith, c.in_ok-push_path.ensures.count, made.1.1.1.1),
          ),
        ),
      ),
    )

pub returns-clause-stand : goal.returns-clause-stand
returns-clause-stand c =
    let xs = c.args.locals.now in
    let P : NamedVar → Place = λ y. y.name.at in
    let long = length-map xs P in
    let past : length (places_named xs) ≤ c.loop-number.number = omega (arith, long, c.loop-number-test.false) in
    first_all c.args.here.now.around.now c.loop-number.nodes (length c.args.nodes.now.exprs) c.loop-number.number (places_named xs) past c.loop-number.invariant.1.1.0

pub returns-clause-entries : goal.returns-clause-entries
returns-clause-entries c =
    let xs = c.args.locals.now in
    let P : NamedVar → Place = λ y. y.name.at in
    let long = length-map xs P in
    let past : length (places_named xs) ≤ c.loop-number.number = omega (arith, long, c.loop-number-test.false) in
    locals_end c.args.here.now.around.now c.args.nodes.now c.loop-number.nodes (places_named xs) c.loop-number.number past c.loop-number.invariant.1.1.1.0
