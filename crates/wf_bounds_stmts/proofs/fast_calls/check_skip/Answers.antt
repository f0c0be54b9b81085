use Rattle.std.proofs.Common.{◌≡◌, [], ◌∷◌, None, ap, sym, ◌∙◌}
use Rattle.std.proofs.lemmas.Result.{err_from_is_err_and}
use Rattle.wf_facts_exprs.specs.Knowledge.{told}
use Rattle.wf_text.specs.declared.rules.Rule.TheVariants.{B8, B9}
use Rattle.wf_base.specs.declared.widths.Width.TheVariants.{W32}
use Rattle.wf_ast.specs.TypedTree.{asked, at_most, at_least, reader_length, numeric, skip_fast}
use Rattle.wf_ast.specs.TypedTrees.{io_in, tree_of}
use Rattle.wf_ast.specs.NodeKinds.{node_number}
use Rattle.wf_facts_exprs.specs.Claims.{claims_in, single}
use Rattle.wf_facts_exprs.specs.Demands.{demand, unless_refused}
use Rattle.wf_facts_exprs.specs.Given.{gives_sides}
use Rattle.wf_bounds_stmts.specs.Requirements.{all_handed, number_type}
use Rattle.wf_bounds_stmts.specs.Calls.{all_of, premise_refusal}
use Rattle.wf_bounds_stmts.proofs.OutcomeLemmas.{is-fine}
use Rattle.wf_bounds_stmts.proofs.FastLemmas.{numeric_by, two-handed, two-fine, reader-given, first-stops, second-stops, last-decides}
use Rattle.wf_bounds_stmts.proofs.fast_calls.check_skip.Goals as goal

pub returns-in_err-check_two : goal.returns-in_err-check_two
returns-in_err-check_two c =
    let r = err_from_is_err_and c.from_residual.result c.from_residual.ensures.1 in
    let t = c.args.t.now in
    let fs = claims_in t (told c.args.facts.now) in
    let a = numeric_by t c.args.skip.actual c.look_at-2.ensures c.requires.actual in
    let w = numeric_by t c.args.skip.worst_case c.look_at-3.ensures c.requires.worst_case in
    let call = skip_fast (io_in (tree_of t c.args.skip.on)) (node_number t c.args.skip.actual) (node_number t c.args.skip.worst_case) in
    rw (r.1, r.2) (first-stops _ (premise_refusal fs c.args.at call) c.in_err-check_two.field-0.0
    (rw (two-handed t fs W32 (number_type c.all_of.result) c.all_of.ensures c.args.skip.actual c.args.skip.worst_case a w) at (sym c.check_two.ensures ∙ c.in_err-check_two.was)))

pub returns-in_err-check_given : goal.returns-in_err-check_given
returns-in_err-check_given c =
    let r = err_from_is_err_and c.from_residual-in_err-check_given.result c.from_residual-in_err-check_given.ensures.1 in
    let t = c.args.t.now in
    let fs = claims_in t (told c.args.facts.now) in
    let a = numeric_by t c.args.skip.actual c.look_at-2.ensures c.requires.actual in
    let w = numeric_by t c.args.skip.worst_case c.look_at-3.ensures c.requires.worst_case in
    let x = node_number t c.args.skip.actual in
    let y = node_number t c.args.skip.worst_case in
    let p = all_handed B8 fs ((all_of W32, numeric x) ∷ (all_of W32, numeric y) ∷ []) in
    let q = demand (gives_sides fs (single x) at_most (single y)) B9 c.args.at in
    let d = demand (gives_sides fs (single (asked c.args.at reader_length (io_in (tree_of t c.args.skip.on)))) at_least (single y)) B9 c.args.at in
    let fine : p ≡ None =
    is-fine p (rw (two-handed t fs W32 (number_type c.all_of.result) c.all_of.ensures c.args.skip.actual c.args.skip.worst_case a w) at (sym c.check_two.ensures ∙ c.in_ok-check_two.was)) in
    rw (r.1, r.2) (second-stops p q d c.in_err-check_given.field-0.0 fine (sym c.check_given.ensures ∙ c.in_err-check_given.was))

pub returns : goal.returns
returns c =
    let t = c.args.t.now in
    let fs = claims_in t (told c.args.facts.now) in
    let a = numeric_by t c.args.skip.actual c.look_at-2.ensures c.requires.actual in
    let w = numeric_by t c.args.skip.worst_case c.look_at-3.ensures c.requires.worst_case in
    let x = node_number t c.args.skip.actual in
    let y = node_number t c.args.skip.worst_case in
    let p = all_handed B8 fs ((all_of W32, numeric x) ∷ (all_of W32, numeric y) ∷ []) in
    let q = demand (gives_sides fs (single x) at_most (single y)) B9 c.args.at in
    let d = demand (gives_sides fs (single (asked c.args.at reader_length (io_in (tree_of t c.args.skip.on)))) at_least (single y)) B9 c.args.at in
    let fine : p ≡ None =
    is-fine p (rw (two-handed t fs W32 (number_type c.all_of.result) c.all_of.ensures c.args.skip.actual c.args.skip.worst_case a w) at (sym c.check_two.ensures ∙ c.in_ok-check_two.was)) in
    let met : q ≡ None = is-fine q (sym c.check_given.ensures ∙ c.in_ok-check_given.was) in
    let length = reader-given fs t c.args.skip.on c.args.at y c.requires.on c.look_at.ensures in
    last-decides p q d c.check_given-2.result fine met (c.check_given-2.ensures ∙ ap (λ b. unless_refused (demand b B9 c.args.at) tt) length)

pub check_given-requires-clause-left_fine : goal.check_given-requires-clause-left_fine
check_given-requires-clause-left_fine c =
    let t = c.args.t.now in
    let fs = claims_in t (told c.args.facts.now) in
    let a = numeric_by t c.args.skip.actual c.look_at-2.ensures c.requires.actual in
    let w = numeric_by t c.args.skip.worst_case c.look_at-3.ensures c.requires.worst_case in
    let p = all_handed B8 fs ((all_of W32, numeric (node_number t c.args.skip.actual)) ∷ (all_of W32, numeric (node_number t c.args.skip.worst_case)) ∷ []) in
    let fine : p ≡ None = is-fine p (rw (two-handed t fs W32 (number_type c.all_of.result) c.all_of.ensures c.args.skip.actual c.args.skip.worst_case a w) at (sym c.check_two.ensures ∙ c.in_ok-check_two.was)) in
    (two-fine fs (all_of W32) (node_number t c.args.skip.actual) (node_number t c.args.skip.worst_case) fine).0

pub check_given-requires-clause-right_fine : goal.check_given-requires-clause-right_fine
check_given-requires-clause-right_fine c =
    let t = c.args.t.now in
    let fs = claims_in t (told c.args.facts.now) in
    let a = numeric_by t c.args.skip.actual c.look_at-2.ensures c.requires.actual in
    let w = numeric_by t c.args.skip.worst_case c.look_at-3.ensures c.requires.worst_case in
    let p = all_handed B8 fs ((all_of W32, numeric (node_number t c.args.skip.actual)) ∷ (all_of W32, numeric (node_number t c.args.skip.worst_case)) ∷ []) in
    let fine : p ≡ None = is-fine p (rw (two-handed t fs W32 (number_type c.all_of.result) c.all_of.ensures c.args.skip.actual c.args.skip.worst_case a w) at (sym c.check_two.ensures ∙ c.in_ok-check_two.was)) in
    (two-fine fs (all_of W32) (node_number t c.args.skip.actual) (node_number t c.args.skip.worst_case) fine).1

pub check_given-requires-2-clause-right_fine : goal.check_given-requires-2-clause-right_fine
check_given-requires-2-clause-right_fine c =
    let t = c.args.t.now in
    let fs = claims_in t (told c.args.facts.now) in
    let a = numeric_by t c.args.skip.actual c.look_at-2.ensures c.requires.actual in
    let w = numeric_by t c.args.skip.worst_case c.look_at-3.ensures c.requires.worst_case in
    let p = all_handed B8 fs ((all_of W32, numeric (node_number t c.args.skip.actual)) ∷ (all_of W32, numeric (node_number t c.args.skip.worst_case)) ∷ []) in
    let fine : p ≡ None = is-fine p (rw (two-handed t fs W32 (number_type c.all_of.result) c.all_of.ensures c.args.skip.actual c.args.skip.worst_case a w) at (sym c.check_two.ensures ∙ c.in_ok-check_two.was)) in
    (two-fine fs (all_of W32) (node_number t c.args.skip.actual) (node_number t c.args.skip.worst_case) fine).1
