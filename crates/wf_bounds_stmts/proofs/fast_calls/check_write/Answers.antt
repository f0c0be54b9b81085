use Rattle.std.proofs.Common.{◌≡◌, [], ◌∷◌, None, ap, sym, ◌∙◌}
use Rattle.std.proofs.lemmas.Result.{err_from_is_err_and}
use Rattle.wf_facts_exprs.specs.Knowledge.{told}
use Rattle.wf_text.specs.declared.rules.Rule.TheVariants.{B8, B9}
use Rattle.wf_base.specs.declared.widths.Width.TheVariants.{W8}
use Rattle.wf_ast.specs.TypedTree.{asked, at_least, number, numeric, write_fast, writer_length}
use Rattle.wf_ast.specs.TypedTrees.{io_in, tree_of}
use Rattle.wf_ast.specs.NodeKinds.{node_number}
use Rattle.wf_facts_exprs.specs.Claims.{claims_in, single}
use Rattle.wf_facts_exprs.specs.Demands.{demand, unless_refused}
use Rattle.wf_facts_exprs.specs.Given.{gives_sides}
use Rattle.wf_bounds_stmts.specs.Requirements.{all_handed, number_type}
use Rattle.wf_bounds_stmts.specs.Calls.{all_of, premise_refusal}
use Rattle.wf_bounds_stmts.proofs.OutcomeLemmas.{is-fine}
use Rattle.wf_bounds_stmts.proofs.FastLemmas.{numeric_by, one-handed, writer-given, first-stops, second-decides}
use Rattle.wf_bounds_stmts.proofs.fast_calls.check_write.Goals as goal

pub returns-in_err-check_one : goal.returns-in_err-check_one
returns-in_err-check_one c =
    let r = err_from_is_err_and c.from_residual.result c.from_residual.ensures.1 in
    let t = c.args.t.now in
    let fs = claims_in t (told c.args.facts.now) in
    let a = numeric_by t c.args.byte c.look_at-2.ensures c.requires.byte in
    let call = write_fast (io_in (tree_of t c.args.on)) (node_number t c.args.byte) in
    rw (r.1, r.2) (first-stops _ (premise_refusal fs c.args.at call) c.in_err-check_one.field-0.0
    (rw (one-handed t fs W8 (number_type c.all_of.result) c.all_of.ensures c.args.byte a) at (sym c.check_one.ensures ∙ c.in_err-check_one.was)))

pub returns : goal.returns
returns c =
    let t = c.args.t.now in
    let fs = claims_in t (told c.args.facts.now) in
    let a = numeric_by t c.args.byte c.look_at-2.ensures c.requires.byte in
    let p = all_handed B8 fs ((all_of W8, numeric (node_number t c.args.byte)) ∷ []) in
    let d = demand (gives_sides fs (single (asked c.args.at writer_length (io_in (tree_of t c.args.on)))) at_least (single (number c.args.at 1))) B9 c.args.at in
    let fine : p ≡ None = is-fine p (rw (one-handed t fs W8 (number_type c.all_of.result) c.all_of.ensures c.args.byte a) at (sym c.check_one.ensures ∙ c.in_ok-check_one.was)) in
    let length = writer-given fs t c.args.on c.args.at 1 c.requires.on c.look_at.ensures in
    second-decides p d c.check_given.result fine (c.check_given.ensures ∙ ap (λ b. unless_refused (demand b B9 c.args.at) tt) length)
