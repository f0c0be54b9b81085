use Rattle.std.proofs.Common.{◌≡◌, List, None, ap, sym, ◌∙◌, subst}
use Rattle.std.proofs.lemmas.Result.{err_from_is_err_and}
use Rattle.wf_text.specs.declared.rules.Rule.TheVariants.{B8}
use Rattle.wf_ast.specs.declared.things.Thing.TheVariants as things
use Rattle.wf_ast.specs.TypedTree.{skip_fast}
use Rattle.wf_ast.specs.TypedTrees.{io_in, optional_target, tree_of}
use Rattle.wf_ast.specs.NodeKinds.{node_number}
use Rattle.wf_facts_exprs.specs.Claims.{Claim, claims_in}
use Rattle.wf_facts_exprs.specs.Demands.{or_else}
use Rattle.wf_facts.specs.declared.changes.Change.TheVariants.{Shortened}
use Rattle.wf_facts.specs.FactLists.{changed}
use Rattle.wf_bounds_stmts.specs.Requirements.{all_handed}
use Rattle.wf_bounds_stmts.specs.Targets.{answer_refusal, unwritten}
use Rattle.wf_bounds_stmts.specs.Calls.{handed_to_written, left_by_written, premise_refusal}
use Rattle.wf_bounds_stmts.specs.Outcomes.{Settles}
use Rattle.wf_bounds_stmts.proofs.OutcomeLemmas.{is-fine, is-refused, or-again}
use Rattle.wf_bounds_stmts.proofs.FastLemmas.{answered-after, still-refused}
use Rattle.wf_bounds_stmts.proofs.fast_calls.skip_fast.Goals as goal

pub returns-in_err-check_skip-clause-settles : goal.returns-in_err-check_skip-clause-settles
returns-in_err-check_skip-clause-settles c =
    let r = err_from_is_err_and c.from_residual.result c.from_residual.ensures.1 in
    let t = c.args.t.now in
    let fs = claims_in t c.args.facts.now.list in
    let call = skip_fast (io_in (tree_of t c.args.skip.on)) (node_number t c.args.skip.actual) (node_number t c.args.skip.worst_case) in
    let p = all_handed B8 fs (handed_to_written call) in
    let q = premise_refusal fs c.args.at call in
    let d = answer_refusal (left_by_written call fs) c.args.at (optional_target (tree_of t) c.args.target) None in
    rw (r.1, r.2) (or-again p q d ∙ still-refused (or_else p q) d c.in_err-check_skip.field-0.0 (is-refused (or_else p q) c.in_err-check_skip.field-0.0 (rw c.as_known.ensures.list at (sym c.check_skip.ensures ∙ c.in_err-check_skip.was))))

pub returns-clause-settles : goal.returns-clause-settles
returns-clause-settles c =
    let t = c.args.t.now in
    let fs = claims_in t c.args.facts.now.list in
    let call = skip_fast (io_in (tree_of t c.args.skip.on)) (node_number t c.args.skip.actual) (node_number t c.args.skip.worst_case) in
    let target = optional_target (tree_of t) c.args.target in
    let p = all_handed B8 fs (handed_to_written call) in
    let q = premise_refusal fs c.args.at call in
    let fine : or_else p q ≡ None = is-fine (or_else p q) (rw c.as_known.ensures.list at (sym c.check_skip.ensures ∙ c.in_ok-check_skip.was)) in
    let list : claims_in t c.lower_length.new.self.list ≡ left_by_written call fs =
    c.lower_length.ensures.claims ∙ ap (λ n. changed (things.Arg (record { 0 = n })) (Shortened c.number.result) fs) c.io_of.ensures
    ∙ ap (λ k. changed (things.Arg (record { 0 = io_in (tree_of t c.args.skip.on) })) (Shortened k) fs) c.number.ensures in
    let P : List Claim → Type 0 = λ gs. Settles t (answer_refusal gs c.args.at target None) (unwritten target gs) c.take_answer.result c.take_answer.new.facts in
    answered-after t p q (answer_refusal (left_by_written call fs) c.args.at target None) (unwritten target (left_by_written call fs)) c.take_answer.result c.take_answer.new.facts fine
    (subst P list c.take_answer.ensures.settles)
