use Rattle.std.proofs.Common.{◌++◌, ◌∙◌, ap, map, subst}
use Rattle.c_text.specs.CNodes.{code_of, expr_of, local_tree}
use Rattle.c_text.specs.CTree.{Code}
use Rattle.wf_exprs.proofs.Growing.{grows_on}
use Rattle.wf_exprs_nodes.proofs.ItemLaws.{code_kept, params_kept}
use Rattle.wf_lower_stmts.specs.BodyNodes.{form_in}
use Rattle.wf_lower.specs.Bodies.{fixed_locals}
use Rattle.wf_lower.specs.Made.{HasLocalTrees}
use Rattle.wf_lower.specs.Methods.{read_locals}
use Rattle.wf_lower.proofs.BodyLaws.{touched_all}
use Rattle.wf_lower.proofs.KeptLaws.{kept_locals, params_stay}
use Rattle.wf_lower.proofs.LocalLaws.{still_reads}
use Rattle.wf_lower.proofs.SharedLaws.{kept_names}
use Rattle.wf_lower.proofs.bodies.touched.Goals as goal

pub read_code-requires : goal.read_code-requires
read_code-requires c = c.fixed_locals.ensures.grows.more_stmts c.args.code.0 c.requires.code

pub touch_all-requires-clause-params : goal.touch_all-requires-clause-params
touch_all-requires-clause-params c = params_stay _ c.fixed_locals.ensures.grows c.requires.params

pub returns-in_err-add_further-clause-grows : goal.returns-in_err-add_further-clause-grows
returns-in_err-add_further-clause-grows c = grows_on (grows_on c.fixed_locals.ensures.grows c.touch_all.ensures.grows) c.add_further.ensures.grows

pub returns-clause-grows : goal.returns-clause-grows
returns-clause-grows c = grows_on (grows_on c.fixed_locals.ensures.grows c.touch_all.ensures.grows) c.add_further.ensures.grows

pub returns-clause-locals : goal.returns-clause-locals
returns-clause-locals c =
    let f = form_in c.args.b.now in
    let touched = c.touch_all.ensures.grows in
    let has = kept_locals _ _ touched c.in_ok-locals.ensures.made in
    let first = c.fixed_locals.new.u in
    let own = code_of first c.args.code.0 in
    let made = c.in_ok-add_further.ensures.made own (still_reads own touched c.in_ok-read_code.ensures) (fixed_locals f) has in
    let same = c.fixed_locals.ensures.grows.stmts c.args.code.0 c.requires.code in
    let P : Code → Type 0 = λ code. HasLocalTrees c.add_further.new.u c.add_further.new.locals (fixed_locals f ++ read_locals f code) in
    subst P same made

pub returns-clause-code : goal.returns-clause-code
returns-clause-code c =
    let first = c.fixed_locals.new.u in
    let made = code_kept _ _ c.add_further.ensures.grows c.in_ok-whole.ensures.made in
    let locals = ap (map (local_tree first.names (expr_of first))) c.as_slice.ensures ∙ c.in_ok-locals.ensures.made.are in
    record {
      there = made.there;
      is = made.is ∙ touched_all (params_kept _ _ c.fixed_locals.ensures.grows c.args.params.now c.requires.params) locals (c.fixed_locals.ensures.grows.stmts c.args.code.0 c.requires.code);
    }

pub add_further-requires : goal.add_further-requires
add_further-requires c = kept_names _ (grows_on c.fixed_locals.ensures.grows c.touch_all.ensures.grows) c.requires.names

pub returns-in_err-whole-clause-grows : goal.returns-in_err-whole-clause-grows
returns-in_err-whole-clause-grows c = grows_on c.fixed_locals.ensures.grows c.touch_all.ensures.grows
