use Rattle.std.proofs.Common.{◌+◌, ◌++◌, [], ◌∷◌, ℕ, List, length, refl, sym, ap, ◌∙◌}
use Rattle.c_meaning.specs.CTypes.{Function, returned}
use Rattle.c_meaning.specs.CStep.{code_weight}
use Rattle.c_step_run.specs.Coding.{is_static}
use Rattle.c_step_run.specs.declared.code.Func.{Func}
use Rattle.c_step_text.specs.Layout.{go}
use Rattle.c_step_load.specs.Loading.{nodes_in, inline_by}
use Rattle.c_step_load.proofs.CodeLemmas.{HasPut, both_ok, function_built}
use Rattle.c_step_load.proofs.loading.Build.load_function.Goals as goal

pub returns : goal.returns
returns c = λ f others callable v it count built.
    let nodes = nodes_in c.args.known.now in
    let many = c.functions_end-count.ensures ∙ (ap (λ (fs : List Func). length fs) built.functions ∙ count) in
    let body = ap (λ (g : Function). g.body) it.is in
    let has : HasPut nodes f callable v c.args.self.now.work.text c.load_text.new.work.text c.args.self.now.initials.items c.load_text.new.initials.items c.statements_end-start.result c.in_ok-next.next c.exprs_end-from.result c.initials_end-locals.result c.in_ok-to.to = record {
      text = built.text;
      initials = built.initials;
      at = c.statements_end-start.ensures;
      end = c.in_ok-next.ensures ∙ (ap (λ (n : ℕ). c.statements_end-start.result + n + 0) (c.weight.ensures ∙ ap code_weight (sym body)));
      exprs = c.exprs_end-from.ensures;
      fields = c.initials_end-locals.ensures;
      put = c.in_ok-to.ensures.text f others callable it many;
      put_initials = c.in_ok-to.ensures.initials f others callable it many;
      to_is = c.in_ok-to.ensures.end f others callable it many;
    } in
    both_ok c.add.result c.add.ensures.functions c.add.ensures.rank (λ functions rank.
    function_built nodes f callable v c.args.self.now.work.text c.load_text.new.work.text c.args.self.now.initials.items c.load_text.new.initials.items c.statements_end-start.result c.in_ok-next.next c.exprs_end-from.result c.initials_end-locals.result c.in_ok-to.to has
    c.args.self.now _ c.entry.result c.takes_turn.result c.inline.result built refl c.in_ok-to.ensures.left refl
    (c.entry.ensures ∙ ap (go c.statements_end-start.result c.in_ok-next.next) (sym body))
    (c.takes_turn.ensures ∙ ap (λ (g : Function). is_static g.linkage) (sym it.is))
    (c.inline.ensures ∙ ap (λ (g : Function). inline_by (record { from = c.exprs_end-from.result; to = c.in_ok-to.to }) (returned g.body) g.result_type) (sym it.is))
    (functions ∙ ap (λ (n : ℕ). c.args.self.now.functions.items ++ record { start = c.statements_end-start.result; entry = c.entry.result; turn = c.takes_turn.result; initials = record { from = c.initials_end-locals.result; to = n }; inline = c.inline.result; rank = c.args.self.now.rank } ∷ []) c.initials_end.ensures) rank)
