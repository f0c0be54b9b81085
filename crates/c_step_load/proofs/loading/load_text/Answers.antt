use Rattle.std.proofs.Common.{◌≡◌, ◌+◌, ◌++◌, ℕ, length, IfOk, OnOk, refl, ap, ◌∙◌, subst}
use Rattle.c_meaning.specs.CCall.{scope_in}
use Rattle.c_form_exprs.specs.Front.{Front}
use Rattle.c_step_text.specs.Emitted.{exprs_of}
use Rattle.c_step_program.specs.Programs.{initial_exprs, initials_of}
use Rattle.c_step_load.specs.Loading.{nodes_in, program_in, names_by, with_body}
use Rattle.c_step_load.proofs.ScopeLemmas.{fits, tells, by_parts, as_many_params}
use Rattle.c_step_load.proofs.loading.load_text.Goals as goal

pub put_function-requires-clause-fits : goal.put_function-requires-clause-fits
put_function-requires-clause-fits c = fits c.args.known.now c.requires.known _ c.in_ok-scope.ensures.front refl refl refl

pub returns-clause-text : goal.returns-clause-text
returns-clause-text c = λ f others callable it count.
    let nodes = nodes_in c.args.known.now in
    let same = ap (λ (g : Front). g.nodes) (c.in_ok-scope.ensures.front ∙ c.requires.known.front) in
    by_parts (λ body locals. OnOk c.put_function.result (c.put_function.new.work.text ≡ with_body (names_by nodes f callable c.args.at.number) c.args.work.now.text c.args.at.number c.args.at.next body (initial_exprs (scope_in (program_in nodes) f) locals)))
    c.in_ok-scope.scope.front.nodes nodes c.args.parts f same it.is
    (c.put_function.ensures.text (names_by nodes f callable c.args.at.number) (tells c.args.known.now c.requires.known _ c.args.parts f others callable c.args.at.number c.in_ok-scope.ensures.front c.in_ok-scope.ensures.names count refl c.in_ok-labels.ensures it))

pub returns-clause-initials : goal.returns-clause-initials
returns-clause-initials c = λ f others callable it count.
    let nodes = nodes_in c.args.known.now in
    let same = ap (λ (g : Front). g.nodes) (c.in_ok-scope.ensures.front ∙ c.requires.known.front) in
    subst (λ (n : ℕ). OnOk c.put_function.result (c.put_function.new.initials.items ≡ c.args.initials.now.items ++ initials_of (scope_in (program_in nodes) f) n (length c.args.work.now.text.exprs + length (exprs_of (names_by nodes f callable c.args.at.number) f.body)) f.locals)) (as_many_params nodes c.args.parts f it.is)
    (by_parts (λ body locals. OnOk c.put_function.result (c.put_function.new.initials.items ≡ c.args.initials.now.items ++ initials_of (scope_in (program_in nodes) f) (length c.args.parts.params.now) (length c.args.work.now.text.exprs + length (exprs_of (names_by nodes f callable c.args.at.number) body)) locals))
    c.in_ok-scope.scope.front.nodes nodes c.args.parts f same it.is
    (c.put_function.ensures.initials (names_by nodes f callable c.args.at.number) (tells c.args.known.now c.requires.known _ c.args.parts f others callable c.args.at.number c.in_ok-scope.ensures.front c.in_ok-scope.ensures.names count refl c.in_ok-labels.ensures it)))

pub returns-clause-end : goal.returns-clause-end
returns-clause-end c = λ f others callable it count.
    let nodes = nodes_in c.args.known.now in
    let same = ap (λ (g : Front). g.nodes) (c.in_ok-scope.ensures.front ∙ c.requires.known.front) in
    by_parts (λ body locals. IfOk c.put_function.result (λ end. end ≡ length c.args.work.now.text.exprs + length (exprs_of (names_by nodes f callable c.args.at.number) body)))
    c.in_ok-scope.scope.front.nodes nodes c.args.parts f same it.is
    (c.put_function.ensures.end (names_by nodes f callable c.args.at.number) (tells c.args.known.now c.requires.known _ c.args.parts f others callable c.args.at.number c.in_ok-scope.ensures.front c.in_ok-scope.ensures.names count refl c.in_ok-labels.ensures it))
