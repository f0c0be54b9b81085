use Rattle.std.proofs.Common.{List, [], arith, map, false, Option, Some, None, ◌≡◌, refl}
use Rattle.std.specs.Prelude.{is_some}
use Rattle.std.proofs.lemmas.List.{length-map}
use Rattle.wf_ast.specs.TypedTrees.{tree_of}
use Rattle.wf_ast.specs.TypedPackage.{variable_of}
use Rattle.wf_ast.specs.Value.{Value}
use Rattle.wf_mean_stmts.proofs.ArgumentLemmas.{too_many_or_few}
use Rattle.wf_mean_stmts.specs.Arguments.{Fills}
use Rattle.std.proofs.Common.{◌+◌, ℕ, drop, subst, suc}
use Rattle.wf_meaning.specs.SourceStep.{values_of}
use Rattle.wf_mean_stmts.specs.Stages.{sight_on}
use Rattle.wf_mean_runs.proofs.ArgumentLaws.{none_more, some_more}
use Rattle.wf_mean_runs.proofs.answering.have_values.Goals as goal

none_filled : (o : Option (List Value)) (slots : List Value) → Fills false o slots → false ≡ is_some o
none_filled None slots h = refl
none_filled (Some values) slots h = absurd h

pub returns-then-args-declared : goal.returns-then-args-declared
returns-then-args-declared c =
    let nodes = c.args.t.now in
    none_filled _ []
    (too_many_or_few _ (map (variable_of nodes) c.args.declared.now) (map (tree_of nodes) c.args.args.now) []
    (λ e. let f = c.if-args-declared.true in absurd (omega (arith, f, e, length-map c.args.declared.now (variable_of nodes), length-map c.args.args.now (tree_of nodes)))))

pub returns-then-not-lies_in : goal.returns-then-not-lies_in
returns-then-not-lies_in c =
    let nodes = c.args.t.now in
    let l = c.loop-i in
    none_more (sight_on nodes c.args.stage.now) nodes c.args.declared.now c.args.args.now l.i _ _ (omega (arith, c.loop-i-test.true, c.if-args-declared.false)) c.loop-i-test.true _ l.invariant _ c.if-not-lies_in.ensures c.value_on.ensures

pub loop-i-preserved : goal.loop-i-preserved
loop-i-preserved c =
    let nodes = c.args.t.now in
    let l = c.loop-i in
    let next : suc l.i ≡ l.i + 1 = omega arith in
    let P : ℕ → Type 0 = λ k. is_some (values_of (sight_on nodes c.args.stage.now) (map (variable_of nodes) c.args.declared.now) (map (tree_of nodes) c.args.args.now)) ≡ is_some (values_of (sight_on nodes c.args.stage.now) (map (variable_of nodes) (drop k c.args.declared.now)) (map (tree_of nodes) (drop k c.args.args.now))) in
    subst P next (some_more (sight_on nodes c.args.stage.now) nodes c.args.declared.now c.args.args.now l.i _ _ (omega (arith, c.loop-i-test.true, c.if-args-declared.false)) c.loop-i-test.true _ l.invariant _ c.if-not-lies_in.ensures c.value_on.ensures)
