use Rattle.std.proofs.Common.{◌-◌, ℕ, arith, drop, subst, ◌≡◌}
use Rattle.std.proofs.lemmas.List.{length-map}
use Rattle.wf_ast.specs.TypedPackage.{variable_of}
use Rattle.c_text.specs.CNodes.{code_of}
use Rattle.wf_exprs.specs.Grown.{HasCode}
use Rattle.wf_exprs.proofs.Growing.{grows_on}
use Rattle.wf_lower_stmts.specs.BodyNodes.{form_in, picks, places_code}
use Rattle.wf_lower_stmts.proofs.FrontLaws.{places_step}
use Rattle.wf_lower_stmts.proofs.places.move_places.Goals as goal

pub loop-left-preserved : goal.loop-left-preserved
loop-left-preserved c =
    let b = c.args.b.now in
    let same = length-map b.method.args (variable_of b.nodes) in
    record {
      within = omega (arith, c.loop-left.invariant.within);
      grows = grows_on c.loop-left.invariant.grows c.move_at.ensures.grows;
      made = places_step (form_in b).names (picks b.nodes c.args.picked) (code_of c.args.u.now c.args.rest.0) c.args.way (form_in b).method.args c.loop-left.left (c.loop-left.left - 1) (omega (arith, c.loop-left-test.true)) (omega (arith, same, c.loop-left.invariant.within)) c.loop-left.invariant.made c.in_ok-code.ensures.made;
    }

pub returns-clause-made : goal.returns-clause-made
returns-clause-made c =
    let b = c.args.b.now in
    let none : c.loop-left.left ≡ 0 = omega (arith, c.loop-left-test.false) in
    let P : ℕ → Type 0 = λ n. HasCode c.loop-left.u c.loop-left.code.0 (places_code c.args.way (form_in b).names (picks b.nodes c.args.picked) n (drop n (form_in b).method.args) (code_of c.args.u.now c.args.rest.0)) in
    subst P none c.loop-left.invariant.made
