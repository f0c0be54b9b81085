use Rattle.std.proofs.Common.{◌-◌, ◌≡◌, ℕ, arith, drop, refl, subst}
use Rattle.c_text.specs.CNodes.{code_of}
use Rattle.wf_exprs.specs.Grown.{HasCode}
use Rattle.wf_exprs.proofs.Growing.{grows_on, unchanged}
use Rattle.wf_lower_stmts.proofs.HereLaws.{code_here}
use Rattle.wf_lower.specs.Bodies.{touched}
use Rattle.wf_lower.specs.Methods.{names_in}
use Rattle.wf_lower.proofs.LocalLaws.{still_reads}
use Rattle.wf_lower.proofs.BodyLaws.{names_count, touched_none, touched_step}
use Rattle.wf_lower.proofs.bodies.touch_all.Goals as goal

pub loop-left-init : goal.loop-left-init
loop-left-init c =
    let u = c.args.u.now in
    let all = names_in u c.args.params.now c.args.locals.now in
    let own = code_of u c.args.code.0 in
    let same = names_count u c.args.params.now c.args.locals.now in
    record {
      within = omega arith;
      grows = unchanged _ _ refl;
      made = code_here _ _ c.args.code.0 c.requires.code (touched_none own own _ all (omega (arith, same)));
    }

pub touch-requires-clause-name : goal.touch-requires-clause-name
touch-requires-clause-name c = c.loop-left.invariant.grows.more_names _ (c.name_at.ensures.there c.args.u.now c.requires.params c.requires.locals)

pub loop-left-preserved : goal.loop-left-preserved
loop-left-preserved c =
    let u = c.args.u.now in
    let inv = c.loop-left.invariant in
    let own = code_of u c.args.code.0 in
    record {
      within = omega (arith, inv.within);
      grows = grows_on inv.grows c.touch.ensures.grows;
      made = touched_step own own (names_in u c.args.params.now c.args.locals.now) c.loop-left.left (c.loop-left.left - 1) _ _ own
          (omega (arith, c.loop-left-test.true)) (c.name_at.ensures.is u)
          (inv.grows.names _ (c.name_at.ensures.there u c.requires.params c.requires.locals)) refl
          inv.made (c.in_ok-front.ensures.made own (still_reads own inv.grows c.requires.read));
    }

pub returns-clause-made : goal.returns-clause-made
returns-clause-made c =
    let u = c.args.u.now in
    let none : c.loop-left.left ≡ 0 = omega (arith, c.loop-left-test.false) in
    let P : ℕ → Type 0 = λ n. HasCode c.loop-left.u c.loop-left.front.0 (touched (drop n (names_in u c.args.params.now c.args.locals.now)) (code_of u c.args.code.0) (code_of u c.args.code.0)) in
    subst P none c.loop-left.invariant.made
