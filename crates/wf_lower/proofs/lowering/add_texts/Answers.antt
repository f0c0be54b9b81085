use Rattle.std.proofs.Common.{◌<◌, ◌≤◌, [], ◌∷◌, length, refl, arith}
use Rattle.c_text.proofs.Arena.{slice_get-some}
use Rattle.wf_lower.specs.Unit.{used_texts}
use Rattle.wf_lower.proofs.Kept.{keeps_by}
use Rattle.wf_lower.proofs.PartLaws.{texts_cons}
use Rattle.wf_lower.proofs.Texts.{by_list, by_on, by_same, still_read}
use Rattle.wf_lower.proofs.Walks.{walk_at, walk_end}
use Rattle.wf_lower.proofs.lowering.add_texts.Goals as goal

pub loop-n-init : goal.loop-n-init
loop-n-init c = λ functions are. record { added = []; grows = by_same _; left = refl }

pub loop-n-preserved : goal.loop-n-preserved
loop-n-preserved c = λ functions are.
    let texts = c.args.p.now.t.now.statuses in
    let n = c.loop-n.n in
    let inv = c.loop-n.invariant functions are in
    let there : n < length texts = omega (arith, c.loop-n-test.true, c.statuses-n-end.ensures) in
    let found = slice_get-some texts n there in
    record {
      added = _;
      grows = by_on inv.added (used_texts functions n (found.0 ∷ [])) inv.grows (c.in_ok-add_text.ensures functions (still_read functions (keeps_by inv.grows) are) found.0 found.1);
      left = walk_at (used_texts functions) (λ m. refl) (texts_cons functions) inv.added _ _ n n texts found.0 found.1 refl inv.left;
    }

pub returns : goal.returns
returns c = λ functions are.
    let texts = c.args.p.now.t.now.statuses in
    let n = c.loop-n.n in
    let inv = c.loop-n.invariant functions are in
    let past : length texts ≤ n = omega (arith, c.loop-n-test.false, c.statuses-n-end.ensures) in
    by_list (walk_end (used_texts functions) (λ m. refl) (texts_cons functions) inv.added _ n n texts past inv.left) inv.grows
