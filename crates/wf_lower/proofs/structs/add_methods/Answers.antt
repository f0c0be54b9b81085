use Rattle.std.proofs.Common.{◌<◌, ◌≤◌, refl, arith, length, []}
use Rattle.wf_ast.specs.TypedPackage.{package_of}
use Rattle.c_text.proofs.Arena.{slice_get-some}
use Rattle.wf_exprs.proofs.Growing.{grows_on, unchanged}
use Rattle.wf_lower.specs.Unit.{methods_fields}
use Rattle.wf_lower.proofs.Kept.{fields_on, no_fields}
use Rattle.wf_lower.proofs.Known.{methods_same}
use Rattle.wf_lower.proofs.PartLaws.{method_alone, methods_cons}
use Rattle.wf_lower.proofs.Walks.{walk_at, walk_end}
use Rattle.wf_lower.proofs.structs.add_methods.Goals as goal

pub loop-n-init : goal.loop-n-init
loop-n-init c = record { grows = unchanged _ _ refl; added = []; adds = no_fields _ (unchanged _ _ refl); left = refl }

pub returns-in_err-add_method-clause-grows : goal.returns-in_err-add_method-clause-grows
returns-in_err-add_method-clause-grows c = grows_on c.loop-n.invariant.grows c.add_method.ensures.grows

pub loop-n-preserved : goal.loop-n-preserved
loop-n-preserved c =
    let nodes = c.args.p.now.t.now in
    let s = c.args.s.0 in
    let inv = c.loop-n.invariant in
    let same = methods_same nodes c.requires.typed in
    let there : c.loop-n.n < length (package_of nodes).methods = omega (arith, same, c.loop-n-test.true, c.methods-n-end.ensures) in
    let m = slice_get-some (package_of nodes).methods c.loop-n.n there in
    record {
      grows = grows_on inv.grows c.add_method.ensures.grows;
      added = _;
      adds = fields_on _ _ inv.adds (c.in_ok-add_method.ensures.made m.0 m.1);
      left = walk_at (λ n ms. methods_fields s ms) (λ n. refl) (λ n x xs. methods_cons s n x xs) inv.added _ _ c.loop-n.n c.loop-n.n (package_of nodes).methods m.0 m.1 (method_alone s m.0) inv.left;
    }

pub returns-clause-made : goal.returns-clause-made
returns-clause-made c =
    let nodes = c.args.p.now.t.now in
    let s = c.args.s.0 in
    let inv = c.loop-n.invariant in
    let same = methods_same nodes c.requires.typed in
    let past : length (package_of nodes).methods ≤ c.loop-n.n = omega (arith, same, c.loop-n-test.false, c.methods-n-end.ensures) in
    let whole = walk_end (λ n ms. methods_fields s ms) (λ n. refl) (λ n x xs. methods_cons s n x xs) inv.added _ c.loop-n.n c.loop-n.n (package_of nodes).methods past inv.left in
    rw (← whole) inv.adds
