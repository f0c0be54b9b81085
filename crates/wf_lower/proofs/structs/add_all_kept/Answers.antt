use Rattle.std.proofs.Common.{◌∙◌, refl, arith, [], map}
use Rattle.wf_ast.specs.TypedPackage.{variable_of}
use Rattle.wf_exprs.proofs.Growing.{grows_on, unchanged}
use Rattle.wf_exprs.proofs.Prefixes.{list_all-at}
use Rattle.wf_exprs.specs.Scopes.{is_named}
use Rattle.wf_lower_stmts.proofs.SavedLaws.{kept_known}
use Rattle.wf_lower.proofs.Kept.{fields_on, no_fields}
use Rattle.wf_lower.proofs.PartLaws.{kept_cons, kept_walk}
use Rattle.wf_lower.proofs.SavedFields.{all_listed, one_listed}
use Rattle.wf_lower.proofs.Walks.{walk_end, walk_on}
use Rattle.wf_lower.proofs.structs.add_all_kept.Goals as goal

pub loop-i-init : goal.loop-i-init
loop-i-init c = record { grows = unchanged _ _ refl; added = []; adds = no_fields _ (unchanged _ _ refl); left = refl }

pub local_at-requires : goal.local_at-requires
local_at-requires c = kept_known c.args.t.now c.args.locals.now c.args.saved.now c.requires.saved c.loop-i.i _ c.loop-i-test.true

pub add_kept-requires-clause-named : goal.add_kept-requires-clause-named
add_kept-requires-clause-named c = list_all-at (is_named c.args.t.now) c.args.locals.now _ c.local_at.result c.requires.named c.local_at.ensures

pub returns-in_err-add_kept-clause-grows : goal.returns-in_err-add_kept-clause-grows
returns-in_err-add_kept-clause-grows c = grows_on c.loop-i.invariant.grows c.add_kept.ensures.grows

pub loop-i-preserved : goal.loop-i-preserved
loop-i-preserved c =
    let nodes = c.args.t.now in
    let inv = c.loop-i.invariant in
    record {
      grows = grows_on inv.grows c.add_kept.ensures.grows;
      added = _;
      adds = fields_on _ _ inv.adds c.in_ok-add_kept.ensures.made;
      left = walk_on (kept_walk c.args.method.now nodes c.args.locals.now) (λ n. refl) (kept_cons c.args.method.now nodes c.args.locals.now) inv.added _ _ c.loop-i.i c.loop-i.i c.args.saved.now _ c.loop-i-test.true
          (one_listed c.args.method.now nodes c.args.locals.now _ c.local_at.result c.local_at.ensures) inv.left;
    }

pub returns-clause-made : goal.returns-clause-made
returns-clause-made c =
    let nodes = c.args.t.now in
    let inv = c.loop-i.invariant in
    let whole = walk_end (kept_walk c.args.method.now nodes c.args.locals.now) (λ n. refl) (kept_cons c.args.method.now nodes c.args.locals.now) inv.added _ c.loop-i.i c.loop-i.i c.args.saved.now (omega (arith, c.loop-i-test.false)) inv.left in
    let all = whole ∙ all_listed c.args.method.now (map (variable_of nodes) c.args.locals.now) c.args.saved.now c.requires.saved in
    rw (← all) inv.adds
