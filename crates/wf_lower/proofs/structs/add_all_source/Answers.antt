use Rattle.std.proofs.Common.{refl, arith, [], map}
use Rattle.wf_ast.specs.declared.declarations.Var.{Var}
use Rattle.wf_ast.specs.TypedPackage.{package_of, variable_of}
use Rattle.wf_ast.specs.WellTyped.{may_be_field}
use Rattle.wf_exprs.proofs.Growing.{grows_on, unchanged}
use Rattle.wf_exprs.specs.Scopes.{is_named}
use Rattle.wf_lower.specs.Unit.{source_fields}
use Rattle.wf_lower.proofs.Kept.{fields_on, no_fields}
use Rattle.wf_lower.proofs.Walks.{all_here, walk_end, walk_on}
use Rattle.wf_lower.proofs.structs.add_all_source.Goals as goal

pub loop-i-init : goal.loop-i-init
loop-i-init c = record { grows = unchanged _ _ refl; added = []; adds = no_fields _ (unchanged _ _ refl); left = refl }

pub add_source-requires-clause-named : goal.add_source-requires-clause-named
add_source-requires-clause-named c = all_here (is_named c.args.t.now) c.args.declared.now c.loop-i.i _ c.loop-i-test.true c.requires.named

pub add_source-requires-clause-held : goal.add_source-requires-clause-held
add_source-requires-clause-held c = all_here (λ (x : Var). may_be_field (package_of c.args.t.now) x.ty) c.args.declared.now c.loop-i.i _ c.loop-i-test.true c.requires.held

pub returns-in_err-add_source-clause-grows : goal.returns-in_err-add_source-clause-grows
returns-in_err-add_source-clause-grows c = grows_on c.loop-i.invariant.grows c.add_source.ensures.grows

pub loop-i-preserved : goal.loop-i-preserved
loop-i-preserved c =
    let nodes = c.args.t.now in
    let inv = c.loop-i.invariant in
    record {
      grows = grows_on inv.grows c.add_source.ensures.grows;
      added = _;
      adds = fields_on _ _ inv.adds c.in_ok-add_source.ensures.made;
      left = walk_on (λ n xs. source_fields (package_of nodes) (map (variable_of nodes) xs)) (λ n. refl) (λ n x xs. refl) inv.added _ _ c.loop-i.i c.loop-i.i c.args.declared.now _ c.loop-i-test.true refl inv.left;
    }

pub returns-clause-made : goal.returns-clause-made
returns-clause-made c =
    let nodes = c.args.t.now in
    let inv = c.loop-i.invariant in
    let whole = walk_end (λ n xs. source_fields (package_of nodes) (map (variable_of nodes) xs)) (λ n. refl) (λ n x xs. refl) inv.added _ c.loop-i.i c.loop-i.i c.args.declared.now (omega (arith, c.loop-i-test.false)) inv.left in
    rw (← whole) inv.adds
