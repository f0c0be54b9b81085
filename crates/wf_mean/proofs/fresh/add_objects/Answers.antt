use Rattle.std.proofs.Common.{◌∙◌, ◌++◌, ◌∷◌, [], List, ℕ, ap, arith}
use Rattle.wf_ast.specs.TypedPackage.{package_of}
use Rattle.wf_mean.proofs.SizeLaws.{all-made, fewer-left, first-put, none-there, one-made}
use Rattle.wf_mean.proofs.fresh.add_objects.Goals as goal

pub loop-s-init : goal.loop-s-init
loop-s-init c = record {
  so_far = first-put (package_of c.args.t.now) c.args.s c.push.new.self.items c.args.objects.now.items (c.in_ok-push.ensures.items ∙ ap (λ (ss : List ℕ). ss ++ c.args.s ∷ []) c.new-left.ensures.items);
  kept = c.requires.kept;
}

pub loop-s-smaller : goal.loop-s-smaller
loop-s-smaller c =
    fewer-left (package_of c.args.t.now) c.args.sizes.now c.requires.typed.rules c.requires.sizes c.in-Some.s c.loop-s.left.items c.pop.new.self.items c.add_object.new.left.items c.loop-s.objects.items c.add_object.new.objects.items
    c.in-Some.ensures.items c.in_ok-add_object.ensures.left c.in_ok-add_object.ensures.added

pub loop-s-preserved : goal.loop-s-preserved
loop-s-preserved c = record {
  so_far = one-made (package_of c.args.t.now) c.args.sizes.now c.requires.typed.rules c.requires.sizes c.in-Some.s c.loop-s.left.items c.pop.new.self.items c.add_object.new.left.items c.loop-s.objects.items c.add_object.new.objects.items
      c.in-Some.ensures.items c.in_ok-add_object.ensures.left c.in_ok-add_object.ensures.added _ c.loop-s.invariant.so_far;
  kept = c.in_ok-add_object.ensures.kept;
}

pub returns-clause-added : goal.returns-clause-added
returns-clause-added c = all-made (package_of c.args.t.now) c.loop-s.left.items c.loop-s.objects.items _ (none-there c.loop-s.left.items (omega (arith, c.in_default.ensures.cases.0, c.loop-s.left.ok))) c.loop-s.invariant.so_far
