use Rattle.std.proofs.Common.{◌++◌, ◌∷◌, [], ap, codes, refl}
use Rattle.c_text.specs.CTree.{size, uint, uint_pointer}
use Rattle.wf_exprs.proofs.Growing.{unchanged}
use Rattle.wf_exprs.proofs.Prefixes.{v_name}
use Rattle.wf_exprs.specs.Words.{num}
use Rattle.wf_lower.specs.Bodies.{declared}
use Rattle.wf_lower.proofs.Kept.{locals_after, no_locals}
use Rattle.wf_lower.proofs.locals.add_typed.Goals as goal

pub add_zero-requires-clause-name : goal.add_zero-requires-clause-name
add_zero-requires-clause-name c = v_name c.args.name.now c.requires

pub add_zero-requires-in-Flag-clause-name : goal.add_zero-requires-in-Flag-clause-name
add_zero-requires-in-Flag-clause-name c = v_name c.args.name.now c.requires

pub add_zero-requires-in-Status-clause-name : goal.add_zero-requires-in-Status-clause-name
add_zero-requires-in-Status-clause-name c = v_name c.args.name.now c.requires

pub returns-in-Num-clause-made : goal.returns-in-Num-clause-made
returns-in-Num-clause-made c =
    rw c.in-Num.is (locals_after _ _ _ _ _ _ _ c.add_zero.result (unchanged _ _ refl) (ap (λ w. declared (uint w) (codes "v_" ++ c.args.name.now) (num 0) ∷ []) c.uint_of.ensures) c.add_zero.ensures.made)

pub returns-in-Flag-clause-made : goal.returns-in-Flag-clause-made
returns-in-Flag-clause-made c = rw c.in-Flag.is c.add_zero-in-Flag.ensures.made

pub returns-in-Status-clause-made : goal.returns-in-Status-clause-made
returns-in-Status-clause-made c = rw c.in-Status.is c.add_zero-in-Status.ensures.made

pub returns-in-Slice-clause-made : goal.returns-in-Slice-clause-made
returns-in-Slice-clause-made c =
    let name = c.args.name.now in
    rw c.in-Slice.is
    (locals_after _ _ _ _ _ _ _ c.add_slice.result (unchanged _ _ refl) (ap (λ w. declared (uint_pointer w) (codes "vp_" ++ name) (num 0) ∷ declared size (codes "vl_" ++ name) (num 0) ∷ []) c.uint_of-in-Slice.ensures) c.add_slice.ensures.made)

pub returns-in-Reader-clause-made : goal.returns-in-Reader-clause-made
returns-in-Reader-clause-made c = rw c.in-Reader.is (no_locals _ (unchanged _ _ refl))

pub returns-in-Writer-clause-made : goal.returns-in-Writer-clause-made
returns-in-Writer-clause-made c = rw c.in-Writer.is (no_locals _ (unchanged _ _ refl))

pub returns-in-Array-clause-made : goal.returns-in-Array-clause-made
returns-in-Array-clause-made c = rw c.in-Array.is (no_locals _ (unchanged _ _ refl))

pub returns-in-Part-clause-made : goal.returns-in-Part-clause-made
returns-in-Part-clause-made c = rw c.in-Part.is (no_locals _ (unchanged _ _ refl))
