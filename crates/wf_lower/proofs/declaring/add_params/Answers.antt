use Rattle.std.proofs.Common.{ap, codes, refl, ◌++◌, ◌∷◌, []}
use Rattle.c_text.specs.CTree.{uint, uint_pointer, size}
use Rattle.wf_exprs.proofs.Growing.{unchanged}
use Rattle.wf_exprs.proofs.Prefixes.{a_name}
use Rattle.wf_lower.proofs.Kept.{param_made, params_after}
use Rattle.wf_lower.proofs.declaring.add_params.Goals as goal

pub add_param-requires-clause-name : goal.add_param-requires-clause-name
add_param-requires-clause-name c = a_name c.args.name.now c.requires

pub returns-in-Num-clause-made : goal.returns-in-Num-clause-made
returns-in-Num-clause-made c = rw c.in-Num.is (params_after _ _ _ _ _ _ _ c.add_param.result (unchanged _ _ refl) (ap (λ w. param_made (uint w) (codes "a_" ++ c.args.name.now) ∷ []) c.uint_of.ensures) c.add_param.ensures.made)

pub returns-in-Reader-clause-made : goal.returns-in-Reader-clause-made
returns-in-Reader-clause-made c = rw c.in-Reader.is c.add_buffer.ensures.made

pub returns-in-Writer-clause-made : goal.returns-in-Writer-clause-made
returns-in-Writer-clause-made c = rw c.in-Writer.is c.add_buffer-in-Writer.ensures.made

pub returns-in-Slice-clause-made : goal.returns-in-Slice-clause-made
returns-in-Slice-clause-made c =
    let name = c.args.name.now in
    rw c.in-Slice.is (params_after _ _ _ _ _ _ _ c.add_slice.result (unchanged _ _ refl) (ap (λ w. param_made (uint_pointer w) (codes "ap_" ++ name) ∷ param_made size (codes "al_" ++ name) ∷ []) c.uint_of-in-Slice.ensures) c.add_slice.ensures.made)

pub add_param-requires-in-Flag-clause-name : goal.add_param-requires-in-Flag-clause-name
add_param-requires-in-Flag-clause-name c = a_name c.args.name.now c.requires

pub returns-in-Flag-clause-made : goal.returns-in-Flag-clause-made
returns-in-Flag-clause-made c = rw c.in-Flag.is c.add_param-in-Flag.ensures.made

pub add_param-requires-in-Status-clause-name : goal.add_param-requires-in-Status-clause-name
add_param-requires-in-Status-clause-name c = a_name c.args.name.now c.requires

pub returns-in-Status-clause-made : goal.returns-in-Status-clause-made
returns-in-Status-clause-made c = rw c.in-Status.is c.add_param-in-Status.ensures.made

pub add_param-requires-in-Array-clause-name : goal.add_param-requires-in-Array-clause-name
add_param-requires-in-Array-clause-name c = a_name c.args.name.now c.requires

pub returns-in-Array-clause-made : goal.returns-in-Array-clause-made
returns-in-Array-clause-made c = rw c.in-Array.is c.add_param-in-Array.ensures.made

pub add_param-requires-in-Part-clause-name : goal.add_param-requires-in-Part-clause-name
add_param-requires-in-Part-clause-name c = a_name c.args.name.now c.requires

pub returns-in-Part-clause-made : goal.returns-in-Part-clause-made
returns-in-Part-clause-made c = rw c.in-Part.is c.add_param-in-Part.ensures.made
