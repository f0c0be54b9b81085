use Rattle.std.proofs.Common.{List, ap, sym, ◌∙◌, arith}
use Rattle.std.specs.Prelude.{slice_get}
use Rattle.c_meaning.specs.declared.values.CValue.{CValue}
use Rattle.c_step.proofs.KnownLaws.{as_many_pointers}
use Rattle.c_step.proofs.known.Known.pointer.Goals as goal

pub pointer_at-requires : goal.pointer_at-requires
pointer_at-requires c = let e = as_many_pointers c.args.self.now c.requires.known in omega (arith, e, c.requires.exists)

pub returns : goal.returns
returns c = ap (λ (xs : List CValue). slice_get xs c.args.receiver) (sym c.requires.known.pointers) ∙ c.pointer_at.ensures
