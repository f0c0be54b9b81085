-- The text by hand is laid out.
use Rattle.std.proofs.Common.{◌≡◌, Bool, true, false, List, Option, Some, None, refl}
use Rattle.std.specs.Prelude.{if◌then◌else◌, nat_eq}
use Rattle.wf_num.specs.declared.c_arithmetic.CTy.TheVariants.{Int}
use Rattle.c_text.specs.declared.kinds.Otherwise.{Otherwise}
use Rattle.c_text.specs.CTree.{TypeTree}
use Rattle.c_meaning.specs.CValues.{converted}
use Rattle.c_meaning.specs.CTypes.{Function, CScope}
use Rattle.c_step_text.specs.Flat.{Has, Finish}
use Rattle.c_step_text.specs.Layout.{number_here, Laid}
use Rattle.c_step_text.specs.ByHand.{body_by_hand, all_of_one, text_by_hand, names_by_hand}

either_way : (b : Bool) → (if b then Some 2 else None) ≡ number_here b 2 None
either_way true = refl
either_way false = refl

pub laid_by_hand : (scope : CScope) (callable : List Function) (result_type : Option TypeTree) (otherwise : Otherwise)
    → Laid text_by_hand (names_by_hand scope callable result_type otherwise) 0 14 (body_by_hand otherwise) × Has text_by_hand 14 Finish
laid_by_hand scope callable result_type otherwise = (
  (
    refl,
    (
      record {
        arms = all_of_one;
        finds = λ n. either_way (nat_eq n.bits (converted n.ty (record { ty = Int; bits = 1 })).bits);
        of = record { span = all_of_one; code = refl; has = refl };
      },
      (refl, (refl, (refl, (refl, tt)))),
      (
        record { span = all_of_one; code = refl; has = refl },
        record { span = all_of_one; code = refl; has = refl },
        (record { span = all_of_one; code = refl; has = refl }, (refl, tt), (refl, tt), tt),
        (refl, tt),
      ),
    ),
  ),
  refl,
)
