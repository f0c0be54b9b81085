use Rattle.std.proofs.Common.{refl}
use Rattle.c_text.specs.CSpelling.{is_reserved}
use Rattle.c_read_tests.proofs.print_tests.small.Goals as goal

pub add_name-requires : goal.add_name-requires
unfolding is_reserved
add_name-requires c = refl
