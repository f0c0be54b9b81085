use Rattle.std.proofs.Common.{subst}
use Rattle.std.specs.Ordering.{nat_cmp}
use Rattle.std.specs.BTreeMap.{get_by}
use Rattle.std.specs.Cmp.Lexicographic.{slice_cmp}
use Rattle.interner.specs.Interning.{AreDistinct}
use Rattle.interner.proofs.FoundLemmas.{distinct_texts}
use Rattle.interner.proofs.table.Interner.len.Goals as goal

-- Texts that are looked up by their bytes are without repeats.
pub returns-clause-unique : goal.returns-clause-unique
returns-clause-unique c =
    subst AreDistinct c.self.view_is (distinct_texts c.self.inside.places.slots.items (λ text. get_by (λ key. slice_cmp nat_cmp text key.items) c.self.inside.places.others) c.self.inside.texts c.self.invariant)
