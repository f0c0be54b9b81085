use Rattle.std.specs.Ordering.{nat_cmp}
use Rattle.std.specs.BTreeMap.{get_by}
use Rattle.std.specs.Cmp.Lexicographic.{slice_cmp}
use Rattle.interner.proofs.FoundLemmas.{distinct_texts}
use Rattle.interner.proofs.places.Places.widen.Goals as goal

pub of-requires-clause-distinct : goal.of-requires-clause-distinct
of-requires-clause-distinct c = distinct_texts c.args.self.now.slots.items (λ text. get_by (λ key. slice_cmp nat_cmp text key.items) c.args.self.now.others) c.args.texts.now c.requires.finds
